-- Equality of integers as a test, for sweeps. Assumes nothing.
use Rattle.std.proofs.Common.{◌≡◌, Bool, false, T, eqb, ℤ, pos, negsuc, ap, eqb→eq}

-- two integers are the same, as a test
abbrev pub same_z : ℤ → ℤ → Bool
same_z (pos a) (pos b) = eqb a b
same_z (pos a) (negsuc b) = false
same_z (negsuc a) (pos b) = false
same_z (negsuc a) (negsuc b) = eqb a b

pub same_z→eq : (a b : ℤ) → T (same_z a b) → a ≡ b
same_z→eq (pos a) (pos b) t = ap pos (eqb→eq a b t)
same_z→eq (pos a) (negsuc b) t = absurd t
same_z→eq (negsuc a) (pos b) t = absurd t
same_z→eq (negsuc a) (negsuc b) t = ap negsuc (eqb→eq a b t)
