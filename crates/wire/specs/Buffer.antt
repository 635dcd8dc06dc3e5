-- Lent buffers: what a buffer holds after bytes were written into it.
use Rattle.std.specs.Prelude.{ℕ, ◌+◌, ◌-◌, Bool, true, false, ◌&&◌, List, [], ◌∷◌, ◌++◌, length, take, drop, ◌==◌}

-- the list d with s in place of its elements from index at on
unfoldable pub put : List ℕ → ℕ → List ℕ → List ℕ
put d at s = take at d ++ (s ++ drop (at + length s) d)

-- an answer buffer with the answer's bytes at its front; the bytes after the answer are as they were
unfoldable pub overlay : List ℕ → List ℕ → List ℕ
overlay bytes out = bytes ++ drop (length bytes) out

-- two lists of bytes are the same
unfoldable pub same : List ℕ → List ℕ → Bool
same [] [] = true
same [] (y ∷ ys) = false
same (x ∷ xs) [] = false
same (x ∷ xs) (y ∷ ys) = x == y && same xs ys

-- the elements of s from index a up to, not including, index e
abbrev pub part : List ℕ → ℕ → ℕ → List ℕ
part s a e = take (e - a) (drop a s)
