-- Laws of specs/Text.antt: texts written one after another. Assumes nothing.
use Rattle.std.proofs.Common.{◌≡◌, ℕ, ◌+◌, ◌*◌, ◌/◌, ◌%◌, ◌<◌, ◌≤◌, Bool, true, false, List, [], ◌∷◌, ◌++◌, length, get_or, take, sym, refl, ap, ◌∙◌, subst, append_assoc, append-nil, add-zero, add-one, arith, length-append, take-append-drop}
use Rattle.std.proofs.Math.Seq.{take-suc}
use Rattle.std.specs.Int.{to_be_bytes, w32}
use Rattle.wire.specs.Buffer.{put}
use Rattle.wire.proofs.Buffers.{put_put}
use Rattle.wire.proofs.Cases.{cases}
use Rattle.figures.specs.Figure.{pair_of}
use Rattle.figures.specs.Decimal.{shortest}
use Rattle.figures.specs.Signed.{text_of}
use Rattle.lines.specs.Text.{Put, space, spaced, told, entry_of, eight, values}

-- a text and then another
pub put_then : {m n at r₁ r₂ : ℕ} {a b d d₁ d₂ : List ℕ} → at ≤ length d → Put m at a d r₁ d₁ → Put n r₁ b d₁ r₂ d₂ → Put (m + n) at (a ++ b) d r₂ d₂
put_then {at = at} {r₁ = r₁} {a = a} {b = b} {d = d} h f g =
    record {
      measured = rw length-append (omega (arith, f.measured, g.measured));
      short = omega (arith, f.short, g.short);
      written = g.written ∙ ap (λ (l : List ℕ). put l r₁ b) f.written ∙ ap (λ (k : ℕ). put (put d at a) k b) f.measured ∙ put_put d at a b h;
    }

-- room for more
pub put_within : {m n at r : ℕ} {a d d₁ : List ℕ} → m ≤ n → Put m at a d r d₁ → Put n at a d r d₁
put_within h f = record { measured = f.measured; short = omega (arith, f.short); written = f.written }

-- the same text by another name
pub put_as : {m at r : ℕ} {a b d d₁ : List ℕ} → a ≡ b → Put m at a d r d₁ → Put m at b d r d₁
put_as {m} {at} {r} {a} {b} {d} {d₁} e f = subst (λ (t : List ℕ). Put m at t d r d₁) e f

-- a text begun anew
pub put_anew : {m at r : ℕ} {a d d₀ d₁ : List ℕ} → at ≡ 0 → d ≡ d₀ → Put m at a d r d₁ → Put m 0 a d₀ r d₁
put_anew {m} {at} {r} {a} {d} {d₀} {d₁} e k f = subst (λ (x : List ℕ). Put m 0 a x r d₁) k (subst (λ (n : ℕ). Put m n a d r d₁) e f)

-- nothing yet
pub put_none : (d : List ℕ) (at : ℕ) → Put 0 at [] d at d
unfolding put
put_none d at = record { measured = omega arith; short = omega arith; written = sym (rw (add-zero at) (take-append-drop at d)) }

-- items written one after another, and one item more
pub put_next : {n at r₁ r₂ : ℕ} {d d₁ d₂ : List ℕ} (f : List ℕ → List ℕ) → ((a b : List ℕ) → f (a ++ b) ≡ f a ++ f b) → (s : List ℕ) (i : ℕ) → i < length s → at ≤ length d
    → Put (n * i) at (f (take i s)) d r₁ d₁ → Put n r₁ (f (get_or s i 0 ∷ [])) d₁ r₂ d₂ → Put (n * (i + 1)) at (f (take (i + 1) s)) d r₂ d₂
put_next f law s i h k p q =
    put_within (omega arith) (put_as (sym (law _ _) ∙ ap f (sym (take-suc s i 0 h) ∙ ap (λ (m : ℕ). take m s) (sym (add-one i)))) (put_then k p q))

-- bytes that a line shows: their length
pub spaced_length : (s : List ℕ) → length (spaced s) ≡ 3 * length s
unfolding spaced pair_of
spaced_length [] = refl
spaced_length (b ∷ s) = omega (arith, spaced_length s)

pub spaced_append : (a b : List ℕ) → spaced (a ++ b) ≡ spaced a ++ spaced b
unfolding spaced
spaced_append [] b = refl
spaced_append (x ∷ a) b =
    ap (λ (l : List ℕ). space ∷ (pair_of x ++ l)) (spaced_append a b) ∙ ap (λ (l : List ℕ). space ∷ l) (sym (append_assoc (pair_of x) (spaced a) (spaced b)))

pub spaced_one : (x : ℕ) → space ∷ pair_of x ≡ spaced (x ∷ [])
unfolding spaced
spaced_one x = ap (λ (l : List ℕ). space ∷ l) (sym (append-nil (pair_of x)))

-- the figures of a word's bytes
pub eight_bytes : (w : ℕ) → w < 4294967296
    → let bytes = to_be_bytes w32 w in ((pair_of (get_or bytes 0 0) ++ pair_of (get_or bytes 1 0)) ++ pair_of (get_or bytes 2 0)) ++ pair_of (get_or bytes 3 0) ≡ eight w
unfolding eight
eight_bytes w h =
    let first : w / 16777216 % 256 ≡ w / 16777216 = omega arith in
    ap (λ (b : ℕ). ((pair_of b ++ pair_of (w / 65536 % 256)) ++ pair_of (w / 256 % 256)) ++ pair_of (w % 256)) first ∙ simp append_assoc

-- a number alone
pub told_none : (number : ℕ) → shortest number ≡ told number []
unfolding told spaced
told_none number = sym (append-nil (shortest number))

-- a value after a space
pub values_one : (a : List ℕ) (w : ℕ) → (a ++ (space ∷ [])) ++ eight w ≡ a ++ values (w ∷ [])
unfolding values
values_one a w = append_assoc a (space ∷ []) (eight w) ∙ ap (λ (l : List ℕ). a ++ (space ∷ l)) (sym (append-nil (eight w)))

-- an entry, signed or not
pub entry_signed : (signed : Bool) (w : ℕ) → signed ≡ true → text_of w ≡ entry_of signed w
unfolding entry_of
entry_signed signed w h = search cases

pub entry_unsigned : (signed : Bool) (w : ℕ) → signed ≡ false → shortest w ≡ entry_of signed w
unfolding entry_of
entry_unsigned signed w h = search cases
