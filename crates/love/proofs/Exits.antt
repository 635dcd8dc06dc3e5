-- What an `Option` tells, and what `?` hands on where an `ok_or` found none. Assumes nothing.
use Rattle.std.proofs.Common.{◌≡◌, ◌<◌, ℕ, refl, sym, ap, ◌∙◌, arith, eqb, ne_eqb, Bool, true, false, Option, Some, None, Result, Err, IsErrAnd, ok_or}
use Rattle.std.specs.Option.{option_eq}
use Rattle.std.proofs.lemmas.Result.{err_from_is_err_and}
use Rattle.wire.specs.Choose.{choose}
use Rattle.figures.specs.Figure.{no_byte, byte_or_none}

pub handed_on : {T U E : Type 0} (o : Option T) (e d : E) (r : Result U E) → o ≡ None → ◌≡◌ {A = Result T E} (Err d) (ok_or o e) → IsErrAnd r (λ (x : E). x ≡ d) → r ≡ Err e
handed_on {T} {E = E} o e d r none given out =
    let p = err_from_is_err_and r out in
    let same : ◌≡◌ {A = Result T E} (Err d) (Err e) = given ∙ ap (λ (x : Option T). ok_or x e) none in
    cc

-- a value that is given where a test holds
pub is_given : {T : Type 0} (t : Bool) (x y : T) → Some y ≡ choose t (Some x) None → (t ≡ true) × (y ≡ x)
unfolding choose
is_given true x y e = (refl, cc)
is_given false x y e = cc

pub is_none : {T : Type 0} (t : Bool) (x : T) → None ≡ choose t (Some x) None → t ≡ false
unfolding choose
is_none true x e = cc
is_none false x e = refl

-- the test for one byte
pub is_byte : (o : Option ℕ) (b : ℕ) → b < no_byte → option_eq eqb o (Some b) ≡ eqb (byte_or_none o) b
is_byte None b h = sym (ne_eqb no_byte b (λ e. omega arith))
is_byte (Some x) b h = refl

pub byte_told : (o : Option ℕ) (b : ℕ) {r t : Bool} → b < no_byte → r ≡ option_eq eqb o (Some b) → r ≡ t → eqb (byte_or_none o) b ≡ t
byte_told o b h test e = sym (is_byte o b h) ∙ sym test ∙ e
