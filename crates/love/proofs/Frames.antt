-- What is known of a frame that was judged: its address figures, and what its order names. Assumes nothing.
use Rattle.std.proofs.Common.{◌≡◌, Bool, true, not, List, ℕ, ◌≤◌, ltb-true, arith, eqb, length, Result, Err}
use Prim.{tt}
use Rattle.wire.specs.Buffer.{part}
use Rattle.wire.proofs.Cases.{by_choice}
use Rattle.figures.specs.Figure.{upper_hex, no_byte, all_figures}
use Rattle.figures.proofs.Characters.{pair_part}
use Rattle.card.specs.Layout.{love_count}
use Rattle.love.specs.Form.{shortest, address_at, data_at}
use Rattle.love.specs.Frame.{silently, unless, byte_at, asked}
use Rattle.love.specs.Stages.{Sound}
use Rattle.love.specs.declared.frame.Order.{Order}
use Rattle.love.specs.declared.frame.Refusal.{Refusal}
use Rattle.love.specs.declared.frame.Refusal.TheVariants.{Silent, Refused}

-- the address figures are right exactly if they are a byte
pub address_figures : (f : List ℕ) → shortest ≤ length f → all_figures upper_hex (part f address_at data_at) ≡ not (eqb (byte_at upper_hex f address_at) no_byte)
address_figures f h = pair_part upper_hex f address_at (omega arith)

-- a test, of which the other way is a refusal
or_silent : (t : Bool) (o : Result Order Refusal) (n : ℕ) → (t ≡ true → Sound o) → Sound (silently t n o)
or_silent t o n p = by_choice Sound t o (Err (Silent n)) p (λ _. tt)

or_refused : (t : Bool) (o : Result Order Refusal) (n e : ℕ) → (t ≡ true → Sound o) → Sound (unless t n e o)
or_refused t o n e p = by_choice Sound t o (Err (Refused n e)) p (λ _. tt)

pub asked_sound : (address : ℕ) (f : List ℕ) → Sound (asked address f)
unfolding asked
asked_sound address f =
    or_silent _ _ _ (λ _. or_silent _ _ _ (λ _. or_silent _ _ _ (λ _. or_silent _ _ _ (λ _. or_silent _ _ _
    (λ _. or_refused _ _ _ _ (λ _. or_refused _ _ _ _ (λ _. or_refused _ _ _ _ (λ _. or_refused _ _ _ _
    (λ _. by_choice Sound _ _ _ (λ _. or_refused _ _ _ _ (λ _. tt))
    (λ _. or_refused _ _ _ _ (λ _. or_refused _ _ _ _
    (λ known.
    let k = ltb-true _ love_count known in
    by_choice Sound _ _ _ (λ _. or_refused _ _ _ _ (λ _. k))
    (λ _. or_refused _ _ _ _ (λ _. or_refused _ _ _ _ (λ _. or_refused _ _ _ _ (λ _. or_refused _ _ _ _
    (λ _. or_refused _ _ _ _ (λ range. (k, range)))))))))))))))))))
