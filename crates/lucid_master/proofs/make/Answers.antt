-- `lucid_master::make` meets its contract. Assumes nothing.
use Rattle.std.proofs.Common.{◌≡◌, refl, sym, ap, ◌∙◌, List, ℕ, arith, length, take, length-take-le}
use Rattle.wire.proofs.Buffers.{overlay_front}
use Rattle.wire.proofs.Cases.{yes, no, told_true, told_false}
use Rattle.card.proofs.Replies.{told_as, wrote_none}
use Rattle.asking.specs.Made.{fitted, making}
use Rattle.lucid_master.specs.Request.{asking_of, made}
use Rattle.lucid_master.proofs.Made.{made_length}
use Rattle.lucid_master.proofs.make.Goals as goal

pub returns-then-not-is_askable : goal.returns-then-not-is_askable
unfolding making
returns-then-not-is_askable c = told_as _ _ (no _ _ _ _ (told_false c.is_askable.ensures c.if-not-is_askable.true) refl) (record { numbered = refl; wrote = wrote_none _ })

pub slice_bounds-frame-end : goal.slice_bounds-frame-end
slice_bounds-frame-end c = let most = made_length c.args.request c.args.values.now (told_true c.is_askable.ensures c.if-not-is_askable.false) in
    omega (arith, c.put_frame-len.ensures.measured, c.put_frame-len.auto.out)

pub slice_bounds-hand_over-end : goal.slice_bounds-hand_over-end
slice_bounds-hand_over-end c = let most = made_length c.args.request c.args.values.now (told_true c.is_askable.ensures c.if-not-is_askable.false) in
    sym (length-take-le _ _ (omega (arith, c.put_frame-len.ensures.measured, c.put_frame-len.auto.out)))

pub returns : goal.returns
unfolding making
returns c = let a = c.args in
    let put = c.put_frame-len in
    let q = asking_of a.request a.values.now in
    let right = told_true c.is_askable.ensures c.if-not-is_askable.false in
    let front : take put.result put.new.out ≡ made q =
    ap (take put.result) put.ensures.written ∙ overlay_front (made q) _ put.result put.ensures.measured in
    told_as _ _ (yes _ _ _ _ right (ap (λ (f : List ℕ). fitted f (length a.out.now)) front)) c.hand_over.ensures
