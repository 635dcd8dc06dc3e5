-- `lecom_master::make` meets its contract, test by test. Assumes nothing.
use Rattle.std.proofs.Common.{ℕ, List, length, sym, refl, ap, ◌∙◌, length-take-le}
use Rattle.wire.proofs.Cases.{yes, no, told_true, told_false}
use Rattle.card.proofs.Replies.{told_as, wrote_none, wrote_front, wrote_within}
use Rattle.asking.specs.Made.{fitted, making}
use Rattle.lecom_master.proofs.make.Goals as goal

pub returns-then-not-is_askable : goal.returns-then-not-is_askable
unfolding making
returns-then-not-is_askable c = told_as _ _ (no _ _ _ _ (told_false c.is_askable.ensures c.if-not-is_askable.true) refl) (record { numbered = refl; wrote = wrote_none _ })

pub slice_bounds-frame-end : goal.slice_bounds-frame-end
slice_bounds-frame-end c = wrote_within _ _ c.put_frame-len.ensures

pub slice_bounds-hand_over-end : goal.slice_bounds-hand_over-end
slice_bounds-hand_over-end c = sym (length-take-le _ _ (wrote_within _ _ c.put_frame-len.ensures))

pub returns : goal.returns
unfolding making
returns c =
    told_as _ _ (ap (λ (l : List ℕ). fitted l (length c.args.out.now)) (wrote_front _ _ c.put_frame-len.ensures) ∙ yes _ _ _ _ (told_true c.is_askable.ensures c.if-not-is_askable.false) refl)
    c.hand_over.ensures
