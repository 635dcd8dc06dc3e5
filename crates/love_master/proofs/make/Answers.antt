-- `love_master::make` meets its contract: 7, then 11, then the frame. Assumes nothing.
use Rattle.std.proofs.Common.{ℕ, List, length, refl, ap, arith, rules}
use Rattle.wire.proofs.Cases.{yes, no, told_false, told_true}
use Rattle.card.proofs.Replies.{wrote_none, told_as}
use Rattle.asking.specs.Made.{fitted, making}
use Rattle.love_master.proofs.Written.{front, within, counted}
use Rattle.love_master.proofs.Makes.{made_most_law}
use Rattle.love_master.proofs.make.Goals as goal

pub returns-then-not-is_askable : goal.returns-then-not-is_askable
unfolding making
returns-then-not-is_askable c = told_as _ _ (no _ _ _ _ (told_false c.is_askable.ensures c.if-not-is_askable.true) refl) (record { numbered = refl; wrote = wrote_none _ })

pub put_frame-len-requires : goal.put_frame-len-requires
put_frame-len-requires c = (told_true c.is_askable.ensures c.if-not-is_askable.false, search rules)

pub slice_bounds-frame-end : goal.slice_bounds-frame-end
slice_bounds-frame-end c = within _ _ c.put_frame-len.ensures (omega (arith, made_most_law c.args.request))

pub slice_bounds-hand_over-end : goal.slice_bounds-hand_over-end
slice_bounds-hand_over-end c = counted _ _ c.put_frame-len.ensures (omega (arith, made_most_law c.args.request))

pub returns : goal.returns
unfolding making
returns c =
    let out = c.args.out.now in
    let right = told_true c.is_askable.ensures c.if-not-is_askable.false in
    told_as _ _ (yes _ _ _ _ right (ap (λ (l : List ℕ). fitted l (length out)) (front _ _ c.put_frame-len.ensures))) c.hand_over.ensures
