-- `master::step` meets its contract: 7, 11, then the move.
use Rattle.std.proofs.Common.{refl, le-leb}
use borrow.Author.Tests.{lt-leb}
use Rattle.wire.proofs.Cases.{yes, no, told_true, told_false}
use Rattle.master.proofs.Steps.{stepped_as, stepped_quiet}
use Rattle.master.proofs.Requests.{accepted}
use Rattle.master.specs.Step.{step_of}
use Rattle.master.proofs.step.Goals as goal

pub returns-then-not-is_askable : goal.returns-then-not-is_askable
unfolding step_of
returns-then-not-is_askable c = stepped_quiet _ _ _ _ (no _ _ _ _ (told_false c.is_askable.ensures c.if-not-is_askable.true) refl) c.without_frame.ensures

pub returns-then-frame-lt-LONGEST : goal.returns-then-frame-lt-LONGEST
unfolding step_of
returns-then-frame-lt-LONGEST c =
    let right = told_true c.is_askable.ensures c.if-not-is_askable.false in
    stepped_quiet _ _ _ _ (yes _ _ _ _ right (no _ _ _ _ (lt-leb _ _ c.if-frame-lt-LONGEST.true) refl)) c.without_frame-then-frame-lt-LONGEST.ensures

pub invariant_of-move_on : goal.invariant_of-move_on
invariant_of-move_on c = record { accepted = accepted _ (told_true c.is_askable.ensures c.if-not-is_askable.false) }

pub returns : goal.returns
unfolding step_of
returns c =
    let right = told_true c.is_askable.ensures c.if-not-is_askable.false in
    stepped_as _ _ (yes _ _ _ _ right (yes _ _ _ _ (le-leb _ _ c.if-frame-lt-LONGEST.false) refl)) c.move_on.ensures
