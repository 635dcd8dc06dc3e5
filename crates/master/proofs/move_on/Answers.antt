-- `master::move_on` meets its contract, phase by phase.
use Rattle.std.proofs.Common.{refl, ap}
use Rattle.wire.proofs.Cases.{yes, no, told_true, told_false}
use Rattle.master.proofs.Steps.{stepped_quiet, stepped_sent, moved}
use Rattle.master.specs.Frames.{acknowledge_frame}
use Rattle.master.specs.Step.{refuses, move}
use Rattle.master.proofs.move_on.Goals as goal

pub returns-then-not-is_echo : goal.returns-then-not-is_echo
unfolding move
returns-then-not-is_echo c =
    let wrong = told_false c.is_echo.ensures c.if-not-is_echo.true in
    stepped_quiet _ _ _ _ (moved _ _ _ _ _ c.in-Changing.is (no _ _ _ _ wrong refl)) c.without_frame.ensures

pub returns-then-not-is_confirmed : goal.returns-then-not-is_confirmed
unfolding move
returns-then-not-is_confirmed c =
    let wrong = told_false c.is_confirmed.ensures c.if-not-is_confirmed.true in
    stepped_quiet _ _ _ _ (moved _ _ _ _ _ c.in-Reading.is (no _ _ _ _ wrong refl)) c.without_frame-then-not-is_confirmed.ensures

pub returns-in-New : goal.returns-in-New
unfolding move
returns-in-New c = stepped_sent _ _ _ _ _ _ (moved _ _ _ _ _ c.in-New.is refl) c.change.ensures

pub returns-else-not-is_echo : goal.returns-else-not-is_echo
unfolding move acknowledge_frame
returns-else-not-is_echo c =
    let right = told_true c.is_echo.ensures c.if-not-is_echo.false in
    stepped_sent _ _ _ _ _ _ (moved _ _ _ _ _ c.in-Changing.is (yes _ _ _ _ right refl)) c.acknowledge.ensures

pub returns-in-Acknowledging : goal.returns-in-Acknowledging
unfolding move
returns-in-Acknowledging c = stepped_sent _ _ _ _ _ _ (moved _ _ _ _ _ c.in-Acknowledging.is refl) c.interrogate.ensures

pub returns-else-not-is_confirmed : goal.returns-else-not-is_confirmed
unfolding move
returns-else-not-is_confirmed c =
    let right = told_true c.is_confirmed.ensures c.if-not-is_confirmed.false in
    stepped_quiet _ _ _ _ (moved _ _ _ _ _ c.in-Reading.is (yes _ _ _ _ right refl)) c.without_frame-in-Reading.ensures

pub returns-in-EndedDone : goal.returns-in-EndedDone
unfolding move
returns-in-EndedDone c = stepped_quiet _ _ _ _ (moved _ _ _ _ _ c.in-EndedDone.is (ap (refuses 10) c.in-EndedDone.is)) c.without_frame-in-EndedDone.ensures

pub returns-in-EndedUnknown : goal.returns-in-EndedUnknown
unfolding move
returns-in-EndedUnknown c = stepped_quiet _ _ _ _ (moved _ _ _ _ _ c.in-EndedUnknown.is (ap (refuses 10) c.in-EndedUnknown.is)) c.without_frame-in-EndedUnknown.ensures
