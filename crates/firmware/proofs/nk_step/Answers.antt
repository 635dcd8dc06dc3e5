-- `firmware::nk_step` meets its contract: the step of the phase and kind that the numbers mean. Assumes nothing.
use Rattle.std.proofs.Common.{ap, ◌∙◌}
use Rattle.firmware.specs.Phases.{code_of, step_in_c}
use Rattle.firmware.proofs.nk_step.Goals as goal

pub returns : goal.returns
unfolding step_in_c
returns c =
    let went = c.step-went.ensures in
    rw (← c.phase_of.ensures, ← c.kind_of.ensures)
    (record { numbered = went.numbered; measured = went.measured; moved = c.code_of.ensures ∙ ap code_of went.moved; written = went.written })
