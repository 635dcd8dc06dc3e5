-- `love::answer::put_probe` meets its contract. Assumes nothing.
use Rattle.std.proofs.Common.{sym, ◌∙◌}
use Rattle.love.proofs.Writes.{status_fault, status_temperature}
use Rattle.love.proofs.answer.put_probe.Goals as goal

pub returns-in_default : goal.returns-in_default
returns-in_default c = rw (← status_fault _ (sym c.read_code.ensures ∙ c.in_default.is)) c.put_status.ensures

pub returns : goal.returns
returns c =
    rw (← status_temperature _ _ (sym c.read_code.ensures ∙ c.in-Temperature.is), ← c.word-word.ensures, ← c.by_sign-fourth.ensures, ← c.magnitude.ensures) c.put_status-2.ensures
