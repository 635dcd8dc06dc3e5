-- `datalink::collect::kind` meets its contract: bits that are no command's ask for no change. Assumes nothing.
use Rattle.std.proofs.Common.{ap, ◌∙◌}
use Rattle.datalink.specs.Frame.{kind_of}
use Rattle.datalink.proofs.Commands.{no_kind}
use Rattle.datalink.proofs.collect.kind.Goals as goal

pub returns-in-Err : goal.returns-in-Err
returns-in-Err c = no_kind _ c.in-Err.ensures.0 ∙ ap kind_of c.command_of.ensures

pub returns-in-Ok : goal.returns-in-Ok
returns-in-Ok c = c.kind.ensures ∙ ap kind_of (c.in-Ok.ensures ∙ c.command_of.ensures)
