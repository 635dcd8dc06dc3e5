-- `lucid::answer::names` meets its contract. Assumes nothing.
use Rattle.std.proofs.Common.{sym}
use Rattle.lucid.proofs.Channels.{named_bit}
use Rattle.lucid.proofs.answer.names.Goals as goal

pub returns : goal.returns
returns c = sym (named_bit c.args.channel c.args.mask)
