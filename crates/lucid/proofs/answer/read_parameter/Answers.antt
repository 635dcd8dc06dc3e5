-- `lucid::answer::read_parameter` meets its contract. Assumes nothing.
use Rattle.std.proofs.Common.{ap, ◌∙◌}
use Rattle.card.proofs.Replies.{told_as}
use Rattle.lucid.specs.Answer.{told}
use Rattle.lucid.proofs.Writes.{word_little}
use Rattle.lucid.proofs.answer.read_parameter.Goals as goal

pub returns : goal.returns
returns c = told_as _ _ (ap (told 0 0) (c.to_le_bytes.ensures ∙ word_little _)) c.respond.ensures
