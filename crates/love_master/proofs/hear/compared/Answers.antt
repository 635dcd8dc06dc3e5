-- `love_master::hear::compared` meets its contract: what was written is the front of the scratch. Assumes nothing.
use Rattle.std.proofs.Common.{ℕ, List, ap, ◌∙◌, rules}
use Rattle.asking.specs.Hearing.{said_of, heard_by}
use Rattle.asking.specs.Against.{against}
use Rattle.love_master.specs.Heard.{check_back, check_size}
use Rattle.love_master.proofs.Written.{front}
use Rattle.love_master.proofs.hear.compared.Goals as goal

pub returns : goal.returns
returns g c answer writes =
    c.hear_answer.ensures
    ∙ ap (λ (l : List ℕ). heard_by (against check_back check_size c.args.reply.now l) (said_of c.args.said))
    (front answer _ (writes.does _ _ _ (search rules) c.write-len.ensures))
