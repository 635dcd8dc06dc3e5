-- `lines::heard::tell_group` meets its contract.
use Rattle.std.proofs.Common.{◌≡◌, ap, ◌∙◌, rules}
use Rattle.std.proofs.lemmas.List.{set-get_or}
use Rattle.asking.specs.Hearing.{values_in}
use Rattle.lines.specs.Heard.{given_text}
use Rattle.lines.proofs.Puts.{put_as}
use Rattle.lines.proofs.heard.tell_group.Goals as goal

-- by the law of a list that is given its own element again, so that a change of the group that changes nothing is proved too
pub returns : goal.returns
returns g c = let told : c.values.result.now ≡ values_in c.args.group = c.values.ensures.0 ∙ search (rules, set-get_or) in
    put_as (ap given_text told) c.tell_values.ensures
