-- `lines::text::Text::put_bits` meets its contract.
use Rattle.std.proofs.Common.{ℕ, List, ◌++◌, get_or, ap, ◌∙◌, arith, rules}
use Rattle.figures.specs.Figure.{pair_of}
use Rattle.lines.proofs.Puts.{put_then, put_as, eight_bytes}
use Rattle.lines.proofs.text.Text.put_bits.Goals as goal

pub returns : goal.returns
returns g c = let four = λ (l : List ℕ). ((pair_of (get_or l 0 0) ++ pair_of (get_or l 1 0)) ++ pair_of (get_or l 2 0)) ++ pair_of (get_or l 3 0) in
    put_as (ap four c.to_be_bytes.ensures ∙ eight_bytes c.args.bits (omega arith))
    (put_then (search rules) (put_then (search rules) (put_then (search rules) c.put_pair.ensures c.put_pair-2.ensures) c.put_pair-3.ensures) c.put_pair-4.ensures)
