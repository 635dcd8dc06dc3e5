-- `lines::text::Text::put_bytes` meets its contract.
use Rattle.std.proofs.Common.{ap, arith, take_all}
use Rattle.lines.specs.Text.{spaced}
use Rattle.lines.proofs.Puts.{put_none, put_next, put_as, spaced_append, spaced_length}
use Rattle.lines.proofs.text.Text.put_bytes.Goals as goal

pub loop-b-init : goal.loop-b-init
unfolding spaced
loop-b-init g c = put_none _ _

pub loop-b-preserved : goal.loop-b-preserved
loop-b-preserved g c = put_next spaced spaced_append _ _ (omega arith) (omega arith) c.loop-b.invariant c.put_spaced.ensures

pub returns : goal.returns
returns g c = let all = put_as (ap spaced (take_all c.loop-b.b-index c.args.bytes.now (omega arith))) c.loop-b.invariant in
    record {
      measured = omega (arith, all.measured, spaced_length c.args.bytes.now);
      short = omega (arith, all.measured, spaced_length c.args.bytes.now);
      written = all.written;
    }
