-- `datalink::write::write_frame` meets its contract: the frame grows at its end, and the LRC comes last. Assumes nothing.
use Rattle.std.proofs.Common.{ℕ, ◌+◌, ◌%◌, ◌++◌, ap, arith, length-append, length-set}
use Rattle.wire.specs.Sum.{byte_values}
use Rattle.datalink.proofs.Writes.{framed_length, frame_written}
use Rattle.datalink.proofs.write.write_frame.Goals as goal

pub bounds-out-1 : goal.bounds-out-1
bounds-out-1 c = simp length-set (omega arith)

pub copy_sum-headed-requires : goal.copy_sum-headed-requires
copy_sum-headed-requires c = simp length-set (omega arith)

pub returns : goal.returns
returns c =
    let then = c.copy_sum-summed in
    let first = c.copy_sum-headed in
    let a = c.args in
    let headed = (a.second + first.result) % byte_values in
    record {
      measured = omega (arith, framed_length a.second (a.head.now ++ a.bytes.now), length-append a.head.now a.bytes.now);
      written = frame_written a.second a.head.now a.bytes.now a.out.now first.new.dst then.new.dst (omega arith) first.ensures.1 then.ensures.1 headed _ (ap (λ (x : ℕ). (a.second + x) % byte_values) first.ensures.0) (ap (λ (x : ℕ). (headed + x) % byte_values) then.ensures.0);
    }
