-- `lucid_master::frames::put_demands` meets its contract. The invariant: the demands still to be put from here make what all of them make. Assumes nothing.
use Rattle.std.proofs.Common.{◌≡◌, ◌+◌, ◌*◌, length, drop}
use Rattle.wire.specs.Buffer.{put}
use Rattle.lucid.specs.Form.{data_at, demand_size}
use Rattle.lucid_master.specs.Request.{demand_bytes}
use Rattle.lucid_master.proofs.frames.put_demands.Given as goal

abbrev pub invariant-loop-i : goal.invariant-loop-i
invariant-loop-i l = record {
  kept : length l.out ≡ length l.initial.out;
  made : put l.out (data_at + demand_size * l.i) (demand_bytes (drop l.i l.values)) ≡ put l.initial.out data_at (demand_bytes l.values);
}
