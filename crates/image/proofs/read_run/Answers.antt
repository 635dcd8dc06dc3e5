-- `image::read_run` meets its contract: the part of the values that is the run's is filled. Assumes nothing.
use Rattle.std.proofs.Common.{◌≡◌, ℕ, ◌+◌, ◌≤◌, List, length, ◌∙◌, arith}
use Rattle.wire.proofs.Buffers.{length_part, put_part}
use Rattle.wire.specs.Buffer.{part}
use Rattle.image.specs.Form.{entries_of_run}
use Rattle.image.proofs.Runs.{length_run, length_fields, widths_run}
use Rattle.image.proofs.read_run.Goals as goal

-- as many values as the run has
lent : (values : List ℕ) (first count : ℕ) → first + count ≤ length values → length (part values first (first + count)) ≡ count
lent values first count h = length_part values first (first + count) (omega arith) h ∙ omega arith

pub read_fields-requires : goal.read_fields-requires
read_fields-requires c = let a = c.args in rw (lent a.values.now a.first a.run.count c.requires.0) c.requires.1

pub returns : goal.returns
returns c = let a = c.args in
    let r = a.run in
    put_part _ _ _ _ _ (c.read_fields.ensures ∙ rw (lent a.values.now a.first r.count c.requires.0, widths_run r.word r.count r.width r.bias))
    (omega (arith, length_fields (entries_of_run r) a.image.now a.place, length_run r.word r.count r.width r.bias))
