-- `image::pack` meets its contract: the runs, one after another, and then the padding are the whole image. Assumes nothing.
use Rattle.std.proofs.Common.{◌≡◌, ◌+◌, ◌*◌, ◌<◌, length, sym, refl, ap, ◌∙◌, zero-add, arith}
use Rattle.bits.specs.Bits.{put_field}
use Rattle.bits.proofs.Reading.{Bytes}
use Rattle.bits.specs.Packing.{packed, place_of}
use Rattle.image.specs.declared.form.Run.{Run}
use Rattle.image.specs.Form.{entries_of_run, saved_form, used, image_size}
use Rattle.image.specs.Scans.{run_count, bits_of}
use Rattle.image.specs.Saved.{put_entries}
use Rattle.image.proofs.Runs.{form_used, run_sound, run_here, run_among, run_last, rest_all, used_none, used_rest, put_none, put_rest}
use Rattle.image.proofs.Whole.{image_of_written}
use Rattle.image.proofs.pack.Goals as goal
use Rattle.image.proofs.pack.Goals.{After-runs-run-items, After-loop-run}

pub loop-run-init : goal.loop-run-init
unfolding packed put_field
loop-run-init c = let e = c.new-p.ensures in
    rw (e.0, e.1, e.2, rest_all) (zero-add (used saved_form), refl)

pub put_run-p-requires : goal.put_run-p-requires
put_run-p-requires c = let l = c.loop-run in
    let same = c.runs-run-items.ensures in
    let k = l.run-index in
    let h : k < run_count = run_among same k c.loop-run-test.true in
    let sound = run_sound k h in
    rw same (record { inside = omega (arith, used_rest k h, form_used, l.auto.image, l.invariant.0, c.requires.1); short = omega (arith, l.auto.image, c.requires.1) }, sound.narrow, omega (arith, sound.among, c.requires.0))

bytes : (c : After-runs-run-items) → Bytes c.args.image.now
bytes c = λ k. omega (arith, c.type_inv.image k)

-- past the last run
ended : (c : After-loop-run) → (place_of c.loop-run.p ≡ used saved_form) × (packed c.loop-run.image c.loop-run.p ≡ put_entries saved_form c.args.words.now c.args.image.now 0)
ended c =
    let l = c.loop-run in
    let z : l.run-index ≡ run_count = run_last c.runs-run-items.ensures l.run-index l.auto.run-index-end c.loop-run-test.false in
    let place = rw z at l.invariant.0 in
    (omega (arith, used_none, place), sym (put_none c.args.words.now (packed l.image l.p) (place_of l.p)) ∙ (rw z at l.invariant.1))

pub put_field-whole-requires : goal.put_field-whole-requires
put_field-whole-requires c = let l = c.loop-run in
    (record { inside = omega (arith, (ended ((goal.at.put_field-whole-requires c).After-loop-run)).0, form_used, l.auto.image, c.requires.1); short = omega (arith, l.auto.image, c.requires.1) }, omega arith)

pub returns : goal.returns
returns c =
    let a = c.args in
    let e = ended ((goal.at.returns c).After-loop-run) in
    c.finish.ensures
    ∙ c.put_field-whole.ensures.0
    ∙ rw (e.0, e.1) (image_of_written a.image.now a.words.now c.requires.1 (bytes ((goal.at.returns c).After-runs-run-items)))

pub loop-run-preserved : goal.loop-run-preserved
loop-run-preserved c = let l = c.loop-run in
    let a = c.args in
    let same = c.runs-run-items.ensures in
    let k = l.run-index in
    let h : k < run_count = run_among same k c.loop-run-test.true in
    let f = c.put_run-p.ensures in
    let place : place_of c.put_run-p.result ≡ place_of l.p + bits_of k = f.1 ∙ ap (λ (r : Run). place_of l.p + used (entries_of_run r)) (run_here same k) in
    (omega (arith, place, used_rest k h, l.invariant.0), rw (f.0, place, same) (sym (put_rest k h a.words.now (packed l.image l.p) (place_of l.p)) ∙ l.invariant.1))

pub finish-requires : goal.finish-requires
finish-requires c = let l = c.loop-run in
    let f = c.put_field-whole in
    let long : length f.new.image ≡ image_size = f.auto.image ∙ l.auto.image ∙ c.requires.1 in
    let end : place_of f.result ≡ 8 * image_size = omega (arith, (ended ((goal.at.finish-requires c).After-loop-run)).0, form_used, f.ensures.1) in
    (record { inside = omega (arith, end, long); short = omega (arith, long) }, omega (arith, end))
