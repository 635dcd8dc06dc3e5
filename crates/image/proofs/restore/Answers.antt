-- `image::restore` meets its contract: the runs, one after another, are the form. Assumes nothing.
use Rattle.std.proofs.Common.{◌≡◌, ◌+◌, ◌-◌, ◌<◌, ◌≤◌, length, get_or, take, drop, sym, refl, ◌∙◌, arith, length-drop, drop-drop}
use Rattle.image.specs.Form.{entries_of_run}
use Rattle.image.specs.Scans.{run_count, no_run, run_at, first_of}
use Rattle.image.specs.Saved.{replaced}
use Rattle.image.proofs.Runs.{form_length, run_sound, run_here, run_among, run_last, rest_all, store_none, store_rest, first_none, first_next, part_inside, part_length}
use Rattle.image.proofs.restore.Goals as goal
use Rattle.image.proofs.restore.Goals.{In-loop-run}

pub loop-run-init : goal.loop-run-init
loop-run-init c = (sym first_none, rw rest_all)

-- the run's part of the values
inside : (c : In-loop-run) → c.loop-run.first + (get_or c.runs-run-items.result.now c.loop-run.run-index no_run).count ≤ length c.args.values.now
inside c =
    let k = c.loop-run.run-index in
    let same = c.runs-run-items.ensures in
    part_inside k (run_among same k c.loop-run-test.true) (run_here same k) c.loop-run.invariant.0 c.args.values.now c.requires.1

pub overflow_add-end : goal.overflow_add-end
overflow_add-end c = record { fits = omega (arith, inside ((goal.at.overflow_add-end c).In-loop-run), form_length, c.requires.1) }

pub offset_bounds-values-first : goal.offset_bounds-values-first
offset_bounds-values-first c = record { fits = omega (arith, inside ((goal.at.offset_bounds-values-first c).In-loop-run), form_length, c.requires.1) }

pub slice_bounds-store_run-end : goal.slice_bounds-store_run-end
slice_bounds-store_run-end c = inside ((goal.at.slice_bounds-store_run-end c).In-loop-run)

pub store_run-requires : goal.store_run-requires
store_run-requires c = let l = c.loop-run in
    let same = c.runs-run-items.ensures in
    let k = l.run-index in
    let h : k < run_count = run_among same k c.loop-run-test.true in
    let sound = run_sound k h in
    (part_length k h (run_here same k) l.invariant.0 c.args.values.now c.requires.1, rw same (omega (arith, sound.among, l.auto.words, c.requires.0)))

pub loop-run-preserved : goal.loop-run-preserved
loop-run-preserved c = let l = c.loop-run in
    let vs = c.args.values.now in
    let same = c.runs-run-items.ensures in
    let k = l.run-index in
    let h : k < run_count = run_among same k c.loop-run-test.true in
    let r = run_at k in
    let f = first_of k in
    let m : f + r.count - f ≡ r.count = omega arith in
    let n : r.count ≤ length (drop f vs) = omega (arith, length-drop f vs, part_inside k h refl refl vs c.requires.1) in
    let stored : c.store_run.new.words ≡ replaced (entries_of_run r) l.words (take r.count (drop f vs)) = rw (same, l.invariant.0, m) at c.store_run.ensures in (
      rw (same, l.invariant.0) (sym (first_next k h)),
      rw (stored, same, l.invariant.0, ← drop-drop r.count f vs) (sym (store_rest k h l.words (drop f vs) n) ∙ rw l.invariant.0 at l.invariant.1),
    )

pub returns : goal.returns
returns c = let l = c.loop-run in
    let z = run_last c.runs-run-items.ensures l.run-index l.auto.run-index-end c.loop-run-test.false in
    sym (rw z (store_none l.words _)) ∙ l.invariant.1
