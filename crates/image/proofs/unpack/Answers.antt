-- `image::unpack` meets its contract: one reader is carried through the runs to the padding. Assumes nothing.
use Rattle.std.proofs.Common.{◌≡◌, ◌+◌, ◌<◌, ℕ, length, sym, ap, ◌∙◌, arith}
use Rattle.wire.specs.Buffer.{put}
use Rattle.bits.specs.Fields.{fields}
use Rattle.image.specs.declared.form.Run.{Run}
use Rattle.image.specs.Form.{entries_of_run, widths, used}
use Rattle.image.specs.Scans.{run_count, entries_at, first_of, bits_of}
use Rattle.image.proofs.Runs.{form_length, form_used, run_here, run_among, run_last, first_none, first_next, first_inside, bits_most}
use Rattle.image.proofs.Walking.{begins, filled_none, next, next_fits, run_within, filled_next, filled_last, padding_inside, padding_is}
use Rattle.image.proofs.unpack.Goals as goal

pub loop-run-init : goal.loop-run-init
loop-run-init c =
    let a = c.args in
    let e = c.new-r.ensures in
    (sym first_none, ap (λ (r : _). r.now) e.0, rw e.1 begins, rw e.1 (filled_none a.image.now a.values.now))

pub read_run-requires : goal.read_run-requires
read_run-requires c =
    let l = c.loop-run in
    let same = c.runs-run-items.ensures in
    let k = l.run-index in
    let h : k < run_count = run_among same k c.loop-run-test.true in
    rw (same, l.invariant.1) (omega (arith, first_inside k h, form_length, l.auto.values, c.requires.0, l.invariant.0), run_within k l.r.place h l.invariant.2 c.args.image.now c.requires.1)

pub bits-requires : goal.bits-requires
bits-requires c =
    let same = c.runs-run-items.ensures in
    let k = c.loop-run.run-index in
    rw same (omega (arith, bits_most k (run_among same k c.loop-run-test.true), form_used))

pub moved-r-requires : goal.moved-r-requires
moved-r-requires c =
    let l = c.loop-run in
    let same = c.runs-run-items.ensures in
    let k = l.run-index in
    rw (c.bits.ensures, same) (next_fits k l.r.place (run_among same k c.loop-run-test.true) l.invariant.2)

pub overflow_add-first : goal.overflow_add-first
overflow_add-first c =
    let l = c.loop-run in
    let same = c.runs-run-items.ensures in
    let k = l.run-index in
    rw same (record { fits = omega (arith, first_inside k (run_among same k c.loop-run-test.true), l.invariant.0) })

pub loop-run-preserved : goal.loop-run-preserved
loop-run-preserved c =
    let l = c.loop-run in
    let a = c.args in
    let same = c.runs-run-items.ensures in
    let k = l.run-index in
    let h : k < run_count = run_among same k c.loop-run-test.true in
    let bits : c.bits.result ≡ bits_of k = c.bits.ensures ∙ ap (λ (r : Run). used (entries_of_run r)) (run_here same k) in
    let moved : c.moved-r.result.place ≡ l.r.place + bits_of k = c.moved-r.ensures.1 ∙ ap (λ (n : ℕ). l.r.place + n) bits in
    let long : length l.values ≡ _ = l.auto.values ∙ c.requires.0 in
    let read : c.read_run.new.values ≡ put l.values (first_of k) (fields a.image.now l.r.place (widths (entries_at k))) =
    rw (same, l.invariant.0, l.invariant.1) at c.read_run.ensures in (
      rw (same, l.invariant.0) (sym (first_next k h)),
      ap (λ (r : _). r.now) c.moved-r.ensures.0 ∙ l.invariant.1,
      rw moved (next k l.r.place h l.invariant.2),
      rw moved (filled_next k l.r.place h l.invariant.2 a.image.now l.values c.read_run.new.values long read l.invariant.3),
    )

pub value-requires : goal.value-requires
value-requires c =
    let l = c.loop-run in
    let z = run_last c.runs-run-items.ensures l.run-index l.auto.run-index-end c.loop-run-test.false in
    rw l.invariant.1 (padding_inside c.args.image.now l.run-index l.r.place z l.invariant.2 c.requires.1)

pub returns : goal.returns
returns c =
    let l = c.loop-run in
    let img = c.args.image.now in
    let k = l.run-index in
    let z = run_last c.runs-run-items.ensures k l.auto.run-index-end c.loop-run-test.false in (
      filled_last img k l.r.place z l.invariant.2 l.values (l.auto.values ∙ c.requires.0) l.invariant.3,
      rw l.invariant.1 at c.value.ensures ∙ padding_is img k l.r.place z l.invariant.2,
    )
