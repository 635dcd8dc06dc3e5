-- `image::put_run` meets its contract. The invariant: the entries put, and then those that are left, are the run. Assumes nothing.
use Rattle.std.proofs.Common.{◌≡◌, ◌+◌, ◌<◌, List, sym, ap, ◌∙◌, arith}
use Rattle.wire.proofs.Buffers.{length_part, get_d_part}
use Rattle.bits.specs.Packing.{packed, place_of}
use Rattle.image.specs.Form.{Entry, used}
use Rattle.image.specs.Saved.{put_entries}
use Rattle.image.proofs.Runs.{left_all, used_left, used_end, put_left, put_end}
use Rattle.image.proofs.put_run.Goals as goal

pub loop-word-init : goal.loop-word-init
loop-word-init c = let a = c.args in
    let e = left_all a.run in
    (ap (λ (f : List Entry). place_of a.p + used f) e, ap (λ (f : List Entry). put_entries f a.words.now (packed a.image.now a.p) (place_of a.p)) e)

pub put_field-q-requires : goal.put_field-q-requires
put_field-q-requires c = let l = c.loop-word in
    let r = c.args.run in
    let m = length_part c.args.words.now r.word (r.word + r.count) (omega arith) c.requires.2 in
    let n = used_left r l.word-index (omega (arith, m)) in
    (record { inside = omega (arith, n, l.auto.image, l.invariant.0, c.requires.0.inside); short = omega (arith, l.auto.image, c.requires.0.short) }, c.requires.1)

pub loop-word-preserved : goal.loop-word-preserved
loop-word-preserved c = let l = c.loop-word in
    let a = c.args in
    let r = a.run in
    let i = l.word-index in
    let f = c.put_field-q.ensures in
    let m = length_part a.words.now r.word (r.word + r.count) (omega arith) c.requires.2 in
    let h : i < r.count = omega (arith, m) in
    (omega (arith, used_left r i h, f.1, l.invariant.0), rw (f.0, f.1, get_d_part a.words.now r.word (r.word + r.count) i (omega arith)) (sym (put_left r i a.words.now (packed l.image l.q) (place_of l.q) h) ∙ l.invariant.1))

pub returns : goal.returns
returns c = let l = c.loop-word in
    let a = c.args in
    let r = a.run in
    let m = length_part a.words.now r.word (r.word + r.count) (omega arith) c.requires.2 in
    let z : r.count ≡ l.word-index = omega (arith, m) in
    (sym (put_end r l.word-index a.words.now (packed l.image l.q) (place_of l.q) z) ∙ l.invariant.1, omega (arith, used_end r l.word-index z, l.invariant.0))
