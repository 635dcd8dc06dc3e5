-- `receive::gather` meets its contract.
use Rattle.std.proofs.Common.{refl, ap, ◌∙◌, arith, length, length-drop}
use Rattle.wire.proofs.Buffers.{part_rest}
use Rattle.receive.proofs.Gathering.{none_yet, after_skip, behind_skip, took_none, took_frame, turned}
use Rattle.receive.proofs.gather.Goals as goal

pub loop-i-init : goal.loop-i-init
loop-i-init g c = record { near = omega arith; long = c.requires.0.1; lent = refl; holds = c.requires.0.0; sofar = none_yet g.D.PartFrame.dialect c.args.n c.args.ports.now c.args.bytes.now }

pub skip-m-requires : goal.skip-m-requires
skip-m-requires g c =
    let l = c.loop-i in
    ((l.invariant.holds, l.invariant.long), rw (part_rest c.args.bytes.now l.i) (omega (arith, length-drop l.i c.args.bytes.now, c.loop-i-test.true)))

pub overflow_add-at : goal.overflow_add-at
overflow_add-at g c = let k = behind_skip _ _ _ c.args.bytes.now c.loop-i.i _ _ c.skip-m.ensures in omega arith

pub bounds-bytes-at : goal.bounds-bytes-at
bounds-bytes-at g c = let k = behind_skip _ _ _ c.args.bytes.now c.loop-i.i _ _ c.skip-m.ensures in omega arith

pub overflow_add-count : goal.overflow_add-count
overflow_add-count g c = let k = behind_skip _ _ _ c.args.bytes.now c.loop-i.i _ _ c.skip-m.ensures in omega arith

pub overflow_add-result : goal.overflow_add-result
overflow_add-result g c = let k = behind_skip _ _ _ c.args.bytes.now c.loop-i.i _ _ c.skip-m.ensures in omega arith

pub overflow_add-count-in_default : goal.overflow_add-count-in_default
overflow_add-count-in_default g c = let k = behind_skip _ _ _ c.args.bytes.now c.loop-i.i _ _ c.skip-m.ensures in omega arith

pub overflow_add-i : goal.overflow_add-i
overflow_add-i g c = let k = behind_skip _ _ _ c.args.bytes.now c.loop-i.i _ _ c.skip-m.ensures in omega arith

pub loop-i-smaller : goal.loop-i-smaller
loop-i-smaller g c = let k = behind_skip _ _ _ c.args.bytes.now c.loop-i.i _ _ c.skip-m.ensures in omega arith

pub returns : goal.returns
returns g c = let l = c.loop-i in took_none _ _ _ _ _ _ _ l.count l.i l.invariant (omega arith)

pub feed-requires : goal.feed-requires
feed-requires g c =
    let k = c.skip-m in
    let t = after_skip _ _ _ c.args.bytes.now _ _ _ _ _ k.result _ c.loop-i.invariant k.auto.ports k.ensures in
    (t.holds, t.long)

pub hand_over-requires : goal.hand_over-requires
hand_over-requires g c =
    let k = c.skip-m in
    let t = after_skip _ _ _ c.args.bytes.now _ _ _ _ _ k.result _ c.loop-i.invariant k.auto.ports k.ensures in
    let f = rw c.in_default.is at c.feed.ensures in
    ((f.0.1, c.feed.auto.ports ∙ t.long), omega (arith, c.requires.1, ap length t.lent))

pub shape_of-frame-in_default : goal.shape_of-frame-in_default
shape_of-frame-in_default g c = c.hand_over.auto.frame ∙ ap length c.loop-i.invariant.lent

pub returns-in_default : goal.returns-in_default
returns-in_default g c =
    let k = c.skip-m in
    let t = after_skip _ _ _ c.args.bytes.now _ _ _ _ _ k.result _ c.loop-i.invariant k.auto.ports k.ensures in
    let f = rw c.in_default.is at c.feed.ensures in
    took_frame _ _ _ _ _ _ _ _ _ t _ _ _ (behind_skip _ _ _ c.args.bytes.now c.loop-i.i _ _ k.ensures).0 f.0.0 f.1 c.hand_over.ensures

pub loop-i-preserved : goal.loop-i-preserved
loop-i-preserved g c =
    let k = c.skip-m in
    let t = after_skip _ _ _ c.args.bytes.now _ _ _ _ _ k.result _ c.loop-i.invariant k.auto.ports k.ensures in
    turned _ _ _ _ _ _ _ _ _ t _ _ (behind_skip _ _ _ c.args.bytes.now c.loop-i.i _ _ k.ensures).0 c.feed.auto.ports (rw c.in-Some.is at c.feed.ensures)
