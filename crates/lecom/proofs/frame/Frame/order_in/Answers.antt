-- `lecom::frame::Frame::order_in` meets its contract, test by test. Assumes nothing.
use Rattle.wire.proofs.Cases.{told_true, told_false}
use Rattle.std.proofs.Common.{◌+◌, ◌≤◌, length, arith, length-drop, length-take}
use Rattle.wire.specs.Choose.{choose}
use Rattle.lecom.specs.Form.{data_least, data_most, closing}
use Rattle.lecom.specs.Frame.{write_right, data_of, data_read, data_right, ordered}
use Rattle.lecom.proofs.Frames.{write_holds}
use Rattle.lecom.proofs.frame.Frame.order_in.Goals as goal
use Rattle.lecom.proofs.frame.Frame.order_in.Goals.{Else-not-is_writable}

pub returns-then-not-self : goal.returns-then-not-self
unfolding write_right data_right ordered choose
returns-then-not-self c =
    let o = c.args.self.outlined in
    simp (told_false o.writes c.if-not-self.true, ← c.requires.1)

pub returns-then-not-is_writable : goal.returns-then-not-is_writable
unfolding write_right choose
returns-then-not-is_writable c =
    let o = c.args.self.outlined in
    simp (told_true o.writes c.if-not-self.false, ← c.requires.1, told_false c.is_writable.ensures c.if-not-is_writable.true)

-- the data stand between code and ETX, and are at most twelve characters
holds : (c : Else-not-is_writable) → (c.args.self.outline.end + data_least + closing ≤ length c.args.self.bytes.now) × (length c.args.self.bytes.now ≤ c.args.self.outline.end + data_most + closing)
holds c =
    let o = c.args.self.outlined in
    omega (arith, o.ends, write_holds c.args.self.bytes.now (told_true o.writes c.if-not-self.false) c.requires.0)

pub slice_bounds-parse-count : goal.slice_bounds-parse-count
slice_bounds-parse-count c = omega (arith, holds ((goal.at.slice_bounds-parse-count c).Else-not-is_writable))

pub slice_bounds-parse-start : goal.slice_bounds-parse-start
slice_bounds-parse-start c = omega (arith, holds ((goal.at.slice_bounds-parse-start c).Else-not-is_writable))

pub parse-requires : goal.parse-requires
parse-requires c = simp (length-take, length-drop) (omega (arith, holds ((goal.at.parse-requires c).Else-not-is_writable)))

pub returns : goal.returns
unfolding write_right data_right ordered data_read data_of choose
returns c =
    let o = c.args.self.outlined in
    let write = told_true o.writes c.if-not-self.false in
    let allowed = told_true c.is_writable.ensures c.if-not-is_writable.false in
    simp (write, ← c.requires.1, ← o.ends, allowed, ← c.parse.ensures) c.write_of.ensures
