-- `lecom::frame::Frame::size_and_end_right` meets its contract, form by form. Assumes nothing.
use Rattle.std.proofs.Common.{◌+◌, ◌-◌, eqb, length, get_or, arith}
use Rattle.std.proofs.Math.Bool.{and_comm}
use Rattle.wire.specs.Choose.{choose}
use Rattle.wire.proofs.Cases.{told_true, told_false}
use Rattle.lecom.proofs.Frames.{bounds}
use Rattle.lecom.specs.Form.{enq}
use Rattle.lecom.specs.Frame.{code_end, size_right, end_right}
use Rattle.lecom.proofs.frame.Frame.size_and_end_right.Goals as goal

pub overflow_add-least : goal.overflow_add-least
overflow_add-least c = omega (arith, bounds c.args.self.bytes.now)

pub overflow_add-least-then-self : goal.overflow_add-least-then-self
overflow_add-least-then-self c = omega (arith, bounds c.args.self.bytes.now)

pub overflow_add-most : goal.overflow_add-most
overflow_add-most c = omega (arith, bounds c.args.self.bytes.now)

pub overflow_add-most-then-self : goal.overflow_add-most-then-self
overflow_add-most-then-self c = omega (arith, bounds c.args.self.bytes.now)

pub returns-then-self : goal.returns-then-self
unfolding size_right end_right choose
returns-then-self c =
    let o = c.args.self.outlined in
    let write = told_true o.writes c.if-self.true in
    rw (write, o.ends)

pub overflow_add-result : goal.overflow_add-result
overflow_add-result c = omega (arith, bounds c.args.self.bytes.now)

pub returns : goal.returns
unfolding size_right end_right choose
returns c =
    let o = c.args.self.outlined in
    let read = told_false o.writes c.if-self.false in
    let f = c.args.self.bytes.now in
    rw (read, o.ends) (and_comm (eqb (get_or f (length f - 1) 0) enq) (eqb (length f) (code_end f + 1)))
