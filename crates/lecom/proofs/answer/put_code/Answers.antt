-- `lecom::answer::put_code` meets its contract: the code ends where its length says. Assumes nothing.
use Rattle.std.proofs.Common.{arith}
use Rattle.wire.proofs.Cases.{told_true, told_false}
use Rattle.lecom.proofs.Frames.{bounds, extended_code, standard_code}
use Rattle.lecom.proofs.answer.put_code.Goals as goal

pub overflow_add-at : goal.overflow_add-at
overflow_add-at c = omega (arith, bounds c.args.f.bytes.now)

pub overflow_add-at-then-f : goal.overflow_add-at-then-f
overflow_add-at-then-f c = omega (arith, bounds c.args.f.bytes.now)

pub put_code_at-requires : goal.put_code_at-requires
put_code_at-requires c =
    let o = c.args.f.outlined in
    ((o.starts, omega (arith, o.starts, extended_code c.args.f.bytes.now (told_true o.extends c.if-f.true))), (c.requires.0, c.requires.1))

pub overflow_add-at-2 : goal.overflow_add-at-2
overflow_add-at-2 c = omega (arith, bounds c.args.f.bytes.now)

pub put_code_at-requires-2 : goal.put_code_at-requires-2
put_code_at-requires-2 c =
    let o = c.args.f.outlined in
    ((o.starts, omega (arith, o.starts, standard_code c.args.f.bytes.now (told_false o.extends c.if-f.false))), (c.requires.0, c.requires.1))
