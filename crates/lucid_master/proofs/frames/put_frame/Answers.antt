-- `lucid_master::frames::put_frame` meets its contract, command by command. Assumes nothing.
use Rattle.std.proofs.Common.{sym, arith}
use Rattle.card.proofs.Replies.{wrote_as}
use Rattle.lucid_master.proofs.Requests.{headed, few, one_value}
use Rattle.lucid_master.proofs.Made.{made_bare, made_set, made_addressed, made_set_param}
use Rattle.lucid_master.proofs.frames.put_frame.Goals as goal

pub overflow_cast-head : goal.overflow_cast-head
overflow_cast-head c = omega (arith, (headed c.args.request c.args.values.now c.requires.0).p1)

pub overflow_cast-head-2 : goal.overflow_cast-head-2
overflow_cast-head-2 c = omega (arith, (headed c.args.request c.args.values.now c.requires.0).p2)

pub put_set-requires : goal.put_set-requires
put_set-requires c = (omega (arith, few c.args.request c.args.values.now c.requires.0), c.requires.1)

pub bounds-values-0 : goal.bounds-values-0
bounds-values-0 c = omega (arith, one_value c.args.request c.args.values.now c.in-SetParam.is c.requires.0)

pub returns-in-GetIo : goal.returns-in-GetIo
returns-in-GetIo c = let a = c.args in
    wrote_as _ _ (sym (made_bare a.request a.values.now c.in-GetIo.is)) (rw c.opc.ensures at c.put_bare.ensures)

pub returns-in-SetIo : goal.returns-in-SetIo
returns-in-SetIo c = let a = c.args in
    wrote_as _ _ (sym (made_set a.request a.values.now c.in-SetIo.is)) (rw c.opc.ensures at c.put_set.ensures)

pub returns-in-GetParam : goal.returns-in-GetParam
returns-in-GetParam c = let a = c.args in
    wrote_as _ _ (sym (made_addressed a.request a.values.now c.in-GetParam.is)) (rw c.opc.ensures at c.put_addressed.ensures)

pub returns-in-SetParam : goal.returns-in-SetParam
returns-in-SetParam c = let a = c.args in
    wrote_as _ _ (sym (made_set_param a.request a.values.now c.in-SetParam.is)) (rw c.opc.ensures at c.put_set_param.ensures)
