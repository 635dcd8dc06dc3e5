-- `lucid_master::request::is_askable` meets its contract, command by command. Assumes nothing.
use Rattle.std.proofs.Common.{sym}
use Rattle.lucid_master.proofs.Requests.{ask_get, ask_get_group, ask_set, ask_get_param, ask_reset}
use Rattle.lucid_master.proofs.request.is_askable.Goals as goal

pub returns-in-GetIo : goal.returns-in-GetIo
returns-in-GetIo c = let a = c.args in
    rw (c.channel_right.ensures, c.get_right.ensures) (sym (ask_get a.request a.values.now c.in-GetIo.is))

pub returns-in-GetIoGroup : goal.returns-in-GetIoGroup
returns-in-GetIoGroup c = let a = c.args in
    rw (c.mask_right.ensures, c.get_right-in-GetIoGroup.ensures) (sym (ask_get_group a.request a.values.now c.in-GetIoGroup.is))

pub returns-in-SetIo : goal.returns-in-SetIo
returns-in-SetIo c = let a = c.args in
    rw (c.channel_right-in-SetIo.ensures, c.set_right.ensures) (sym (ask_set a.request a.values.now c.in-SetIo.is))

pub returns-in-GetParam : goal.returns-in-GetParam
returns-in-GetParam c = let a = c.args in
    rw (c.channel_right-in-GetParam.ensures, c.addressed_right.ensures) (sym (ask_get_param a.request a.values.now c.in-GetParam.is))

pub returns-in-Reset : goal.returns-in-Reset
returns-in-Reset c = let a = c.args in
    rw (c.channel_right-in-Reset.ensures, c.addressed_right-in-Reset.ensures) (sym (ask_reset a.request a.values.now c.in-Reset.is))
