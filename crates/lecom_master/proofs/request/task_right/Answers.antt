-- `lecom_master::request::task_right` meets its contract, way by way. Assumes nothing.
use Rattle.std.proofs.Common.{ap, ◌∙◌}
use Rattle.lecom.specs.Form.{known}
use Rattle.lecom_master.specs.Request.{task_right}
use Rattle.lecom_master.proofs.request.task_right.Goals as goal

pub returns-in-Read : goal.returns-in-Read
unfolding task_right
returns-in-Read c = rw c.in-Read.is (c.is_known.ensures ∙ ap known c.named_by.ensures)
