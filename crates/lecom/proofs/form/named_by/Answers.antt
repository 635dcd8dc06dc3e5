-- `lecom::form::named_by` meets its contract, arm by arm. Assumes nothing.
use Rattle.wire.proofs.Cases.{cases}
use Rattle.lecom.specs.Form.{named_by}
use Rattle.lecom.proofs.form.named_by.Goals as goal

pub returns-in-0-to-95 : goal.returns-in-0-to-95
unfolding named_by
returns-in-0-to-95 c = search cases

pub returns-in-96-to-99 : goal.returns-in-96-to-99
unfolding named_by
returns-in-96-to-99 c = search cases

pub returns-in-103 : goal.returns-in-103
unfolding named_by
returns-in-103 c = search cases

pub returns-in-104 : goal.returns-in-104
unfolding named_by
returns-in-104 c = search cases

pub returns-in_default : goal.returns-in_default
unfolding named_by
returns-in_default c = search cases
