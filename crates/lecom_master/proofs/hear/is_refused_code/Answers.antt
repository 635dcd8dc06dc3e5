-- `lecom_master::hear::is_refused_code` meets its contract, test by test. Assumes nothing.
use Rattle.std.proofs.Common.{◌∙◌}
use Rattle.lecom_master.proofs.Unknowns.{other_refused}
use Rattle.lecom_master.proofs.Codes.{standard_refused, extended_refused}
use Rattle.lecom_master.proofs.hear.is_refused_code.Goals as goal

pub returns-then-code-eq-STANDARD_HEX : goal.returns-then-code-eq-STANDARD_HEX
returns-then-code-eq-STANDARD_HEX c address most = c.is_standard_unknown.ensures ∙ standard_refused address most c.args.code.now c.if-code-eq-STANDARD_HEX.true

pub returns-then-code : goal.returns-then-code
returns-then-code c address most = c.is_extended_unknown.ensures ∙ extended_refused address most c.args.code.now c.if-code.true

pub returns : goal.returns
returns c address most = other_refused address c.args.code.now c.if-code-eq-STANDARD_HEX.false c.if-code.false
