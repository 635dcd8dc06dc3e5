-- `lecom_master::hear::is_standard_unknown` meets its contract, test by test. Assumes nothing.
use Rattle.std.proofs.Common.{not, sym, refl, ap, ◌∙◌, arith, eq-eqb, ne_eqb}
use Rattle.figures.specs.Figure.{byte_or_none}
use Rattle.wire.proofs.Cases.{yes, no}
use Rattle.lecom.specs.Form.{named_by, known}
use Rattle.lecom_master.specs.Stages.{standard_unknown}
use Rattle.lecom_master.proofs.hear.is_standard_unknown.Goals as goal

pub returns-in_default : goal.returns-in_default
unfolding standard_unknown
returns-in_default c = yes _ _ _ _ (eq-eqb _ _ (sym (sym (ap byte_or_none c.in_default.is) ∙ c.pair_in.ensures))) refl

pub returns : goal.returns
unfolding standard_unknown
returns c =
    let pair = sym (ap byte_or_none c.in-Some.is) ∙ c.pair_in.ensures in
    no _ _ _ _ (ne_eqb _ _ (λ e. omega (arith, pair, e)))
    (ap not (c.is_known.ensures ∙ ap known (c.named_by.ensures ∙ ap named_by pair)))
