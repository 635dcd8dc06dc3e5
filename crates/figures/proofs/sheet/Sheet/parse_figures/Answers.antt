-- `Sheet::parse_figures` meets its contract: what is no number is read as more than any bound. Assumes nothing.
use Rattle.std.proofs.Common.{◌∙◌, ap, not, arith}
use Rattle.std.proofs.lemmas.Bool.{ne_eqb}
use Rattle.wire.proofs.Cases.{cases, no}
use Rattle.figures.specs.Signed.{figures_of}
use Rattle.figures.proofs.Decimals.{read_some}
use Rattle.figures.proofs.Texts.{beyond_refused}
use Rattle.figures.proofs.sheet.Sheet.parse_figures.Goals as goal

pub returns-then-s-eq0 : goal.returns-then-s-eq0
unfolding figures_of
returns-then-s-eq0 c = search cases

pub returns-in_err-v : goal.returns-in_err-v
unfolding figures_of
returns-in_err-v c = let a = c.args in
    c.from_residual.ensures ∙ no _ _ _ _ (ne_eqb _ _ c.if-s-eq0.false) (beyond_refused a.bound a.s.now _ (omega (arith, c.in_err-v.ensures.read)))

pub returns-then-bound-v : goal.returns-then-bound-v
unfolding figures_of
returns-then-bound-v c = let a = c.args in
    no _ _ _ _ (ne_eqb _ _ c.if-s-eq0.false) (beyond_refused a.bound a.s.now _ (omega (arith, c.in_ok-v.ensures.read)))

pub returns : goal.returns
unfolding figures_of
returns c = let a = c.args in
    let v = c.in_ok-v in
    let read = read_some a.s.now (λ e. omega (arith, e, v.ensures.read, v.ensures.below)) in
    no _ _ _ _ (ne_eqb _ _ c.if-s-eq0.false)
    (no _ _ _ _ (ap not read.0) (rw (← read.1, ← v.ensures.read) (search cases)))
