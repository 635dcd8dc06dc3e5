-- `Sheet::parse` meets its contract. Assumes nothing.
use Rattle.std.proofs.Common.{◌-◌, ◌≡◌, ◌∙◌, ap, true, arith, eq-eqb, ne_eqb, length, take, drop, length-drop, take_all}
use Rattle.wire.proofs.Cases.{cases, yes, no}
use Rattle.figures.specs.Signed.{figures_of, parsed_of}
use Rattle.figures.proofs.sheet.Sheet.parse.Goals as goal

pub returns-then-s-eq0 : goal.returns-then-s-eq0
unfolding parsed_of
returns-then-s-eq0 c = search cases

pub returns-then-s-eq-MINUS : goal.returns-then-s-eq-MINUS
unfolding parsed_of
returns-then-s-eq-MINUS c = let a = c.args in
    let rest : take (length a.s.now - 1) (drop 1 a.s.now) ≡ drop 1 a.s.now = take_all (length a.s.now - 1) (drop 1 a.s.now) (simp length-drop (omega arith)) in
    no _ _ _ _ (ne_eqb _ _ c.if-s-eq0.false) (yes _ _ _ _ (eq-eqb _ _ c.if-s-eq-MINUS.true) (c.parse_figures.ensures ∙ ap (figures_of a.bound true) rest))

pub returns : goal.returns
unfolding parsed_of
returns c = search cases
