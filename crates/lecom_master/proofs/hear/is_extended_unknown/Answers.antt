-- `lecom_master::hear::is_extended_unknown` meets its contract, pair by pair. Assumes nothing.
use Rattle.std.proofs.Common.{◌+◌, not, ◌≡◌, sym, refl, ap, ◌∙◌, arith, eq-eqb, ne_eqb}
use Rattle.wire.proofs.Cases.{yes, no}
use Rattle.wire.proofs.Tests.{or_true_right}
use Rattle.figures.specs.Figure.{no_byte, byte_or_none}
use Rattle.lecom.specs.Form.{standard_at, subcode_at, named_by, known}
use Rattle.lecom.specs.Frame.{pair_in, quad_in}
use Rattle.lecom_master.specs.Stages.{extended_unknown}
use Rattle.lecom_master.proofs.hear.is_extended_unknown.Goals as goal
use Rattle.lecom_master.proofs.hear.is_extended_unknown.Goals.{In-Some-pair_in-2}

pub returns-then-code-ne-EXTENDED : goal.returns-then-code-ne-EXTENDED
unfolding extended_unknown
returns-then-code-ne-EXTENDED c = no _ _ _ _ (ne_eqb _ _ c.if-code-ne-EXTENDED.true) refl

pub returns-in_default : goal.returns-in_default
unfolding extended_unknown
returns-in_default c =
    let none = sym (sym (ap byte_or_none c.in_default.is) ∙ c.pair_in.ensures) in
    yes _ _ _ _ (eq-eqb _ _ c.if-code-ne-EXTENDED.false) (yes _ _ _ _ (rw (eq-eqb _ _ none)) refl)

pub returns-in_default-pair_in : goal.returns-in_default-pair_in
unfolding extended_unknown
returns-in_default-pair_in c =
    let none = sym (sym (ap byte_or_none c.in_default-pair_in.is) ∙ c.pair_in-2.ensures) in
    yes _ _ _ _ (eq-eqb _ _ c.if-code-ne-EXTENDED.false) (yes _ _ _ _ (rw (eq-eqb _ _ none) (or_true_right _)) refl)

pub returns-in_default-pair_in-2 : goal.returns-in_default-pair_in-2
unfolding extended_unknown
returns-in_default-pair_in-2 c =
    let none = sym (sym (ap byte_or_none c.in_default-pair_in-2.is) ∙ c.pair_in-3.ensures) in
    yes _ _ _ _ (eq-eqb _ _ c.if-code-ne-EXTENDED.false) (yes _ _ _ _ (rw (eq-eqb _ _ none, or_true_right) (or_true_right _)) refl)

-- the three pairs, as they are read
first : (c : In-Some-pair_in-2) → c.in-Some.first ≡ pair_in c.args.code.now 1
first c = sym (ap byte_or_none c.in-Some.is) ∙ c.pair_in.ensures

second : (c : In-Some-pair_in-2) → c.in-Some-pair_in.second ≡ pair_in c.args.code.now (1 + standard_at)
second c = sym (ap byte_or_none c.in-Some-pair_in.is) ∙ c.pair_in-2.ensures

subcode : (c : In-Some-pair_in-2) → c.in-Some-pair_in-2.subcode ≡ pair_in c.args.code.now (1 + subcode_at)
subcode c = sym (ap byte_or_none c.in-Some-pair_in-2.is) ∙ c.pair_in-3.ensures

pub returns-then-subcode-ne0 : goal.returns-then-subcode-ne0
unfolding extended_unknown
returns-then-subcode-ne0 c =
    let f = c.args.code.now in
    let read = (goal.at.returns-then-subcode-ne0 c).In-Some-pair_in-2 in
    let a = first read in
    let b = second read in
    let d = subcode read in
    yes _ _ _ _ (eq-eqb _ _ c.if-code-ne-EXTENDED.false)
    (no _ _ _ _ (rw (ne_eqb (pair_in f 1) no_byte (λ e. omega (arith, a, e)), ne_eqb (pair_in f (1 + standard_at)) no_byte (λ e. omega (arith, b, e)), ne_eqb (pair_in f (1 + subcode_at)) no_byte (λ e. omega (arith, d, e))))
    (no _ _ _ _ (ne_eqb _ _ (λ e. c.if-subcode-ne0.true (d ∙ e))) refl))

pub returns : goal.returns
unfolding extended_unknown quad_in
returns c =
    let f = c.args.code.now in
    let read = (goal.at.returns c).In-Some-pair_in-2 in
    let a = first read in
    let b = second read in
    let d = subcode read in
    yes _ _ _ _ (eq-eqb _ _ c.if-code-ne-EXTENDED.false)
    (no _ _ _ _ (rw (ne_eqb (pair_in f 1) no_byte (λ e. omega (arith, a, e)), ne_eqb (pair_in f (1 + standard_at)) no_byte (λ e. omega (arith, b, e)), ne_eqb (pair_in f (1 + subcode_at)) no_byte (λ e. omega (arith, d, e))))
    (yes _ _ _ _ (eq-eqb _ _ (sym d ∙ c.if-subcode-ne0.false))
    (ap not (c.is_known.ensures ∙ ap known (c.named_by.ensures ∙ ap named_by (omega (arith, a, b, c.from_be_bytes.ensures)))))))
