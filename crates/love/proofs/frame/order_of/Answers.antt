-- `love::frame::order_of` meets its contract, test by test. Assumes nothing.
use Rattle.std.proofs.Common.{◌≡◌, sym, ap, ◌∙◌, true, false, not, List, ℕ, ◌≤◌, arith, eqb, length, ne_eqb}
use Rattle.wire.specs.Buffer.{part}
use Rattle.wire.proofs.Cases.{cases, told_true}
use Rattle.wire.proofs.Lengths.{between_facts}
use Rattle.figures.specs.Figure.{upper_hex, no_byte, byte_or_none, all_figures}
use Rattle.love.specs.Form.{shortest, longest, address_at, data_at}
use Rattle.love.specs.Frame.{byte_at, asked}
use Rattle.love.specs.Stages.{order_write, order_by, order_in, order_here}
use Rattle.love.proofs.Frames.{address_figures}
use Rattle.love.proofs.Exits.{handed_on}
use Rattle.love.proofs.frame.order_of.Goals as goal
use Rattle.love.proofs.frame.order_of.Goals.{Else-not-fits}

-- a frame of a right length has room for everything but data
long : (c : Else-not-fits) → shortest ≤ length c.args.f.now
long c = (between_facts shortest longest _ (told_true c.fits.ensures c.if-not-fits.false)).0

pub bounds-f-0 : goal.bounds-f-0
bounds-f-0 c = omega (arith, long ((goal.at.bounds-f-0 c).Else-not-fits))

pub overflow_sub-n : goal.overflow_sub-n
overflow_sub-n c = omega (arith, long ((goal.at.overflow_sub-n c).Else-not-fits))

pub bounds-f-n : goal.bounds-f-n
bounds-f-n c = omega (arith, long ((goal.at.bounds-f-n c).Else-not-fits))

pub byte_at-requires : goal.byte_at-requires
byte_at-requires c = omega (arith, long ((goal.at.byte_at-requires c).Else-not-fits))

-- the address figures are right exactly if they were read as a byte
figures : (f : List ℕ) (unit : ℕ) → shortest ≤ length f → unit ≡ byte_at upper_hex f address_at → all_figures upper_hex (part f address_at data_at) ≡ not (eqb unit no_byte)
figures f unit l read = address_figures f l ∙ ap (λ (u : ℕ). not (eqb u no_byte)) (sym read)

pub returns-in_err-unit : goal.returns-in_err-unit
unfolding asked
returns-in_err-unit c =
    let none = c.in_err-unit.ensures in
    let l = long ((goal.at.returns-in_err-unit c).Else-not-fits) in
    let wrong : all_figures upper_hex (part c.args.f.now address_at data_at) ≡ false = figures _ no_byte l (ap byte_or_none (sym none.ok_part) ∙ c.byte_at.ensures) in
    search (cases, wrong, handed_on _ _ _ _ none.ok_part none.value c.from_residual.ensures.1)

pub order_here-requires : goal.order_here-requires
order_here-requires c =
    let l = long ((goal.at.order_here-requires c).Else-not-fits) in
    (l, ap byte_or_none (sym c.in_ok-unit.ensures.ok_part) ∙ c.byte_at.ensures)

pub returns : goal.returns
unfolding asked order_here order_in order_by order_write
returns c =
    let l = long ((goal.at.returns c).Else-not-fits) in
    let read = ap byte_or_none (sym c.in_ok-unit.ensures.ok_part) ∙ c.byte_at.ensures in
    let right : all_figures upper_hex (part c.args.f.now address_at data_at) ≡ true = figures _ c.in_ok-unit.unit l read ∙ ap not (ne_eqb c.in_ok-unit.unit no_byte (λ e. omega arith)) in
    search (cases, right)
