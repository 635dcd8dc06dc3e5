-- `card::fitness::fit_registers` meets its contract: the test of the three copies is that of each. Assumes nothing.
use Rattle.card.proofs.Scans.{all_in_thirds}
use Rattle.card.specs.Fitness.{register_most}
use Rattle.card.specs.Scans.{all_in}
use Rattle.card.specs.Layout.{registers}
use Rattle.wire.specs.Word.{minus}
use Rattle.std.proofs.Common.{◌≡◌, ◌-◌, ◌*◌, length, take, drop, sym, arith, length-drop, length-take-le, take_all}
use Rattle.card.proofs.fitness.fit_registers.Goals as goal

pub slice_bounds-all_in-end : goal.slice_bounds-all_in-end
slice_bounds-all_in-end c = sym (length-take-le registers c.args.s.now (omega arith))

pub returns : goal.returns
returns c = let s = c.args.s.now in
    let last : take (length s - 2 * registers) (drop (2 * registers) s) ≡ drop (2 * registers) s = take_all (length s - 2 * registers) (drop (2 * registers) s) (simp length-drop (omega arith)) in
    let saved : c.all_in-saved.result ≡ all_in (minus register_most) register_most (drop (2 * registers) s) = rw last at c.all_in-saved.ensures in
    rw (c.all_in-buffer.ensures, c.all_in-operational.ensures, saved) (sym (all_in_thirds (minus register_most) register_most registers s))
