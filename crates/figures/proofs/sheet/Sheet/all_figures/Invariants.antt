-- `Sheet::all_figures` meets its contract. The invariant: ok tells of the characters passed. Assumes nothing.
use Rattle.std.proofs.Common.{◌≡◌, ◌&&◌, drop}
use Rattle.figures.specs.Figure.{all_figures}
use Rattle.figures.proofs.sheet.Sheet.all_figures.Given as goal

abbrev pub invariant-loop-c : goal.invariant-loop-c
invariant-loop-c l = all_figures l.limit l.s ≡ (l.ok && all_figures l.limit (drop l.c-index l.s))
