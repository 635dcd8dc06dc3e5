-- `figures::put_pair` meets its contract: two stores are a list of two put there. Assumes nothing.
use Rattle.std.proofs.Common.{[], ◌∷◌, add-one, rules}
use Rattle.wire.proofs.Buffers.{put_sets}
use Rattle.figures.specs.Figure.{pair_of}
use Rattle.figures.proofs.put_pair.Goals as goal

pub returns : goal.returns
unfolding pair_of
returns c = let a = c.args in
    rw (c.figure_char.ensures, c.figure_char-2.ensures) (rw add-one (put_sets (_ ∷ _ ∷ []) a.out.now a.at (search rules)))
