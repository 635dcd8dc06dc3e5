-- `asking::hand_over` meets its contract. Assumes nothing.
use Rattle.std.proofs.Common.{refl, ◌∙◌, le-leb}
use borrow.Author.Tests.{lt-leb}
use Rattle.wire.proofs.Buffers.{put_front}
use Rattle.wire.proofs.Cases.{yes, no}
use Rattle.card.proofs.Replies.{told_as, wrote_none}
use Rattle.asking.specs.Made.{fitted}
use Rattle.asking.proofs.hand_over.Goals as goal

pub returns-then-out-len : goal.returns-then-out-len
unfolding fitted
returns-then-out-len c = told_as _ _ (no _ _ _ _ (lt-leb _ _ c.if-out-len.true) refl) (record { numbered = refl; wrote = wrote_none _ })

pub returns : goal.returns
unfolding fitted
returns c = told_as _ _ (yes _ _ _ _ (le-leb _ _ c.if-out-len.false) refl)
    (record { numbered = refl; wrote = record { measured = refl; written = c.copy.ensures ∙ put_front _ _ } })
