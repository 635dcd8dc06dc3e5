-- `card::entries::set_code` meets its contract, test by test. Assumes nothing.
use Rattle.card.proofs.Replies.{did_silent, did_as}
use Rattle.card.proofs.Facts.{fit_facts}
use Rattle.card.specs.Reply.{guarded}
use Rattle.card.specs.Entries.{set_code, with_code}
use Rattle.wire.proofs.Cases.{yes, no, told_true, told_false}
use Rattle.std.proofs.Common.{refl, arith, le-ltb, lt-ltb}
use Rattle.card.proofs.entries.set_code.Goals as goal

pub returns-then-not-is_fit : goal.returns-then-not-is_fit
unfolding set_code guarded
returns-then-not-is_fit c = did_as _ _ (no _ _ _ _ (told_false c.is_fit.ensures c.if-not-is_fit.true) refl) (did_silent 12 _)

pub returns-then-channel : goal.returns-then-channel
unfolding set_code guarded
returns-then-channel c = did_as _ _ (yes _ _ _ _ (told_true c.is_fit.ensures c.if-not-is_fit.false) (no _ _ _ _ (le-ltb _ _ c.if-channel.true) refl)) (did_silent 6 _)

pub bounds-memory-channel : goal.bounds-memory-channel
bounds-memory-channel c = let f = fit_facts _ (told_true c.is_fit.ensures c.if-not-is_fit.false) in omega arith

pub returns : goal.returns
unfolding set_code guarded with_code
returns c = did_as _ _ (yes _ _ _ _ (told_true c.is_fit.ensures c.if-not-is_fit.false) (yes _ _ _ _ (lt-ltb _ _ c.if-channel.false) refl)) (did_silent 1 _)
