-- `lecom::frame::bcc` meets its contract: what is folded of a front of the bytes is that front's check character. Assumes nothing.
use Rattle.std.proofs.Common.{◌≡◌, subst, refl, rules}
use Rattle.std.proofs.lemmas.Fn.{fold_over, slice_gives, fronts}
use Rattle.lecom.specs.Frame.{xor_from, bcc_of}
use Rattle.lecom.proofs.Frames.{xor_push}
use Rattle.lecom.proofs.frame.bcc.Goals as goal

pub returns : goal.returns
unfolding bcc_of xor_from
returns c = subst (λ l. c.fold.result ≡ xor_from 0 l) c.iter.ensures.rest
    (fold_over fronts (λ y. y.now) _ (λ ys x. x ≡ xor_from 0 ys) _ (λ ys a x b f' j k. let more = xor_push 0 ys x.now in search rules)
    _ _ _ _ (slice_gives c.iter.result) refl c.fold.ensures.ran)
