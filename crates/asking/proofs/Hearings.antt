-- What is heard by a comparison's number. Assumes nothing.
use Rattle.std.proofs.Common.{◌≡◌, ℕ, Ok, Err, sym, refl}
use Rattle.wire.specs.Choose.{choose}
use Rattle.asking.specs.declared.hearing.Unread.{Unread as Why}
use Rattle.asking.specs.declared.hearing.Unread.TheVariants.{Form, Check, Request}
use Rattle.asking.specs.Hearing.{Hearing, heard_by, outcome_of, number_in}
use Rattle.asking.specs.Hearing.Hearing.{Unread}

-- a reply that is the answer says what the answer says
pub heard_passed : {number : ℕ} {u : Unit} (said : Hearing) → outcome_of (Ok u) ≡ number → heard_by number said ≡ said
unfolding heard_by choose
heard_passed said e = rw (sym e) refl

-- any other says why it does not
pub heard_unread : {number : ℕ} (why : Why) (said : Hearing) → outcome_of (Err why) ≡ number → heard_by number said ≡ Unread (number_in why)
unfolding heard_by choose
heard_unread Form said e = rw (sym e) refl
heard_unread Check said e = rw (sym e) refl
heard_unread Request said e = rw (sym e) refl
