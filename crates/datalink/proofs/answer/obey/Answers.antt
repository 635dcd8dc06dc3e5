-- `datalink::answer::obey` meets its contract, order by order. Assumes nothing.
use Rattle.std.proofs.Common.{sym, refl, subst, arith}
use Rattle.card.proofs.Replies.{gave_silent, gave_did, same_card}
use Rattle.datalink.specs.Answer.{obeyed, interrogated, shown, echoed, pended, ia_of}
use Rattle.datalink.specs.Stages.{Sound}
use Rattle.datalink.proofs.Frames.{asked_sound}
use Rattle.datalink.proofs.answer.obey.Goals as goal

pub interrogate-requires : goal.interrogate-requires
interrogate-requires c =
    let sound = subst (Sound c.args.f.now) (sym c.requires.1) (asked_sound c.args.f.now _) in
    let k = rw (c.in-Ok-Interrogate.is, rw c.in-Ok-Interrogate.is at c.in-Ok-Interrogate.field-0-is) at sound in
    ((c.requires.0.0.ia, omega (arith, k.0)), ((k.1.0, k.1.1.0), (k.1.1.1, (c.requires.0.0.memory_length, c.requires.0.1))))

pub echo-requires : goal.echo-requires
echo-requires c =
    let sound = subst (Sound c.args.f.now) (sym c.requires.1) (asked_sound c.args.f.now _) in
    let k = rw (c.in-Ok-Change.is, rw c.in-Ok-Change.is at c.in-Ok-Change.field-0-is) at sound in
    ((c.requires.0.0.ia, k.0), (k.1.0, (c.requires.0.0.ports_length, c.requires.0.1)))

pub returns-in-Err : goal.returns-in-Err
unfolding obeyed
returns-in-Err c = rw c.in-Err.is (gave_silent _ _ _)

pub returns-in-Ok-Change : goal.returns-in-Ok-Change
unfolding obeyed echoed pended ia_of
returns-in-Ok-Change c =
    let w = c.echo.ensures in
    rw (c.in-Ok-Change.is, rw c.in-Ok-Change.is at c.in-Ok-Change.field-0-is) (record { numbered = refl; measured = w.0.measured; written = w.0.written; left = same_card refl refl w.1 })

pub returns-in-Ok-Acknowledge : goal.returns-in-Ok-Acknowledge
unfolding obeyed
returns-in-Ok-Acknowledge c = rw (c.in-Ok-Acknowledge.is, rw c.in-Ok-Acknowledge.is at c.in-Ok-Acknowledge.field-0-is) (gave_did _ _ c.acknowledge.ensures)

pub returns-in-Ok-Interrogate : goal.returns-in-Ok-Interrogate
unfolding obeyed interrogated shown ia_of
returns-in-Ok-Interrogate c =
    let w = c.interrogate.ensures in
    rw (c.in-Ok-Interrogate.is, rw c.in-Ok-Interrogate.is at c.in-Ok-Interrogate.field-0-is) (record { numbered = refl; measured = w.measured; written = w.written; left = refl })
