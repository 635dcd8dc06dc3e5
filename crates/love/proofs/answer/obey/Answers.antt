-- `love::answer::obey` meets its contract: each order by what its reply was written as. Assumes nothing.
use Rattle.std.proofs.Common.{refl, ◌<◌, arith}
use Rattle.card.specs.Layout.{love_count}
use Rattle.card.proofs.Replies.{wrote_none, gave_leaving}
use Rattle.love.specs.Answer.{obeyed}
use Rattle.love.proofs.answer.obey.Goals as goal
use Rattle.love.proofs.answer.obey.Goals.{In-Ok-Read, In-Ok-Write}

-- the parameter that a read or a write names is one of the four
read-sound : (c : In-Ok-Read) → c.in-Ok-Read.k < love_count
read-sound c = rw (c.in-Ok-Read.is, rw c.in-Ok-Read.is at c.in-Ok-Read.field-0-is) at c.requires.0.0

write-sound : (c : In-Ok-Write) → c.in-Ok-Write.k < love_count
write-sound c = (rw (c.in-Ok-Write.is, rw c.in-Ok-Write.is at c.in-Ok-Write.field-0-is) at c.requires.0.0).0

pub overflow_add-k : goal.overflow_add-k
overflow_add-k c = omega (arith, read-sound ((goal.at.overflow_add-k c).In-Ok-Read))

pub offset_bounds-words-k : goal.offset_bounds-words-k
offset_bounds-words-k c = omega (arith, read-sound ((goal.at.offset_bounds-words-k c).In-Ok-Read))

pub bounds-words-k : goal.bounds-words-k
bounds-words-k c = omega (arith, read-sound ((goal.at.bounds-words-k c).In-Ok-Read))

pub store-requires : goal.store-requires
store-requires c = (c.requires.0.1.0, write-sound ((goal.at.store-requires c).In-Ok-Write))

pub returns-in-Err-Silent : goal.returns-in-Err-Silent
unfolding obeyed
returns-in-Err-Silent c = rw (c.in-Err-Silent.is, rw c.in-Err-Silent.is at c.in-Err-Silent.field-0-is) (gave_leaving _ _ _ (record { numbered = refl; wrote = wrote_none _ }))

pub returns-in-Err-Refused : goal.returns-in-Err-Refused
unfolding obeyed
returns-in-Err-Refused c =
    rw (c.in-Err-Refused.is, rw c.in-Err-Refused.is at c.in-Err-Refused.field-0-is, ← c.requires.0.1.1) (gave_leaving _ _ _ (record { numbered = refl; wrote = c.put_error-len.ensures }))

pub returns-in-Ok-Probe : goal.returns-in-Ok-Probe
unfolding obeyed
returns-in-Ok-Probe c =
    let told = c.answered.ensures in
    rw (c.in-Ok-Probe.is, rw c.in-Ok-Probe.is at c.in-Ok-Probe.field-0-is, ← c.requires.0.1.1, told.1) (gave_leaving _ _ _ (record { numbered = told.0; wrote = c.put_probe.ensures }))

pub returns-in-Ok-Read : goal.returns-in-Ok-Read
unfolding obeyed
returns-in-Ok-Read c =
    let told = c.answered-in-Ok-Read.ensures in
    rw (c.in-Ok-Read.is, rw c.in-Ok-Read.is at c.in-Ok-Read.field-0-is, ← c.requires.0.1.1, told.1) (gave_leaving _ _ _ (record { numbered = told.0; wrote = c.put_value.ensures }))

pub returns-in-Ok-Write : goal.returns-in-Ok-Write
unfolding obeyed
returns-in-Ok-Write c =
    let told = c.answered-in-Ok-Write.ensures in
    rw (c.in-Ok-Write.is, rw c.in-Ok-Write.is at c.in-Ok-Write.field-0-is, c.store.ensures, ← c.requires.0.1.1, told.1) (gave_leaving _ _ _ (record { numbered = told.0; wrote = c.put_written.ensures }))
