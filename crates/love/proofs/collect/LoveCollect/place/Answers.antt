-- `love::collect::LoveCollect::place` meets its contract, test by test. Assumes nothing.
use Rattle.std.proofs.Common.{sym, arith}
use Prim.{tt}
use Rattle.wire.proofs.Cases.{cases}
use Rattle.receiver.specs.Step.{grown}
use Rattle.love.specs.Receiver.{step}
use Rattle.love.proofs.collect.LoveCollect.place.Goals as goal

pub returns-then-b-eq-STX : goal.returns-then-b-eq-STX
unfolding step
returns-then-b-eq-STX c = record { fate = sym (search cases); room = tt }

pub returns-then-n-eq0 : goal.returns-then-n-eq0
unfolding step
returns-then-n-eq0 c = record { fate = sym (search cases); room = tt }

pub returns-then-n-ge-LONGEST : goal.returns-then-n-ge-LONGEST
unfolding step grown
returns-then-n-ge-LONGEST c = record { fate = sym (search cases); room = tt }

pub returns-then-b-eq-ETX : goal.returns-then-b-eq-ETX
unfolding step grown
returns-then-b-eq-ETX c = record { fate = sym (search cases); room = omega arith }

pub returns : goal.returns
unfolding step grown
returns c = record { fate = sym (search cases); room = omega arith }
