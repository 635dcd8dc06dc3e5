-- What `make` gives. Document 02, M-102: "7 exactly if the address, register, .. or number lies outside document 01 ..; then 11 exactly if the
-- request does not fit the buffer lent".
use Rattle.std.specs.Prelude.{ℕ, Bool, List, [], length, nat_le}
use Rattle.wire.specs.Choose.{choose}
use Rattle.card.specs.Numbers.{answered, value_outside, buffer_short}
use Rattle.card.specs.Reply.{Answer}

-- a frame into a buffer of room bytes
unfoldable pub fitted : List ℕ → ℕ → Answer
fitted frame room = choose (nat_le (length frame) room) (record { number = answered; bytes = frame }) (record { number = buffer_short; bytes = [] })

-- the frame of a request that is askable
unfoldable pub making : Bool → List ℕ → ℕ → Answer
making askable frame room = choose askable (fitted frame room) (record { number = value_outside; bytes = [] })
