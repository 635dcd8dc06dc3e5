-- What Love's master may ask, and the frame that it makes. Document 02, M-102, with document 01, "Love".
-- STX, filter, two upper-case address figures, data, two checksum figures, ETX. "A host checksum adds address and data characters".
use Rattle.std.specs.Prelude.{ℕ, ◌+◌, ◌%◌, Bool, true, ◌&&◌, List, [], ◌∷◌, ◌++◌, ◌==◌, nat_lt}
use Rattle.wire.specs.Choose.{choose}
use Rattle.wire.specs.Sum.{sum_of}
use Rattle.figures.specs.Figure.{pair_of}
use Rattle.figures.specs.Decimal.{digits}
use Rattle.figures.specs.Signed.{is_negative, magnitude}
use Rattle.card.specs.Layout.{love_at, love_count}
use Rattle.card.specs.Fitness.{in_range, love_right, love_hundred}
use Rattle.love.specs.Form.{stx, etx, data_at, tail, write_length, filter_of, status_command, read_command, write_command, sp1, sp2, allo, alhi, plus_sign, minus_sign}
use Rattle.love.specs.Answer.{figure_count}
use Rattle.love_master.specs.declared.request.Task.{Task}
use Rattle.love_master.specs.declared.request.Task.TheVariants.{Status, Read, Write}
use Rattle.love_master.specs.declared.request.Request.{Request}

-- "the .. parameter .. or number lies outside document 01": a place is that of SP1, SP2, ALLO, ALHI, from 0 on
unfoldable pub task_right : Task → Bool
task_right Status = true
task_right (Read place) = nat_lt place love_count
task_right (Write place value) = nat_lt place love_count && in_range (love_at + place) value

-- every other request is 7
unfoldable pub askable : Request → Bool
askable q = love_right q.address && task_right q.task

-- the second half of a command: ..00, ..02, ..04 and ..05
unfoldable pub half_of : ℕ → ℕ
half_of place =
    choose (place == 0) sp1
    (choose (place == 1) sp2
    (choose (place == 2) allo
    alhi))

-- "sign 00 or FF"; of zero and of the two ways to write FF the lower one
abbrev pub sign_of : ℕ → ℕ
sign_of value = choose (is_negative value) minus_sign plus_sign

-- "00"; "0100, 0102, 0104, 0105 read"; "0200, 0202, 0204, 0205 write", "four decimal figures, then sign"
unfoldable pub data_of : Task → List ℕ
data_of Status = pair_of status_command
data_of (Read place) = pair_of read_command ++ pair_of (half_of place)
data_of (Write place value) = pair_of write_command ++ (pair_of (half_of place) ++ (digits figure_count (magnitude value) ++ pair_of (sign_of value)))

-- what the checksum adds: address and data characters
unfoldable pub body : Request → List ℕ
body q = pair_of (q.address % love_hundred) ++ data_of q.task

-- the longest frame that is made, a write: how many bytes it has
abbrev pub made_longest : ℕ
made_longest = data_at + write_length + tail

-- the frame of a request
unfoldable pub made : Request → List ℕ
made q = stx ∷ filter_of q.address ∷ (body q ++ (pair_of (sum_of (body q)) ++ (etx ∷ [])))
