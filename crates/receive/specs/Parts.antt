-- The part frames in the port's row, and which are within the rules. Document 02, M-100.
use Rattle.std.specs.Prelude.{ℕ, ◌+◌, Bool, ◌&&◌, List, leb, take, drop}
use Rattle.receiver.specs.Step.{Step}
use Rattle.card.specs.Layout.{count_size, datalink_part_at, lecom_part_at, love_part_at, lucid_part_at}
use Rattle.card.specs.Row.{count_at}
use Rattle.datalink.specs.Form as datalinkForm
use Rattle.datalink.specs.Receiver as datalinkReceiver
use Rattle.lecom.specs.Form as lecomForm
use Rattle.lecom.specs.Receiver as lecomReceiver
use Rattle.love.specs.Form as loveForm
use Rattle.love.specs.Receiver as loveReceiver
use Rattle.lucid.specs.Form as lucidForm
use Rattle.lucid.specs.Receiver as lucidReceiver
use Rattle.receive.specs.declared.Dialect.{Dialect}
use Rattle.receive.specs.declared.Dialect.TheVariants.{Datalink, Lecom, Love, Lucid}

-- a dialect's step, its longest frame, the part frames within its rules, and where its part frame stands in the row
abbrev pub step_of : Dialect → Step
step_of Datalink = datalinkReceiver.step
step_of Lecom = lecomReceiver.step
step_of Love = loveReceiver.step
step_of Lucid = lucidReceiver.step

abbrev pub longest_of : Dialect → ℕ
longest_of Datalink = datalinkForm.longest
longest_of Lecom = lecomForm.longest
longest_of Love = loveForm.longest
longest_of Lucid = lucidForm.longest

abbrev pub held_by : Dialect → List ℕ → Bool
held_by Datalink = datalinkReceiver.held
held_by Lecom = lecomReceiver.held
held_by Love = loveReceiver.held
held_by Lucid = lucidReceiver.held

abbrev pub part_at : Dialect → ℕ
part_at Datalink = datalink_part_at
part_at Lecom = lecom_part_at
part_at Love = love_part_at
part_at Lucid = lucid_part_at

-- its bytes stand behind its count
abbrev pub bytes_at : Dialect → ℕ
bytes_at d = part_at d + count_size

-- the first n bytes there
abbrev pub front : Dialect → ℕ → List ℕ → List ℕ
front d n row = take n (drop (bytes_at d) row)

-- the part frame
abbrev pub part_of : Dialect → List ℕ → List ℕ
part_of d row = front d (count_at (part_at d) row) row

-- a "receiver state" within these rules
unfoldable pub within : Dialect → List ℕ → Bool
within d row = leb (count_at (part_at d) row) (longest_of d) && held_by d (part_of d row)

unfoldable pub all_within : List ℕ → Bool
all_within row = within Datalink row && (within Lecom row && (within Love row && within Lucid row))
