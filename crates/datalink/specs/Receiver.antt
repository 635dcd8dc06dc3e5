-- Document 02, M-100: Datalink's receiver. "Datalink starts at 7Eh and takes its length from command and NUM; an unknown command (20h is one) or
-- NUM above 32 drops what was collected, that byte included."
use Rattle.std.specs.Prelude.{ℕ, ◌+◌, Bool, ◌&&◌, ◌||◌, List, [], ◌∷◌, ◌++◌, length, ◌==◌, nat_le, nat_lt, slice_index}
use Rattle.wire.specs.Choose.{choose}
use Rattle.receiver.specs.Step.{Fate}
use Rattle.receiver.specs.Step.Fate.{Kept, Dropped, Finished}
use Rattle.card.specs.Layout.{data_most}
use Rattle.datalink.specs.Form.{longest, start, second_at, frame_num_at, acknowledge_size, bare_size}
use Rattle.datalink.specs.Frame.{command_in, command_known, is_acknowledge, kind_in, num_in, carried}

-- a test of what stands at a place, once it has come
unfoldable pub once_come : ℕ → List ℕ → Bool → Bool
once_come place f test = nat_le (length f) place || test

-- what has come starts with 7Eh, has a known command, and a NUM of at most 32 (an Acknowledge ends before NUM)
unfoldable pub starts_right : List ℕ → Bool
starts_right f = slice_index f 0 == start && (once_come second_at f (command_known (command_in f)) && once_come frame_num_at f (nat_le (num_in f) data_most))

-- the frame's length by command and NUM; until they have come, the longest
unfoldable pub wanted : List ℕ → ℕ
wanted f =
    choose (nat_le (length f) second_at) longest
    (choose (is_acknowledge f) acknowledge_size
    (choose (nat_le (length f) frame_num_at) longest
    (bare_size + carried (kind_in f) (num_in f))))

-- what becomes of the bytes collected, with the one that came last
unfoldable pub judged : List ℕ → Fate
judged f = choose (starts_right f) (choose (nat_le (wanted f) (length f)) (Finished f) (Kept f)) Dropped

unfoldable pub step : List ℕ → ℕ → Fate
step part b = judged (part ++ (b ∷ []))

-- the part frames within these rules
unfoldable pub held : List ℕ → Bool
held part = length part == 0 || (starts_right part && nat_lt (length part) (wanted part))
