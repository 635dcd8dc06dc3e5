-- A reply against an answer that document 01 has. The check characters are `size` bytes, `back` bytes from the end.
use Rattle.std.specs.Prelude.{ℕ, ◌+◌, ◌-◌, Bool, ◌&&◌, List, length, take, drop, ◌==◌}
use Rattle.wire.specs.Choose.{choose}
use Rattle.wire.specs.Buffer.{part, same}
use Rattle.card.specs.Numbers.{done, frame_form, check_character}

-- the same before an index and from another one on
unfoldable pub alike : ℕ → ℕ → List ℕ → List ℕ → Bool
alike at end r answer = same (take at r) (take at answer) && same (drop end r) (drop end answer)

-- 3 if it differs in length, before the check characters or behind them; 4 if it differs in them alone; 1 if it is the answer
unfoldable pub against : ℕ → ℕ → List ℕ → List ℕ → ℕ
against back size r answer =
    let at = length answer - back in
    choose (length r == length answer)
    (choose (alike at (at + size) r answer)
    (choose (same (part r at (at + size)) (part answer at (at + size))) done
    check_character)
    frame_form)
    frame_form
