-- Temperatures as they stand in replies. Document 01: "Code 0 to 254 means (5 × code − 400) tenths of °C".
use Rattle.std.specs.Prelude.{ℕ, ◌+◌, ◌-◌, ◌*◌, ◌%◌, Bool, ◌&&◌, ◌==◌, nat_le}
use Rattle.wire.specs.Word.{word_values}
use Rattle.card.specs.Probe.{fault_code, tenths_per_code, tenths_below}

-- the last code that is a temperature
abbrev pub last_code : ℕ
last_code = fault_code - 1

-- a word that some code gives, in a unit of which `units` are a tenth of a degree
unfoldable pub is_temperature : ℕ → ℕ → Bool
is_temperature units word =
    let above = (word + units * tenths_below) % word_values in
    nat_le above (units * tenths_per_code * last_code) && above % (units * tenths_per_code) == 0
