-- The probe reading. "Four probe codes, one byte each. Code 0 to 254 means (5 × code − 400) tenths of °C, so −400 to 870. Code 255 means
-- fault. No code gives −1."
use Rattle.std.specs.Prelude.{ℕ, ◌+◌, ◌*◌, ◌%◌, ◌==◌}
use Rattle.wire.specs.Choose.{choose}
use Rattle.wire.specs.Word.{minus, word_values}
use Rattle.card.specs.declared.probe.Reading.{Reading}
use Rattle.card.specs.declared.probe.Reading.TheVariants.{Temperature, Fault}

abbrev pub fault_code : ℕ
fault_code = 255

-- tenths of a degree for each step of the code
abbrev pub tenths_per_code : ℕ
tenths_per_code = 5

-- code 0 is this many tenths below zero
abbrev pub tenths_below : ℕ
tenths_below = 400

-- 5 × code − 400 as a word
unfoldable pub tenths_of : ℕ → ℕ
tenths_of code = (tenths_per_code * code + minus tenths_below) % word_values

-- what a probe's unsigned code says: the only way from a code to a temperature
unfoldable pub reading_of : ℕ → Reading
reading_of code = choose (code == fault_code) Fault (Temperature (record { 0 = tenths_of code }))
