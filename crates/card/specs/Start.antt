-- The card of document 01, "Checked examples": "I.A. 3, LECOM 11, Love 32h". The rest is as on a new card: memory, registers and Love
-- parameters zero, LucidControl parameters at their defaults in both copies, demands full, no probe read yet, nothing pending.
use Rattle.std.specs.Prelude.{ℕ, ◌+◌, ◌-◌, List, [], ◌∷◌, ◌++◌, replicate}
use Rattle.card.specs.Layout.{Card, card_of, love_count, channels, registers, memory_size, row_size}
use Rattle.card.specs.Fitness.{demand_most, cycle_default, floor_default}
use Rattle.card.specs.Probe.{fault_code}

abbrev pub start_ia : ℕ
start_ia = 3

abbrev pub start_lecom : ℕ
start_lecom = 11

abbrev pub start_love : ℕ
start_love = 0x32

-- parameters 1110h and 1120h of the four channels at their defaults
abbrev pub defaults : List ℕ
defaults = cycle_default ∷ floor_default ∷ cycle_default ∷ floor_default ∷ cycle_default ∷ floor_default ∷ cycle_default ∷ floor_default ∷ []

abbrev pub start_words : List ℕ
start_words =
    start_ia ∷ start_lecom ∷ start_love ∷ (replicate love_count 0 ++ (replicate channels demand_most ++ (defaults ++ (defaults ++ replicate (registers + (registers + registers)) 0))))

abbrev pub start_memory : List ℕ
start_memory = replicate channels fault_code ++ replicate (memory_size - channels) 0

abbrev pub start_card : Card
start_card = card_of start_words start_memory (replicate row_size 0)
