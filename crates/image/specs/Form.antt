-- Document 01, "The saved image": which words of the card stand in it, in what order, each in how many bits.
use Rattle.std.specs.Prelude.{ℕ, zero, suc, Bool, false, ◌||◌, List, [], ◌∷◌, ◌++◌, ◌==◌}
use Rattle.bits.specs.Fields.{width_of}
use Rattle.card.specs.Layout.{ia_at, lecom_address_at, love_address_at, saved_registers_at, registers, saved_parameters_at, parameter_count, love_at, love_count}
use Rattle.card.specs.Fitness.{love_depth}
use Rattle.image.specs.declared.form.Run.{Run}

-- an entry: the word that it holds, the bits of its field, and what is added to the word there
pub record Entry : Type 0 where
  pub word : ℕ
  pub width : ℕ
  pub bias : ℕ

abbrev pub entry_of : ℕ → ℕ → ℕ → Entry
entry_of word width bias = record { word = word; width = width; bias = bias }

-- a run: entries of one width and bias, for count words from a word on
abbrev pub run_of : ℕ → ℕ → ℕ → ℕ → Run
run_of word count width bias = record { word = word; count = count; width = width; bias = bias }

unfoldable pub run : ℕ → ℕ → ℕ → ℕ → List Entry
run word zero width bias = []
run word (suc count) width bias = entry_of word width bias ∷ run (suc word) count width bias

abbrev pub entries_of_run : Run → List Entry
entries_of_run r = run r.word r.count r.width r.bias

-- the entries of runs one after another
unfoldable pub entries_in : List Run → List Entry
entries_in [] = []
entries_in (r ∷ runs) = entries_of_run r ++ entries_in runs

-- "I.A. 5, LECOM address 7, Love address 10"
abbrev pub ia_width : ℕ
ia_width = 5

abbrev pub lecom_width : ℕ
lecom_width = 7

abbrev pub love_address_width : ℕ
love_address_width = 10

-- "96 saved registers of 21 bits (value plus 999,999)": the form's own bias and range, −999,999 to 999,999
abbrev pub register_width : ℕ
register_width = 21

abbrev pub register_bias : ℕ
register_bias = 999999

-- "saved parameters 32 bits each, channel by channel, 1110h first"
abbrev pub parameter_width : ℕ
parameter_width = 32

-- "SP1, SP2, ALLO, ALHI 11 bits each (value plus 400)"
abbrev pub love_width : ℕ
love_width = 11

abbrev pub love_bias : ℕ
love_bias = love_depth

-- the image's runs in the paper's order
unfoldable pub saved_runs : List Run
saved_runs =
    run_of ia_at 1 ia_width 0
    ∷ run_of lecom_address_at 1 lecom_width 0
    ∷ run_of love_address_at 1 love_address_width 0
    ∷ run_of saved_registers_at registers register_width register_bias
    ∷ run_of saved_parameters_at parameter_count parameter_width 0
    ∷ run_of love_at love_count love_width love_bias
    ∷ []

-- its entries
unfoldable pub saved_form : List Entry
saved_form = entries_in saved_runs

-- a table has an entry for word k
unfoldable pub holds : List Entry → ℕ → Bool
holds [] k = false
holds (e ∷ form) k = k == e.word || holds form k

-- "6 zero bits" stand last
abbrev pub padding : ℕ
padding = 6

-- "293 bytes"
abbrev pub image_size : ℕ
image_size = 293

-- the widths of the entries' fields
unfoldable pub widths : List Entry → List ℕ
widths [] = []
widths (e ∷ form) = e.width ∷ widths form

-- the bits that the entries take: the place of the padding
unfoldable pub used : List Entry → ℕ
used form = width_of (widths form)
