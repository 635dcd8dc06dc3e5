-- Document 01, "What the card holds", in its order: the range of every word. A card whose tables keep to all of it is fit; any other is
-- number 12. "Four probe codes, one byte each": every byte is one (Probe.antt).
use Rattle.std.specs.Prelude.{ℕ, suc, ◌-◌, ◌%◌, Bool, true, not, ◌&&◌, ◌||◌, List, [], ◌∷◌, length, ◌==◌, nat_le, nat_lt}
use Rattle.wire.specs.Choose.{choose}
use Rattle.wire.specs.Word.{minus}
use Rattle.card.specs.Layout.{Card, ia_at, lecom_address_at, love_address_at, demands_at, parameters_at, parameters_each, buffer_at, word_count, memory_size, row_size}
use Rattle.card.specs.Change.{fit_pending}

-- the word x lies from lo to hi; a lower end above the upper one is a negative number in two's complement
unfoldable pub in_span : ℕ → ℕ → ℕ → Bool
in_span lo hi x = choose (nat_le lo hi) (nat_le lo x && nat_le x hi) (nat_le lo x || nat_le x hi)

-- "LECOM registers 00h to 5Fh in three copies (buffer, operational, saved), each −999,999 to 999,999"
abbrev pub register_most : ℕ
register_most = 999999

-- "Love parameters SP1, SP2, ALLO, ALHI, each −400 to 870 tenths"
abbrev pub love_depth : ℕ
love_depth = 400

abbrev pub love_least : ℕ
love_least = minus love_depth

abbrev pub love_most : ℕ
love_most = 870

-- "LucidControl: four fan demands, 0 to 65,535"
abbrev pub demand_most : ℕ
demand_most = 65535

-- "for each channel two parameters of four bytes with a saved copy: 1110h (1,000 to 60,000,000, default 1,000,000)"
abbrev pub cycle_least : ℕ
cycle_least = 1000

abbrev pub cycle_most : ℕ
cycle_most = 60000000

abbrev pub cycle_default : ℕ
cycle_default = 1000000

-- "and 1120h (0 to 65,535, default 0)"
abbrev pub floor_most : ℕ
floor_most = 65535

abbrev pub floor_default : ℕ
floor_default = 0

-- "Addresses: Datalink I.A. 0 to 31"
abbrev pub ia_most : ℕ
ia_most = 31

-- "LECOM 11 to 99 without a zero figure"
abbrev pub lecom_least : ℕ
lecom_least = 11

abbrev pub lecom_most : ℕ
lecom_most = 99

-- how many values a decimal figure has
abbrev pub figure_values : ℕ
figure_values = 10

abbrev pub lecom_right : ℕ → Bool
lecom_right lecom = nat_le lecom_least lecom && (nat_le lecom lecom_most && not (lecom % figure_values == 0))

-- "Love 1 to 3FFh, low two hex figures not 00"
abbrev pub love_address_most : ℕ
love_address_most = 0x3FF

-- a hundred in hex: how many values two hex figures have
abbrev pub love_hundred : ℕ
love_hundred = 0x100

abbrev pub love_right : ℕ → Bool
love_right love = nat_le love love_address_most && not (love % love_hundred == 0)

-- x is in the range of the word at index k; of the parameters of both copies 1110h stands at even places, 1120h at odd ones
unfoldable pub in_range : ℕ → ℕ → Bool
in_range k x =
    choose (k == ia_at) (nat_le x ia_most)
    (choose (k == lecom_address_at) (lecom_right x)
    (choose (k == love_address_at) (love_right x)
    (choose (nat_lt k demands_at) (in_span love_least love_most x)
    (choose (nat_lt k parameters_at) (in_span 0 demand_most x)
    (choose (nat_le buffer_at k) (in_span (minus register_most) register_most x)
    (choose ((k - parameters_at) % parameters_each == 0) (in_span cycle_least cycle_most x)
    (in_span 0 floor_most x)))))))

-- each of the words is in its range, the first of them being the one at index k
unfoldable pub in_ranges : ℕ → List ℕ → Bool
in_ranges k [] = true
in_ranges k (x ∷ ws) = in_range k x && in_ranges (suc k) ws

-- every word in its range
unfoldable pub fit_words : List ℕ → Bool
fit_words ws = in_ranges 0 ws

-- the card is fit: every table of its length, every entry in its range, the pending change as it was echoed
unfoldable pub fit : Card → Bool
fit card =
    (length card.words == word_count)
    && (length card.memory == memory_size
    && (length card.ports == row_size
    && (fit_words card.words && fit_pending card.ports)))
