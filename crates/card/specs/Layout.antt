-- Where each entry of document 01, "What the card holds", stands in the lent tables.
use Rattle.std.specs.Prelude.{ℕ, ◌+◌, ◌*◌, List}

-- the card's tables
pub record Card : Type 0 where
  -- the numbers, a word each; a signed one in two's complement
  pub words : List ℕ
  -- Datalink memory; "1000h to 1003h show the probe codes themselves": its first bytes are the codes, a channel each
  pub memory : List ℕ
  -- the port's row: its pending change, and of each dialect the part frame that its receiver has collected
  pub ports : List ℕ

abbrev pub card_of : List ℕ → List ℕ → List ℕ → Card
card_of words memory ports = record { words = words; memory = memory; ports = ports }

-- the card with one table changed
abbrev pub with_words : Card → List ℕ → Card
with_words card words = card_of words card.memory card.ports

abbrev pub with_memory : Card → List ℕ → Card
with_memory card memory = card_of card.words memory card.ports

abbrev pub with_ports : Card → List ℕ → Card
with_ports card ports = card_of card.words card.memory ports

-- the words: addresses
abbrev pub ia_at : ℕ
ia_at = 0

abbrev pub lecom_address_at : ℕ
lecom_address_at = 1

abbrev pub love_address_at : ℕ
love_address_at = 2

-- Love parameters SP1, SP2, ALLO, ALHI
abbrev pub love_at : ℕ
love_at = 3

abbrev pub love_count : ℕ
love_count = 4

-- LucidControl fan demands, a channel each
abbrev pub demands_at : ℕ
demands_at = love_at + love_count

abbrev pub channels : ℕ
channels = 4

-- LucidControl parameters 1110h and 1120h, channel by channel, and then their saved copies in the same order
abbrev pub parameters_at : ℕ
parameters_at = demands_at + channels

abbrev pub parameters_each : ℕ
parameters_each = 2

abbrev pub parameter_count : ℕ
parameter_count = parameters_each * channels

abbrev pub saved_parameters_at : ℕ
saved_parameters_at = parameters_at + parameter_count

-- LECOM registers in three copies
abbrev pub registers : ℕ
registers = 96

abbrev pub buffer_at : ℕ
buffer_at = saved_parameters_at + parameter_count

abbrev pub operational_at : ℕ
operational_at = buffer_at + registers

abbrev pub saved_registers_at : ℕ
saved_registers_at = operational_at + registers

abbrev pub word_count : ℕ
word_count = saved_registers_at + registers

-- Datalink memory: its number of bytes
abbrev pub memory_size : ℕ
memory_size = 4096

-- the pending change: its kind, then NUM, low address, high address and data as in its frame
abbrev pub kind_at : ℕ
kind_at = 0

abbrev pub num_at : ℕ
num_at = 1

abbrev pub low_address_at : ℕ
low_address_at = 2

abbrev pub high_address_at : ℕ
high_address_at = 3

abbrev pub data_at : ℕ
data_at = 4

abbrev pub data_most : ℕ
data_most = 32

abbrev pub pending_size : ℕ
pending_size = data_at + data_most

-- Document 02, M-100, of each dialect the part frame: how many bytes it has, a number of two bytes, the low one first; then its bytes, as many as the
-- dialect's longest frame has
abbrev pub count_size : ℕ
count_size = 2

abbrev pub datalink_room : ℕ
datalink_room = 38

abbrev pub lecom_room : ℕ
lecom_room = 25

abbrev pub love_room : ℕ
love_room = 32

abbrev pub lucid_room : ℕ
lucid_room = 259

abbrev pub datalink_part_at : ℕ
datalink_part_at = pending_size

abbrev pub lecom_part_at : ℕ
lecom_part_at = datalink_part_at + (count_size + datalink_room)

abbrev pub love_part_at : ℕ
love_part_at = lecom_part_at + (count_size + lecom_room)

abbrev pub lucid_part_at : ℕ
lucid_part_at = love_part_at + (count_size + love_room)

abbrev pub row_size : ℕ
row_size = lucid_part_at + (count_size + lucid_room)
