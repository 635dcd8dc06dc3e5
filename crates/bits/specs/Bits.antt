-- A bit-packed image, most significant bit first: the field of any width at any place, as it is read and as it is written.
-- Definitions only.
use Rattle.std.specs.Prelude.{ℕ, zero, suc, ◌+◌, ◌-◌, ◌*◌, ◌/◌, ◌%◌, ◌^◌, ◌<◌, ◌≤◌, List, length, slice_index, slice_set}

-- how many values a byte has
abbrev pub byte_values : ℕ
byte_values = 256

-- the bit at place p: the bit of weight 2 ^ (7 - p % 8) of byte p / 8
unfoldable pub bit : List ℕ → ℕ → ℕ
bit img p = slice_index img (p / 8) / 2 ^ (7 - p % 8) % 2

-- the field of w bits from place p on: the number whose bits, most significant first, these are
unfoldable pub field : List ℕ → ℕ → ℕ → ℕ
field img p zero = 0
field img p (suc w) = field img p w * 2 + bit img (p + w)

-- the byte x with b as its bit of weight 2 ^ k
unfoldable pub with_bit : ℕ → ℕ → ℕ → ℕ
with_bit x k b = (x / (2 ^ k * 2) * 2 + b) * 2 ^ k + x % 2 ^ k

-- the image with b as its bit at place p
unfoldable pub put_bit : List ℕ → ℕ → ℕ → List ℕ
put_bit img p b = slice_set img (p / 8) (with_bit (slice_index img (p / 8)) (7 - p % 8) b)

-- the image with the w low bits of v as its field from place p on; the last bit is put first
unfoldable pub put_field : List ℕ → ℕ → ℕ → ℕ → List ℕ
put_field img p zero v = img
put_field img p (suc w) v = put_field (put_bit img (p + w) (v % 2)) p w (v / 2)

-- the widest field, a word, and the longest image: their places are numbers that no machine word cuts
abbrev pub widest : ℕ
widest = 32

abbrev pub longest : ℕ
longest = 4096

-- the bytes that a field is read through, and their bits
abbrev pub window_bytes : ℕ
window_bytes = 8

abbrev pub window_bits : ℕ
window_bits = 64

-- the field of w bits from place p on lies in an image that holds a window
pub record Within (img : List ℕ) (p w : ℕ) : Type 0 where
  pub inside : p + w ≤ 8 * length img
  pub some : 0 < w
  pub narrow : w ≤ widest
  pub long : window_bytes ≤ length img
  pub short : length img ≤ longest
