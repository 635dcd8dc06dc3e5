-- Fields that stand one after another, each of its own width: what an image is made of. A run of equal fields has equal widths.
-- Definitions only.
use Rattle.std.specs.Prelude.{ℕ, ◌+◌, ◌*◌, ◌<◌, ◌≤◌, List, [], ◌∷◌, length, replicate}
use Rattle.bits.specs.Bits.{field, put_field, widest, longest, window_bytes}

-- how many bits fields of the widths ws have together
unfoldable pub width_of : List ℕ → ℕ
width_of [] = 0
width_of (w ∷ ws) = w + width_of ws

-- the fields of the widths ws from place p on
unfoldable pub fields : List ℕ → ℕ → List ℕ → List ℕ
fields img p [] = []
fields img p (w ∷ ws) = field img p w ∷ fields img (p + w) ws

-- the image with the values vs as its fields of the widths ws from place p on
unfoldable pub put_fields : List ℕ → ℕ → List ℕ → List ℕ → List ℕ
put_fields img p [] vs = img
put_fields img p (w ∷ ws) [] = img
put_fields img p (w ∷ ws) (v ∷ vs) = put_fields (put_field img p w v) (p + w) ws vs

-- n fields of w bits from place p on lie in an image that holds a window
pub record WithinAll (img : List ℕ) (p w n : ℕ) : Type 0 where
  pub inside : p + width_of (replicate n w) ≤ 8 * length img
  pub some : 0 < w
  pub narrow : w ≤ widest
  pub long : window_bytes ≤ length img
  pub short : length img ≤ longest
