-- Fields on their way into an image, through a word that holds the bits that are not yet written. Definitions only.
use Rattle.std.specs.Prelude.{ℕ, ◌+◌, ◌*◌, ◌≤◌, List, length}
use Rattle.bits.specs.declared.Packed.{Packed}
use Rattle.bits.specs.Bits.{put_field, longest}

-- the image with the bits that are held in their place
unfoldable pub packed : List ℕ → Packed → List ℕ
packed img p = put_field img (8 * p.at) p.count p.held

-- the place of the next bit
abbrev pub place_of : Packed → ℕ
place_of p = 8 * p.at + p.count

-- the image has room for n bits more
pub record Packs (img : List ℕ) (p : Packed) (n : ℕ) : Type 0 where
  pub inside : place_of p + n ≤ 8 * length img
  pub short : length img ≤ longest
