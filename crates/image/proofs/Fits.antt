-- A fit card stays fit, whether its image is written or another one is read. Assumes nothing.
use Rattle.std.proofs.Common.{◌≡◌, ℕ, true, List, ◌∙◌}
use Rattle.card.specs.Layout.{Card}
use Rattle.card.specs.Fitness.{fit}
use Rattle.card.proofs.Fits.{IsFit, shell_fit}
use Rattle.image.specs.Form.{image_size}
use Rattle.image.specs.Entries.{write_image, read_image}
use Rattle.image.proofs.Ranges.{fit_restored}
use Rattle.image.proofs.Laws.{by_order}

pub write_stays_fit : (card : Card) (room : ℕ) → fit card ≡ true → IsFit (write_image card room)
unfolding write_image
write_stays_fit card room t = shell_fit image_size card room _ t t

pub read_stays_fit : (card : Card) (img : List ℕ) → fit card ≡ true → IsFit (read_image card img)
read_stays_fit card img t = by_order IsFit card img (λ n. t) (λ f r. fit_restored card img f ∙ r)
