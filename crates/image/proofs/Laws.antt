-- What holds of both entries: a refusal changes no table, and neither changes memory or the pending change. Assumes nothing.
use Rattle.std.proofs.Common.{◌≡◌, ℕ, ◌≤◌, true, List, refl, arith}
use Rattle.wire.proofs.Cases.{by_choice}
use Rattle.card.specs.Layout.{Card}
use Rattle.card.specs.Numbers.{done, foreign_address}
use Rattle.card.specs.Fitness.{fit}
use Rattle.card.specs.Reply.{Reply, silent, Keeps}
use Rattle.card.proofs.Replies.{keeps_silent, shell_keeps}
use Rattle.image.specs.Form.{saved_form, image_size}
use Rattle.image.specs.Saved.{entries_of, restored}
use Rattle.image.specs.Ranges.{entries_right}
use Rattle.image.specs.Entries.{write_image, read_image}

pub write_keeps : (card : Card) (room : ℕ) → Keeps card (write_image card room)
unfolding write_image
write_keeps card room = shell_keeps image_size card room _ (record { kept = λ _. refl })

-- what holds of a reply that leaves the card, and of reading done, holds of reading
pub by_order : (P : Reply → Type 0) (card : Card) (img : List ℕ) → ((n : ℕ) → P (silent n card)) → (fit card ≡ true → entries_right saved_form (entries_of img) ≡ true → P (silent done (restored card img))) → P (read_image card img)
unfolding read_image
by_order P card img stay did =
    by_choice P _ _ _
    (λ f. by_choice P _ _ _ (λ _. by_choice P _ _ _ (λ _. by_choice P _ _ _ (λ r. did f r) (λ _. stay _)) (λ _. stay _)) (λ _. stay _))
    (λ _. stay _)

pub read_keeps : (card : Card) (img : List ℕ) → Keeps card (read_image card img)
read_keeps card img = by_order (Keeps card) card img (λ n. keeps_silent n card) (λ _ _. record { kept = λ (h : foreign_address ≤ done). let z : ⊥ = omega arith in absurd z })

-- reading changes words alone
pub read_memory : (card : Card) (img : List ℕ) → (read_image card img).card.memory ≡ card.memory
unfolding restored
read_memory card img = by_order (λ (r : Reply). r.card.memory ≡ card.memory) card img (λ n. refl) (λ _ _. refl)

pub read_ports : (card : Card) (img : List ℕ) → (read_image card img).card.ports ≡ card.ports
unfolding restored
read_ports card img = by_order (λ (r : Reply). r.card.ports ≡ card.ports) card img (λ n. refl) (λ _ _. refl)
