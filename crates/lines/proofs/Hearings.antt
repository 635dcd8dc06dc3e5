-- Laws of specs/Heard.antt: values written one after another. Assumes nothing.
use Rattle.std.proofs.Common.{◌≡◌, ℕ, List, [], ◌∷◌, ◌++◌, sym, refl, ap, ◌∙◌, append_assoc, append-nil}
use Rattle.figures.specs.Decimal.{shortest}
use Rattle.card.specs.Numbers.{done}
use Rattle.asking.specs.Hearing.Hearing.{Refused}
use Rattle.lines.specs.Heard.{value_text, values_text, refused_word, heard_text}

pub values_append : (a b : List ℕ) → values_text (a ++ b) ≡ values_text a ++ values_text b
unfolding values_text
values_append [] b = refl
values_append (x ∷ a) b = ap (λ (l : List ℕ). value_text x ++ l) (values_append a b) ∙ sym (append_assoc (value_text x) (values_text a) (values_text b))

pub values_one : (x : ℕ) → value_text x ≡ values_text (x ∷ [])
unfolding values_text
values_one x = sym (append-nil (value_text x))

-- a refusal that carries no code
pub no_code : shortest done ++ refused_word ≡ heard_text (Refused [])
unfolding heard_text values_text
no_code = sym (append-nil (shortest done ++ refused_word))
