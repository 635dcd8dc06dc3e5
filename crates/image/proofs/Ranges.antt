-- Reading leaves a fit card fit exactly if the image's entries are in their ranges. Assumes nothing.
use Rattle.std.proofs.Common.{◌≡◌, ℕ, Bool, true, leb, List, [], ◌∷◌, length, get_or, set, sym, refl, ap, ◌∙◌, arith, length-set, leb-true}
use Rattle.wire.proofs.Tests.{and_true, both, same_test}
use Rattle.wire.proofs.Cases.{by_choice}
use Rattle.card.specs.Layout.{Card, saved_registers_at, word_count}
use Rattle.card.specs.Fitness.{in_range, fit_words, fit}
use Rattle.card.proofs.Facts.{fit_facts, fit_words_law}
use Rattle.card.proofs.Ranges.{InRange, at_register, words_at, set_fit}
use Rattle.image.specs.Form.{Entry, saved_form}
use Rattle.image.specs.Saved.{word_of, values, replaced, entries_of, restored}
use Rattle.image.specs.Ranges.{entry_right, entries_right}
use Rattle.image.proofs.Words.{Words, Sound, empty, entry, word_of_field_of, length_replaced, replaced_first}
use Rattle.image.proofs.Runs.{form_sound}

-- an entry's range is that of its word
pub entry_range : (e : Entry) (x : ℕ) → entry_right e x ≡ in_range e.word x
unfolding entry_right
entry_range e x =
    by_choice (λ (t : Bool). t ≡ in_range e.word x) (leb saved_registers_at e.word) _ _
    (λ l. at_register e.word x (omega (arith, leb-true saved_registers_at e.word l)))
    (λ _. refl)

-- Properties of replaced, over any table of the card's words

replaced_fit : {form : List Entry} → Sound word_count form → (ws vs : List ℕ) → fit_words ws ≡ true → entries_right form vs ≡ true → fit_words (replaced form ws vs) ≡ true
unfolding replaced entries_right
replaced_fit empty ws vs h t = h
replaced_fit (entry a b d f s) ws [] h t = h
replaced_fit (entry {e} {form} a b d f s) ws (v ∷ vs) h t =
    let u = and_true (entry_right e (word_of e v)) (entries_right form vs) t in
    replaced_fit s (set ws e.word (word_of e v)) vs (set_fit ws e.word (word_of e v) h (sym (entry_range e (word_of e v)) ∙ u.0)) u.1

fit_replaced : {form : List Entry} → Sound word_count form → (ws vs : List ℕ) → length ws ≡ word_count → InRange (replaced form ws vs) → entries_right form vs ≡ true
unfolding replaced entries_right
fit_replaced empty ws vs l h = refl
fit_replaced (entry a b d f s) ws [] l h = refl
fit_replaced (entry {e} {form} a b d f s) ws (v ∷ vs) l h =
    let n = length_replaced (e ∷ form) ws (v ∷ vs) in
    both (entry_range e (word_of e v) ∙ ap (in_range e.word) (sym (replaced_first e form ws v vs f (omega arith))) ∙ h e.word (omega (arith, n)))
    (fit_replaced s (set ws e.word (word_of e v)) vs (length-set ws e.word (word_of e v) ∙ l) h)

-- what stands in the fields of words that are in their ranges is in its range
pub right_values : {form : List Entry} → Sound word_count form → (ws : List ℕ) → length ws ≡ word_count → Words ws → InRange ws → entries_right form (values form ws) ≡ true
unfolding values entries_right
right_values empty ws l hw h = refl
right_values (entry {e} a b d f s) ws l hw h =
    let x = get_or ws e.word 0 in
    both (ap (entry_right e) (word_of_field_of e x b (hw e.word)) ∙ entry_range e x ∙ h e.word (omega arith)) (right_values s ws l hw h)

pub fit_in_range : (card : Card) → fit card ≡ true → InRange card.words
fit_in_range card t = words_at card.words (fit_facts card t).words_fit

-- an image leaves a fit card fit exactly if its entries are in their ranges
pub fit_restored : (card : Card) (img : List ℕ) → fit card ≡ true → fit (restored card img) ≡ entries_right saved_form (entries_of img)
unfolding restored
fit_restored card img t =
    let ws = card.words in
    let vs = entries_of img in
    let f = fit_facts card t in
    let n = length_replaced saved_form ws vs in
    fit_words_law card (replaced saved_form ws vs) t n
    ∙ same_test _ _ (λ g. fit_replaced form_sound ws vs f.words_length (words_at (replaced saved_form ws vs) g)) (λ r. replaced_fit form_sound ws vs f.words_fit r)
