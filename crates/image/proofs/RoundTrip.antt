-- There and back: what a fit card wrote is read again entry by entry, what was read is written again byte by byte, and which images are accepted. Assumes nothing.
use Rattle.std.proofs.Common.{◌≡◌, ℕ, zero, suc, ◌+◌, ◌%◌, ◌^◌, ◌<◌, ◌≤◌, Bool, true, false, ◌||◌, leb, List, [], ◌∷◌, ◌++◌, length, get_or, sym, refl, ap, ◌∙◌, inl, arith, leb-true}
use borrow.Author.Tests.{lt-leb}
use Rattle.wire.proofs.Tests.{and_true}
use Rattle.wire.specs.Choose.{choose}
use Rattle.wire.specs.Word.{word_values, minus}
use Rattle.bits.specs.Bits.{put_field}
use Rattle.bits.specs.Fields.{put_fields}
use Rattle.bits.proofs.Reading.{Bytes}
use Rattle.bits.proofs.Writing.{put_field_own}
use Rattle.bits.proofs.Sequences.{Fit, none, more, fields_fit, fields_put_fields, put_fields_own}
use Rattle.card.specs.Numbers.{done}
use Rattle.card.specs.Layout.{Card, ia_at, lecom_address_at, love_address_at, word_count}
use Rattle.card.specs.Fitness.{in_span, in_range, ia_most, lecom_least, lecom_most, love_address_most, love_most, register_most, fit}
use Rattle.card.specs.Reply.{Reply, silent}
use Rattle.card.proofs.Facts.{fit_facts}
use Rattle.card.proofs.Ranges.{InRange, at_love, at_register}
use Rattle.image.specs.declared.form.Run.{Run}
use Rattle.image.specs.Form.{Entry, run, entries_of_run, entries_in, saved_runs, saved_form, register_bias, love_bias, holds, widths, used, padding, image_size}
use Rattle.image.specs.Scans.{run_count, no_run, run_at}
use Rattle.image.specs.Saved.{field_of, values, replaced, image_of, entries_of, padding_of, restored}
use Rattle.image.specs.Ranges.{entries_right}
use Rattle.image.specs.Entries.{read_image}
use Rattle.image.proofs.Words.{Words, values_replaced, replaced_values, replaced_other}
use Rattle.image.proofs.Runs.{runs_length, form_sound}
use Rattle.image.proofs.Whole.{total, length_blank, length_image_of, padding_image_of, image_of_written}
use Rattle.image.proofs.Ranges.{fit_in_range, right_values}
use Rattle.image.proofs.Outcomes.{read_done, read_was_done, read_card}

-- A fit card's values fit their fields

-- a word from −b to hi, plus b
biased : (b hi x : ℕ) → hi + b < word_values → x < word_values → in_span (minus b) hi x ≡ true → (x + b) % word_values ≤ hi + b
unfolding in_span choose
biased b hi x l h t = by (leb (minus b) x) refl (rw (lt-leb (minus b) hi (omega arith)) at t)
  where
    by : (s : Bool) → leb (minus b) x ≡ s → (s || leb x hi) ≡ true → (x + b) % word_values ≤ hi + b
    by true e g = let m = leb-true (minus b) x e in omega arith
    by false e g = let m = leb-true x hi g in omega arith

-- what stands in the fields of a run whose words are in their ranges fits them
fit_run : (word n w b : ℕ) (ws : List ℕ) → ((k : ℕ) → word ≤ k → k < word + n → (get_or ws k 0 + b) % word_values < 2 ^ w) → Fit (widths (run word n w b)) (values (run word n w b) ws)
unfolding run widths values field_of
fit_run word zero w b ws h = none
fit_run word (suc n) w b ws h = more (h word (omega arith) (omega arith)) (fit_run (suc word) n w b ws (λ k g l. h k (omega arith) (omega arith)))

fit_append : (f g : List Entry) (ws : List ℕ) → Fit (widths f) (values f ws) → Fit (widths g) (values g ws) → Fit (widths (f ++ g)) (values (f ++ g) ws)
unfolding widths values
fit_append [] g ws a b = b
fit_append (e ∷ f) g ws (more l a) b = more l (fit_append f g ws a b)

module _ (ws : List ℕ) (n : length ws ≡ word_count) (hw : Words ws) (h : InRange ws) where
  abbrev Fits : Run → ℕ → Type 0
  Fits r k = (get_or ws k 0 + r.bias) % word_values < 2 ^ r.width

  -- each run of the image's form
  runs_fit : (j : ℕ) → j < run_count → (k : ℕ) → (run_at j).word ≤ k → k < (run_at j).word + (run_at j).count → Fits (run_at j) k
  unfolding saved_runs in_range choose
  runs_fit zero l k g m = let e : k ≡ ia_at = omega arith in rw e (let x = leb-true (get_or ws ia_at 0) ia_most (h ia_at (omega arith)) in omega arith)
  runs_fit (suc zero) l k g m =
      let e : k ≡ lecom_address_at = omega arith in
      rw e (let x = leb-true (get_or ws lecom_address_at 0) lecom_most (and_true (leb (get_or ws lecom_address_at 0) lecom_most) _ (and_true (leb lecom_least (get_or ws lecom_address_at 0)) _ (h lecom_address_at (omega arith))).1).0 in omega arith)
  runs_fit (suc (suc zero)) l k g m =
      let e : k ≡ love_address_at = omega arith in
      rw e (let x = leb-true (get_or ws love_address_at 0) love_address_most (and_true (leb (get_or ws love_address_at 0) love_address_most) _ (h love_address_at (omega arith))).0 in omega arith)
  runs_fit (suc (suc (suc zero))) l k g m = let x = biased register_bias register_most (get_or ws k 0) (omega arith) (hw k) (at_register k (get_or ws k 0) (omega arith) ∙ h k (omega arith)) in omega arith
  runs_fit (suc (suc (suc (suc zero)))) l k g m = omega arith
  runs_fit (suc (suc (suc (suc (suc zero))))) l k g m = let x = biased love_bias love_most (get_or ws k 0) (omega arith) (hw k) (at_love k (get_or ws k 0) (omega arith) (omega arith) ∙ h k (omega arith)) in omega arith
  runs_fit (suc (suc (suc (suc (suc (suc j)))))) l k g m = let z : ⊥ = omega arith in absurd z

  fit_runs : (rs : List Run) → ((j : ℕ) → j < length rs → (k : ℕ) → (get_or rs j no_run).word ≤ k → k < (get_or rs j no_run).word + (get_or rs j no_run).count → Fits (get_or rs j no_run) k) → Fit (widths (entries_in rs)) (values (entries_in rs) ws)
  unfolding entries_in widths values
  fit_runs [] f = none
  fit_runs (r ∷ rs) f = fit_append (entries_of_run r) (entries_in rs) ws (fit_run r.word r.count r.width r.bias ws (f 0 (omega arith))) (fit_runs rs (λ j l. f (suc j) (omega arith)))

  fit_values : Fit (widths saved_form) (values saved_form ws)
  unfolding saved_form
  fit_values = fit_runs saved_runs (λ j l. runs_fit j (omega (arith, runs_length)))

-- The laws

-- what stands in a fit card's image
pub entries_of_image_of : (card : Card) → fit card ≡ true → Words card.words → entries_of (image_of card.words) ≡ values saved_form card.words
unfolding image_of entries_of
entries_of_image_of card t hw =
    fields_put_fields _ 0 (omega (arith, total, length_blank)) (fit_values card.words (fit_facts card t).words_length hw (fit_in_range card t))

-- reading what a card wrote: done; each saved entry is that card's, and each other word that of the card lent
pub record Regained (saved lent : Card) : Type 0 where
  pub read : read_image lent (image_of saved.words) ≡ silent done (restored lent (image_of saved.words))
  pub same : (k : ℕ) → holds saved_form k ≡ true → get_or (restored lent (image_of saved.words)).words k 0 ≡ get_or saved.words k 0
  pub other : (k : ℕ) → holds saved_form k ≡ false → get_or (restored lent (image_of saved.words)).words k 0 ≡ get_or lent.words k 0

pub read_written : (saved lent : Card) → fit saved ≡ true → Words saved.words → fit lent ≡ true → Regained saved lent
unfolding restored
read_written saved lent t hw u =
    let ws = saved.words in
    let img = image_of ws in
    let e = entries_of_image_of saved t hw in
    let whole = ap (entries_right saved_form) e ∙ right_values form_sound ws (fit_facts saved t).words_length hw (fit_in_range saved t) in
    record {
      read = sym (read_done lent img u (length_image_of ws) (padding_image_of ws) whole);
      same = λ k h. ap (λ (vs : List ℕ). get_or (replaced saved_form lent.words vs) k 0) e ∙ replaced_values form_sound ws lent.words k hw (omega (arith, (fit_facts lent u).words_length)) (inl h);
      other = λ k h. replaced_other saved_form lent.words (entries_of img) k h;
    }

restored_words : (card : Card) (img : List ℕ) → (restored card img).words ≡ replaced saved_form card.words (entries_of img)
unfolding restored
restored_words card img = refl

entries_fit : (img : List ℕ) → Fit (widths saved_form) (entries_of img)
unfolding entries_of
entries_fit img = fields_fit img 0 (widths saved_form)

-- an image's own values, written over it, leave it
again : (img ws : List ℕ) → values saved_form ws ≡ entries_of img → padding_of img ≡ 0 → put_field (put_fields img 0 (widths saved_form) (values saved_form ws)) (used saved_form) padding 0 ≡ img
unfolding entries_of padding_of
again img ws v z =
    ap (λ (vs : List ℕ). put_field (put_fields img 0 (widths saved_form) vs) (used saved_form) padding 0) v
    ∙ ap (λ (x : List ℕ). put_field x (used saved_form) padding 0) (put_fields_own img 0 (widths saved_form))
    ∙ ap (put_field img (used saved_form) padding) (sym z)
    ∙ put_field_own img (used saved_form) padding

-- writing what was read: the same bytes
pub written_read : (card : Card) (img : List ℕ) → Bytes img → (read_image card img).number ≡ done → image_of (read_image card img).card.words ≡ img
written_read card img hs d =
    let r = read_was_done card img d in
    let ws = replaced saved_form card.words (entries_of img) in
    let l : word_count ≤ length card.words = omega (arith, (fit_facts card r.fits).words_length) in
    let v : values saved_form ws ≡ entries_of img = values_replaced form_sound card.words l (entries_fit img) in
    let w : (read_image card img).card.words ≡ ws = ap (λ (x : Reply). x.card.words) (read_card card img r) ∙ restored_words card img in
    ap image_of w ∙ sym (image_of_written img ws r.long hs) ∙ again img ws v r.padded

-- an image is accepted: its length, its padding, and each entry in its range
pub record Accepted (img : List ℕ) : Type 0 where
  pub long : length img ≡ image_size
  pub padded : padding_of img ≡ 0
  pub ranged : entries_right saved_form (entries_of img) ≡ true

-- a fit card accepts an image exactly if it is so
pub accepted : (card : Card) (img : List ℕ) → fit card ≡ true → (read_image card img).number ≡ done → Accepted img
accepted card img t d =
    let r = read_was_done card img d in
    record { long = r.long; padded = r.padded; ranged = r.ranged }

pub accepts : (card : Card) (img : List ℕ) → fit card ≡ true → Accepted img → read_image card img ≡ silent done (restored card img)
accepts card img t a = sym (read_done card img t a.long a.padded a.ranged)
