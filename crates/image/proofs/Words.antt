-- Laws of the words that a table's entries hold, over any table: what reading gives back, and what it leaves. Assumes nothing.
use Rattle.std.proofs.Common.{◌≡◌, ℕ, ◌^◌, ◌<◌, ◌≤◌, Bool, true, false, not, ◌&&◌, ◌||◌, eqb, ltb, leb, ◌⊎◌, List, [], ◌∷◌, length, get_or, set, refl, ap, ◌∙◌, inl, inr, arith, length-set, get_or-set_other, get_or-set_same, pow_mono, ltb-true, eqb-true, leb-true}
use mathlib.Core.Bool.{false≢true}
use borrow.Author.Tests.{eqb-false, not-true}
use Rattle.wire.proofs.Tests.{and_true, neither}
use Rattle.wire.specs.Word.{word_values}
use Rattle.bits.specs.Bits.{widest}
use Rattle.bits.proofs.Sequences.{Fit, none, more}
use Rattle.image.specs.Form.{Entry, holds, widths}
use Rattle.image.specs.Saved.{field_of, word_of, values, replaced}

-- every word is a number of 32 bits
abbrev pub Words : List ℕ → Type 0
Words ws = (k : ℕ) → get_or ws k 0 < word_values

-- a table over n words: its words are among them, its biases are words, its fields no wider than a word, and no word stands twice
pub data Sound (n : ℕ) : List Entry → Type 0 where
  empty : Sound n []
  entry : {e : Entry} {form : List Entry} → e.word < n → e.bias < word_values → e.width ≤ widest → holds form e.word ≡ false → Sound n form → Sound n (e ∷ form)

-- the same as a test, which a given table passes by computing
unfoldable pub sound : ℕ → List Entry → Bool
sound n [] = true
sound n (e ∷ form) = ltb e.word n && (ltb e.bias word_values && (leb e.width widest && (not (holds form e.word) && sound n form)))

pub sound_true : (n : ℕ) (form : List Entry) → sound n form ≡ true → Sound n form
unfolding sound
sound_true n [] h = empty
sound_true n (e ∷ form) h =
    let a = and_true (ltb e.word n) _ h in
    let b = and_true (ltb e.bias word_values) _ a.1 in
    let d = and_true (leb e.width widest) _ b.1 in
    let f = and_true (not (holds form e.word)) _ d.1 in
    entry (ltb-true _ _ a.0) (ltb-true _ _ b.0) (leb-true _ _ d.0) (not-true _ f.0) (sound_true n form f.1)

-- Properties of field_of and word_of

pub word_of_field_of : (e : Entry) (x : ℕ) → e.bias < word_values → x < word_values → word_of e (field_of e x) ≡ x
unfolding word_of field_of
word_of_field_of e x hb hx = omega arith

pub field_of_word_of : (e : Entry) (v : ℕ) → e.bias < word_values → v < word_values → field_of e (word_of e v) ≡ v
unfolding word_of field_of
field_of_word_of e v hb hv = omega arith

-- Properties of replaced

pub length_replaced : (form : List Entry) (ws vs : List ℕ) → length (replaced form ws vs) ≡ length ws
unfolding replaced
length_replaced [] ws vs = refl
length_replaced (e ∷ form) ws [] = refl
length_replaced (e ∷ form) ws (v ∷ vs) = length_replaced form (set ws e.word (word_of e v)) vs ∙ length-set ws e.word (word_of e v)

-- a word that the table does not hold stays
pub replaced_other : (form : List Entry) (ws vs : List ℕ) (k : ℕ) → holds form k ≡ false → get_or (replaced form ws vs) k 0 ≡ get_or ws k 0
unfolding replaced holds
replaced_other [] ws vs k h = refl
replaced_other (e ∷ form) ws [] k h = refl
replaced_other (e ∷ form) ws (v ∷ vs) k h =
    let n = neither (eqb k e.word) (holds form k) h in
    replaced_other form (set ws e.word (word_of e v)) vs k n.1 ∙ get_or-set_other ws e.word k (word_of e v) 0 (eqb-false k e.word n.0)

-- the first entry's word
pub replaced_first : (e : Entry) (form : List Entry) (ws : List ℕ) (v : ℕ) (vs : List ℕ) → holds form e.word ≡ false → e.word < length ws → get_or (replaced (e ∷ form) ws (v ∷ vs)) e.word 0 ≡ word_of e v
unfolding replaced
replaced_first e form ws v vs h l = replaced_other form (set ws e.word (word_of e v)) vs e.word h ∙ get_or-set_same ws e.word (word_of e v) 0 l

-- values that were read are written again
pub values_replaced : {n : ℕ} {form : List Entry} → Sound n form → (ws : List ℕ) {vs : List ℕ} → n ≤ length ws → Fit (widths form) vs → values form (replaced form ws vs) ≡ vs
unfolding values widths replaced
values_replaced empty ws l none = refl
values_replaced (entry {e} {form} a b d f s) ws l (more {v = v} {vs = vs} lt fit) =
    let m : 2 ^ e.width ≤ 2 ^ 32 = pow_mono {j = 32} d in
    let head = ap (field_of e) (replaced_first e form ws v vs f (omega arith)) ∙ field_of_word_of e v b (omega (arith, m)) in
    let n = length-set ws e.word (word_of e v) in
    cc (head, values_replaced s (set ws e.word (word_of e v)) (omega arith) fit)

-- words that were written are read again
pub replaced_values : {n : ℕ} {form : List Entry} → Sound n form → (us ws : List ℕ) (k : ℕ) → Words us → n ≤ length ws → (holds form k ≡ true) ⊎ (get_or ws k 0 ≡ get_or us k 0) → get_or (replaced form ws (values form us)) k 0 ≡ get_or us k 0
unfolding values replaced holds
replaced_values empty us ws k hw l (inl h) = absurd (false≢true h)
replaced_values empty us ws k hw l (inr h) = h
replaced_values (entry {e} {form} a b d f s) us ws k hw l o = replaced_values s us (set ws e.word x) k hw (omega (arith, length-set ws e.word x)) (by (eqb k e.word) refl o)
  where
    x : ℕ
    x = word_of e (field_of e (get_or us e.word 0))

    same : x ≡ get_or us e.word 0
    same = word_of_field_of e (get_or us e.word 0) b (hw e.word)

    by : (t : Bool) → eqb k e.word ≡ t → ((t || holds form k) ≡ true) ⊎ (get_or ws k 0 ≡ get_or us k 0) → (holds form k ≡ true) ⊎ (get_or (set ws e.word x) k 0 ≡ get_or us k 0)
    by true h o = inr (rw (eqb-true k e.word h) (get_or-set_same ws e.word x 0 (omega arith) ∙ same))
    by false h (inl o) = inl o
    by false h (inr o) = inr (get_or-set_other ws e.word k x 0 (eqb-false k e.word h) ∙ o)
