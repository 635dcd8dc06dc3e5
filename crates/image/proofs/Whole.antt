-- The whole image: it is as long as it must be, its padding is zero, and what stood in the buffer before does not count. Assumes nothing.
use Rattle.std.proofs.Common.{◌≡◌, ℕ, zero, suc, ◌*◌, List, [], ◌∷◌, ◌++◌, length, replicate, sym, refl, ap, ◌∙◌, inr, zero-add, arith, length-append}
use lib.ListN.{length-replicate}
use Rattle.bits.specs.Bits.{bit, field, put_field}
use Rattle.bits.specs.Fields.{width_of, put_fields}
use Rattle.bits.proofs.Reading.{Bytes}
use Rattle.bits.proofs.Writing.{put_field_own}
use Rattle.bits.proofs.Sequences.{length_put_fields, field_put_fields_other, put_fields_append, put_fields_whole}
use Rattle.image.specs.Form.{Entry, run, entries_in, saved_runs, saved_form, widths, used, padding, image_size}
use Rattle.image.specs.Saved.{values, image_of, padding_of}
use Rattle.image.proofs.Runs.{used_bits, form_used}

length_widths : (form : List Entry) → length (widths form) ≡ length form
unfolding widths
length_widths [] = refl
length_widths (e ∷ form) = ap suc (length_widths form)

length_values : (form : List Entry) (ws : List ℕ) → length (values form ws) ≡ length form
unfolding values
length_values [] ws = refl
length_values (e ∷ form) ws = ap suc (length_values form ws)

-- 293 zero bytes
abbrev pub blank : List ℕ
blank = replicate image_size 0

pub length_blank : length blank ≡ image_size
length_blank = length-replicate {A = ℕ} image_size 0

replicate_bytes : (n : ℕ) → Bytes (replicate n 0)
replicate_bytes zero k = omega arith
replicate_bytes (suc n) zero = omega arith
replicate_bytes (suc n) (suc k) = replicate_bytes n k

-- the widths of all fields, the padding's last, are the image's bits
all_widths : width_of (widths saved_form ++ (padding ∷ [])) ≡ 8 * image_size
unfolding saved_form saved_runs entries_in run widths width_of
all_widths = refl

pub length_image_of : (ws : List ℕ) → length (image_of ws) ≡ image_size
unfolding image_of
length_image_of ws = length_put_fields blank 0 (widths saved_form) (values saved_form ws) ∙ length_blank

blank_padding : field blank used_bits padding ≡ 0
unfolding field bit
blank_padding = refl

pub total : width_of (widths saved_form) ≡ used_bits
unfolding used
total = form_used

pub padding_image_of : (ws : List ℕ) → padding_of (image_of ws) ≡ 0
unfolding image_of padding_of
padding_image_of ws =
    ap (λ (p : ℕ). field (put_fields blank 0 (widths saved_form) (values saved_form ws)) p padding) form_used
    ∙ field_put_fields_other blank 0 (widths saved_form) (values saved_form ws) used_bits padding (omega (arith, total, length_blank)) (inr (omega (arith, total)))
    ∙ blank_padding

-- the padding is the last field
last : (img ws : List ℕ) → length (widths saved_form) ≡ length (values saved_form ws)
    → put_fields img 0 (widths saved_form ++ (padding ∷ [])) (values saved_form ws ++ (0 ∷ [])) ≡ put_field (put_fields img 0 (widths saved_form) (values saved_form ws)) (used saved_form) padding 0
unfolding put_fields used
last img ws same = put_fields_append img 0 (widths saved_form) (padding ∷ []) (values saved_form ws) (0 ∷ []) same ∙ rw zero-add

-- it is zero already
kept : (ws : List ℕ) → put_field (put_fields blank 0 (widths saved_form) (values saved_form ws)) (used saved_form) padding 0 ≡ image_of ws
unfolding image_of padding_of
kept ws = ap (put_field (image_of ws) (used saved_form) padding) (sym (padding_image_of ws)) ∙ put_field_own (image_of ws) (used saved_form) padding

-- the entries and then the padding, over any bytes
pub image_of_written : (img ws : List ℕ) → length img ≡ image_size → Bytes img
    → put_field (put_fields img 0 (widths saved_form) (values saved_form ws)) (used saved_form) padding 0 ≡ image_of ws
image_of_written img ws l hs =
    let us = widths saved_form in
    let vs = values saved_form ws in
    let same : length us ≡ length vs = length_widths saved_form ∙ sym (length_values saved_form ws) in
    let longer : length (us ++ (padding ∷ [])) ≡ length (vs ++ (0 ∷ [])) = simp length-append (omega arith) in
    sym (last img ws same)
    ∙ put_fields_whole img blank (us ++ (padding ∷ [])) (vs ++ (0 ∷ [])) longer hs (replicate_bytes image_size) (l ∙ sym length_blank) (all_widths ∙ ap (λ (n : ℕ). 8 * n) (sym l))
    ∙ last blank ws same
    ∙ kept ws
