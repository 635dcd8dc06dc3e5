-- One turn of the reader over the image's runs, and the end of its walk. Assumes nothing.
use Rattle.std.proofs.Common.{◌≡◌, ℕ, ◌+◌, ◌^◌, ◌<◌, ◌≤◌, List, ◌++◌, length, take, replicate, sym, ap, ◌∙◌, append_assoc, append-nil, zero-add, arith, length-append, length-take-le, take_all, take_at}
use Rattle.wire.specs.Buffer.{put}
use Rattle.bits.specs.Bits.{field, Within}
use Rattle.bits.specs.Fields.{width_of, fields, WithinAll}
use Rattle.image.specs.Form.{saved_form, widths, used, padding, image_size}
use Rattle.image.specs.Scans.{run_count, run_at, entries_at, rest_of, first_of, bits_of}
use Rattle.image.specs.Saved.{entries_of, padding_of}
use Rattle.image.proofs.Runs.{form_length, form_used, run_sound, widths_run, rest_all, read_none, read_rest, used_none, used_rest, length_run, length_fields, first_none, first_next, first_last, first_inside}

-- the place of run k, where the runs from it on take what is left of the entries' bits
abbrev pub At : ℕ → ℕ → Type 0
At k p = p + used (rest_of k) ≡ used saved_form

-- the values of the runs before it, and then what stands in the fields from it on, are all
abbrev pub Filled : List ℕ → ℕ → ℕ → List ℕ → Type 0
Filled img k p ys = take (first_of k) ys ++ fields img p (widths (rest_of k)) ≡ entries_of img

pub begins : At 0 0
begins = rw rest_all (zero-add (used saved_form))

pub filled_none : (img ys : List ℕ) → Filled img 0 0 ys
unfolding entries_of
filled_none img ys = rw (first_none, rest_all)

module _ (k p : ℕ) (h : k < run_count) (at : At k p) where
  pub next : At (k + 1) (p + bits_of k)
  next = omega (arith, used_rest k h, at)

  pub next_fits : p + bits_of k < 2 ^ 64
  next_fits = omega (arith, used_rest k h, at, form_used)

  pub run_within : (img : List ℕ) → length img ≡ image_size → WithinAll img p (run_at k).width (run_at k).count
  unfolding used
  run_within img l =
      let r = run_at k in
      let bits : width_of (replicate r.count r.width) ≡ bits_of k = ap width_of (sym (widths_run r.word r.count r.width r.bias)) in
      let sound = run_sound k h in
      record { inside = omega (arith, bits, used_rest k h, form_used, at, l); some = sound.some; narrow = sound.narrow; long = omega (arith, l); short = omega (arith, l) }

  length_here : (img : List ℕ) → length (fields img p (widths (entries_at k))) ≡ (run_at k).count
  length_here img = length_fields (entries_at k) img p ∙ length_run (run_at k).word (run_at k).count (run_at k).width (run_at k).bias

  pub run_inside : (img ys : List ℕ) → length ys ≡ length saved_form → first_of k + length (fields img p (widths (entries_at k))) ≤ length ys
  run_inside img ys l = omega (arith, length_here img, first_inside k h, form_length, l)

  pub filled_next : (img ys zs : List ℕ) → length ys ≡ length saved_form → zs ≡ put ys (first_of k) (fields img p (widths (entries_at k))) → Filled img k p ys → Filled img (k + 1) (p + bits_of k) zs
  unfolding put
  filled_next img ys zs l e f =
      let here = fields img p (widths (entries_at k)) in
      let later = fields img (p + bits_of k) (widths (rest_of (k + 1))) in
      let front = take (first_of k) ys in
      let n : length here ≡ (run_at k).count = length_here img in
      let m : length front ≡ first_of k = length-take-le (first_of k) ys (omega (arith, first_inside k h, form_length, l)) in
      let before : length (front ++ here) ≡ first_of (k + 1) = omega (arith, length-append front here, n, m, first_next k h) in
      let taken : take (first_of (k + 1)) zs ≡ front ++ here = ap (take (first_of (k + 1))) (e ∙ sym (append_assoc front here _)) ∙ take_at (front ++ here) _ (first_of (k + 1)) before in
      ap (λ (x : List ℕ). x ++ later) taken ∙ append_assoc front here later ∙ ap (λ (x : List ℕ). front ++ x) (sym (read_rest k h img p)) ∙ f

module _ (img : List ℕ) (k p : ℕ) (z : k ≡ run_count) (at : At k p) where
  place_last : p ≡ used saved_form
  place_last = let e = rw z at at in omega (arith, used_none, e)

  pub filled_last : (ys : List ℕ) → length ys ≡ length saved_form → Filled img k p ys → ys ≡ entries_of img
  filled_last ys l f =
      let g = rw z at f in
      let all : take (first_of run_count) ys ≡ ys = take_all (first_of run_count) ys (omega (arith, first_last, form_length, l)) in
      sym (ap (λ (x : List ℕ). take (first_of run_count) ys ++ x) (read_none img p) ∙ append-nil (take (first_of run_count) ys) ∙ all) ∙ g

  pub padding_inside : length img ≡ image_size → Within img p padding
  padding_inside l = record { inside = omega (arith, l, form_used, place_last); some = omega arith; narrow = omega arith; long = omega (arith, l); short = omega (arith, l) }

  pub padding_is : field img p padding ≡ padding_of img
  unfolding padding_of
  padding_is = ap (λ (q : ℕ). field img q padding) place_last
