-- `image::write_image` meets its contract, test by test. Assumes nothing.
use Rattle.std.proofs.Common.{ℕ, List, ◌++◌, drop, sym, refl, ap, ◌∙◌, length-take-le}
use Rattle.wire.specs.Buffer.{overlay}
use Rattle.card.proofs.Facts.{fit_facts}
use Rattle.card.proofs.Replies.{early_none, shell_stopped, shell_passed}
use Rattle.image.specs.Form.{image_size}
use Rattle.image.specs.Saved.{image_of}
use Rattle.image.specs.Entries.{write_image}
use Rattle.image.proofs.Whole.{length_image_of}
use Rattle.image.proofs.write_image.Goals as goal

pub returns-then-number-ne-ANSWERED : goal.returns-then-number-ne-ANSWERED
unfolding write_image
returns-then-number-ne-ANSWERED c = shell_stopped _ _ _ _ c.stop_early-number.ensures c.if-number-ne-ANSWERED.true

pub slice_bounds-pack-end : goal.slice_bounds-pack-end
slice_bounds-pack-end c = (early_none _ _ _ c.stop_early-number.ensures c.if-number-ne-ANSWERED.false).1

pub slice_bounds-pack-end-2 : goal.slice_bounds-pack-end-2
slice_bounds-pack-end-2 c = sym (length-take-le image_size c.args.out.now (early_none _ _ _ c.stop_early-number.ensures c.if-number-ne-ANSWERED.false).1)

pub pack-requires : goal.pack-requires
pack-requires c = let p = early_none _ _ _ c.stop_early-number.ensures c.if-number-ne-ANSWERED.false in
    ((fit_facts _ p.0).words_length, length-take-le image_size c.args.out.now p.1)

pub returns : goal.returns
unfolding write_image overlay
returns c = let passed = c in
    let p = early_none _ _ _ passed.stop_early-number.ensures passed.if-number-ne-ANSWERED.false in
    let a = passed.args in
    let l = length_image_of a.words.now in
    shell_passed _ _ _ _ p.0 p.1
    (record {
      numbered = refl;
      measured = sym l;
      written = ap (λ (x : List ℕ). x ++ drop image_size a.out.now) c.pack.ensures ∙ ap (λ (n : ℕ). image_of a.words.now ++ drop n a.out.now) (sym l);
      left = refl;
    })
