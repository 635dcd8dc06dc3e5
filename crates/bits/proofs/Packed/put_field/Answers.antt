-- `bits::Packed::put_field` meets its contract: the field is held, and a whole word of what is held goes to the image. Assumes nothing.
use Rattle.std.proofs.Common.{◌≡◌, ℕ, ◌+◌, ◌-◌, ◌*◌, ◌/◌, ◌%◌, ◌^◌, List, sym, ap, ◌∙◌, arith}
use Rattle.bits.specs.Bits.{put_field}
use Rattle.bits.specs.Packing.{packed, place_of}
use Rattle.bits.proofs.Reading.{Bytes}
use Rattle.bits.proofs.Packing.{put_field_hold, put_field_parts}
use Rattle.bits.proofs.Packed.put_field.Goals as goal
use Rattle.bits.proofs.Packed.put_field.Goals.{After-low_bits}

cut64 : (a v : ℕ) → (a % 2 ^ 64 + v) % 2 ^ 64 ≡ (a + v) % 2 ^ 64
cut64 a v = omega arith

bytes : (c : After-low_bits) → Bytes c.args.image.now
bytes c = λ k. omega (arith, c.type_inv.image k)

-- what is held with the field
abbrev held : After-low_bits → ℕ
held c = (c.args.self.held * 2 ^ c.args.width % 2 ^ 64 + c.low_bits.result) % 2 ^ 64

step : (c : After-low_bits) → let a = c.args in let p = a.self in
    put_field a.image.now (8 * p.at) (p.count + a.width) (held c) ≡ put_field (packed a.image.now p) (place_of p) a.width a.value
unfolding packed
step c =
    let a = c.args in
    let p = a.self in
    ap (put_field a.image.now (8 * p.at) (p.count + a.width)) (ap (λ (v : ℕ). (p.held * 2 ^ a.width % 2 ^ 64 + v) % 2 ^ 64) c.low_bits.ensures ∙ cut64 (p.held * 2 ^ a.width) (a.value % 2 ^ a.width))
    ∙ sym (put_field_hold a.image.now (8 * p.at) p.count a.width p.held a.value (bytes c) c.requires.0.inside (omega (arith, p.few)))

pub returns-then-count-lt-WORD_BITS : goal.returns-then-count-lt-WORD_BITS
unfolding packed
returns-then-count-lt-WORD_BITS c = (step ((goal.at.returns-then-count-lt-WORD_BITS c).After-low_bits), omega arith)

pub returns : goal.returns
unfolding packed
returns c =
    let k = (goal.at.returns c).After-low_bits in
    let a = k.args in
    let p = a.self in
    let left = p.count + a.width - 32 in
    let e : p.count + a.width ≡ 32 + left = omega arith in
    let q : 8 * (p.at + 4) ≡ 8 * p.at + 32 = omega arith in (
      ap (λ (d : List ℕ). put_field d (8 * (p.at + 4)) left (held k)) c.scatter.ensures
          ∙ ap (λ (x : ℕ). put_field (put_field a.image.now (8 * p.at) 32 (held k / 2 ^ left)) x left (held k)) q
          ∙ sym (put_field_parts a.image.now (8 * p.at) 32 left (held k) (bytes k) (omega arith))
          ∙ ap (λ (n : ℕ). put_field a.image.now (8 * p.at) n (held k)) (sym e)
          ∙ step k,
      omega arith,
    )
