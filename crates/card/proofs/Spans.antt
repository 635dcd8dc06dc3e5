-- A span of words, counted from its lower end. Assumes nothing.
use Rattle.std.proofs.Common.{◌≡◌, ℕ, ◌+◌, ◌%◌, ◌<◌, ◌≤◌, true, false, not, ltb, ap, ◌∙◌, add_assoc, arith, le-ltb, lt-ltb, le-leb}
use Rattle.std.proofs.Math.Decide.{dec_lt}
use Rattle.std.proofs.lemmas.Bool.{lt-leb}
use Rattle.wire.specs.Choose.{choose}
use Rattle.wire.specs.Word.{word_values}
use Rattle.card.specs.Fitness.{in_span}
use Rattle.card.specs.Scans.{half, is_beyond}

-- hi is d words above lo, and x is e words above it, modulo 2 ^ 32: x lies in the span where e is at most d
pub span_from : (lo hi x d e : ℕ) → lo < word_values → d < word_values → e < word_values → (d + lo) % word_values ≡ hi → (e + lo) % word_values ≡ x → in_span lo hi x ≡ not (ltb d e)
unfolding in_span choose
span_from lo hi x d e hl hd he p q = by (dec_lt hi lo) (dec_lt x lo) (dec_lt hi x)
  where
    beyond : d < e → not (ltb d e) ≡ false
    beyond h = rw (lt-ltb d e h)

    inside : e ≤ d → not (ltb d e) ≡ true
    inside h = rw (le-ltb d e h)

    by : Dec (hi < lo) → Dec (x < lo) → Dec (hi < x) → in_span lo hi x ≡ not (ltb d e)
    by (yes a) (yes b) (yes c) = rw (lt-leb lo hi a, lt-leb lo x b, lt-leb x hi c, beyond (omega arith))
    by (yes a) (yes b) (no c) = rw (lt-leb lo hi a, lt-leb lo x b, le-leb x hi (omega arith), inside (omega arith))
    by (yes a) (no b) c = rw (lt-leb lo hi a, le-leb lo x (omega arith), inside (omega arith))
    by (no a) (yes b) c = rw (le-leb lo hi (omega arith), lt-leb lo x b, beyond (omega arith))
    by (no a) (no b) (yes c) = rw (le-leb lo hi (omega arith), le-leb lo x (omega arith), lt-leb x hi c, beyond (omega arith))
    by (no a) (no b) (no c) = rw (le-leb lo hi (omega arith), le-leb lo x (omega arith), le-leb x hi (omega arith), inside (omega arith))

-- a sum of which a part was taken modulo the values of a word
mod_left : (m n : ℕ) → (m % word_values + n) % word_values ≡ (m + n) % word_values
mod_left m n = omega arith

up : (lo x base : ℕ) → x < word_values → (base + lo) % word_values ≡ half → (((x + base) % word_values + half) % word_values + lo) % word_values ≡ x
up lo x base hx b = mod_left ((x + base) % word_values + half) lo ∙ ap (λ (n : ℕ). n % word_values) (add_assoc ((x + base) % word_values) half lo) ∙ mod_left (x + base) (half + lo) ∙ omega arith

-- the same as `is_beyond` tests it: from the word −base, both sides shifted by half the values of a word
pub span_shifted : (lo hi x base d most : ℕ) → lo < word_values → x < word_values → d < word_values → (base + lo) % word_values ≡ half → (d + lo) % word_values ≡ hi → most ≡ (d + half) % word_values
    → in_span lo hi x ≡ not (is_beyond base most x)
span_shifted lo hi x base d most hl hx hd b p m =
    let back : (most + half) % word_values ≡ d = omega arith in
    rw back (span_from lo hi x d (((x + base) % word_values + half) % word_values) hl hd (omega arith) p (up lo x base hx b))
