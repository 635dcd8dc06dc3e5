-- Cards as they are, for witnesses: the start card is one, and stays one with a word or a probe code set. Assumes nothing.
use Rattle.std.proofs.Common.{◌≡◌, ℕ, zero, suc, ◌<◌, Bool, true, ◌&&◌, ltb, List, [], ◌∷◌, set, refl, ◌∙◌, arith, length-set, ltb-true}
use Rattle.wire.specs.Word.{word_values}
use Rattle.wire.specs.Sum.{byte_values}
use Rattle.wire.proofs.Tests.{and_true}
use Rattle.wire.proofs.Computed as wire
use Rattle.card.specs.Layout.{Card, with_words}
use Rattle.card.specs.Fitness.{in_range}
use Rattle.card.specs.Entries.{with_code}
use Rattle.card.specs.Start.{start_words, start_memory, start_card}
use Rattle.card.proofs.Computed as card
use Rattle.card.proofs.Facts.{fit_from, fit_facts, fit_words_law}
use Rattle.card.proofs.Ranges.{set_fit}
use Rattle.asking.specs.Claims.{Below, Real}

-- every element of a list below a bound, as a test
abbrev pub every : ℕ → List ℕ → Bool
every bound [] = true
every bound (x ∷ s) = ltb x bound && every bound s

pub every_at : (bound : ℕ) (s : List ℕ) → 0 < bound → every bound s ≡ true → Below bound s
every_at bound [] p h i = p
every_at bound (x ∷ s) p h zero = ltb-true x bound (and_true (ltb x bound) (every bound s) h).0
every_at bound (x ∷ s) p h (suc i) = every_at bound s p (and_true (ltb x bound) (every bound s) h).1 i

set_below : (bound : ℕ) (s : List ℕ) (k v : ℕ) → v < bound → Below bound s → Below bound (set s k v)
set_below bound [] k v h all i = all i
set_below bound (x ∷ s) zero v h all zero = h
set_below bound (x ∷ s) zero v h all (suc i) = all (suc i)
set_below bound (x ∷ s) (suc k) v h all zero = all zero
set_below bound (x ∷ s) (suc k) v h all (suc i) = set_below bound s k v h (λ j. all (suc j)) i

pub start_real : Real start_card
unfolding wire.computed card.computed
start_real =
    record {
      fits = refl;
      words = every_at word_values start_words (omega arith) refl;
      bytes = every_at byte_values start_memory (omega arith) refl;
    }

pub real_set : (card : Card) (k x : ℕ) → Real card → x < word_values → in_range k x ≡ true → Real (with_words card (set card.words k x))
real_set card k x r w i =
    let t = fit_facts card r.fits in
    record {
      fits = fit_words_law card (set card.words k x) r.fits (length-set card.words k x) ∙ set_fit card.words k x t.words_fit i;
      words = set_below word_values card.words k x w r.words;
      bytes = r.bytes;
    }

pub real_code : (card : Card) (channel code : ℕ) → Real card → code < byte_values → Real (with_code card channel code)
unfolding with_code
real_code card channel code r b =
    let t = fit_facts card r.fits in
    record {
      fits = fit_from (with_code card channel code) t.words_length (length-set card.memory channel code ∙ t.memory_length) t.ports_length t.words_fit t.pending_fit;
      words = r.words;
      bytes = set_below byte_values card.memory channel code b r.bytes;
    }
