-- From the test of a card to the plain facts of specs/Fit.antt, and back. Assumes nothing.
use Rattle.std.proofs.Common.{◌≡◌, ℕ, ◌%◌, ◌≤◌, true, not, eqb, leb, List, length, get_or, arith, eqb-true, leb-true}
use Rattle.wire.specs.Choose.{choose}
use Rattle.wire.proofs.Tests.{and_true, and_true_right}
use Rattle.card.specs.Layout.{Card, with_words, ia_at, love_address_at, word_count, memory_size, row_size}
use Rattle.card.specs.Change.{fit_pending}
use Rattle.card.specs.Fitness.{in_span, in_range, fit_words, fit, ia_most, love_address_most, love_hundred}
use Rattle.card.specs.Fit.{Fit}
use Rattle.card.proofs.Ranges.{words_at}

-- a span that starts at zero is an upper bound
pub span_most : (hi x : ℕ) → leb 0 hi ≡ true → in_span 0 hi x ≡ true → x ≤ hi
unfolding in_span choose
span_most hi x z e = leb-true x hi (and_true (leb 0 x) (leb x hi) (rw z at e)).1

-- the five tests of a fit card
pub fit_from : (card : Card) → length card.words ≡ word_count → length card.memory ≡ memory_size → length card.ports ≡ row_size
    → fit_words card.words ≡ true → fit_pending card.ports ≡ true → fit card ≡ true
unfolding fit
fit_from card w m p f g = rw (w, m, p, f, g)

-- two of the ranges, as bounds
ia_most_law : (ws : List ℕ) → length ws ≡ word_count → fit_words ws ≡ true → get_or ws ia_at 0 ≤ ia_most
unfolding in_range choose
ia_most_law ws l t = leb-true (get_or ws ia_at 0) ia_most (words_at ws t ia_at (omega arith))

love_most_law : (ws : List ℕ) → length ws ≡ word_count → fit_words ws ≡ true → get_or ws love_address_at 0 ≤ love_address_most
unfolding in_range choose
love_most_law ws l t =
    let x = get_or ws love_address_at 0 in
    leb-true x love_address_most (and_true (leb x love_address_most) (not (eqb (x % love_hundred) 0)) (words_at ws t love_address_at (omega arith))).0

pub fit_facts : (card : Card) → fit card ≡ true → Fit card
unfolding fit
fit_facts card fits =
    let a = and_true (eqb (length card.words) word_count) _ fits in
    let b = and_true (eqb (length card.memory) memory_size) _ a.1 in
    let d = and_true (eqb (length card.ports) row_size) _ b.1 in
    let w = and_true (fit_words card.words) (fit_pending card.ports) d.1 in
    let l = eqb-true (length card.words) word_count a.0 in
    record {
      words_length = l;
      memory_length = eqb-true (length card.memory) memory_size b.0;
      ports_length = eqb-true (length card.ports) row_size d.0;
      words_fit = w.0;
      pending_fit = w.1;
      ia = ia_most_law card.words l w.0;
      love_address = love_most_law card.words l w.0;
    }

-- a fit card with other words of the same number is fit exactly if these are
pub fit_words_law : (card : Card) (ws : List ℕ) → fit card ≡ true → length ws ≡ length card.words → fit (with_words card ws) ≡ fit_words ws
unfolding fit
fit_words_law card ws t l =
    let f = fit_facts card t in
    rw (l, f.words_length, f.memory_length, f.ports_length, f.pending_fit) (and_true_right (fit_words ws))
