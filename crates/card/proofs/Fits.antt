-- A fit card stays fit: what passes the shell leaves one, and so do a probe code and a restart. Assumes nothing.
use Rattle.std.proofs.Common.{◌≡◌, ℕ, zero, suc, ◌+◌, ◌<◌, ◌≤◌, true, ltb, leb, List, [], ◌∷◌, length, get_or, replicate, sym, refl, ◌∙◌, not-suc-le-zero, arith, length-set}
use Rattle.wire.specs.Choose.{choose}
use Rattle.wire.specs.Buffer.{put, part}
use Rattle.wire.proofs.Cases.{by_choice}
use Rattle.wire.proofs.Buffers.{length_part, length_put}
use Rattle.card.specs.Layout.{Card, channels, demands_at, parameters_at, parameter_count, saved_parameters_at, registers, buffer_at, operational_at, saved_registers_at, word_count, kind_at}
use Rattle.card.specs.Change.{fit_pending, no_change}
use Rattle.card.specs.Row.{no_parts}
use Rattle.card.specs.Fitness.{in_span, in_range, fit_words, fit, demand_most}
use Rattle.card.specs.Probe.{fault_code}
use Rattle.card.specs.Entries.{with_code, set_code, registers_to, restored_registers, restored_parameters, full_demands, faulted, dropped, restarted, restart}
use Rattle.card.specs.Governor.{governor_reply}
use Rattle.card.specs.Reply.{Reply, on_words, WordsReply, shell, guarded}
use Rattle.card.proofs.Facts.{fit_from, fit_facts}
use Rattle.card.proofs.Ranges.{at_demand, at_register, parameter_copy, put_fit, copied_fit}
use Rattle.card.proofs.Rows.{length_no_parts}

abbrev pub IsFit : Reply → Type 0
IsFit reply = fit reply.card ≡ true

pub shell_fit : (least : ℕ) (card : Card) (room : ℕ) (reply : Reply) → fit card ≡ true → IsFit reply → IsFit (shell least card room reply)
unfolding shell
shell_fit least card room reply e r =
    by_choice IsFit (fit card) _ _ (λ _. by_choice IsFit (leb least room) _ _ (λ _. r) (λ _. e)) (λ _. e)

guarded_fit : (card : Card) (reply : Reply) → fit card ≡ true → IsFit reply → IsFit (guarded card reply)
unfolding guarded
guarded_fit card reply e r = by_choice IsFit (fit card) _ _ (λ _. r) (λ _. e)

-- a reply that changes words alone
pub words_reply_fit : (card : Card) (reply : WordsReply) → fit card ≡ true → length reply.words ≡ word_count → fit_words reply.words ≡ true → IsFit (on_words card reply)
words_reply_fit card reply e n w =
    let t = fit_facts card e in
    fit_from (on_words card reply).card n t.memory_length t.ports_length w t.pending_fit

-- a card with nothing pending
pub dropped_fit : (p : List ℕ) → fit_pending (dropped p) ≡ true
unfolding dropped fit_pending
dropped_fit [] = refl
dropped_fit (x ∷ p) = refl

pub length_dropped : (p : List ℕ) → length (dropped p) ≡ length p
unfolding dropped
length_dropped p = length-set p kind_at no_change

pub set_code_stays_fit : (card : Card) (channel code : ℕ) → fit card ≡ true → IsFit (set_code card channel code)
unfolding set_code with_code
set_code_stays_fit card channel code e =
    let t = fit_facts card e in
    guarded_fit card _ e
    (by_choice IsFit (ltb channel channels) _ _
    (λ _. fit_from (with_code card channel code) t.words_length (length-set card.memory channel code ∙ t.memory_length) t.ports_length t.words_fit t.pending_fit)
    (λ _. e))

-- as many words as a card has, each in its range
pub record Good (ws : List ℕ) : Type 0 where
  pub long : length ws ≡ word_count
  pub fits : fit_words ws ≡ true

-- n words copied to where the ranges are the same
good_copy : (from to n : ℕ) → from + n ≤ word_count → to + n ≤ word_count → ((i x : ℕ) → i < n → in_range (from + i) x ≡ in_range (to + i) x) → (ws : List ℕ) → Good ws → Good (put ws to (part ws from (from + n)))
good_copy from to n h k same ws g =
    let l : length (part ws from (from + n)) ≡ n = length_part ws from (from + n) (omega arith) (omega (arith, g.long)) ∙ omega arith in
    record {
      long = length_put ws to (part ws from (from + n)) (omega (arith, g.long)) ∙ g.long;
      fits = copied_fit ws from to n (omega (arith, g.long)) (omega (arith, g.long)) g.fits same;
    }

-- one copy of the registers becomes another
pub good_registers : (from to : ℕ) → buffer_at ≤ from → buffer_at ≤ to → from + registers ≤ word_count → to + registers ≤ word_count → (ws : List ℕ) → Good ws → Good (put ws to (part ws from (from + registers)))
good_registers from to a b h k =
    good_copy from to registers h k (λ i x l. sym (at_register (from + i) x (omega arith)) ∙ at_register (to + i) x (omega arith))

good_restored : (ws : List ℕ) → Good ws → Good (restored_parameters (restored_registers ws))
unfolding restored_parameters restored_registers registers_to
good_restored ws g =
    good_copy saved_parameters_at parameters_at parameter_count (omega arith) (omega arith) (λ i x l. parameter_copy i x l) _
    (good_registers saved_registers_at operational_at (omega arith) (omega arith) (omega arith) (omega arith) _
    (good_registers saved_registers_at buffer_at (omega arith) (omega arith) (omega arith) (omega arith) ws g))

replicate_at : (n x i : ℕ) → i < n → get_or (replicate n x) i 0 ≡ x
replicate_at zero x i h = absurd (not-suc-le-zero h)
replicate_at (suc n) x zero h = refl
replicate_at (suc n) x (suc i) h = replicate_at n x i (omega arith)

good_demands : (ws : List ℕ) → Good ws → Good (full_demands ws)
unfolding full_demands in_span choose
good_demands ws g =
    let s = replicate channels demand_most in
    let full : in_span 0 demand_most demand_most ≡ true = refl in
    record {
      long = length_put ws demands_at s (omega (arith, g.long)) ∙ g.long;
      fits = put_fit ws demands_at s (omega (arith, g.long)) g.fits
          (λ i h. rw (replicate_at channels demand_most i h) (sym (at_demand (demands_at + i) demand_most (omega arith) (omega arith)) ∙ full));
    }

pub restart_stays_fit : (card : Card) → fit card ≡ true → IsFit (restart card)
unfolding restart restarted faulted
restart_stays_fit card e =
    let t = fit_facts card e in
    let g = good_demands _ (good_restored card.words (record { long = t.words_length; fits = t.words_fit })) in
    guarded_fit card _ e
    (fit_from (restarted card) g.long
    (length_put card.memory 0 (replicate channels fault_code) (omega (arith, t.memory_length)) ∙ t.memory_length)
    (length_dropped (no_parts card.ports) ∙ length_no_parts card.ports ∙ t.ports_length) g.fits (dropped_fit (no_parts card.ports)))

pub governor_stays_fit : (card : Card) (channel : ℕ) → fit card ≡ true → IsFit (governor_reply card channel)
governor_stays_fit card channel e = e
