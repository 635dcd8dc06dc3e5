-- Another code in a channel: what the card then holds, and how an answer passes the shell. Assumes nothing.
use Rattle.std.proofs.Common.{◌≡◌, ℕ, ◌<◌, ◌≤◌, Bool, true, false, leb, get_or, sym, refl, ap, ◌∙◌, subst, arith, length-set, get_or-set_other, get_or-set_same, le-leb}
use borrow.Author.Tests.{lt-leb}
use Rattle.wire.specs.Choose.{choose}
use Rattle.wire.proofs.Cases.{yes, no}
use Rattle.card.specs.Numbers.{buffer_short, card_unfit}
use Rattle.card.specs.Layout.{Card, channels}
use Rattle.card.specs.Fitness.{fit}
use Rattle.card.specs.Probe.{fault_code, reading_of, tenths_of}
use Rattle.card.specs.Entries.{with_code}
use Rattle.card.specs.Reply.{Reply, SameAnswer, WordsReply, on_words, silent, shell, guarded, room_least}
use Rattle.card.specs.declared.probe.Reading.TheVariants.{Temperature, Fault}
use Rattle.card.proofs.Facts.{fit_facts}
use Rattle.card.proofs.Probes.{fault_read, temperature_read}
use Rattle.faults.specs.NoTemperature.{Failed, Silent}

-- the shell by its two tests: past it, 12, then 11
module _ (card : Card) (room : ℕ) (r : Reply) where
  pub shell_open : fit card ≡ true → room_least ≤ room → shell room_least card room r ≡ r
  unfolding shell
  shell_open h l = sym (yes _ _ _ _ h (yes _ _ _ _ (le-leb room_least room l) refl))

  pub unfit_silent : fit card ≡ false → Silent 12 (shell room_least card room r)
  unfolding shell
  unfit_silent h = subst (Silent 12) (no _ _ _ _ h refl) (record { number = refl; bytes = refl })

  pub short_silent : fit card ≡ true → room < room_least → Silent 11 (shell room_least card room r)
  unfolding shell
  short_silent h l = subst (Silent 11) (yes _ _ _ _ h (no _ _ _ _ (lt-leb room_least room l) refl)) (record { number = refl; bytes = refl })

pub failed_read : (card : Card) (channel : ℕ) → Failed card channel → reading_of (get_or card.memory channel 0) ≡ Fault
failed_read card channel x = ap reading_of x.code ∙ fault_read

module _ (card : Card) (channel code : ℕ) where
  -- the card is as fit as it was
  pub code_fit : fit (with_code card channel code) ≡ fit card
  unfolding fit with_code
  code_fit = rw length-set

  -- the code is there, and the other channels have theirs
  pub code_held : fit card ≡ true → channel < channels → get_or (with_code card channel code).memory channel 0 ≡ code
  unfolding with_code
  code_held e h = get_or-set_same card.memory channel code 0 (omega (arith, (fit_facts card e).memory_length))

  pub code_other : (k : ℕ) → (k ≡ channel → ⊥) → get_or card.memory k 0 ≡ get_or (with_code card channel code).memory k 0
  unfolding with_code
  code_other k n = sym (get_or-set_other card.memory channel k code 0 n)

  pub warm_read : fit card ≡ true → channel < channels → code < fault_code → reading_of (get_or (with_code card channel code).memory channel 0) ≡ Temperature (record { 0 = tenths_of code })
  warm_read e h l = ap reading_of (code_held e h) ∙ (temperature_read code l).taken

  -- an answer that is the same passes the shell in the same way
  pub shell_same : (least room : ℕ) (x y : Reply) → SameAnswer x y → SameAnswer (shell least card room x) (shell least (with_code card channel code) room y)
  unfolding shell choose
  shell_same least room x y s = rw code_fit (by (fit card) (leb least room))
    where
      by : (t u : Bool)
          → SameAnswer (choose t (choose u x (silent buffer_short card)) (silent card_unfit card))
          (choose t (choose u y (silent buffer_short (with_code card channel code))) (silent card_unfit (with_code card channel code)))
      by true true = s
      by true false = record { number = refl; bytes = refl }
      by false u = record { number = refl; bytes = refl }

  -- the same of an answer over the words alone
  pub words_same : (room : ℕ) (x y : WordsReply) → x ≡ y → SameAnswer (shell room_least card room (on_words card x)) (shell room_least (with_code card channel code) room (on_words (with_code card channel code) y))
  words_same room x y e = shell_same room_least room _ _ (record { number = ap (λ (r : WordsReply). r.number) e; bytes = ap (λ (r : WordsReply). r.bytes) e })

  -- the same of an entry without an answer buffer
  pub guarded_same : (x y : Reply) → SameAnswer x y → SameAnswer (guarded card x) (guarded (with_code card channel code) y)
  unfolding guarded choose
  guarded_same x y s = rw code_fit (by (fit card))
    where
      by : (t : Bool) → SameAnswer (choose t x (silent card_unfit card)) (choose t y (silent card_unfit (with_code card channel code)))
      by true = s
      by false = record { number = refl; bytes = refl }
