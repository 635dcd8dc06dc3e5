-- A fit card stays fit, whatever LECOM frame it gets. Assumes nothing.
use Rattle.std.proofs.Common.{Result, Ok, Err, ◌≡◌, ℕ, ◌+◌, true, eqb, List, sym, ◌∙◌, arith, length-set}
use Rattle.wire.specs.Word.{minus}
use Rattle.wire.proofs.Cases.{by_choice}
use Rattle.card.specs.Layout.{Card, buffer_at, operational_at, saved_registers_at}
use Rattle.card.specs.Fitness.{in_span, fit, register_most}
use Rattle.card.specs.Reply.{on_words, room_least}
use Rattle.card.proofs.Facts.{fit_facts}
use Rattle.card.proofs.Ranges.{at_register, set_fit}
use Rattle.card.proofs.Fits.{IsFit, shell_fit, words_reply_fit, Good, good_registers}
use Rattle.lecom.specs.Frame.{asked}
use Rattle.lecom.specs.Stages.{Sound}
use Rattle.lecom.specs.Answer.{activated, stored, written, obeyed, address_of, lecom_reply}
use Rattle.lecom.specs.declared.form.Named.{Named}
use Rattle.lecom.specs.declared.form.Named.TheVariants.{Register, Probe, Activate, Store}
use Rattle.lecom.specs.declared.frame.Order.{Order}
use Rattle.lecom.specs.declared.frame.Order.TheVariants.{Read, Write}
use Rattle.lecom.specs.declared.frame.Refusal.{Refusal}
use Rattle.lecom.specs.declared.frame.Refusal.TheVariants.{Silent, Refused}
use Rattle.lecom.proofs.Frames.{asked_sound}

-- what a write makes of the words: as many, and all in range
written_good : (ws : List ℕ) (named : Named) (value : ℕ) → Good ws → in_span (minus register_most) register_most value ≡ true → Good (written ws named value)
unfolding written activated stored
written_good ws (Register k) value g h =
    record { long = length-set ws (buffer_at + k) value ∙ g.long; fits = set_fit ws (buffer_at + k) value g.fits (sym (at_register (buffer_at + k) value (omega arith)) ∙ h) }
written_good ws (Probe channel) value g h = g
written_good ws Activate value g h =
    by_choice Good (eqb value 0) _ _ (λ _. g) (λ _. good_registers buffer_at operational_at (omega arith) (omega arith) (omega arith) (omega arith) ws g)
written_good ws Store value g h =
    by_choice Good (eqb value 0) _ _ (λ _. g) (λ _. good_registers operational_at saved_registers_at (omega arith) (omega arith) (omega arith) (omega arith) ws g)

obeyed_fit : (card : Card) (f : List ℕ) (o : Result Order Refusal) → Sound f o → fit card ≡ true → IsFit (on_words card (obeyed card.words card.memory f o))
unfolding obeyed
obeyed_fit card f (Err (Silent number)) s e = e
obeyed_fit card f (Err (Refused number)) s e = e
obeyed_fit card f (Ok (Read named)) s e = e
obeyed_fit card f (Ok (Write named value)) s e =
    let t = fit_facts card e in
    let g = written_good card.words named value (record { long = t.words_length; fits = t.words_fit }) s.1 in
    words_reply_fit card (obeyed card.words card.memory f (Ok (Write named value))) e g.long g.fits

pub stays_fit : (card : Card) (room : ℕ) (f : List ℕ) → fit card ≡ true → IsFit (lecom_reply card room f)
unfolding lecom_reply
stays_fit card room f e =
    let address = address_of card.words in
    shell_fit room_least card room _ e (obeyed_fit card f (asked address f) (asked_sound f address) e)
