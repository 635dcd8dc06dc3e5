-- A fit card stays fit. Assumes nothing.
use Rattle.std.proofs.Common.{◌≡◌, ap, ◌∙◌, true, List, ℕ, length}
use Rattle.card.specs.Layout.{Card}
use Rattle.card.specs.Fitness.{fit, fit_words}
use Rattle.card.proofs.Facts.{fit_from, fit_facts}
use Rattle.card.proofs.Fits.{IsFit}
use Rattle.card.proofs.Rows.{same_pending_fit}
use Rattle.receive.specs.Receive.{receive_reply, quiet_reply}
use Rattle.receive.specs.declared.Dialect.{Dialect}
use Rattle.receive.proofs.Laws.{PartAlone, receive_either, quiet_either}

part_alone_fit : (card card' : Card) → fit card ≡ true → PartAlone card card' → fit card' ≡ true
part_alone_fit card card' e a =
    let t = fit_facts card e in
    fit_from card' (ap length a.words ∙ t.words_length) (ap length a.memory ∙ t.memory_length) (a.long ∙ t.ports_length)
    (ap fit_words a.words ∙ t.words_fit) (same_pending_fit card.ports card'.ports a.pending ∙ t.pending_fit)

pub receive_stays_fit : (card : Card) (d : Dialect) (room : ℕ) (bytes : List ℕ) → fit card ≡ true → IsFit (receive_reply d card room bytes).reply
receive_stays_fit card d room bytes e = receive_either card IsFit (λ number h. e) (λ bytes card' a. part_alone_fit card card' e a) d room bytes

pub quiet_stays_fit : (card : Card) (d : Dialect) → fit card ≡ true → IsFit (quiet_reply d card)
quiet_stays_fit card d e = quiet_either card IsFit (λ number h. e) (λ bytes card' a. part_alone_fit card card' e a) d
