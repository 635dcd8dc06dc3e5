-- A fit card stays fit, whatever Love frame it gets. Assumes nothing.
use Rattle.std.proofs.Common.{◌≡◌, ◌∙◌, true, List, ℕ, ◌+◌, length-set, Result, Ok, Err}
use Rattle.card.specs.Layout.{Card, love_at}
use Rattle.card.specs.Fitness.{fit}
use Rattle.card.specs.Reply.{on_words, room_least}
use Rattle.card.proofs.Facts.{fit_facts}
use Rattle.card.proofs.Ranges.{set_fit}
use Rattle.card.proofs.Fits.{IsFit, shell_fit, words_reply_fit}
use Rattle.love.specs.Frame.{asked}
use Rattle.love.specs.Stages.{Sound}
use Rattle.love.specs.Answer.{address_of, obeyed, love_reply}
use Rattle.love.specs.declared.frame.Order.{Order}
use Rattle.love.specs.declared.frame.Order.TheVariants.{Probe, Read, Write}
use Rattle.love.specs.declared.frame.Refusal.{Refusal}
use Rattle.love.specs.declared.frame.Refusal.TheVariants.{Silent, Refused}
use Rattle.love.proofs.Frames.{asked_sound}

obeyed_fit : (card : Card) (order : Result Order Refusal) → Sound order → fit card ≡ true → IsFit (on_words card (obeyed card.words card.memory order))
unfolding obeyed
obeyed_fit card (Err (Silent number)) w e = e
obeyed_fit card (Err (Refused number code)) w e = e
obeyed_fit card (Ok Probe) w e = e
obeyed_fit card (Ok (Read k)) w e = e
obeyed_fit card (Ok (Write k word)) w e =
    let t = fit_facts card e in
    words_reply_fit card (obeyed card.words card.memory (Ok (Write k word))) e
    (length-set card.words (love_at + k) word ∙ t.words_length)
    (set_fit card.words (love_at + k) word t.words_fit w.1)

pub stays_fit : (card : Card) (room : ℕ) (f : List ℕ) → fit card ≡ true → IsFit (love_reply card room f)
unfolding love_reply
stays_fit card room f e =
    shell_fit room_least card room _ e (obeyed_fit card (asked (address_of card.words) f) (asked_sound (address_of card.words) f) e)
