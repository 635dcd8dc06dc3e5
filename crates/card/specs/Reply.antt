-- What an entry gives, and what its contract says of it.
use Rattle.std.specs.Prelude.{◌≡◌, ℕ, ◌≤◌, List, [], length, ◌==◌, nat_le}
use Rattle.wire.specs.Choose.{choose}
use Rattle.wire.specs.Buffer.{overlay}
use Rattle.card.specs.Numbers.{answered, done, foreign_address, buffer_short, card_unfit}
use Rattle.card.specs.Layout.{Card, with_words}
use Rattle.card.specs.declared.Outcome.{Outcome}
use Rattle.card.specs.Fitness.{fit}

-- the number returned, the answer's bytes and the card as it then stands
pub record Reply : Type 0 where
  pub number : ℕ
  pub bytes : List ℕ
  pub card : Card

-- a number with no wire bytes
abbrev pub silent : ℕ → Card → Reply
silent number card = record { number = number; bytes = []; card = card }

-- a number with wire bytes
abbrev pub sent : ℕ → List ℕ → Card → Reply
sent number bytes card = record { number = number; bytes = bytes; card = card }

-- document 02, M-100: "From here on a done call of a new entry gives 0 if it hands over bytes, else 1"
unfoldable pub done_with : ℕ → ℕ
done_with len = choose (len == 0) done answered

-- a done call that hands over these bytes; [] is none
abbrev pub done_reply : List ℕ → Card → Reply
done_reply bytes card = sent (done_with (length bytes)) bytes card

-- the same number and the same wire bytes
pub record SameAnswer (a b : Reply) : Type 0 where
  pub number : a.number ≡ b.number
  pub bytes : a.bytes ≡ b.bytes

-- a reply of a dialect that changes words alone: the number, the answer's bytes and the words as they then stand
pub record WordsReply : Type 0 where
  pub number : ℕ
  pub bytes : List ℕ
  pub words : List ℕ

-- the same as a reply of the card
abbrev pub on_words : Card → WordsReply → Reply
on_words card reply =
    record { number = reply.number; bytes = reply.bytes; card = with_words card reply.words }

-- an answer of such a dialect: the number returned and the wire bytes; and the reply that leaves these words
pub record Answer : Type 0 where
  pub number : ℕ
  pub bytes : List ℕ

abbrev pub leaving : List ℕ → Answer → WordsReply
leaving words answer = record { number = answer.number; bytes = answer.bytes; words = words }

-- "11 (a dialect's answer buffer below 38 bytes, ..)"
abbrev pub room_least : ℕ
room_least = 38

-- "Number 12 comes first, then 11, .. then the dialect's order": room is the answer buffer's length, least what the entry needs
unfoldable pub shell : ℕ → Card → ℕ → Reply → Reply
shell least card room reply = choose (fit card) (choose (nat_le least room) reply (silent buffer_short card)) (silent card_unfit card)

-- the number with which the shell stops before the dialect's order, 0 where it does not
unfoldable pub early : ℕ → Card → ℕ → ℕ
early least card room = choose (fit card) (choose (nat_le least room) answered buffer_short) card_unfit

-- an entry with no answer buffer: 12 first
unfoldable pub guarded : Card → Reply → Reply
guarded card reply = choose (fit card) reply (silent card_unfit card)

-- "Numbers 2 to 14 change no table"; document 02: "Numbers above 14 .. change no table"; that "buffer bytes after an answer never change" is in `overlay`
pub record Keeps (card : Card) (reply : Reply) : Type 0 where
  pub kept : foreign_address ≤ reply.number → reply.card ≡ card

-- an entry gave this reply: the number, the answer's length, the whole answer buffer and the card as it then stands
pub record Gave (reply : Reply) (out : List ℕ) (outcome : Outcome) (card' : Card) (out' : List ℕ) : Type 0 where
  pub numbered : outcome.number ≡ reply.number
  pub measured : outcome.len ≡ length reply.bytes
  pub written : out' ≡ overlay reply.bytes out
  pub left : card' ≡ reply.card

-- an answer was written at the front of a buffer: its length and the whole buffer
pub record Wrote (bytes out : List ℕ) (len : ℕ) (out' : List ℕ) : Type 0 where
  pub measured : len ≡ length bytes
  pub written : out' ≡ overlay bytes out

-- an answer was told: the number, the answer's length and the whole answer buffer
pub record Told (answer : Answer) (out : List ℕ) (number len : ℕ) (out' : List ℕ) : Type 0 where
  pub numbered : number ≡ answer.number
  pub wrote : Wrote answer.bytes out len out'

-- a function that changes words alone gave this reply: the number, the answer's length, the whole answer buffer and the words
pub record GaveWords (reply : WordsReply) (out : List ℕ) (number len : ℕ) (words out' : List ℕ) : Type 0 where
  pub numbered : number ≡ reply.number
  pub measured : len ≡ length reply.bytes
  pub written : out' ≡ overlay reply.bytes out
  pub worded : words ≡ reply.words

-- an entry with no answer buffer gave this reply: no wire bytes, the number and the card as it then stands
pub record Did (reply : Reply) (number : ℕ) (card' : Card) : Type 0 where
  pub quiet : reply.bytes ≡ []
  pub numbered : number ≡ reply.number
  pub left : card' ≡ reply.card
