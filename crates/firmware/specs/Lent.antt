-- What an entry leaves in a number that firmware lends.
use Rattle.std.specs.Prelude.{ℕ, ◌≡◌, List, [], ◌∷◌, eqb, Float}
use Rattle.std.specs.Float.{binary32}
use Rattle.std.specs.Float.Ieee.{to_bits}
use Rattle.wire.specs.Choose.{choose}
use Rattle.card.specs.Numbers.{answered}
use Rattle.card.specs.Layout.{Card}
use Rattle.card.specs.Governor.{governor_of, governor_reply}
use Rattle.card.specs.declared.governor.Governor.{Governor}
use Rattle.card.specs.declared.governor.Governor.TheVariants.{Degrees, Fault, Refused}
use Rattle.receive.specs.declared.Received.{Received}

-- an outcome was handed over: its number returned, and its length stored
pub record Handed (number len number' len' : ℕ) : Type 0 where
  pub numbered : number' ≡ number
  pub measured : len' ≡ len

-- a receipt was handed over: its number returned, how many bytes were taken and the frame's length stored
pub record HandedReceipt (receipt : Received) (number taken len : ℕ) : Type 0 where
  pub numbered : number ≡ receipt.number
  pub counted : taken ≡ receipt.taken
  pub measured : len ≡ receipt.len

-- the governor's float: the degrees, or what was there
abbrev pub degrees_in : Governor → Float → Float
degrees_in (Degrees d) before = d
degrees_in Fault before = before
degrees_in (Refused number) before = before

-- the values that C is told: with number 0 the bits of the float, else none
unfoldable pub values_in : ℕ → Float → List ℕ
values_in number degrees = choose (eqb number answered) (to_bits binary32 degrees ∷ []) []

-- the governor's reading was handed over: number, values and card are the reply's, and the float holds the degrees or what it held before
pub record HandedReading (card : Card) (channel : ℕ) (before : Float) (number : ℕ) (card' : Card) (after : Float) : Type 0 where
  pub numbered : number ≡ (governor_reply card channel).number
  pub valued : values_in number after ≡ (governor_reply card channel).bytes
  pub stored : after ≡ degrees_in (governor_of card channel) before
  pub left : card' ≡ (governor_reply card channel).card
