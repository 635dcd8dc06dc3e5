-- What a master hears as numbers, for C: the number, the case and the values.
use Rattle.std.specs.Prelude.{ℕ, ◌≡◌, List, [], ◌∷◌, eqb, length, take}
use Rattle.wire.specs.Choose.{choose}
use Rattle.asking.specs.Hearing.{Hearing, number_of, values_of}
use Rattle.asking.specs.Hearing.Hearing.{Gives, Done, Fault, Refused, Unread}
use Rattle.firmware.specs.declared.hearing.HeardInC.{HeardInC}

-- what was heard, as a number: nothing, a value or values, done, fault, refused
abbrev pub case_of : Hearing → ℕ
case_of (Unread number) = 0
case_of (Gives values) = 1
case_of Done = 2
case_of Fault = 3
case_of (Refused code) = 4

-- what C reads out of a number, a case and values
unfoldable pub hearing_in_c : ℕ → ℕ → List ℕ → Hearing
hearing_in_c number said values =
    choose (eqb said 1) (Gives values)
    (choose (eqb said 2) Done
    (choose (eqb said 3) Fault
    (choose (eqb said 4) (Refused values)
    (Unread number))))

-- a hearing was handed over: its number, its case, how many values it has, and the values
pub record HandedHearing (h : Hearing) (r : HeardInC) : Type 0 where
  pub numbered : r.number ≡ number_of h
  pub cased : r.said ≡ case_of h
  pub counted : r.count ≡ length (values_of h)
  pub valued : take r.count (r.first ∷ r.second ∷ r.third ∷ r.fourth ∷ []) ≡ values_of h
