-- A dialect with other entries, so that wrong ones can be put to what is claimed of it.
use Rattle.std.specs.Prelude.{ℕ, List}
use Rattle.card.specs.Layout.{Card}
use Rattle.card.specs.Reply.{Reply}
use Rattle.asking.specs.Hearing.{Hearing}
use Rattle.asking.specs.Claims.{Dialect}

-- a master's entries: the frame that it makes of a request, and what it hears in a reply
pub record Master (Request : Type 0) : Type 0 where
  pub made : Request → List ℕ
  pub heard : Request → List ℕ → Hearing

-- the dialect with this card's entry and this master
abbrev pub speaking : (d : Dialect) → (Card → ℕ → List ℕ → Reply) → Master d.Request → Dialect
speaking d entry master =
    record {
      Request = d.Request;
      numbers = d.numbers;
      address = d.address;
      askable = d.askable;
      made = master.made;
      Asked = d.Asked;
      is_unit = d.is_unit;
      asked = d.asked;
      asked_of = d.asked_of;
      reply = entry;
      unit_of = d.unit_of;
      answer_of = d.answer_of;
      refusal_of = d.refusal_of;
      heard = master.heard;
      check_back = d.check_back;
      check_size = d.check_size;
    }
