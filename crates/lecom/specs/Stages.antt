-- For the functions that judge: a frame's outline, what comes of `asked` once the unit is reached, word for word, and what is known of an order.
use Prim.{Unit}
use Rattle.std.specs.Prelude.{ℕ, ◌≤◌, ◌<◌, ◌≡◌, true, List, Option, Some, None, Result, Ok, Err, length}
use Rattle.wire.specs.Choose.{choose}
use Rattle.wire.specs.Word.{minus}
use Rattle.card.specs.Layout.{registers, channels}
use Rattle.card.specs.Fitness.{in_span, register_most}
use Rattle.card.specs.Numbers.{frame_form, check_character, range_unknown, value_outside, read_only}
use Rattle.lecom.specs.Frame.{collective, is_write, is_extended, code_at, hex_at, code_end, unless, size_right, end_right, code_right, bcc_right, named_in, code_known, write_right, data_right, ordered}
use Rattle.lecom.specs.declared.form.Named.{Named}
use Rattle.lecom.specs.declared.form.Named.TheVariants.{Register, Probe, Activate, Store}
use Rattle.lecom.specs.declared.frame.Order.{Order}
use Rattle.lecom.specs.declared.frame.Order.TheVariants.{Read, Write}
use Rattle.lecom.specs.declared.frame.Refusal.{Refusal}
use Rattle.lecom.specs.declared.frame.Refusal.TheVariants.{Silent, Refused}
use Rattle.lecom.specs.declared.frame.Outline.{Outline}

-- the outline is that of the frame
pub record Outlines (f : List ℕ) (o : Outline) : Type 0 where
  pub quiet : o.collective ≡ collective f
  pub writes : o.write ≡ is_write f
  pub extends : o.extended ≡ is_extended f
  pub starts : o.start ≡ code_at f
  pub hexed : o.hex ≡ hex_at f
  pub ends : o.end ≡ code_end f

-- what is read of a frame's code: if its characters are hex, what it names
unfoldable pub code_read : List ℕ → Result (Option Named) Refusal
code_read f = choose (code_right f) (Ok (named_in f)) (Err (Refused frame_form))

-- what a frame that reached the unit asks
unfoldable pub order_here : List ℕ → Result Order Refusal
order_here f =
    unless (size_right f) frame_form
    (unless (end_right f) frame_form
    (unless (code_right f) frame_form
    (unless (bcc_right f) check_character
    (unless (code_known f) range_unknown
    (unless (write_right f) read_only
    (unless (data_right f) value_outside
    (ordered f)))))))

-- the card has what is named
abbrev pub Has : Option Named → Type 0
Has (Some (Register k)) = k < registers
Has (Some (Probe channel)) = channel < channels
Has (Some Activate) = Unit {0}
Has (Some Store) = Unit {0}
Has None = Unit {0}

-- what is known of an order that a frame asks: the frame holds its code wherever the answer shows it, the card has what is named, and a
-- value to be stored is in the range of a register
abbrev pub Sound : List ℕ → Result Order Refusal → Type 0
Sound f (Err (Silent number)) = Unit {0}
Sound f (Err (Refused number)) = number ≡ range_unknown → code_end f ≤ length f
Sound f (Ok (Read named)) = (code_end f ≤ length f) × Has (Some named)
Sound f (Ok (Write named value)) = Has (Some named) × (in_span (minus register_most) register_most value ≡ true)
