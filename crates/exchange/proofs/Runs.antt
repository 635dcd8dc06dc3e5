-- Runs of the written meanings, computed: what the master says and what the card then holds. Each is allowed by the premise, word for word. Assumes nothing.
use Rattle.std.proofs.Common.{◌≡◌, ℕ, zero, suc, ◌-◌, true, List, [], ◌∷◌, ◌++◌, set, refl, ap, ◌∙◌, arith}
use Rattle.wire.proofs.Tests.{and_true}
use Rattle.wire.specs.Word.{word_values}
use Rattle.card.specs.Layout.{Card, card_of, ia_at}
use Rattle.card.specs.Fitness.{in_span, fit}
use Rattle.card.specs.Scans.{all_in}
use Rattle.card.proofs.Facts.{span_most}
use Rattle.image.specs.Form.{run as entries, entries_in, saved_runs, saved_form}
use Rattle.image.specs.Saved.{field_of, word_of, values, replaced, image_of, restored}
use Rattle.image.proofs.Words.{Words}
use Rattle.image.proofs.RoundTrip.{read_written, entries_of_image_of}
use Rattle.master.specs.Request.{Request, askable}
use Rattle.master.specs.Request.Ask.{bytes, bits}
use Rattle.master.specs.Frames.{change_frame, acknowledge_frame}
use Rattle.master.specs.Step.{says_of}
use Rattle.master.specs.declared.Phase.{Phase}
use Rattle.master.specs.declared.Verdict.{Verdict}
use Rattle.master.specs.declared.Verdict.TheVariants.{Open, Done, Unknown}
use Rattle.calls.specs.Calls.{reply_of}
use Rattle.receive.specs.declared.Dialect.TheVariants.{Datalink}
use Rattle.calls.specs.Calls.Call.{SetCode, Restart, Frame, ReadImage}
use Rattle.exchange.specs.Calls.{Call}
use Rattle.exchange.specs.Calls.Choice.{answer}
use Rattle.exchange.specs.Calls.Call.{Step, Arrival, Other}
use Rattle.exchange.specs.Line.{World, begin, as_written, called, run}
use Rattle.exchange.specs.Demand.{byte_at}
use Rattle.exchange.proofs.Computed.{computed, allows, fresh, stale, card_with, two, hears, alone, arrives, whole}

-- after these calls, which the premise allows, the master says this and the byte at an address is this
pub record Runs (q : Request) (start : Card) (calls : List Call) (says : Verdict) (address byte : ℕ) : Type 0 where
  pub asked : askable q ≡ true
  pub allowed : allows as_written q (begin as_written start) calls ≡ true
  pub said : says_of (run as_written q (begin as_written start) calls).state ≡ says
  pub held : byte_at (run as_written q (begin as_written start) calls).card address ≡ byte

-- done: bytes

bytes_done : Runs two fresh whole Done 0x1011 12
unfolding computed allows
bytes_done = record { asked = refl; allowed = refl; said = refl; held = refl }

-- done: bits, mask F0h and state 01h, at the end of memory
bits_done : Runs (record { ia = 3; address = 0x1FFE; ask = bits (0xF0 ∷ 0xFF ∷ []) (0x01 ∷ 0x00 ∷ []) }) fresh whole Done 0x1FFE 0xF1
unfolding computed allows
bits_done = record { asked = refl; allowed = refl; said = refl; held = refl }

-- done: NUM 0, at the address after the last
nothing_done : Runs (record { ia = 3; address = 0x2000; ask = bytes [] }) fresh whole Done 0x1FFF 255
unfolding computed allows
nothing_done = record { asked = refl; allowed = refl; said = refl; held = refl }

-- nothing yet, with the bytes as asked already
open_changed : Runs two fresh (alone ∷ arrives ∷ hears ∷ arrives ∷ []) Open 0x1010 8
unfolding computed allows
open_changed = record { asked = refl; allowed = refl; said = refl; held = refl }

-- the read-back is lost: unknown, with the bytes as asked
unknown_changed : Runs two fresh (alone ∷ arrives ∷ hears ∷ arrives ∷ alone ∷ arrives ∷ alone ∷ []) Unknown 0x1010 8
unfolding computed allows
unknown_changed = record { asked = refl; allowed = refl; said = refl; held = refl }

-- the acknowledge is lost: unknown, with the bytes old
unknown_old : Runs two fresh (alone ∷ arrives ∷ hears ∷ alone ∷ arrives ∷ hears ∷ []) Unknown 0x1010 255
unfolding computed allows
unknown_old = record { asked = refl; allowed = refl; said = refl; held = refl }

-- a restart between: the acknowledge finds nothing pending
restart_between : Runs two fresh (alone ∷ arrives ∷ hears ∷ Other Restart ∷ arrives ∷ alone ∷ arrives ∷ hears ∷ []) Unknown 0x1010 255
unfolding computed allows
restart_between = record { asked = refl; allowed = refl; said = refl; held = refl }

-- a restart between the change's two arrivals
restart_harmless : Runs two fresh (alone ∷ arrives ∷ Other Restart ∷ arrives ∷ hears ∷ arrives ∷ alone ∷ arrives ∷ hears ∷ []) Done 0x1010 8
unfolding computed allows
restart_harmless = record { asked = refl; allowed = refl; said = refl; held = refl }

-- the acknowledge was lost, but the bytes were as asked before
already_so : Runs (record { ia = 3; address = 0x1010; ask = bytes (255 ∷ []) }) fresh (alone ∷ arrives ∷ hears ∷ alone ∷ arrives ∷ hears ∷ []) Done 0x1010 255
unfolding computed allows
already_so = record { asked = refl; allowed = refl; said = refl; held = refl }

-- every frame twice; the first arrival of the acknowledge refused for its buffer, a step refused for its own
doubled : Runs two fresh (alone ∷ arrives ∷ arrives ∷ Step (answer 1) 37 ∷ Step (answer 1) 38 ∷ Arrival 37 ∷ arrives ∷ alone ∷ arrives ∷ arrives ∷ hears ∷ []) Done 0x1010 8
unfolding computed allows
doubled = record { asked = refl; allowed = refl; said = refl; held = refl }

-- a stale pending change at the start is never applied
stale_start : Runs two stale whole Done 0x1020 255
unfolding computed allows
stale_start = record { asked = refl; allowed = refl; said = refl; held = refl }

-- the master's own frames sent once more by others: the acknowledge after the end is refused, and so is the change where the buffer is short
sent_again : Runs two fresh (whole ++ (Other (Frame Datalink 38 (acknowledge_frame two)) ∷ Other (Frame Datalink 37 (change_frame two)) ∷ [])) Done 0x1010 8
unfolding computed allows
sent_again = record { asked = refl; allowed = refl; said = refl; held = refl }

-- read-only: no echo, so the exchange ends there
read_only : Runs (record { ia = 3; address = 0x100F; ask = bytes (8 ∷ 12 ∷ []) }) fresh (alone ∷ arrives ∷ alone ∷ []) Unknown 0x1010 255
unfolding computed allows
read_only = record { asked = refl; allowed = refl; said = refl; held = refl }

-- half in memory
half_inside : Runs (record { ia = 3; address = 0x1FFF; ask = bytes (8 ∷ 12 ∷ []) }) fresh (alone ∷ arrives ∷ alone ∷ []) Unknown 0x1FFF 255
unfolding computed allows
half_inside = record { asked = refl; allowed = refl; said = refl; held = refl }

-- tables of wrong length: every call of the card is refused
unfit_tables : Runs two (card_with []) (alone ∷ arrives ∷ alone ∷ []) Unknown 0x1010 255
unfolding computed allows
unfit_tables = record { asked = refl; allowed = refl; said = refl; held = refl }

-- other entries between the rounds
others_between : Runs two fresh (alone ∷ arrives ∷ Other (SetCode 0 90) ∷ hears ∷ Other (SetCode 4 90) ∷ arrives ∷ alone ∷ arrives ∷ hears ∷ []) Done 0x1000 90
unfolding computed allows
others_between = record { asked = refl; allowed = refl; said = refl; held = refl }

-- An image read between the rounds gives the card I.A. 4, so that the acknowledge is foreign, and another gives it back. What they give is
-- known by the image's laws; no image is computed.

abbrev card_of_ia : ℕ → Card
card_of_ia ia = card_of (set fresh.words ia_at ia) fresh.memory fresh.ports

abbrev image_read : ℕ → Call
image_read ia = Other (ReadImage (image_of (card_of_ia ia).words))

-- the world after such a call
abbrev regained : ℕ → World Phase → World Phase
regained ia w =
    record { card = card_of (replaced saved_form w.card.words (values saved_form (card_of_ia ia).words)) w.card.memory w.card.ports; state = w.state; line = w.line }

abbrev word_most : ℕ
word_most = word_values - 1

-- words that pass a test which computes
words_below : (ws : List ℕ) → all_in 0 word_most ws ≡ true → Words ws
unfolding all_in
words_below [] e k = omega arith
words_below (x ∷ ws) e zero = omega (arith, span_most word_most x refl (and_true (in_span 0 word_most x) (all_in 0 word_most ws) e).0)
words_below (x ∷ ws) e (suc k) = words_below ws (and_true (in_span 0 word_most x) (all_in 0 word_most ws) e).1 k

image_call : (ia : ℕ) (w : World Phase) → fit (card_of_ia ia) ≡ true → all_in 0 word_most (card_of_ia ia).words ≡ true → fit w.card ≡ true → called as_written two w (image_read ia) ≡ regained ia w
unfolding called reply_of restored
image_call ia w f s h =
    let words = words_below (card_of_ia ia).words s in
    ap (λ r. record { card = r.card; state = w.state; line = w.line }) (read_written (card_of_ia ia) w.card f words h).read
    ∙ ap (λ vs. record { card = card_of (replaced saved_form w.card.words vs) w.card.memory w.card.ports; state = w.state; line = w.line }) (entries_of_image_of (card_of_ia ia) f words)

-- the worlds before, between and after the two
abbrev next : World Phase → Call → World Phase
next w c = called as_written two w c

abbrev echo_heard : World Phase
echo_heard = next (next (next (begin as_written fresh) alone) arrives) hears

abbrev to_the_end : World Phase → World Phase
to_the_end w = next (next (next (next w arrives) alone) arrives) hears

abbrev foreign : World Phase
foreign = next (regained 4 echo_heard) arrives

abbrev images_read : List Call
images_read = alone ∷ arrives ∷ hears ∷ image_read 4 ∷ arrives ∷ image_read 3 ∷ arrives ∷ alone ∷ arrives ∷ hears ∷ []

images_run : run as_written two (begin as_written fresh) images_read ≡ to_the_end (next (next (next echo_heard (image_read 4)) arrives) (image_read 3))
unfolding run
images_run = refl

first_image : next echo_heard (image_read 4) ≡ regained 4 echo_heard
unfolding computed all_in
first_image = image_call 4 echo_heard refl refl refl

second_image : next foreign (image_read 3) ≡ regained 3 foreign
unfolding computed all_in field_of word_of values replaced entries entries_in saved_runs saved_form
second_image = image_call 3 foreign refl refl refl

images_read_law : run as_written two (begin as_written fresh) images_read ≡ to_the_end (regained 3 foreign)
images_read_law = images_run ∙ (ap (λ w. to_the_end (next (next w arrives) (image_read 3))) first_image ∙ ap to_the_end second_image)

images_allowed : allows as_written two (begin as_written fresh) images_read ≡ true
unfolding computed allows
images_allowed = refl

image_between : Runs two fresh images_read Done 0x1010 8
unfolding computed field_of word_of values replaced entries entries_in saved_runs saved_form
image_between =
    record {
      asked = refl;
      allowed = images_allowed;
      said = ap (λ w. says_of w.state) images_read_law;
      held = ap (λ w. byte_at w.card 0x1010) images_read_law;
    }
