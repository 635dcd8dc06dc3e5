-- LucidControl: a card's reply to a made frame is heard as what the card answered. Assumes nothing.
use Rattle.std.proofs.Common.{◌≡◌, ℕ, ◌+◌, ◌^◌, ◌<◌, ◌≤◌, true, List, [], ◌∷◌, length, get_or, Result, refl, ap, ◌∙◌, append-nil, arith, ltb-true}
use Rattle.wire.specs.Choose.{choose}
use Rattle.wire.specs.Buffer.{same}
use Rattle.wire.specs.Word.{word_values}
use Rattle.card.specs.Layout.{Card, channels, parameters_at}
use Rattle.card.specs.Fitness.{in_range, fit}
use Rattle.card.specs.Reply.{Reply, on_words, room_least}
use Rattle.card.proofs.Facts.{fit_facts}
use Rattle.card.proofs.Ranges.{words_at}
use Rattle.lucid.specs.Form.{channels_of, parameter_size, ok, little}
use Rattle.lucid.specs.Frame.{place_of, asked}
use Rattle.lucid.specs.Answer.{Values, Held, Failed, joined, group, read, obeyed, lucid_reply}
use Rattle.lucid.specs.declared.frame.Order.{Order}
use Rattle.lucid.specs.declared.frame.Refusal.{Refusal}
use Rattle.lucid.proofs.Frames.{place_within}
use Rattle.lucid.proofs.Laws.{replied, one_channel}
use Rattle.lucid.proofs.Numbers.{number_little}
use Rattle.asking.specs.Hearing.Hearing.{Gives}
use Rattle.asking.specs.Claims.{Real, Askable, Hears}
use Rattle.lucid_master.specs.Request.{Asking, type_known, p1_right, p2_right, made}
use Rattle.lucid_master.specs.Heard.{is_status, shaped, heard_values, heard_parameter, heard_done, heard_command, heard}
use Rattle.lucid_master.specs.declared.request.Command.{Command}
use Rattle.lucid_master.specs.declared.request.Command.TheVariants.{GetIo, GetIoGroup, SetIo, SetIoGroup, GetParam, SetParam, Reset}
use Rattle.lucid_master.proofs.Requests.{Parts, parts}
use Rattle.masters.specs.Lucid.{Asked, asked_in, order_of, asked_of, word_in, said_by, answer_to, answer_of, lucid_master}
use Rattle.masters.proofs.LucidMeans.{asking, means_of, first_word}
use Rattle.masters.proofs.LucidValues.{bytes_of, group_bytes, Said, heard_held, word_said, group_said}

-- a group of one channel
pub group_one : (value : ℕ → Values) (channel : ℕ) → group value (channel ∷ []) ≡ value channel
unfolding group joined
group_one value channel = joined_none (value channel)
  where
    joined_none : (v : Values) → joined v (Held []) ≡ v
    joined_none (Held bytes) = ap Held (append-nil bytes)
    joined_none Failed = refl

-- an answer to a command that asks for n values of a type
heard_values_law : (q : Asking) (valueType n : ℕ) → type_known valueType ≡ true → ((r : List ℕ) → heard_command q.request.command q.request r ≡ heard_values valueType n r)
    → (v : Values) → Said valueType n v → heard q (read (bytes_of valueType v)).bytes ≡ said_by v
unfolding heard read said_by same is_status choose
heard_values_law q valueType n known command Failed s = refl
heard_values_law q valueType n known command (Held words) s = command _ ∙ rw (← s.0) (heard_held valueType known words s.1)

-- the word of a parameter is in its range
parameter_word : (card : Card) → Real card → (p1 address : ℕ) → p1 < channels
    → (in_range (parameters_at + place_of p1 address) (get_or card.words (parameters_at + place_of p1 address) 0) ≡ true)
    × (get_or card.words (parameters_at + place_of p1 address) 0 < word_values)
parameter_word card real p1 address h =
    let f = fit_facts card real.fits in
    let k = parameters_at + place_of p1 address in
    (words_at card.words f.words_fit k (omega (arith, f.words_length, place_within p1 address h)), real.words k)

-- an answer with a parameter
heard_parameter_law : (place value : ℕ) → in_range (parameters_at + place) value ≡ true → value < word_values
    → heard_parameter place (ok ∷ parameter_size ∷ little parameter_size value) ≡ Gives (value ∷ [])
unfolding heard_parameter shaped little choose
heard_parameter_law place value inside word =
    let given = number_little parameter_size value (ok ∷ parameter_size ∷ []) [] word in
    rw (given, inside)

-- the reply to each command
module _ (card : Card) (real : Real card) where
  hears_of : (command : Command) (p1 p2 address : ℕ) (values : List ℕ) → Parts command p1 p2 address values → (f : List ℕ)
      → heard (asking command p1 p2 address values) (obeyed card.words card.memory f (order_of command p1 p2 address values)).bytes ≡ answer_to card command p1 p2 address
  unfolding order_of obeyed answer_to heard_command heard_done shaped heard same is_status little p1_right p2_right choose
  hears_of GetIo p1 p2 address values p f =
      let channel = ltb-true p1 channels p.first in
      let one : group (word_in card p2) (channels_of (2 ^ p1)) ≡ word_in card p2 p1 = ap (group (word_in card p2)) (one_channel p1 channel) ∙ group_one (word_in card p2) p1 in
      ap (λ (v : Values). heard (asking GetIo p1 p2 address values) (read v).bytes) (group_bytes card p2 (channels_of (2 ^ p1)) ∙ ap (bytes_of p2) one)
      ∙ heard_values_law (asking GetIo p1 p2 address values) p2 1 p.second (λ r. refl) (word_in card p2 p1) (word_said card real p2 p1 p.second channel)
  hears_of GetIoGroup p1 p2 address values p f =
      ap (λ (v : Values). heard (asking GetIoGroup p1 p2 address values) (read v).bytes) (group_bytes card p2 (channels_of p1))
      ∙ heard_values_law (asking GetIoGroup p1 p2 address values) p2 (length (channels_of p1)) p.second (λ r. refl) (group (word_in card p2) (channels_of p1))
      (group_said card real p2 channels 0 p1 p.second (omega arith))
  hears_of SetIo p1 p2 address values p f = refl
  hears_of SetIoGroup p1 p2 address values p f = refl
  hears_of GetParam p1 p2 address values p f =
      let x = parameter_word card real p1 address (ltb-true p1 channels p.first) in
      heard_parameter_law (place_of p1 address) (get_or card.words (parameters_at + place_of p1 address) 0) x.0 x.1
  hears_of SetParam p1 p2 address values p f = refl
  hears_of Reset p1 p2 address values p f = refl

-- the order of a made frame
made_order : (q : Asking) → Askable lucid_master q → asked (made q) ≡ order_of q.request.command q.request.p1 q.request.p2 q.request.address q.values
unfolding asked_in asked_of
made_order q a =
    let r = q.request in
    ap (λ (x : Asked). x.order) (means_of r.command r.p1 r.p2 r.address q.values (parts r q.values a.right) (first_word q a))

-- what a card does with a made frame
pub made_reply : (q : Asking) → Askable lucid_master q → (card : Card) (room : ℕ) → fit card ≡ true → room_least ≤ room
    → lucid_reply card room (made q) ≡ on_words card (obeyed card.words card.memory (made q) (order_of q.request.command q.request.p1 q.request.p2 q.request.address q.values))
made_reply q a card room h l =
    replied card room (made q) h l ∙ ap (λ (o : Result Order Refusal). on_words card (obeyed card.words card.memory (made q) o)) (made_order q a)

-- hears
pub lucid_hears : (q : Asking) → Askable lucid_master q → Hears lucid_master q
unfolding answer_of
lucid_hears q a =
    let r = q.request in
    record {
      hears = λ card at room l.
          ap (λ (x : Reply). heard q x.bytes) (made_reply q a card room at.real.fits l)
          ∙ hears_of card at.real r.command r.p1 r.p2 r.address q.values (parts r q.values a.right) (made q);
    }
