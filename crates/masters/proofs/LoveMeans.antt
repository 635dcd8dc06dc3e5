-- Love: a made request means to every unit what was asked. Assumes nothing.
use Rattle.std.proofs.Common.{◌≡◌, ℕ, ◌+◌, ◌/◌, ◌%◌, ◌<◌, Bool, true, false, ◌||◌, eqb, ltb, Ok, Err, Result, sym, refl, ap, ◌∙◌, ap₂, arith, ltb-true, leb-true, subst}
use Rattle.wire.specs.Choose.{choose}
use Rattle.wire.specs.Length.{between}
use Rattle.wire.specs.Word.{word_values}
use Rattle.wire.proofs.Cases.{yes}
use Rattle.wire.proofs.Sweep.{by_four}
use Rattle.wire.proofs.Tests.{and_true}
use Rattle.figures.specs.Figure.{hex, base, figure_of, char_of, all_figures, pair_byte, pair_of}
use Rattle.figures.specs.Decimal.{digits}
use Rattle.figures.specs.Signed.{is_negative, magnitude, with_sign}
use Rattle.figures.proofs.Decimals.{digits_figures, value_digits}
use Rattle.figures.proofs.Texts.{sign_magnitude}
use Rattle.card.specs.Numbers.{foreign_address}
use Rattle.card.specs.Layout.{love_at, love_count}
use Rattle.card.specs.Fitness.{in_range, love_address_most}
use Rattle.love.specs.Form.{plus_sign, minus_sign, sign_at}
use Rattle.love.specs.Frame.{byte_at, parameter_of, sign_right, number_in, asked}
use Rattle.love.specs.Stages.{order_write, order_by, order_in}
use Rattle.love.specs.Answer.{figure_count}
use Rattle.love.specs.declared.frame.Order.{Order}
use Rattle.love.specs.declared.frame.Refusal.{Refusal}
use Rattle.love.specs.declared.frame.Order.TheVariants.{Probe, Read as ReadOrder, Write as WriteOrder}
use Rattle.love.specs.declared.frame.Refusal.TheVariants.{Silent}
use Rattle.love.proofs.Carried.{Figured, figured}
use Rattle.love.proofs.Hosts.{host_frame, host_asked}
use Rattle.asking.specs.Claims.{Askable, Means}
use Rattle.love_master.specs.declared.request.Task.{Task}
use Rattle.love_master.specs.declared.request.Task.TheVariants.{Status, Read, Write}
use Rattle.love_master.specs.declared.request.Request.{Request}
use Rattle.love_master.specs.Request.{task_right, half_of, sign_of, data_of, body, made}
use Rattle.love_master.specs.Stages.{number_values}
use Rattle.love_master.proofs.Errors.{askable_facts, askable_address}
use Rattle.love_master.proofs.Makes.{data_most_law}
use Rattle.love_master.proofs.Shown.{range_small}
use Rattle.masters.specs.Love.{order_of, asked_of, love_master}

-- the sign of a write, read
sign_read : (t : Bool) → pair_byte hex (char_of (choose t minus_sign plus_sign / base)) (char_of (choose t minus_sign plus_sign % base)) ≡ choose t minus_sign plus_sign
unfolding choose char_of pair_byte figure_of between
sign_read true = refl
sign_read false = refl

sign_right_law : (t : Bool) → (eqb (choose t minus_sign plus_sign) plus_sign || eqb (choose t minus_sign plus_sign) minus_sign) ≡ true
unfolding choose
sign_right_law true = refl
sign_right_law false = refl

sign_minus : (t : Bool) → eqb (choose t minus_sign plus_sign) minus_sign ≡ t
unfolding choose
sign_minus true = refl
sign_minus false = refl

-- a write's data, judged
module _ (place value : ℕ) (word : value < word_values) (small : magnitude value < number_values) where
  write_sign : byte_at hex (data_of (Write place value)) sign_at ≡ sign_of value
  unfolding data_of pair_of digits
  write_sign = sign_read (is_negative value)

  write_number : number_in (data_of (Write place value)) ≡ value
  unfolding number_in data_of pair_of digits
  write_number =
      ap₂ (λ (t : Bool) (m : ℕ). with_sign t m) (ap (λ (b : ℕ). eqb b minus_sign) write_sign ∙ sign_minus (is_negative value)) (value_digits figure_count (magnitude value) small)
      ∙ sign_magnitude value word

  write_order : in_range (love_at + place) value ≡ true → order_write place (data_of (Write place value)) ≡ Ok (WriteOrder place value)
  unfolding order_write sign_right data_of pair_of digits
  write_order range =
      sym
      (yes _ _ _ _ (digits_figures figure_count (magnitude value))
      (yes _ _ _ _ (rw write_sign (sign_right_law (is_negative value)))
      (yes _ _ _ _ (rw write_number range) (ap (λ (word : ℕ). Ok (WriteOrder place word)) (sym write_number)))))

-- the data of a task are judged as the task
write_judged : (place value : ℕ) → place < love_count → order_in (data_of (Write place value)) ≡ order_write place (data_of (Write place value))
unfolding order_in order_by parameter_of half_of choose data_of pair_of digits pair_byte figure_of char_of between
write_judged place value h = by_four (λ k. order_in (data_of (Write k value)) ≡ order_write k (data_of (Write k value))) refl refl refl refl place h

read_judged : (place : ℕ) → place < love_count → order_in (data_of (Read place)) ≡ Ok (ReadOrder place)
unfolding order_in order_by parameter_of half_of choose data_of pair_of pair_byte figure_of char_of between
read_judged place h = by_four (λ k. order_in (data_of (Read k)) ≡ Ok (ReadOrder k)) refl refl refl refl place h

status_judged : order_in (data_of Status) ≡ Ok Probe
unfolding order_in choose data_of pair_of pair_byte figure_of char_of between
status_judged = refl

-- the numbers of a task are words
abbrev Words : Task → Type 0
Words Status = ℕ
Words (Read place) = ℕ
Words (Write place value) = value < word_values

judged : (task : Task) → task_right task ≡ true → Words task → order_in (data_of task) ≡ order_of task
unfolding task_right
judged Status h w = status_judged
judged (Read place) h w = read_judged place (ltb-true place love_count h)
judged (Write place value) h w =
    let b = and_true (ltb place love_count) _ h in
    let l = ltb-true place love_count b.0 in
    write_judged place value l ∙ write_order place value w (range_small place value l w b.1) b.1

-- an order that is carried out shows that its data are figures
data_figures : (task : Task) → order_in (data_of task) ≡ order_of task → all_figures hex (data_of task) ≡ true
data_figures task e = by task (subst (Figured (data_of task)) e (figured (data_of task)))
  where
    by : (task : Task) → Figured (data_of task) (order_of task) → all_figures hex (data_of task) ≡ true
    by Status h = h
    by (Read place) h = h
    by (Write place value) h = h

love_words : (q : Request) → Askable love_master q → Words q.task
love_words q a = by q.task refl
  where
    by : (task : Task) → q.task ≡ task → Words task
    by Status e = 0
    by (Read place) e = 0
    by (Write place value) e = rw e at (a.words 2)

-- a made frame is one as a host makes it
pub made_host : (q : Request) → made q ≡ host_frame q.address (data_of q.task)
unfolding made body host_frame
made_host q = refl

pub love_means : (q : Request) → Askable love_master q → Means love_master q
unfolding asked_of
love_means q a =
    record {
      means = λ unit.
          let o = judged q.task (askable_facts q a.right).1 (love_words q a) in
          ap (asked unit) (made_host q)
          ∙ host_asked q.address (leb-true q.address love_address_most (askable_address q a.right)) (data_of q.task) (omega (arith, data_most_law q.task)) unit
          ∙ ap (λ (x : Result Order Refusal). choose (eqb q.address unit) x (Err (Silent foreign_address))) (sym (yes _ _ _ _ (data_figures q.task o) (sym o)));
    }
