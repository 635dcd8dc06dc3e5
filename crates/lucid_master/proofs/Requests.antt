-- What is known of a request that 7 does not refuse, command by command. Assumes nothing.
use Rattle.std.proofs.Common.{ℕ, ◌+◌, ◌≤◌, ◌<◌, ◌≡◌, refl, sym, subst, Bool, true, false, ◌&&◌, ◌||◌, List, arith, ltb-true, leb-true, eqb-true, leb, eqb, length, get_or}
use Rattle.wire.specs.Sum.{byte_values}
use Rattle.wire.proofs.Tests.{and_true, and_true_right}
use Rattle.card.specs.Layout.{channels, parameters_at}
use Rattle.card.specs.Fitness.{in_range}
use Rattle.lucid.specs.Form.{mask_most, channels_of, demand, tenths, hundredths, default, persistent}
use Rattle.lucid.specs.Frame.{address_known, place_of}
use Rattle.lucid.proofs.Channels.{count_channels}
use Rattle.lucid_master.specs.Request.{asking_of, channel_right, mask_right, type_known, p1_right, p2_right, address_right, count_of, values_right, all_demands, askable}
use Rattle.lucid_master.specs.Stages.{Headed}
use Rattle.lucid_master.specs.declared.request.Command.{Command}
use Rattle.lucid_master.specs.declared.request.Command.TheVariants.{GetIo, GetIoGroup, SetIo, SetIoGroup, GetParam, SetParam, Reset}
use Rattle.lucid_master.specs.declared.request.Request.{Request}

-- the tests of `askable`, one by one
pub record Parts (command : Command) (p1 p2 address : ℕ) (values : List ℕ) : Type 0 where
  pub first : p1_right command p1 ≡ true
  pub second : p2_right command p2 ≡ true
  pub known : address_right command address ≡ true
  pub count : length values ≡ count_of command p1
  pub inside : values_right command (place_of p1 address) values ≡ true

-- a request that 7 does not refuse passes them
pub parts : (q : Request) (values : List ℕ) → askable (asking_of q values) ≡ true → Parts q.command q.p1 q.p2 q.address values
unfolding askable
parts q values h =
    let a = and_true (p1_right q.command q.p1) _ h in
    let b = and_true (p2_right q.command q.p2) _ a.1 in
    let c = and_true (address_right q.command q.address) _ b.1 in
    let d = and_true (eqb (length values) (count_of q.command q.p1)) _ c.1 in
    record { first = a.0; second = b.0; known = c.0; count = eqb-true _ _ d.0; inside = d.1 }

-- one of several numbers
pub one_of : (P : ℕ → Type 0) (x a : ℕ) (rest : Bool) → (eqb x a || rest) ≡ true → P a → (rest ≡ true → P x) → P x
one_of P x a rest h p q = by (eqb x a) refl
  where
    by : (t : Bool) → eqb x a ≡ t → P x
    by true e = subst P (sym (eqb-true x a e)) p
    by false e = q (rw e at h)

-- a type is one of three
pub by_type : (P : ℕ → Type 0) → P demand → P tenths → P hundredths → (x : ℕ) → type_known x ≡ true → P x
by_type P d t u x h = one_of P x demand _ h d (λ k. one_of P x tenths _ k t (λ l. subst P (sym (eqb-true x hundredths l)) u))

-- an option is one of two
pub by_two : (P : ℕ → Type 0) (a b : ℕ) → P a → P b → (x : ℕ) → (eqb x a || eqb x b) ≡ true → P x
by_two P a b p q x h = one_of P x a _ h p (λ k. subst P (sym (eqb-true x b k)) q)

-- a mask names a channel, and no other than the four
pub mask_most_law : (x : ℕ) → mask_right x ≡ true → (1 ≤ x) × (x ≤ mask_most)
mask_most_law x h = let b = and_true (leb 1 x) (leb x mask_most) h in (leb-true 1 x b.0, leb-true x mask_most b.1)

-- P1 and P2 are bytes
p1_byte : (command : Command) (x : ℕ) → p1_right command x ≡ true → x < byte_values
unfolding p1_right
p1_byte GetIo x h = omega (arith, ltb-true x channels h)
p1_byte GetIoGroup x h = omega (arith, (mask_most_law x h).1)
p1_byte SetIo x h = omega (arith, ltb-true x channels h)
p1_byte SetIoGroup x h = omega (arith, (mask_most_law x h).1)
p1_byte GetParam x h = omega (arith, ltb-true x channels h)
p1_byte SetParam x h = omega (arith, ltb-true x channels h)
p1_byte Reset x h = omega (arith, ltb-true x channels h)

p2_byte : (command : Command) (x : ℕ) → p2_right command x ≡ true → x < byte_values
unfolding p2_right
p2_byte GetIo x h = by_type (λ y. y < byte_values) (omega arith) (omega arith) (omega arith) x h
p2_byte GetIoGroup x h = by_type (λ y. y < byte_values) (omega arith) (omega arith) (omega arith) x h
p2_byte SetIo x h = omega (arith, eqb-true x demand h)
p2_byte SetIoGroup x h = omega (arith, eqb-true x demand h)
p2_byte GetParam x h = omega (arith, eqb-true x 0 h)
p2_byte SetParam x h = by_two (λ y. y < byte_values) 0 persistent (omega arith) (omega arith) x h
p2_byte Reset x h = by_two (λ y. y < byte_values) default (default + persistent) (omega arith) (omega arith) x h

-- P1 of a GetParam is a channel
param_channel : (command : Command) (x : ℕ) → p1_right command x ≡ true → command ≡ GetParam → x < channels
unfolding p1_right
param_channel command x h e = ltb-true x channels (rw e at h)

-- so its head can be written
pub headed : (q : Request) (values : List ℕ) → askable (asking_of q values) ≡ true → Headed q
headed q values h =
    let p = parts q values h in
    record { p1 = p1_byte q.command q.p1 p.first; p2 = p2_byte q.command q.p2 p.second; channel = param_channel q.command q.p1 p.first }

-- a mask names four channels at most
pub count_most : (mask : ℕ) → length (channels_of mask) ≤ channels
count_most mask = omega (arith, count_channels mask)

-- and no command more values
count_few : (command : Command) (p1 : ℕ) → count_of command p1 ≤ channels
unfolding count_of
count_few GetIo p1 = omega arith
count_few GetIoGroup p1 = omega arith
count_few SetIo p1 = omega arith
count_few SetIoGroup p1 = count_most p1
count_few GetParam p1 = omega arith
count_few SetParam p1 = omega arith
count_few Reset p1 = omega arith

-- four values at most
pub few : (q : Request) (values : List ℕ) → askable (asking_of q values) ≡ true → length values ≤ channels
few q values h = omega (arith, (parts q values h).count, count_few q.command q.p1)

-- a SetParam has one value
pub one_value : (q : Request) (values : List ℕ) → q.command ≡ SetParam → askable (asking_of q values) ≡ true → length values ≡ 1
unfolding count_of
one_value q values e h = rw e at (parts q values h).count

-- the tests of each command
module _ (q : Request) (values : List ℕ) where
  pub ask_get : q.command ≡ GetIo → askable (asking_of q values) ≡ (channel_right q.p1 && (type_known q.p2 && eqb (length values) 0))
  unfolding askable p1_right p2_right address_right count_of values_right
  ask_get e = rw (e, and_true_right (eqb (length values) 0))

  pub ask_get_group : q.command ≡ GetIoGroup → askable (asking_of q values) ≡ (mask_right q.p1 && (type_known q.p2 && eqb (length values) 0))
  unfolding askable p1_right p2_right address_right count_of values_right
  ask_get_group e = rw (e, and_true_right (eqb (length values) 0))

  pub ask_set : q.command ≡ SetIo → askable (asking_of q values) ≡ (channel_right q.p1 && (eqb q.p2 demand && (eqb (length values) 1 && all_demands values)))
  unfolding askable p1_right p2_right address_right count_of values_right
  ask_set e = rw e

  pub ask_set_group : q.command ≡ SetIoGroup
      → askable (asking_of q values) ≡ (mask_right q.p1 && (eqb q.p2 demand && (eqb (length values) (length (channels_of q.p1)) && all_demands values)))
  unfolding askable p1_right p2_right address_right count_of values_right
  ask_set_group e = rw e

  pub ask_get_param : q.command ≡ GetParam
      → askable (asking_of q values) ≡ (channel_right q.p1 && (eqb q.p2 0 && (address_known q.address && eqb (length values) 0)))
  unfolding askable p1_right p2_right address_right count_of values_right
  ask_get_param e = rw (e, and_true_right (eqb (length values) 0))

  pub ask_set_param : q.command ≡ SetParam
      → askable (asking_of q values)
      ≡ (channel_right q.p1
      && ((eqb q.p2 0 || eqb q.p2 persistent)
      && (address_known q.address && (eqb (length values) 1 && in_range (parameters_at + place_of q.p1 q.address) (get_or values 0 0)))))
  unfolding askable p1_right p2_right address_right count_of values_right
  ask_set_param e = rw e

  pub ask_reset : q.command ≡ Reset
      → askable (asking_of q values) ≡ (channel_right q.p1 && ((eqb q.p2 default || eqb q.p2 (default + persistent)) && (address_known q.address && eqb (length values) 0)))
  unfolding askable p1_right p2_right address_right count_of values_right
  ask_reset e = rw (e, and_true_right (eqb (length values) 0))
