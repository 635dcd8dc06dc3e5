-- The theorem of specs/NoTemperature.antt: the governor, the dialects, the entries that are never asked for a probe, and the masters. Assumes nothing.
use Rattle.std.proofs.Common.{◌≡◌, ℕ, ◌<◌, Bool, true, false, eqb, ltb, leb, List, length, get_or, sym, refl, ap, ◌∙◌, subst, arith, lt-ltb}
use Rattle.wire.specs.Choose.{choose}
use Rattle.wire.proofs.Cases.{yes, no, by_both}
use Rattle.card.specs.Numbers.{answered, done, range_unknown, probe_fault, card_unfit, image_length, image_padding}
use Rattle.card.specs.Layout.{Card, channels}
use Rattle.card.specs.Fitness.{fit}
use Rattle.card.specs.Probe.{reading_of, tenths_of}
use Rattle.card.specs.Entries.{with_code, set_code, restart}
use Rattle.card.specs.Governor.{told_by, told_of, governor_of, number_of, values_of}
use Rattle.card.specs.Reply.{Reply, SameAnswer, silent}
use Rattle.card.specs.declared.probe.Reading.{Reading}
use Rattle.card.specs.declared.probe.Reading.TheVariants.{Temperature, Fault as Unread}
use Rattle.card.specs.declared.governor.Governor.TheVariants.{Fault, Refused}
use Rattle.receive.specs.Parts.{longest_of}
use Rattle.receive.specs.Receive.{Receipt, collected, ready, receive_reply, quiet_reply}
use Rattle.receive.specs.declared.Dialect.{Dialect}
use Rattle.image.specs.Form.{saved_form, image_size}
use Rattle.image.specs.Saved.{entries_of, padding_of}
use Rattle.image.specs.Ranges.{entries_right}
use Rattle.image.specs.Entries.{unless, write_image, read_image}
use Rattle.faults.specs.NoTemperature.{as_written, Failed, Says, ToldApart, GovernorOwes, Unasked, NoTemperature}
use Rattle.faults.proofs.Codes.{failed_read, code_fit, code_other, warm_read, shell_same, guarded_same}
use Rattle.faults.proofs.LecomFaults.{lecom_owes}
use Rattle.faults.proofs.LoveFaults.{love_owes}
use Rattle.faults.proofs.LucidFaults.{lucid_owes}
use Rattle.faults.proofs.DatalinkFaults.{datalink_owes}
use Rattle.faults.proofs.MasterFaults.{masters_owe}

-- what the governor is told of a channel, by its reading
told_as : (card : Card) (channel : ℕ) (reading : Reading) → fit card ≡ true → channel < channels → reading_of (get_or card.memory channel 0) ≡ reading
    → governor_of card channel ≡ told_by reading (get_or card.memory channel 0)
unfolding governor_of told_of
told_as card channel reading e h r = sym (yes _ _ _ _ e (yes _ _ _ _ (lt-ltb channel channels h) (ap (λ (x : Reading). told_by x (get_or card.memory channel 0)) (sym r))))

governor_fault : (card : Card) (channel : ℕ) → fit card ≡ true → Failed card channel → Says Fault 9 (governor_of card channel)
governor_fault card channel e x = subst (Says Fault 9) (sym (told_as card channel Unread e x.inside (failed_read card channel x))) (record { word = refl; number = refl; values = refl })

governor_apart : (card : Card) (channel code : ℕ) → fit card ≡ true → Failed card channel → code < 255 → ToldApart (governor_of card channel) (governor_of (with_code card channel code) channel)
governor_apart card channel code e x below =
    let is = governor_fault card channel e x in
    let warm = with_code card channel code in
    let was = told_as warm channel (Temperature (record { 0 = tenths_of code })) (code_fit card channel code ∙ e) x.inside (warm_read card channel code e x.inside below) in
    record {
      number = λ same. let z : ◌≡◌ {A = ℕ} probe_fault answered = sym is.number ∙ same ∙ ap number_of was in omega (arith, z);
      values = λ same. let z : ◌≡◌ {A = ℕ} 0 1 = ap length (sym is.values ∙ same ∙ ap values_of was) in omega (arith, z);
    }

governor_same : (card : Card) (channel code other : ℕ) → channel < channels → (other ≡ channel → ⊥) → governor_of card other ≡ governor_of (with_code card channel code) other
unfolding governor_of
governor_same card channel code other h n = rw (code_fit card channel code, ← code_other card channel code other n)

governor_owes : GovernorOwes governor_of
unfolding governor_of
governor_owes =
    record {
      unfit = λ card channel e. subst (Says (Refused 12) 12) (no _ _ _ _ e refl) (record { word = refl; number = refl; values = refl });
      fault = governor_fault;
      apart = governor_apart;
      same = governor_same;
    }

-- the other entries

set_code_same : (into value : ℕ) → Unasked (λ card. set_code card into value)
unfolding set_code choose
set_code_same into value card channel code h = guarded_same card channel code _ _ (by (ltb into channels))
  where
    by : (t : Bool) → SameAnswer (choose t (silent done (with_code card into value)) (silent range_unknown card)) (choose t (silent done (with_code (with_code card channel code) into value)) (silent range_unknown (with_code card channel code)))
    by true = record { number = refl; bytes = refl }
    by false = record { number = refl; bytes = refl }

restart_same : Unasked restart
unfolding restart
restart_same card channel code h = guarded_same card channel code _ _ (record { number = refl; bytes = refl })

-- a receiver is asked for no probe

receive_same : (d : Dialect) (room : ℕ) (bytes : List ℕ) → Unasked (λ card. (receive_reply d card room bytes).reply)
unfolding receive_reply ready collected with_code
receive_same d room bytes card channel code h =
    rw (code_fit card channel code)
    (by_both (λ (r s : Receipt). SameAnswer r.reply s.reply) (ready card) _ _ _ _
    (λ _. by_both (λ (r s : Receipt). SameAnswer r.reply s.reply) (leb (longest_of d) room) _ _ _ _ (λ _. record { number = refl; bytes = refl }) (λ _. record { number = refl; bytes = refl }))
    (λ _. record { number = refl; bytes = refl }))

quiet_same : (d : Dialect) → Unasked (λ card. quiet_reply d card)
unfolding quiet_reply ready with_code
quiet_same d card channel code h =
    rw (code_fit card channel code) (by_both SameAnswer (ready card) _ _ _ _ (λ _. record { number = refl; bytes = refl }) (λ _. record { number = refl; bytes = refl }))

write_same : (room : ℕ) → Unasked (λ card. write_image card room)
unfolding write_image with_code
write_same room card channel code h = shell_same card channel code image_size room _ _ (record { number = refl; bytes = refl })

-- a test passed or refused alike
unless_same : (t : Bool) (n : ℕ) (c d : Card) (x y : Reply) → SameAnswer x y → SameAnswer (unless t n c x) (unless t n d y)
unfolding choose
unless_same true n c d x y s = s
unless_same false n c d x y s = record { number = refl; bytes = refl }

read_same : (img : List ℕ) → Unasked (λ card. read_image card img)
unfolding read_image
read_same img card channel code h =
    rw (code_fit card channel code)
    (unless_same (fit card) card_unfit _ _ _ _
    (unless_same (eqb (length img) image_size) image_length _ _ _ _
    (unless_same (eqb (padding_of img) 0) image_padding _ _ _ _
    (unless_same (entries_right saved_form (entries_of img)) card_unfit _ _ _ _
    (record { number = refl; bytes = refl })))))

pub no_temperature : NoTemperature as_written
no_temperature =
    record {
      governor = governor_owes;
      lecom = lecom_owes;
      love = love_owes;
      lucid = lucid_owes;
      datalink = datalink_owes;
      set_code = set_code_same;
      restart = restart_same;
      receive = receive_same;
      quiet = quiet_same;
      write_image = write_same;
      read_image = read_same;
      masters = masters_owe;
    }
