-- A fit card stays fit, whatever LucidControl frame it gets. Assumes nothing.
use Rattle.std.proofs.Common.{Result, Ok, Err, ◌≡◌, sym, ◌∙◌, Bool, true, List, ℕ, zero, suc, ◌+◌, ◌/◌, ◌%◌, ◌≤◌, ◌<◌, arith, le-leb, eqb, get_or, set, length-set}
use Prim.{tt}
use Rattle.wire.specs.Choose.{choose}
use Rattle.wire.proofs.Cases.{by_choice}
use Rattle.wire.proofs.Sweep.{swept}
use Rattle.card.specs.Layout.{Card, demands_at, channels, parameters_at, parameter_count, saved_parameters_at}
use Rattle.card.specs.Fitness.{in_span, in_range, fit, demand_most}
use Rattle.card.specs.Reply.{room_least}
use Rattle.card.proofs.Facts.{fit_facts}
use Rattle.card.proofs.Ranges.{at_demand, parameter_copy, set_fit}
use Rattle.card.proofs.Fits.{IsFit, Good, shell_fit, words_reply_fit}
use Rattle.lucid.specs.Form.{data_at, demand_size, channels_from, number_at}
use Rattle.lucid.specs.Frame.{asked, value_right}
use Rattle.lucid.specs.Stages.{Sound}
use Rattle.lucid.specs.Answer.{demanded, stored, default_of, reset, obeyed, lucid_reply}
use Rattle.lucid.specs.declared.frame.Order.{Order}
use Rattle.lucid.specs.declared.frame.Order.TheVariants.{GetIo, SetIo, GetParam, SetParam, Reset}
use Rattle.lucid.specs.declared.frame.Refusal.{Refusal}
use Rattle.lucid.proofs.Frames.{asked_sound}

-- a word in its range, stored
good_set : (ws : List ℕ) (k x : ℕ) → Good ws → in_range k x ≡ true → Good (set ws k x)
good_set ws k x g r = record { long = length-set ws k x ∙ g.long; fits = set_fit ws k x g.fits r }

stored_good : (place : ℕ) (saved : Bool) (value : ℕ) (ws : List ℕ) → place < parameter_count → value_right place value ≡ true → Good ws → Good (stored place saved value ws)
unfolding stored
stored_good place saved value ws h r g =
    let once = good_set ws (parameters_at + place) value g r in
    by_choice Good saved _ _ (λ _. good_set _ (saved_parameters_at + place) value once (parameter_copy place value h ∙ r)) (λ _. once)

-- a default is in its range, place by place
default_right : (place : ℕ) → place < parameter_count → value_right place (default_of place) ≡ true
unfolding default_of in_range in_span choose
default_right place h = swept (λ n. value_right n (default_of n)) parameter_count tt place h

-- a frame is bytes
abbrev pub Bytes : List ℕ → Type 0
Bytes f = (i : ℕ) → get_or f i 0 < 256

-- two bytes are a demand
demand_right : (f : List ℕ) (at k : ℕ) → Bytes f → k < channels → in_range (demands_at + k) (number_at demand_size f at) ≡ true
unfolding number_at in_span choose
demand_right f at k b h =
    let most : number_at demand_size f at ≤ demand_most = omega (arith, b at, b (at + 1)) in
    sym (at_demand (demands_at + k) (number_at demand_size f at) (omega arith) (omega arith)) ∙ rw (le-leb 0 (number_at demand_size f at) (omega arith), le-leb (number_at demand_size f at) demand_most most)

demanded_good : (n k mask : ℕ) (f : List ℕ) (at : ℕ) (ws : List ℕ) → k + n ≤ channels → Bytes f → Good ws → Good (demanded (channels_from n k mask) f at ws)
unfolding channels_from demanded
demanded_good zero k mask f at ws h b g = g
demanded_good (suc n) k mask f at ws h b g =
    by_choice (λ (ks : List ℕ). Good (demanded ks f at ws)) (eqb (mask % 2) 1) _ _
    (λ _. demanded_good n (suc k) (mask / 2) f (at + demand_size) _ (omega arith) b (good_set ws (demands_at + k) (number_at demand_size f at) g (demand_right f at k b (omega arith))))
    (λ _. demanded_good n (suc k) (mask / 2) f at ws (omega arith) b g)

obeyed_good : (ws memory f : List ℕ) (order : Result Order Refusal) → Bytes f → Sound f order → Good ws → Good (obeyed ws memory f order).words
unfolding obeyed reset
obeyed_good ws memory f (Err refusal) b s g = g
obeyed_good ws memory f (Ok (GetIo valueType mask)) b s g = g
obeyed_good ws memory f (Ok (SetIo mask)) b s g = demanded_good channels 0 mask f data_at ws (omega arith) b g
obeyed_good ws memory f (Ok (GetParam place)) b s g = g
obeyed_good ws memory f (Ok (SetParam place saved value)) b s g = stored_good place saved value ws s.0 s.1 g
obeyed_good ws memory f (Ok (Reset place saved)) b s g = stored_good place saved (default_of place) ws s (default_right place s) g

pub stays_fit : (card : Card) (room : ℕ) (f : List ℕ) → Bytes f → fit card ≡ true → IsFit (lucid_reply card room f)
unfolding lucid_reply
stays_fit card room f b e =
    let t = fit_facts card e in
    let g = obeyed_good card.words card.memory f (asked f) b (asked_sound f) (record { long = t.words_length; fits = t.words_fit }) in
    shell_fit room_least card room _ e (words_reply_fit card (obeyed card.words card.memory f (asked f)) e g.long g.fits)
