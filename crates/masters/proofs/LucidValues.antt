-- LucidControl's values: the bytes of words, which words an answer may have, and that these are read again from their bytes. Assumes nothing.
use Rattle.std.proofs.Common.{◌≡◌, ℕ, zero, suc, ◌+◌, ◌*◌, ◌/◌, ◌%◌, ◌<◌, ◌≤◌, Bool, true, false, eqb, leb, List, [], ◌∷◌, ◌++◌, length, get_or, take, drop, sym, refl, ap, ◌∙◌, subst, append_assoc, append-nil, mul-suc, arith, eqb→eq, length-append, take-append-drop, drop_of_length-le, drop-drop, eq-eqb, le-leb, leb-true}
use Prim.{Unit, tt}
use native.Mathlib.Decide.{dec_lt}
use Rattle.wire.specs.Choose.{choose}
use Rattle.wire.specs.Word.{word_values, minus}
use Rattle.wire.specs.Sum.{byte_values}
use Rattle.wire.proofs.Cases.{yes as taken, by_choice}
use Rattle.wire.proofs.Sweep.{at}
use Rattle.wire.proofs.Tests.{and_true, both}
use Rattle.card.specs.Layout.{Card, channels, demands_at}
use Rattle.card.specs.Fitness.{demand_most}
use Rattle.card.specs.Probe.{fault_code, tenths_of, reading_of}
use Rattle.card.specs.declared.probe.Reading.{Reading}
use Rattle.card.specs.declared.probe.Reading.TheVariants.{Temperature, Fault as FaultRead}
use Rattle.card.proofs.Facts.{span_most, fit_facts}
use Rattle.card.proofs.Ranges.{at_demand, words_at}
use Rattle.card.proofs.Probes.{temperature_read, fault_read}
use Rattle.lucid.specs.Form.{channels_from, demand, tenths, hundredths, demand_size, tenths_size, hundredths_size, size_of, ok, little, number_at}
use Rattle.lucid.specs.Answer.{Values, Held, Failed, joined, group, hundredths_of, temperature_in, reading_in, value_of}
use Rattle.lucid.proofs.Numbers.{number_little, little_number}
use Rattle.lucid.proofs.Writes.{length_little}
use Rattle.asking.specs.Hearing.Hearing.{Gives}
use Rattle.asking.specs.Claims.{Below, Real}
use Rattle.asking.proofs.Temperatures.{Coded, tenths_temperature, tenths_coded, hundredths_temperature}
use Rattle.lucid_master.specs.Request.{type_known, all_demands, demand_bytes}
use Rattle.lucid_master.specs.Heard.{head_size, short_half, short_values, shaped, word_of, answerable, values_from, all_answerable, heard_values}
use Rattle.lucid_master.proofs.Requests.{by_type}
use Rattle.masters.specs.Lucid.{demands_from, temperature_word, reading_word, word_in}

-- the bytes of words of a type
unfoldable pub encoded : ℕ → List ℕ → List ℕ
encoded valueType [] = []
encoded valueType (word ∷ words) = little (size_of valueType) word ++ encoded valueType words

-- what is held as bytes where these words are held
abbrev pub bytes_of : ℕ → Values → Values
bytes_of valueType (Held words) = Held (encoded valueType words)
bytes_of valueType Failed = Failed

-- words one after another
encoded_append : (valueType : ℕ) (a b : List ℕ) → encoded valueType (a ++ b) ≡ encoded valueType a ++ encoded valueType b
unfolding encoded
encoded_append valueType [] b = refl
encoded_append valueType (word ∷ a) b = rw (encoded_append valueType a b) (sym (append_assoc (little (size_of valueType) word) (encoded valueType a) (encoded valueType b)))

-- and groups of them
bytes_joined : (valueType : ℕ) (a b : Values) → bytes_of valueType (joined a b) ≡ joined (bytes_of valueType a) (bytes_of valueType b)
unfolding joined
bytes_joined valueType (Held a) (Held b) = ap Held (encoded_append valueType a b)
bytes_joined valueType (Held a) Failed = refl
bytes_joined valueType Failed b = refl

-- how many bytes they are
pub length_encoded : (valueType : ℕ) (words : List ℕ) → length (encoded valueType words) ≡ size_of valueType * length words
unfolding encoded
length_encoded valueType [] = omega arith
length_encoded valueType (word ∷ words) =
    length-append (little (size_of valueType) word) (encoded valueType words)
    ∙ omega (arith, length_little (size_of valueType) word, length_encoded valueType words, mul-suc (size_of valueType) (length words))

-- the card's bytes of a channel are those of the word that it holds
reading_bytes : (valueType : ℕ) → eqb valueType demand ≡ false → (r : Reading) → reading_in valueType r ≡ bytes_of valueType (reading_word valueType r)
unfolding reading_in reading_word temperature_in temperature_word encoded size_of little choose
reading_bytes valueType d FaultRead = refl
reading_bytes valueType d (Temperature t) = by (eqb valueType tenths) refl
  where
    by : (u : Bool) → eqb valueType tenths ≡ u → reading_in valueType (Temperature t) ≡ bytes_of valueType (reading_word valueType (Temperature t))
    by true e = rw (d, e)
    by false e = rw (d, e)

module _ (card : Card) (valueType : ℕ) where
  value_bytes_law : (channel : ℕ) → value_of card.words card.memory valueType channel ≡ bytes_of valueType (word_in card valueType channel)
  unfolding value_of word_in encoded size_of little choose
  value_bytes_law channel = by (eqb valueType demand) refl
    where
      by : (u : Bool) → eqb valueType demand ≡ u → value_of card.words card.memory valueType channel ≡ bytes_of valueType (word_in card valueType channel)
      by true e = rw (e, e)
      by false e = rw e (reading_bytes valueType e (reading_of (get_or card.memory channel 0)))

  pub group_bytes : (ks : List ℕ) → group (value_of card.words card.memory valueType) ks ≡ bytes_of valueType (group (word_in card valueType) ks)
  unfolding group encoded
  group_bytes [] = refl
  group_bytes (k ∷ ks) = rw (value_bytes_law k, group_bytes ks) (sym (bytes_joined valueType (word_in card valueType k) (group (word_in card valueType) ks)))

-- words that an answer of a type may have
abbrev pub Sayable : ℕ → List ℕ → Type 0
Sayable valueType [] = Unit {0}
Sayable valueType (word ∷ words) = ((answerable valueType word ≡ true) × (word < word_values)) × Sayable valueType words

-- they are answerable
all_sayable : (valueType : ℕ) (words : List ℕ) → Sayable valueType words → all_answerable valueType words ≡ true
unfolding all_answerable
all_sayable valueType [] s = refl
all_sayable valueType (word ∷ words) s = both s.0.0 (all_sayable valueType words s.1)

-- what a multiple of 256 adds to is the low byte's
second_byte : (q m : ℕ) → (byte_values * q + m) % byte_values ≡ m % byte_values
second_byte q m = omega arith

-- two bytes are those of the number's low half
low_half : (x : ℕ) → little tenths_size x ≡ little tenths_size (x % short_values)
unfolding little
low_half x =
    let a : x % byte_values ≡ x % short_values % byte_values = omega arith in
    let split : x / byte_values ≡ byte_values * (x / short_values) + x % short_values / byte_values = omega arith in
    let b : x / byte_values % byte_values ≡ x % short_values / byte_values % byte_values = ap (λ (y : ℕ). y % byte_values) split ∙ second_byte (x / short_values) (x % short_values / byte_values) in
    rw (a, b)

-- a temperature in tenths is known from its low half
short_word : (word : ℕ) → Coded word 1 → word_of tenths (word % short_values) ≡ word
unfolding word_of tenths_of choose
short_word word k =
    subst (λ (w : ℕ). word_of tenths (w % short_values) ≡ w) k.gives
    (eqb→eq _ _ (at (λ n. eqb (word_of tenths (1 * tenths_of n % word_values % short_values)) (1 * tenths_of n % word_values)) fault_code tt k.code k.below))

-- a word is read again from its bytes
round : (valueType word : ℕ) → type_known valueType ≡ true → answerable valueType word ≡ true → word < word_values → (a b : List ℕ)
    → word_of valueType (number_at (size_of valueType) (a ++ (little (size_of valueType) word ++ b)) (length a)) ≡ word
unfolding answerable word_of size_of choose
round valueType word known h w a b =
    by_type (λ t. answerable t word ≡ true → word_of t (number_at (size_of t) (a ++ (little (size_of t) word ++ b)) (length a)) ≡ word)
    (λ d. number_little demand_size word a b (omega (arith, leb-true word demand_most d)))
    (λ t. ap (λ (l : List ℕ). word_of tenths (number_at tenths_size (a ++ (l ++ b)) (length a))) (low_half word)
    ∙ ap (word_of tenths) (number_little tenths_size (word % short_values) a b (omega arith)) ∙ short_word word (tenths_coded word w t))
    (λ u. number_little hundredths_size word a b w)
    valueType known h

-- and so are several
decoded : (valueType : ℕ) → type_known valueType ≡ true → (words : List ℕ) → Sayable valueType words → (a b : List ℕ)
    → values_from valueType (length words) (a ++ (encoded valueType words ++ b)) (length a) ≡ words
unfolding values_from encoded
decoded valueType known [] s a b = refl
decoded valueType known (word ∷ words) s a b =
    let size = size_of valueType in
    let rest = encoded valueType words ++ b in
    let split : (little size word ++ encoded valueType words) ++ b ≡ little size word ++ rest = append_assoc (little size word) (encoded valueType words) b in
    let long : length (a ++ little size word) ≡ length a + size = length-append a (little size word) ∙ omega (arith, length_little size word) in
    let first = round valueType word known s.0.0 s.0.1 a rest in
    let next : values_from valueType (length words) (a ++ (little size word ++ rest)) (length a + size) ≡ words =
    rw (append_assoc a (little size word) rest, long) at (decoded valueType known words s.1 (a ++ little size word) b) in
    rw (split, first, next)

-- an answer with such words is heard as these
pub heard_held : (valueType : ℕ) → type_known valueType ≡ true → (words : List ℕ) → Sayable valueType words
    → heard_values valueType (length words) (ok ∷ length (encoded valueType words) ∷ encoded valueType words) ≡ Gives words
unfolding heard_values shaped
heard_held valueType known words s =
    let bytes = encoded valueType words in
    let r = ok ∷ length bytes ∷ bytes in
    let long = length_encoded valueType words in
    let read : values_from valueType (length words) r head_size ≡ words = rw (append-nil bytes) at (decoded valueType known words s (ok ∷ length bytes ∷ []) []) in
    let n = size_of valueType * length words in
    let shape : shaped r n ≡ true = both (eq-eqb (length r) (head_size + n) (omega (arith, long))) (both refl (eq-eqb (length bytes) n long)) in
    sym (taken _ _ _ _ (both shape (rw read (all_sayable valueType words s))) (ap Gives (sym read)))

-- what is known of values that a card holds: n of them that may be said, or a failed probe
abbrev pub Said : ℕ → ℕ → Values → Type 0
Said valueType n (Held words) = (length words ≡ n) × Sayable valueType words
Said valueType n Failed = Unit {0}

-- several words
sayable_append : (valueType : ℕ) (a b : List ℕ) → Sayable valueType a → Sayable valueType b → Sayable valueType (a ++ b)
sayable_append valueType [] b s t = t
sayable_append valueType (word ∷ a) b s t = (s.0, sayable_append valueType a b s.1 t)

-- a channel more
said_joined : (valueType n : ℕ) (a b : Values) → Said valueType 1 a → Said valueType n b → Said valueType (suc n) (joined a b)
unfolding joined
said_joined valueType n (Held a) (Held b) s t = (length-append a b ∙ omega (arith, s.0, t.0), sayable_append valueType a b s.1 t.1)
said_joined valueType n (Held a) Failed s t = tt
said_joined valueType n Failed b s t = tt

pub tenths_word : (code : ℕ) → tenths_of code < word_values
unfolding tenths_of
tenths_word code = omega arith

module _ (card : Card) (real : Real card) where
  -- a demand
  demand_said : (channel : ℕ) → channel < channels → Said demand 1 (word_in card demand channel)
  unfolding word_in answerable choose
  demand_said channel h =
      let f = fit_facts card real.fits in
      let word = get_or card.words (demands_at + channel) 0 in
      let inside = at_demand (demands_at + channel) word (omega arith) (omega arith) ∙ words_at card.words f.words_fit (demands_at + channel) (omega (arith, f.words_length)) in
      let most = span_most demand_most word refl inside in
      (refl, ((le-leb word demand_most most, omega arith), tt))

  -- a probe's word, in a type that is not 10h
  probe_said : (valueType channel : ℕ) → eqb valueType demand ≡ false
      → ((code : ℕ) → code < fault_code → Said valueType 1 (reading_word valueType (Temperature (record { 0 = tenths_of code })))) → Said valueType 1 (word_in card valueType channel)
  unfolding word_in reading_word choose
  probe_said valueType channel d working = rw d (by (dec_lt code fault_code))
    where
      code : ℕ
      code = get_or card.memory channel 0

      by : Dec (code < fault_code) → Said valueType 1 (reading_word valueType (reading_of code))
      by (yes below) = rw (temperature_read code below).taken (working code below)
      by (no above) = let e : code ≡ fault_code = omega (arith, real.bytes channel) in rw (e, fault_read) tt

  -- the word of a channel
  pub word_said : (valueType channel : ℕ) → type_known valueType ≡ true → channel < channels → Said valueType 1 (word_in card valueType channel)
  unfolding reading_word temperature_word hundredths_of answerable choose
  word_said valueType channel known h =
      by_type (λ t. Said t 1 (word_in card t channel)) (demand_said channel h)
      (probe_said tenths channel refl (λ code l. (refl, ((tenths_temperature code l, tenths_word code), tt))))
      (probe_said hundredths channel refl (λ code l. (refl, ((hundredths_temperature code l, omega arith), tt))))
      valueType known

  -- those of a group
  pub group_said : (valueType n k mask : ℕ) → type_known valueType ≡ true → k + n ≤ channels → Said valueType (length (channels_from n k mask)) (group (word_in card valueType) (channels_from n k mask))
  unfolding channels_from group
  group_said valueType zero k mask known h = (refl, tt)
  group_said valueType (suc n) k mask known h =
      let rest = group_said valueType n (suc k) (mask / 2) known (omega arith) in
      let ks = channels_from n (suc k) (mask / 2) in
      by_choice (λ (s : List ℕ). Said valueType (length s) (group (word_in card valueType) s)) (eqb (mask % 2) 1) _ _
      (λ _. said_joined valueType (length ks) (word_in card valueType k) (group (word_in card valueType) ks) (word_said valueType k known (omega arith)) rest)
      (λ _. rest)

-- A reply of bytes

-- a number of some bytes
pair_below : (r : List ℕ) (i : ℕ) → Below byte_values r → number_at demand_size r i < short_values
unfolding number_at
pair_below r i bytes = omega (arith, bytes i, bytes (i + 1))

pub quad_below : (r : List ℕ) (i : ℕ) → Below byte_values r → number_at hundredths_size r i < word_values
unfolding number_at
quad_below r i bytes = omega (arith, bytes i, bytes (i + 1), bytes (i + 1 + 1), bytes (i + 1 + 1 + 1))

-- a value is a word
word_below : (valueType : ℕ) → type_known valueType ≡ true → (r : List ℕ) (i : ℕ) → Below byte_values r → word_of valueType (number_at (size_of valueType) r i) < word_values
unfolding word_of size_of choose
word_below valueType known r i bytes =
    by_type (λ t. word_of t (number_at (size_of t) r i) < word_values)
    (omega (arith, pair_below r i bytes))
    (by_choice (λ (x : ℕ). x < word_values) (leb short_half (number_at tenths_size r i)) _ _ (λ _. omega (arith, pair_below r i bytes)) (λ _. omega (arith, pair_below r i bytes)))
    (quad_below r i bytes)
    valueType known

-- the bytes of a word are those that it was read from
word_bytes : (valueType n : ℕ) → type_known valueType ≡ true → little (size_of valueType) (word_of valueType n) ≡ little (size_of valueType) n
unfolding word_of size_of choose
word_bytes valueType n known =
    by_type (λ t. little (size_of t) (word_of t n) ≡ little (size_of t) n) refl
    (by_choice (λ (x : ℕ). little tenths_size x ≡ little tenths_size n) (leb short_half n) _ _ (λ _. upper) (λ _. refl))
    refl
    valueType known
  where
    upper : little tenths_size (n + minus short_values) ≡ little tenths_size n
    upper =
        let e : (n + minus short_values) % short_values ≡ n % short_values = omega arith in
        low_half (n + minus short_values) ∙ ap (little tenths_size) e ∙ sym (low_half n)

module _ (valueType : ℕ) (known : type_known valueType ≡ true) (r : List ℕ) (bytes : Below byte_values r) where
  -- as many as asked for
  pub length_values : (n i : ℕ) → length (values_from valueType n r i) ≡ n
  unfolding values_from
  length_values zero i = refl
  length_values (suc n) i = ap suc (length_values n (i + size_of valueType))

  -- those that are answerable may be said
  pub values_sayable : (n i : ℕ) → all_answerable valueType (values_from valueType n r i) ≡ true → Sayable valueType (values_from valueType n r i)
  unfolding values_from all_answerable
  values_sayable zero i h = tt
  values_sayable (suc n) i h =
      let b = and_true (answerable valueType (word_of valueType (number_at (size_of valueType) r i))) _ h in
      ((b.0, word_below valueType known r i bytes), values_sayable n (i + size_of valueType) b.1)

  -- the data are the bytes of the values read from them
  pub values_bytes : (n i : ℕ) → length r ≡ i + size_of valueType * n → drop i r ≡ encoded valueType (values_from valueType n r i)
  unfolding values_from encoded
  values_bytes zero i l = drop_of_length-le r {i = i} (omega (arith, l))
  values_bytes (suc n) i l =
      let size = size_of valueType in
      let more = mul-suc size n in
      let front : little size (word_of valueType (number_at size r i)) ≡ take size (drop i r) =
      word_bytes valueType (number_at size r i) known ∙ little_number size r i bytes (omega (arith, l, more)) in
      let rest = values_bytes n (i + size) (omega (arith, l, more)) in
      sym (take-append-drop size (drop i r))
      ∙ ap (λ (s : List ℕ). take size (drop i r) ++ s) (drop-drop size i r ∙ rest)
      ∙ ap (λ (s : List ℕ). s ++ encoded valueType (values_from valueType n r (i + size))) (sym front)

-- Demands are values of type 10h

demands_values : (n : ℕ) (f : List ℕ) (i : ℕ) → demands_from n f i ≡ values_from demand n f i
unfolding demands_from values_from word_of size_of choose
demands_values zero f i = refl
demands_values (suc n) f i = ap (λ (s : List ℕ). number_at demand_size f i ∷ s) (demands_values n f (i + demand_size))

demands_encoded : (values : List ℕ) → demand_bytes values ≡ encoded demand values
unfolding demand_bytes encoded size_of choose
demands_encoded [] = refl
demands_encoded (value ∷ values) = ap (λ (s : List ℕ). little demand_size value ++ s) (demands_encoded values)

demands_sayable : (values : List ℕ) → all_demands values ≡ true → Sayable demand values
unfolding all_demands answerable choose
demands_sayable [] h = tt
demands_sayable (value ∷ values) h =
    let b = and_true (leb value demand_most) (all_demands values) h in
    ((b.0, omega (arith, leb-true value demand_most b.0)), demands_sayable values b.1)

-- the demands of a frame are those whose bytes stand in it
pub demands_read : (values a : List ℕ) → all_demands values ≡ true → demands_from (length values) (a ++ demand_bytes values) (length a) ≡ values
demands_read values a h =
    let read = rw (append-nil (encoded demand values)) at (decoded demand refl values (demands_sayable values h) a []) in
    demands_values (length values) (a ++ demand_bytes values) (length a) ∙ rw (demands_encoded values) read

-- and its data are their bytes
pub demands_bytes : (f : List ℕ) → Below byte_values f → (n i : ℕ) → length f ≡ i + demand_size * n → drop i f ≡ demand_bytes (demands_from n f i)
unfolding size_of choose
demands_bytes f bytes n i l =
    values_bytes demand refl f bytes n i l ∙ sym (demands_encoded (demands_from n f i) ∙ ap (encoded demand) (demands_values n f i))
