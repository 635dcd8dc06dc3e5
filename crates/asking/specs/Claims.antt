-- What is claimed of a master, over its dialect: means, least, hears and exact. docs/MASTERS.md walks through it.
use Rattle.std.specs.Prelude.{◌≡◌, ℕ, ◌-◌, ◌<◌, ◌≤◌, Bool, true, false, ◌&&◌, ◌||◌, ◌⊎◌, ◌↔◌, List, [], ◌∷◌, length, ◌==◌, nat_lt, slice_index}
use Rattle.wire.specs.Buffer.{put}
use Rattle.wire.specs.Word.{word_values}
use Rattle.wire.specs.Sum.{byte_values}
use Rattle.card.specs.Numbers.{answered, foreign_address, frame_form, check_character}
use Rattle.card.specs.Layout.{Card}
use Rattle.card.specs.Fitness.{fit}
use Rattle.card.specs.Reply.{Reply, room_least}
use Rattle.asking.specs.Hearing.{Hearing, is_said}
use Rattle.asking.specs.Hearing.Hearing.{Unread}

-- a dialect, as its master and its card have it
pub record Dialect : Type 1 where
  -- the master: its requests and the numbers in one, the address of one, those that 7 does not refuse, and their frames
  pub Request : Type 0
  pub numbers : Request → List ℕ
  pub address : Request → ℕ
  pub askable : Request → Bool
  pub made : Request → List ℕ
  -- the card: the addresses of units, what a frame asks of the unit at one (its command and values too), and what a request is to ask of it
  pub Asked : Type 0
  pub is_unit : ℕ → Bool
  pub asked : ℕ → List ℕ → Asked
  pub asked_of : Request → ℕ → Asked
  -- the card's entry, its address, what it answers to a request, and what its refusals say
  pub reply : Card → ℕ → List ℕ → Reply
  pub unit_of : Card → ℕ
  pub answer_of : Card → Request → Hearing
  pub refusal_of : Reply → Hearing
  -- the master again: what it hears in a reply; and in an answer the check characters' place, counted from the end, and their number
  pub heard : Request → List ℕ → Hearing
  pub check_back : Request → ℕ
  pub check_size : Request → ℕ

-- every element below a bound
abbrev pub Below : ℕ → List ℕ → Type 0
Below bound s = (i : ℕ) → slice_index s i < bound

-- a card as it is: fit, its words words and its bytes bytes
pub record Real (card : Card) : Type 0 where
  pub fits : fit card ≡ true
  pub words : Below word_values card.words
  pub bytes : Below byte_values card.memory

-- a request that 7 does not refuse, its numbers words
pub record Askable (d : Dialect) (q : d.Request) : Type 0 where
  pub right : d.askable q ≡ true
  pub words : Below word_values (d.numbers q)

-- means: "A made request means to the card what was asked", to every unit: one that it does not reach takes it as a foreign one
pub record Means (d : Dialect) (q : d.Request) : Type 0 where
  pub means : (unit : ℕ) → d.asked unit (d.made q) ≡ d.asked_of q unit

-- lower byte by byte, or the same
unfoldable pub no_higher : List ℕ → List ℕ → Bool
no_higher [] t = true
no_higher (x ∷ s) [] = false
no_higher (x ∷ s) (y ∷ t) = nat_lt x y || (x == y && no_higher s t)

-- shorter; or as long, and no higher
unfoldable pub no_later : List ℕ → List ℕ → Bool
no_later s t = nat_lt (length s) (length t) || (length s == length t && no_higher s t)

-- a frame for the same request: it asks the same of every unit
pub record ForSame (d : Dialect) (q : d.Request) (f : List ℕ) : Type 0 where
  pub bytes : Below byte_values f
  pub asks : (unit : ℕ) → d.is_unit unit ≡ true → d.asked unit f ≡ d.asked unit (d.made q)

-- least: "Of several frames for one request it makes the shortest, then the lowest byte by byte"
pub record Least (d : Dialect) (q : d.Request) : Type 0 where
  pub least : (f : List ℕ) → ForSame d q f → no_later (d.made q) f ≡ true

-- a card at the request's address
pub record At (d : Dialect) (q : d.Request) (card : Card) : Type 0 where
  pub real : Real card
  pub there : d.unit_of card ≡ d.address q

-- hears: "a card's reply is read as what it answered"
pub record Hears (d : Dialect) (q : d.Request) : Type 0 where
  pub hears : (card : Card) → At d q card → (room : ℕ) → room_least ≤ room → d.heard q (d.reply card room (d.made q)).bytes ≡ d.answer_of card q

-- document 01 has the reply r as an answer to the request, and it says h: some card at that address gives it
pub record Answers (d : Dialect) (q : d.Request) (h : Hearing) (r : List ℕ) : Type 0 where
  pub card : Card
  pub at : At d q card
  pub number : (d.reply card room_least (d.made q)).number ≡ answered
  pub sends : (d.reply card room_least (d.made q)).bytes ≡ r
  pub says : d.answer_of card q ≡ h

-- document 01 has the reply r as a refusal from the request's address, and it says h: some card there refuses some frame so
pub record Refuses (d : Dialect) (q : d.Request) (h : Hearing) (r : List ℕ) : Type 0 where
  pub card : Card
  pub at : At d q card
  pub frame : List ℕ
  pub bytes : Below byte_values frame
  pub number : foreign_address ≤ (d.reply card room_least frame).number
  pub sends : (d.reply card room_least frame).bytes ≡ r
  pub some : 0 < length r
  pub says : d.refusal_of (d.reply card room_least frame) ≡ h

abbrev pub Has : (d : Dialect) → d.Request → Hearing → List ℕ → Type 0
Has d q h r = Answers d q h r ⊎ Refuses d q h r

-- only the check characters of r are wrong: with others in their place it is an answer, as it is it is neither answer nor refusal
pub record CheckWrong (d : Dialect) (q : d.Request) (r : List ℕ) : Type 0 where
  pub characters : List ℕ
  pub size : length characters ≡ d.check_size q
  pub inside : d.check_back q ≤ length r
  pub says : Hearing
  pub mended : Answers d q says (put r (length r - d.check_back q) characters)
  pub none : (h : Hearing) → Has d q h r → ⊥

-- exact: what is said is what document 01 has; 4; and all else is 3
pub record Exact (d : Dialect) (q : d.Request) (r : List ℕ) : Type 0 where
  pub said : (h : Hearing) → is_said h ≡ true → (d.heard q r ≡ h) ↔ Has d q h r
  pub check : (d.heard q r ≡ Unread check_character) ↔ CheckWrong d q r
  pub form : (d.heard q r ≡ Unread frame_form) ↔ (((h : Hearing) → Has d q h r → ⊥) × (CheckWrong d q r → ⊥))

-- the four claims
pub record Claims (d : Dialect) : Type 1 where
  pub means : (q : d.Request) → Askable d q → Means d q
  pub least : (q : d.Request) → Askable d q → Least d q
  pub hears : (q : d.Request) → Askable d q → Hears d q
  pub exact : (q : d.Request) → Askable d q → (r : List ℕ) → Below byte_values r → Exact d q r
