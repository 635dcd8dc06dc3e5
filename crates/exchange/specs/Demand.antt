-- Demand 3: what holds after every list of calls.
use Rattle.std.specs.Prelude.{ℕ, ◌+◌, ◌-◌, ◌≤◌, ◌<◌, ◌≡◌, Bool, true, false, ◌&&◌, not, List, [], ◌∷◌, ◌⊎◌, leb, length, get_or}
use Rattle.wire.specs.Choose.{choose}
use Rattle.card.specs.Layout.{Card}
use Rattle.card.specs.Change.{memory_start, memory_end, writable_start, in_memory, names_read_only}
use Rattle.master.specs.Request.{Request, named_by, as_asked}
use Rattle.master.specs.declared.Verdict.{Verdict}
use Rattle.master.specs.declared.Verdict.TheVariants.{Open, Done}
use Rattle.exchange.specs.Line.{World, Build, change_round, interrogate_round}

-- the byte at an address of Datalink memory
abbrev pub byte_at : Card → ℕ → ℕ
byte_at card address = get_or card.memory (address - memory_start) 0

-- "Writable are the bytes 1010h to 1FFFh"
pub record Writable (address : ℕ) : Type 0 where
  pub low : writable_start ≤ address
  pub high : address < memory_end

-- ", and a range to which the order above gives neither 6 nor 8"
abbrev pub writable_range : Request → Bool
writable_range q = in_memory q.address (named_by q.ask) && not (names_read_only q.address (named_by q.ask))

-- the bytes that the request names
pub record Named (q : Request) (address : ℕ) : Type 0 where
  pub low : q.address ≤ address
  pub high : address < q.address + named_by q.ask

-- "Old is a byte at the start"
abbrev pub Old : {State : Type 0} → Card → World State → ℕ → Type 0
Old start w address = byte_at w.card address ≡ byte_at start address

-- "as asked is its data byte, or (old AND mask) OR state"
abbrev pub AsAsked : {State : Type 0} → Request → Card → World State → ℕ → Type 0
AsAsked q start w address = byte_at w.card address ≡ as_asked q.ask (byte_at start address) (address - q.address)

-- every round closed was lossless
abbrev pub all_lossless : List Bool → Bool
all_lossless [] = true
all_lossless (l ∷ rounds) = l && all_lossless rounds

-- what the master says where nothing was lost: nothing yet, and done once the third round is closed
abbrev pub due : List Bool → Verdict
due rounds = choose (leb interrogate_round (length rounds)) Done Open

-- the claim, about a world that a list of calls led to
pub record Demand3 {State : Type 0} (b : Build State) (q : Request) (start : Card) (w : World State) : Type 0 where
  -- "The writable bytes named are all old or all as asked, whether the master says done, unknown or nothing yet."
  pub whole : ((a : ℕ) → Writable a → Named q a → Old start w a) ⊎ ((a : ℕ) → Writable a → Named q a → AsAsked q start w a)
  -- "No other writable byte differs from its old value."
  pub others : (a : ℕ) → Writable a → (Named q a → ⊥) → Old start w a
  -- "If it says done, every named byte is as asked."
  pub sure : b.says w.state ≡ Done → (a : ℕ) → Named q a → AsAsked q start w a
  -- "If its three rounds are lossless, no restart falls between the first arrivals of change and acknowledge and the range is writable, then the step that closes the third says done."
  pub third : w.line.closed ≡ true ∷ true ∷ true ∷ [] → w.line.between ≡ false → writable_range q ≡ true → b.says w.state ≡ Done
  -- Beyond the demand, to shut out a master that gives up: while every round closed was lossless it says nothing yet before the third is closed, and then done, restarts or not.
  pub steady : all_lossless w.line.closed ≡ true → b.says w.state ≡ due w.line.closed
  -- Beyond the demand, to shut out a card that applies a change at its echo: before the acknowledge is sent every writable byte is old.
  pub untouched : w.line.frames ≤ change_round → (a : ℕ) → Writable a → Old start w a
  -- Beyond the demand: if it says done, every named byte is a writable one.
  pub within : b.says w.state ≡ Done → (a : ℕ) → Named q a → Writable a
