-- The premise on the list of calls: "Throughout the list of calls .., before the first step and after the end too, the card accepts no other Datalink change or acknowledge."
use Prim.{Unit}
use Rattle.std.specs.Prelude.{◌≤◌, ◌≡◌, true, List, [], ◌∷◌}
use Rattle.master.specs.Request.{Request}
use Rattle.calls.specs.Calls.{refused, asks_write}
use Rattle.exchange.specs.Calls.{Call}
use Rattle.exchange.specs.Calls.Call.{Step, Arrival, Other}
use Rattle.exchange.specs.Line.{World, Build, called}

-- another call that asks for a Datalink change or acknowledge is refused; nothing is asked of any other
abbrev pub Quiet : {State : Type 0} → Build State → World State → Call → Type 0
Quiet b w (Step choice room) = Unit {0}
Quiet b w (Arrival room) = Unit {0}
Quiet b w (Other e) = asks_write w.card e ≡ true → refused (b.card w.card e).number ≡ true

-- the same throughout the list
unfoldable pub AllQuiet : {State : Type 0} → Build State → Request → World State → List Call → Type 0
AllQuiet b q w [] = Unit {0}
AllQuiet b q w (c ∷ calls) = Quiet b w c × AllQuiet b q (called b q w c) calls

-- "In its round a frame arrives zero, one or two times; any further arrival is another frame": an arrival comes after at most one
abbrev pub AtMostTwice : {State : Type 0} → World State → Call → Type 0
AtMostTwice w (Step choice room) = Unit {0}
AtMostTwice w (Arrival room) = w.line.arrivals ≤ 1
AtMostTwice w (Other e) = Unit {0}

-- the premise word for word
unfoldable pub AsWorded : {State : Type 0} → Build State → Request → World State → List Call → Type 0
AsWorded b q w [] = Unit {0}
AsWorded b q w (c ∷ calls) = (AtMostTwice w c × Quiet b w c) × AsWorded b q (called b q w c) calls
