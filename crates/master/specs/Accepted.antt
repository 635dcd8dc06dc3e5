-- What is known of a request that 7 does not refuse, as plain facts for the functions that work on one.
use Rattle.std.specs.Prelude.{◌≡◌, true, ◌+◌, ◌≤◌}
use Rattle.card.specs.Fitness.{ia_most}
use Rattle.master.specs.Request.{Request, named_by, named_most, paired, address_most, address_end}

pub record Accepted (q : Request) : Type 0 where
  pub ia : q.ia ≤ ia_most
  pub few : named_by q.ask ≤ named_most q.ask
  pub pairs : paired q.ask ≡ true
  pub address : q.address ≤ address_most
  pub end : q.address + named_by q.ask ≤ address_end
