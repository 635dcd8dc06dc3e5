-- `love_master::request::Request::unit` meets its contract: what 7 does not refuse has the address of a unit. Assumes nothing.
use Rattle.std.proofs.Common.{leb-true}
use Rattle.card.specs.Fitness.{love_address_most}
use Rattle.love_master.proofs.Errors.{askable_address}
use Rattle.love_master.proofs.request.Request.unit.Goals as goal

pub invariant_of-result : goal.invariant_of-result
invariant_of-result c = record { right = leb-true _ love_address_most (askable_address _ c.requires) }
