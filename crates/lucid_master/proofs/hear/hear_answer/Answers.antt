-- `lucid_master::hear::hear_answer` meets its contract, command by command. Assumes nothing.
use Rattle.std.proofs.Common.{inl, inr, arith}
use Rattle.lucid.proofs.Frames.{place_within}
use Rattle.lucid_master.specs.Heard.{heard_command}
use Rattle.lucid_master.specs.Stages.{value_count}
use Rattle.lucid_master.proofs.hear.hear_answer.Goals as goal

pub hear_parameter-requires : goal.hear_parameter-requires
hear_parameter-requires c = let q = c.args.request in
    omega (arith, c.place_of.ensures, place_within q.p1 q.address (c.requires.channel c.in-GetParam.is))

pub returns-in-GetIo : goal.returns-in-GetIo
unfolding heard_command value_count
returns-in-GetIo c =
    let said = rw c.value_count.ensures.0 at c.hear_values.ensures in
    elim c.in-GetIo.is [
      | inl one ↦ rw one (rw one at said)
      | inr group ↦ rw group (rw group at said)
    ]

pub returns-in-GetParam : goal.returns-in-GetParam
unfolding heard_command
returns-in-GetParam c = rw (c.in-GetParam.is, ← c.place_of.ensures) c.hear_parameter.ensures

pub returns-in-SetIo : goal.returns-in-SetIo
unfolding heard_command
returns-in-SetIo c = elim c.in-SetIo.is [
  | inl set ↦ rw set c.hear_done.ensures
  | inr (inl group) ↦ rw group c.hear_done.ensures
  | inr (inr (inl param)) ↦ rw param c.hear_done.ensures
  | inr (inr (inr reset)) ↦ rw reset c.hear_done.ensures
]
