-- The frames that are made, command by command, and how long they are. Assumes nothing.
use Rattle.std.proofs.Common.{ℕ, ◌*◌, ◌≤◌, ◌≡◌, true, inl, inr, ◌⊎◌, List, [], ◌∷◌, arith, length, get_or}
use Rattle.card.specs.Layout.{channels}
use Rattle.lucid.specs.Form.{demand_size, address_size, little}
use Rattle.lucid_master.specs.Request.{asking_of, askable, opc_of, demand_bytes, data_of, made}
use Rattle.lucid_master.specs.Stages.{made_most}
use Rattle.lucid_master.specs.declared.request.Command.{Command}
use Rattle.lucid_master.specs.declared.request.Command.TheVariants.{GetIo, GetIoGroup, SetIo, SetIoGroup, GetParam, SetParam, Reset}
use Rattle.lucid_master.specs.declared.request.Request.{Request}
use Rattle.lucid_master.proofs.Requests.{few}
use Rattle.lucid_master.proofs.Demands.{length_demands}

module _ (q : Request) (values : List ℕ) where
  -- a frame with these data
  abbrev pub framed : List ℕ → List ℕ
  framed bytes = opc_of q.command ∷ q.p1 ∷ q.p2 ∷ length bytes ∷ bytes

  pub made_bare : (q.command ≡ GetIo) ⊎ (q.command ≡ GetIoGroup) → made (asking_of q values) ≡ framed []
  unfolding made data_of
  made_bare (inl e) = rw e
  made_bare (inr e) = rw e

  pub made_set : (q.command ≡ SetIo) ⊎ (q.command ≡ SetIoGroup) → made (asking_of q values) ≡ framed (demand_bytes values)
  unfolding made data_of
  made_set (inl e) = rw e
  made_set (inr e) = rw e

  pub made_addressed : (q.command ≡ GetParam) ⊎ (q.command ≡ Reset) → made (asking_of q values) ≡ framed (little address_size q.address)
  unfolding made data_of
  made_addressed (inl e) = rw e
  made_addressed (inr e) = rw e

  pub made_set_param : q.command ≡ SetParam → made (asking_of q values) ≡ framed (data_of SetParam q.address (get_or values 0 0 ∷ []))
  unfolding made data_of
  made_set_param e = rw e

-- data have eight bytes at most
data_length : (command : Command) (address : ℕ) (values : List ℕ) → length values ≤ channels → length (data_of command address values) ≤ demand_size * channels
unfolding data_of little
data_length GetIo address values h = omega arith
data_length GetIoGroup address values h = omega arith
data_length SetIo address values h = omega (arith, length_demands values)
data_length SetIoGroup address values h = omega (arith, length_demands values)
data_length GetParam address values h = omega arith
data_length SetParam address values h = omega arith
data_length Reset address values h = omega arith

-- a made frame fits its array
pub made_length : (q : Request) (values : List ℕ) → askable (asking_of q values) ≡ true → length (made (asking_of q values)) ≤ made_most
unfolding made
made_length q values h = omega (arith, data_length q.command q.address values (few q values h))
