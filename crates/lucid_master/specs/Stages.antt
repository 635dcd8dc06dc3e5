-- Parts of the written meanings, for the functions that make and hear; and what is known of a request that 7 does not refuse.
use Rattle.std.specs.Prelude.{ℕ, ◌+◌, ◌*◌, ◌<◌, ◌≡◌, List, [], ◌∷◌, length, get_or}
use Rattle.wire.specs.Choose.{choose}
use Rattle.wire.specs.Buffer.{same}
use Rattle.wire.specs.Sum.{byte_values}
use Rattle.card.specs.Layout.{channels}
use Rattle.lucid.specs.Form.{data_at, channels_of, demand_size, ok}
use Rattle.lucid_master.specs.declared.request.Command.{Command}
use Rattle.lucid_master.specs.declared.request.Command.TheVariants.{GetIo, GetIoGroup, SetIo, SetIoGroup, GetParam, SetParam, Reset}
use Rattle.lucid_master.specs.declared.request.Request.{Request}

-- the longest frame that is made: four demands
abbrev pub made_most : ℕ
made_most = data_at + demand_size * channels

-- P1 and P2 are bytes, and of a GetParam P1 is a channel
pub record Headed (q : Request) : Type 0 where
  pub p1 : q.p1 < byte_values
  pub p2 : q.p2 < byte_values
  pub channel : q.command ≡ GetParam → q.p1 < channels

-- the status of a reply that is a status and LEN 0; OK of any other
unfoldable pub bare_status : List ℕ → ℕ
bare_status r = choose (same r (get_or r 0 0 ∷ 0 ∷ [])) (get_or r 0 0) ok

-- how many values a request to read asks for; one for any other
unfoldable pub value_count : Command → ℕ → ℕ
value_count GetIo p1 = 1
value_count GetIoGroup p1 = length (channels_of p1)
value_count SetIo p1 = 1
value_count SetIoGroup p1 = 1
value_count GetParam p1 = 1
value_count SetParam p1 = 1
value_count Reset p1 = 1
