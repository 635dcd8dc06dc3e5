-- What LucidControl's master may ask, and the frame that it makes. Document 02, M-102 and M-103, with document 01, "LucidControl": OPC, P1, P2, LEN, data.
-- "A request names its command, so GetIo and a group of one channel are two requests."
use Rattle.std.specs.Prelude.{ℕ, ◌+◌, Bool, true, ◌&&◌, ◌||◌, List, [], ◌∷◌, ◌++◌, leb, ltb, eqb, length, get_or}
use Rattle.card.specs.Layout.{channels, parameters_at}
use Rattle.card.specs.Fitness.{in_range, demand_most}
use Rattle.lucid.specs.Form.{get_io, get_io_group, set_io, set_io_group, set_param, get_param, mask_most, channels_of, demand, tenths, hundredths}
use Rattle.lucid.specs.Form.{demand_size, default, persistent, address_size, parameter_size, little}
use Rattle.lucid.specs.Frame.{address_known, place_of}
use Rattle.lucid_master.specs.declared.request.Command.{Command}
use Rattle.lucid_master.specs.declared.request.Command.TheVariants.{GetIo, GetIoGroup, SetIo, SetIoGroup, GetParam, SetParam, Reset}
use Rattle.lucid_master.specs.declared.request.Request.{Request}

-- a request with the values that it sends: its command; P1, a channel or a mask; P2, a type or an option; a parameter's address
pub record Asking : Type 0 where
  pub request : Request
  pub values : List ℕ

abbrev pub asking_of : Request → List ℕ → Asking
asking_of request values = record { request = request; values = values }

-- SetParam without option bit 01h is SetParam, with it Reset
unfoldable pub opc_of : Command → ℕ
opc_of GetIo = get_io
opc_of GetIoGroup = get_io_group
opc_of SetIo = set_io
opc_of SetIoGroup = set_io_group
opc_of GetParam = get_param
opc_of SetParam = set_param
opc_of Reset = set_param

-- "channel above 3"; "mask 0 or above 0Fh"
abbrev pub channel_right : ℕ → Bool
channel_right p1 = ltb p1 channels

abbrev pub mask_right : ℕ → Bool
mask_right p1 = leb 1 p1 && leb p1 mask_most

unfoldable pub p1_right : Command → ℕ → Bool
p1_right GetIo p1 = channel_right p1
p1_right GetIoGroup p1 = mask_right p1
p1_right SetIo p1 = channel_right p1
p1_right SetIoGroup p1 = mask_right p1
p1_right GetParam p1 = channel_right p1
p1_right SetParam p1 = channel_right p1
p1_right Reset p1 = channel_right p1

-- "Types: 10h demand, 40h and 41h probe"; a probe is not written; "option other than bits 01h and 80h, or nonzero in GetParam"
abbrev pub type_known : ℕ → Bool
type_known p2 = eqb p2 demand || (eqb p2 tenths || eqb p2 hundredths)

unfoldable pub p2_right : Command → ℕ → Bool
p2_right GetIo p2 = type_known p2
p2_right GetIoGroup p2 = type_known p2
p2_right SetIo p2 = eqb p2 demand
p2_right SetIoGroup p2 = eqb p2 demand
p2_right GetParam p2 = eqb p2 0
p2_right SetParam p2 = eqb p2 0 || eqb p2 persistent
p2_right Reset p2 = eqb p2 default || eqb p2 (default + persistent)

-- a request on a parameter names its address; of any other it is not looked at
unfoldable pub address_right : Command → ℕ → Bool
address_right GetIo address = true
address_right GetIoGroup address = true
address_right SetIo address = true
address_right SetIoGroup address = true
address_right GetParam address = address_known address
address_right SetParam address = address_known address
address_right Reset address = address_known address

-- how many values a request sends: "another number of them than MASK names is 7"
unfoldable pub count_of : Command → ℕ → ℕ
count_of GetIo p1 = 0
count_of GetIoGroup p1 = 0
count_of SetIo p1 = 1
count_of SetIoGroup p1 = length (channels_of p1)
count_of GetParam p1 = 0
count_of SetParam p1 = 1
count_of Reset p1 = 0

-- "fan demands, 0 to 65,535"
unfoldable pub all_demands : List ℕ → Bool
all_demands [] = true
all_demands (value ∷ values) = leb value demand_most && all_demands values

-- the numbers are in their ranges; place is the parameter's
unfoldable pub values_right : Command → ℕ → List ℕ → Bool
values_right GetIo place values = true
values_right GetIoGroup place values = true
values_right SetIo place values = all_demands values
values_right SetIoGroup place values = all_demands values
values_right GetParam place values = true
values_right SetParam place values = in_range (parameters_at + place) (get_or values 0 0)
values_right Reset place values = true

-- every other request is 7
unfoldable pub askable : Asking → Bool
askable q =
    p1_right q.request.command q.request.p1
    && (p2_right q.request.command q.request.p2
    && (address_right q.request.command q.request.address
    && (eqb (length q.values) (count_of q.request.command q.request.p1)
    && values_right q.request.command (place_of q.request.p1 q.request.address) q.values)))

-- the demands one after another, "little-endian"
unfoldable pub demand_bytes : List ℕ → List ℕ
demand_bytes [] = []
demand_bytes (value ∷ values) = little demand_size value ++ demand_bytes values

-- "LEN is 0 for GetIo and GetIoGroup, the type's size for SetIo, that times the channels for SetIoGroup, 2 for GetParam, 6 for SetParam."
-- Document 02, M-103: "option 01h takes LEN 2, the address alone"
unfoldable pub data_of : Command → ℕ → List ℕ → List ℕ
data_of GetIo address values = []
data_of GetIoGroup address values = []
data_of SetIo address values = demand_bytes values
data_of SetIoGroup address values = demand_bytes values
data_of GetParam address values = little address_size address
data_of SetParam address values = little address_size address ++ little parameter_size (get_or values 0 0)
data_of Reset address values = little address_size address

-- the frame of a request: OPC, P1, P2, LEN, data
unfoldable pub made : Asking → List ℕ
made q =
    let bytes = data_of q.request.command q.request.address q.values in
    opc_of q.request.command ∷ q.request.p1 ∷ q.request.p2 ∷ length bytes ∷ bytes
