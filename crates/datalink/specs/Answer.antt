-- What the card does with a Datalink order. Document 01, "Datalink", first half. All refusals are silent.
use Rattle.std.specs.Prelude.{ℕ, zero, suc, ◌+◌, ◌-◌, ◌*◌, List, ◌∷◌, ◌++◌, drop, Result, Ok, Err, ◌==◌, bit_and, bit_or, slice_index, slice_set}
use Rattle.wire.specs.Choose.{choose}
use Rattle.wire.specs.Buffer.{part, overlay}
use Rattle.card.specs.Numbers.{answered, done, nothing_pending}
use Rattle.card.specs.Layout.{Card, card_of, with_ports, ia_at, kind_at, num_at, low_address_at, high_address_at, data_at}
use Rattle.card.specs.Change.{no_change, change_bits, named, two_bytes, memory_start}
use Rattle.card.specs.Entries.{dropped}
use Rattle.card.specs.Reply.{Reply, silent, sent, shell, room_least}
use Rattle.datalink.specs.Form.{framed, response_bits, frame_num_at, frame_data_at}
use Rattle.datalink.specs.Frame.{asked}
use Rattle.datalink.specs.declared.frame.Order.{Order}
use Rattle.datalink.specs.declared.frame.Order.TheVariants.{Interrogate, Change, Acknowledge}
use Rattle.datalink.specs.declared.frame.Silent.{Silent}

-- "Response 20h": a frame whose body is NUM, address and data
unfoldable pub response : ℕ → List ℕ → List ℕ
response ia body = framed (response_bits + ia) body

-- the card's I.A.
unfoldable pub ia_of : Card → ℕ
ia_of card = slice_index card.words ia_at

-- the n bytes of memory from an address on
unfoldable pub shown : Card → ℕ → ℕ → List ℕ
shown card at n = part card.memory (at - memory_start) (at - memory_start + n)

-- Interrogate: NUM and address as received, and the bytes named. It leaves the pending change
unfoldable pub interrogated : Card → List ℕ → ℕ → ℕ → Reply
interrogated card f at n = sent answered (response (ia_of card) (part f frame_num_at frame_data_at ++ shown card at n)) card

-- the body of a change of NUM data bytes: NUM, address and data as received
unfoldable pub body_of : List ℕ → ℕ → List ℕ
body_of f num = part f frame_num_at (frame_data_at + num)

-- "An echoed change becomes the pending one, in place of an older."
unfoldable pub pended : Card → ℕ → List ℕ → Card
pended card kind body = with_ports card (overlay (kind ∷ body) card.ports)

-- Change and Change Bits: the echo
unfoldable pub echoed : Card → List ℕ → ℕ → ℕ → Reply
echoed card f kind num = sent answered (response (ia_of card) (body_of f num)) (pended card kind (body_of f num))

-- byte i of a change: the byte sent, or "(old AND mask) OR state"
unfoldable pub new_byte : ℕ → ℕ → List ℕ → ℕ → ℕ
new_byte kind old sent i = choose (kind == change_bits) (bit_or (bit_and old (slice_index sent (2 * i))) (slice_index sent (2 * i + 1))) (slice_index sent i)

-- the memory with the first k bytes of a change applied from index a on, each by the byte as it then stands
unfoldable pub changed : ℕ → ℕ → List ℕ → ℕ → List ℕ → List ℕ
changed kind a sent zero memory = memory
changed kind a sent (suc k) memory =
    slice_set (changed kind a sent k memory) (a + k) (new_byte kind (slice_index (changed kind a sent k memory) (a + k)) sent k)

-- the memory with a pending change applied
unfoldable pub applied_to : List ℕ → List ℕ → List ℕ
applied_to memory p =
    changed (slice_index p kind_at) (two_bytes (slice_index p low_address_at) (slice_index p high_address_at) - memory_start) (drop data_at p) (named (slice_index p kind_at) (slice_index p num_at)) memory

-- "Acknowledge applies and clears it (1), or is 10."
unfoldable pub applied : Card → Card
applied card = card_of card.words (applied_to card.memory card.ports) (dropped card.ports)

unfoldable pub acknowledged : Card → Reply
acknowledged card = choose (slice_index card.ports kind_at == no_change) (silent nothing_pending card) (silent done (applied card))

-- what the card does with each order
unfoldable pub obeyed : Card → List ℕ → Result Order Silent → Reply
obeyed card f (Err refusal) = silent refusal.0 card
obeyed card f (Ok (Interrogate at n)) = interrogated card f at n
obeyed card f (Ok (Change kind num)) = echoed card f kind num
obeyed card f (Ok Acknowledge) = acknowledged card

-- the Datalink entry: 12, 11, then the order
unfoldable pub datalink_reply : Card → ℕ → List ℕ → Reply
datalink_reply card room f = shell room_least card room (obeyed card f (asked (ia_of card) f))
