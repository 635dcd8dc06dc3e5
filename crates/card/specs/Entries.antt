-- The entries that set a probe code and restart. Document 01, "What the card holds", last part.
use Rattle.std.specs.Prelude.{ℕ, List, replicate, nat_lt, slice_set}
use Rattle.wire.specs.Choose.{choose}
use Rattle.wire.specs.Buffer.{put, part}
use Rattle.card.specs.Numbers.{done, range_unknown}
use Rattle.card.specs.Layout.{Card, card_of, with_memory, channels, demands_at, parameters_at, saved_parameters_at, buffer_at, operational_at, saved_registers_at, word_count, kind_at}
use Rattle.card.specs.Row.{no_parts}
use Rattle.card.specs.Change.{no_change}
use Rattle.card.specs.Fitness.{demand_most}
use Rattle.card.specs.Probe.{fault_code}
use Rattle.card.specs.Reply.{Reply, silent, guarded}

-- the card with another code for a probe
unfoldable pub with_code : Card → ℕ → ℕ → Card
with_code card channel code = with_memory card (slice_set card.memory channel code)

-- "set a probe code (channel above 3: 6)"
unfoldable pub set_code : Card → ℕ → ℕ → Reply
set_code card channel code = guarded card (choose (nat_lt channel channels) (silent done (with_code card channel code)) (silent range_unknown card))

-- Restart: a copy of the registers becomes the saved one
unfoldable pub registers_to : ℕ → List ℕ → List ℕ
registers_to at ws = put ws at (part ws saved_registers_at word_count)

-- "buffer and operational become saved"
unfoldable pub restored_registers : List ℕ → List ℕ
restored_registers ws = registers_to operational_at (registers_to buffer_at ws)

-- "parameters become their saved copy"
unfoldable pub restored_parameters : List ℕ → List ℕ
restored_parameters ws = put ws parameters_at (part ws saved_parameters_at buffer_at)

-- "demands become 65,535"
unfoldable pub full_demands : List ℕ → List ℕ
full_demands ws = put ws demands_at (replicate channels demand_most)

-- "probe codes become 255"
unfoldable pub faulted : List ℕ → List ℕ
faulted memory = put memory 0 (replicate channels fault_code)

-- "the pending change is dropped"
unfoldable pub dropped : List ℕ → List ℕ
dropped p = slice_set p kind_at no_change

-- "the rest stays"; document 02, M-100: "a restart drops a part frame"
unfoldable pub restarted : Card → Card
restarted card =
    card_of (full_demands (restored_parameters (restored_registers card.words))) (faulted card.memory) (dropped (no_parts card.ports))

-- "setting a code, restart .. give 1"
unfoldable pub restart : Card → Reply
restart card = guarded card (silent done (restarted card))
