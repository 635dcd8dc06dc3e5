-- A card that is ready stays ready: no line leads a receiver out of the rules. Assumes nothing.
use Rattle.std.proofs.Common.{◌≡◌, refl, subst, true, List, ℕ, leb}
use Rattle.wire.proofs.Cases.{yes, by_choice}
use Rattle.wire.proofs.Tests.{both}
use Rattle.card.specs.Layout.{Card}
use Rattle.card.specs.Row.{with_count}
use Rattle.card.specs.Fitness.{fit}
use Rattle.card.specs.Entries.{restarted, restart}
use Rattle.card.specs.Reply.{Reply, guarded}
use Rattle.card.proofs.Facts.{fit_facts}
use Rattle.card.proofs.Fits.{restart_stays_fit}
use Rattle.lucid.proofs.Fits.{Bytes}
use Rattle.receive.specs.Parts.{longest_of, part_at, within, all_within}
use Rattle.receive.specs.Receive.{Receipt, collected_row, collected, ready, receive_reply, quiet_reply}
use Rattle.receive.specs.declared.Dialect.{Dialect}
use Rattle.receive.specs.declared.Dialect.TheVariants.{Datalink, Lecom, Love, Lucid}
use Rattle.receive.proofs.Parts.{ready_facts, ready_within}
use Rattle.receive.proofs.Rows.{collected_within, dropped_within, restarted_within}
use Rattle.receive.proofs.Fits.{receive_stays_fit, quiet_stays_fit}

all_by : (row : List ℕ) → ((e : Dialect) → within e row ≡ true) → all_within row ≡ true
unfolding all_within
all_by row w = both (w Datalink) (both (w Lecom) (both (w Love) (w Lucid)))

pub ready_by : (card : Card) → fit card ≡ true → ((e : Dialect) → within e card.ports ≡ true) → ready card ≡ true
unfolding ready
ready_by card e w = both e (all_by card.ports w)

-- what holds of the row, done or refused
pub receive_row : (P : List ℕ → Type 0) (card : Card) (d : Dialect) (room : ℕ) (bytes : List ℕ) → P card.ports → P (collected_row d bytes card.ports) → P (receive_reply d card room bytes).reply.card.ports
unfolding receive_reply collected
receive_row P card d room bytes p q =
    by_choice (λ (r : Receipt). P r.reply.card.ports) (ready card) _ _ (λ _. by_choice (λ (r : Receipt). P r.reply.card.ports) (leb (longest_of d) room) _ _ (λ _. q) (λ _. p)) (λ _. p)

pub quiet_row : (P : List ℕ → Type 0) (card : Card) (d : Dialect) → P card.ports → P (with_count (part_at d) 0 card.ports) → P (quiet_reply d card).card.ports
unfolding quiet_reply
quiet_row P card d p q = by_choice (λ (r : Reply). P r.card.ports) (ready card) _ _ (λ _. q) (λ _. p)

pub receive_stays_ready : (card : Card) (d : Dialect) (room : ℕ) (bytes : List ℕ) → Bytes card.ports → Bytes bytes → ready card ≡ true → ready (receive_reply d card room bytes).reply.card ≡ true
receive_stays_ready card d room bytes t u e =
    ready_by _ (receive_stays_fit card d room bytes (ready_within card e).0) (λ x. leaves x)
  where
    leaves : (x : Dialect) → within x (receive_reply d card room bytes).reply.card.ports ≡ true
    leaves x =
        let f = ready_facts card e in
        let w = (ready_within card e).1 x in
        receive_row (λ (row : List ℕ). within x row ≡ true) card d room bytes w (collected_within d x bytes card.ports f.0.ports_length (f.1 d) t u w)

pub quiet_stays_ready : (card : Card) (d : Dialect) → ready card ≡ true → ready (quiet_reply d card).card ≡ true
quiet_stays_ready card d e =
    let f = ready_facts card e in
    ready_by _ (quiet_stays_fit card d (ready_within card e).0) (λ x. quiet_row (λ (row : List ℕ). within x row ≡ true) card d ((ready_within card e).1 x) (dropped_within d x card.ports f.0.ports_length ((ready_within card e).1 x)))

-- a restart of a fit card leaves it ready, whatever its part frames were
pub restart_ready : (card : Card) → fit card ≡ true → ready (restart card).card ≡ true
unfolding restart guarded restarted
restart_ready card e =
    ready_by _ (restart_stays_fit card e)
    (λ x. subst (λ (r : Reply). within x r.card.ports ≡ true) (yes _ _ _ _ e refl) (restarted_within x card.ports (fit_facts card e).ports_length))
