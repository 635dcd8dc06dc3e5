-- What the entry receive tells, refused or done. Assumes nothing.
use Rattle.std.proofs.Common.{◌≡◌, sym, ap, ap₂, ◌∙◌, refl, subst, List, ℕ}
use Rattle.wire.proofs.Buffers.{overlay_none}
use Rattle.card.specs.Layout.{Card, with_ports}
use Rattle.card.specs.Row.{count_at, with_count}
use Rattle.card.specs.Reply.{done_with}
use Rattle.receive.specs.Parts.{part_at}
use Rattle.receive.specs.Receive.{Receipt, untaken, collected, collected_row, Took}
use Rattle.receive.specs.Stages.{TookAll}
use Rattle.receive.specs.declared.Dialect.{Dialect}
use Rattle.receive.specs.declared.Gathered.{Gathered}
use Rattle.receive.specs.declared.Received.{Received}

-- a refusal, known under another name
pub took_refused : (receipt : Receipt) (number : ℕ) (card : Card) (out : List ℕ) (r : Received) → untaken number card ≡ receipt → ((r.number ≡ number) × (r.taken ≡ 0)) × (r.len ≡ 0)
    → Took receipt out r card out
took_refused receipt number card out r e t =
    subst (λ (x : Receipt). Took x out r card out) e
    (record { counted = t.0.1; gave = record { numbered = t.0.0; measured = t.1; written = sym (overlay_none out); left = refl } })

-- the bytes were taken
pub took_collected : (receipt : Receipt) (d : Dialect) (card : Card) (bytes frame row' frame' row'' : List ℕ) (n number : ℕ) (g : Gathered) {at : ℕ} → collected d card bytes ≡ receipt
    → at ≡ part_at d → n ≡ count_at at card.ports → TookAll d n card.ports bytes frame g row' frame' → row'' ≡ with_count at g.count row' → number ≡ done_with g.len
    → Took receipt frame (record { number = number; taken = g.taken; len = g.len }) (with_ports card row'') frame'
unfolding collected collected_row
took_collected receipt d card bytes frame row' frame' row'' n number g q a e t w k =
    let u = subst (λ (i : ℕ). TookAll d i card.ports bytes frame g row' frame') (e ∙ ap (λ (i : ℕ). count_at i card.ports) a) t in
    subst (λ (x : Receipt). Took x frame (record { number = number; taken = g.taken; len = g.len }) (with_ports card row'') frame') q
    (record {
      counted = u.taken;
      gave = record {
        numbered = k ∙ ap done_with u.wrote.measured;
        measured = u.wrote.measured;
        written = u.wrote.written;
        left = ap (with_ports card) (w ∙ ap (λ (i : ℕ). with_count i g.count row') a ∙ ap₂ (with_count (part_at d)) u.counted u.stands);
      };
    })
