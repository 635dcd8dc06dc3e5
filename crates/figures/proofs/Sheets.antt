-- A table's rule: one computed test over all entries, carried to each; and the sheet's in the customer's words. Assumes nothing.
use Rattle.std.proofs.Common.{ℕ, ◌+◌, ◌-◌, ◌<◌, ◌≡◌, ◌∙◌, List, arith, T, eqb, eqb→eq, get_or}
use Rattle.wire.specs.Choose.{choose}
use Rattle.wire.specs.Length.{between}
use Rattle.wire.specs.Sum.{byte_values}
use Rattle.wire.proofs.Cases.{by_choice}
use Rattle.wire.proofs.Lengths.{between_facts}
use Rattle.wire.proofs.Sweep.{all, at}
use Rattle.figures.specs.Figure.{figure_of}
use Rattle.figures.specs.Sheet.{Tabled, IsSheet, Exactly}

-- a table whose entries all pass
pub tabled : (rule : ℕ → ℕ) (n : ℕ) (s : List ℕ) → T (all (λ k. eqb (get_or s k 0) (rule k)) n) → Tabled rule n s
tabled rule n s t = record { entry = λ k h. eqb→eq _ _ (at (λ k. eqb (get_or s k 0) (rule k)) n t k h) }

-- the sheet is what the request asks for
pub exactly : (s : List ℕ) → IsSheet s → Exactly s
unfolding figure_of between choose
exactly s is =
    record {
      decimals = λ k h. is.entry (48 + k) (omega arith) ∙ eqb→eq _ _ (at (λ k. eqb (figure_of (48 + k)) k) 10 tt k h);
      uppers = λ k h. is.entry (65 + k) (omega arith) ∙ eqb→eq _ _ (at (λ k. eqb (figure_of (65 + k)) (10 + k)) 6 tt k h);
      lowers = λ k h. is.entry (97 + k) (omega arith) ∙ eqb→eq _ _ (at (λ k. eqb (figure_of (97 + k)) (26 + k)) 6 tt k h);
      others = λ b h d u l. is.entry b h ∙ rw (d, u, l);
    }

-- and nothing else is: what the request asks for is the sheet
pub exactly_back : (s : List ℕ) → Exactly s → IsSheet s
unfolding figure_of
exactly_back s e = record { entry = λ b h. by b h }
  where
    at_place : (b k x : ℕ) → k ≡ b → get_or s k 0 ≡ x → get_or s b 0 ≡ x
    at_place b k x p q = rw p at q

    by : (b : ℕ) → b < byte_values → get_or s b 0 ≡ figure_of b
    by b h =
        by_choice (λ (n : ℕ). get_or s b 0 ≡ n) (between 48 57 b) _ _
        (λ d. at_place b (48 + (b - 48)) (b - 48) (omega (arith, between_facts 48 57 b d)) (e.decimals (b - 48) (omega (arith, between_facts 48 57 b d))))
        (λ d. by_choice (λ (n : ℕ). get_or s b 0 ≡ n) (between 65 70 b) _ _
        (λ u. at_place b (65 + (b - 65)) (10 + (b - 65)) (omega (arith, between_facts 65 70 b u)) (e.uppers (b - 65) (omega (arith, between_facts 65 70 b u))))
        (λ u. by_choice (λ (n : ℕ). get_or s b 0 ≡ n) (between 97 102 b) _ _
        (λ l. at_place b (97 + (b - 97)) (26 + (b - 97)) (omega (arith, between_facts 97 102 b l)) (e.lowers (b - 97) (omega (arith, between_facts 97 102 b l))) ∙ omega arith)
        (λ l. e.others b h d u l)))
