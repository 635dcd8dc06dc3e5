-- What a count of a part frame leaves of the row: its length, and the pending change before it. Assumes nothing.
use Rattle.std.proofs.Common.{◌≡◌, ℕ, ◌+◌, ◌<◌, ◌≤◌, List, length, get_or, take, set, sym, ap, ◌∙◌, arith, length-set, get_or-take}
use Rattle.std.proofs.lemmas.List.{take-set-le}
use Rattle.card.specs.Layout.{pending_size, kind_at, num_at, low_address_at, high_address_at}
use Rattle.card.specs.Change.{fit_pending}
use Rattle.card.specs.Row.{with_count, no_parts}

pub length_with_count : (at n : ℕ) (row : List ℕ) → length (with_count at n row) ≡ length row
unfolding with_count
length_with_count at n row = length-set (set row at _) (at + 1) _ ∙ length-set row at _

pub front_count : (k at n : ℕ) (row : List ℕ) → k ≤ at → take k (with_count at n row) ≡ take k row
unfolding with_count
front_count k at n row h = take-set-le k (set row at _) (at + 1) _ (omega arith) ∙ take-set-le k row at _ h

pub length_no_parts : (row : List ℕ) → length (no_parts row) ≡ length row
unfolding no_parts
length_no_parts row = length_with_count _ _ _ ∙ length_with_count _ _ _ ∙ length_with_count _ _ _ ∙ length_with_count _ _ _

-- fitness looks at the pending change alone
pub same_pending_fit : (row row' : List ℕ) → take pending_size row' ≡ take pending_size row → fit_pending row' ≡ fit_pending row
unfolding fit_pending
same_pending_fit row row' e = rw (same kind_at (omega arith), same num_at (omega arith), same low_address_at (omega arith), same high_address_at (omega arith))
  where
    same : (i : ℕ) → i < pending_size → get_or row' i 0 ≡ get_or row i 0
    same i h = sym (get_or-take pending_size row' i 0 h) ∙ ap (λ (l : List ℕ). get_or l i 0) e ∙ get_or-take pending_size row i 0 h
