-- Laws of specs/Entries.antt: the largest value of each kind of entry, and where an entry of two bytes stands. Assumes nothing.
use Rattle.std.proofs.Common.{◌≡◌, ℕ, zero, suc, ◌-◌, ◌<◌, ◌≤◌, Bool, true, false, sym, refl, ap, ◌∙◌, arith}
use Rattle.wire.proofs.Cases.{yes, no, cases}
use Rattle.card.specs.Layout.{word_count}
use Rattle.tables.specs.Entries.{row_from, index_of, is_second, row_most, most_of}

pub most_word : (entry : ℕ) → entry < word_count → most_of entry ≡ 4294967295
unfolding most_of
most_word entry h = sym (search cases)

pub most_byte : (entry : ℕ) → word_count ≤ entry → entry < row_from → most_of entry ≡ 255
unfolding most_of
most_byte entry h k = sym (search cases)

pub most_row : (entry : ℕ) → word_count ≤ entry → row_from ≤ entry → most_of entry ≡ row_most (entry - row_from)
unfolding most_of
most_row entry h k = sym (search cases)

-- a byte stands before the second of two
pub second_behind : (i : ℕ) → is_second i ≡ true → 0 < i
unfolding is_second
second_behind zero e = let z : false ≡ true = e in let y : ◌≡◌ {A = ℕ} 0 1 = cc in absurd (omega arith)
second_behind (suc i) e = omega arith

-- the largest value of an entry of the row, by the test where it stands
pub row_two : {r : Bool} {i : ℕ} (place : ℕ) → i ≡ index_of place → r ≡ is_second i → r ≡ true → row_most place ≡ 65535
unfolding row_most
row_two place e d t = sym (yes _ _ _ _ (sym (ap is_second e) ∙ sym d ∙ t) refl)

pub row_byte : {r : Bool} {i : ℕ} (place : ℕ) → i ≡ index_of place → r ≡ is_second i → r ≡ false → row_most place ≡ 255
unfolding row_most
row_byte place e d t = sym (no _ _ _ _ (sym (ap is_second e) ∙ sym d ∙ t) refl)
