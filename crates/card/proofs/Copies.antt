-- Two copies of the saved registers, made word by word. Assumes nothing.
use Rattle.std.proofs.Common.{◌≡◌, ℕ, suc, ◌+◌, ◌<◌, ◌≤◌, List, ◌++◌, length, get_or, take, drop, set, sym, ap, ◌∙◌, inr, arith, length-append, length-take-le, drop-set-lt}
use Rattle.std.proofs.Math.Seq.{paste, paste-suc, take-set-lt}
use Rattle.std.proofs.lemmas.List.Edits.{length-paste}
use Rattle.std.proofs.lemmas.List.{set-append_left}
use Rattle.wire.specs.Buffer.{put, part}
use Rattle.wire.proofs.Buffers.{length_part, get_d_part, length_put, drop_put, part_back}
use Rattle.wire.proofs.Moves.{kept, done}
use Rattle.card.specs.Layout.{word_count, registers, buffer_at, operational_at, saved_registers_at}
use Rattle.card.specs.Entries.{registers_to, restored_registers}

-- an element before the part that was replaced
set_before : (d s : List ℕ) (at i j x : ℕ) → at ≤ length d → j < at → set (paste d at s i) j x ≡ paste (set d j x) at s i
set_before d s at i j x l h =
    let n : length (take at d) ≡ at = length-take-le at d l in
    set-append_left (take at d ++ take i s) (drop (at + i) d) j x (rw length-append (omega (arith, n)))
    ∙ ap (λ (p : List ℕ). p ++ drop (at + i) d) (set-append_left (take at d) (take i s) j x (omega (arith, n)) ∙ ap (λ (p : List ℕ). p ++ take i s) (sym (take-set-lt at d j x h)))
    ∙ ap (λ (p : List ℕ). take at (set d j x) ++ take i s ++ p) (sym (drop-set-lt (at + i) d j x (omega arith)))

-- the saved registers
abbrev pub saved : List ℕ → List ℕ
saved ws = part ws saved_registers_at word_count

-- the words with the first i registers of both copies replaced
abbrev pub copied : List ℕ → ℕ → List ℕ
copied ws i = paste (paste ws buffer_at (saved ws) i) operational_at (saved ws) i

module _ (ws : List ℕ) (l : length ws ≡ word_count) where
  long : length (saved ws) ≡ registers
  long = length_part ws saved_registers_at word_count (omega arith) (omega arith)

  one : (i : ℕ) → i ≤ registers → length (paste ws buffer_at (saved ws) i) ≡ word_count
  one i h = length-paste ws buffer_at (saved ws) i (omega arith) (omega (arith, long)) ∙ l

  -- the next of the saved registers is as it was
  next : (i : ℕ) → i < registers → get_or (copied ws i) (saved_registers_at + i) 0 ≡ get_or (saved ws) i 0
  next i h =
      kept (paste ws buffer_at (saved ws) i) (saved ws) operational_at i (saved_registers_at + i) (omega (arith, one i (omega arith))) (omega (arith, long)) (inr (omega arith))
      ∙ kept ws (saved ws) buffer_at i (saved_registers_at + i) (omega arith) (omega (arith, long)) (inr (omega arith))
      ∙ sym (get_d_part ws saved_registers_at word_count i (omega arith))

  -- a turn
  pub copied_next : (i x : ℕ) → i < registers → x ≡ get_or (copied ws i) (saved_registers_at + i) 0 → set (set (copied ws i) (buffer_at + i) x) (operational_at + i) x ≡ copied ws (suc i)
  copied_next i x h e =
      let first = paste ws buffer_at (saved ws) i in
      let y = get_or (saved ws) i 0 in
      ap (λ (z : ℕ). set (set (copied ws i) (buffer_at + i) z) (operational_at + i) z) (e ∙ next i h)
      ∙ ap (λ (p : List ℕ). set p (operational_at + i) y) (set_before first (saved ws) operational_at i (buffer_at + i) y (omega (arith, one i (omega arith))) (omega arith) ∙ ap (λ (p : List ℕ). paste p operational_at (saved ws) i) (paste-suc ws buffer_at (saved ws) i 0 (omega arith) (omega (arith, long))))
      ∙ paste-suc (paste ws buffer_at (saved ws) (suc i)) operational_at (saved ws) i 0 (omega (arith, one (suc i) h)) (omega (arith, long))

  -- all of them
  pub copied_all : copied ws registers ≡ restored_registers ws
  unfolding restored_registers registers_to
  copied_all =
      let buffer = put ws buffer_at (saved ws) in
      let same : part buffer saved_registers_at word_count ≡ saved ws = part_back buffer ws operational_at (drop_put ws buffer_at (saved ws) (omega (arith, long)) operational_at (omega (arith, long))) saved_registers_at word_count (omega arith) in
      let room : saved_registers_at + registers ≤ length buffer = omega (arith, length_put ws buffer_at (saved ws) (omega (arith, long))) in
      ap (λ (p : List ℕ). paste p operational_at (saved ws) registers) (done ws saved_registers_at buffer_at registers (omega arith))
      ∙ ap (λ (p : List ℕ). paste buffer operational_at p registers) (sym same)
      ∙ done buffer saved_registers_at operational_at registers room
