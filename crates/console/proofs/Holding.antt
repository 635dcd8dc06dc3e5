-- A law of specs/Holding.antt: an answer that is held after others. Assumes nothing.
use Rattle.std.proofs.Common.{◌≡◌, ℕ, ◌+◌, ◌≤◌, List, [], ◌∷◌, ◌++◌, length, take, drop, sym, ap, ◌∙◌, append_assoc, length-append, length-take-le, take_at}
use Rattle.wire.specs.Buffer.{put}
use Rattle.lines.specs.Text.{Put}
use Rattle.console.specs.Holding.{line_feed, Followed}

-- a buffer's front up to the end of a text that was put into it
take_put_end : (d : List ℕ) (at : ℕ) (s : List ℕ) → at ≤ length d → take (at + length s) (put d at s) ≡ take at d ++ s
unfolding put
take_put_end d at s h =
    let n = at + length s in
    let p = take at d ++ s in
    let l : length p ≡ n = length-append (take at d) s ∙ ap (λ (k : ℕ). k + length s) (length-take-le at d h) in
    ap (take n) (sym (append_assoc (take at d) s (drop n d))) ∙ take_at p (drop n d) n l

-- a line and its line feed, put after what is held
pub followed : {m n r : ℕ} {line held held' : List ℕ} → n ≤ length held → Put m n (line ++ (line_feed ∷ [])) held r held' → Followed n line held r held'
followed {n = n} {line = line} {held = held} h p =
    record { inside = h; measured = p.measured; written = rw (p.measured, p.written) (take_put_end held n (line ++ (line_feed ∷ [])) h) }
