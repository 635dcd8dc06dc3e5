-- Document 02, M-100: LECOM's receiver. "LECOM starts anew at EOT and ends at ENQ where no STX has come, else with the byte after ETX, which is
-- the BCC even if it is 04h."
use Rattle.std.specs.Prelude.{ℕ, ◌-◌, Bool, true, ◌&&◌, not, List, [], ◌∷◌, ◌++◌, leb, eqb, length, get_or}
use Rattle.wire.specs.Choose.{choose}
use Rattle.receiver.specs.Step.{Fate, among, grown}
use Rattle.receiver.specs.Step.Fate.{Kept, Dropped, Finished}
use Rattle.lecom.specs.Form.{longest, stx, etx, eot, enq}

-- STX has come, and ETX last: the next byte is the BCC
unfoldable pub bcc_next : List ℕ → Bool
bcc_next part = among stx part && eqb (get_or part (length part - 1) 0) etx

unfoldable pub step : List ℕ → ℕ → Fate
step part b =
    choose (bcc_next part) (grown longest part (Finished (part ++ (b ∷ []))))
    (choose (eqb b eot) (Kept (b ∷ []))
    (choose (eqb (length part) 0) Dropped
    (grown longest part
    (choose (eqb b enq && not (among stx part)) (Finished (part ++ (b ∷ [])))
    (Kept (part ++ (b ∷ [])))))))

-- the part frames within these rules: EOT first and nowhere else; before STX no ENQ; behind STX an ETX only as the last byte
unfoldable pub held_behind_stx : List ℕ → Bool
held_behind_stx [] = true
held_behind_stx (b ∷ bytes) = choose (eqb b etx) (eqb (length bytes) 0) (not (eqb b eot) && held_behind_stx bytes)

unfoldable pub held_behind_eot : List ℕ → Bool
held_behind_eot [] = true
held_behind_eot (b ∷ bytes) = choose (eqb b stx) (held_behind_stx bytes) (not (eqb b eot) && (not (eqb b enq) && held_behind_eot bytes))

unfoldable pub held : List ℕ → Bool
held [] = true
held (b ∷ bytes) = eqb b eot && (leb (length (b ∷ bytes)) longest && held_behind_eot bytes)
