-- Document 02, M-100: Love's receiver. "Love runs from STX to ETX; a later STX starts anew."
use Rattle.std.specs.Prelude.{ℕ, Bool, true, ◌&&◌, not, List, [], ◌∷◌, ◌++◌, leb, eqb, length}
use Rattle.wire.specs.Choose.{choose}
use Rattle.receiver.specs.Step.{Fate, among, grown}
use Rattle.receiver.specs.Step.Fate.{Kept, Dropped, Finished}
use Rattle.love.specs.Form.{longest, stx, etx}

unfoldable pub step : List ℕ → ℕ → Fate
step part b =
    choose (eqb b stx) (Kept (b ∷ []))
    (choose (eqb (length part) 0) Dropped
    (grown longest part
    (choose (eqb b etx) (Finished (part ++ (b ∷ []))) (Kept (part ++ (b ∷ []))))))

-- the part frames within these rules: STX first and nowhere else, and no ETX
unfoldable pub held : List ℕ → Bool
held [] = true
held (b ∷ bytes) = eqb b stx && (leb (length (b ∷ bytes)) longest && (not (among stx bytes) && not (among etx bytes)))
