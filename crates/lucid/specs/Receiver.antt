-- Document 02, M-100: LucidControl's receiver. "LucidControl counts from LEN": OPC, P1, P2, LEN, and as many bytes as LEN says.
use Rattle.std.specs.Prelude.{ℕ, ◌+◌, Bool, ◌&&◌, not, List, [], ◌∷◌, ◌++◌, leb, length}
use Rattle.wire.specs.Choose.{choose}
use Rattle.receiver.specs.Step.{Fate}
use Rattle.receiver.specs.Step.Fate.{Kept, Finished}
use Rattle.lucid.specs.Form.{data_at}
use Rattle.lucid.specs.Frame.{len_in}

-- as many bytes have come as LEN says
unfoldable pub complete : List ℕ → Bool
complete f = leb data_at (length f) && leb (data_at + len_in f) (length f)

unfoldable pub step : List ℕ → ℕ → Fate
step part b = choose (complete (part ++ (b ∷ []))) (Finished (part ++ (b ∷ []))) (Kept (part ++ (b ∷ [])))

-- the part frames within these rules
unfoldable pub held : List ℕ → Bool
held part = not (complete part)
