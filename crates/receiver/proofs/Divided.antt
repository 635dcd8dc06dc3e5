-- "However one byte sequence with its quiet marks is divided over calls, frames and final receiver state are equal." Assumes nothing.
use Rattle.std.proofs.Common.{◌≡◌, refl, sym, ap, ap₂, ◌∙◌, List, [], ◌∷◌, ◌++◌, append_assoc, ℕ, arith, length, take}
use Rattle.receiver.specs.Step.{Step, at_rest}
use Rattle.receiver.specs.Line.{collect, Mark, heard, Call, run, as_bytes, took, lend_rest}
use Rattle.receiver.specs.Line.Mark.{Quiet}
use Rattle.receiver.specs.Line.Call.{Lent, Silence, Refused}
use Rattle.receiver.proofs.Calls.{run_heard, rest_taken}

-- a division: bytes that are lent, and lent again until all are taken; and quiet marks
pub data Portion : Type 0 where
  Chunk : List ℕ → Portion
  Pause : Portion

-- the sequence that it divides
unfoldable pub sequence : List Portion → List Mark
sequence [] = []
sequence (Chunk bytes ∷ portions) = as_bytes bytes ++ sequence portions
sequence (Pause ∷ portions) = Quiet ∷ sequence portions

module _ (step : Step) where
  -- its calls
  unfoldable pub calls_of : List ℕ → List Portion → List Call
  calls_of part [] = []
  calls_of part (Chunk bytes ∷ portions) =
      lend_rest step (length bytes) part bytes ++ calls_of (run step part (lend_rest step (length bytes) part bytes)).part portions
  calls_of part (Pause ∷ portions) = Silence ∷ calls_of at_rest portions

  took_then : (calls more : List Call) (part : List ℕ) → took step part (calls ++ more) ≡ took step part calls ++ took step (run step part calls).part more
  unfolding took run
  took_then [] more part = refl
  took_then (Lent bytes ∷ calls) more part =
      let left = (collect step part bytes).part in
      ap (λ (ms : List Mark). as_bytes (take (collect step part bytes).taken bytes) ++ ms) (took_then calls more left) ∙ sym (append_assoc (as_bytes (take (collect step part bytes).taken bytes)) (took step left calls) _)
  took_then (Silence ∷ calls) more part = ap (λ (ms : List Mark). Quiet ∷ ms) (took_then calls more at_rest)
  took_then (Refused ∷ calls) more part = took_then calls more part

  -- they take it all
  takes_all : (portions : List Portion) (part : List ℕ) → took step part (calls_of part portions) ≡ sequence portions
  unfolding calls_of sequence took
  takes_all [] part = refl
  takes_all (Chunk bytes ∷ portions) part =
      let calls = lend_rest step (length bytes) part bytes in
      took_then calls (calls_of (run step part calls).part portions) part ∙ ap₂ (λ (xs ys : List Mark). xs ++ ys) (rest_taken step (length bytes) bytes part (omega arith)) (takes_all portions (run step part calls).part)
  takes_all (Pause ∷ portions) part = ap (λ (ms : List Mark). Quiet ∷ ms) (takes_all portions at_rest)

  pub divided : (part : List ℕ) (portions portions' : List Portion) → sequence portions ≡ sequence portions' → run step part (calls_of part portions) ≡ run step part (calls_of part portions')
  divided part portions portions' e = line portions ∙ ap (heard step part) e ∙ sym (line portions')
    where
      line : (ps : List Portion) → run step part (calls_of part ps) ≡ heard step part (sequence ps)
      line ps = run_heard step (calls_of part ps) part ∙ ap (heard step part) (takes_all ps part)
