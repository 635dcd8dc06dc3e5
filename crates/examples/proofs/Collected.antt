-- Document 02, M-100: what receivers make of lines of bytes, computed; each run breaks a receiver that follows one of its sentences otherwise.
-- Assumes nothing.
use Rattle.std.proofs.Common.{◌≡◌, ℕ, List, [], ◌∷◌, ◌++◌, replicate, refl}
use Rattle.wire.proofs.Computed.{computed as wire-computed}
use Rattle.receiver.specs.Step.{Step, at_rest}
use Rattle.receiver.specs.Line.{collect}
use Rattle.receiver.proofs.Computed.{computed as receiver-computed}
use Rattle.card.proofs.Computed.{computed as card-computed}
use Rattle.datalink.specs.Receiver.{step as datalinkStep}
use Rattle.datalink.proofs.Computed.{computed as datalink-computed}
use Rattle.lecom.specs.Receiver.{step as lecomStep}
use Rattle.lecom.proofs.Computed.{computed as lecom_computed}
use Rattle.love.specs.Receiver.{step as loveStep}
use Rattle.love.proofs.Computed.{computed as love_computed}
use Rattle.lucid.specs.Receiver.{step as lucidStep}
use Rattle.lucid.proofs.Computed.{computed as lucid_computed}

-- of these bytes, fed to a receiver at rest, so many are taken; these frames, one or none, are handed over, and this part frame is left
pub record Gives (step : Step) (bytes : List ℕ) (taken : ℕ) (handed : List (List ℕ)) (part : List ℕ) : Type 0 where
  pub collected : collect step at_rest bytes ≡ record { taken = taken; handed = handed; part = part }

-- "A call stops after a finished frame": P1, and a byte behind it that is not taken
one_frame : Gives datalinkStep (0x7E ∷ 0xE3 ∷ 0x09 ∷ 0x00 ∷ 0x10 ∷ 0xFC ∷ 0x7E ∷ []) 6 ((0x7E ∷ 0xE3 ∷ 0x09 ∷ 0x00 ∷ 0x10 ∷ 0xFC ∷ []) ∷ []) []
unfolding wire-computed receiver-computed card-computed datalink-computed
one_frame = record { collected = refl }

-- "an unknown command (20h is one) .. drops what was collected, that byte included": so does a second 7Eh
response_dropped : Gives datalinkStep (0x7E ∷ 0x23 ∷ []) 2 [] []
unfolding wire-computed receiver-computed card-computed datalink-computed
response_dropped = record { collected = refl }

second_start_dropped : Gives datalinkStep (0x7E ∷ 0x7E ∷ 0x83 ∷ []) 3 [] []
unfolding wire-computed receiver-computed card-computed datalink-computed
second_start_dropped = record { collected = refl }

-- "NUM above 32": 32 is kept, 33 dropped
num_kept : Gives datalinkStep (0x7E ∷ 0xA3 ∷ 32 ∷ []) 3 [] (0x7E ∷ 0xA3 ∷ 32 ∷ [])
unfolding wire-computed receiver-computed card-computed datalink-computed
num_kept = record { collected = refl }

num_dropped : Gives datalinkStep (0x7E ∷ 0xA3 ∷ 33 ∷ []) 3 [] []
unfolding wire-computed receiver-computed card-computed datalink-computed
num_dropped = record { collected = refl }

-- "ends .. with the byte after ETX, which is the BCC even if it is 04h"
bcc_04 : Gives lecomStep (4 ∷ 49 ∷ 49 ∷ 2 ∷ 48 ∷ 55 ∷ 3 ∷ 4 ∷ 4 ∷ []) 8 ((4 ∷ 49 ∷ 49 ∷ 2 ∷ 48 ∷ 55 ∷ 3 ∷ 4 ∷ []) ∷ []) []
unfolding wire-computed receiver-computed lecom_computed
bcc_04 = record { collected = refl }

-- "ends at ENQ where no STX has come": behind STX it is collected; an ETX before STX ends nothing
enq_collected : Gives lecomStep (4 ∷ 2 ∷ 5 ∷ []) 3 [] (4 ∷ 2 ∷ 5 ∷ [])
unfolding wire-computed receiver-computed lecom_computed
enq_collected = record { collected = refl }

etx_collected : Gives lecomStep (4 ∷ 3 ∷ 49 ∷ []) 3 [] (4 ∷ 3 ∷ 49 ∷ [])
unfolding wire-computed receiver-computed lecom_computed
etx_collected = record { collected = refl }

-- "A byte past the dialect's longest drops the frame, itself too unless it starts anew"
past_longest : Gives lecomStep (4 ∷ replicate 25 48) 26 [] []
unfolding wire-computed receiver-computed lecom_computed
past_longest = record { collected = refl }

anew : Gives lecomStep (4 ∷ (replicate 24 48 ++ (4 ∷ []))) 26 [] (4 ∷ [])
unfolding wire-computed receiver-computed lecom_computed
anew = record { collected = refl }

-- a BCC past the longest does not start anew
bcc_past_longest : Gives lecomStep (4 ∷ 49 ∷ 49 ∷ 2 ∷ (replicate 20 48 ++ (3 ∷ 4 ∷ []))) 26 [] []
unfolding wire-computed receiver-computed lecom_computed
bcc_past_longest = record { collected = refl }

-- "a later STX starts anew"
later_stx : Gives loveStep (2 ∷ 76 ∷ 2 ∷ 79 ∷ 3 ∷ []) 5 ((2 ∷ 79 ∷ 3 ∷ []) ∷ []) []
unfolding wire-computed receiver-computed love_computed
later_stx = record { collected = refl }

-- "LucidControl counts from LEN"
len_zero : Gives lucidStep (0x46 ∷ 0x00 ∷ 0x10 ∷ 0x00 ∷ 0xFF ∷ []) 4 ((0x46 ∷ 0x00 ∷ 0x10 ∷ 0x00 ∷ []) ∷ []) []
unfolding wire-computed receiver-computed lucid_computed
len_zero = record { collected = refl }

len_one : Gives lucidStep (0x46 ∷ 0x00 ∷ 0x10 ∷ 0x01 ∷ 0xFF ∷ []) 5 ((0x46 ∷ 0x00 ∷ 0x10 ∷ 0x01 ∷ 0xFF ∷ []) ∷ []) []
unfolding wire-computed receiver-computed lucid_computed
len_one = record { collected = refl }
