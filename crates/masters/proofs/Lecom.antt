-- The four claims of crates/asking/specs/Claims.antt for LECOM's master, and that a fault never becomes a temperature. Assumes nothing.
use Rattle.std.proofs.Common.{◌≡◌, ℕ, ◌≤◌, [], get_or, Some, ap, ◌∙◌}
use Rattle.card.specs.Layout.{Card}
use Rattle.card.specs.Probe.{fault_code, reading_of}
use Rattle.card.specs.Reply.{room_least}
use Rattle.card.proofs.Probes.{fault_read}
use Rattle.lecom.specs.Form.{named_by}
use Rattle.lecom.specs.Answer.{lecom_reply}
use Rattle.lecom.specs.declared.form.Named.TheVariants.{Probe}
use Rattle.asking.specs.Hearing.Hearing.{Refused}
use Rattle.asking.specs.Claims.{Askable, At, Claims}
use Rattle.lecom_master.specs.Request.{made}
use Rattle.lecom_master.specs.Heard.{heard}
use Rattle.lecom_master.specs.declared.request.Task.TheVariants.{Read}
use Rattle.lecom_master.specs.declared.request.Request.{Request}
use Rattle.masters.specs.Lecom.{lecom_master, heard_reading, held_by, answer_to}
use Rattle.masters.proofs.LecomMeans.{lecom_means}
use Rattle.masters.proofs.LecomLeast.{lecom_least_law}
use Rattle.masters.proofs.LecomHears.{lecom_hears}
use Rattle.masters.proofs.LecomExact.{lecom_exact}

pub lecom_claims : Claims lecom_master
lecom_claims = record { means = lecom_means; least = lecom_least_law; hears = lecom_hears; exact = lecom_exact }

-- "LECOM's NAK says only refused; neither becomes a temperature": a read of a probe at fault is heard as refused
module _ (address code channel : ℕ) (probe : named_by code ≡ Some (Probe channel)) where
  abbrev q : Request
  q = record { address = address; task = Read code }

  pub lecom_fault : Askable lecom_master q → (card : Card) → At lecom_master q card → get_or card.memory channel 0 ≡ fault_code → (room : ℕ) → room_least ≤ room
      → heard q (lecom_reply card room (made q)).bytes ≡ Refused []
  unfolding answer_to held_by heard_reading
  lecom_fault asks card at fault room fits =
      (lecom_hears q asks).hears card at room fits ∙ ap (held_by card) probe ∙ ap (λ (k : ℕ). heard_reading (reading_of k)) fault ∙ ap heard_reading fault_read
