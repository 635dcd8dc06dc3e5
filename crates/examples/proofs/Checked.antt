-- Document 01's checked examples hold of the written meanings: one claim over all rows, computed; and so do the cases of document 02.
-- Assumes nothing.
use Rattle.std.proofs.Common.{◌≡◌, true, refl}
use Rattle.wire.proofs.Computed.{computed as wire-computed}
use Rattle.figures.proofs.Computed.{computed as figures-computed}
use Rattle.card.proofs.Computed.{computed as card-computed}
use Rattle.datalink.proofs.Computed.{computed as datalink-computed}
use Rattle.lecom.proofs.Computed.{computed as lecom_computed}
use Rattle.love.proofs.Computed.{computed as love_computed}
use Rattle.lucid.proofs.Computed.{computed as lucid_computed}
use Rattle.card.specs.Start.{start_card}
use Rattle.examples.specs.Exchanges.{all_hold}
use Rattle.examples.specs.Rows.{rows}
use Rattle.examples.specs.Requests.{requests}

pub checked : all_hold start_card rows ≡ true
unfolding wire-computed figures-computed card-computed datalink-computed lecom_computed love_computed lucid_computed
checked = refl

pub requested : all_hold start_card requests ≡ true
unfolding wire-computed card-computed lucid_computed
requested = refl
