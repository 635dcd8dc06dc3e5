-- LucidControl's master: the four claims. Assumes nothing.
use Rattle.asking.specs.Claims.{Claims}
use Rattle.masters.specs.Lucid.{lucid_master}
use Rattle.masters.proofs.LucidMeans.{lucid_means}
use Rattle.masters.proofs.LucidLeast.{lucid_least}
use Rattle.masters.proofs.LucidHears.{lucid_hears}
use Rattle.masters.proofs.LucidExact.{lucid_exact}

pub lucid_claims : Claims lucid_master
lucid_claims = record { means = lucid_means; least = lucid_least; hears = lucid_hears; exact = lucid_exact }
