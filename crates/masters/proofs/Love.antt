-- Love: the four claims of its master. Assumes nothing.
use Rattle.asking.specs.Claims.{Claims}
use Rattle.masters.specs.Love.{love_master}
use Rattle.masters.proofs.LoveMeans.{love_means}
use Rattle.masters.proofs.LoveLeast.{love_least_law}
use Rattle.masters.proofs.LoveHears.{love_hears}
use Rattle.masters.proofs.LoveExact.{love_exact}

pub love_claims : Claims love_master
love_claims = record { means = love_means; least = love_least_law; hears = love_hears; exact = love_exact }
