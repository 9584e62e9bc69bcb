-- What is handed over from outside gives what was worked out by hand.
-- Assumes nothing.
use mathlib.Core.Path.{refl}
use Rattle.account.specs.Figures.{error_of, joined, fit, finished}
use Rattle.account.specs.Accounts.{account_of, combined, added, finished_of}
use Rattle.lateness.specs.HandedOver.{Hold, examples}

pub handed-over : Hold examples
unfolding Hold examples error_of joined fit finished account_of combined added finished_of
handed-over = (refl, (refl, (refl, (refl, (refl, (refl, (refl, (refl, (refl, (refl, (refl, (refl, (refl, (refl, (refl, (refl, (refl, (refl, (refl, (refl, (refl, (refl, (refl, (refl, (refl, tt)))))))))))))))))))))))))
