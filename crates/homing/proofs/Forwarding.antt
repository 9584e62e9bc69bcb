-- Which combinations forward, and which way, exactly; and with the DNI-PW down.
-- Assumes nothing.
use Prim.Native.Nat.{ℕ}
use mathlib.Core.Path.{◌≡◌, refl}
use mathlib.Core.Bool.{Bool, true, false, not, ◌&&◌, ◌||◌}
use lib.Dec.{eqb}
use Rattle.rules.proofs.Bools.{no_way}
use Rattle.homing.specs.Forwarding.{drop_all, service_with_ac, service_with_dni, dni_with_ac, behavior, is_active, forwarding}

-- PW and AC both active: the DNI-PW does not matter
pub service-ac : (up : Bool) → behavior true true up ≡ service_with_ac
service-ac true = refl
service-ac false = refl

-- PW standby: the AC has to be active and the DNI-PW up
pub dni-ac : (ac up : Bool) → ac && up ≡ true → behavior false ac up ≡ dni_with_ac
dni-ac true true e = refl
dni-ac true false e = no_way e refl
dni-ac false up e = no_way e refl

pub drops : (ac up : Bool) → ac && up ≡ false → behavior false ac up ≡ drop_all
drops true true e = no_way refl e
drops true false e = refl
drops false true e = refl
drops false false e = refl

-- each number on its rows and on no other
pub record Ways (number : ℕ) (pw ac up : Bool) : Type 0 where
  pub to_ac : eqb number service_with_ac ≡ pw && ac
  pub to_dni : eqb number service_with_dni ≡ pw && (not ac && up)
  pub from_dni : eqb number dni_with_ac ≡ not pw && (ac && up)
  pub nowhere : eqb number drop_all ≡ not (pw && ac) && not ((pw || ac) && up)

rows : (pw ac up : Bool) → Ways (behavior pw ac up) pw ac up
rows true true true = record { to_ac = refl; to_dni = refl; from_dni = refl; nowhere = refl }
rows true true false = record { to_ac = refl; to_dni = refl; from_dni = refl; nowhere = refl }
rows true false true = record { to_ac = refl; to_dni = refl; from_dni = refl; nowhere = refl }
rows true false false = record { to_ac = refl; to_dni = refl; from_dni = refl; nowhere = refl }
rows false true true = record { to_ac = refl; to_dni = refl; from_dni = refl; nowhere = refl }
rows false true false = record { to_ac = refl; to_dni = refl; from_dni = refl; nowhere = refl }
rows false false true = record { to_ac = refl; to_dni = refl; from_dni = refl; nowhere = refl }
rows false false false = record { to_ac = refl; to_dni = refl; from_dni = refl; nowhere = refl }

pub forwards-exactly : (pw ac : ℕ) (up : Bool) → Ways (forwarding pw ac up) (is_active pw) (is_active ac) up
forwards-exactly pw ac up = rows (is_active pw) (is_active ac) up

-- with the DNI-PW down only PW and AC both active forward, to each other
with-down : (pw ac : Bool) → eqb (behavior pw ac false) drop_all ≡ not (pw && ac)
with-down true true = refl
with-down true false = refl
with-down false true = refl
with-down false false = refl

pub down-exactly : (pw ac : ℕ) → eqb (forwarding pw ac false) drop_all ≡ not (is_active pw && is_active ac)
down-exactly pw ac = with-down (is_active pw) (is_active ac)
