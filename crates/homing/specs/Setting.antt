-- What setting a group is refused for behind 26 and 1, in this order and for nothing else.
-- Assumes nothing.
use Rattle.std.specs.Prelude.{ℕ, ◌≡◌, true, false, ◌⊎◌, eqb}
use Rattle.octets.specs.Choice.{need, bar}
use Rattle.homing.specs.declared.GroupSettings.{GroupSettings}
use Rattle.homing.specs.declared.Found.{Found}

-- 2: a label not open to the party; 10: equal labels; 11: a second group on a service PW, or of one ID in the party
abbrev pub set_refusal : GroupSettings → Found → ℕ
set_refusal s f =
    need f.service 2 (need f.dni 2 (bar (eqb s.service s.dni) 10 (bar f.grouped 11 (bar f.taken 11 0))))

-- the same in words: both labels are open
pub record BothOpen (f : Found) : Type 0 where
  pub service : f.service ≡ true
  pub dni : f.dni ≡ true

pub data SetAnswers (s : GroupSettings) (f : Found) (n : ℕ) : Type 0 where
  not_open : n ≡ 2 → (f.service ≡ false) ⊎ (f.dni ≡ false) → SetAnswers s f n
  equal_labels : n ≡ 10 → BothOpen f → s.service ≡ s.dni → SetAnswers s f n
  second_group : n ≡ 11 → BothOpen f → (s.service ≡ s.dni → ⊥) → (f.grouped ≡ true) ⊎ (f.taken ≡ true) → SetAnswers s f n
  is_set : n ≡ 0 → BothOpen f → (s.service ≡ s.dni → ⊥) → f.grouped ≡ false → f.taken ≡ false → SetAnswers s f n
