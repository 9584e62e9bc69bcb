-- What a record is asked in the order of the code is what it is asked in the order of the definition; and a record with no crossing and no condition is asked nothing more.
-- Assumes nothing.
use Prim.Native.Nat.{ℕ}
use mathlib.Core.Path.{◌≡◌, refl}
use mathlib.Core.Bool.{Bool, true, false, ◌&&◌, ◌||◌}
use lib.Dec.{leb, eqb}
use borrow.Author.Tests.{eqb-true}
use Rattle.octets.proofs.Chain.{and_both}
use Rattle.rules.specs.Settings.{settings_fit}
use Rattle.homing.specs.Fitting.{group_fits}
use Rattle.conditions.specs.Soundness.{conditions_sound}
use Rattle.conditions.proofs.Empties.{none_filled}
use Rattle.session.specs.declared.Session.{Session}
use Rattle.session.specs.Soundness.{own_fits, crossing_fits, calm, remote_fits, own_plain, ungrouped_sound, session_sound}

regroup : (a b c d e t x r : Bool) → (a && b && c && d && e) && (t && x) && r ≡ ((a && b && c && d) && t && r) && (e && x)
regroup false b c d e t x r = refl
regroup true false c d e t x r = refl
regroup true true false d e t x r = refl
regroup true true true false e t x r = refl
regroup true true true true false false x r = refl
regroup true true true true false true x false = refl
regroup true true true true false true x true = refl
regroup true true true true true false x r = refl
regroup true true true true true true false false = refl
regroup true true true true true true false true = refl
regroup true true true true true true true false = refl
regroup true true true true true true true true = refl

pub own-parts : (s : Session) (clock : ℕ) → own_fits s clock ≡ own_plain s clock && crossing_fits s.crossing s.crossed clock
unfolding own_fits own_plain
own-parts s clock =
    regroup (leb s.state 4) (leb 1 s.peer.multiplier) (leb s.peer.diagnostic 31) (leb s.peer.owed 1) (leb s.crossing 1)
    (leb s.timed clock) (eqb s.crossing 0 || leb s.crossed clock) (remote_fits s.state s.peer.remote)

-- all four places are empty
abbrev empty_of : Session → Bool
empty_of s = eqb s.conditions.first.key.kind 0 && eqb s.conditions.second.key.kind 0 && eqb s.conditions.third.key.kind 0 && eqb s.conditions.fourth.key.kind 0

abbrev calm_of : Session → Bool
calm_of s =
    calm s.crossing s.group.set s.conditions.first.key.kind s.conditions.second.key.kind s.conditions.third.key.kind s.conditions.fourth.key.kind

-- what a record is asked in the order of the code
pub parts : (s : Session) (clock : ℕ)
    → session_sound s clock
    ≡ settings_fit s.settings && (own_plain s clock && (crossing_fits s.crossing s.crossed clock && (conditions_sound s.conditions clock && group_fits s.settings.label s.group)))
unfolding session_sound ungrouped_sound
parts s clock = rw (own-parts s clock) (rows (settings_fit s.settings) (own_plain s clock) _ _ _)
  where
    rows : (a b c d e : Bool) → ((a && (b && c)) && d) && e ≡ a && (b && (c && (d && e)))
    rows false b c d e = refl
    rows true false c d e = refl
    rows true true false d e = refl
    rows true true true d e = refl

-- a record that is calm is asked nothing more
pub calm-rest : (s : Session) (clock : ℕ) → calm_of s ≡ true
    → crossing_fits s.crossing s.crossed clock && (conditions_sound s.conditions clock && group_fits s.settings.label s.group) ≡ true
unfolding group_fits
calm-rest s clock e =
    let a = and_both (eqb s.crossing 0) _ e in
    let b = and_both (eqb s.group.set 0) (empty_of s) a.1 in
    rw (eqb-true s.crossing 0 a.0, none_filled s.conditions clock b.1, eqb-true s.group.set 0 b.0)
