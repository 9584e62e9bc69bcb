-- The walk over the TLVs ends at the first that is wrong, and goes to the end exactly where none is; then the places that it kept are those of the TLVs.
-- Assumes nothing.
use mathlib.Core.Path.{◌≡◌, refl, sym, ap, ◌∙◌}
use mathlib.Core.Bool.{Bool, true, false, cond}
use mathlib.Core.List.{List}
use Prim.Native.Nat.{ℕ, zero, suc, ◌-◌, ◌≤◌, ◌<◌}
use native.Mathlib.Omega.{arith}
use lib.Dec.{ltb, eqb}
use borrow.Author.Tests.{ltb-true, ltb-false}
use Rattle.coordination.specs.declared.tlv.Tlvs.{Tlvs}
use Rattle.coordination.specs.Tlvs.{repeated, wrong_tlv, noted, ended, walk, start, tlvs_of}
use Rattle.coordination.specs.Message.{tlvs_end, tlvs_in}
use Rattle.coordination.specs.Refused.{type_at, size_at, behind, StartsAt, first, next, Known, WrongLength, WrongTlv, again, sized, past}
use Rattle.coordination.proofs.Walk.{stays, turn}
use Rattle.coordination.proofs.Starts.{start-low, start-high, Beside, before, same, after, stands}
use Rattle.coordination.proofs.Verdict.{decide, unequal, Verdict, fine, twice, odd, over, judge, length-right, length-wrong, mark-known, Marked, old, new, mark_set, mark-kept, mark-new}

-- a TLV of this type starts before the place s
pub record Earlier (m : List ℕ) (kind s : ℕ) : Type 0 where
  pub place : ℕ
  pub starts : StartsAt m place
  pub low : place < s
  pub alike : type_at m place ≡ kind

-- the walk at a place, with nothing wrong before it
record Going (m : List ℕ) (t : Tlvs) : Type 0 where
  none : t.bad ≡ false
  low : 12 ≤ t.at
  reached : t.at < tlvs_end m → StartsAt m t.at
  sound : (p : ℕ) → StartsAt m p → p < t.at → WrongTlv m p → ⊥
  kept : (p : ℕ) → StartsAt m p → p < t.at → Known (type_at m p) → repeated t (type_at m p) ≡ true
  met : (kind : ℕ) → repeated t kind ≡ true → Earlier m kind t.at

-- what the whole walk says
pub data Walked (m : List ℕ) (u : Tlvs) : Type 0 where
  clean : u.bad ≡ false → ((p : ℕ) → StartsAt m p → WrongTlv m p → ⊥)
      → ((p : ℕ) → StartsAt m p → Known (type_at m p) → repeated u (type_at m p) ≡ true)
      → ((kind : ℕ) → repeated u kind ≡ true → Earlier m kind u.at) → Walked m u
  ill : u.bad ≡ true → (p : ℕ) → StartsAt m p → WrongTlv m p → Walked m u

module _ (m : List ℕ) where
  abbrev taken : Tlvs → Tlvs
  taken t = noted t (type_at m t.at) (size_at m t.at)

  abbrev wrong_at : Tlvs → Bool
  wrong_at t = wrong_tlv t (tlvs_end m) (type_at m t.at) (size_at m t.at)

  goes : (k : ℕ) (t : Tlvs) → t.at < tlvs_end m → wrong_at t ≡ false → walk (suc k) m (tlvs_end m) t ≡ walk k m (tlvs_end m) (taken t)
  goes k t h e = turn m (tlvs_end m) k t h ∙ ap (λ (b : Bool). walk k m (tlvs_end m) (cond b (ended (tlvs_end m) t) (taken t))) e

  ends : (k : ℕ) (t : Tlvs) → t.at < tlvs_end m → wrong_at t ≡ true → walk (suc k) m (tlvs_end m) t ≡ ended (tlvs_end m) t
  ends k t h e =
      turn m (tlvs_end m) k t h ∙ ap (λ (b : Bool). walk k m (tlvs_end m) (cond b (ended (tlvs_end m) t) (taken t))) e
      ∙ stays m (tlvs_end m) k (ended (tlvs_end m) t) (omega arith)

  module _ (t : Tlvs) (g : Going m t) (h : t.at < tlvs_end m) where
    abbrev s : ℕ
    s = t.at

    abbrev here : StartsAt m s
    here = g.reached h

    -- behind a TLV that is fine
    module _ (f : behind m s ≤ tlvs_end m) (r : repeated t (type_at m s) ≡ false) (l : WrongLength (type_at m s) (size_at m s) → ⊥) where
      once-here : (o : ℕ) → StartsAt m o → o < s → type_at m o ≡ type_at m s → Known (type_at m s) → ⊥
      once-here o a b e n =
          let x : repeated t (type_at m o) ≡ true = g.kept o a b (rw e n) in
          let y : repeated t (type_at m o) ≡ false = ap (repeated t) e ∙ r in
          unequal (sym x ∙ y)

      right-here : WrongTlv m s → ⊥
      right-here (again o a b e n) = once-here o a b e n
      right-here (sized w) = l w
      right-here (past p) = omega arith

      right-on : (p : ℕ) → StartsAt m p → Beside m s p → p < behind m s → WrongTlv m p → ⊥
      right-on p x (before y) z w = g.sound p x (omega arith) w
      right-on p x (same e) z w = right-here (rw e at w)
      right-on p x (after y) z w = omega arith

      kept_on : (p : ℕ) → StartsAt m p → Beside m s p → p < behind m s → Known (type_at m p) → repeated (taken t) (type_at m p) ≡ true
      kept_on p x (before y) z n = mark-kept t (type_at m s) (size_at m s) g.low (type_at m p) (g.kept p x (omega arith) n)
      kept_on p x (same e) z n = rw e (mark_set t (type_at m s) (size_at m s) g.low (rw e at n))
      kept_on p x (after y) z n = absurd (omega arith)

      met-on : (kind : ℕ) → Marked t (type_at m s) kind → Earlier m kind (behind m s)
      met-on kind (old x) =
          let o = g.met kind x in
          record { place = o.place; starts = o.starts; low = omega (arith, o.low); alike = o.alike }
      met-on kind (new e) = record { place = s; starts = here; low = omega arith; alike = sym e }

      going_on : Going m (taken t)
      going_on =
          record {
            none = g.none;
            low = omega (arith, g.low);
            reached = λ y. next s here y;
            sound = λ p x y. right-on p x (stands m s here p x) y;
            kept = λ p x y n. kept_on p x (stands m s here p x) y n;
            met = λ kind x. met-on kind (mark-new t (type_at m s) (size_at m s) g.low kind x);
          }

  done : (t : Tlvs) → Going m t → tlvs_end m ≤ t.at → Walked m t
  done t g h =
      clean g.none (λ p a w. g.sound p a (omega (arith, start-high m p a)) w) (λ p a n. g.kept p a (omega (arith, start-high m p a)) n) g.met

  stops : (k : ℕ) (t : Tlvs) → Going m t → (h : t.at < tlvs_end m) → wrong_at t ≡ true → WrongTlv m t.at → Walked m (walk (suc k) m (tlvs_end m) t)
  stops k t g h e w = rw (ends k t h e) (ill refl t.at (g.reached h) w)

  -- by what the test says of the TLV at the place, with what the rest of the walk says behind one that is fine
  turned : (k : ℕ) (t : Tlvs) → ((u : Tlvs) → Going m u → tlvs_end m - u.at ≤ k → Walked m (walk k m (tlvs_end m) u))
      → Going m t → (h : t.at < tlvs_end m) → tlvs_end m - t.at ≤ suc k
      → Verdict t (tlvs_end m) (type_at m t.at) (size_at m t.at) → Walked m (walk (suc k) m (tlvs_end m) t)
  turned k t rest g h d (fine e f r l) = rw (goes k t h e) (rest (taken t) (going_on t g h f r (length-right _ _ l)) (omega arith))
  turned k t rest g h d (twice e x) =
      let o = g.met (type_at m t.at) x in
      stops k t g h e (again o.place o.starts o.low o.alike (mark-known t _ x))
  turned k t rest g h d (odd e x) = stops k t g h e (sized (length-wrong _ _ x))
  turned k t rest g h d (over e x) = stops k t g h e (past x)

  walks : (k : ℕ) (t : Tlvs) → Going m t → tlvs_end m - t.at ≤ k → Walked m (walk k m (tlvs_end m) t)
  walks zero t g d = done t g (omega arith)
  walks (suc k) t g d =
      decide (ltb t.at (tlvs_end m))
      (λ a. turned k t (walks k) g (ltb-true _ _ a) d (judge t (tlvs_end m) (type_at m t.at) (size_at m t.at)))
      (λ a. rw (stays m (tlvs_end m) (suc k) t (ltb-false _ _ a)) (done t g (ltb-false _ _ a)))

  unmarked : (kind : ℕ) → repeated start kind ≡ true → ⊥
  unfolding repeated
  unmarked kind e = go (eqb kind 1) (eqb kind 2) e
    where
      go : (x y : Bool) → cond x false (cond y false false) ≡ true → ⊥
      go true y e = unequal (sym e)
      go false true e = unequal (sym e)
      go false false e = unequal (sym e)

  going : Going m start
  going =
      record {
        none = refl;
        low = omega arith;
        reached = λ h. first h;
        sound = λ p a l. absurd (omega (arith, start-low m p a));
        kept = λ p a l n. absurd (omega (arith, start-low m p a));
        met = λ kind e. absurd (unmarked kind e);
      }

  pub all-walked : Walked m (tlvs_in m)
  unfolding tlvs_of
  all-walked = walks (tlvs_end m) start going (omega arith)
