-- The walk over the TLVs ends at the earliest octet at which a TLV breaks a rule, and goes to the end exactly where none does.
-- Assumes nothing.
use mathlib.Core.Path.{◌≡◌, refl, sym, ◌∙◌}
use mathlib.Core.Bool.{Bool, true, false, cond}
use mathlib.Core.List.{List}
use Prim.Native.Nat.{ℕ, zero, suc, ◌+◌, ◌-◌, ◌≤◌, ◌<◌}
use native.Mathlib.Omega.{arith}
use lib.ListN.{get_or}
use lib.Dec.{ltb, eqb}
use borrow.Author.Tests.{ltb-true, ltb-false, ne_eqb}
use Rattle.octets.specs.Numbers.{number_at}
use Rattle.fault.specs.declared.tlv.Tlvs.{Tlvs}
use Rattle.fault.specs.Tlvs.{repeated, bad_octet, with_tlv, ended, walk, start, tlvs_of}
use Rattle.fault.specs.Message.{tlvs_end, tlvs_in}
use Rattle.fault.specs.Broken.{behind, StartsAt, first, next, Known, WrongLength, WrongTlv, stray, again, past, sized}
use Rattle.fault.proofs.Walk.{stays, turn}
use Rattle.fault.proofs.Starts.{start-low, start-high, Beside, before, same, after, stands}
use Rattle.fault.proofs.Verdict.{decide, Verdict, fine, lone, twice, over, odd, judge, length-right, length-wrong, mark-known, Marked, old, new, taken_at, taken-bad, mark_set, mark-kept, mark-new}

-- a TLV of this type starts before the place s
record Earlier (m : List ℕ) (kind s : ℕ) : Type 0 where
  place : ℕ
  starts : StartsAt m place
  low : place < s
  alike : get_or m place 0 ≡ kind

-- the TLV at p breaks no rule
record Right (m : List ℕ) (p : ℕ) : Type 0 where
  whole : behind m p ≤ tlvs_end m
  size : WrongLength (get_or m p 0) (get_or m (p + 1) 0) → ⊥
  once : (o : ℕ) → StartsAt m o → o < p → get_or m o 0 ≡ get_or m p 0 → Known (get_or m p 0) → ⊥

right-none : (m : List ℕ) (p q : ℕ) → Right m p → WrongTlv m p q → ⊥
right-none m p q r (stray e h) = omega (arith, r.whole)
right-none m p q r (again o e s l k n) = r.once o s l k n
right-none m p q r (past e h) = omega (arith, r.whole)
right-none m p q r (sized e h w) = r.size w

pub wrong-low : (m : List ℕ) (p q : ℕ) → WrongTlv m p q → p ≤ q
wrong-low m p q (stray e h) = omega arith
wrong-low m p q (again o e s l k n) = omega arith
wrong-low m p q (past e h) = omega arith
wrong-low m p q (sized e h w) = omega arith

-- the walk at a place, with nothing wrong before it
record Going (m : List ℕ) (t : Tlvs) : Type 0 where
  none : t.bad ≡ 0
  low : 9 ≤ t.at
  reached : t.at < tlvs_end m → StartsAt m t.at
  sound : (p : ℕ) → StartsAt m p → p < t.at → Right m p
  noted : (p : ℕ) → StartsAt m p → p < t.at → Known (get_or m p 0) → repeated t (get_or m p 0) ≡ true
  met : (kind : ℕ) → repeated t kind ≡ true → Earlier m kind t.at

-- what the whole walk says
pub data Walked (m : List ℕ) (u : Tlvs) : Type 0 where
  clean : u.bad ≡ 0 → ((p q : ℕ) → StartsAt m p → WrongTlv m p q → ⊥) → Walked m u
  ill : (p : ℕ) → StartsAt m p → WrongTlv m p u.bad → ((p q : ℕ) → StartsAt m p → WrongTlv m p q → u.bad ≤ q) → Walked m u

module _ (m : List ℕ) where
  abbrev kind_at : ℕ → ℕ
  kind_at p = get_or m p 0

  abbrev size_at : ℕ → ℕ
  size_at p = get_or m (p + 1) 0

  -- a turn of the walk whose TLV is fine, or wrong at the octet v
  abbrev taken : Tlvs → Tlvs
  taken t = with_tlv t (kind_at t.at) (size_at t.at) (number_at 4 m (t.at + 2)) (number_at 4 m (t.at + 6))

  goes : (k : ℕ) (t : Tlvs) → t.at < tlvs_end m → bad_octet t (tlvs_end m) (kind_at t.at) (size_at t.at) ≡ 0
      → walk (suc k) m (tlvs_end m) t ≡ walk k m (tlvs_end m) (taken t)
  goes k t h e = turn m (tlvs_end m) k t h ∙ rw e

  ends : (k : ℕ) (t : Tlvs) (v : ℕ) → t.at < tlvs_end m → bad_octet t (tlvs_end m) (kind_at t.at) (size_at t.at) ≡ v → (v ≡ 0 → ⊥)
      → walk (suc k) m (tlvs_end m) t ≡ ended v (tlvs_end m) t
  ends k t v h e n = turn m (tlvs_end m) k t h ∙ rw (e, ne_eqb v 0 n) (stays m (tlvs_end m) k (ended v (tlvs_end m) t) (omega arith))

  module _ (t : Tlvs) (g : Going m t) (h : t.at < tlvs_end m) where
    abbrev s : ℕ
    s = t.at

    abbrev here : StartsAt m s
    here = g.reached h

    -- a rule broken by any TLV is broken from the place on
    from-here : (p q : ℕ) → StartsAt m p → WrongTlv m p q → s ≤ q
    from-here p q a w = go (stands m s here p a) (wrong-low m p q w)
      where
        go : Beside m s p → p ≤ q → s ≤ q
        go (before b) l = absurd (right-none m p q (g.sound p a (omega arith)) w)
        go (same e) l = omega arith
        go (after b) l = omega arith

    once-here : repeated t (kind_at s) ≡ false → (o : ℕ) → StartsAt m o → o < s → kind_at o ≡ kind_at s → Known (kind_at s) → ⊥
    once-here r o a l e n =
        let x : repeated t (kind_at o) ≡ true = g.noted o a l (rw e n) in
        let y : repeated t (kind_at o) ≡ false = rw e r in
        let z : ◌≡◌ {A = ℕ} 0 1 = cc in omega arith

    right-here : behind m s ≤ tlvs_end m → repeated t (kind_at s) ≡ false → (WrongLength (kind_at s) (size_at s) → ⊥) → Right m s
    right-here w r l = record { whole = w; size = l; once = once-here r }

    -- and where only its length is wrong, from the length octet on
    from-length : behind m s ≤ tlvs_end m → repeated t (kind_at s) ≡ false → (p q : ℕ) → StartsAt m p → WrongTlv m p q → s + 1 ≤ q
    from-length f r p q a w = go (stands m s here p a) (wrong-low m p q w)
      where
        at : WrongTlv m s q → s + 1 ≤ q
        at (stray e x) = absurd (omega arith)
        at (again o e b l k n) = absurd (once-here r o b l k n)
        at (past e x) = absurd (omega arith)
        at (sized e x y) = omega arith

        go : Beside m s p → p ≤ q → s + 1 ≤ q
        go (before b) l = absurd (right-none m p q (g.sound p a (omega arith)) w)
        go (same e) l = at (rw e at w)
        go (after b) l = omega arith

    -- behind a TLV that is fine
    module _ (f : behind m s ≤ tlvs_end m) (r : repeated t (kind_at s) ≡ false) (l : WrongLength (kind_at s) (size_at s) → ⊥) where
      abbrev a : ℕ
      a = number_at 4 m (s + 2)

      abbrev b : ℕ
      b = number_at 4 m (s + 6)

      at : (taken t).at ≡ behind m s
      at = taken_at t (kind_at s) (size_at s) a b

      right-on : (p : ℕ) → StartsAt m p → Beside m s p → p < behind m s → Right m p
      right-on p x (before y) z = g.sound p x (omega arith)
      right-on p x (same e) z = rw e (right-here f r l)
      right-on p x (after y) z = absurd (omega arith)

      marked-on : (p : ℕ) → StartsAt m p → Beside m s p → p < behind m s → Known (kind_at p) → repeated (taken t) (kind_at p) ≡ true
      marked-on p x (before y) z n = mark-kept t (kind_at s) (size_at s) a b (kind_at p) (g.noted p x (omega arith) n)
      marked-on p x (same e) z n = rw e (mark_set t (kind_at s) (size_at s) a b (rw e at n))
      marked-on p x (after y) z n = absurd (omega arith)

      met-on : (kind : ℕ) → Marked t (kind_at s) kind → Earlier m kind (behind m s)
      met-on kind (old x) =
          let o = g.met kind x in
          record { place = o.place; starts = o.starts; low = omega (arith, o.low); alike = o.alike }
      met-on kind (new e) = record { place = s; starts = here; low = omega arith; alike = sym e }

      going_on : Going m (taken t)
      going_on =
          record {
            none = taken-bad t (kind_at s) (size_at s) a b ∙ g.none;
            low = omega (arith, at, g.low);
            reached = λ y. rw at (next s here (rw at at y));
            sound = λ p x y. right-on p x (stands m s here p x) (rw at at y);
            noted = λ p x y n. marked-on p x (stands m s here p x) (rw at at y) n;
            met = λ kind x. rw at (met-on kind (mark-new t (kind_at s) (size_at s) a b kind x));
          }

  -- the walk ends at an octet that is wrong
  stops : (k : ℕ) (t : Tlvs) (v : ℕ) → Going m t → (h : t.at < tlvs_end m) → bad_octet t (tlvs_end m) (kind_at t.at) (size_at t.at) ≡ v → 9 ≤ v
      → WrongTlv m t.at v → ((p q : ℕ) → StartsAt m p → WrongTlv m p q → v ≤ q) → Walked m (walk (suc k) m (tlvs_end m) t)
  stops k t v g h e n w l = rw (ends k t v h e (λ z. omega arith)) (ill t.at (g.reached h) w l)

  done : (t : Tlvs) → Going m t → tlvs_end m ≤ t.at → Walked m t
  done t g h = clean g.none (λ p q a w. right-none m p q (g.sound p a (omega (arith, start-high m p a))) w)

  -- by what the test says of the TLV at the place, with what the rest of the walk says behind one that is fine
  turned : (k : ℕ) (t : Tlvs) → ((u : Tlvs) → Going m u → tlvs_end m - u.at ≤ k → Walked m (walk k m (tlvs_end m) u))
      → Going m t → (h : t.at < tlvs_end m) → tlvs_end m - t.at ≤ suc k
      → Verdict t (tlvs_end m) (kind_at t.at) (size_at t.at) → Walked m (walk (suc k) m (tlvs_end m) t)
  turned k t rest g h d (fine e f r l) =
      let n = taken_at t (kind_at t.at) (size_at t.at) (number_at 4 m (t.at + 2)) (number_at 4 m (t.at + 6)) in
      rw (goes k t h e) (rest (taken t) (going_on t g h f r (length-right _ _ l)) (rw n (omega arith)))
  turned k t rest g h d (lone e x) =
      stops k t t.at g h e g.low (stray refl (omega arith)) (from-here t g h)
  turned k t rest g h d (twice e x) =
      let o = g.met (kind_at t.at) x in
      stops k t t.at g h e g.low (again o.place refl o.starts o.low o.alike (mark-known t _ x)) (from-here t g h)
  turned k t rest g h d (over e x) =
      stops k t t.at g h e g.low (past refl x) (from-here t g h)
  turned k t rest g h d (odd e f r x) =
      stops k t (t.at + 1) g h e (omega (arith, g.low)) (sized refl (omega arith) (length-wrong _ _ x)) (from-length t g h f r)

  walks : (k : ℕ) (t : Tlvs) → Going m t → tlvs_end m - t.at ≤ k → Walked m (walk k m (tlvs_end m) t)
  walks zero t g d = done t g (omega arith)
  walks (suc k) t g d =
      decide (ltb t.at (tlvs_end m))
      (λ a. turned k t (walks k) g (ltb-true _ _ a) d (judge t (tlvs_end m) (kind_at t.at) (size_at t.at)))
      (λ a. rw (stays m (tlvs_end m) (suc k) t (ltb-false _ _ a)) (done t g (ltb-false _ _ a)))

  unmarked : (kind : ℕ) → repeated start kind ≡ true → ⊥
  unfolding repeated
  unmarked kind e = go (eqb kind 1) (eqb kind 2) e
    where
      go : (x y : Bool) → cond x false (cond y false false) ≡ true → ⊥
      go true y e = let z : ◌≡◌ {A = ℕ} 0 1 = cc in omega arith
      go false true e = let z : ◌≡◌ {A = ℕ} 0 1 = cc in omega arith
      go false false e = let z : ◌≡◌ {A = ℕ} 0 1 = cc in omega arith

  going : Going m start
  going =
      record {
        none = refl;
        low = omega arith;
        reached = λ h. first h;
        sound = λ p a l. absurd (omega (arith, start-low m p a));
        noted = λ p a l n. absurd (omega (arith, start-low m p a));
        met = λ kind e. absurd (unmarked kind e);
      }

  pub all-walked : Walked m (tlvs_in m)
  unfolding tlvs_of
  all-walked = walks (tlvs_end m) start going (omega arith)
