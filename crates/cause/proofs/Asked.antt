-- What an accepted answer says of the story, the thing and the mark behind it.
-- Assumes nothing.
use Prim.Native.Nat.{ℕ, suc, ◌-◌}
use mathlib.Core.Path.{◌≡◌, refl, sym, ap, ◌∙◌, subst, subst₂}
use mathlib.Core.Bool.{Bool, true, cond}
use mathlib.Core.Option.{Option, none, some}
use Rattle.octets.specs.Choice.{accepted, refused}
use Rattle.rules.specs.declared.Settings.{Settings}
use Rattle.rules.proofs.Bools.{split}
use Rattle.meaning.specs.Stories.{Story}
use Rattle.meaning.specs.Histories.{History, clock_of, story}
use Rattle.meaning.specs.Accounts.{Opening}
use Rattle.meaning.proofs.LossPositions.{opening-one}
use Rattle.cause.specs.Marks.{Mark}
use Rattle.cause.specs.Causes.{Thing, Cause, stands_at, cause_by, cause_in, cause_told, cause_of, reason_in, reason_told, reason_of}
use Rattle.cause.proofs.Lasts.{clash}

-- what is not none is some
pub some_of : {A : Type 0} (m : Option A) → (m ≡ none → ⊥) → (x : A) × (m ≡ some x)
some_of none f = absurd (f refl)
some_of (some x) f = (x, refl)

-- what is said of one opening of a label is said of every other: it is the same
pub same-opening : (Q : ℕ → Settings → Type 0) (h : History) (l : ℕ) {o : ℕ} {g : Settings} {t p : ℕ} {k : Settings} {u : ℕ} → Opening h l o g t → Opening h l p k u
    → Q o g → Q p k
same-opening Q h l {o} {g} {t} {p} {k} {u} v w x = let e = opening-one h l o g t p k u v w in subst₂ Q e.0 e.1 x

-- an accepted answer is of an open label and a thing that stands
pub record Granted (h : History) (l : ℕ) (thing : Thing) (c : Cause) (s : Story) : Type 0 where
  pub told : story l h ≡ some s
  pub standing : stands_at (clock_of h) s thing ≡ true
  pub by : cause_in h l s thing ≡ accepted c
  pub was : reason_of h l thing ≡ reason_in h l s thing

pub granted : (h : History) (l : ℕ) (thing : Thing) (c : Cause) → cause_of h l thing ≡ accepted c → (s : Story) × Granted h l thing c s
unfolding cause_of reason_of
granted h l thing c e = go (story l h) refl e
  where
    go : (o : Option Story) → story l h ≡ o → cause_told h l thing o ≡ accepted c → (s : Story) × Granted h l thing c s
    go none f z = clash (cc)
    go (some s) f z =
        split (stands_at (clock_of h) s thing)
        (λ y. (
          s,
          record {
            told = f;
            standing = y;
            by = ap (λ (b : Bool). cond b (cause_in h l s thing) (refused 15)) (sym y) ∙ z;
            was = ap (reason_told h l thing) f ∙ ap (λ (b : Bool). cond b (reason_in h l s thing) none) y;
          },
        ))
        (λ n. let w : refused 15 ≡ accepted c = ap (λ (b : Bool). cond b (cause_in h l s thing) (refused 15)) (sym n) ∙ z in clash (cc))

-- of the story that the label has
pub granted-in : (h : History) (l : ℕ) (thing : Thing) (c : Cause) (s : Story) → story l h ≡ some s → cause_of h l thing ≡ accepted c → Granted h l thing c s
granted-in h l thing c s f e =
    let G = granted h l thing c e in
    let i : G.0 ≡ s = cc (sym G.1.told ∙ f) in subst (λ (x : Story). Granted h l thing c x) i G.1

-- and by a mark
pub record ByMark {A : Type 0} (now : ℕ) (end : Mark A → ℕ) (c : Cause) (m : Option (Mark A)) (k : Mark A) : Type 0 where
  pub found : m ≡ some k
  pub number : c.number ≡ suc k.position
  pub reading : c.reading ≡ k.reading
  pub age : c.age ≡ now - k.reading
  pub ends : c.end ≡ end k

pub by-mark : {A : Type 0} (now : ℕ) (end : Mark A → ℕ) (c : Cause) (m : Option (Mark A)) → cause_by now end m ≡ accepted c → (k : Mark A) × ByMark now end c m k
by-mark now end c none e = clash (cc)
by-mark now end c (some k) e =
    let f : c ≡ record { number = suc k.position; reading = k.reading; age = now - k.reading; end = end k } = cc in (
      k,
      record {
        found = refl;
        number = ap (λ (x : Cause). x.number) f;
        reading = ap (λ (x : Cause). x.reading) f;
        age = ap (λ (x : Cause). x.age) f;
        ends = ap (λ (x : Cause). x.end) f;
      },
    )
