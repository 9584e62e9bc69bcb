-- The answer from marks, record and clock is the answer from the history.
-- Assumes nothing.
use Prim.Native.Nat.{ℕ, suc, ◌+◌, ◌≤◌, ◌<◌}
use native.Mathlib.Omega.{arith}
use mathlib.Core.Path.{◌≡◌, refl, sym, ap, ◌∙◌, subst}
use mathlib.Core.Bool.{Bool, true, false, cond, not, ◌&&◌}
use mathlib.Core.Option.{Option, none, some}
use mathlib.Core.Logic.{⊎_elim}
use mathlib.Core.List.{List, [], ◌∷◌}
use lib.Dec.{eqb}
use borrow.Author.Tests.{eqb-true, ltb-true, leb-true}
use Rattle.octets.specs.Choice.{refused}
use Rattle.octets.proofs.Chain.{and_both}
use Rattle.fault.specs.declared.Fault.{Fault}
use Rattle.rules.specs.declared.Key.{Key}
use Rattle.rules.specs.Times.{latest, crossing_time, detection_time, past}
use Rattle.rules.specs.Conditions.{same_key}
use Rattle.rules.specs.Lists.{any, only}
use Rattle.rules.proofs.Bools.{split, no_way, both_true, or_left, or_cases}
use Rattle.rules.proofs.Lists.{any_at, any-who}
use Rattle.rules.proofs.SameKeys.{same-sym, same_refl, same-trans}
use Rattle.conditions.specs.declared.Condition.{Condition}
use Rattle.conditions.specs.Standing.{filled, place_stands}
use Rattle.session.specs.declared.Session.{Session}
use Rattle.session.specs.Queries.{locked_in, source_up_in, loss_at, crossing_at}
use Rattle.session.proofs.Sound.{Says, sound-says}
use Rattle.meaning.specs.Stories.{Story}
use Rattle.meaning.specs.Standing.{crossing, loss, stands, keys_of}
use Rattle.meaning.specs.Histories.{History, clock_of, story}
use Rattle.meaning.proofs.Places.{places, of_key, keys_in, any-keys}
use Rattle.meaning.proofs.Accounted.{keys-standing}
use Rattle.meaning.proofs.Fits.{Fits, same-loss}
use Rattle.cause.specs.declared.Marks.{Marks}
use Rattle.cause.specs.declared.Thing.{Thing}
use Rattle.cause.specs.declared.Thing.TheVariants.{Crossing, Loss, Condition as OfKey, HeldBack}
use Rattle.cause.specs.Marks.{Mark, last_crossed, last_restart, last_of_key}
use Rattle.cause.specs.Causes.{is_held_back, crossing_end, loss_from, condition_end, last_ending, last_holding, cause_by, cause_in, cause_of}
use Rattle.cause.specs.FromMarks.{later_by, best_of, because, because_of, stands_as, cause_from}
use Rattle.cause.proofs.HeldBack.{only-pass, ending-who, is-held-back}
use Rattle.cause.proofs.Traced.{Numbered, Traced}
use Rattle.cause.proofs.Candidates.{later-by, Like, because-like, best-like, only_one, Within, alike-ending}

-- the answer by a number beside a date
numbered-because : {A : Type 0} {o : Option (Mark A)} {number : ℕ} {Is : Mark A → Type 0} (N : Numbered o number Is) (now at end : ℕ) (end_of : Mark A → ℕ)
    → at ≡ N.mark.reading → end ≡ end_of N.mark → because true now number at end ≡ cause_by now end_of o
numbered-because N now at end end_of p q = (λ i. because true now (N.number-so i) (p i) (q i)) ∙ sym (ap (cause_by now end_of) N.found)

module _ (h : History) (l : ℕ) (s : Story) (e : story l h ≡ some s) (r : Session) (m : Marks) (kept : List ℕ) (F : Fits (clock_of h) r s)
    (T : Traced h l r m kept) (low : clock_of h ≤ latest) where
  abbrev now : ℕ
  now = clock_of h

  says : Says r now
  says = sound-says r now F.sound

  -- the best of the places that pass a test
  like-places : (p : Condition → Bool) → ((c : Condition) → p c ≡ true → filled c ≡ true)
      → Like (best_of p r.conditions m) (last_ending l h (keys_in p (places r.conditions)))
  like-places p f = best-like h l p r.conditions m now T.places low says.conditions f

  -- the keys that stand are those of the standing places
  standing-places : (key : Key) → any (same_key key) (keys_in (λ c. place_stands c now) (places r.conditions)) ≡ stands now s key
  standing-places key = any-keys (λ c. place_stands c now) key (places r.conditions) ∙ F.places.holding now (omega arith) key

  -- the place that holds the alarm back
  pub like-held : Like (best_of (λ c. place_stands c now) r.conditions m) (last_holding h l s)
  unfolding place_stands
  like-held =
      subst (Like (best_of (λ c. place_stands c now) r.conditions m))
      (alike-ending h l s e (keys_in (λ c. place_stands c now) (places r.conditions)) (only (stands now s) (keys_of s))
      (λ key z. keys-standing now s key ∙ sym (standing-places key) ∙ z) (λ key z. standing-places key ∙ sym (keys-standing now s key) ∙ z))
      (like-places (λ c. place_stands c now) (λ c z. (and_both _ _ z).0))

  -- a place of the key has the key
  of_one : (key : Key) → Within (keys_in (stands_as key now) (places r.conditions)) (key ∷ [])
  unfolding any
  of_one key other z =
      let w = any-who (of_key (stands_as key now) other) (places r.conditions) (sym (any-keys (stands_as key now) other (places r.conditions)) ∙ z) in
      let v = and_both (stands_as key now w.0) (same_key w.0.key other) w.2 in
      or_left _ (same-trans other w.0.key key (same-sym other w.0.key ∙ v.1) (and_both (place_stands w.0 now) (same_key w.0.key key) v.0).1)

  -- and where it stands there is one
  one_of : (key : Key) → stands now s key ≡ true → Within (key ∷ []) (keys_in (stands_as key now) (places r.conditions))
  unfolding any
  one_of key c other z =
      let w = any-who (stands_as key now) (places r.conditions) (F.places.holding now (omega arith) key ∙ c) in
      let same : same_key other key ≡ true = ⊎_elim (λ x. x) (λ x. no_way x refl) (or_cases _ _ z) in
      let v : same_key w.0.key other ≡ true =
      same-trans w.0.key key other (and_both (place_stands w.0 now) (same_key w.0.key key) w.2).1 (same-sym key other ∙ same) in
      any-keys (stands_as key now) other (places r.conditions) ∙ any_at (of_key (stands_as key now) other) w.1 (both_true w.2 v)

  like-of-key : (key : Key) → Like (best_of (stands_as key now) r.conditions m) (last_ending l h (keys_in (stands_as key now) (places r.conditions)))
  unfolding place_stands
  like-of-key key = like-places (stands_as key now) (λ d z. (and_both _ _ (and_both _ _ z).0).0)

  -- the place of a key that stands
  pub like-key : (key : Key) → stands now s key ≡ true → Like (best_of (stands_as key now) r.conditions m) (last_of_key l key h)
  like-key key c =
      subst (Like (best_of (stands_as key now) r.conditions m))
      (alike-ending h l s e (keys_in (stands_as key now) (places r.conditions)) (key ∷ []) (of_one key) (one_of key c) ∙ only_one h l key) (like-of-key key)

  from_key : (key : Key) → stands now s key ≡ true → because_of now (best_of (stands_as key now) r.conditions m) ≡ cause_by now condition_end (last_of_key l key h)
  from_key key c = because-like now (best_of (stands_as key now) r.conditions m) (last_of_key l key h) (like-key key c)

  -- of a key that does not stand there is no place
  not_key : (key : Key) → stands now s key ≡ false → because_of now (best_of (stands_as key now) r.conditions m) ≡ refused 15
  not_key key n =
      because-like now (best_of (stands_as key now) r.conditions m) (last_ending l h (keys_in (stands_as key now) (places r.conditions))) (like-of-key key)
      ∙ go (last_ending l h (keys_in (stands_as key now) (places r.conditions))) refl
    where
      go : (o : Option (Mark Fault)) → last_ending l h (keys_in (stands_as key now) (places r.conditions)) ≡ o → cause_by now condition_end o ≡ refused 15
      go none f = refl
      go (some k) f =
          let w = ending-who l h (keys_in (stands_as key now) (places r.conditions)) k f in
          let v = any-who (of_key (stands_as key now) w.0) (places r.conditions)
          (sym (any-keys (stands_as key now) w.0 (places r.conditions)) ∙ any_at (same_key w.0) w.1 (same_refl w.0)) in
          no_way (sym (F.places.holding now (omega arith) key) ∙ any_at (stands_as key now) v.1 (and_both _ _ v.2).0) n

  -- an alarm that is not held back, where there is a loss
  not-held : loss now s ≡ true → is_held_back now s ≡ false → cause_by now condition_end (last_holding h l s) ≡ refused 15
  not-held c n = go (last_holding h l s) refl
    where
      go : (o : Option (Mark Fault)) → last_holding h l s ≡ o → cause_by now condition_end o ≡ refused 15
      go none f = refl
      go (some k) f =
          let w = ending-who l h (only (stands now s) (keys_of s)) k f in
          no_way (is-held-back now s w.0 c (only-pass (stands now s) (keys_of s) w.1)) n

  -- a crossing that stands has its mark
  pub crossing-marked : crossing now s ≡ true → r.crossing ≡ 1
  unfolding crossing_at
  crossing-marked c = eqb-true r.crossing 1 (and_both (eqb r.crossing 1) _ (F.crossing now (omega arith) ∙ c)).0

  from-crossing : crossing now s ≡ true → because true now m.crossed r.crossed (later_by r.crossed crossing_time) ≡ cause_by now crossing_end (last_crossed l h)
  from-crossing c =
      let one : r.crossing ≡ 1 = crossing-marked c in
      let N = T.crossed one in
      let dated : r.crossed ≤ now =
      ⊎_elim (λ z. absurd (let y : r.crossing ≡ 0 = eqb-true r.crossing 0 z in omega arith)) (λ z. leb-true r.crossed now z) (or_cases _ _ says.crossed) in
      numbered-because N now r.crossed (later_by r.crossed crossing_time) crossing_end N.so.0
      (later-by r.crossed crossing_time (omega arith) ∙ ap (λ (t : ℕ). t + crossing_time) N.so.0)

  -- a loss: its detection time has gone, so its end is not too great
  loss-gone : loss now s ≡ true → r.timed + detection_time r.settings.period r.peer.multiplier < now
  unfolding loss_at past
  loss-gone c =
      let gone = past r.timed (detection_time r.settings.period r.peer.multiplier) now in
      let free = (and_both (not (locked_in r)) (not (source_up_in r) && gone) (same-loss F now ∙ c)).1 in
      ltb-true _ now (and_both (not (source_up_in r)) gone free).1

  from-loss : loss now s ≡ true
      → because true now m.timed r.timed (later_by r.timed (suc (detection_time r.settings.period r.peer.multiplier))) ≡ cause_by now (loss_from s) (last_restart l h)
  from-loss c =
      let N = T.timed in
      let time : ℕ = detection_time r.settings.period r.peer.multiplier in
      let gone : r.timed + time < now = loss-gone c in
      let one_on : r.timed + suc time ≡ suc (r.timed + time) = omega arith in
      numbered-because N now r.timed (later_by r.timed (suc time)) (loss_from s) N.so.0
      (later-by r.timed (suc time) (omega arith) ∙ one_on ∙ (λ i. suc (N.so.0 i + detection_time (F.settings i).period (F.multiplier i))))

  -- the answer of the marks is the answer of the history
  pub cause-traced : (thing : Thing) → cause_from m r now thing ≡ cause_of h l thing
  unfolding cause_from cause_of
  cause-traced Crossing =
      split (crossing now s)
      (λ c. rw (e, F.crossing now (omega arith), c) (from-crossing c))
      (λ c. rw (e, F.crossing now (omega arith), c))
  cause-traced Loss = split (loss now s) (λ c. rw (e, same-loss F now, c) (from-loss c)) (λ c. rw (e, same-loss F now, c))
  cause-traced (OfKey key) = split (stands now s key) (λ c. rw e (from_key key c ∙ rw c)) (λ c. rw e (not_key key c ∙ rw c))
  cause-traced HeldBack =
      split (loss now s)
      (λ c.
      rw (e, same-loss F now ∙ c)
      (because-like now (best_of (λ d. place_stands d now) r.conditions m) (last_holding h l s) like-held
      ∙ split (is_held_back now s)
      (λ z. sym (ap (λ (b : Bool). cond b (cause_in h l s HeldBack) (refused 15)) z))
      (λ z. not-held c z ∙ sym (ap (λ (b : Bool). cond b (cause_in h l s HeldBack) (refused 15)) z))))
      (λ c. rw (e, same-loss F now, c))
