-- The four places of a record hold what the session's story says: the conditions that stand, how many they are, which of them the
-- session follows, and when a new one is refused.
-- Assumes nothing.
use mathlib.Core.Path.{◌≡◌, refl, sym, ap, subst, ◌∙◌}
use mathlib.Core.Bool.{Bool, true, false, cond, not, ◌&&◌, ◌||◌}
use mathlib.Core.List.Memᴰ
use mathlib.Core.List.{List, [], ◌∷◌, Memᴰ}
use mathlib.Core.Logic.{◌⊎◌, inl, inr, ⊎_elim}
use Prim.Native.Nat.{ℕ, ◌+◌, ◌≤◌}
use native.Mathlib.Omega.{arith}
use lib.Dec.{eqb, ltb}
use lib.ListN.{length}
use borrow.Author.Tests.{ne_eqb}
use Rattle.octets.specs.Choice.{bit_of}
use Rattle.octets.proofs.Chain.{and_both, bit-back}
use Rattle.fault.specs.declared.Fault.{Fault}
use Rattle.message.specs.declared.Message.{Message}
use Rattle.bfd.specs.declared.Packet.{Packet}
use Rattle.rules.specs.declared.Settings.{Settings}
use Rattle.rules.specs.declared.Key.{Key}
use Rattle.rules.specs.declared.Received.{Received}
use Rattle.rules.specs.declared.Received.TheVariants.{CrossedMessage, HeardCc, HeardCv, FaultMessage}
use Rattle.rules.specs.Times.{within, lifetime}
use Rattle.rules.specs.Conditions.{key_of, same_key, follows}
use Rattle.rules.specs.Lists.{any, only, once}
use Rattle.rules.proofs.Bools.{split, same_test, both_true, or_left, or_right, no_way, refuted, forced, true-false}
use Rattle.rules.proofs.Lists.{any_at, any-who, any_same, swap-same, once-cons, once-head, once-rest, same_length, any-only, once-only}
use Rattle.rules.proofs.SameKeys.{keys-alike, same-sym, same_refl, same-trans}
use Rattle.conditions.specs.declared.Condition.{Condition}
use Rattle.conditions.specs.declared.Conditions.{Conditions}
use Rattle.conditions.specs.Standing.{filled, fresh, place_stands, count_at, followed_with, any_followed_with, followed_at, any_followed}
use Rattle.conditions.specs.Taking.{empty, no_conditions, without, forgotten, free_place, placed, condition_of, fault_answer, taken_in}
use Rattle.conditions.proofs.Fading.{stands-before}
use Rattle.meaning.specs.Stories.{Story, opened, lock, unlock, got, wrote_cc, settings_of, was_to}
use Rattle.meaning.specs.Standing.{stands_by, stands, followed_by, followed_last, keys_by, keys_of, conditions, followed}
use Rattle.meaning.specs.Answers.{crowded}

-- the four places in their order
abbrev pub places : Conditions → List Condition
places cs = cs.first ∷ cs.second ∷ cs.third ∷ cs.fourth ∷ []

-- a place that passes a test and has the key
abbrev pub of_key : (Condition → Bool) → Key → Condition → Bool
of_key p k c = p c && same_key c.key k

-- a place in which the key stands at t
abbrev pub holds : ℕ → Key → Condition → Bool
holds t k c = place_stands c t && same_key c.key k

-- a place that a new condition may take at t
abbrev idle : ℕ → Condition → Bool
idle t c = not (place_stands c t)

-- the keys of the places that pass a test
unfoldable pub keys_in : (Condition → Bool) → List Condition → List Key
keys_in p [] = []
keys_in p (c ∷ cs) = cond (p c) (c.key ∷ keys_in p cs) (keys_in p cs)

-- the places hold what the story says, now and at every later reading; no two filled places share a key, whether it stands or not;
-- and a filled place tells whether the last message of its key is followed
pub record Kept (now : ℕ) (cs : Conditions) (s : Story) : Type 0 where
  pub holding : (t : ℕ) → now ≤ t → (k : Key) → any (holds t k) (places cs) ≡ stands t s k
  pub apart : once same_key (keys_in filled (places cs)) ≡ true
  pub following : (c : Condition) → Memᴰ c (places cs) → filled c ≡ true
      → follows (settings_of s) c.key.kind (eqb c.linkdown 1) ≡ followed_last s c.key

-- laws of tests
or_swap : (a b c : Bool) → a || (b || c) ≡ b || (a || c)
or_swap true true c = refl
or_swap true false c = refl
or_swap false b c = refl

plain : (b : Bool) → (b && true) || false ≡ b
plain true = refl
plain false = refl

neither : (b c : Bool) → (b && false) || c ≡ c
neither true c = refl
neither false c = refl

-- the four tests of the record, and the same as a test over a list
or-four : (a b c d : Bool) → a || b || c || d ≡ a || (b || (c || (d || false)))
or-four true b c d = refl
or-four false true c d = refl
or-four false false true d = refl
or-four false false false true = refl
or-four false false false false = refl

module _ {A : Type 0} (p q : A → Bool) (h : (x : A) → p x ≡ true → q x ≡ true) where
  -- a test that follows from another is passed by no element where the other is passed by none
  none-fewer : (xs : List A) → any q xs ≡ false → any p xs ≡ false
  none-fewer xs e = refuted (any p xs) (λ z. let w = any-who p xs z in true-false (any_at q w.1 (h w.0 w.2)) e)

-- The story

-- alike keys are found in the same lists
any-alike : (a b : Key) (ks : List Key) → same_key a b ≡ true → any (same_key a) ks ≡ any (same_key b) ks
any-alike a b ks e = any_same (same_key a) (same_key b) (λ y. same-sym a y ∙ swap-same same_key keys-alike a b y e ∙ same-sym y b) ks

-- a message adds its key only where it is new
once_by : (r : Received) (ks : List Key) → once same_key ks ≡ true → once same_key (keys_by r ks) ≡ true
once_by CrossedMessage ks o = o
once_by (HeardCc p) ks o = o
once_by HeardCv ks o = o
once_by (FaultMessage f) ks o =
    split (any (same_key (key_of f)) ks) (λ e. rw e o) (λ e. rw e (once-cons same_key keys-alike (key_of f) ks e o))

-- a story has each key once
pub keys-once : (s : Story) → once same_key (keys_of s) ≡ true
unfolding keys_of once
keys-once (opened g t) = refl
keys-once (lock s t) = keys-once s
keys-once (unlock s t) = keys-once s
keys-once (got s m t) = once_by (was_to s m) (keys_of s) (keys-once s)
keys-once (wrote_cc s) = keys-once s

-- by what the message was
stands_by_lem : (now t : ℕ) (k : Key) (r : Received) (ks : List Key) (b : Bool) → (b ≡ true → any (same_key k) ks ≡ true)
    → stands_by now t k r b ≡ true → any (same_key k) (keys_by r ks) ≡ true
unfolding any
stands_by_lem now t k CrossedMessage ks b h e = h e
stands_by_lem now t k (HeardCc p) ks b h e = h e
stands_by_lem now t k HeardCv ks b h e = h e
stands_by_lem now t k (FaultMessage f) ks b h e =
    split (any (same_key (key_of f)) ks)
    (λ z. rw z (split (same_key (key_of f) k) (λ q. any-alike k (key_of f) ks (same-sym k (key_of f) ∙ q) ∙ z) (λ q. h (rw q at e))))
    (λ z. rw z
    (split (same_key (key_of f) k) (λ q. or_left (any (same_key k) ks) (same-sym k (key_of f) ∙ q)) (λ q. or_right (same_key k (key_of f)) (h (rw q at e)))))

-- a key that stands is one of the story's keys
pub stands-has : (now : ℕ) (s : Story) (k : Key) → stands now s k ≡ true → any (same_key k) (keys_of s) ≡ true
unfolding keys_of stands
stands-has now (opened g t) k e = no_way e refl
stands-has now (lock s t) k e = stands-has now s k e
stands-has now (unlock s t) k e = stands-has now s k e
stands-has now (got s m t) k e = stands_by_lem now t k (was_to s m) (keys_of s) (stands now s k) (stands-has now s k) e
stands-has now (wrote_cc s) k e = stands-has now s k e

module _ (a b : Key) (same : same_key a b ≡ true) where
  -- by what the message was
  stands-by-alike : (now t : ℕ) (r : Received) {x y : Bool} → x ≡ y → stands_by now t a r x ≡ stands_by now t b r y
  stands-by-alike now t CrossedMessage h = h
  stands-by-alike now t (HeardCc p) h = h
  stands-by-alike now t HeardCv h = h
  stands-by-alike now t (FaultMessage f) h =
      λ i. cond (swap-same same_key keys-alike a b (key_of f) same i) (not f.removed && within t (lifetime f.refresh) now) (h i)

  -- alike keys stand alike
  pub stands_alike : (now : ℕ) (s : Story) → stands now s a ≡ stands now s b
  unfolding stands
  stands_alike now (opened g t) = refl
  stands_alike now (lock s t) = stands_alike now s
  stands_alike now (unlock s t) = stands_alike now s
  stands_alike now (got s m t) = stands-by-alike now t (was_to s m) (stands_alike now s)
  stands_alike now (wrote_cc s) = stands_alike now s

  -- by what the message was
  followed-by-alike : (g : Settings) (r : Received) {x y : Bool} → x ≡ y → followed_by g a r x ≡ followed_by g b r y
  followed-by-alike g CrossedMessage h = h
  followed-by-alike g (HeardCc p) h = h
  followed-by-alike g HeardCv h = h
  followed-by-alike g (FaultMessage f) h = λ i. cond (swap-same same_key keys-alike a b (key_of f) same i) (follows g f.kind f.linkdown) (h i)

  -- and are followed alike
  pub followed-alike : (s : Story) → followed_last s a ≡ followed_last s b
  unfolding followed_last
  followed-alike (opened g t) = refl
  followed-alike (lock s t) = followed-alike s
  followed-alike (unlock s t) = followed-alike s
  followed-alike (got s m t) = followed-by-alike (settings_of s) (was_to s m) (followed-alike s)
  followed-alike (wrote_cc s) = followed-alike s

-- Lists of places

-- the keys of the places that pass a test
pub any-keys : (p : Condition → Bool) (k : Key) (cs : List Condition) → any (same_key k) (keys_in p cs) ≡ any (of_key p k) cs
unfolding keys_in any
any-keys p k [] = refl
any-keys p k (c ∷ cs) =
    split (p c) (λ e. rw e (λ i. same-sym k c.key i || any-keys p k cs i)) (λ e. rw e (any-keys p k cs))

-- a place counts where it passes
length-keys : (p : Condition → Bool) (c : Condition) (cs : List Condition) → length (keys_in p (c ∷ cs)) ≡ bit_of (p c) + length (keys_in p cs)
unfolding keys_in
length-keys p c cs = split (p c) (λ e. rw e (omega arith)) (λ e. rw e (omega arith))

-- no place, no key
none-keys : (p : Condition → Bool) → length (keys_in p []) ≡ 0
unfolding keys_in
none-keys p = refl

module _ (p : Condition → Bool) (c : Condition) (cs : List Condition) where
  -- no two places that pass share a key: the first against the rest, the rest, and both together
  head_apart : once same_key (keys_in p (c ∷ cs)) ≡ true → p c ≡ true → any (of_key p c.key) cs ≡ false
  unfolding keys_in
  head_apart o e = sym (any-keys p c.key cs) ∙ once-head same_key keys-alike c.key (keys_in p cs) (rw e at o)

  rest-apart : once same_key (keys_in p (c ∷ cs)) ≡ true → once same_key (keys_in p cs) ≡ true
  unfolding keys_in
  rest-apart o = split (p c) (λ e. once-rest same_key keys-alike c.key (keys_in p cs) (rw e at o)) (λ e. rw e at o)

  cons-apart : (p c ≡ true → any (of_key p c.key) cs ≡ false) → once same_key (keys_in p cs) ≡ true → once same_key (keys_in p (c ∷ cs)) ≡ true
  unfolding keys_in
  cons-apart h o =
      split (p c) (λ e. rw e (once-cons same_key keys-alike c.key (keys_in p cs) (any-keys p c.key cs ∙ h e) o)) (λ e. rw e o)

-- fewer places share no key either
fewer-apart : (p q : Condition → Bool) → ((c : Condition) → p c ≡ true → q c ≡ true) → (cs : List Condition)
    → once same_key (keys_in q cs) ≡ true → once same_key (keys_in p cs) ≡ true
unfolding keys_in
fewer-apart p q h [] o = o
fewer-apart p q h (c ∷ cs) o =
    cons-apart p c cs
    (λ e. none-fewer (of_key p c.key) (of_key q c.key)
    (λ x z. let w = and_both (p x) (same_key x.key c.key) z in both_true (h x w.0) w.1)
    cs (head_apart q c cs o (h c e)))
    (fewer-apart p q h cs (rest-apart q c cs o))

-- a standing place is filled, and one that does not stand never will
stands-filled : (c : Condition) (t : ℕ) → place_stands c t ≡ true → filled c ≡ true
unfolding place_stands
stands-filled c t e = (and_both (filled c) (fresh c t) e).0

stays-idle : (t u : ℕ) → t ≤ u → (c : Condition) → place_stands c t ≡ false → place_stands c u ≡ false
stays-idle t u h c e = refuted (place_stands c u) (λ z. true-false (stands-before t u h c z) e)

-- an empty place does not stand
empty-idle : (t : ℕ) → place_stands empty t ≡ false
unfolding place_stands
empty-idle t = refl

-- forgetting a key, place by place
unfoldable forget : Key → List Condition → List Condition
forget k [] = []
forget k (c ∷ cs) = without k c ∷ forget k cs

module _ (k : Key) where
  -- what is left: nothing, or a place of another key
  mem-forget : (x : Condition) (cs : List Condition) → Memᴰ x (forget k cs) → (x ≡ empty) ⊎ (Memᴰ x cs × (same_key x.key k ≡ false))
  unfolding forget
  mem-forget x [] m = absurd (Memᴰ.not-nil m)
  mem-forget x (c ∷ cs) m =
      ⊎_elim
      (λ e. split (same_key c.key k)
      (λ z. inl (rw z at e))
      (λ z. let w : x ≡ c = rw z at e in inr (Memᴰ.head w, ap (λ (y : Condition). same_key y.key k) w ∙ z)))
      (λ n. ⊎_elim (λ e. inl e) (λ w. inr (Memᴰ.tail w.0, w.1)) (mem-forget x cs n))
      (Memᴰ.cases_cons m)

  module _ (p : Condition → Bool) (nothing : p empty ≡ false) where
    -- a test that is passed only by filled places: none passes after, where none did before
    forget-none : (cs : List Condition) → any p cs ≡ false → any p (forget k cs) ≡ false
    forget-none cs e =
        refuted (any p (forget k cs))
        (λ z. let w = any-who p (forget k cs) z in
        ⊎_elim (λ q. true-false w.2 (ap p q ∙ nothing)) (λ q. true-false (any_at p q.0 w.2) e) (mem-forget w.0 cs w.1))

    -- none, where all that pass have the key
    forget-gone : ((c : Condition) → p c ≡ true → same_key c.key k ≡ true) → (cs : List Condition) → any p (forget k cs) ≡ false
    forget-gone h cs =
        refuted (any p (forget k cs))
        (λ z. let w = any-who p (forget k cs) z in
        ⊎_elim (λ q. true-false w.2 (ap p q ∙ nothing)) (λ q. true-false (h w.0 w.2) q.1) (mem-forget w.0 cs w.1))

    -- the same, where all that pass have another
    forget-kept : ((c : Condition) → p c ≡ true → same_key c.key k ≡ false) → (cs : List Condition) → any p (forget k cs) ≡ any p cs
    unfolding any forget
    forget-kept h [] = refl
    forget-kept h (c ∷ cs) = λ i. one i || forget-kept h cs i
      where
        one : p (without k c) ≡ p c
        one = split (same_key c.key k) (λ z. rw z (nothing ∙ sym (refuted (p c) (λ q. true-false z (h c q))))) (λ z. rw z)

  -- no two filled places share a key, after as before
  forget-apart : (cs : List Condition) → once same_key (keys_in filled cs) ≡ true → once same_key (keys_in filled (forget k cs)) ≡ true
  unfolding forget
  forget-apart [] o = o
  forget-apart (c ∷ cs) o =
      cons-apart filled (without k c) (forget k cs)
      (split (same_key c.key k)
      (λ z. rw z (λ e. no_way e refl))
      (λ z. rw z (λ e. forget-none (of_key filled c.key) refl cs (head_apart filled c cs o e))))
      (forget-apart cs (rest-apart filled c cs o))

  -- a place is idle after, where the key stood
  forget-room : (t : ℕ) (cs : List Condition) → any (holds t k) cs ≡ true → any (idle t) (forget k cs) ≡ true
  unfolding any forget
  forget-room t [] e = no_way e refl
  forget-room t (c ∷ cs) e =
      split (holds t k c)
      (λ q. or_left {a = idle t (without k c)} (any (idle t) (forget k cs)) (rw ((and_both (place_stands c t) (same_key c.key k) q).1, empty-idle t)))
      (λ q. or_right (idle t (without k c)) (forget-room t cs (rw q at e)))

  -- as before, where it did not stand
  forget-idle : (t : ℕ) (cs : List Condition) → any (holds t k) cs ≡ false → any (idle t) (forget k cs) ≡ any (idle t) cs
  unfolding any forget
  forget-idle t [] e = refl
  forget-idle t (c ∷ cs) e = λ i. one i || forget-idle t cs (refuted (any (holds t k) cs) (λ z. true-false (or_right (holds t k c) z) e)) i
    where
      one : idle t (without k c) ≡ idle t c
      one =
          split (same_key c.key k)
          (λ z. let q : place_stands c t ≡ false = refuted (place_stands c t) (λ w. true-false (or_left (any (holds t k) cs) (both_true w z)) e) in rw (z, q, empty-idle t))
          (λ z. rw z)

-- a condition put into the first idle place
unfoldable put : ℕ → Condition → List Condition → List Condition
put t n [] = []
put t n (c ∷ cs) = cond (place_stands c t) (c ∷ put t n cs) (n ∷ cs)

module _ (t : ℕ) (n : Condition) where
  -- what is there: the new one, or one that was there
  mem-put : (x : Condition) (cs : List Condition) → Memᴰ x (put t n cs) → (x ≡ n) ⊎ Memᴰ x cs
  unfolding put
  mem-put x [] m = inr m
  mem-put x (c ∷ cs) m =
      split (place_stands c t)
      (λ z. ⊎_elim (λ e. inr (Memᴰ.head e)) (λ w. ⊎_elim (λ e. inl e) (λ y. inr (Memᴰ.tail y)) (mem-put x cs w))
      (Memᴰ.cases_cons (rw z at m)))
      (λ z. ⊎_elim (λ e. inl e) (λ w. inr (Memᴰ.tail w)) (Memᴰ.cases_cons (rw z at m)))

  -- none passes after, where the new one does not and none did before
  put-none : (p : Condition → Bool) (cs : List Condition) → p n ≡ false → any p cs ≡ false → any p (put t n cs) ≡ false
  put-none p cs new old =
      refuted (any p (put t n cs))
      (λ z. let w = any-who p (put t n cs) z in
      ⊎_elim (λ e. true-false w.2 (ap p e ∙ new)) (λ m. true-false (any_at p m w.2) old) (mem-put w.0 cs w.1))

  -- a test that no idle place passes: what is put comes to what was there
  put-any : (p : Condition → Bool) → ((c : Condition) → place_stands c t ≡ false → p c ≡ false) → (cs : List Condition)
      → any (idle t) cs ≡ true → any p (put t n cs) ≡ p n || any p cs
  unfolding any put
  put-any p h [] e = no_way e refl
  put-any p h (c ∷ cs) e =
      split (place_stands c t)
      (λ z. rw z (ap (λ (b : Bool). p c || b) (put-any p h cs (rw z at e)) ∙ or_swap (p c) (p n) (any p cs)))
      (λ z. rw (z, h c z))

  -- no two filled places share a key, where the new key is in none
  put-apart : (cs : List Condition) → any (of_key filled n.key) cs ≡ false → once same_key (keys_in filled cs) ≡ true
      → once same_key (keys_in filled (put t n cs)) ≡ true
  unfolding any put
  put-apart [] e o = o
  put-apart (c ∷ cs) e o =
      split (place_stands c t)
      (λ z. rw z
      (cons-apart filled c (put t n cs)
      (λ u. put-none (of_key filled c.key) cs (other u) (head_apart filled c cs o u))
      (put-apart cs rest (rest-apart filled c cs o))))
      (λ z. rw z (cons-apart filled n cs (λ u. rest) (rest-apart filled c cs o)))
    where
      rest : any (of_key filled n.key) cs ≡ false
      rest = refuted (any (of_key filled n.key) cs) (λ z. true-false (or_right (of_key filled n.key c) z) e)

      other : filled c ≡ true → of_key filled c.key n ≡ false
      other u =
          refuted (of_key filled c.key n)
          (λ z. true-false (or_left (any (of_key filled n.key) cs) (both_true u (same-sym c.key n.key ∙ (and_both (filled n) (same_key n.key c.key) z).1))) e)

-- The four places as a list

-- the record forgets a key in each place
places-forgotten : (cs : Conditions) (k : Key) → places (forgotten cs k) ≡ forget k (places cs)
unfolding forgotten forget
places-forgotten cs k = refl

-- nothing goes into place 4
places_same : (cs : Conditions) (n : Condition) → places (placed cs 4 n) ≡ places cs
unfolding placed
places_same cs n = refl

-- the first idle place of the four
places-put : (cs : Conditions) (t : ℕ) (n : Condition) → any (idle t) (places cs) ≡ true
    → places (placed cs (free_place cs t) n) ≡ put t n (places cs)
unfolding any placed free_place put
places-put cs t n e =
    split (place_stands cs.first t)
    (λ a. split (place_stands cs.second t)
    (λ b. split (place_stands cs.third t)
    (λ c. split (place_stands cs.fourth t) (λ d. no_way e (rw (a, b, c, d))) (λ d. rw (a, b, c, d)))
    (λ c. rw (a, b, c)))
    (λ b. rw (a, b)))
    (λ a. rw a)

-- a place is free if one of the four is idle
four-free : (a b c d : Bool)
    → eqb (cond a (cond b (cond c (cond d 4 3) 2) 1) 0) 4 ≡ not (not a || (not b || (not c || (not d || false))))
four-free true true true true = refl
four-free true true true false = refl
four-free true true false d = refl
four-free true false c d = refl
four-free false b c d = refl

-- of the record
no_place : (cs : Conditions) (t : ℕ) → eqb (free_place cs t) 4 ≡ not (any (idle t) (places cs))
unfolding any free_place
no_place cs t = four-free (place_stands cs.first t) (place_stands cs.second t) (place_stands cs.third t) (place_stands cs.fourth t)

-- and none is if four stand
four-stand : (a b c d : Bool) → ltb 3 (bit_of a + bit_of b + bit_of c + bit_of d) ≡ not (not a || (not b || (not c || (not d || false))))
four-stand true true true true = refl
four-stand true true true false = refl
four-stand true true false true = refl
four-stand true true false false = refl
four-stand true false true true = refl
four-stand true false true false = refl
four-stand true false false true = refl
four-stand true false false false = refl
four-stand false true true true = refl
four-stand false true true false = refl
four-stand false true false true = refl
four-stand false true false false = refl
four-stand false false true true = refl
four-stand false false true false = refl
four-stand false false false true = refl
four-stand false false false false = refl

-- of the record
no-idle : (cs : Conditions) (t : ℕ) → ltb 3 (count_at cs t) ≡ not (any (idle t) (places cs))
unfolding any count_at
no-idle cs t = four-stand (place_stands cs.first t) (place_stands cs.second t) (place_stands cs.third t) (place_stands cs.fourth t)

-- the number of standing places, as the length of the list of their keys
count-keys : (cs : Conditions) (t : ℕ) → count_at cs t ≡ length (keys_in (λ c. place_stands c t) (places cs))
unfolding count_at
count-keys cs t =
    let p : Condition → Bool = λ c. place_stands c t in
    let a = length-keys p cs.first (cs.second ∷ cs.third ∷ cs.fourth ∷ []) in
    let b = length-keys p cs.second (cs.third ∷ cs.fourth ∷ []) in
    let c = length-keys p cs.third (cs.fourth ∷ []) in
    let d = length-keys p cs.fourth [] in
    let z = none-keys p in
    omega arith

-- a place that is followed, over the list
any-followed : (g : Settings) (cs : Conditions) (t : ℕ) → any_followed g cs t ≡ any (λ c. followed_at g c t) (places cs)
unfolding any any_followed_with
any-followed g cs t = or-four (followed_at g cs.first t) (followed_at g cs.second t) (followed_at g cs.third t) (followed_at g cs.fourth t)

-- The steps of a story

-- the session opens with no condition
pub kept-opened : (g : Settings) (t : ℕ) → Kept t no_conditions (opened g t)
unfolding any once keys_in stands
kept-opened g t =
    record {
      holding = λ u h k. rw (empty-idle u);
      apart = refl;
      following = λ c m e. let w = mem-empty c m in no_way e (ap filled w);
    }
  where
    mem-empty : (c : Condition) → Memᴰ c (places no_conditions) → c ≡ empty
    mem-empty c m =
        ⊎_elim (λ e. e)
        (λ n. ⊎_elim (λ e. e)
        (λ o. ⊎_elim (λ e. e)
        (λ q. ⊎_elim (λ e. e) (λ r. absurd (Memᴰ.not-nil r)) (Memᴰ.cases_cons q))
        (Memᴰ.cases_cons o))
        (Memᴰ.cases_cons n))
        (Memᴰ.cases_cons m)

-- a later clock
pub kept-later : {cs : Conditions} {s : Story} (now later : ℕ) → now ≤ later → Kept now cs s → Kept later cs s
kept-later now later h K =
    record { holding = λ t l k. K.holding t (omega arith) k; apart = K.apart; following = K.following }

-- a step that says nothing of conditions
module _ {now : ℕ} {cs : Conditions} {s : Story} where
  -- what the story says of conditions is as before
  kept_same : (after : Story) → ((t : ℕ) (k : Key) → stands t after k ≡ stands t s k) → ((k : Key) → followed_last after k ≡ followed_last s k)
      → settings_of after ≡ settings_of s → Kept now cs s → Kept now cs after
  kept_same after st fo g K =
      record {
        holding = λ t h k. K.holding t h k ∙ sym (st t k);
        apart = K.apart;
        following = λ c m e. ap (λ (x : Settings). follows x c.key.kind (eqb c.linkdown 1)) g ∙ K.following c m e ∙ sym (fo c.key);
      }

  pub kept-lock : (t : ℕ) → Kept now cs s → Kept now cs (lock s t)
  unfolding stands followed_last settings_of
  kept-lock t K = kept_same (lock s t) (λ u k. refl) (λ k. refl) refl K

  pub kept-unlock : (t : ℕ) → Kept now cs s → Kept now cs (unlock s t)
  unfolding stands followed_last settings_of
  kept-unlock t K = kept_same (unlock s t) (λ u k. refl) (λ k. refl) refl K

  pub kept-wrote : Kept now cs s → Kept now cs (wrote_cc s)
  unfolding stands followed_last settings_of
  kept-wrote K = kept_same (wrote_cc s) (λ u k. refl) (λ k. refl) refl K

-- what a message does to the story
module _ (s : Story) (m : Message) (t : ℕ) {r : Received} (was : was_to s m ≡ r) where
  -- of a key that stands
  got-stands : (u : ℕ) (k : Key) → stands u (got s m t) k ≡ stands_by u t k r (stands u s k)
  unfolding stands
  got-stands u k = ap (λ (x : Received). stands_by u t k x (stands u s k)) was

  -- of a key that is followed
  got-followed : (k : Key) → followed_last (got s m t) k ≡ followed_by (settings_of s) k r (followed_last s k)
  unfolding followed_last
  got-followed k = ap (λ (x : Received). followed_by (settings_of s) k x (followed_last s k)) was

-- the settings stay
got-settings : (s : Story) (m : Message) (t : ℕ) → settings_of (got s m t) ≡ settings_of s
unfolding settings_of
got-settings s m t = refl

-- a message that is no fault message
module _ {now : ℕ} {cs : Conditions} {s : Story} (m : Message) (t : ℕ) where
  pub kept-crossed : was_to s m ≡ CrossedMessage → Kept now cs s → Kept now cs (got s m t)
  kept-crossed was K = kept_same (got s m t) (got-stands s m t was) (got-followed s m t was) (got-settings s m t) K

  pub kept-cc : (p : Packet) → was_to s m ≡ HeardCc p → Kept now cs s → Kept now cs (got s m t)
  kept-cc p was K = kept_same (got s m t) (got-stands s m t was) (got-followed s m t was) (got-settings s m t) K

  pub kept-cv : was_to s m ≡ HeardCv → Kept now cs s → Kept now cs (got s m t)
  kept-cv was K = kept_same (got s m t) (got-stands s m t was) (got-followed s m t was) (got-settings s m t) K

-- places that are those of a list
module _ {now : ℕ} {cs : Conditions} {s : Story} (xs : List Condition) (e : places cs ≡ xs) where
  kept-list : ((t : ℕ) → now ≤ t → (k : Key) → any (holds t k) xs ≡ stands t s k) → once same_key (keys_in filled xs) ≡ true
      → ((c : Condition) → Memᴰ c xs → filled c ≡ true → follows (settings_of s) c.key.kind (eqb c.linkdown 1) ≡ followed_last s c.key)
      → Kept now cs s
  kept-list ho ap fo =
      record {
        holding = λ t h k. rw e (ho t h k);
        apart = rw e ap;
        following = λ c m. fo c (subst (λ (l : List Condition). Memᴰ c l) e m);
      }

-- the place of a message with R clear
module _ (f : Fault) (t : ℕ) (kind : f.kind ≡ 0 → ⊥) where
  -- its type is not 0
  new-filled : filled (condition_of f t) ≡ true
  new-filled = rw (ne_eqb f.kind 0 kind)

  -- it stands for its lifetime from the reading
  new-stands : (u : ℕ) → place_stands (condition_of f t) u ≡ within t (lifetime f.refresh) u
  unfolding place_stands fresh
  new-stands u = rw new-filled

-- it is followed as the message is
new-follows : (g : Settings) (f : Fault) (t : ℕ)
    → follows g (condition_of f t).key.kind (eqb (condition_of f t).linkdown 1) ≡ follows g f.kind f.linkdown
new-follows g f t = λ i. follows g f.kind (bit-back f.linkdown (bit_of f.linkdown) refl i)

-- the test of a key that is forgotten
module _ (u : ℕ) (k m : Key) where
  -- a key that is alike is gone
  holds-gone : same_key k m ≡ true → (xs : List Condition) → any (holds u m) (forget k xs) ≡ false
  holds-gone e xs =
      forget-gone k (holds u m) (rw (empty-idle u))
      (λ c z. same-trans c.key m k (and_both (place_stands c u) (same_key c.key m) z).1 (same-sym m k ∙ e)) xs

  -- another is as before
  holds_kept : same_key k m ≡ false → (xs : List Condition) → any (holds u m) (forget k xs) ≡ any (holds u m) xs
  holds_kept e xs =
      forget-kept k (holds u m) (rw (empty-idle u))
      (λ c z. refuted (same_key c.key k)
      (λ w. true-false (same-trans k c.key m (same-sym k c.key ∙ w) (and_both (place_stands c u) (same_key c.key m) z).1) e)) xs

-- an accepted fault message
module _ {now : ℕ} {cs : Conditions} {s : Story} (m : Message) (f : Fault) (t : ℕ) (later : now ≤ t) (kind : f.kind ≡ 0 → ⊥)
    (was : was_to s m ≡ FaultMessage f) (K : Kept now cs s) where
  -- the key of the message is followed as the message says
  own : (k : Key) → same_key (key_of f) k ≡ true → followed_by (settings_of s) k (FaultMessage f) (followed_last s k) ≡ follows (settings_of s) f.kind f.linkdown
  own k q = rw q

  -- what is left is of other keys, of which the message says nothing
  kept-left : (c : Condition) → Memᴰ c (forget (key_of f) (places cs)) → filled c ≡ true
      → follows (settings_of (got s m t)) c.key.kind (eqb c.linkdown 1) ≡ followed_last (got s m t) c.key
  kept-left c n e =
      ⊎_elim (λ z. no_way e (ap filled z))
      (λ w. ap (λ (x : Settings). follows x c.key.kind (eqb c.linkdown 1)) (got-settings s m t)
      ∙ K.following c w.0 e
      ∙ sym (got-followed s m t was c.key ∙ other c.key (same-sym (key_of f) c.key ∙ w.1)))
      (mem-forget (key_of f) c (places cs) n)
    where
      other : (k : Key) → same_key (key_of f) k ≡ false → followed_by (settings_of s) k (FaultMessage f) (followed_last s k) ≡ followed_last s k
      other k q = rw q

  -- R set: the key is forgotten
  kept-cleared : f.removed ≡ true → Kept t (taken_in cs f t) (got s m t)
  unfolding taken_in
  kept-cleared r =
      rw r
      (kept-list (forget (key_of f) (places cs)) (places_same (forgotten cs (key_of f)) (condition_of f t) ∙ places-forgotten cs (key_of f))
      (λ u h k. holding u h k ∙ sym (got-stands s m t was u k)) (forget-apart (key_of f) (places cs) K.apart) kept-left)
    where
      holding : (u : ℕ) → t ≤ u → (k : Key)
          → any (holds u k) (forget (key_of f) (places cs)) ≡ cond (same_key (key_of f) k) (not f.removed && within t (lifetime f.refresh) u) (stands u s k)
      holding u h k =
          split (same_key (key_of f) k)
          (λ e. rw (e, r) (holds-gone u (key_of f) k e (places cs)))
          (λ e. rw e (holds_kept u (key_of f) k e (places cs) ∙ K.holding u (omega arith) k))

  -- R clear: the key is forgotten, and the condition takes the first idle place
  kept-told : f.removed ≡ false → any (idle t) (forget (key_of f) (places cs)) ≡ true → Kept t (taken_in cs f t) (got s m t)
  unfolding taken_in
  kept-told r room =
      rw r
      (kept-list (put t n left) taken
      (λ u h k. holding u h k ∙ sym (got-stands s m t was u k))
      (put-apart t n left
      (forget-gone (key_of f) (of_key filled (key_of f)) refl (λ c z. (and_both (filled c) (same_key c.key (key_of f)) z).1) (places cs))
      (forget-apart (key_of f) (places cs) K.apart))
      (λ c i e. ⊎_elim (λ q. following c q) (λ j. kept-left c j e) (mem-put t n c left i)))
    where
      n : Condition
      n = condition_of f t

      left : List Condition
      left = forget (key_of f) (places cs)

      taken : places (placed (forgotten cs (key_of f)) (free_place (forgotten cs (key_of f)) t) n) ≡ put t n left
      taken =
          places-put (forgotten cs (key_of f)) t n (ap (any (idle t)) (places-forgotten cs (key_of f)) ∙ room)
          ∙ ap (put t n) (places-forgotten cs (key_of f))

      both : (u : ℕ) → t ≤ u → (k : Key) → any (holds u k) (put t n left) ≡ holds u k n || any (holds u k) left
      both u h k = put-any t n (holds u k) (λ c z. rw (stays-idle t u h c z)) left room

      holding : (u : ℕ) → t ≤ u → (k : Key)
          → any (holds u k) (put t n left) ≡ cond (same_key (key_of f) k) (not f.removed && within t (lifetime f.refresh) u) (stands u s k)
      holding u h k =
          split (same_key (key_of f) k)
          (λ e. rw (e, r)
          (both u h k
          ∙ (λ i. (new-stands f t kind u i && e i) || holds-gone u (key_of f) k e (places cs) i)
          ∙ plain (within t (lifetime f.refresh) u)))
          (λ e. rw e
          (both u h k
          ∙ (λ i. (new-stands f t kind u i && e i) || (holds_kept u (key_of f) k e (places cs) ∙ K.holding u (omega arith) k) i)
          ∙ neither (within t (lifetime f.refresh) u) (stands u s k)))

      following : (c : Condition) → c ≡ n → follows (settings_of (got s m t)) c.key.kind (eqb c.linkdown 1) ≡ followed_last (got s m t) c.key
      following c q =
          rw q
          (ap (λ (x : Settings). follows x n.key.kind (eqb n.linkdown 1)) (got-settings s m t)
          ∙ new-follows (settings_of s) f t
          ∙ sym (got-followed s m t was (key_of f) ∙ own (key_of f) (same_refl (key_of f))))

  -- the message's key stands as the message says, every other key as before
  kept-taken : fault_answer cs f t ≡ 0 → Kept t (taken_in cs f t) (got s m t)
  unfolding fault_answer
  kept-taken a =
      split f.removed (λ r. kept-cleared r)
      (λ r. kept-told r
      (forced (any (idle t) (forget (key_of f) (places cs)))
      (λ z. let q : eqb (free_place (forgotten cs (key_of f)) t) 4 ≡ true = no_place (forgotten cs (key_of f)) t ∙ ap (λ b. not (any (idle t) b)) (places-forgotten cs (key_of f)) ∙ ap not z in
      omega (arith, rw (r, q) at a))))

-- an accepted fault message, of a type that is not 0, keeps the places in step with the story
pub kept-fault : {now : ℕ} {cs : Conditions} {s : Story} (m : Message) (f : Fault) (t : ℕ) → now ≤ t → (f.kind ≡ 0 → ⊥)
    → was_to s m ≡ FaultMessage f → fault_answer cs f t ≡ 0 → Kept now cs s → Kept t (taken_in cs f t) (got s m t)
kept-fault m f t h kind was a K = kept-taken m f t h kind was K a

-- What the places say

module _ {now : ℕ} {cs : Conditions} {s : Story} (t : ℕ) (h : now ≤ t) (K : Kept now cs s) where
  -- as many places stand as the story has conditions: the standing keys of both, each once
  pub kept-count : count_at cs t ≡ conditions t s
  unfolding conditions
  kept-count =
      count-keys cs t
      ∙ same_length same_key keys-alike (keys_in (λ c. place_stands c t) (places cs)) (only (stands t s) (keys_of s))
      (fewer-apart (λ c. place_stands c t) filled (λ c e. stands-filled c t e) (places cs) K.apart)
      (once-only same_key keys-alike (stands t s) fair (keys_of s) (keys-once s))
      (λ k. any-keys (λ c. place_stands c t) k (places cs) ∙ K.holding t h k ∙ sym (any-only same_key keys-alike (stands t s) fair k (keys_of s) ∙ known k))
    where
      fair : (a b : Key) → same_key a b ≡ true → stands t s a ≡ stands t s b
      fair a b e = stands_alike a b e t s

      known : (k : Key) → any (same_key k) (keys_of s) && stands t s k ≡ stands t s k
      known k =
          same_test (any (same_key k) (keys_of s) && stands t s k) (stands t s k)
          (λ e. (and_both (any (same_key k) (keys_of s)) (stands t s k) e).1) (λ e. both_true (stands-has t s k e) e)

  -- a standing place is followed if the story says so of its key
  pub kept-followed : any_followed (settings_of s) cs t ≡ followed t s
  unfolding followed_with followed
  kept-followed = any-followed (settings_of s) cs t ∙ same_test (any place (places cs)) (any told (keys_of s)) to from
    where
      place : Condition → Bool
      place c = place_stands c t && follows (settings_of s) c.key.kind (eqb c.linkdown 1)

      told : Key → Bool
      told k = stands t s k && followed_last s k

      fair : (a b : Key) → same_key a b ≡ true → told a ≡ told b
      fair a b e = λ i. stands_alike a b e t s i && followed-alike a b e s i

      to : any place (places cs) ≡ true → any told (keys_of s) ≡ true
      to e =
          let w = any-who place (places cs) e in
          let c = w.0 in
          let b = and_both (place_stands c t) (follows (settings_of s) c.key.kind (eqb c.linkdown 1)) w.2 in
          let up : stands t s c.key ≡ true = sym (K.holding t h c.key) ∙ any_at (holds t c.key) w.1 (both_true b.0 (same_refl c.key)) in
          let on : followed_last s c.key ≡ true = sym (K.following c w.1 (stands-filled c t b.0)) ∙ b.1 in
          let k = any-who (same_key c.key) (keys_of s) (stands-has t s c.key up) in
          any_at told k.1 (sym (fair c.key k.0 k.2) ∙ both_true up on)

      from : any told (keys_of s) ≡ true → any place (places cs) ≡ true
      from e =
          let k = any-who told (keys_of s) e in
          let b = and_both (stands t s k.0) (followed_last s k.0) k.2 in
          let w = any-who (holds t k.0) (places cs) (K.holding t h k.0 ∙ b.0) in
          let c = w.0 in
          let d = and_both (place_stands c t) (same_key c.key k.0) w.2 in
          any_at place w.1
          (both_true d.0 (K.following c w.1 (stands-filled c t d.0) ∙ followed-alike c.key k.0 d.1 s ∙ b.1))

-- a new condition is refused when the story says that four others stand
pub kept-crowded : {now : ℕ} {cs : Conditions} {s : Story} (f : Fault) (t : ℕ) → now ≤ t → Kept now cs s
    → fault_answer cs f t ≡ cond (crowded s f t) 9 0
unfolding fault_answer
kept-crowded {cs = cs} {s = s} f t h K =
    split f.removed (λ r. rw r) (λ r. rw r (ap (λ (b : Bool). cond b 9 0) full))
  where
    k : Key
    k = key_of f

    room : eqb (free_place (forgotten cs k) t) 4 ≡ not (any (idle t) (forget k (places cs)))
    room = no_place (forgotten cs k) t ∙ ap (λ (l : List Condition). not (any (idle t) l)) (places-forgotten cs k)

    full : eqb (free_place (forgotten cs k) t) 4 ≡ not (stands t s k) && ltb 3 (conditions t s)
    full =
        room
        ∙ split (any (holds t k) (places cs))
        (λ e. let q : stands t s k ≡ true = sym (K.holding t h k) ∙ e in rw (q, forget-room k t (places cs) e))
        (λ e. let q : stands t s k ≡ false = sym (K.holding t h k) ∙ e in
        ap not (forget-idle k t (places cs) e)
        ∙ sym (no-idle cs t)
        ∙ ap (ltb 3) (kept-count t h K)
        ∙ ap (λ (b : Bool). not b && ltb 3 (conditions t s)) (sym q))
