-- A condition stands where its key's last message accounts for it, and only there.
-- Assumes nothing.
use Prim.Native.Nat.{ℕ, ◌+◌, ◌*◌, ◌<◌}
use native.Mathlib.Omega.{arith}
use mathlib.Core.Path.{◌≡◌, refl, sym, ap, ◌∙◌, subst}
use mathlib.Core.Bool.{Bool, true, not, ◌&&◌}
use mathlib.Core.Option.{some}
use mathlib.Core.List.{List}
use mathlib.Core.Logic.{⊎_elim}
use borrow.Author.Tests.{ltb-true, lt-ltb, not-true}
use Rattle.octets.proofs.Chain.{and_both}
use Rattle.fault.specs.declared.Fault.{Fault}
use Rattle.message.specs.Message.{message_of}
use Rattle.rules.specs.declared.Key.{Key}
use Rattle.rules.specs.declared.Settings.{Settings}
use Rattle.rules.specs.declared.Received.{Received}
use Rattle.rules.specs.declared.Received.TheVariants.{CrossedMessage, HeardCc, HeardCv, FaultMessage}
use Rattle.rules.specs.Received.{received_as}
use Rattle.rules.specs.Times.{within, lifetime}
use Rattle.rules.specs.Conditions.{key_of, same_key}
use Rattle.rules.specs.Calls.{Receive, Call, On, Said, is_accepted}
use Rattle.rules.proofs.Bools.{split, no_way, both_true, true-false}
use Rattle.meaning.specs.Stories.{Story, got, settings_of}
use Rattle.meaning.specs.Standing.{stands_by, stands}
use Rattle.meaning.specs.Histories.{History, start, after, story}
use Rattle.meaning.specs.Accounts.{size, Opening, ReceivedSince, AccountsForCondition}
use Rattle.meaning.proofs.Positions.{Same, messaging, flipped, carried, took-below, none-beyond, opening-kept, heard-kept, heard-on, opening-settings, none-heard, opening-after, opening-before, heard-new, heard-cases, Turn, by_open, by_message, by_other, turn, none_open, opening-told}

-- a condition that stands has a call that accounts for it, and each such call shows that it stands
abbrev Accounted : History → ℕ → Key → ℕ → Story → Type 0
Accounted h l key now s =
    (stands now s key ≡ true → (p : ℕ) × AccountsForCondition h l key now p) × ((p : ℕ) → AccountsForCondition h l key now p → stands now s key ≡ true)

-- R clear, and fresh
abbrev lasts : ℕ → ℕ → Fault → Bool
lasts now t f = not f.removed && within t (lifetime f.refresh) now

-- a message is a fault message of the key, which alone says whether the condition stands; or it is not, and nothing alters
data Bearing (now t : ℕ) (key : Key) (x : Received) : Type 0 where
  own : (f : Fault) → x ≡ FaultMessage f → same_key (key_of f) key ≡ true → ((old : Bool) → stands_by now t key x old ≡ lasts now t f) → Bearing now t key x
  other : ((f : Fault) → x ≡ FaultMessage f → same_key (key_of f) key ≡ true → ⊥) → ((old : Bool) → stands_by now t key x old ≡ old) → Bearing now t key x

-- which of the two
bearing : (now t : ℕ) (key : Key) (x : Received) → Bearing now t key x
bearing now t key CrossedMessage = other (λ f e k. let z : ◌≡◌ {A = ℕ} 0 1 = cc in omega arith) (λ old. refl)
bearing now t key (HeardCc p) = other (λ f e k. let z : ◌≡◌ {A = ℕ} 0 1 = cc in omega arith) (λ old. refl)
bearing now t key HeardCv = other (λ f e k. let z : ◌≡◌ {A = ℕ} 0 1 = cc in omega arith) (λ old. refl)
bearing now t key (FaultMessage f) =
    split (same_key (key_of f) key)
    (λ k. own f refl k (λ old. rw k))
    (λ n. other (λ g e k. let z : f ≡ g = cc in true-false (ap (λ (b : Fault). same_key (key_of b) key) z ∙ k) n) (λ old. rw n))

-- the same opens, closes and messages, the same account
account-kept : {l : ℕ} {h k : History} → Same messaging l h k → {key : Key} {now p : ℕ} → AccountsForCondition h l key now p → AccountsForCondition k l key now p
account-kept S A =
    record {
      o = A.o;
      settings = A.settings;
      opened_at = A.opened_at;
      opening = opening-kept S (λ u. refl) A.opening;
      reading = A.reading;
      fault = A.fault;
      message = heard-kept S (λ m u. refl) A.message;
      own = A.own;
      latest = λ q u f b H k. A.latest q u f b (heard-kept (flipped S) (λ m u. refl) H) k;
      present = A.present;
      fresh = A.fresh;
    }

module _ (h : History) (d : Call) (a : Said) (l : ℕ) (key : Key) (now : ℕ) (r : Story) (m : List ℕ) (t : ℕ) (f : story l h ≡ some r) (e : d ≡ On l (Receive m t)) (y : is_accepted a ≡ true) where
  -- the settings of an opening before the message are those of the story
  known : {o : ℕ} {g : Settings} {v : ℕ} → Opening h l o g v → received_as g (message_of m) ≡ received_as (settings_of r) (message_of m)
  known O = ap (λ (k : Settings). received_as k (message_of m)) (opening-settings O (opening-told h l r f).2)

  -- a fault message of the key accounts itself, if R is clear and it is fresh; and no earlier one does
  module _ (x : Fault) (is : received_as (settings_of r) (message_of m) ≡ FaultMessage x) (same : same_key (key_of x) key ≡ true) where
    -- it alone shows that the condition stands
    own-shows : (p : ℕ) → AccountsForCondition (after h d a) l key now p → lasts now t x ≡ true
    unfolding within
    own-shows p A =
        let O = opening-before h d a e y A.opening in
        ⊎_elim
        (λ z.
        let i : FaultMessage x ≡ FaultMessage A.fault = sym is ∙ sym (known O) ∙ z.2 in
        let j : A.fault ≡ x = cc in
        let b : now < t + 3500000 * x.refresh = omega (arith, z.1, ap (λ (g : Fault). g.refresh) j, A.fresh) in
        both_true (ap not (ap (λ (g : Fault). g.removed) (sym j) ∙ A.present)) (lt-ltb now _ b))
        (λ H. absurd
        (A.latest (size h) t x (took-below h p _ H.message.1)
        (subst (λ (z : Received). ReceivedSince (after h d a) l A.o A.settings (size h) t z) (known O ∙ is)
        (heard-new h d a e y (took-below h _ _ O.took))) same))
        (heard-cases h d a e y A.message)

    -- and it accounts
    own-accounts : lasts now t x ≡ true → (p : ℕ) × AccountsForCondition (after h d a) l key now p
    unfolding within
    own-accounts z =
        let c = and_both _ _ z in
        let O = opening-told h l r f in (
          size h,
          record {
            o = O.0;
            settings = settings_of r;
            opened_at = O.1;
            opening = opening-after h d a e y O.2;
            reading = t;
            fault = x;
            message =
                subst (λ (z : Received). ReceivedSince (after h d a) l O.0 (settings_of r) (size h) t z) is
                (heard-new h d a e y (took-below h _ _ O.2.took));
            own = same;
            latest = λ q u g b H k. none-beyond h d a q _ b H.message.1;
            present = not-true _ c.0;
            fresh = omega (arith, ltb-true now (t + 3500000 * x.refresh) c.1);
          },
        )

  -- any other message leaves the account as it is
  module _ (not_own : (g : Fault) → received_as (settings_of r) (message_of m) ≡ FaultMessage g → same_key (key_of g) key ≡ true → ⊥) where
    -- from before to after
    other-on : (p : ℕ) → AccountsForCondition h l key now p → AccountsForCondition (after h d a) l key now p
    other-on p A =
        record {
          o = A.o;
          settings = A.settings;
          opened_at = A.opened_at;
          opening = opening-after h d a e y A.opening;
          reading = A.reading;
          fault = A.fault;
          message = heard-on d a A.message;
          own = A.own;
          latest = λ q u g b H k.
              ⊎_elim (λ z. not_own g (sym (known A.opening) ∙ z.2) k) (λ G. A.latest q u g b G k) (heard-cases h d a e y H);
          present = A.present;
          fresh = A.fresh;
        }

    -- and back
    other-back : (p : ℕ) → AccountsForCondition (after h d a) l key now p → AccountsForCondition h l key now p
    other-back p A =
        let O = opening-before h d a e y A.opening in
        ⊎_elim
        (λ z. absurd (not_own A.fault (sym (known O) ∙ z.2) A.own))
        (λ H. record {
          o = A.o;
          settings = A.settings;
          opened_at = A.opened_at;
          opening = O;
          reading = A.reading;
          fault = A.fault;
          message = H;
          own = A.own;
          latest = λ q u g b G k. A.latest q u g b (heard-on d a G) k;
          present = A.present;
          fresh = A.fresh;
        })
        (heard-cases h d a e y A.message)

  -- so one message more
  by-message : Accounted h l key now r → Accounted (after h d a) l key now (got r (message_of m) t)
  unfolding stands
  by-message earlier = by-bearing (bearing now t key (received_as (settings_of r) (message_of m)))
    where
      by-bearing : Bearing now t key (received_as (settings_of r) (message_of m)) → Accounted (after h d a) l key now (got r (message_of m) t)
      by-bearing (own x is same says) =
          (λ c. own-accounts x is same (sym (says (stands now r key)) ∙ c), λ p A. says (stands now r key) ∙ own-shows x is same p A)
      by-bearing (other not_own says) = (
        λ c. let w = earlier.0 (sym (says (stands now r key)) ∙ c) in (w.0, other-on not_own w.0 w.1),
        λ p A. says (stands now r key) ∙ earlier.1 p (other-back not_own p A),
      )

-- by the last call
pub condition-accounted : (h : History) (l : ℕ) (s : Story) → story l h ≡ some s → (key : Key) (now : ℕ)
    → (stands now s key ≡ true → (p : ℕ) × AccountsForCondition h l key now p)
    × ((p : ℕ) → AccountsForCondition h l key now p → stands now s key ≡ true)
unfolding stands
condition-accounted start l s e key now = none_open l s e
condition-accounted (after h d a) l s e key now = by_turn (turn l h d a s e) (λ r f. condition-accounted h l r f key now)
  where
    by_turn : Turn l h d a s → ((r : Story) → story l h ≡ some r → Accounted h l key now r) → Accounted (after h d a) l key now s
    by_turn (by_open g t f y label z) earlier =
        (λ c. no_way c (ap (λ (b : Story). stands now b key) z), λ p A. absurd (none-heard h d a f y label A.opening A.message))
    by_turn (by_message r m t f i y z) earlier =
        subst (λ (b : Story). Accounted (after h d a) l key now b) (sym z) (by-message h d a l key now r m t f i y (earlier r f))
    by_turn (by_other r f n u) earlier =
        let S = carried messaging l h d a n in (
          λ c. let w = (earlier r f).0 (sym (u.conditions now key) ∙ c) in (w.0, account-kept S w.1),
          λ p A. u.conditions now key ∙ (earlier r f).1 p (account-kept (flipped S) A),
        )
