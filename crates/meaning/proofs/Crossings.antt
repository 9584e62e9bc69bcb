-- A crossing stands where a crossed message accounts for it, and only there.
-- Assumes nothing.
use Prim.Native.Nat.{ℕ, ◌+◌, ◌<◌}
use native.Mathlib.Omega.{arith}
use mathlib.Core.Path.{◌≡◌, refl, sym, ap, ◌∙◌, subst}
use mathlib.Core.Bool.{true, ◌&&◌}
use mathlib.Core.Option.{some}
use mathlib.Core.List.{List}
use mathlib.Core.Logic.{⊎_elim}
use borrow.Author.Tests.{ltb-true, lt-ltb}
use Rattle.octets.proofs.Chain.{and_both}
use Rattle.message.specs.Message.{message_of}
use Rattle.rules.specs.declared.Settings.{Settings}
use Rattle.rules.specs.declared.Received.{Received}
use Rattle.rules.specs.declared.Received.TheVariants.{CrossedMessage, HeardCc, HeardCv, FaultMessage}
use Rattle.rules.specs.Received.{received_as}
use Rattle.rules.specs.Times.{within, crossing_time}
use Rattle.rules.specs.Calls.{Receive, Call, On, Said, is_accepted}
use Rattle.rules.proofs.Bools.{no_way, both_true, or_cases, or_left, or_right}
use Rattle.meaning.specs.Stories.{Story, got, settings_of, is_crossed}
use Rattle.meaning.specs.Standing.{crossing}
use Rattle.meaning.specs.Histories.{History, start, after, story}
use Rattle.meaning.specs.Accounts.{size, ReceivedSince, AccountsForCrossing}
use Rattle.meaning.proofs.Positions.{Same, messaging, flipped, carried, took-below, opening-kept, heard-kept, heard-on, opening-settings, none-heard, opening-after, opening-before, heard-new, heard-cases, Turn, by_open, by_message, by_other, turn, none_open, opening-told}

-- a crossing that stands has a call that accounts for it, and each such call shows that it stands
abbrev Accounted : History → ℕ → ℕ → Story → Type 0
Accounted h l now s = (crossing now s ≡ true → (p : ℕ) × AccountsForCrossing h l now p) × ((p : ℕ) → AccountsForCrossing h l now p → crossing now s ≡ true)

-- what is crossed is a crossed message
is-crossed : (x : Received) → is_crossed x ≡ true → x ≡ CrossedMessage
is-crossed CrossedMessage e = refl
is-crossed (HeardCc p) e = no_way e refl
is-crossed HeardCv e = no_way e refl
is-crossed (FaultMessage f) e = no_way e refl

-- the same opens, closes and messages, the same account
account-kept : {l : ℕ} {h k : History} → Same messaging l h k → {now p : ℕ} → AccountsForCrossing h l now p → AccountsForCrossing k l now p
account-kept S A =
    record {
      o = A.o;
      settings = A.settings;
      opened_at = A.opened_at;
      opening = opening-kept S (λ u. refl) A.opening;
      reading = A.reading;
      message = heard-kept S (λ m u. refl) A.message;
      fresh = A.fresh;
    }

module _ (h : History) (d : Call) (a : Said) (l now : ℕ) (r : Story) (m : List ℕ) (t : ℕ) (f : story l h ≡ some r) (e : d ≡ On l (Receive m t)) (y : is_accepted a ≡ true) where
  -- the earlier messages account as they did
  message-there : (p : ℕ) × AccountsForCrossing h l now p → (p : ℕ) × AccountsForCrossing (after h d a) l now p
  message-there w =
      let A = w.1 in (
        w.0,
        record {
          o = A.o;
          settings = A.settings;
          opened_at = A.opened_at;
          opening = opening-after h d a e y A.opening;
          reading = A.reading;
          message = heard-on d a A.message;
          fresh = A.fresh;
        },
      )

  -- a message accounts itself, if it is crossed and fresh
  message-itself : is_crossed (received_as (settings_of r) (message_of m)) && within t crossing_time now ≡ true → (p : ℕ) × AccountsForCrossing (after h d a) l now p
  unfolding within
  message-itself z =
      let c = and_both _ _ z in
      let O = opening-told h l r f in (
        size h,
        record {
          o = O.0;
          settings = settings_of r;
          opened_at = O.1;
          opening = opening-after h d a e y O.2;
          reading = t;
          message =
              subst (λ (x : Received). ReceivedSince (after h d a) l O.0 (settings_of r) (size h) t x) (is-crossed _ c.0)
              (heard-new h d a e y (took-below h _ _ O.2.took));
          fresh = ltb-true now (t + 3500000) c.1;
        },
      )

  -- and a crossed message is that one or an earlier one
  message-shows : ((p : ℕ) → AccountsForCrossing h l now p → crossing now r ≡ true) → (p : ℕ) → AccountsForCrossing (after h d a) l now p
      → crossing now (got r (message_of m) t) ≡ true
  unfolding crossing within
  message-shows earlier p A =
      let O = opening-before h d a e y A.opening in
      let g : A.settings ≡ settings_of r = opening-settings O (opening-told h l r f).2 in
      let b : now < A.reading + 3500000 = A.fresh in
      ⊎_elim
      (λ z.
      let u : A.reading ≡ t = z.1 in
      or_left (crossing now r)
      (both_true (ap (λ (k : Settings). is_crossed (received_as k (message_of m))) (sym g) ∙ ap is_crossed z.2) (lt-ltb now (t + 3500000) (omega arith))))
      (λ H. or_right (is_crossed (received_as (settings_of r) (message_of m)) && within t crossing_time now)
      (earlier p
      (record { o = A.o; settings = A.settings; opened_at = A.opened_at; opening = O; reading = A.reading; message = H; fresh = b })))
      (heard-cases h d a e y A.message)

-- by the last call
pub crossing-accounted : (h : History) (l : ℕ) (s : Story) → story l h ≡ some s → (now : ℕ)
    → (crossing now s ≡ true → (p : ℕ) × AccountsForCrossing h l now p) × ((p : ℕ) → AccountsForCrossing h l now p → crossing now s ≡ true)
unfolding crossing
crossing-accounted start l s e now = none_open l s e
crossing-accounted (after h d a) l s e now = by_turn (turn l h d a s e) (λ r f. crossing-accounted h l r f now)
  where
    by_turn : Turn l h d a s → ((r : Story) → story l h ≡ some r → Accounted h l now r) → Accounted (after h d a) l now s
    by_turn (by_open g t f y label z) earlier =
        (λ c. no_way c (ap (crossing now) z), λ p A. absurd (none-heard h d a f y label A.opening A.message))
    by_turn (by_message r m t f i y z) earlier = (
      λ c.
          ⊎_elim (message-itself h d a l now r m t f i y) (λ b. message-there h d a l now r m t f i y ((earlier r f).0 b))
          (or_cases _ (crossing now r) (sym (ap (crossing now) z) ∙ c)),
      λ p A. ap (crossing now) z ∙ message-shows h d a l now r m t f i y (earlier r f).1 p A,
    )
    by_turn (by_other r f n u) earlier =
        let S = carried messaging l h d a n in (
          λ c. let w = (earlier r f).0 (sym (u.crossings now) ∙ c) in (w.0, account-kept S w.1),
          λ p A. u.crossings now ∙ (earlier r f).1 p (account-kept (flipped S) A),
        )
