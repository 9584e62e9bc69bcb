-- The cause of a crossing is the last crossed message since the opening.
-- Assumes nothing.
use Prim.Native.Nat.{ℕ, ◌+◌, ◌-◌, ◌≤◌, ◌<◌}
use native.Mathlib.Omega.{arith}
use mathlib.Core.Path.{◌≡◌, refl, sym, ap, ◌∙◌}
use mathlib.Core.Bool.{true}
use mathlib.Core.Option.{none, some}
use mathlib.Core.List.{List}
use mathlib.Core.Logic.{◌↔◌}
use Rattle.octets.specs.Choice.{accepted}
use Rattle.message.specs.Message.{message_of}
use Rattle.rules.specs.declared.Settings.{Settings}
use Rattle.rules.specs.declared.Received.TheVariants.{CrossedMessage}
use Rattle.rules.specs.Received.{received_as}
use Rattle.meaning.specs.Stories.{Story, settings_of}
use Rattle.meaning.specs.Standing.{crossing}
use Rattle.meaning.specs.Histories.{History, clock_of, story}
use Rattle.meaning.specs.Accounts.{ReceivedSince, AccountsForCrossing}
use Rattle.meaning.specs.Worlds.{Right}
use Rattle.meaning.proofs.Crossings.{crossing-accounted}
use Rattle.cause.specs.Marks.{Mark, if_crossed, last_crossed}
use Rattle.cause.specs.Causes.{Crossing, Cause, crossing_end, cause_of, crossed_by, reason_by}
use Rattle.cause.specs.Reasons.{CrossingReason}
use Rattle.cause.proofs.Lasts.{Known, known}
use Rattle.cause.proofs.Sorts.{Was, was-received, received_as_lem, message-kind, is-crossed}
use Rattle.cause.proofs.Readings.{messages-in-turn, message-in-past}
use Rattle.cause.proofs.Asked.{same-opening, granted, by-mark}

module _ (h : History) (l : ℕ) (s : Story) (e : story l h ≡ some s) where
  marks : Known (Was if_crossed) h l (settings_of s) (last_crossed l h)
  marks = known (message-kind if_crossed) h l s e

  -- a message that accounts is a crossed one since the opening
  was-crossed : {t p : ℕ} (A : AccountsForCrossing h l t p) → Was if_crossed h l marks.o (settings_of s) p A.reading A.message.message.0
  was-crossed {t} {p} A =
      same-opening (λ (o : ℕ) (g : Settings). Was if_crossed h l o g p A.reading A.message.message.0) h l A.opening marks.opening
      (was-received if_crossed A.message refl)

  -- so where a crossing stands there is a mark
  pub crossing-marked : (t : ℕ) → crossing t s ≡ true → last_crossed l h ≡ none → ⊥
  crossing-marked t c z = let w = (crossing-accounted h l s e t).0 c in marks.nothing z w.0 _ _ (was-crossed w.1)

  module _ (k : Mark (List ℕ)) (f : last_crossed l h ≡ some k) where
    mark-so : (received_as (settings_of s) (message_of (marks.there k f).octets) ≡ CrossedMessage) × ((marks.there k f).octets ≡ k.what)
    mark-so = let w = marks.there k f in is-crossed w.octets (received_as (settings_of s) (message_of w.octets)) w.so

    mark-received : ReceivedSince h l marks.o (settings_of s) k.position k.reading CrossedMessage
    mark-received = received_as_lem if_crossed (marks.there k f) mark-so.0

    -- it accounts while it is fresh
    pub mark-accounts : (t : ℕ) → t < crossing_end k → AccountsForCrossing h l t k.position
    mark-accounts t b =
        record {
          o = marks.o;
          settings = settings_of s;
          opened_at = marks.t;
          opening = marks.opening;
          reading = k.reading;
          message = mark-received;
          fresh = b;
        }

    -- its octets are those of the message
    mark-reason : reason_by crossed_by (last_crossed l h) ≡ some (crossed_by mark-received.message.0)
    unfolding mark-received received_as_lem
    mark-reason = ap (reason_by crossed_by) f ∙ ap (λ (m : List ℕ). some (crossed_by m)) (sym mark-so.1)

    -- no other that accounts is later
    pub mark-latest : {t p : ℕ} → AccountsForCrossing h l t p → p ≤ k.position
    mark-latest {t} {p} A = let n : k.position < p → ⊥ = λ i. marks.latest k f p A.reading _ i (was-crossed A) in omega arith

    module _ (r : Right h) where
      -- none has a greater reading
      mark-fresh : {t p : ℕ} → AccountsForCrossing h l t p → t < crossing_end k
      mark-fresh {t} {p} A =
          let i : A.reading ≤ k.reading = messages-in-turn h r (mark-latest A) A.message mark-received in
          let j : t < A.reading + 3500000 = A.fresh in omega arith

      -- the crossing stands exactly while the mark is fresh
      pub crossing-until : (t : ℕ) → (crossing t s ≡ true) ↔ (t < crossing_end k)
      crossing-until t = (
        λ c. let w = (crossing-accounted h l s e t).0 c in mark-fresh w.1,
        λ b. (crossing-accounted h l s e t).1 k.position (mark-accounts t b),
      )

      mark-past : k.reading ≤ clock_of h
      mark-past = message-in-past h r mark-received

pub crossing-cause : (h : History) → Right h → (l : ℕ) (c : Cause) → cause_of h l Crossing ≡ accepted c → CrossingReason h l c
unfolding mark-accounts
crossing-cause h r l c e =
    let G = granted h l Crossing c e in
    let s : Story = G.0 in
    let f : story l h ≡ some s = G.1.told in
    let M = by-mark (clock_of h) crossing_end c (last_crossed l h) G.1.by in
    let k : Mark (List ℕ) = M.0 in
    let z : last_crossed l h ≡ some k = M.1.found in
    let b : clock_of h < crossing_end k = (crossing-until h l s f k z r (clock_of h)).0 G.1.standing in
    record {
      position = k.position;
      number = M.1.number;
      accounts = mark-accounts h l s f k z (clock_of h) b;
      latest = λ q A. mark-latest h l s f k z A;
      reading = M.1.reading;
      age = let i : k.reading ≤ clock_of h = mark-past h l s f k z r in let j : c.age ≡ clock_of h - k.reading = M.1.age in omega arith;
      end = M.1.ends;
      was = G.1.was ∙ mark-reason h l s f k z;
    }
