-- A line has one of four shapes, whatever is called and whatever is said. Octets that are written over a buffer of their length are the buffer.
-- Assumes nothing.
use Prim.Native.Nat.{ℕ, ◌≤◌}
use native.Mathlib.Omega.{arith}
use mathlib.Core.Path.{◌≡◌, refl, ◌∙◌}
use mathlib.Core.Bool.{Bool, true, false, cond}
use mathlib.Core.List.{List, [], append-nil}
use lib.ListN.{length, drop, drop_of_length-le}
use lib.Dec.{eqb, leb}
use borrow.Author.Tests.{ne_eqb, leb-true}
use Rattle.octets.specs.Writing.{writing}
use Rattle.octets.proofs.Writing.{fits}
use Rattle.rules.specs.Calls.{Act, Close, Lock, Unlock, Receive, ReportOn, WriteCc, WriteCv, Call, Tick, Open, On, Said}
use Rattle.message.specs.Message.{message_place}
use Rattle.rules.proofs.Bools.{split, no_way}
use Rattle.capture.specs.Lines.{answer_text, call_text, is_readers, place_text, plain_line, placed_line, report_line, octets_line, line}

-- calls behind whose 0 nothing stands
abbrev pub is_plain : Call → Bool
is_plain (Tick u) = true
is_plain (Open g u) = true
is_plain (On l (Close u)) = true
is_plain (On l (Lock u)) = true
is_plain (On l (Unlock u)) = true
is_plain (On l (Receive m u)) = true
is_plain (On l ReportOn) = false
is_plain (On l (WriteCc b)) = false
is_plain (On l (WriteCv b)) = false

plain-text : (c : Call) (a : Said) → is_plain c ≡ true → call_text c a ≡ []
plain-text (Tick u) a p = refl
plain-text (Open g u) a p = refl
plain-text (On l (Close u)) a p = refl
plain-text (On l (Lock u)) a p = refl
plain-text (On l (Unlock u)) a p = refl
plain-text (On l (Receive m u)) a p = refl
plain-text (On l ReportOn) a p = absurd (let z : ◌≡◌ {A = ℕ} 0 1 = cc in omega arith)
plain-text (On l (WriteCc b)) a p = absurd (let z : ◌≡◌ {A = ℕ} 0 1 = cc in omega arith)
plain-text (On l (WriteCv b)) a p = absurd (let z : ◌≡◌ {A = ℕ} 0 1 = cc in omega arith)

-- refusals behind which a place stands
abbrev pub has_place : Call → ℕ → Bool
has_place (Tick u) n = false
has_place (Open g u) n = false
has_place (On l (Close u)) n = false
has_place (On l (Lock u)) n = false
has_place (On l (Unlock u)) n = false
has_place (On l (Receive m u)) n = is_readers n
has_place (On l ReportOn) n = false
has_place (On l (WriteCc b)) n = false
has_place (On l (WriteCv b)) n = false

no_place : (c : Call) (n : ℕ) → has_place c n ≡ false → place_text c n ≡ []
no_place (Tick u) n p = refl
no_place (Open g u) n p = refl
no_place (On l (Close u)) n p = refl
no_place (On l (Lock u)) n p = refl
no_place (On l (Unlock u)) n p = refl
no_place (On l (Receive m u)) n p = rw p
no_place (On l ReportOn) n p = refl
no_place (On l (WriteCc b)) n p = refl
no_place (On l (WriteCv b)) n p = refl

either-none : (b : Bool) → ◌≡◌ {A = List ℕ} (cond b [] []) []
either-none true = refl
either-none false = refl

-- no reader refuses with 0
readers-above : (n : ℕ) → is_readers n ≡ true → n ≡ 0 → ⊥
readers-above n r z =
    split (leb 3 n)
    (λ h. omega (arith, leb-true 3 n h, z))
    (λ h. no_way r (rw h))

module _ (number : ℕ) where
  -- a refusal with no place
  pub line_refused : (c : Call) (a : Said) → (a.number ≡ 0 → ⊥) → has_place c a.number ≡ false → line number c a ≡ plain_line number a.number
  unfolding line plain_line
  line_refused c a z p = rw (ne_eqb a.number 0 z, no_place c a.number p, append-nil (answer_text number a.number))

  -- a call whose answer is a number alone
  pub line_plain : (c : Call) (a : Said) → is_plain c ≡ true → has_place c a.number ≡ false → line number c a ≡ plain_line number a.number
  unfolding line plain_line
  line_plain c a p q =
      rw (plain-text c a p, no_place c a.number q, either-none (eqb a.number 0), append-nil (answer_text number a.number))

  -- a message that its reader refuses
  pub line-placed : (l : ℕ) (m : List ℕ) (u : ℕ) (a : Said) → is_readers a.number ≡ true → line number (On l (Receive m u)) a ≡ placed_line number a.number (message_place m)
  unfolding line placed_line
  line-placed l m u a r = rw (ne_eqb a.number 0 (readers-above a.number r), r)

  module _ (l : ℕ) (a : Said) (z : a.number ≡ 0) where
    pub line-report : line number (On l ReportOn) a ≡ report_line number a.report
    unfolding line report_line
    line-report = rw z

    pub line-cc : (b : List ℕ) → line number (On l (WriteCc b)) a ≡ octets_line number a.buffer
    unfolding line octets_line
    line-cc b = rw z

    pub line-cv : (b : List ℕ) → line number (On l (WriteCv b)) a ≡ octets_line number a.buffer
    unfolding line octets_line
    line-cv b = rw z

-- a lent buffer has the length of what is written into it
abbrev pub ExactAct : Act → Type 0
ExactAct (Close u) = Unit {0}
ExactAct (Lock u) = Unit {0}
ExactAct (Unlock u) = Unit {0}
ExactAct (Receive m u) = Unit {0}
ExactAct ReportOn = Unit {0}
ExactAct (WriteCc b) = length b ≡ 28
ExactAct (WriteCv b) = length b ≡ 44

abbrev pub Exact : Call → Type 0
Exact (Tick u) = Unit {0}
Exact (Open g u) = Unit {0}
Exact (On l a) = ExactAct a

-- octets written over a buffer of their length
pub written : (octets b : List ℕ) → length b ≡ length octets → writing 0 octets b ≡ record { answer = 0; buffer = octets }
written octets b e =
    let least : length b ≤ length octets = omega (arith, e) in
    let none : drop (length octets) b ≡ [] = drop_of_length-le b least in
    fits octets b (omega (arith, e)) ∙ rw (none, append-nil octets)
