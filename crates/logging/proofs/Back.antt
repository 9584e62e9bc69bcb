-- What is written into a log reads back: the call that was made, its arguments, and the answer.
-- Assumes nothing.
use Prim.Native.Nat.{ℕ, ◌+◌, ◌*◌, ◌/◌, ◌%◌, ◌^◌, ◌≤◌, ◌<◌}
use native.Mathlib.Omega.{arith}
use mathlib.Core.Path.{◌≡◌, refl, sym, ap, ◌∙◌}
use mathlib.Core.Logic.{◌⊎◌, inl, inr}
use mathlib.Core.Bool.{true, false, not, cond, ◌&&◌, ◌||◌}
use mathlib.Core.List.{List, [], ◌∷◌, ◌++◌}
use lib.ListN.{length, get_or, take, length-append}
use lib.Seq.{take-append_seam}
use lib.Dec.{eqb, ltb, leb}
use borrow.Author.Tests.{eqb-true, ltb-true, leb-true, le-leb, lt-ltb, not-true}
use Rattle.octets.specs.Numbers.{number_at, octets_of}
use Rattle.octets.proofs.Numbers.{read_of}
use Rattle.octets.proofs.Chain.{and_both, need-passed}
use Rattle.cv.specs.declared.MepId.{MepId}
use Rattle.cv.specs.MepId.{no_agi}
use Rattle.rules.specs.declared.Settings.{Settings}
use Rattle.rules.specs.Calls.{Call, Open}
use Rattle.rules.proofs.Bools.{or_cases, both_true}
use Rattle.capture.specs.declared.Record.{Record}
use Rattle.capture.specs.Records.{record_in, body_fits, settings_in, call_of}
use Rattle.call_log.specs.Records.{logged_in, header_fits, is_whole, whole_of, answer_in, body_in}
use Rattle.logging.specs.declared.Logged.{Logged}
use Rattle.logging.specs.Logging.{header_octets, head_octets, call_fits, call_refusal, call_octets, is_plain, settings_held, mep_octets, body_octets, opening_of, open_refusal, open_octets}

-- the header, whatever follows
pub header-back : (rest : List ℕ) → header_fits (header_octets ++ rest) ≡ true
unfolding header_fits
header-back rest = both_true (le-leb 8 (length (header_octets ++ rest)) (omega (arith, length-append header_octets rest))) refl

-- the ranges of the code's own numbers
pub record InRange (w : Logged) : Type 0 where
  pub time : w.time < 256 ^ 8
  pub label : w.label < 256 ^ 4
  pub kind : w.kind < 256 ^ 2
  pub answer : w.answer < 256 ^ 2

-- the head of a record, whatever follows
pub head-back : (w : Logged) (size : ℕ) (rest : List ℕ) → InRange w → size < 256 ^ 2
    → record_in (head_octets w size ++ rest) ≡ record { time = w.time; label = w.label; kind = w.kind; size = size }
unfolding record_in
head-back w size rest h k =
    let a = read_of 8 w.time (octets_of 4 w.label (octets_of 2 w.kind (octets_of 2 size (octets_of 2 w.answer [] ++ rest)))) h.time in
    let b = read_of 4 w.label (octets_of 2 w.kind (octets_of 2 size (octets_of 2 w.answer [] ++ rest))) h.label in
    let c = read_of 2 w.kind (octets_of 2 size (octets_of 2 w.answer [] ++ rest)) h.kind in
    let d = read_of 2 size (octets_of 2 w.answer [] ++ rest) k in
    λ i. record { time = a i; label = b i; kind = c i; size = d i }

pub answer_back : (w : Logged) (size : ℕ) (rest : List ℕ) → InRange w → answer_in (head_octets w size ++ rest) ≡ w.answer
answer_back w size rest h = read_of 2 w.answer rest h.answer

-- what a record of a log says was called: as a record of that kind in a capture
abbrev pub call_made : Logged → List ℕ → Call
call_made w body = call_of (record { time = w.time; label = w.label; kind = w.kind; size = length body }) body

-- a body behind its head
body_back : (w : Logged) (size : ℕ) (body rest : List ℕ) → size ≡ length body → body_in (head_octets w size ++ (body ++ rest)) size ≡ body
body_back w size body rest e = ap (λ (n : ℕ). take n (body ++ rest)) e ∙ take-append_seam body rest

whole_back : (w : Logged) (body rest : List ℕ) → InRange w → w.kind ≤ 8 → length body ≤ 2048
    → is_whole (head_octets w (length body) ++ (body ++ rest)) ≡ true
unfolding is_whole
whole_back w body rest h k n =
    let r = head-back w (length body) (body ++ rest) h (omega arith) in
    let s = head_octets w (length body) ++ (body ++ rest) in
    let size : length s ≡ 18 + (length body + length rest) =
    length-append (head_octets w (length body)) (body ++ rest) ∙ ap (λ (m : ℕ). 18 + m) (length-append body rest) in
    ap (λ (x : Record). whole_of (length s) x.kind x.size) r
    ∙ both_true
    (both_true (both_true (le-leb 18 (length s) (omega (arith, size))) (le-leb w.kind 8 k)) (le-leb (length body) 2048 n))
    (le-leb (18 + length body) (length s) (omega (arith, size)))

-- any record, whatever follows it
record-back : (w : Logged) (body rest : List ℕ) → InRange w → length body ≤ 2048
    → logged_in (head_octets w (length body) ++ (body ++ rest)) ≡ record { call = call_made w body; answer = w.answer }
record-back w body rest h n =
    let r = head-back w (length body) (body ++ rest) h (omega arith) in
    let a = answer_back w (length body) (body ++ rest) h in
    let b = ap (λ (x : Record). body_in (head_octets w (length body) ++ (body ++ rest)) x.size) r ∙ body_back w (length body) body rest refl in
    λ i. record { call = call_of (r i) (b i); answer = a i }

-- a written record of a log: it is whole, and says this
pub record ReadsBack (octets rest : List ℕ) (call : Call) (answer : ℕ) : Type 0 where
  pub whole : is_whole (octets ++ rest) ≡ true
  pub says : logged_in (octets ++ rest) ≡ record { call = call; answer = answer }

-- a call that fits
call-says : (w : Logged) (message : List ℕ) → call_refusal w message ≡ 0 → (w.kind ≤ 8) × (length message ≤ 2048)
unfolding call_refusal
call-says w message e =
    let a = and_both (not (eqb w.kind 1) && ltb w.kind 9) (eqb (length message) 0 || (eqb w.kind 5 && leb (length message) 2048))
    (need-passed (call_fits w.kind (length message)) 9 0 e).0 in
    let k = ltb-true w.kind 9 (and_both (not (eqb w.kind 1)) (ltb w.kind 9) a.0).1 in (
      omega arith,
      least-of (or_cases (eqb (length message) 0) (eqb w.kind 5 && leb (length message) 2048) a.1),
    )
  where
    least-of : (eqb (length message) 0 ≡ true) ⊎ (eqb w.kind 5 && leb (length message) 2048 ≡ true) → length message ≤ 2048
    least-of (inl z) = omega (arith, eqb-true (length message) 0 z)
    least-of (inr z) = leb-true (length message) 2048 (and_both (eqb w.kind 5) (leb (length message) 2048) z).1

-- what is written of a call is that call and its answer, whatever stands behind it
pub call_back : (w : Logged) (message rest : List ℕ) → InRange w → call_refusal w message ≡ 0
    → ReadsBack (call_octets w message) rest (call_made w message) w.answer
unfolding call_octets
call_back w message rest h e =
    let f = call-says w message e in
    let n : length message % 65536 ≡ length message = omega (arith, f.1) in
    rw n (record { whole = whole_back w message rest h f.0 f.1; says = record-back w message rest h f.1 })

-- settings that a record can hold, part by part
record Held (g : Settings) : Type 0 where
  pub one_type : g.own.kind ≡ g.expected.kind
  pub no-pseudowire : eqb g.own.kind 2 ≡ false
  pub link : g.followlink < 2
  pub lock : g.followlock < 2
  pub own : is_plain g.own ≡ true
  pub expected : is_plain g.expected ≡ true
  pub mode : g.mode ≡ 0

held-says : (g : Settings) → open_refusal g ≡ 0 → Held g
unfolding open_refusal settings_held
held-says g e =
    let a = and_both _ _ (need-passed (settings_held g) 9 0 e).0 in
    let front = and_both _ _ a.0 in
    let back = and_both _ _ a.1 in
    let kinds = and_both (eqb g.own.kind g.expected.kind) (not (eqb g.own.kind 2)) front.0 in
    let marks = and_both (ltb g.followlink 2) (ltb g.followlock 2) front.1 in
    let ids = and_both (is_plain g.own) (is_plain g.expected) back.0 in
    record {
      one_type = eqb-true g.own.kind g.expected.kind kinds.0;
      no-pseudowire = not-true (eqb g.own.kind 2) kinds.1;
      link = ltb-true g.followlink 2 marks.0;
      lock = ltb-true g.followlock 2 marks.1;
      own = ids.0;
      expected = ids.1;
      mode = eqb-true g.mode 0 back.1;
    }

-- a MEP-ID of a plain form is its type and its three numbers
plain_back : (m : MepId) → is_plain m ≡ true
    → record { agi = no_agi; global = m.global; node = m.node; local = m.local; kind = m.kind; group = 0; size = 0 } ≡ m
plain_back m e =
    let a = and_both (eqb m.group 0 && eqb m.size 0) _ e in
    let form = and_both (eqb m.group 0) (eqb m.size 0) a.0 in
    let agi = and_both (eqb m.agi.first 0 && eqb m.agi.second 0) _ a.1 in
    let front = and_both (eqb m.agi.first 0) (eqb m.agi.second 0) agi.0 in
    let back = and_both (eqb m.agi.third 0) (eqb m.agi.fourth 0) agi.1 in
    let first = sym (eqb-true m.agi.first 0 front.0) in
    let second = sym (eqb-true m.agi.second 0 front.1) in
    let third = sym (eqb-true m.agi.third 0 back.0) in
    let fourth = sym (eqb-true m.agi.fourth 0 back.1) in
    let group = sym (eqb-true m.group 0 form.0) in
    let size = sym (eqb-true m.size 0 form.1) in
    λ i. record {
      agi = record { first = first i; second = second i; third = third i; fourth = fourth i };
      global = m.global;
      node = m.node;
      local = m.local;
      kind = m.kind;
      group = group i;
      size = size i;
    }

pub record MepInRange (m : MepId) : Type 0 where
  pub kind : m.kind < 256 ^ 2
  pub global : m.global < 256 ^ 4
  pub node : m.node < 256 ^ 4
  pub local : m.local < 256 ^ 4

pub record SettingsInRange (g : Settings) : Type 0 where
  pub discriminator : g.discriminator < 256 ^ 4
  pub period : g.period < 256 ^ 4
  pub label : g.label < 256 ^ 4
  pub own : MepInRange g.own
  pub expected : MepInRange g.expected

abbrev marks_of : Settings → ℕ
marks_of g = g.followlink % 2 + g.followlock % 2 * 2

marks-back : (x y : ℕ) → x < 2 → y < 2 → ((x % 2 + y % 2 * 2) % 2 ≡ x) × ((x % 2 + y % 2 * 2) / 2 % 2 ≡ y)
marks-back x y p q =
    let a : x % 2 ≡ x = omega arith in
    let b : y % 2 ≡ y = omega arith in
    let half : (x + y * 2) / 2 ≡ y = omega arith in
    (rw (a, b) (omega arith), rw (a, b, half) b)

-- the settings of a body are those that it was made of
settings-back : (g : Settings) → SettingsInRange g → open_refusal g ≡ 0 → settings_in g.label (body_octets g) ≡ g
unfolding settings_in
settings-back g h e =
    let k = held-says g e in
    let marks = marks_of g ∷ [] in
    let far = mep_octets g.expected marks in
    let near = mep_octets g.own far in
    let b = body_octets g in
    let kind : number_at 2 b 8 ≡ g.own.kind = read_of 2 g.own.kind near h.own.kind in
    let global : number_at 4 b 10 ≡ g.own.global = read_of 4 g.own.global (octets_of 4 g.own.node (octets_of 4 g.own.local far)) h.own.global in
    let node : number_at 4 b 14 ≡ g.own.node = read_of 4 g.own.node (octets_of 4 g.own.local far) h.own.node in
    let local : number_at 4 b 18 ≡ g.own.local = read_of 4 g.own.local far h.own.local in
    let far-global : number_at 4 b 22 ≡ g.expected.global =
    read_of 4 g.expected.global (octets_of 4 g.expected.node (octets_of 4 g.expected.local marks)) h.expected.global in
    let far-node : number_at 4 b 26 ≡ g.expected.node = read_of 4 g.expected.node (octets_of 4 g.expected.local marks) h.expected.node in
    let far-local : number_at 4 b 30 ≡ g.expected.local = read_of 4 g.expected.local marks h.expected.local in
    let discriminator : number_at 4 b 0 ≡ g.discriminator =
    read_of 4 g.discriminator (octets_of 4 g.period (octets_of 2 g.own.kind near)) h.discriminator in
    let period : number_at 4 b 4 ≡ g.period = read_of 4 g.period (octets_of 2 g.own.kind near) h.period in
    let few : ltb (marks_of g) 4 ≡ true = lt-ltb (marks_of g) 4 (omega arith) in
    let type : not (eqb (number_at 2 b 8) 2) ≡ true = ap (λ (n : ℕ). not (eqb n 2)) kind ∙ ap not k.no-pseudowire in
    let fits : body_fits (length b) (get_or b 34 0) (number_at 2 b 8) ≡ true = both_true few type in
    let two = marks-back g.followlink g.followlock k.link k.lock in
    let link : marks_of g % 2 ≡ g.followlink = two.0 in
    let lock : marks_of g / 2 % 2 ≡ g.followlock = two.1 in
    let own = plain_back g.own k.own in
    let expected = plain_back g.expected k.expected in
    (λ i. record {
      own = record { agi = no_agi; global = global i; node = node i; local = local i; kind = kind i; group = 0; size = 0 };
      expected =
          record { agi = no_agi; global = far-global i; node = far-node i; local = far-local i; kind = (kind ∙ k.one_type) i; group = 0; size = 0 };
      label = g.label;
      discriminator = cond (fits i) (discriminator i) 0;
      period = period i;
      followlink = link i;
      followlock = lock i;
      mode = sym k.mode i;
    })
    ∙ (λ i. record {
      own = own i;
      expected = expected i;
      label = g.label;
      discriminator = g.discriminator;
      period = g.period;
      followlink = g.followlink;
      followlock = g.followlock;
      mode = g.mode;
    })

-- what is written of an open is that open, with its settings, and its answer
pub open-back : (g : Settings) (reading answer : ℕ) (rest : List ℕ) → SettingsInRange g → reading < 256 ^ 8 → answer < 256 ^ 2 → open_refusal g ≡ 0
    → ReadsBack (open_octets g reading answer) rest (Open g reading) answer
unfolding open_octets call_of
open-back g reading answer rest h t a e =
    let w = opening_of g.label reading answer in
    let r : InRange w = record { time = t; label = h.label; kind = omega arith; answer = a } in
    record {
      whole = whole_back w (body_octets g) rest r (omega arith) (omega arith);
      says = record-back w (body_octets g) rest r (omega arith) ∙ (λ i. record { call = Open (settings-back g h e i) reading; answer = answer });
    }
