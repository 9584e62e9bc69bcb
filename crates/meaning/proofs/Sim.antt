-- The table and the history: what both say, call by call.
-- Assumes nothing.
use Prim.Native.Nat.{ℕ, ◌+◌, ◌≤◌}
use native.Mathlib.Omega.{arith}
use mathlib.Core.Path.{◌≡◌, refl, sym, ap, ◌∙◌, subst}
use mathlib.Core.Bool.{Bool, true, false, cond, ◌&&◌}
use mathlib.Core.Option.{Option, none, some, map}
use mathlib.Core.List.{List, [], ◌∷◌, Memᴰ}
use mathlib.Core.Logic.{⊎_elim}
use lib.Dec.{eqb}
use lib.ListN.{length, get_or, set}
use borrow.Author.Tests.{eqb-true, eq-eqb}
use Rattle.octets.specs.Choice.{need, bar, or_else}
use Rattle.octets.specs.Writing.{writing}
use Rattle.octets.proofs.Chain.{and_both, bar-passed, or_else-passed}
use Rattle.message.specs.Message.{message_refusal, message_of}
use Rattle.message.proofs.Read.{read-in-range}
use Rattle.rules.specs.declared.Settings.{Settings}
use Rattle.rules.specs.Times.{late}
use Rattle.rules.specs.Settings.{settings_fit}
use Rattle.rules.specs.Received.{received_as}
use Rattle.rules.specs.Parties.{party_of, is_of, own_most, own_discriminator}
use Rattle.rules.specs.Lists.{any, only, once, without}
use Rattle.rules.specs.Calls.{Act, Close, Lock, Unlock, Receive, ReportOn, WriteCc, WriteCv, Call, Tick, Open, On, Said, is_accepted, number_only, reporting, writes}
use Rattle.rules.proofs.Bools.{split, no_way, both_true, or_cases, or_left, or_right, same_test}
use Rattle.rules.proofs.Ages.{not_late}
use Rattle.rules.proofs.Lists.{any_at, any-who, any_same, numbers-alike, any-without-other, any-without-same, once-without, once-cons}
use Rattle.rules.proofs.Counting.{one_if, count-cons, count-inserted, count-without}
use Rattle.rules.proofs.TwoParties.{party-most, same-own, both-parties}
use Rattle.session.specs.declared.Session.{Session}
use Rattle.session.specs.Steps as Steps
use Rattle.session.specs.Queries.{report_at, cc_octets_at, cv_octets_at}
use Rattle.session.specs.Reception.{received_answer}
use Rattle.session.proofs.Received.{received-keeps}
use Rattle.table.specs.Places.{occupied_of, opens, has_label, place_of}
use Rattle.table.specs.Table.{Table, open_of, open_by, receive_answer, report_answer, write_answer, same_label, in_order, find, is_found, rivals, open_answer, act_answer, asked, answer, altered, added, closed, receiving, act_done, done, next, absent}
use Rattle.table.proofs.Rows.{opens-altered, count-opens, find-update-same, find-update-other, found-is, none_found, none-there, find-inserted-own, find-inserted-other, found-own}
use Rattle.table.proofs.Apart.{added-one, closed-one, no_label, closed-apart}
use Rattle.table.proofs.Shares.{held_by, altered-count, place-left}
use Rattle.table.proofs.Accepted.{OpenPassed, open-passed, found_passed}
use Rattle.table.proofs.Order.{Ordered, says-order, act-ordered, done-ordered}
use Rattle.meaning.specs.Stories.{Story, opened, lock, unlock, got, wrote_cc, settings_of}
use Rattle.meaning.specs.Standing.{cc_written, cv_written}
use Rattle.meaning.specs.Histories.{act_reading, reading, more, act_told, told, act_labels, labels_after}
use Rattle.meaning.specs.Answers.{received_number, receive_number, report_said, write_said, is_open, has_discriminator, claims, rival, full, open_number, act_said, says_of}
use Rattle.meaning.proofs.Fits.{Fits, same-report, same-cc, same-cv, same_received, fits-later, fits-opened, fits-locked, fits-unlocked, fits-wrote, fits-got}

-- a record for a story, or neither
abbrev pub Fit : ℕ → Option Session → Option Story → Type 0
Fit now none none = Unit {0}
Fit now none (some s) = ⊥
Fit now (some r) none = ⊥
Fit now (some r) (some s) = Fits now r s

-- the table, and the three views of the history
pub record Sim (now : ℕ) (st : ℕ → Option Story) (ls : List ℕ) (t : Table) : Type 0 where
  pub clock : t.clock ≡ now
  pub ordered : Ordered t
  pub fit : (l : ℕ) → Fit now (find l (open_of t)) (st l)
  pub counted : (p : ℕ) → open_by p t ≡ length (only (is_of p) ls)
  pub listed : (l : ℕ) → any (eqb l) ls ≡ is_open (st l)
  pub once-each : once eqb ls ≡ true

pub fit-open : (now : ℕ) (o : Option Session) (p : Option Story) → Fit now o p → is_found o ≡ is_open p
fit-open now none none f = refl
fit-open now none (some s) f = absurd f
fit-open now (some r) none f = absurd f
fit-open now (some r) (some s) f = refl

pub fit-story : {now : ℕ} {r : Session} (p : Option Story) → Fit now (some r) p → (s : Story) × (p ≡ some s) × Fits now r s
fit-story none f = absurd f
fit-story (some s) f = (s, refl, f)

pub fit-record : {now : ℕ} {s : Story} (o : Option Session) → Fit now o (some s) → (r : Session) × (o ≡ some r) × Fits now r s
fit-record none f = absurd f
fit-record (some r) f = (r, refl, f)

fit-later : {now : ℕ} (later : ℕ) → now ≤ later → (o : Option Session) (p : Option Story) → Fit now o p → Fit later o p
fit-later later h none none f = f
fit-later later h none (some s) f = f
fit-later later h (some r) none f = f
fit-later later h (some r) (some s) f = fits-later later h f

-- one more on both sides, or on neither
one-back : (b : Bool) {m n : ℕ} → one_if b m ≡ one_if b n → m ≡ n
one-back true e = omega (arith, e)
one-back false e = e

-- an answer behind a test
bar-same : (b : Bool) {x y : ℕ} → (b ≡ false → x ≡ y) → bar b 1 x ≡ bar b 1 y
bar-same true h = refl
bar-same false h = h refl

module _ (now : ℕ) where
  same-receive : (o : Option Session) (p : Option Story) → Fit now o p → (m : List ℕ) (u : ℕ) → now ≤ u → receive_answer o m u ≡ receive_number p m u
  same-receive none none f m u h = refl
  same-receive none (some s) f m u h = absurd f
  same-receive (some r) none f m u h = absurd f
  same-receive (some r) (some s) f m u h =
      ap (or_else (message_refusal m))
      (same_received f u h (received_as r.settings (message_of m)) ∙ ap (λ (g : Settings). received_number s u (received_as g (message_of m))) f.settings)

  same-shown : (l : ℕ) (o : Option Session) (p : Option Story) → Fit now o p → report_answer (On l ReportOn) now o ≡ report_said (On l ReportOn) now p
  same-shown l none none f = refl
  same-shown l none (some s) f = absurd f
  same-shown l (some r) none f = absurd f
  same-shown l (some r) (some s) f = ap reporting (same-report f now (omega arith))

  same-written-cc : (l : ℕ) (b : List ℕ) (o : Option Session) (p : Option Story) → Fit now o p
      → write_answer (On l (WriteCc b)) (λ (r : Session). cc_octets_at r now) b o ≡ write_said (On l (WriteCc b)) (cc_written now) b p
  same-written-cc l b none none f = refl
  same-written-cc l b none (some s) f = absurd f
  same-written-cc l b (some r) none f = absurd f
  same-written-cc l b (some r) (some s) f = ap (λ (x : List ℕ). writes (writing 0 x b)) (same-cc f now (omega arith))

  same-written-cv : (l : ℕ) (b : List ℕ) (o : Option Session) (p : Option Story) → Fit now o p
      → write_answer (On l (WriteCv b)) (λ (r : Session). cv_octets_at r now) b o ≡ write_said (On l (WriteCv b)) (cv_written now) b p
  same-written-cv l b none none f = refl
  same-written-cv l b none (some s) f = absurd f
  same-written-cv l b (some r) none f = absurd f
  same-written-cv l b (some r) (some s) f = ap (λ (x : List ℕ). writes (writing 0 x b)) (same-cv f now (omega arith))

module _ {now : ℕ} {st : ℕ → Option Story} {ls : List ℕ} {t : Table} (S : Sim now st ls t) where
  -- each open record has its story
  pub owned : (r : Session) → Memᴰ r (open_of t) → (s : Story) × (st r.settings.label ≡ some s) × Fits now r s
  owned r m =
      fit-story (st r.settings.label)
      (subst (λ (o : Option Session). Fit now o (st r.settings.label)) (found-own (open_of t) r S.ordered.labels m) (S.fit r.settings.label))

  -- never 26
  pub sim-order : in_order t ≡ true
  sim-order = says-order t S.ordered

  -- 11: the records' rivals are the stories'
  rival-there : (g : Settings) → any (rivals g) (open_of t) ≡ true → rival st ls g ≡ true
  unfolding rival
  rival-there g e =
      let w = any-who (rivals g) (open_of t) e in
      let f = owned w.0 w.1 in
      let l = w.0.settings.label in
      let here : any (eqb l) ls ≡ true = S.listed l ∙ ap is_open f.1 in
      let v = any-who (eqb l) ls here in
      let same : l ≡ v.0 = eqb-true l v.0 v.2 in
      any_at (claims st g) v.1
      (subst (λ (m : ℕ). claims st g m ≡ true) same
      (⊎_elim (λ a. or_left _ a)
      (λ a. let one = (same-own w.0.settings g).0 (eqb-true _ _ a) in
      or_right (eqb l g.label)
      (both_true (eq-eqb (party_of l) (party_of g.label) one.0)
      (ap (has_discriminator g.discriminator) f.1 ∙ ap (λ (x : Settings). eqb x.discriminator g.discriminator) (sym f.2.settings) ∙ eq-eqb _ _ one.1)))
      (or_cases (eqb l g.label) (eqb (own_discriminator w.0.settings) (own_discriminator g)) w.2)))

  rival-back : (g : Settings) → rival st ls g ≡ true → any (rivals g) (open_of t) ≡ true
  unfolding rival
  rival-back g e =
      let w = any-who (claims st g) ls e in
      let l = w.0 in
      let open' : is_open (st l) ≡ true = sym (S.listed l) ∙ any_at (eqb l) w.1 (eq-eqb l l refl) in
      go l (st l) refl open' w.2
    where
      go : (l : ℕ) (o : Option Story) → st l ≡ o → is_open o ≡ true → claims st g l ≡ true → any (rivals g) (open_of t) ≡ true
      go l none q p k = no_way p refl
      go l (some s) q p k =
          let f = fit-record (find l (open_of t)) (subst (λ (o : Option Story). Fit now (find l (open_of t)) o) q (S.fit l)) in
          let r = f.0 in
          let found = found-is l (open_of t) r f.1 in
          any_at (rivals g) found.0
          (⊎_elim (λ a. or_left _ (ap (λ (m : ℕ). eqb m g.label) found.1 ∙ a))
          (λ a. let one = and_both (is_of (party_of g.label) l) (has_discriminator g.discriminator (st l)) a in
          or_right (eqb r.settings.label g.label)
          (eq-eqb (own_discriminator r.settings) (own_discriminator g)
          ((same-own r.settings g).1 (
            ap party_of found.1 ∙ eqb-true (party_of l) (party_of g.label) one.0,
            eqb-true r.settings.discriminator g.discriminator
                (ap (λ (x : Settings). eqb x.discriminator g.discriminator) f.2.settings ∙ (ap (has_discriminator g.discriminator) (sym q) ∙ one.1)),
          ))))
          (or_cases (eqb l g.label) (is_of (party_of g.label) l && has_discriminator g.discriminator (st l)) k))

  same-rivals : (g : Settings) → any (rivals g) (open_of t) ≡ rival st ls g
  same-rivals g = same_test _ _ (rival-there g) (rival-back g)

  -- the places and the open labels: each is of one party or of the other
  pub same_count : occupied_of 64 t.occupied ≡ length ls
  same_count =
      ap (λ (n : ℕ). occupied_of n t.occupied) (sym S.ordered.rows) ∙ sym (count-opens t.occupied t.row)
      ∙ sym (both-parties (λ (r : Session). r.settings.label) (open_of t))
      ∙ (λ i. S.counted 0 i + S.counted 1 i)
      ∙ both-parties (λ (l : ℕ). l) ls

  -- 12: of no party more than 32
  pub most-labels : (p : ℕ) → length (only (is_of p) ls) ≤ own_most
  most-labels p = omega (arith, S.counted p, S.ordered.each p)

  same-open : (g : Settings) (u : ℕ) → open_answer t g u ≡ open_number now st ls g u
  unfolding open_answer open_number
  same-open g u =
      λ i. bar (late (S.clock i) u) 1 (need (settings_fit g) 10 (bar (same-rivals g i) 11 (bar (eqb (S.counted (party_of g.label) i) own_most) 12 0)))

  same-act : (l : ℕ) (a : Act) (o : Option Session) (p : Option Story) → Fit now o p → act_answer t.clock o l a ≡ act_said now p l a
  unfolding act_answer act_said
  same-act l (Close u) o p f = λ i. number_only (On l (Close u)) (bar (late (S.clock i) u) 1 (need (fit-open now o p f i) 2 0))
  same-act l (Lock u) o p f = λ i. number_only (On l (Lock u)) (bar (late (S.clock i) u) 1 (need (fit-open now o p f i) 2 0))
  same-act l (Unlock u) o p f = λ i. number_only (On l (Unlock u)) (bar (late (S.clock i) u) 1 (need (fit-open now o p f i) 2 0))
  same-act l (Receive m u) o p f =
      (λ i. number_only (On l (Receive m u)) (bar (late (S.clock i) u) 1 (receive_answer o m u)))
      ∙ ap (number_only (On l (Receive m u))) (bar-same (late now u) (λ e. same-receive now o p f m u (not_late now u e)))
  same-act l ReportOn o p f = ap (λ (k : ℕ). report_answer (On l ReportOn) k o) S.clock ∙ same-shown now l o p f
  same-act l (WriteCc b) o p f = ap (λ (k : ℕ). write_answer (On l (WriteCc b)) (λ (r : Session). cc_octets_at r k) b o) S.clock ∙ same-written-cc now l b o p f
  same-act l (WriteCv b) o p f = ap (λ (k : ℕ). write_answer (On l (WriteCv b)) (λ (r : Session). cv_octets_at r k) b o) S.clock ∙ same-written-cv now l b o p f

  -- what the table says is what the paper says
  pub sim-asked : (c : Call) → asked t c ≡ says_of now st ls c
  unfolding asked says_of
  sim-asked (Tick u) = λ i. number_only (Tick u) (bar (late (S.clock i) u) 1 0)
  sim-asked (Open g u) = ap (number_only (Open g u)) (same-open g u)
  sim-asked (On l a) = same-act l a (find l (open_of t)) (st l) (S.fit l)

  -- a reading that goes on
  sim-tick : (u : ℕ) → now ≤ u → Ordered (record { row = t.row; clock = u; occupied = t.occupied }) → Sim u st ls (record { row = t.row; clock = u; occupied = t.occupied })
  sim-tick u h o =
      record {
        clock = refl;
        ordered = o;
        fit = λ l. fit-later u h (find l (open_of t)) (st l) (S.fit l);
        counted = S.counted;
        listed = S.listed;
        once-each = S.once-each;
      }

  -- a record altered with its story
  sim-altered : (l u : ℕ) → now ≤ u → (f : Session → Session) → Ordered (altered t l f u) → ((r : Session) → (f r).settings ≡ r.settings) → (tell : Option Story → Option Story)
      → ((o : Option Story) → is_open (tell o) ≡ is_open o) → Fit u (map f (find l (open_of t))) (tell (st l))
      → Sim u (λ m. cond (eqb l m) (tell (st m)) (st m)) ls (altered t l f u)
  unfolding altered
  sim-altered l u h f o k tell same e =
      let alike = opens-altered l f absent t.occupied t.row in
      record {
        clock = refl;
        ordered = o;
        fit = λ m. split (eqb l m)
            (λ q. rw q
            (subst (λ (n : ℕ). Fit u (find n (opens t.occupied (set t.row (place_of l t.occupied t.row) (f (get_or t.row (place_of l t.occupied t.row) absent))))) (tell (st n)))
            (eqb-true l m q)
            (subst (λ (o : Option Session). Fit u o (tell (st l))) (sym (ap (find l) alike ∙ find-update-same l f (open_of t) k)) e)))
            (λ q. rw q
            (subst (λ (o : Option Session). Fit u o (st m)) (sym (ap (find m) alike ∙ find-update-other l m f (open_of t) k q)) (fit-later u h (find m (open_of t)) (st m) (S.fit m))));
        counted = λ p. altered-count t l u f k p ∙ S.counted p;
        listed = λ m. split (eqb l m) (λ q. S.listed m ∙ rw q (sym (same (st m)))) (λ q. S.listed m ∙ rw q);
        once-each = S.once-each;
      }

  -- a place for who has not opened 32
  pub free-place : (g : Settings) (u : ℕ) → OpenPassed t g u → occupied_of 64 t.occupied ≡ 64 → ⊥
  free-place g u p = place-left t S.ordered.rows S.ordered.each (party_of g.label) (party-most g.label) p.room

  label-free : (g : Settings) → any (rivals g) (open_of t) ≡ false → any (eqb g.label) ls ≡ false
  label-free g e =
      S.listed g.label ∙ sym (fit-open now (find g.label (open_of t)) (st g.label) (S.fit g.label))
      ∙ ap is_found (none_found g.label (open_of t) (no_label g (open_of t) e))

  sim-added : (g : Settings) (u : ℕ) → OpenPassed t g u → Ordered (added t g u) → Sim u (λ m. told m (Open g u) (st m)) (g.label ∷ ls) (added t g u)
  unfolding added Steps.new_session any
  sim-added g u p o =
      let i = added-one t g u S.ordered.rows (free-place g u p) in
      let h : now ≤ u = omega (arith, S.clock, p.in-time) in
      let free = no_label g (open_of t) p.unrivalled in
      record {
        clock = refl;
        ordered = o;
        fit = λ m. split (eqb g.label m)
            (λ q. rw q
            (subst (λ (k : ℕ). Fit u (find k (open_of (added t g u))) (some (opened g u))) (eqb-true g.label m q)
            (subst (λ (o : Option Session). Fit u o (some (opened g u))) (sym (find-inserted-own i free)) (fits-opened g u p.fit))))
            (λ q. rw q
            (subst (λ (o : Option Session). Fit u o (st m)) (sym (find-inserted-other m i q)) (fit-later u h (find m (open_of t)) (st m) (S.fit m))));
        counted = λ q. count-inserted (held_by q) i ∙ ap (one_if (is_of q g.label)) (S.counted q) ∙ sym (count-cons (is_of q) g.label ls);
        listed = λ m. split (eqb g.label m)
            (λ q. rw (q, numbers-alike.back m g.label ∙ q))
            (λ q. rw (q, numbers-alike.back m g.label ∙ q) (S.listed m));
        once-each = once-cons eqb numbers-alike g.label ls (label-free g p.unrivalled) S.once-each;
      }

  sim-closed : (l u : ℕ) (r : Session) → now ≤ u → find l (open_of t) ≡ some r → Ordered (closed t l u)
      → Sim u (λ m. told m (On l (Close u)) (st m)) (without eqb l ls) (closed t l u)
  unfolding closed
  sim-closed l u r h e o =
      let rest = open_of (closed t l u) in
      let i = closed-one t l u r e in
      let label : r.settings.label ≡ l = (found-is l (open_of t) r e).1 in
      let gone : any (has_label l) rest ≡ false =
      any_same (has_label l) (same_label r) (λ x. numbers-alike.back x.settings.label l ∙ ap (λ (k : ℕ). eqb k x.settings.label) (sym label)) rest
      ∙ (closed-apart (λ s. s.label) r i S.ordered.labels).0 in
      let there' : any (eqb l) ls ≡ true =
      S.listed l ∙ sym (fit-open now (find l (open_of t)) (st l) (S.fit l)) ∙ ap is_found e in
      record {
        clock = refl;
        ordered = o;
        fit = λ m. split (eqb l m)
            (λ q. rw q (subst (λ (o : Option Session). Fit u o none) (sym (ap (λ (k : ℕ). find k rest) (sym (eqb-true l m q)) ∙ none_found l rest gone)) tt))
            (λ q. rw q
            (subst (λ (o : Option Session). Fit u o (st m)) (find-inserted-other m i (ap (λ (k : ℕ). eqb k m) label ∙ q)) (fit-later u h (find m (open_of t)) (st m) (S.fit m))));
        counted = λ p. one-back (is_of p l)
            (ap (λ (k : ℕ). one_if (is_of p k) (length (only (held_by p) rest))) (sym label) ∙ sym (count-inserted (held_by p) i) ∙ S.counted p
            ∙ sym (count-without (is_of p) eqb (λ a b q. ap (is_of p) (eqb-true a b q)) l ls there'));
        listed = λ m. split (eqb l m)
            (λ q. rw q (ap (λ (k : ℕ). any (eqb k) (without eqb l ls)) (sym (eqb-true l m q)) ∙ any-without-same eqb numbers-alike l ls S.once-each))
            (λ q. rw q (any-without-other eqb numbers-alike l m ls q ∙ S.listed m));
        once-each = once-without eqb numbers-alike l ls S.once-each;
      }

-- an alteration and a story's next event, where both are there
fit-map : {now : ℕ} (u : ℕ) (f : Session → Session) (g : Story → Story) → ((r : Session) (s : Story) → Fits now r s → Fits u (f r) (g s))
    → (o : Option Session) (p : Option Story) → Fit now o p → Fit u (map f o) (more g p)
fit-map u f g k none none e = tt
fit-map u f g k none (some s) e = absurd e
fit-map u f g k (some r) none e = absurd e
fit-map u f g k (some r) (some s) e = k r s e

fit-receive : {now : ℕ} (m : List ℕ) (u : ℕ) → now ≤ u → (o : Option Session) (p : Option Story) → Fit now o p → receive_answer o m u ≡ 0
    → Fit u (map (receiving m u) o) (more (λ s. got s (message_of m) u) p)
fit-receive m u h none none e a = tt
fit-receive m u h none (some s) e a = absurd e
fit-receive m u h (some r) none e a = absurd e
fit-receive m u h (some r) (some s) e a =
    let x = received_as r.settings (message_of m) in
    let b = or_else-passed (message_refusal m) (received_answer r u x) a in
    fits-got (message_of m) u h e x (ap (λ (g : Settings). received_as g (message_of m)) (sym e.settings)) (read-in-range m b.0) b.1

pub more-open : (g : Story → Story) (o : Option Story) → is_open (more g o) ≡ is_open o
more-open g none = refl
more-open g (some s) = refl

-- stories that are the same, label by label
pub sim-same : {now : ℕ} {st st' : ℕ → Option Story} {ls : List ℕ} {t : Table} → ((m : ℕ) → st m ≡ st' m) → Sim now st ls t → Sim now st' ls t
sim-same {now} {st} {st'} {ls} {t} e S =
    record {
      clock = S.clock;
      ordered = S.ordered;
      fit = λ m. subst (λ (p : Option Story). Fit now (find m (open_of t)) p) (e m) (S.fit m);
      counted = S.counted;
      listed = λ m. S.listed m ∙ ap is_open (e m);
      once-each = S.once-each;
    }

both-same : (b : Bool) {o : Option Story} → o ≡ cond b o o
both-same true = refl
both-same false = refl

module _ {now : ℕ} {st : ℕ → Option Story} {ls : List ℕ} {t : Table} (S : Sim now st ls t) where
  in-time : (u : ℕ) → t.clock ≤ u → now ≤ u
  in-time u h = omega (arith, S.clock)

  -- what an accepted call leaves
  act-done : (l : ℕ) (a : Act) → is_accepted (act_answer t.clock (find l (open_of t)) l a) ≡ true
      → Sim (act_reading a now) (λ m. told m (On l a) (st m)) (act_labels l a ls) (act_done t l a)
  unfolding act_answer act_done
  act-done l (Close u) e =
      let p = found_passed t.clock u (find l (open_of t)) (eqb-true _ 0 e) in
      sim-closed S l u p.1.0 (in-time u p.0) p.1.1 (act-ordered t S.ordered l (Close u) e)
  act-done l (Lock u) e =
      let h = in-time u (found_passed t.clock u (find l (open_of t)) (eqb-true _ 0 e)).0 in
      sim-altered S l u h (λ r. Steps.locked_at r u) (act-ordered t S.ordered l (Lock u) e) (λ r. unfold Steps.locked_at in refl) (more (λ s. lock s u)) (more-open (λ s. lock s u))
      (fit-map u (λ r. Steps.locked_at r u) (λ s. lock s u) (λ r s f. fits-locked u h f) (find l (open_of t)) (st l) (S.fit l))
  act-done l (Unlock u) e =
      let h = in-time u (found_passed t.clock u (find l (open_of t)) (eqb-true _ 0 e)).0 in
      sim-altered S l u h (λ r. Steps.unlocked_at r u) (act-ordered t S.ordered l (Unlock u) e) (λ r. unfold Steps.unlocked_at in refl) (more (λ s. unlock s u)) (more-open (λ s. unlock s u))
      (fit-map u (λ r. Steps.unlocked_at r u) (λ s. unlock s u) (λ r s f. fits-unlocked u h f) (find l (open_of t)) (st l) (S.fit l))
  act-done l (Receive m u) e =
      let b = bar-passed (late t.clock u) 0 (receive_answer (find l (open_of t)) m u) (eqb-true _ 0 e) in
      let h = in-time u (not_late t.clock u b.0) in
      sim-altered S l u h (receiving m u) (act-ordered t S.ordered l (Receive m u) e) (λ r. received-keeps r u (received_as r.settings (message_of m))) (more (λ s. got s (message_of m) u)) (more-open (λ s. got s (message_of m) u))
      (fit-receive m u h (find l (open_of t)) (st l) (S.fit l) b.1)
  act-done l ReportOn e = sim-same (λ m. both-same (eqb l m)) S
  act-done l (WriteCc b) e =
      subst (λ (k : ℕ). Sim now (λ m. told m (On l (WriteCc b)) (st m)) ls (altered t l Steps.reply_settled k)) (sym S.clock)
      (sim-altered S l now (omega arith) Steps.reply_settled
      (subst (λ (k : ℕ). Ordered (altered t l Steps.reply_settled k)) S.clock (act-ordered t S.ordered l (WriteCc b) e)) (λ r. unfold Steps.reply_settled in refl) (more wrote_cc) (more-open wrote_cc)
      (fit-map now Steps.reply_settled wrote_cc (λ r s f. fits-wrote f) (find l (open_of t)) (st l) (S.fit l)))
  act-done l (WriteCv b) e = sim-same (λ m. both-same (eqb l m)) S

  pub sim-done : (c : Call) → is_accepted (asked t c) ≡ true → Sim (reading c now) (λ m. told m c (st m)) (labels_after c ls) (done t c)
  unfolding asked done
  sim-done (Tick u) e = sim-tick S u (in-time u (not_late t.clock u (bar-passed (late t.clock u) 0 0 (eqb-true _ 0 e)).0)) (done-ordered t S.ordered (Tick u) e)
  sim-done (Open g u) e = sim-added S g u (open-passed t g u (eqb-true _ 0 e)) (done-ordered t S.ordered (Open g u) e)
  sim-done (On l a) e = act-done l a e
