-- A table, the marks of one label and the octets kept for it, call by call.
-- Assumes nothing.
use Prim.Native.Nat.{ℕ, suc}
use mathlib.Core.Path.{◌≡◌, refl, sym, ap, ◌∙◌, subst}
use mathlib.Core.Bool.{Bool, true, false, cond}
use mathlib.Core.Option.{Option, none, some, map}
use mathlib.Core.List.{List}
use lib.Dec.{eqb}
use borrow.Author.Tests.{eqb-true, eqb-false, eq-eqb}
use Rattle.message.specs.Message.{message_of}
use Rattle.rules.specs.declared.Settings.{Settings}
use Rattle.rules.specs.Received.{received_as}
use Rattle.rules.specs.Calls.{Act, Close, Lock, Unlock, Receive, ReportOn, WriteCc, WriteCv, Call, Tick, Open, On, Said, is_accepted}
use Rattle.rules.proofs.Bools.{true-false}
use Rattle.session.specs.declared.Session.{Session}
use Rattle.session.specs.Steps as Steps
use Rattle.session.proofs.Received.{received-keeps}
use Rattle.table.specs.Table.{Table, open_of, find, act_answer, asked, answer, altered, added, closed, receiving, act_done, done, next, emptied, absent}
use Rattle.table.proofs.Rows.{opens-altered, find-update-same, find-update-other, found-is, find-inserted-own, find-inserted-other}
use Rattle.table.proofs.Apart.{added-one, closed-one, no_label}
use Rattle.table.proofs.Accepted.{OpenPassed, open-passed, found_passed}
use Rattle.meaning.specs.Stories.{Story}
use Rattle.meaning.specs.Histories.{History, start, after, clock_of, story}
use Rattle.meaning.specs.Accounts.{size}
use Rattle.meaning.proofs.Fits.{Fits, same-locked}
use Rattle.meaning.proofs.Sim.{Fit, fit-story, free-place, sim-done}
use Rattle.meaning.proofs.Demand.{InStep, was-asked, opens-none}
use Rattle.cause.specs.declared.Marks.{Marks}
use Rattle.cause.specs.Noting.{anew, act_noted, act_noted_in, call_noted, noted, act_kept, act_kept_in, call_kept, kept_after}
use Rattle.cause.proofs.Lasts.{clash, none-some}
use Rattle.cause.proofs.Traced.{Traced, traced-open, traced-other, traced-lock, traced-unlock, traced-got, traced-report, traced-wrote-cc, traced-wrote-cv}

-- marks and octets are those of the label's record, where it has one
abbrev pub TracedIn : History → ℕ → Table → Marks → List ℕ → Type 0
TracedIn h l t m kept = (r : Session) → find l (open_of t) ≡ some r → Traced h l r m kept

-- Calls told apart, here, where nothing else is in scope
open-on : {A : Type 0} {g : Settings} {u k : ℕ} {b : Act} → Open g u ≡ On k b → A
open-on f = clash (cc)

tick-open : {A : Type 0} {u v : ℕ} {g : Settings} → Tick u ≡ Open g v → A
tick-open f = clash (cc)

tick-on : {A : Type 0} {u k : ℕ} {b : Act} → Tick u ≡ On k b → A
tick-on f = clash (cc)

on-label : {k l : ℕ} {b c : Act} → On k b ≡ On l c → k ≡ l
on-label f = cc

open-label : {g k : Settings} {u v : ℕ} → Open g u ≡ Open k v → g.label ≡ k.label
open-label {g} {k} f = let x : g ≡ k = cc in ap (λ (k : Settings). k.label) x

some_one : {A : Type 0} {x y : A} → some x ≡ some y → x ≡ y
some_one f = cc

-- a record altered was a record
map-some : (f : Session → Session) (o : Option Session) {q : Session} → map f o ≡ some q → (r : Session) × (o ≡ some r) × (q ≡ f r)
map-some f none e = none-some e
map-some f (some r) {q} e = let z : q ≡ f r = cc in (r, refl, z)

same_map : (o : Option Session) → map (λ r. r) o ≡ o
same_map none = refl
same_map (some r) = refl

received-settings : (m : List ℕ) (u : ℕ) (r : Session) → (receiving m u r).settings ≡ r.settings
received-settings m u r = received-keeps r u (received_as r.settings (message_of m))

-- The record of a label after an accepted call
module _ (t : Table) where
  altered-own : (l u : ℕ) (f : Session → Session) → ((r : Session) → (f r).settings ≡ r.settings) → find l (open_of (altered t l f u)) ≡ map f (find l (open_of t))
  unfolding altered
  altered-own l u f k = ap (find l) (opens-altered l f absent t.occupied t.row) ∙ find-update-same l f (open_of t) k

  altered-other : (l k u : ℕ) (f : Session → Session) → ((r : Session) → (f r).settings ≡ r.settings) → eqb k l ≡ false → find l (open_of (altered t k f u)) ≡ find l (open_of t)
  unfolding altered
  altered-other l k u f same n = ap (find l) (opens-altered k f absent t.occupied t.row) ∙ find-update-other k l f (open_of t) same n

  closed-other : (l k u : ℕ) (r : Session) → find k (open_of t) ≡ some r → eqb k l ≡ false → find l (open_of (closed t k u)) ≡ find l (open_of t)
  closed-other l k u r e n = sym (find-inserted-other l (closed-one t k u r e) (ap (λ (j : ℕ). eqb j l) (found-is k (open_of t) r e).1 ∙ n))

  -- an act on another label
  act-other : (l k : ℕ) → eqb k l ≡ false → (b : Act) → is_accepted (act_answer t.clock (find k (open_of t)) k b) ≡ true → find l (open_of (act_done t k b)) ≡ find l (open_of t)
  unfolding act_answer act_done
  act-other l k n (Close u) y =
      let r = (found_passed t.clock u (find k (open_of t)) (eqb-true _ 0 y)).1 in closed-other l k u r.0 r.1 n
  act-other l k n (Lock u) y = altered-other l k u (λ r. Steps.locked_at r u) (λ r. unfold Steps.locked_at in refl) n
  act-other l k n (Unlock u) y = altered-other l k u (λ r. Steps.unlocked_at r u) (λ r. unfold Steps.unlocked_at in refl) n
  act-other l k n (Receive m u) y = altered-other l k u (receiving m u) (received-settings m u) n
  act-other l k n ReportOn y = refl
  act-other l k n (WriteCc b) y = altered-other l k t.clock Steps.reply_settled (λ r. unfold Steps.reply_settled in refl) n
  act-other l k n (WriteCv b) y = refl

module _ (h : History) (l : ℕ) (t : Table) (m : Marks) (kept : List ℕ) (S : InStep h t) (T : TracedIn h l t m kept) (a : Said) (y : is_accepted a ≡ true) where
  abbrev n : ℕ
  n = suc (size h)

  -- a record of the label that the call did not touch
  untouched : (d : Call) → ((g : Settings) (u : ℕ) → d ≡ Open g u → is_accepted a ≡ true → g.label ≡ l → ⊥) → ((b : Act) → d ≡ On l b → is_accepted a ≡ true → ⊥)
      → (q : Session) → find l (open_of t) ≡ some q → Traced (after h d a) l q m kept
  untouched d f g q e = traced-other d a f g (T q e)

  -- a record of the label that the act altered
  module _ (f : Session → Session) (b : Act)
      (step : (r : Session) (s : Story) → story l h ≡ some s → Fits (clock_of h) r s → Traced h l r m kept
      → Traced (after h (On l b) a) l (f r) (act_noted m n r b) (act_kept kept r b)) where
    touched-at : (q r : Session) → find l (open_of t) ≡ some r → q ≡ f r
        → Traced (after h (On l b) a) l q (act_noted_in m n (find l (open_of t)) b) (act_kept_in kept (find l (open_of t)) b)
    touched-at q r e x =
        let s = fit-story (story l h) (subst (λ (o : Option Session). Fit (clock_of h) o (story l h)) e (S.fit l)) in
        rw (x, e) (step r s.0 s.1 s.2 (T r e))

    touched : (q : Session) → map f (find l (open_of t)) ≡ some q
        → Traced (after h (On l b) a) l q (act_noted_in m n (find l (open_of t)) b) (act_kept_in kept (find l (open_of t)) b)
    touched q e = let r = map-some f (find l (open_of t)) e in touched-at q r.0 r.1 r.2

  -- a closed label has no record
  gone : (u : ℕ) → is_accepted (act_answer t.clock (find l (open_of t)) l (Close u)) ≡ true → (q : Session) → find l (open_of (act_done t l (Close u))) ≡ some q → ⊥
  unfolding asked done
  gone u z q e =
      let f : Fit u (find l (open_of (act_done t l (Close u)))) (cond (eqb l l) none (story l h)) = (sim-done S (On l (Close u)) z).fit l in
      let g : Fit u (some q) (cond (eqb l l) none (story l h)) = subst (λ (o : Option Session). Fit u o (cond (eqb l l) none (story l h))) e f in
      subst (λ (b : Bool). Fit u (some q) (cond b none (story l h))) (eq-eqb l l refl) g

  -- an act on the label
  act-own : (b : Act) → is_accepted (act_answer t.clock (find l (open_of t)) l b) ≡ true → (q : Session) → find l (open_of (act_done t l b)) ≡ some q
      → Traced (after h (On l b) a) l q (act_noted_in m n (find l (open_of t)) b) (act_kept_in kept (find l (open_of t)) b)
  unfolding act_done
  act-own (Close u) z q e = absurd (gone u z q e)
  act-own (Lock u) z q e =
      touched (λ r. Steps.locked_at r u) (Lock u) (λ r s w F R. traced-lock a s w y R u) q
      (sym (altered-own t l u (λ r. Steps.locked_at r u) (λ r. unfold Steps.locked_at in refl)) ∙ e)
  act-own (Unlock u) z q e =
      touched (λ r. Steps.unlocked_at r u) (Unlock u) (λ r s w F R. traced-unlock a s w y R u (same-locked F)) q
      (sym (altered-own t l u (λ r. Steps.unlocked_at r u) (λ r. unfold Steps.unlocked_at in refl)) ∙ e)
  act-own (Receive b u) z q e =
      touched (receiving b u) (Receive b u)
      (λ r s w F R. traced-got a s w y R b u (received_as r.settings (message_of b)) (ap (λ (g : Settings). received_as g (message_of b)) (sym F.settings))) q
      (sym (altered-own t l u (receiving b u) (received-settings b u)) ∙ e)
  act-own ReportOn z q e = touched (λ r. r) ReportOn (λ r s w F R. traced-report a s w y R) q (same_map (find l (open_of t)) ∙ e)
  act-own (WriteCc b) z q e =
      touched Steps.reply_settled (WriteCc b) (λ r s w F R. traced-wrote-cc a s w y R b) q
      (sym (altered-own t l t.clock Steps.reply_settled (λ r. unfold Steps.reply_settled in refl)) ∙ e)
  act-own (WriteCv b) z q e = touched (λ r. r) (WriteCv b) (λ r s w F R. traced-wrote-cv a s w y R b) q (same_map (find l (open_of t)) ∙ e)

  -- an accepted open, of the label or of another
  module _ (g : Settings) (u : ℕ) (p : OpenPassed t g u) where
    open_own : g.label ≡ l → (q : Session) → find l (open_of (added t g u)) ≡ some q → Traced (after h (Open g u) a) l q (anew n) kept
    unfolding Steps.new_session
    open_own j q e =
        let f : find g.label (open_of (added t g u)) ≡ some (Steps.new_session g u) =
        find-inserted-own (added-one t g u S.ordered.rows (free-place S g u p)) (no_label g (open_of t) p.unrivalled) in
        let i : some q ≡ some (Steps.new_session g u) = sym e ∙ ap (λ (k : ℕ). find k (open_of (added t g u))) (sym j) ∙ f in
        subst (λ (x : Session). Traced (after h (Open g u) a) l x (anew n) kept) (sym (some_one i)) (traced-open h a l g u kept y j)

    open-other : eqb g.label l ≡ false → (q : Session) → find l (open_of (added t g u)) ≡ some q → Traced (after h (Open g u) a) l q m kept
    unfolding Steps.new_session
    open-other i q e =
        untouched (Open g u) (λ k v f w own. eqb-false g.label l i (open-label f ∙ own)) (λ b f w. open-on f) q
        (sym (find-inserted-other l (added-one t g u S.ordered.rows (free-place S g u p)) i) ∙ e)

    by-open : (b : Bool) → eqb g.label l ≡ b → (q : Session) → find l (open_of (added t g u)) ≡ some q → Traced (after h (Open g u) a) l q (cond b (anew n) m) kept
    by-open true i q e = open_own (eqb-true g.label l i) q e
    by-open false i q e = open-other i q e

  -- an accepted act, on the label or on another
  by-act : (k : ℕ) (b : Act) → is_accepted (act_answer t.clock (find k (open_of t)) k b) ≡ true → (x : Bool) → eqb k l ≡ x → (q : Session)
      → find l (open_of (act_done t k b)) ≡ some q
      → Traced (after h (On k b) a) l q (cond x (act_noted_in m n (find l (open_of t)) b) m) (cond x (act_kept_in kept (find l (open_of t)) b) kept)
  by-act k b z true i q e =
      subst (λ (x : ℕ). Traced (after h (On x b) a) l q (act_noted_in m n (find l (open_of t)) b) (act_kept_in kept (find l (open_of t)) b)) (sym (eqb-true k l i))
      (act-own b (subst (λ (x : ℕ). is_accepted (act_answer t.clock (find x (open_of t)) x b) ≡ true) (eqb-true k l i) z) q
      (ap (λ (x : ℕ). find l (open_of (act_done t x b))) (sym (eqb-true k l i)) ∙ e))
  by-act k b z false i q e = untouched (On k b) (λ g v f w own. open-on (sym f)) (λ c f w. eqb-false k l i (on-label f)) q (sym (act-other t l k i b z) ∙ e)

  -- any accepted call
  traced-done : (c : Call) → is_accepted (asked t c) ≡ true
      → TracedIn (after h c a) l (done t c) (call_noted l m n (find l (open_of t)) c) (call_kept l kept (find l (open_of t)) c)
  unfolding asked done
  traced-done (Tick u) z = untouched (Tick u) (λ g v i w k. tick-open i) (λ b i w. tick-on i)
  traced-done (Open g u) z = by-open g u (open-passed t g u (eqb-true _ 0 z)) (eqb g.label l) refl
  traced-done (On k b) z = by-act k b z (eqb k l) refl

-- one call more, whatever it answers
module _ (h : History) (l : ℕ) (t : Table) (m : Marks) (kept : List ℕ) (S : InStep h t) (T : TracedIn h l t m kept) (c : Call) (a : Said) where
  by_answer : (b : Bool) → is_accepted a ≡ b → (b ≡ true → is_accepted (asked t c) ≡ true)
      → TracedIn (after h c a) l (cond b (done t c) t) (cond b (call_noted l m (suc (size h)) (find l (open_of t)) c) m) (cond b (call_kept l kept (find l (open_of t)) c) kept)
  by_answer true e z = traced-done h l t m kept S T a e c (z refl)
  by_answer false e z = λ q f. traced-other c a (λ g u i w k. true-false w e) (λ b i w. true-false w e) (T q f)

pub traced-next : (h : History) (l : ℕ) (t : Table) (m : Marks) (kept : List ℕ) → InStep h t → TracedIn h l t m kept → (c : Call)
    → TracedIn (after h c (answer t c)) l (next t c) (noted l m (suc (size h)) t c) (kept_after l kept t c)
unfolding next noted kept_after
traced-next h l t m kept S T c =
    by_answer h l t m kept S T c (answer t c) (is_accepted (answer t c)) refl (λ z. ap is_accepted (sym (was-asked h t S c)) ∙ z)

-- before any call
pub traced-start : (row : List Session) (l : ℕ) (m : Marks) (kept : List ℕ) → TracedIn start l (emptied row) m kept
unfolding emptied find
traced-start row l m kept r e = none-some (sym (ap (find l) (opens-none row)) ∙ e)
