-- The order of two messages and the ticks that do not matter, proved; and beside each that it fails without its premise.
-- Assumes nothing.
use Prim.Native.Nat.{ℕ}
use native.Mathlib.Omega.{arith}
use mathlib.Core.Path.{◌≡◌, refl, sym, ap, ◌∙◌}
use mathlib.Core.Bool.{true, false}
use mathlib.Core.Option.{Option}
use mathlib.Core.List.{List, [], ◌∷◌, ◌++◌}
use lib.ListN.{length}
use lib.Dec.{eqb}
use Rattle.rules.specs.declared.State.{State}
use Rattle.rules.specs.Calls.{Receive, Call, Tick, On, Said, is_accepted}
use Rattle.rules.specs.Times.{late, past, within}
use Rattle.rules.specs.Settings.{settings_fit}
use Rattle.rules.specs.Lists.{any, only, once}
use Rattle.rules.specs.Received.{received_as}
use Rattle.rules.specs.Conditions.{same_if_id, same_global_id, same_key, follows_with}
use Rattle.octets.specs.Writing.{writing}
use Rattle.gach.specs.Header.{header_refusal, channel_refusal}
use Rattle.bfd.specs.Packet.{packet_of}
use Rattle.bfd.specs.Reception.{rule_refusal, your_refusal, control_refusal, cc_refusal}
use Rattle.bfd.specs.Octets.{packet_octets}
use Rattle.cv.specs.Forms.{value_length, length_fits, agi_fits, form_refusal, agi_refusal, mep_refusal, mep_fits}
use Rattle.cv.specs.MepId.{head_octets, agi_octets, mep_octets, same_mep_id}
use Rattle.message.specs.Message.{message_refusal, message_of}
use Rattle.meaning.specs.Standing.{locked, crossing, timed_from, multiplier_of, loss_in, state, state_at, remote_diagnostic, remote_of, owed, stands, followed_last, keys_of, conditions, followed, defect, held, report, diagnostic, packet, cc_written, cv_written}
use Rattle.gach.specs.Kinds.{kind_refusal}
use Rattle.session.specs.declared.Session.{Session}
use Rattle.table.specs.Table.{Table, answer, next, emptied}
use Rattle.table.proofs.Exchange.{answer-beside, next-either, tick-alone, other_way}
use Rattle.meaning.specs.Stories.{Story, settings_of}
use Rattle.meaning.specs.Histories.{History, start, after, clock_of, story, labels}
use Rattle.meaning.specs.Timer.{eager_state, shown}
use Rattle.meaning.specs.Worlds.{World, step, play, begin, past_of, table_after}
use Rattle.meaning.specs.Further.{answers_from}
use Rattle.meaning.specs.Answers.{rival, open_number, act_said, says_of, says}
use Rattle.meaning.specs.Edges.{told-all, last_said, Hold, opening, report_now, cc as cc_in}
use Rattle.meaning.specs.Orders.{one_label, Exchangeable, EitherFirst, Exchanged, TickAlone, TicksAlone, StatesAlone}
use Rattle.meaning.proofs.Demand.{answered, Good, good-play, good-begin, demand3}

pub either_first : EitherFirst
either_first t l k d m n u =
    record {
      first = answer-beside t l k m n u d;
      second = answer-beside t k l n m u (other_way l k d);
      table = next-either t l k m n u d;
    }

-- a list of calls behind another
play-behind : (w : World) (cs ds : List Call) → play w (cs ++ ds) ≡ play (play w cs) ds
unfolding play
play-behind w [] ds = refl
play-behind w (c ∷ cs) ds = play-behind (step w c) cs ds

-- the table of a world does not ask for its past
table_of : (w : World) (cs : List Call) (v : World) → w.table ≡ v.table → (play w cs).table ≡ (play v cs).table
unfolding play step
table_of w [] v e = e
table_of w (c ∷ cs) v e = table_of (step w c) cs (step v c) (ap (λ (t : Table). next t c) e)

table-behind : (row : List Session) (cs ds : List Call) → table_after row (cs ++ ds) ≡ (play (play (begin row) cs) ds).table
unfolding table_after
table-behind row cs ds = ap (λ (w : World). w.table) (play-behind (begin row) cs ds)

-- 1, between any two lists
pub exchanged : (row : List Session) (before behind : List Call) (l k : ℕ) → eqb l k ≡ false → (m n : List ℕ) (u : ℕ)
    → Exchanged row before (On l (Receive m u)) (On k (Receive n u)) behind
unfolding table_after play step
exchanged row before behind l k d m n u =
    let c = On l (Receive m u) in
    let e = On k (Receive n u) in
    let w = play (begin row) before in
    let x = either_first w.table l k d m n u in
    record {
      first = ap (λ (t : Table). answer t c) (table-behind row before (e ∷ [])) ∙ x.first;
      second = ap (λ (t : Table). answer t e) (table-behind row before (c ∷ [])) ∙ x.second;
      table =
          table-behind row before (c ∷ e ∷ behind)
          ∙ table_of (step (step w c) e) behind (step (step w e) c) x.table
          ∙ sym (table-behind row before (e ∷ c ∷ behind));
      answers =
          ap (λ (t : Table). answers_from t behind)
          (table-behind row before (c ∷ e ∷ []) ∙ x.table ∙ sym (table-behind row before (e ∷ c ∷ [])));
    }

-- 2
pub ticks-alone : TicksAlone
ticks-alone t a b p q = let x = tick-alone t a b p q in record { accepted = x.0; table = x.1 }

-- told twice or once, a tick leaves every story and the clock that it brings
ticked : (h : History) (b : ℕ) (x : Said) → is_accepted x ≡ true → (l : ℕ)
    → (clock_of (after h (Tick b) x) ≡ b) × (story l (after h (Tick b) x) ≡ story l h)
unfolding clock_of story
ticked h b x e l = (rw e, rw e)

past-behind : (row : List Session) (cs ds : List Call) → past_of row (cs ++ ds) ≡ (play (play (begin row) cs) ds).past
unfolding past_of
past-behind row cs ds = ap (λ (w : World). w.past) (play-behind (begin row) cs ds)

-- the state by TIMER given to all, of a list that ends in an accepted tick
state-ticked : (row : List Session) → length row ≡ 64 → (cs ds : List Call) (b l : ℕ) (h : History) (x : Said)
    → past_of row (cs ++ ds) ≡ after h (Tick b) x → is_accepted x ≡ true → eager_state l (past_of row (cs ++ ds)) ≡ shown b (story l h)
state-ticked row e cs ds b l h x p a =
    let k = ticked h b x a l in
    (demand3 row e (cs ++ ds)).timer l
    ∙ ap (λ (y : History). shown (clock_of y) (story l y)) p
    ∙ (λ i. shown (k.0 i) (k.1 i))

pub states-alone : (row : List Session) → length row ≡ 64 → (cs : List Call) (a b : ℕ)
    → is_accepted (answer (table_after row cs) (Tick a)) ≡ true → is_accepted (answer (next (table_after row cs) (Tick a)) (Tick b)) ≡ true
    → StatesAlone row cs a b
unfolding table_after play step
states-alone row e cs a b p q l =
    let w = play (begin row) cs in
    let x = answer w.table (Tick a) in
    let y = answer (next w.table (Tick a)) (Tick b) in
    state-ticked row e cs (Tick a ∷ Tick b ∷ []) b l (after w.past (Tick a) x) y (past-behind row cs (Tick a ∷ Tick b ∷ [])) q
    ∙ ap (shown b) (ticked w.past a x p l).1
    ∙ sym
    (state-ticked row e cs (Tick b ∷ []) b l w.past (answer w.table (Tick b)) (past-behind row cs (Tick b ∷ []))
    (ticks-alone w.table a b p q).accepted)

-- without the premises

-- from a row made empty, the past is what the paper says of the calls
past-told : (w : World) (cs : List Call) → Good w → (play w cs).past ≡ told-all w.past cs
unfolding play step told-all
past-told w [] G = refl
past-told w (c ∷ cs) G =
    past-told (step w c) cs (good-play w (c ∷ []) G)
    ∙ ap (λ (x : Said). told-all (after w.past c x) cs) (answered w.past w.table G.in_step c)

said-after : (row : List Session) → length row ≡ 64 → (cs : List Call) (c : Call) → answer (table_after row cs) c ≡ says (told-all start cs) c
unfolding table_after begin
said-after row e cs c =
    let G = good-play (begin row) cs (good-begin row e) in
    answered (play (begin row) cs).past (play (begin row) cs).table G.in_step c
    ∙ ap (λ (h : History). says h c) (past-told (begin row) cs (good-begin row e))

pub one-label-said : Hold one_label
unfolding Hold one_label last_said told-all says says_of act_said open_number rival clock_of story labels late past within settings_fit any only once received_as writing header_refusal channel_refusal kind_refusal packet_of rule_refusal your_refusal control_refusal cc_refusal packet_octets value_length length_fits agi_fits form_refusal mep_fits message_refusal message_of settings_of locked crossing timed_from multiplier_of loss_in state state_at remote_diagnostic remote_of owed stands followed_last keys_of conditions followed defect held report diagnostic packet
one-label-said = (refl, (refl, tt))

-- two messages on one label: not exchangeable on the table that one open leaves, whatever the row was
pub one-label-matters : (row : List Session) → length row ≡ 64 → Exchangeable (table_after row (opening ∷ [])) (cc_in 1 17 0) (cc_in 2 17 0) → ⊥
unfolding table_after play step Hold one_label last_said
one-label-matters row e x =
    let told = one-label-said in
    let first = said-after row e (opening ∷ cc_in 1 17 0 ∷ cc_in 2 17 0 ∷ []) report_now ∙ told.0 in
    let second = said-after row e (opening ∷ cc_in 2 17 0 ∷ cc_in 1 17 0 ∷ []) report_now ∙ told.1.0 in
    let same = sym first ∙ ap (λ (t : Table). answer t report_now) x.table ∙ second in
    let differ : ◌≡◌ {A = ℕ} 3 1 = ap (λ (a : Said). a.report.state) same in
    omega arith

pub clock-after : (row : List Session) → length row ≡ 64 → (cs : List Call) → (table_after row cs).clock ≡ clock_of (told-all start cs)
unfolding table_after begin
clock-after row e cs =
    (good-play (begin row) cs (good-begin row e)).in_step.clock ∙ ap clock_of (past-told (begin row) cs (good-begin row e))

-- a tick below: it is refused, and the clock stays
pub below-matters : (row : List Session) → length row ≡ 64 → next (next (emptied row) (Tick 5)) (Tick 3) ≡ next (emptied row) (Tick 3) → ⊥
unfolding table_after play step begin told-all says says_of late clock_of
below-matters row e x =
    let same : (table_after row (Tick 5 ∷ Tick 3 ∷ [])).clock ≡ (table_after row (Tick 3 ∷ [])).clock = ap (λ (t : Table). t.clock) x in
    let differ : ◌≡◌ {A = ℕ} 5 3 = sym (clock-after row e (Tick 5 ∷ Tick 3 ∷ [])) ∙ same ∙ clock-after row e (Tick 3 ∷ []) in
    omega arith
