-- No message of a capture has more than 2,048 octets, so a buffer of that length keeps each of them whole.
-- Assumes nothing.
use Prim.Native.Nat.{ℕ, zero, suc, ◌+◌, ◌≤◌}
use native.Mathlib.Omega.{arith}
use mathlib.Core.Path.{◌≡◌, refl}
use mathlib.Core.Bool.{Bool, true, false, cond}
use mathlib.Core.Option.{Option, none, some}
use mathlib.Core.List.{List, [], ◌∷◌}
use lib.Dec.{eqb, ltb}
use lib.ListN.{length, take, drop, length-take}
use borrow.Author.Tests.{ltb-false}
use Rattle.message.specs.Message.{message_of}
use Rattle.rules.specs.declared.Received.{Received}
use Rattle.rules.specs.declared.Received.TheVariants.{CrossedMessage, HeardCc, HeardCv, FaultMessage}
use Rattle.rules.specs.Received.{received_as}
use Rattle.rules.specs.Calls.{Act, Close, Lock, Unlock, Receive, ReportOn, WriteCc, WriteCv, Call, Tick, Open, On, is_accepted}
use Rattle.rules.proofs.Bools.{split, true-false}
use Rattle.session.specs.declared.Session.{Session}
use Rattle.session.specs.Queries.{locked_in}
use Rattle.table.specs.Table.{open_of, find, answer}
use Rattle.capture.specs.declared.Record.{Record}
use Rattle.capture.specs.declared.Next.{Next}
use Rattle.capture.specs.declared.Next.TheVariants.{Whole, Broken, Short, End}
use Rattle.capture.specs.Records.{record_in, body_in, is_broken, next_of, next_in, is_whole, size_of, call_of, call_in}
use Rattle.text.specs.Text.{parsed_by, parsed}
use Rattle.cause.specs.declared.Marks.{Marks}
use Rattle.cause.specs.Noting.{received_noted, act_noted, act_noted_in, call_noted, noted}
use Rattle.cause.specs.Tracing.{Trace, trace_step, trace_all}

-- the octets of the message that a call brings
abbrev pub message_size : Call → ℕ
message_size (Tick t) = 0
message_size (Open g t) = 0
message_size (On l (Close t)) = 0
message_size (On l (Lock t)) = 0
message_size (On l (Unlock t)) = 0
message_size (On l (Receive m t)) = length m
message_size (On l ReportOn) = 0
message_size (On l (WriteCc b)) = 0
message_size (On l (WriteCv b)) = 0

-- calls of which none brings more than 2,048
pub data AllFit : List Call → Type 0 where
  none_left : AllFit []
  one-fits : {c : Call} {cs : List Call} → message_size c ≤ 2048 → AllFit cs → AllFit (c ∷ cs)

pub front_fits : (n : ℕ) (cs : List Call) → AllFit cs → AllFit (take n cs)
front_fits zero cs f = none_left
front_fits (suc n) [] f = none_left
front_fits (suc n) (c ∷ cs) (one-fits h f) = one-fits h (front_fits n cs f)

-- ---- what is noted of them
-- marks of a message that fits
abbrev Fitting : Marks → Type 0
Fitting m = m.size ≤ 2048

test_fits : (b : Bool) (x y : Marks) → Fitting x → Fitting y → Fitting (cond b x y)
test_fits true x y g h = g
test_fits false x y g h = h

module _ (m : Marks) (h : Fitting m) (n : ℕ) where
  received-fits : (r : Session) (t size : ℕ) → size ≤ 2048 → (x : Received) → Fitting (received_noted m n r t size x)
  received-fits r t size g CrossedMessage = g
  received-fits r t size g (HeardCc p) = h
  received-fits r t size g HeardCv = h
  received-fits r t size g (FaultMessage f) = h

  act-fits : (l : ℕ) (r : Session) (b : Act) → message_size (On l b) ≤ 2048 → Fitting (act_noted m n r b)
  act-fits l r (Close t) g = h
  act-fits l r (Lock t) g = h
  act-fits l r (Unlock t) g = test_fits (locked_in r) _ m h h
  act-fits l r (Receive b t) g = received-fits r t (length b) g (received_as r.settings (message_of b))
  act-fits l r ReportOn g = h
  act-fits l r (WriteCc b) g = h
  act-fits l r (WriteCv b) g = h

  act-in-fits : (l : ℕ) (o : Option Session) (b : Act) → message_size (On l b) ≤ 2048 → Fitting (act_noted_in m n o b)
  act-in-fits l none b g = h
  act-in-fits l (some r) b g = act-fits l r b g

  call_fits_lem : (l : ℕ) (o : Option Session) (c : Call) → message_size c ≤ 2048 → Fitting (call_noted l m n o c)
  call_fits_lem l o (Tick t) g = h
  call_fits_lem l o (Open s t) g = test_fits (eqb s.label l) _ m (omega arith) h
  call_fits_lem l o (On k b) g = test_fits (eqb k l) (act_noted_in m n o b) m (act-in-fits k o b g) h

pub run_fits : (l : ℕ) (x : Trace) (cs : List Call) → AllFit cs → Fitting x.marks → Fitting (trace_all l x cs).marks
unfolding trace_all trace_step noted
run_fits l x [] f h = h
run_fits l x (c ∷ cs) (one-fits g f) h =
    run_fits l (trace_step l x c) cs f
    (test_fits (is_accepted (answer x.table c)) _ x.marks (call_fits_lem x.marks h (suc x.number) l (find l (open_of x.table)) c g) h)

-- ---- the calls of a capture
body-fits : (r : Record) (body : List ℕ) → length body ≤ 2048 → message_size (call_of r body) ≤ 2048
unfolding call_of
body-fits r body h =
    split (eqb r.kind 0)
    (λ e. rw e (omega arith))
    (λ e.
    split (eqb r.kind 1)
    (λ f. rw (e, f) (omega arith))
    (λ f.
    split (eqb r.kind 2)
    (λ g. rw (e, f, g) (omega arith))
    (λ g.
    split (eqb r.kind 3)
    (λ i. rw (e, f, g, i) (omega arith))
    (λ i.
    split (eqb r.kind 4)
    (λ j. rw (e, f, g, i, j) (omega arith))
    (λ j.
    split (eqb r.kind 5)
    (λ k. rw (e, f, g, i, j, k) h)
    (λ k.
    split (eqb r.kind 6)
    (λ u. rw (e, f, g, i, j, k, u) (omega arith))
    (λ u. split (eqb r.kind 7) (λ v. rw (e, f, g, i, j, k, u, v) (omega arith)) (λ v. rw (e, f, g, i, j, k, u, v) (omega arith)))))))))

-- a whole record is not broken
neither-whole : (b : Bool) (x y : Next) → is_whole x ≡ false → is_whole y ≡ false → is_whole (cond b x y) ≡ false
neither-whole true x y g h = g
neither-whole false x y g h = h

long-broken : (kind size : ℕ) → ltb 2048 size ≡ true → is_broken kind size ≡ true
long-broken kind size e = split (ltb 8 kind) (λ f. rw f) (λ f. rw (f, e))

whole-body : (octets : ℕ) (r : Record) → is_whole (next_of octets r) ≡ true → r.size ≤ 2048
whole-body octets r w =
    split (ltb 2048 r.size)
    (λ e.
    let broken : is_whole (cond (is_broken r.kind r.size) Broken (cond (ltb octets (16 + r.size)) Short (Whole r))) ≡ false =
    rw (long-broken r.kind r.size e) in
    absurd (true-false w (neither-whole (eqb octets 0) End _ refl (neither-whole (ltb octets 16) Short _ refl broken))))
    (λ e. ltb-false 2048 r.size e)

call-in-fits : (s : List ℕ) → is_whole (next_in s) ≡ true → message_size (call_in s) ≤ 2048
unfolding next_in call_in
call-in-fits s w =
    let size = (record_in s).size in
    body-fits (record_in s) (body_in s size) (rw (length-take size (drop 16 s)) (omega (arith, whole-body (length s) (record_in s) w)))

by_fits : (n : ℕ) (s : List ℕ) → AllFit (parsed_by n s).calls
unfolding parsed_by
by_fits zero s = none_left
by_fits (suc n) s =
    split (is_whole (next_in s))
    (λ w. rw w (one-fits (call-in-fits s w) (by_fits n (drop (size_of (next_in s)) s))))
    (λ w. rw w none_left)

pub parsed-fits : (s : List ℕ) → AllFit (parsed s).calls
unfolding parsed
parsed-fits s = by_fits (length s) s
