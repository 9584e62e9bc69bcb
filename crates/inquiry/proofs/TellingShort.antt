-- How long the text of an answer can be: no number has more than 20 digits.
-- Assumes nothing.
use Prim.Native.Nat.{ℕ, zero, suc, ◌+◌, ◌/◌, ◌%◌, ◌≤◌}
use native.Mathlib.Omega.{arith}
use native.Mathlib.Nat.{zero-add}
use native.Mathlib.Numerals.{add-one}
use mathlib.Core.Path.{◌≡◌, refl, ◌∙◌}
use mathlib.Core.Bool.{Bool, true, false, cond}
use mathlib.Core.Option.{Option, none, some}
use mathlib.Core.List.{List, [], ◌∷◌, ◌++◌}
use lib.Dec.{eqb, ltb}
use lib.ListN.{length, drop, take, length-append}
use Rattle.octets.specs.Choice.{Answer, accepted, refused}
use Rattle.cv.specs.declared.MepId.{MepId}
use Rattle.message.specs.declared.Message.{Message}
use Rattle.message.specs.declared.Message.TheVariants.{ContinuityCheck, ConnectivityVerification, FaultManagement}
use Rattle.message.specs.Message.{message_of}
use Rattle.rules.specs.declared.Key.{Key}
use Rattle.rules.specs.Conditions.{key_of}
use Rattle.conditions.specs.declared.Condition.{Condition}
use Rattle.conditions.specs.Standing.{place_stands}
use Rattle.session.specs.declared.Session.{Session}
use Rattle.capture.specs.Records.{header_fits}
use Rattle.capture.specs.Lines.{decimal}
use Rattle.capture.specs.Typing.{typed}
use Rattle.capture.proofs.Digits.{digits-short}
use Rattle.capture.proofs.Typing.{typed-fits}
use Rattle.text.specs.Text.{parsed}
use Rattle.meaning.specs.Histories.{History}
use Rattle.cause.specs.declared.Cause.{Cause}
use Rattle.cause.specs.declared.Marks.{Marks}
use Rattle.cause.specs.declared.Thing.{Thing}
use Rattle.cause.specs.declared.Thing.TheVariants.{Crossing, Loss, Condition as OfKey, HeldBack}
use Rattle.cause.specs.declared.Timed.{Timed}
use Rattle.cause.specs.declared.Timed.TheVariants.{Opening, Unlock, Cc, Cv}
use Rattle.cause.specs.Causes.{Reason, crossed_by, timed_by, fault_by, cause_of, reason_of}
use Rattle.cause.specs.FromMarks.{best_of, stands_as, why_from}
use Rattle.cause.specs.Pasts.{past_up_to}
use Rattle.inquiry.specs.Vocabulary.{w_opening, w_unlock, w_cc, w_cv, w_ais, w_lkr, w_refresh, w_seconds, w_link_down, w_interface, w_global}
use Rattle.inquiry.specs.Words.{timed_words, pair_words, mep_words, message_words, only_if, condition_words, reason_text, padded, which_line, age_line, end_line, absent_words, telling, answer_words, cut_line, capture_note, why_text}
use Rattle.inquiry.specs.Telling.{timed_words_by, place_words, words_from, words_in, telling_from}

-- of two texts by a test
test_short : (n : ℕ) (b : Bool) (xs ys : List ℕ) → length xs ≤ n → length ys ≤ n → length (cond b xs ys) ≤ n
test_short n true xs ys g h = g
test_short n false xs ys g h = h

decimal-short : (n : ℕ) → length (decimal n) ≤ 20
decimal-short n = digits-short 20 n

-- ---- what the record was: at most 123 octets
mep-short : (id : MepId) → length (mep_words id) ≤ 87
unfolding mep_words
mep-short id =
    let g = decimal-short id.global in
    let n = decimal-short id.node in
    let i = decimal-short id.local in
    let t = decimal-short (id.local / 65536) in
    let l = decimal-short (id.local % 65536) in
    test_short 87 (eqb id.kind 0) _ _ (simp length-append (omega arith))
    (test_short 87 (eqb id.kind 1) _ _ (simp length-append (omega arith)) (simp length-append (omega arith)))

message-short : (m : Message) → length (message_words m) ≤ 123
unfolding message_words
message-short (ContinuityCheck p) = simp length-append (omega (arith, decimal-short p.your))
message-short (ConnectivityVerification p id) = simp length-append (omega (arith, decimal-short p.your, mep-short id))
message-short (FaultManagement f) = omega arith

-- words under a mark
only-short : (n : ℕ) (b : Bool) (words : List ℕ) → length words ≤ n → length (only_if b words) ≤ n
only-short n b words h = test_short n b words [] h (omega arith)

seven-parts : (a b c d e f g : List ℕ) → length (a ++ b ++ c ++ d ++ e ++ f ++ g) ≡ length a + length b + length c + length d + length e + length f + length g
seven-parts a b c d e f g = simp length-append

condition-short : (key : Key) (refresh : ℕ) (linkdown : Bool) → length (condition_words key refresh linkdown) ≤ 123
unfolding condition_words
condition-short key refresh linkdown =
    let interface : List ℕ = w_interface ++ pair_words key.node key.interface in
    let global : List ℕ = w_global ++ decimal key.global in
    rw (seven-parts (cond (eqb key.kind 1) w_ais w_lkr) w_refresh (decimal refresh) w_seconds (only_if linkdown w_link_down) (only_if (eqb key.present 1) interface)
    (only_if (eqb key.carrier 1) global))
    (omega (
      arith,
      test_short 3 (eqb key.kind 1) w_ais w_lkr (omega arith) (omega arith),
      decimal-short refresh,
      only-short 3 linkdown w_link_down (omega arith),
      only-short 53 (eqb key.present 1) interface (simp length-append (omega (arith, decimal-short key.node, decimal-short key.interface))),
      only-short 32 (eqb key.carrier 1) global (simp length-append (omega (arith, decimal-short key.global))),
    ))

timed-short : (t : Timed) → length (timed_words t) ≤ 123
timed-short Opening = omega arith
timed-short Unlock = omega arith
timed-short Cc = omega arith
timed-short Cv = omega arith

reason-short : (o : Option Reason) → length (reason_text o) ≤ 123
reason-short none = omega arith
reason-short (some (crossed_by m)) = message-short (message_of m)
reason-short (some (timed_by t)) = timed-short t
reason-short (some (fault_by f)) = condition-short (key_of f) f.refresh f.linkdown

number_short : (n : ℕ) → length (timed_words_by n) ≤ 123
number_short n =
    test_short 123 (eqb n 0) w_opening _ (omega arith)
    (test_short 123 (eqb n 1) w_unlock _ (omega arith) (test_short 123 (eqb n 2) w_cc w_cv (omega arith) (omega arith)))

place_short : (c : Condition) → length (place_words c) ≤ 123
place_short c = condition-short c.key c.refresh (eqb c.linkdown 1)

words-short : (m : Marks) (o : Option Session) (now : ℕ) (kept : List ℕ) (thing : Thing) → length (words_in m o now kept thing) ≤ 123
unfolding words_from
words-short m none now kept thing = omega arith
words-short m (some r) now kept Crossing = message-short (message_of (take m.size kept))
words-short m (some r) now kept Loss = number_short m.by
words-short m (some r) now kept (OfKey key) = place_short (best_of (stands_as key now) r.conditions m).place
words-short m (some r) now kept HeldBack = place_short (best_of (λ c. place_stands c now) r.conditions m).place

-- ---- the three lines
pub padded-length : (k n : ℕ) → length (padded k n) ≡ k
unfolding padded
padded-length zero n = refl
padded-length (suc k) n = length-append (padded k (n / 10)) ((48 + n % 10) ∷ []) ∙ rw (padded-length k (n / 10)) (add-one k)

which-short : (c : Cause) (words : List ℕ) → length words ≤ 123 → length (which_line c words) ≤ 184
which-short c words h = simp length-append (omega (arith, decimal-short c.number, decimal-short c.reading))

age-short : (age : ℕ) → length (age_line age) ≤ 39
age-short age = simp length-append (omega (arith, decimal-short (age / 1000000), padded-length 6 (age % 1000000)))

end_short : (thing : Thing) (end : ℕ) → length (end_line thing end) ≤ 85
end_short Crossing end = simp length-append (omega (arith, decimal-short end))
end_short Loss end = simp length-append (omega (arith, decimal-short end))
end_short (OfKey key) end = simp length-append (omega (arith, decimal-short end))
end_short HeldBack end = simp length-append (omega (arith, decimal-short end))

absent-short : (thing : Thing) → length (absent_words thing ++ 10 ∷ []) ≤ 308
absent-short Crossing = omega arith
absent-short Loss = omega arith
absent-short (OfKey key) = omega arith
absent-short HeldBack = omega arith

three-parts : (a b c : List ℕ) → length (a ++ b ++ c) ≡ length a + length b + length c
three-parts a b c = simp length-append

answer-short : (a : Answer Cause) (words : List ℕ) (l : ℕ) (thing : Thing) → length words ≤ 123 → length (telling a words l thing) ≤ 308
unfolding telling
answer-short (accepted c) words l thing h =
    rw (three-parts (which_line c words) (age_line c.age) (end_line thing c.end))
    (omega (arith, which-short c words h, age-short c.age, end_short thing c.end))
answer-short (refused n) words l thing h =
    test_short 308 (eqb n 2) _ _ (simp length-append (omega (arith, decimal-short l))) (absent-short thing)

-- from marks, record and octets kept; and of a history
pub telling-short : (m : Marks) (o : Option Session) (now : ℕ) (kept : List ℕ) (l : ℕ) (thing : Thing) → length (telling_from m o now kept l thing) ≤ 308
unfolding telling_from
telling-short m o now kept l thing = answer-short (why_from m o now thing) (words_in m o now kept thing) l thing (words-short m o now kept thing)

pub history-short : (h : History) (l : ℕ) (thing : Thing) → length (answer_words h l thing) ≤ 308
unfolding answer_words
history-short h l thing = answer-short (cause_of h l thing) (reason_text (reason_of h l thing)) l thing (reason-short (reason_of h l thing))

-- ---- what is said of the capture
pub cut_short : (n : ℕ) → length (cut_line n) ≤ 48
cut_short n = simp length-append (omega (arith, decimal-short n))

note-short : (upto : ℕ) (capture : List ℕ) → length (capture_note upto capture) ≤ 48
unfolding capture_note
note-short upto capture =
    let n = length (parsed (drop 8 capture)).calls in
    let rest = (parsed (drop 8 capture)).rest in
    test_short 48 (header_fits capture) _ _ (test_short 48 (ltb upto n) _ _ (omega arith) (test_short 48 (eqb (length rest) 0) _ _ (omega arith) (cut_short n))) (omega arith)

pub text-short : (l : ℕ) (thing : Thing) (upto : ℕ) (capture : List ℕ) → length (why_text l thing upto capture) ≤ 356
unfolding why_text
text-short l thing upto capture =
    rw (length-append (answer_words (past_up_to upto capture) l thing) (capture_note upto capture))
    (omega (arith, history-short (past_up_to upto capture) l thing, note-short upto capture))

-- ---- a buffer that has room for it: the text stands at its front, whole
pub text-put : (text out : List ℕ) → length text ≤ length out
    → typed (record { buffer = out; at = 0 }) text ≡ record { buffer = text ++ drop (length text) out; at = length text }
text-put text out h = typed-fits (record { buffer = out; at = 0 }) text (rw (zero-add (length text)) h) ∙ rw (zero-add (length text))

pub why-put : (l : ℕ) (thing : Thing) (upto : ℕ) (capture out : List ℕ) → 1024 ≤ length out
    → typed (record { buffer = out; at = 0 }) (why_text l thing upto capture)
    ≡ record { buffer = why_text l thing upto capture ++ drop (length (why_text l thing upto capture)) out; at = length (why_text l thing upto capture) }
why-put l thing upto capture out h = text-put (why_text l thing upto capture) out (omega (arith, text-short l thing upto capture))
