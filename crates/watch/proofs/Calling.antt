-- One system call of `watch` is one of the loop in `pump`'s theorem, and so are all of them, one behind the other.
-- Assumes nothing.
use Prim.Native.Nat.{ℕ, ◌-◌, ◌≤◌}
use native.Mathlib.Omega.{arith}
use mathlib.Core.Path.{◌≡◌, refl, sym, ap, subst, ◌∙◌}
use mathlib.Core.List.{List, [], ◌∷◌, ◌++◌}
use lib.Dec.{eqb}
use lib.ListN.{length, take}
use borrow.Author.Tests.{eqb-true, eqb-false}
use borrow.Rule.Slice.PartMut.{mid_of}
use Rattle.std.specs.Prelude.{◌≢◌, Result, Ok, Err}
use Rattle.std.specs.Io.{ReadsAtMost, WritesAtMost}
use Rattle.rules.proofs.Bools.{no_way, split}
use Rattle.pump.specs.declared.Pump.{Pump}
use Rattle.pump.specs.declared.Wanted.TheVariants.{Read, Write, Nothing}
use Rattle.pump.specs.Pumping.{Pumped, starting, pending_in, wants_of, got_of, took_of, turn_of, Within}
use Rattle.pump.specs.Watching.{CallAnswer, Came, Took, Watched, before_calls, with_answer, turned_on, one_call, watched, AnswersCall, AllAnswered, TextWritten}
use Rattle.pump.proofs.Between.{wants-read, wants-write, wants-nothing}
use Rattle.pump.proofs.Watching.{watched-more, answered-more, text-written}
use Rattle.syscall.proofs.Answers.{left, part_room, left_is, left-length, left_there}
use Rattle.watch.specs.declared.Called.{Called}
use Rattle.watch.specs.declared.Next.TheVariants.{Turn, Again, Stop}
use Rattle.watch.specs.Calls.{Failed, AfterRead, AfterWrite, Answer, Alike, CallMade, Reached}

-- ---- one call
pub stops : (r : Called) → r.next ≡ Stop → r.next ≢ Turn
stops r s t = cc

pub made_again : (r : Called) → r.next ≡ Again → r.next ≢ Turn
made_again r s t = cc

module _ (x : Pumped) (r : Called) (buf : List ℕ) where
  call-moved : (p : Pump) → r ≡ record { core = p; next = Turn } → (wants_of x.pump ≡ Nothing → ⊥)
      → Answer x (record { pump = p; buf = buf; out = x.out }) → CallMade x r buf
  call-moved p e some a =
      record {
        moving = λ m. subst (λ (v : Pump). Answer x (record { pump = v; buf = buf; out = x.out })) (sym (ap (λ (c : Called). c.core) e)) a;
        staying = λ s. absurd (s (ap (λ (c : Called). c.next) e));
        ending = λ n. absurd (some n);
      }

  pub call-stayed : Failed x.pump r → (wants_of x.pump ≡ Nothing → r.next ≡ Stop)
      → Alike x (record { pump = x.pump; buf = buf; out = x.out }) → CallMade x r buf
  call-stayed e end a =
      record {
        moving = λ m. absurd (e.1 m);
        staying = λ s. subst (λ (q : Pump). Alike x (record { pump = q; buf = buf; out = x.out })) (sym e.0) a;
        ending = end;
      }

pub unchanged : (x : Pumped) → Alike x x
unchanged x = record { core = refl; text = refl; room = refl; there = refl; behind = λ w. refl }

reading : (p : Pump) → wants_of p ≡ Read → wants_of p ≡ Nothing → ⊥
reading p r n = no_way (wants-nothing p n).1 (wants-read p r).1

writing : (p : Pump) → wants_of p ≡ Write → wants_of p ≡ Nothing → ⊥
writing p w n = omega (arith, wants-write p w, (wants-nothing p n).0)

-- a read that is lent the buffer from a place on, and leaves that part as it says
module _ (p : Pump) (buf part : List ℕ) (at : ℕ) (w : Within p.have buf at) (lent : length part ≡ length (mid_of at (length buf - at) buf)) where
  abbrev after : List ℕ
  after = left p.have buf part at w lent

  module _ (wanted : wants_of p ≡ Read) (out : List ℕ) where
    read_stays : Alike (record { pump = p; buf = buf; out = out }) (record { pump = p; buf = after; out = out })
    read_stays =
        record {
          core = refl;
          text = refl;
          room = ap length (left_is p.have buf part at w lent) ∙ left-length p.have buf part at w lent;
          there = ap (take p.have) (left_is p.have buf part at w lent) ∙ left_there p.have buf part at w lent;
          behind = λ e. absurd (omega (arith, wants-write p e, (wants-read p wanted).0));
        }

    read-answers : (n : ℕ) → n ≤ length part → Answer (record { pump = p; buf = buf; out = out }) (record { pump = got_of p n (length after); buf = after; out = out })
    read-answers n few =
        record {
          answer = Came n part;
          wanted = (wanted, part_room p.have buf part at w lent, few);
          leaves = ap (λ (l : List ℕ). record { pump = got_of p n (length l); buf = l; out = out }) (left_is p.have buf part at w lent);
        }

    pub read_made : {E : Type 0} (r : Called) (z : Result ℕ E) → ReadsAtMost z part → AfterRead p (length after) z r
        → CallMade (record { pump = p; buf = buf; out = out }) r after
    read_made r (Ok n) m e =
        call-moved (record { pump = p; buf = buf; out = out }) r after (got_of p n (length after)) e (reading p wanted) (read-answers n m.0)
    read_made r (Err _) m f = call-stayed (record { pump = p; buf = buf; out = out }) r after f (λ e. absurd (reading p wanted e)) read_stays

-- a write
module _ (p : Pump) (buf out : List ℕ) (wanted : wants_of p ≡ Write) where
  write-answers : (n : ℕ) → 1 ≤ n → n ≤ length (pending_in p out)
      → Answer (record { pump = p; buf = buf; out = out }) (record { pump = took_of p n; buf = buf; out = out })
  write-answers n some few = record { answer = Took n; wanted = (wanted, some, few); leaves = refl }

  write-fails : (r : Called) → Failed p r → CallMade (record { pump = p; buf = buf; out = out }) r buf
  write-fails r f = call-stayed _ r buf f (λ e. absurd (writing p wanted e)) (unchanged _)

  pub write-made : {E : Type 0} (r : Called) (z : Result ℕ E) → WritesAtMost z (pending_in p out) → AfterWrite p z r
      → CallMade (record { pump = p; buf = buf; out = out }) r buf
  write-made r (Ok n) m e =
      split (eqb n 0)
      (λ none. write-fails r (e.0 (eqb-true n 0 none)))
      (λ some.
      let more : 1 ≤ n = omega (arith, eqb-false n 0 some) in
      call-moved (record { pump = p; buf = buf; out = out }) r buf (took_of p n) (e.1 more) (writing p wanted) (write-answers n more m))
  write-made r (Err _) m f = write-fails r f

-- ---- all calls
alike-on : (x y z : Pumped) → Alike x y → Alike y z → Alike x z
alike-on x y z a b =
    record {
      core = b.core ∙ a.core;
      text = b.text ∙ a.text;
      room = b.room ∙ a.room;
      there = subst (λ (p : Pump). take p.have z.buf ≡ take p.have y.buf) a.core b.there ∙ a.there;
      behind = λ w. b.behind (ap wants_of a.core ∙ w) ∙ a.behind w;
    }

-- an answer is one in both, and leaves the same
module _ (x y : Pumped) (s : Alike x y) where
  same-there : take y.pump.have y.buf ≡ take x.pump.have x.buf
  same-there = ap (λ (p : Pump). take p.have y.buf) s.core ∙ s.there

  answers-too : (a : CallAnswer) → AnswersCall y a → AnswersCall x a
  answers-too (Came n part) k =
      (ap wants_of (sym s.core) ∙ k.0, k.1 ∙ ap (λ (l : ℕ). l - y.pump.have) s.room ∙ ap (λ (p : Pump). length x.buf - p.have) s.core, k.2)
  answers-too (Took n) k =
      (ap wants_of (sym s.core) ∙ k.0, k.1, subst (λ (l : List ℕ). n ≤ length l) (ap (λ (p : Pump). pending_in p y.out) s.core ∙ ap (pending_in x.pump) s.text) k.2)

  leaves-same : (a : CallAnswer) → AnswersCall y a → with_answer y a ≡ with_answer x a
  leaves-same (Came n part) k = rw (same-there, s.core, s.text)
  leaves-same (Took n) k = rw (s.behind (ap wants_of (sym s.core) ∙ k.0), s.core, s.text)

turned-core : (x : Watched) (a : CallAnswer) → (one_call x a).core ≡ turned_on (with_answer x.core a)
unfolding one_call
turned-core x (Came n part) = refl
turned-core x (Took n) = refl

module _ (buf out : List ℕ) where
  pub reached-first : Reached buf out (record { pump = starting; buf = buf; out = out })
  unfolding watched AllAnswered before_calls
  reached-first = record { answers = []; wanted = tt; leaves = unchanged _ }

  module _ (x : Pumped) (reached : Reached buf out x) where
    reached-stays : (y : Pumped) → Alike x y → Reached buf out y
    reached-stays y a = record { answers = reached.answers; wanted = reached.wanted; leaves = alike-on _ x y reached.leaves a }

    reached-moves : (y : Pumped) → Answer x y → Reached buf out (turned_on y)
    reached-moves y a =
        let first = before_calls buf out in
        let before = (watched first reached.answers).core in
        let to : (watched first (reached.answers ++ a.answer ∷ [])).core ≡ turned_on y =
        ap (λ (v : Watched). v.core) (watched-more first reached.answers a.answer)
        ∙ turned-core (watched first reached.answers) a.answer
        ∙ ap turned_on (sym (a.leaves ∙ leaves-same before x reached.leaves a.answer a.wanted))
        in
        record {
          answers = reached.answers ++ a.answer ∷ [];
          wanted = answered-more first reached.answers a.answer reached.wanted (answers-too before x reached.leaves a.answer a.wanted);
          leaves = subst (λ (v : Pumped). Alike v (turned_on y)) (sym to) (unchanged (turned_on y));
        }

    -- as a call says of itself, with a turn behind it or not
    module _ (r : Called) (left : List ℕ) (made : CallMade x r left) where
      pub reached-turn : r.next ≡ Turn → (y : Pumped) → y ≡ turn_of r.core left x.out → Reached buf out y
      reached-turn m y e = subst (λ (v : Pumped). Reached buf out v) (sym e) (reached-moves _ (made.moving m))

      pub reached-same : r.next ≢ Turn → Reached buf out (record { pump = r.core; buf = left; out = x.out })
      reached-same s = reached-stays _ (made.staying s)

  -- so what `pump` proves of its loop holds of the program, however far it has come
  pub reached-written : 2064 ≤ length buf → 160 ≤ length out → (after : Pumped) (r : Reached buf out after) → TextWritten (watched (before_calls buf out) r.answers)
  reached-written b o y r = text-written buf out b o r.answers r.wanted
