-- The marks beside the record of one label, and the octets kept, are what the history says: call by call.
-- Assumes nothing.
use Prim.Native.Nat.{ℕ, suc, ◌≤◌}
use native.Mathlib.Omega.{arith}
use mathlib.Core.Path.{◌≡◌, refl, sym, ap, ◌∙◌}
use mathlib.Core.Bool.{Bool, true, false, cond}
use mathlib.Core.Option.{Option, none, some}
use mathlib.Core.List.{List}
use lib.Dec.{eqb}
use lib.ListN.{length, take, drop}
use lib.Seq.{sets, length-sets, take-append_seam}
use borrow.Author.Tests.{eqb-true, eq-eqb}
use Rattle.octets.proofs.Runs.{front}
use Rattle.fault.specs.declared.Fault.{Fault}
use Rattle.message.specs.Message.{message_of}
use Rattle.rules.specs.declared.Key.{Key}
use Rattle.rules.specs.declared.Settings.{Settings}
use Rattle.rules.specs.declared.Received.{Received}
use Rattle.rules.specs.declared.Received.TheVariants.{CrossedMessage, HeardCc, HeardCv, FaultMessage}
use Rattle.rules.specs.Conditions.{key_of, same_key}
use Rattle.rules.specs.Calls.{Act, Lock, Unlock, Receive, ReportOn, WriteCc, WriteCv, Call, Tick, Open, On, Said, is_accepted}
use Rattle.rules.proofs.Bools.{split, no_way, refuted}
use Rattle.rules.proofs.SameKeys.{same-sym, same_refl}
use Rattle.conditions.specs.declared.Condition.{Condition}
use Rattle.conditions.specs.declared.Conditions.{Conditions}
use Rattle.conditions.specs.Standing.{filled}
use Rattle.conditions.specs.Taking.{empty, without, forgotten, free_place, placed, condition_of, taken_in}
use Rattle.session.specs.declared.Session.{Session}
use Rattle.session.specs.Queries.{locked_in}
use Rattle.session.specs.Steps as Steps
use Rattle.session.specs.Reception.{received_by}
use Rattle.meaning.specs.Stories.{Story, was_to, is_crossed}
use Rattle.meaning.specs.Standing.{locked}
use Rattle.meaning.specs.Histories.{History, after, act_reading, clock_of, story}
use Rattle.meaning.specs.Accounts.{size}
use Rattle.cause.specs.declared.Marks.{Marks}
use Rattle.cause.specs.declared.Timed.{Timed}
use Rattle.cause.specs.declared.Timed.TheVariants.{Opening, Unlock as ByUnlock, Cc, Cv}
use Rattle.cause.specs.Marks.{Mark, marked, last_mark, received, if_crossed, if_heard, if_of_key, restarts, last_crossed, last_restart, last_of_key}
use Rattle.cause.specs.Noting.{timed_number, anew, placed_by, received_noted, act_noted}
use Rattle.cause.proofs.Lasts.{clash}

-- there is a mark, its record has this number, and this is so of it
pub record Numbered {A : Type 0} (o : Option (Mark A)) (number : ℕ) (Is : Mark A → Type 0) : Type 0 where
  pub mark : Mark A
  pub found : o ≡ some mark
  pub number-so : number ≡ suc mark.position
  pub so : Is mark

-- it has the date that the session is timed from, and is of the kind that is kept
abbrev pub TimedAs : ℕ → ℕ → Mark Timed → Type 0
TimedAs at by k = (at ≡ k.reading) × (by ≡ timed_number k.what)

-- it has the date of the crossing and so many octets, and these are kept where there is room
abbrev pub CrossedAs : ℕ → ℕ → List ℕ → Mark (List ℕ) → Type 0
CrossedAs at octets kept k = (at ≡ k.reading) × (octets ≡ length k.what) × (length k.what ≤ length kept → take octets kept ≡ k.what)

-- a filled place is the condition of its key's last message
abbrev pub PlacedIf : History → ℕ → Condition → ℕ → Type 0
PlacedIf h l c number = filled c ≡ true → Numbered (last_of_key l c.key h) number (λ k. c ≡ condition_of k.what k.reading)

pub record FourPlaced (h : History) (l : ℕ) (cs : Conditions) (n1 n2 n3 n4 : ℕ) : Type 0 where
  pub first : PlacedIf h l cs.first n1
  pub second : PlacedIf h l cs.second n2
  pub third : PlacedIf h l cs.third n3
  pub fourth : PlacedIf h l cs.fourth n4

-- the marks beside the record of an open label, and the octets kept
pub record Traced (h : History) (l : ℕ) (r : Session) (m : Marks) (kept : List ℕ) : Type 0 where
  pub timed : Numbered (last_restart l h) m.timed (TimedAs r.timed m.by)
  pub crossed : r.crossing ≡ 1 → Numbered (last_crossed l h) m.crossed (CrossedAs r.crossed m.size kept)
  pub places : FourPlaced h l r.conditions m.first m.second m.third m.fourth

-- How a mark goes on: an accepted act on the label, an opening, and a call that is neither
module _ {A : Type 0} (first : Option A) (pick : Story → Act → Option A) where
  mark-act : (h : History) (a : Said) (l : ℕ) (s : Story) (b : Act) → is_accepted a ≡ true → story l h ≡ some s
      → last_mark first pick l (after h (On l b) a) ≡ marked (pick s b) (size h) (act_reading b (clock_of h)) (last_mark first pick l h)
  unfolding last_mark
  mark-act h a l s b y e = rw (y, eq-eqb l l refl, e)

  mark-open : (h : History) (a : Said) (l : ℕ) (g : Settings) (t : ℕ) → is_accepted a ≡ true → g.label ≡ l
      → last_mark first pick l (after h (Open g t) a) ≡ marked first (size h) t none
  unfolding last_mark
  mark-open h a l g t y e = rw (y, eq-eqb g.label l e)

  mark-other : (h : History) (d : Call) (a : Said) (l : ℕ) → ((g : Settings) (t : ℕ) → d ≡ Open g t → is_accepted a ≡ true → g.label ≡ l → ⊥)
      → ((b : Act) → d ≡ On l b → is_accepted a ≡ true → ⊥) → last_mark first pick l (after h d a) ≡ last_mark first pick l h
  unfolding last_mark
  mark-other h (Tick t) a l f g = split (is_accepted a) (λ y. rw y) (λ y. rw y)
  mark-other h (Open k t) a l f g =
      split (is_accepted a) (λ y. rw (y, refuted (eqb k.label l) (λ z. f k t refl y (eqb-true k.label l z)))) (λ y. rw y)
  mark-other h (On m b) a l f g =
      split (is_accepted a)
      (λ y. rw (y, refuted (eqb m l) (λ z. g b (ap (λ (n : ℕ). On n b) (eqb-true m l z)) y)))
      (λ y. rw y)

-- what is so of a mark stays so where the mark stays
numbered-kept : {A : Type 0} {o p : Option (Mark A)} {number : ℕ} {Is : Mark A → Type 0} → p ≡ o → Numbered o number Is → Numbered p number Is
numbered-kept e N = record { mark = N.mark; found = e ∙ N.found; number-so = N.number-so; so = N.so }

four-kept : {h k : History} {l : ℕ} {cs : Conditions} {n1 n2 n3 n4 : ℕ} → ((key : Key) → last_of_key l key k ≡ last_of_key l key h)
    → FourPlaced h l cs n1 n2 n3 n4 → FourPlaced k l cs n1 n2 n3 n4
four-kept e F =
    record {
      first = λ z. numbered-kept (e _) (F.first z);
      second = λ z. numbered-kept (e _) (F.second z);
      third = λ z. numbered-kept (e _) (F.third z);
      fourth = λ z. numbered-kept (e _) (F.fourth z);
    }

-- octets put at a buffer's front
put_front : (b kept : List ℕ) → length b ≤ length (sets kept 0 b) → take (length b) (sets kept 0 b) ≡ b
put_front b kept h = ap (take (length b)) (front b kept (omega (arith, length-sets kept 0 b))) ∙ take-append_seam b (drop (length b) kept)

-- an opening
pub traced-open : (h : History) (a : Said) (l : ℕ) (g : Settings) (t : ℕ) (kept : List ℕ) → is_accepted a ≡ true → g.label ≡ l
    → Traced (after h (Open g t) a) l (Steps.new_session g t) (anew (suc (size h))) kept
unfolding Steps.new_session
traced-open h a l g t kept y e =
    record {
      timed =
          record {
            mark = record { position = size h; reading = t; what = Opening };
            found = mark-open (some Opening) restarts h a l g t y e;
            number-so = refl;
            so = (refl, refl);
          };
      crossed = λ z. clash (z);
      places = record { first = λ z. no_way z refl; second = λ z. no_way z refl; third = λ z. no_way z refl; fourth = λ z. no_way z refl };
    }

-- a call that is none on the label, or refused: the record stays, at a later clock
pub traced-other : {h : History} {l : ℕ} {r : Session} {m : Marks} {kept : List ℕ} (d : Call) (a : Said)
    → ((g : Settings) (t : ℕ) → d ≡ Open g t → is_accepted a ≡ true → g.label ≡ l → ⊥) → ((b : Act) → d ≡ On l b → is_accepted a ≡ true → ⊥)
    → Traced h l r m kept → Traced (after h d a) l r m kept
traced-other {h} {l} d a f g T =
    record {
      timed = numbered-kept (mark-other (some Opening) restarts h d a l f g) T.timed;
      crossed = λ z. numbered-kept (mark-other none (received if_crossed) h d a l f g) (T.crossed z);
      places = four-kept (λ key. mark-other none (received (if_of_key key)) h d a l f g) T.places;
    }

-- an accepted act on the label
module _ {h : History} {l : ℕ} {r : Session} {m : Marks} {kept : List ℕ} (a : Said) (s : Story) (e : story l h ≡ some s) (y : is_accepted a ≡ true)
    (T : Traced h l r m kept) where
  abbrev number : ℕ
  number = suc (size h)

  -- that is no message
  module _ (b : Act) (still : (A : Type 0) (f : List ℕ → Received → Option A) → received f s b ≡ none) where
    still-crossed : last_crossed l (after h (On l b) a) ≡ last_crossed l h
    still-crossed = mark-act none (received if_crossed) h a l s b y e ∙ rw (still (List ℕ) if_crossed)

    still-key : (key : Key) → last_of_key l key (after h (On l b) a) ≡ last_of_key l key h
    still-key key = mark-act none (received (if_of_key key)) h a l s b y e ∙ rw (still Fault (if_of_key key))

    -- and restarts nothing
    traced-quiet : restarts s b ≡ none → (q : Session) → q.timed ≡ r.timed → q.crossed ≡ r.crossed → q.crossing ≡ r.crossing → q.conditions ≡ r.conditions
        → Traced (after h (On l b) a) l q m kept
    traced-quiet n q p1 p2 p3 p4 =
        record {
          timed = rw p1 (numbered-kept (mark-act (some Opening) restarts h a l s b y e ∙ rw n) T.timed);
          crossed = λ z. rw p2 (numbered-kept still-crossed (T.crossed (sym p3 ∙ z)));
          places = rw p4 (four-kept still-key T.places);
        }

  pub traced-lock : (t : ℕ) → Traced (after h (On l (Lock t)) a) l (Steps.locked_at r t) m kept
  unfolding Steps.locked_at
  traced-lock t = traced-quiet (Lock t) (λ A f. refl) refl (Steps.locked_at r t) refl refl refl refl

  pub traced-report : Traced (after h (On l ReportOn) a) l r m kept
  traced-report = traced-quiet ReportOn (λ A f. refl) refl r refl refl refl refl

  pub traced-wrote-cc : (b : List ℕ) → Traced (after h (On l (WriteCc b)) a) l (Steps.reply_settled r) m kept
  unfolding Steps.reply_settled
  traced-wrote-cc b = traced-quiet (WriteCc b) (λ A f. refl) refl (Steps.reply_settled r) refl refl refl refl

  pub traced-wrote-cv : (b : List ℕ) → Traced (after h (On l (WriteCv b)) a) l r m kept
  traced-wrote-cv b = traced-quiet (WriteCv b) (λ A f. refl) refl r refl refl refl refl

  -- an unlock: real where the record is locked
  pub traced-unlock : (t : ℕ) → locked_in r ≡ locked s → Traced (after h (On l (Unlock t)) a) l (Steps.unlocked_at r t) (act_noted m number r (Unlock t)) kept
  unfolding Steps.unlocked_at
  traced-unlock t same =
      split (locked_in r)
      (λ z.
      rw z
      (record {
        timed =
            record {
              mark = record { position = size h; reading = t; what = ByUnlock };
              found = mark-act (some Opening) restarts h a l s (Unlock t) y e ∙ rw (sym same ∙ z);
              number-so = refl;
              so = (refl, refl);
            };
        crossed = λ w. numbered-kept (still-crossed (Unlock t) (λ A f. refl)) (T.crossed w);
        places = four-kept (still-key (Unlock t) (λ A f. refl)) T.places;
      }))
      (λ z.
      rw z
      (record {
        timed = numbered-kept (mark-act (some Opening) restarts h a l s (Unlock t) y e ∙ rw (sym same ∙ z)) T.timed;
        crossed = λ w. numbered-kept (still-crossed (Unlock t) (λ A f. refl)) (T.crossed w);
        places = four-kept (still-key (Unlock t) (λ A f. refl)) T.places;
      }))

  -- a message
  module _ (b : List ℕ) (t : ℕ) where
    abbrev later : History
    later = after h (On l (Receive b t)) a

    module _ (x : Received) (was : was_to s (message_of b) ≡ x) where
      got-restart : last_restart l later ≡ marked (if_heard b x) (size h) t (last_restart l h)
      got-restart = mark-act (some Opening) restarts h a l s (Receive b t) y e ∙ rw was

      got-crossed : last_crossed l later ≡ marked (if_crossed b x) (size h) t (last_crossed l h)
      got-crossed = mark-act none (received if_crossed) h a l s (Receive b t) y e ∙ rw was

      got-key : (key : Key) → last_of_key l key later ≡ marked (if_of_key key b x) (size h) t (last_of_key l key h)
      got-key key = mark-act none (received (if_of_key key)) h a l s (Receive b t) y e ∙ rw was

    -- one place after a fault message
    module _ (f : Fault) (was : was_to s (message_of b) ≡ FaultMessage f) where
      own_key : last_of_key l (key_of f) later ≡ some (record { position = size h; reading = t; what = f })
      own_key = got-key (FaultMessage f) was (key_of f) ∙ rw (same_refl (key_of f))

      other_key : (key : Key) → same_key key (key_of f) ≡ false → last_of_key l key later ≡ last_of_key l key h
      other_key key n = got-key (FaultMessage f) was key ∙ rw (same-sym (key_of f) key ∙ n)

      abbrev afterwards : Bool → Condition → Condition
      afterwards b c = cond b (condition_of f t) (without (key_of f) c)

      one_place : (b : Bool) (c : Condition) (n : ℕ) → PlacedIf h l c n
          → PlacedIf later l (afterwards b c) (cond (same_key (afterwards b c).key (key_of f)) number n)
      one_place true c n P w =
          record {
            mark = record { position = size h; reading = t; what = f };
            found = own_key;
            number-so = ap (λ (b : Bool). cond b number n) (same_refl (key_of f));
            so = refl;
          }
      one_place false c n P w = go (same_key c.key (key_of f)) refl w
        where
          Placed : Condition → ℕ → Type 0
          Placed d k = Numbered (last_of_key l d.key later) k (λ j. d ≡ condition_of j.what j.reading)

          go : (b : Bool) → same_key c.key (key_of f) ≡ b → filled (cond b empty c) ≡ true
              → Placed (cond (same_key c.key (key_of f)) empty c) (cond (same_key (cond (same_key c.key (key_of f)) empty c).key (key_of f)) number n)
          go true v z = no_way z refl
          go false v z = rw (v, v) (numbered-kept (other_key c.key v) (P z))

      four-taken : let n = placed_by m (taken_in r.conditions f t) (key_of f) number in
          FourPlaced later l (taken_in r.conditions f t) n.first n.second n.third n.fourth
      unfolding taken_in forgotten placed
      four-taken =
          let place = cond f.removed 4 (free_place (forgotten r.conditions (key_of f)) t) in
          record {
            first = one_place (eqb place 0) r.conditions.first m.first T.places.first;
            second = one_place (eqb place 1) r.conditions.second m.second T.places.second;
            third = one_place (eqb place 2) r.conditions.third m.third T.places.third;
            fourth = one_place (eqb place 3) r.conditions.fourth m.fourth T.places.fourth;
          }

    pub traced-got : (x : Received) → was_to s (message_of b) ≡ x
        → Traced later l (received_by r t x) (received_noted m number r t (length b) x) (cond (is_crossed x) (sets kept 0 b) kept)
    unfolding Steps.crossed_at Steps.heard_cc Steps.heard_cv Steps.fault_taken
    traced-got CrossedMessage w =
        record {
          timed = numbered-kept (got-restart CrossedMessage w) T.timed;
          crossed = λ z.
              record {
                mark = record { position = size h; reading = t; what = b };
                found = got-crossed CrossedMessage w;
                number-so = refl;
                so = (refl, refl, put_front b kept);
              };
          places = four-kept (got-key CrossedMessage w) T.places;
        }
    traced-got (HeardCc p) w =
        record {
          timed = record { mark = record { position = size h; reading = t; what = Cc }; found = got-restart (HeardCc p) w; number-so = refl; so = (refl, refl) };
          crossed = λ z. numbered-kept (got-crossed (HeardCc p) w) (T.crossed z);
          places = four-kept (got-key (HeardCc p) w) T.places;
        }
    traced-got HeardCv w =
        record {
          timed = record { mark = record { position = size h; reading = t; what = Cv }; found = got-restart HeardCv w; number-so = refl; so = (refl, refl) };
          crossed = λ z. numbered-kept (got-crossed HeardCv w) (T.crossed z);
          places = four-kept (got-key HeardCv w) T.places;
        }
    traced-got (FaultMessage f) w =
        record {
          timed = numbered-kept (got-restart (FaultMessage f) w) T.timed;
          crossed = λ z. numbered-kept (got-crossed (FaultMessage f) w) (T.crossed z);
          places = four-taken f w;
        }
