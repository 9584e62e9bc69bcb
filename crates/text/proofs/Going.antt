-- The loop over a capture: what stands in the buffer so far, with the text of what is left put behind it, is the whole text.
-- Assumes nothing.
use Prim.Native.Nat.{ℕ, ◌+◌, ◌-◌, ◌≤◌, ◌<◌}
use native.Mathlib.Omega.{arith}
use native.Mathlib.Nat.{zero-add}
use mathlib.Core.Path.{◌≡◌, refl, sym, ap, subst, ◌∙◌}
use mathlib.Core.Bool.{Bool, true, false, cond}
use mathlib.Core.List.{List, [], ◌++◌, append_assoc, append-nil}
use lib.Dec.{leb, ltb}
use lib.ListN.{length, take, drop, replicate, length-append, length-drop, length-replicate}
use lib.Seq.{sets, length-sets}
use borrow.Author.Tests.{leb-false, lt-leb, ltb-true, ltb-false, eq-eqb, ne_eqb}
use Rattle.octets.proofs.Runs.{past as put-past, joined}
use Rattle.rules.proofs.Bools.{split}
use Rattle.table.specs.Table.{absent, emptied}
use Rattle.step.specs.Stepping.{table_of}
use Rattle.capture.specs.Records.{next_in, is_whole}
use Rattle.owner.specs.declared.Feeding.{Feeding}
use Rattle.feed.specs.Feeding.{Flow, feed_of}
use Rattle.meaning.specs.Histories.{History, start}
use Rattle.text.specs.declared.Count.{Count}
use Rattle.text.specs.Text.{Parsed, parsed, lines_after, cut, ending, text_after}
use Rattle.text.specs.Putting.{Putting, putting, empty_table, rewound}
use Rattle.text.proofs.Parsing.{whole-size, parsed-none}
use Rattle.text.proofs.Reached.{Reached, reached-start}
use Rattle.text.proofs.Feeds.{Went, feed-went, feed-took}

-- the array that lines are fed into
abbrev scratch : List ℕ
scratch = replicate 4096 0

-- the text of a capture behind its header
abbrev text : List ℕ → List ℕ
text capture = text_after start 0 (drop 8 capture)

-- the text so far fits: what is left of it, after the history reached, comes behind
pub record Going (capture out₀ out : List ℕ) (t : Feeding) (at : ℕ) : Type 0 where
  pub past : History
  pub reached : Reached past (table_of t.row t.fed.head)
  pub rows : length t.row ≡ 64
  pub put : sets out at (text_after past t.fed.number (drop t.fed.used capture)) ≡ sets out₀ 0 (text capture)
  pub octets : at + length (text_after past t.fed.number (drop t.fed.used capture)) ≡ length (text capture)

-- it does not: the buffer is full
pub record Over (capture out₀ out : List ℕ) (room at : ℕ) : Type 0 where
  pub none : at ≡ 0
  pub longer : room < length (text capture)
  pub full : out ≡ sets out₀ 0 (text capture)

abbrev pub State : Bool → (capture out₀ out : List ℕ) → ℕ → Feeding → ℕ → Type 0
State true capture out₀ out room t at = Going capture out₀ out t at
State false capture out₀ out room t at = Over capture out₀ out room at

-- what holds before and after each turn
pub record Invariant (capture out₀ out : List ℕ) (room : ℕ) (t : Feeding) (c : Count) : Type 0 where
  pub state : State c.fits capture out₀ out room t c.octets
  pub same_length : length out ≡ length out₀

-- nothing put, and all to come
pub begins : (capture out : List ℕ) (room : ℕ) → Invariant capture out out room (empty_table 8) (record { fits = true; octets = 0 })
unfolding empty_table emptied
begins capture out room =
    record {
      state = record {
        past = start;
        reached = reached-start (replicate 64 absent) (length-replicate 64 absent);
        rows = length-replicate 64 absent;
        put = refl;
        octets = zero-add (length (text capture));
      };
      same_length = refl;
    }

-- nothing is left exactly where all octets are used
ending-is : (s : List ℕ) (n : ℕ) → ending (drop n s) ≡ cond (ltb n (length s)) cut []
ending-is s n =
    split (ltb n (length s))
    (λ e. rw (e, ne_eqb (length (drop n s)) 0 (λ z. omega (arith, ltb-true n (length s) e, length-drop n s))))
    (λ e. rw (e, eq-eqb (length (drop n s)) 0 (omega (arith, ltb-false n (length s) e, length-drop n s))))

-- ---- one turn
-- a part and what is left behind it
pub text-parts : (h g : History) (m n : ℕ) (s r part : List ℕ) → lines_after h m (parsed s).calls ≡ part ++ lines_after g n (parsed r).calls
    → (parsed s).rest ≡ (parsed r).rest → text_after h m s ≡ part ++ text_after g n r
unfolding text_after
text-parts h g m n s r part l e = rw (l, e) (append_assoc part (lines_after g n (parsed r).calls) (ending (parsed r).rest))

module _ {capture out₀ out : List ℕ} {room : ℕ} {t : Feeding} {c : Count} (i : Invariant capture out₀ out room t c) (fits : c.fits ≡ true)
    (within : length out₀ ≤ room) where
  abbrev at : ℕ
  at = c.octets

  abbrev g : Going capture out₀ out t at
  g = subst (λ (b : Bool). State b capture out₀ out room t at) fits i.state

  -- a part put, by whether it fits
  module _ (part : List ℕ) (u : Feeding) (past : History) (r : Reached past (table_of u.row u.fed.head)) (k : length u.row ≡ 64)
      (e : text_after g.past t.fed.number (drop t.fed.used capture) ≡ part ++ text_after past u.fed.number (drop u.fed.used capture)) where
    abbrev left : List ℕ
    left = text_after past u.fed.number (drop u.fed.used capture)

    all : sets (sets out at part) (at + length part) left ≡ sets out₀ 0 (text capture)
    all = sym (joined part left out at) ∙ ap (sets out at) (sym e) ∙ g.put

    count : at + length part + length left ≡ length (text capture)
    count = omega (arith, g.octets, ap length e, length-append part left)

    put_on : State (leb (at + length part) room) capture out₀ (sets out at part) room u (cond (leb (at + length part) room) (at + length part) 0)
    put_on =
        split (leb (at + length part) room)
        (λ f. rw f (record { past = past; reached = r; rows = k; put = all; octets = count }))
        (λ f.
        let over = leb-false (at + length part) room f in
        rw f
        (record {
          none = refl;
          longer = omega (arith, over, count);
          full = sym (put-past left (sets out at part) (at + length part) (omega (arith, over, i.same_length, length-sets out at part))) ∙ all;
        }))

    put-on-as : (d : Count) (out' : List ℕ) → record { count = d; out = out' } ≡ putting out at room part → Invariant capture out₀ out' room u d
    unfolding putting
    put-on-as d out' p =
        record {
          state = subst (λ (q : Putting). State q.count.fits capture out₀ q.out room u q.count.octets) (sym p) put_on;
          same_length = ap (λ (q : Putting). length q.out) p ∙ length-sets out at part ∙ i.same_length;
        }

  -- a feed of the rewound table
  module _ {v : Feeding} (rewind : v ≡ rewound t) (u : Feeding) (lines : List ℕ)
      (feed : record { row = u.row; fed = u.fed; out = lines } ≡ feed_of v.row v.fed capture (scratch)) where
    fed : record { row = u.row; fed = u.fed; out = lines } ≡ feed_of (rewound t).row (rewound t).fed capture (scratch)
    fed = feed ∙ ap (λ (w : Feeding). feed_of w.row w.fed capture (scratch)) rewind

    went : Went capture g.past (record { row = t.row; fed = (rewound t).fed; out = scratch }) (record { row = u.row; fed = u.fed; out = lines })
    unfolding rewound
    went =
        subst (Went capture g.past (record { row = t.row; fed = (rewound t).fed; out = scratch })) (sym fed)
        (feed-went t.row (rewound t).fed capture (scratch) g.past g.reached g.rows (omega arith))

    -- its lines are in the array
    pub part-within : u.fed.written ≤ length lines
    part-within = went.within

    part-is : take u.fed.written lines ≡ went.lines
    unfolding rewound
    part-is = went.put

    left_behind : text_after g.past t.fed.number (drop t.fed.used capture) ≡ went.lines ++ text_after went.past u.fed.number (drop u.fed.used capture)
    unfolding rewound
    left_behind =
        let s = append-nil (drop t.fed.used capture) in
        let r = append-nil (drop u.fed.used capture) in
        text-parts g.past went.past t.fed.number u.fed.number _ _ went.lines (rw (s, r) at (went.text [])) (rw (s, r) at (went.rest []))

    -- put, they leave the invariant
    pub turn : (d : Count) (out' : List ℕ) → record { count = d; out = out' } ≡ putting out at room (take u.fed.written lines)
        → Invariant capture out₀ out' room u d
    turn d out' p =
        put-on-as went.lines u went.past went.reached (went.rows ∙ g.rows) left_behind d out' (p ∙ ap (putting out at room) part-is)

    -- where a whole record stood next, octets are used
    pub turn-uses : is_whole (next_in (drop t.fed.used capture)) ≡ true → length capture - u.fed.used < length capture - t.fed.used
    unfolding rewound
    turn-uses w =
        let some = whole-size (drop t.fed.used capture) w in
        let far = feed-took t.row (rewound t).fed capture (scratch) g.past g.reached g.rows (omega arith) w in
        omega (arith, some.0, some.1, length-drop t.fed.used capture, far, ap (λ (y : Flow). y.fed.used) fed)

  -- no whole record stands next: what is left says how it ends
  module _ (w : is_whole (next_in (drop t.fed.used capture)) ≡ false) where
    last : text_after g.past t.fed.number (drop t.fed.used capture) ≡ cond (ltb t.fed.used (length capture)) cut []
    unfolding text_after lines_after
    last =
        ap (λ (p : Parsed). lines_after g.past t.fed.number p.calls ++ ending p.rest) (parsed-none (drop t.fed.used capture) w)
        ∙ ending-is capture t.fed.used

    pub ends : (d : Count) (out' : List ℕ) → record { count = d; out = out' } ≡ putting out at room (cond (ltb t.fed.used (length capture)) cut [])
        → record { count = d; out = out' } ≡ putting out₀ 0 room (text capture)
    unfolding putting
    ends d out' p = p ∙ rw (sym last, g.put, g.octets, zero-add)

-- stopped where the text does not fit
pub stopped : {capture out₀ out : List ℕ} {room : ℕ} {t : Feeding} {c : Count} → Invariant capture out₀ out room t c → c.fits ≡ false
    → record { count = c; out = out } ≡ putting out₀ 0 room (text capture)
unfolding putting
stopped {capture} {out₀} {out} {room} {t} {c} i f =
    let o : Over capture out₀ out room c.octets = subst (λ (b : Bool). State b capture out₀ out room t c.octets) f i.state in
    rw (zero-add, lt-leb (length (text capture)) room o.longer, ← o.full)
    (ap (λ (b : Bool). record { count = record { fits = b; octets = c.octets }; out = out }) f
    ∙ ap (λ (n : ℕ). record { count = record { fits = false; octets = n }; out = out }) o.none)
