-- The loop over the records of a capture that is read for one label: what one turn is, by the laws of what is carried, and what `Going` says of any such loop, of this one.
-- Assumes nothing.
use mathlib.Core.Path.{◌≡◌, refl, sym, ap, subst, ◌∙◌}
use mathlib.Core.Bool.{Bool, true, false, cond}
use Prim.Native.Nat.{ℕ, zero, suc, ◌^◌, ◌<◌, ◌+◌, ◌-◌}
use mathlib.Core.List.{List}
use native.Mathlib.Omega.{arith}
use lib.Dec.{T as Holds, eqb}
use lib.ListN.{length, drop}
use Rattle.rules.specs.Calls.{Call, is_accepted, number_only}
use Rattle.rules.proofs.Bools.{split, no_way}
use Rattle.session.specs.declared.Session.{Session}
use Rattle.table.specs.Table.{Table, in_order, asked, answer, next}
use Rattle.table.proofs.Order.{order_same}
use Rattle.step.specs.declared.Outcome.{Outcome}
use Rattle.step.specs.Stepping.{table_of}
use Rattle.capture.specs.declared.Record.{Record}
use Rattle.capture.specs.Records.{record_in, record_from, body_in, call_of, call_in, next_in, is_whole, size_of}
use Rattle.feed.specs.declared.Fed.{Fed}
use Rattle.feed.specs.Feeding.{head_of, call_next}
use Rattle.feed.specs.Calling.{body_at, Calls, behind_of, fed_on}
use Rattle.feed.specs.Watching.{Carried, Trail, turn_of, go_on, watch_of, Turns, before_of, Behind, WatchLaws}
use Rattle.feed.proofs.Going
use Rattle.feed.proofs.Turns.{record-read, whole-says, behind-is, said-accepted, fed_by}

abbrev pub trail : {X : Type 0} → List Session → X → List ℕ → Trail X
trail row x kept = record { row = row; carried = x; kept = kept }

-- a table out of order accepts nothing
pub ordered : (t : Table) (c : Call) → is_accepted (answer t c) ≡ true → in_order t ≡ true
unfolding answer
ordered t c y = split (in_order t) (λ e. e) (λ e. no_way y (ap (λ (b : Bool). is_accepted (cond b (asked t c) (number_only c 26))) e))

module _ {X N : Type 0} {w : Carried X} {note : X → Session → Record → List ℕ → N} {keep : X → Fed → ℕ → N → List ℕ → List ℕ → Behind X} (laws : WatchLaws w note keep) (input : List ℕ) where
  abbrev order-of : Trail X → Bool
  order-of x = in_order (table_of x.row (w.fed x.carried).head)

  abbrev used-of : Trail X → ℕ
  used-of x = (w.fed x.carried).used

  abbrev end-of : Trail X → Trail X
  end-of z = watch_of w z.row z.carried input z.kept

  -- where the mark was right at z it is right at x, and what is left to do gives what the whole gives
  abbrev pub After : Bool → Trail X → Trail X → Type 0
  After mark z x = Going.After (length input) used-of order-of (go_on w input) end-of mark z x

  pub at_first : (mark : Bool) (z : Trail X) → After mark z z
  unfolding watch_of
  at_first mark z = Going.at_first (length input) used-of order-of (go_on w input) end-of mark z refl

  -- where there is no more, nothing more is done; where there is, one record
  stops : (n : ℕ) (x : Trail X) → w.more x.carried input ≡ false → go_on w input n x ≡ x
  unfolding go_on
  stops zero x e = refl
  stops (suc n) x e = ap (λ (b : Bool). cond b (go_on w input n (turn_of w input x)) x) e

  goes_on_lem : (n : ℕ) (x : Trail X) → w.more x.carried input ≡ true → go_on w input (suc n) x ≡ go_on w input n (turn_of w input x)
  unfolding go_on
  goes_on_lem n x e = ap (λ (b : Bool). cond b (go_on w input n (turn_of w input x)) x) e

  -- 26 is asked once: the mark of a row is its mark after a turn
  turn-mark : (x : Trail X) → order-of (turn_of w input x) ≡ order-of x
  unfolding turn_of
  turn-mark x =
      let f = w.fed x.carried in
      let t = table_of x.row f.head in
      let c = call_next input f in
      ap (λ (g : Fed). in_order (table_of (next t c).row g.head)) (laws.fed_after x.carried _ t c) ∙ order_same t c

  module _ (x : X) (more : w.more x input ≡ true) where
    whole : Holds (is_whole (next_in (drop (w.fed x).used input)))
    whole = subst Holds (sym (laws.stands x input more)) tt

    there : (w.fed x).used < length input
    there = omega (arith, (whole-says (w.fed x) input whole).0)

    -- a turn comes nearer to the end of the input
    pub goes-nearer : (row zs : List Session) (kept ks : List ℕ) (sound : Bool) (y : X) → Turns w row kept sound x input y zs ks → length input - (w.fed y).used < length input - (w.fed x).used
    goes-nearer row zs kept ks sound y turned = omega (arith, there, (turned more).0)

    pub goes_one : (row zs : List Session) (kept ks : List ℕ) (sound : Bool) (y : X) → Turns w row kept sound x input y zs ks → (z : Trail X) → After sound z (trail row x kept) → After sound z (trail zs y ks)
    goes_one row zs kept ks sound y turned =
        Going.goes_one (length input) used-of order-of (go_on w input) end-of sound (turn_of w input) (trail row x kept) (trail zs y ks) there (turned more).0 (turned more).1 (turn-mark (trail row x kept)) (λ n. goes_on_lem n (trail row x kept) more)

    -- a record, its call and what is carried behind it are one turn
    module _ (row : List Session) (kept : List ℕ) (sound : Bool) (short : length input < 2 ^ 64) (long : length row < 2 ^ 64) where
      abbrev f : Fed
      f = w.fed x

      abbrev t : Table
      t = table_of row f.head

      abbrev s : List ℕ
      s = drop f.used input

      abbrev end : ℕ
      end = f.used + size_of (next_in s)

      -- what is carried and kept behind the call c, with the table q then
      abbrev behind : Fed → Call → Behind X
      behind g c = record { carried = w.after x g t c; kept = w.kept x kept t c }

      abbrev trail-of : List Session → Behind X → Trail X
      trail-of zs b = trail zs b.carried b.kept

      pub turned : (r : Record) → r ≡ record_from s → (o : Outcome) (zs : List Session) → Calls row f r input sound o zs → (n : N) → n ≡ note x (before_of t (w.label x) r) r (body_at input f r)
          → (g : Fed) → g ≡ fed_on f r (length input) o.head f.written → (y : X) (ks : List ℕ) → record { carried = y; kept = ks } ≡ keep x g o.answer n (body_at input f r) kept
          → ((w.fed x).used < (w.fed y).used) × (sound ≡ in_order t → trail zs y ks ≡ turn_of w input (trail row x kept))
      unfolding turn_of call_in
      turned r er o zs called n en g eg y ks e =
          let read : r ≡ record_in s = er ∙ record-read f input whole in
          let used : behind_of (length input) f.used r.size ≡ end = ap (λ (q : Record). behind_of (length input) f.used q.size) read ∙ behind-is f input whole in
          let fed : w.fed y ≡ fed_by f o.head end f.written =
          ap (λ (b : Behind X). w.fed b.carried) e ∙ laws.fed_kept x g o.answer n (body_at input f r) kept ∙ eg ∙ ap (λ (u : ℕ). fed_by f o.head u f.written) used in
          let on : g ≡ fed_by f o.head end f.written = eg ∙ ap (λ (u : ℕ). fed_by f o.head u f.written) used in (
            omega (arith, ap (λ (q : Fed). q.used) fed, (whole-says f input whole).1),
            λ mark.
                let called_so = called mark (whole-says f input whole).0 short long in
                let body : List ℕ = body_at input f r in
                let c : Call = call_of r body in
                let acc : is_accepted (answer t c) ≡ eqb o.answer 0 = sym (ap is_accepted called_so.0.0) ∙ said-accepted 0 o called_so.1 r body in
                let same : c ≡ call_next input f = ap (λ (q : Record). call_of q (body_in s q.size)) read in
                ap (trail-of zs) (e ∙ ap (λ (m : N). keep x g o.answer m body kept) en ∙ laws.notes x t r g o.answer body kept acc)
                ∙ ap (λ (q : Fed). trail-of zs (behind q c)) on
                ∙ ap (λ (q : Table). trail-of q.row (behind (fed_by f (head_of q) end f.written) c)) called_so.0.1
                ∙ ap (λ (d : Call). trail-of (next t d).row (behind (fed_by f (head_of (next t d)) end f.written) d)) same,
          )

      -- the same of the parts that the code makes
      pub made : (h : Fed) → h ≡ w.fed x → (r : Record) → r ≡ record_from (drop h.used input) → (body : List ℕ) → body ≡ body_in (drop h.used input) r.size
          → (n : N) → n ≡ note x (before_of t (w.label x) r) r body → (o : Outcome) (zs : List Session) → Calls row h r input sound o zs
          → (g : Fed) → g ≡ fed_on h r (length input) o.head h.written → (y : X) (ks : List ℕ) → record { carried = y; kept = ks } ≡ keep x g o.answer n body kept
          → ((w.fed x).used < (w.fed y).used) × (sound ≡ in_order t → trail zs y ks ≡ turn_of w input (trail row x kept))
      made h eh r er body eb n en o zs called g eg y ks e =
          turned r (er ∙ ap (λ (q : Fed). record_from (drop q.used input)) eh) o zs (subst (λ (q : Fed). Calls row q r input sound o zs) eh called) n
          (en ∙ ap (note x (before_of t (w.label x) r) r) (eb ∙ ap (λ (q : Fed). body_in (drop q.used input) r.size) eh))
          g (eg ∙ ap (λ (q : Fed). fed_on q r (length input) o.head q.written) eh) y ks
          (e ∙ ap (λ (q : List ℕ). keep x g o.answer n q kept) (eb ∙ ap (λ (q : Fed). body_in (drop q.used input) r.size) eh))

  -- no more is done
  pub at-end : (mark : Bool) (z x : Trail X) → After mark z x → w.more x.carried input ≡ false → mark ≡ order-of z → x ≡ watch_of w z.row z.carried input z.kept
  at-end mark z x after none =
      Going.at-end (length input) used-of order-of (go_on w input) end-of mark z x after (λ n. stops n x none)
