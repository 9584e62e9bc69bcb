-- Nothing inside an entry that is passed over is looked at.
-- Assumes nothing.
use mathlib.Core.Path.{◌≡◌, refl, sym, ap, ◌∙◌}
use mathlib.Core.Bool.{Bool, true, false, cond, not, ◌&&◌, ◌||◌}
use mathlib.Core.List.{List, [], ◌∷◌, ◌++◌}
use Prim.Native.Nat.{ℕ, zero, suc, ◌+◌, ◌-◌, ◌*◌, ◌/◌, ◌≤◌, ◌<◌}
use native.Mathlib.Omega.{arith}
use lib.ListN.{length, take, drop, length-append, length-drop}
use lib.Seq.{take-append-le, drop-append-le, drop-append-add, drop_at, take-append_seam, take-append-add}
use lib.Dec.{ltb, leb, eqb}
use borrow.Author.Tests.{eqb-true, le-ltb}
use Rattle.octets.specs.Numbers.{number_at}
use Rattle.octets.specs.Choice.{answer}
use Rattle.octets.proofs.Chain.{and_both}
use Rattle.octets.proofs.Cuts.{at_first}
use Rattle.octets.proofs.Numbers.{at_part}
use Rattle.rules.proofs.Bools.{split, refuted}
use Rattle.configuration.specs.declared.Seen.{Seen}
use Rattle.configuration.specs.Entries.{Entry, size_of, padded_size, entry_at, named, is_functions, is_configuration, is_discriminator, is_timers, is_holder, holds_list, inside, with_held, entries_in}
use Rattle.configuration.specs.Reading.{wrong_length, read_configuration}
use Rattle.configuration.specs.Noting.{noted, noted_all, start, seen_refusal}
use Rattle.configuration.specs.Unread.{PassedOver, Changed}
use Rattle.configuration.specs.Unread as unread
use Rattle.configuration.proofs.Walk.{list-holds-tlvs, tlv-holds-list, noted-joined}
use Rattle.configuration.proofs.Noted.{answer-is}

-- two entries of one type and length, both past the end or neither
record Alike (e f : Entry) : Type 0 where
  levels : e.levels ≡ f.levels
  kind : e.kind ≡ f.kind
  size : e.size ≡ f.size
  past : e.past ≡ f.past

module _ (a : ℕ) (s : Seen) where
  -- what is noted of them is the same where neither has a number that is looked at, or both have the same
  noted-number : (e f : Entry) → Alike e f → number_at 4 e.value 0 ≡ number_at 4 f.value 0 → noted a s e ≡ noted a s f
  unfolding noted wrong_length
  noted-number e f k n = rw (k.levels, k.kind, k.size, k.past, n)

  noted-over : (e f : Entry) → Alike e f → is_discriminator f ≡ false → is_timers f ≡ false → noted a s e ≡ noted a s f
  unfolding noted wrong_length
  noted-over e f k d t = rw (k.levels, k.kind, k.size, k.past, d, t)

held-alike : (e f : Entry) → Alike e f → holds_list e ≡ holds_list f
held-alike e f k = rw (k.levels, k.kind, k.size, k.past)

-- the four tests of an entry that is passed over
not_named : (l k : ℕ) (e : Entry) → (e.levels ≡ l → e.kind ≡ k → ⊥) → named l k e ≡ false
not_named l k e h = refuted (named l k e) (λ t. let b = and_both (eqb e.levels l) (eqb e.kind k) t in h (eqb-true e.levels l b.0) (eqb-true e.kind k b.1))

over-holds : (e : Entry) → PassedOver e.levels e.kind → holds_list e ≡ false
over-holds e o = rw (not_named 3 16 e o.functions, not_named 2 1 e o.configuration)

-- type and length of the entry whose first octets are h
head-kind : (h t : List ℕ) → 4 ≤ length h → number_at 2 (h ++ t) 0 ≡ number_at 2 h 0
head-kind h t p = at_first 2 h t 0 (omega arith)

head-size : (h t : List ℕ) → 4 ≤ length h → size_of (h ++ t) ≡ size_of h
head-size h t p = at_first 2 h t 2 (omega arith)

alike-heads : (l : ℕ) (h t u : List ℕ) → 4 ≤ length h → length t ≡ length u → Alike (entry_at l (h ++ t)) (entry_at l (h ++ u))
unfolding entry_at
alike-heads l h t u p q =
    record {
      levels = refl;
      kind = head-kind h t p ∙ sym (head-kind h u p);
      size = head-size h t p ∙ sym (head-size h u p);
      past = rw (length-append h t, length-append h u, q, head-size h t p, head-size h u p);
    }

-- the octets behind a stretch, where the stretch is longer than what differs
behind-change : (n : ℕ) (h v w t : List ℕ) → length h + length v ≤ n → length w ≡ length v → drop n (h ++ (v ++ t)) ≡ drop n (h ++ (w ++ t))
behind-change n h v w t p q = one v p ∙ ap (λ (k : ℕ). drop (n - (length h + k)) t) (sym q) ∙ sym (one w (omega arith))
  where
    one : (u : List ℕ) → length h + length u ≤ n → drop n (h ++ (u ++ t)) ≡ drop (n - (length h + length u)) t
    one u r =
        let e : n ≡ length h + (length u + (n - (length h + length u))) = omega arith in
        ap (λ (k : ℕ). drop k (h ++ (u ++ t))) e ∙ drop-append-add h (u ++ t) (length u + (n - (length h + length u))) ∙ drop-append-add u t (n - (length h + length u))

passed : (l : ℕ) (h t : List ℕ) → 4 ≤ length h → PassedOver l (number_at 2 h 0) → PassedOver (entry_at l (h ++ t)).levels (entry_at l (h ++ t)).kind
unfolding entry_at
passed l h t p o = rw (head-kind h t p) o

rest-same : (h v w t : List ℕ) → 4 ≤ length h → length h + length v ≤ padded_size (size_of h) → length w ≡ length v
    → drop (padded_size (size_of (h ++ (v ++ t)))) (h ++ (v ++ t)) ≡ drop (padded_size (size_of (h ++ (w ++ t)))) (h ++ (w ++ t))
rest-same h v w t p room same = rw (head-size h (v ++ t) p, head-size h (w ++ t) p) (behind-change (padded_size (size_of h)) h v w t room same)

value-fits : (n : ℕ) → 4 + n ≤ padded_size n
unfolding padded_size
value-fits n = omega arith

-- an entry that is whole is the same whatever stands behind it
whole-entry : (l : ℕ) (x t : List ℕ) → length x ≡ padded_size (size_of x)
    → entry_at l (x ++ t) ≡ record { levels = l; kind = number_at 2 x 0; size = size_of x; past = false; value = take (size_of x) (drop 4 x) }
unfolding entry_at
whole-entry l x t whole =
    let p : 4 ≤ length x = omega (arith, value-fits (size_of x)) in
    let long : size_of x ≤ length (drop 4 x) = rw (length-drop 4 x) (omega (arith, value-fits (size_of x))) in
    let reach : padded_size (size_of x) ≤ length (x ++ t) = rw (length-append x t) (omega arith) in
    rw (head-kind x t p, head-size x t p, le-ltb (length (x ++ t)) (padded_size (size_of x)) reach, drop-append-le 4 x t p, take-append-le (size_of x) (drop 4 x) t long)

whole-behind : (x t : List ℕ) → length x ≡ padded_size (size_of x) → drop (padded_size (size_of (x ++ t))) (x ++ t) ≡ t
whole-behind x t whole =
    let p : 4 ≤ length x = omega (arith, value-fits (size_of x)) in
    rw (head-size x t p) (drop_at x t (padded_size (size_of x)) whole)

-- four octets of flags behind type and length, and then the list
flagged : (l : ℕ) (h t : List ℕ) → length h ≡ 8 → 4 ≤ size_of h → number_at 4 (entry_at l (h ++ t)).value 0 ≡ number_at 4 h 4
unfolding entry_at
flagged l h t eight size =
    let p : 4 ≤ length h = omega arith in
    let q : 4 ≤ size_of (h ++ t) = rw (head-size h t p) size in
    at_part 4 (size_of (h ++ t)) 4 (h ++ t) 0 (omega arith) ∙ at_first 4 h t 4 (omega arith)

behind-flags : (g xs t : List ℕ) → length g ≡ 4 → drop 4 (take (4 + length xs) (g ++ (xs ++ t))) ≡ xs
behind-flags g xs t e =
    ap (λ (k : ℕ). drop 4 (take (k + length xs) (g ++ (xs ++ t)))) (sym e)
    ∙ ap (drop 4) (take-append-add g (xs ++ t) (length xs) ∙ ap (λ (r : List ℕ). g ++ r) (take-append_seam xs t))
    ∙ drop_at g xs 4 e

list_inside : (l : ℕ) (h xs t : List ℕ) → length h ≡ 8 → size_of h ≡ 4 + length xs → inside (entry_at l (h ++ (xs ++ t))) ≡ xs
unfolding entry_at
list_inside l h xs t eight size =
    let p : 4 ≤ length h = omega arith in
    let g : length (drop 4 h) ≡ 4 = rw (length-drop 4 h) (omega arith) in
    rw (head-size h (xs ++ t) p, size, drop-append-le 4 h (xs ++ t) p) (behind-flags (drop 4 h) xs t g)

module _ (a : ℕ) where
  -- the entry at the front and then what stands behind it
  both-parts : (l : ℕ) (xs ys : List ℕ) (s : Seen) → 0 < length xs → 0 < length ys
      → ((t : Seen) → noted_all a t (with_held l (entry_at l xs)) ≡ noted_all a t (with_held l (entry_at l ys)))
      → ((t : Seen) → noted_all a t (entries_in l (drop (padded_size (size_of xs)) xs)) ≡ noted_all a t (entries_in l (drop (padded_size (size_of ys)) ys)))
      → noted_all a s (entries_in l xs) ≡ noted_all a s (entries_in l ys)
  both-parts l xs ys s p q first rest = to xs p ∙ rw (first s) (rest (noted_all a s (with_held l (entry_at l ys)))) ∙ sym (to ys q)
    where
      to : (zs : List ℕ) → 0 < length zs
          → noted_all a s (entries_in l zs) ≡ noted_all a (noted_all a s (with_held l (entry_at l zs))) (entries_in l (drop (padded_size (size_of zs)) zs))
      to zs h = ap (noted_all a s) (list-holds-tlvs l zs h) ∙ noted-joined a s (with_held l (entry_at l zs)) (entries_in l (drop (padded_size (size_of zs)) zs))

  -- an entry that holds no list, and one whose lists say the same
  alone : (l : ℕ) (e f : Entry) (s : Seen) → noted a s e ≡ noted a s f → holds_list e ≡ false → holds_list f ≡ false
      → noted_all a s (with_held l e) ≡ noted_all a s (with_held l f)
  unfolding with_held noted_all
  alone zero e f s n p q = refl
  alone (suc l) e f s n p q = rw (p, q, n)

  first-noted : (l : ℕ) (e : Entry) (s : Seen) → noted_all a s (with_held (suc l) e) ≡ noted_all a (noted a s e) (cond (holds_list e) (entries_in l (inside e)) [])
  unfolding noted_all
  first-noted l e s = ap (noted_all a s) (tlv-holds-list l e)

  where-held : (b : Bool) (m : Seen) (ds es : List Entry) → ((t : Seen) → noted_all a t ds ≡ noted_all a t es) → noted_all a m (cond b ds []) ≡ noted_all a m (cond b es [])
  where-held true m ds es h = h m
  where-held false m ds es h = refl

  with-lists : (l : ℕ) (e f : Entry) (s : Seen) → noted a s e ≡ noted a s f → holds_list e ≡ holds_list f
      → ((t : Seen) → noted_all a t (entries_in l (inside e)) ≡ noted_all a t (entries_in l (inside f)))
      → noted_all a s (with_held (suc l) e) ≡ noted_all a s (with_held (suc l) f)
  with-lists l e f s n h i =
      first-noted l e s
      ∙ (λ j. noted_all a (n j) (cond (h j) (entries_in l (inside e)) []))
      ∙ where-held (holds_list f) (noted a s f) (entries_in l (inside e)) (entries_in l (inside f)) i
      ∙ sym (first-noted l f s)

  some : (h t : List ℕ) → 4 ≤ length h → 0 < length (h ++ t)
  some h t p = rw (length-append h t) (omega arith)

  same_noted : {l : ℕ} {xs ys : List ℕ} → Changed l xs ys → (s : Seen) → noted_all a s (entries_in l xs) ≡ noted_all a s (entries_in l ys)
  same_noted {l} (unread.value h v w t four over room same) s =
      let p : 4 ≤ length h = omega arith in
      let e = entry_at l (h ++ (v ++ t)) in
      let f = entry_at l (h ++ (w ++ t)) in
      let o = passed l h (w ++ t) p over in
      let k = alike-heads l h (v ++ t) (w ++ t) p (rw (length-append v t, length-append w t, same)) in
      both-parts l (h ++ (v ++ t)) (h ++ (w ++ t)) s (some h (v ++ t) p) (some h (w ++ t) p)
      (λ u.
      alone l e f u (noted-over a u e f k (not_named 1 1 f o.discriminator) (not_named 1 2 f o.timers)) (over-holds e (passed l h (v ++ t) p over)) (over-holds f o))
      (λ u. ap (λ (zs : List ℕ). noted_all a u (entries_in l zs)) (rest-same h v w t p (omega arith) same))
  same_noted {l} (unread.behind x {xs} {ys} whole c) s =
      let p : 4 ≤ length x = omega (arith, value-fits (size_of x)) in
      both-parts l (x ++ xs) (x ++ ys) s (some x xs p) (some x ys p)
      (λ u. ap (λ (e : Entry). noted_all a u (with_held l e)) (whole-entry l x xs whole ∙ sym (whole-entry l x ys whole)))
      (λ u. rw (whole-behind x xs whole, whole-behind x ys whole) (same_noted c u))
  same_noted (unread.inside {l = l} h {xs} {ys} t eight size same c) s =
      let p : 4 ≤ length h = omega arith in
      let e = entry_at (suc l) (h ++ (xs ++ t)) in
      let f = entry_at (suc l) (h ++ (ys ++ t)) in
      let k = alike-heads (suc l) h (xs ++ t) (ys ++ t) p (rw (length-append xs t, length-append ys t, same)) in
      let size' : size_of h ≡ 4 + length ys = omega arith in
      both-parts (suc l) (h ++ (xs ++ t)) (h ++ (ys ++ t)) s (some h (xs ++ t) p) (some h (ys ++ t) p)
      (λ u.
      with-lists l e f u (noted-number a u e f k (flagged (suc l) h (xs ++ t) eight (omega arith) ∙ sym (flagged (suc l) h (ys ++ t) eight (omega arith)))) (held-alike e f k)
      (λ m. rw (list_inside (suc l) h xs t eight size, list_inside (suc l) h ys t eight size') (same_noted c m)))
      (λ u. ap (λ (zs : List ℕ). noted_all a u (entries_in (suc l) zs)) (rest-same h xs ys t p (omega (arith, value-fits (size_of h))) same))

-- two lists that differ inside an entry that is passed over, and nowhere else, read the same, whatever the setting is
pub unread-same : (a : ℕ) {xs ys : List ℕ} → Changed 3 xs ys → read_configuration a xs ≡ read_configuration a ys
unread-same a {xs} {ys} c =
    sym (answer-is a xs (noted_all a start (entries_in 3 xs)) refl) ∙ answer-is a ys (noted_all a start (entries_in 3 xs)) (same_noted a c start)
