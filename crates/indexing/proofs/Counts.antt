-- A log that is counted: 0 means that it is whole records and nothing behind them.
-- Assumes nothing.
use Prim.Native.Nat.{ℕ, zero, suc, ◌-◌, ◌≤◌, ◌<◌}
use native.Mathlib.Omega.{arith}
use mathlib.Core.Path.{◌≡◌}
use mathlib.Core.Bool.{true, ◌&&◌}
use mathlib.Core.List.{List}
use lib.Dec.{eqb, ltb, leb}
use lib.ListN.{length, drop}
use borrow.Author.Tests.{eqb-true, ltb-true, leb-true}
use Rattle.octets.proofs.Chain.{and_both}
use Rattle.rules.proofs.Bools.{split}
use Rattle.call_log.specs.declared.Point.{Point}
use Rattle.call_log.specs.Records.{is_whole, behind, header_fits}
use Rattle.call_log.specs.Reading.{followed, more_of, read_to, never, at_start, read_all, count_of}
use Rattle.call_log.specs.Entries.{rest_after}
use Rattle.call_log.proofs.Turns.{more-whole, spare-most}
use Rattle.call_log.proofs.Asking.{Wholes}

-- n whole records, and nothing behind them
pub record Ends (n : ℕ) (s : List ℕ) : Type 0 where
  pub whole : Wholes n s
  pub all : length (rest_after n s) ≡ 0

one_more : (n : ℕ) (s : List ℕ) → is_whole s ≡ true → Ends n (behind s) → Ends (suc n) s
unfolding Wholes rest_after
one_more n s w e = record { whole = (w, e.whole); all = e.all }

nothing_left : (s : List ℕ) → length s ≡ 0 → Ends 0 s
unfolding Wholes rest_after
nothing_left s e = record { whole = tt; all = e }

-- where reading leaves no octet, the records that were read are whole and the octets end there
read-ends : (n l u : ℕ) (s : List ℕ) (p : Point) → (read_to n l u s p).left ≡ 0 → Ends (n - (read_to n l u s p).spare) s
unfolding read_to
read-ends zero l u s p e = nothing_left s e
read-ends (suc n) l u s p e =
    split (more_of u (suc n) s)
    (λ k.
    let f = rw k at e in
    let fewer : suc (n - (read_to n l u (behind s) (followed l s p)).spare) ≡ suc n - (read_to n l u (behind s) (followed l s p)).spare = omega (arith, spare-most l u n (behind s) (followed l s p)) in
    rw (k, ← fewer) (one_more _ s (more-whole u (suc n) s k) (read-ends n l u (behind s) (followed l s p) f)))
    (λ k. let none : suc n - suc n ≡ 0 = omega arith in rw (k, none) (nothing_left s (rw k at e)))

-- 0, and the number of records: fewer than 65,536, whole, and nothing behind the last
pub record Whole (log : List ℕ) : Type 0 where
  pub header : header_fits log ≡ true
  pub few : (count_of log).count < 65536
  pub ends : Ends (count_of log).count (drop 8 log)

pub count-whole : (log : List ℕ) → (count_of log).answer ≡ 0 → Whole log
unfolding count_of
count-whole log e =
    split (header_fits log)
    (λ h. let r = read_all log in
    split (eqb r.left 0 && ltb 0 r.spare)
    (λ t. let b = and_both (eqb r.left 0) (ltb 0 r.spare) t in
    record { header = h; few = rw (h, t) (omega (arith, ltb-true 0 r.spare b.1)); ends = rw (h, t) (read-ends 65536 0 never (drop 8 log) at_start (eqb-true r.left 0 b.0)) })
    (λ t. absurd (let z : ◌≡◌ {A = ℕ} 19 0 = rw (h, t) at e in omega arith)))
    (λ h. absurd (let z : ◌≡◌ {A = ℕ} 19 0 = rw h at e in omega arith))

-- a header takes 8 octets
pub header-size : (log : List ℕ) → header_fits log ≡ true → 8 ≤ length log
unfolding header_fits
header-size log e = leb-true 8 (length log) (and_both (leb 8 (length log)) _ e).0
