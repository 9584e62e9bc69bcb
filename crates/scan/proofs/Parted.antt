-- How many of either party are open, from the key pairs of a row: neither more than 32, and whether the party of a label has 32.
-- Assumes nothing.
use Prim.Native.Nat.{ℕ, ◌+◌, ◌-◌, ◌<◌}
use native.Mathlib.Omega.{arith}
use mathlib.Core.Path.{◌≡◌, ap, ◌∙◌}
use mathlib.Core.Bool.{false, ◌&&◌}
use mathlib.Core.List.{List}
use lib.ListN.{length}
use lib.Dec.{eqb, ltb, leb}
use borrow.Author.Tests.{ltb-true, le-leb, ne_eqb}
use Rattle.rules.specs.Parties.{their_first, party_of, own_most}
use Rattle.rules.specs.Lists.{any}
use Rattle.rules.proofs.Bools.{split}
use Rattle.rules.proofs.Counting.{count}
use Rattle.rules.proofs.TwoParties.{both-parties}
use Rattle.session.specs.declared.Session.{Session}
use Rattle.table.specs.Places.{occupied_of, opens}
use Rattle.table.proofs.Rows.{count-opens}
use Rattle.table.proofs.Shares.{held_by}
use Rattle.scan.specs.Passing.{own_count, share_in}
use Rattle.scan.proofs.RowPairs.{pairs_of, unsound_at, pairs-theirs}

module _ (clock set : ℕ) (row : List Session) (n : length row ≡ 64) (all : any (unsound_at clock) (opens set row) ≡ false) where
  abbrev open_count : ℕ
  open_count = occupied_of 64 set

  abbrev held_of : ℕ → ℕ
  held_of p = count (held_by p) (opens set row)

  -- the two are all
  sum : held_of 0 + held_of 1 ≡ open_count
  sum = both-parties (λ (r : Session). r.settings.label) (opens set row) ∙ count-opens set row ∙ ap (λ (k : ℕ). occupied_of k set) n

  -- so what is told of the shares is so of the records
  pub pairs-shared : (label : ℕ)
      → share_in (pairs_of set row) set label
      ≡ record { kept = leb (held_of 0) own_most && leb (held_of 1) own_most; full = eqb (held_of (party_of label)) own_most }
  unfolding share_in
  pairs-shared label =
      split (ltb open_count own_most)
      (λ e.
      let h : open_count < own_most = ltb-true open_count own_most e in
      let none : eqb (held_of (party_of label)) own_most ≡ false =
      split (ltb label their_first)
      (λ o. rw (o, ne_eqb (held_of 0) own_most (λ q. omega (arith, h, sum, q))))
      (λ o. rw (o, ne_eqb (held_of 1) own_most (λ q. omega (arith, h, sum, q)))) in
      rw (e, le-leb (held_of 0) own_most (omega (arith, h, sum)), le-leb (held_of 1) own_most (omega (arith, h, sum)), none))
      (λ e.
      let ours : open_count - held_of 1 ≡ held_of 0 = omega (arith, sum) in
      let own : eqb (own_count label (held_of 0) (held_of 1)) own_most ≡ eqb (held_of (party_of label)) own_most =
      split (ltb label their_first) (λ o. rw o) (λ o. rw o) in
      rw (e, pairs-theirs clock set row all, ours, own))
