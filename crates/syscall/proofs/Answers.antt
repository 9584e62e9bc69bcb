-- A read that is lent a buffer from a place on.
-- Assumes nothing.
use Prim.Native.Nat.{ℕ, ◌-◌, ◌≤◌}
use native.Mathlib.Omega.{arith}
use mathlib.Core.Path.{◌≡◌, sym, ap, ◌∙◌}
use mathlib.Core.List.{List, [], ◌++◌, append-nil}
use lib.Dec.{ltb}
use lib.ListN.{length, take, drop, length-append, length-take, length-drop, drop_of_length-le}
use lib.Seq.{length-take-le, take_all, take_at}
use borrow.Author.Tests.{ltb-true, ltb-false}
use borrow.Rule.Slice.PartMut.{mid_of, put_mid}
use Rattle.std.specs.Prelude.{Result, Ok, Err}
use Rattle.std.specs.Counts.{IsPrefixLen}
use Rattle.std.specs.Io.{ReadsAtMost}
use Rattle.rules.proofs.Bools.{split}
use Rattle.pump.specs.Pumping.{Within}

-- ---- a number
-- so many octets of a list are there
pub prefix-len : (n : ℕ) (xs : List ℕ) → n ≤ length xs → IsPrefixLen n xs
prefix-len n xs l = (l, sym (length-take-le n xs l))

-- no more than a part has, and so no more than the whole
pub reads-more : {E : Type 0} (z : Result ℕ E) (part whole : List ℕ) → length part ≤ length whole → ReadsAtMost z part → ReadsAtMost z whole
reads-more (Ok n) part whole l m = let few : n ≤ length part = m.0 in prefix-len n whole (omega arith)
reads-more (Err e) part whole l m = m

-- ---- a read that is lent the buffer from behind the octets that are there on, and leaves that part as it says
module _ (have : ℕ) (buf part : List ℕ) (at : ℕ) (w : Within have buf at) (lent : length part ≡ length (mid_of at (length buf - at) buf)) where
  abbrev pub left : List ℕ
  left = put_mid at (length buf - at) buf part

  behind-have : length buf - at ≡ length buf - have
  behind-have = omega (arith, w.fits, w.count, ap length w.same-part, length-take have buf)

  pub part_room : length part ≡ length buf - have
  part_room = lent ∙ length-take-le (length buf - at) (drop at buf) (omega (arith, length-drop at buf)) ∙ behind-have

  pub left_is : left ≡ take have buf ++ part
  left_is =
      let none : drop (length buf - at) (drop at buf) ≡ [] = drop_of_length-le (drop at buf) {i = length buf - at} (omega (arith, length-drop at buf)) in
      ap (λ (l : List ℕ). take at buf ++ (part ++ l)) none
      ∙ ap (λ (l : List ℕ). take at buf ++ l) (append-nil part)
      ∙ ap (λ (l : List ℕ). l ++ part) w.same-part

  pub left-length : length (take have buf ++ part) ≡ length buf
  left-length = omega (arith, length-append (take have buf) part, length-take have buf, part_room)

  pub left-room : length part ≤ length left
  left-room = omega (arith, ap length left_is, left-length, part_room)

  pub left_there : take have (take have buf ++ part) ≡ take have buf
  left_there =
      split (ltb have (length buf))
      (λ b. take_at (take have buf) part have (length-take-le have buf (omega (arith, ltb-true have (length buf) b))))
      (λ b.
      let full = ltb-false have (length buf) b in
      let none : part ≡ [] = sym (take_all 0 part (omega (arith, part_room, full))) in
      take_all have (take have buf ++ part) (omega (arith, left-length, full))
      ∙ ap (λ (l : List ℕ). take have buf ++ l) none
      ∙ append-nil (take have buf))
