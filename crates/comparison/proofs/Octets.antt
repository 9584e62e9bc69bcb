-- Octet strings compared one by one, and numbers put into a list.
-- Assumes nothing.
use Prim.Native.Nat.{ℕ, ◌+◌, ◌-◌, ◌≤◌}
use native.Mathlib.Omega.{arith}
use mathlib.Core.Path.{◌≡◌, refl, sym, ap, subst, ◌∙◌}
use mathlib.Core.Bool.{Bool, true, false, ◌&&◌}
use mathlib.Core.List.{List, [], ◌∷◌, ◌++◌}
use lib.Dec.{eqb}
use lib.ListN.{length, take, drop, set, length-append, length-drop}
use lib.Seq.{sets, take_all}
use Rattle.std.specs.Cmp.Lexicographic.{pointwise}
use Rattle.std.specs.Prelude.{nat_eq}
use Rattle.octets.proofs.Runs.{joined, front}
use Rattle.comparison.specs.Differences.{same_octets, only}
use Rattle.comparison.specs.Walk.{Put}

-- what is left, as the code takes it
pub part : (xs : List ℕ) (n : ℕ) → take (length xs - n) (drop n xs) ≡ drop n xs
part xs n = take_all (length xs - n) (drop n xs) (simp length-drop (omega arith))

-- ---- octet strings
-- `==` on two slices
pub same_is : (a b : List ℕ) → pointwise nat_eq a b ≡ same_octets a b
same_is [] [] = refl
same_is [] (y ∷ ys) = refl
same_is (x ∷ xs) [] = refl
same_is (x ∷ xs) (y ∷ ys) = ap (λ (b : Bool). eqb x y && b) (same_is xs ys)

-- ---- numbers put
pub put-nothing : (l : List ℕ) (at : ℕ) → Put l at [] l at
put-nothing l at = record { list-is = refl; behind-is = omega arith }

pub put_then : {l k j xs ys : List ℕ} {a b c : ℕ} → Put l a xs k b → Put k b ys j c → Put l a (xs ++ ys) j c
put_then {l} {k} {j} {xs} {ys} {a} {b} {c} p q =
    record {
      list-is =
          q.list-is ∙ ap (λ (z : List ℕ). sets z b ys) p.list-is ∙ ap (λ (n : ℕ). sets (sets l a xs) n ys) p.behind-is
          ∙ sym (joined xs ys l a);
      behind-is = omega (arith, p.behind-is, q.behind-is, length-append xs ys);
    }

pub put-unless : (l : List ℕ) (at : ℕ) (test : Bool) (n : ℕ) → test ≡ false → Put l at (only test n) l at
put-unless l at test n e = rw e (put-nothing l at)

pub put_one_lem : (l : List ℕ) (at : ℕ) (test : Bool) (n : ℕ) (k : List ℕ) → test ≡ true → k ≡ set l at n → Put l at (only test n) k (at + 1)
put_one_lem l at test n k e f = rw e (record { list-is = f; behind-is = refl })

pub put_as : {l k : List ℕ} {at behind : ℕ} (test : Bool) {n m : ℕ} → n ≡ m → Put l at (only test n) k behind → Put l at (only test m) k behind
put_as {l} {k} {at} {behind} test {n} {m} e p = subst (λ (x : ℕ). Put l at (only test x) k behind) e p

-- numbers put into no room, and numbers that have room
pub put-room : {l k xs : List ℕ} {behind : ℕ} → length xs ≤ length l → Put l 0 xs k behind → k ≡ xs ++ drop (length xs) l
put-room {l} {k} {xs} {behind} h p = p.list-is ∙ front xs l h

pub ruleset puts = (put-unless, put_one_lem)
