use borrow.Author.Rules.{rules}
use Prim.Native.Nat.{◌-◌, ◌≤◌}
use mathlib.Core.Path.{sym}
use native.Mathlib.Omega.{arith}
use lib.ListN.{length, drop, drop_of_length-le, length-drop}
use lib.Seq.{take_all}
use Rattle.octets.proofs.parts.from_place.Goals as goal

pub returns-then-s-at : goal.returns-then-s-at
returns-then-s-at c = sym (drop_of_length-le _ c.if-s-at.true)

pub returns : goal.returns
returns c = let s = c.args.s.now in
    let at = c.args.at in
    let all : length (drop at s) ≤ length s - at = omega (arith, length-drop at s) in
    take_all (length s - at) (drop at s) all
