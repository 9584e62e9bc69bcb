use mathlib.Core.Path.{◌≡◌, refl, sym, ◌∙◌}
use Prim.Native.Nat.{◌+◌, ◌-◌, ◌<◌, ◌≤◌}
use native.Mathlib.Omega.{arith}
use borrow.Author.Rules.{rules}
use Rattle.coordination.specs.Tlvs.{walk, step, start, tlvs_of}
use Rattle.coordination.proofs.Walk.{forward, stays, enough, turned}
use Rattle.coordination.proofs.tlv.read_tlvs.Given as goal

-- the turns that are left give the whole
abbrev pub invariant-loop-t : goal.invariant-loop-t
invariant-loop-t l = (l.end ≡ 12 + l.total) × (walk (l.end - l.t.at) l.m l.end l.t ≡ tlvs_of l.m l.end)

abbrev pub decreases-loop-t : goal.decreases-loop-t
decreases-loop-t l = l.end - l.t.at
