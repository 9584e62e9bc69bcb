use mathlib.Core.Path.{◌≡◌, refl, sym, ◌∙◌}
use Prim.Native.Nat.{◌+◌, ◌-◌, ◌<◌, ◌≤◌}
use native.Mathlib.Omega.{arith}
use borrow.Author.Rules.{rules}
use Rattle.fault.specs.Tlvs.{walk, step, start, tlvs_of}
use Rattle.fault.proofs.Walk.{forward, stays, enough, turned}
use Rattle.fault.proofs.tlv.read_tlvs.Given as goal

-- the turns that are left give the whole
abbrev pub invariant-loop-t : goal.invariant-loop-t
invariant-loop-t l = (l.end ≡ 9 + l.total) × (walk (l.end - l.t.at) l.m l.end l.t ≡ tlvs_of l.m l.end)

abbrev pub decreases-loop-t : goal.decreases-loop-t
decreases-loop-t l = l.end - l.t.at
