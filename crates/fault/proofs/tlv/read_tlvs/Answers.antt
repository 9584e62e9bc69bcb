use mathlib.Core.Path.{◌≡◌, refl, sym, ◌∙◌}
use Prim.Native.Nat.{◌+◌, ◌-◌, ◌<◌, ◌≤◌}
use native.Mathlib.Omega.{arith}
use borrow.Author.Rules.{rules}
use Rattle.fault.specs.Tlvs.{walk, step, start, tlvs_of}
use Rattle.fault.proofs.Walk.{forward, stays, enough, turned}
use Rattle.fault.proofs.tlv.read_tlvs.Goals as goal

pub loop-t-init : goal.loop-t-init
unfolding tlvs_of
loop-t-init c = let a = c.args in
    (refl, enough a.m.now (9 + a.total) (9 + a.total - 9) (9 + a.total) start (omega arith) (omega arith))

pub loop-t-smaller : goal.loop-t-smaller
loop-t-smaller c = let a = c.args in
    let t = c.loop-t.t in
    let h : t.at < 9 + a.total = omega arith in
    let f : t.at < (step a.m.now (9 + a.total) t).at = forward t (9 + a.total) _ _ _ _ h in
    rw c.step_tlv-t.ensures (omega arith)

pub loop-t-preserved : goal.loop-t-preserved
loop-t-preserved c = let a = c.args in
    let l = c.loop-t in
    let h : l.t.at < 9 + a.total = omega arith in
    (refl, rw c.step_tlv-t.ensures (sym (turned a.m.now (9 + a.total) l.t h) ∙ l.invariant.1))

pub returns : goal.returns
returns c = let a = c.args in
    let l = c.loop-t in
    let h : 9 + a.total ≤ l.t.at = omega arith in
    sym (stays a.m.now (9 + a.total) (9 + a.total - l.t.at) l.t h) ∙ l.invariant.1
