use mathlib.Core.Path.{◌≡◌, sym, ap, ◌∙◌}
use Prim.Native.Nat.{ℕ, ◌+◌}
use native.Mathlib.Omega.{arith}
use Rattle.octets.specs.Numbers.{number_at}
use Rattle.cv.specs.Cv.{mep_at, len_at, cv_refusal}
use Rattle.cv.proofs.Says.{cv-says}
use Rattle.cv.proofs.read.mep_part.Goals as goal

pub slice_bounds-result-end : goal.slice_bounds-result-end
slice_bounds-result-end c = let m = c.args.m.now in
    let e : cv_refusal m ≡ 0 = sym c.in-Ok.ensures in
    let at : c.mep_at-at.result ≡ mep_at m = c.mep_at-at.ensures in
    let len : c.get_u16-length.result ≡ len_at m = c.get_u16-length.ensures ∙ ap (λ (k : ℕ). number_at 2 m (k + 2)) at in
    omega (arith, (cv-says m e).mep.room, at, len)
