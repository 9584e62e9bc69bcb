use Prim.Native.Nat.{ℕ}
use mathlib.Core.Path.{ap, ◌∙◌}
use mathlib.Core.List.{List}
use lib.ListN.{length, drop}
use lib.Seq.{sets}
use Rattle.pump.specs.Pumping.{Within, Shifted}
use Rattle.pump.proofs.moving.shift.Goals as goal

-- as far as the buffer goes
as-far : (buf : List ℕ) (from to n r : ℕ) (after : List ℕ) → Within to buf n → Shifted buf from n r after → Shifted buf from to r after
as-far buf from to n r after w s =
    record {
      count = s.count ∙ ap (λ (p : List ℕ). length (drop from p)) w.same-part;
      moved = s.moved ∙ ap (λ (p : List ℕ). sets buf 0 (drop from p)) w.same-part;
    }

pub returns : goal.returns
returns c =
    let s = c.args in
    as-far s.buf.now s.from s.to c.within-n.result c.move_within.result _ c.within-n.ensures c.move_within.ensures
