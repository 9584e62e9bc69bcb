use native.Mathlib.Omega.{arith}
use Rattle.comparison.proofs.Octets.{put_one_lem}
use Rattle.comparison.proofs.entries.put_only.Goals as goal

pub returns : goal.returns
returns c = let a = c.args in
    (put_one_lem a.list.now a.at a.test a.entry _ c.if-not-test.false c.put_at.ensures, omega arith)
