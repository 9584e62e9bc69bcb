use native.Mathlib.Omega.{arith}
use Prim.Native.Nat.{◌/◌}
use mathlib.Core.Path.{ap, sym, ◌∙◌}
use lib.ListN.{length}
use Rattle.capture.proofs.Digits.{digits-short, digits-enough, quotient-count}
use Rattle.capture.proofs.lines.digit_count.Goals as goal

pub returns-then-n-lt10000000000 : goal.returns-then-n-lt10000000000
returns-then-n-lt10000000000 c = c.few_digits.ensures ∙ sym (ap length (digits-enough 9 10 c.args.n c.if-n-lt10000000000.true))

pub overflow_add-result : goal.overflow_add-result
overflow_add-result c = omega (arith, c.few_digits-else-n-lt10000000000.ensures, digits-short 10 (c.args.n / 10000000000))

pub returns-else-n-lt10000000000 : goal.returns-else-n-lt10000000000
returns-else-n-lt10000000000 c = rw c.few_digits-else-n-lt10000000000.ensures (sym (quotient-count 10 10 c.args.n c.if-n-lt10000000000.false))
