use native.Mathlib.Omega.{arith}
use mathlib.Core.Path.{sym, ap, ◌∙◌}
use lib.ListN.{length, replicate}
use Rattle.capture.specs.Lines.{decimal}
use Rattle.capture.specs.Typing.{typed}
use Rattle.capture.proofs.Digits.{digits-short, front-typed}
use Rattle.capture.proofs.lines.put_cut_digits.Goals as goal

pub fill_digits-end-requires : goal.fill_digits-end-requires
fill_digits-end-requires c = record { count_value = c.requires; count_in_bounds = omega (arith, c.requires, digits-short 20 c.args.n) }

pub slice_bounds-all-end : goal.slice_bounds-all-end
slice_bounds-all-end c =
    let n = c.args.n in
    let front = front-typed (replicate 20 0) (decimal n) (digits-short 20 n) c.fill_digits-end.ensures in
    omega (arith, c.fill_digits-end.auto.out, front.0, digits-short 20 n)

pub slice_bounds-put_words-end : goal.slice_bounds-put_words-end
slice_bounds-put_words-end c =
    let n = c.args.n in
    let front = front-typed (replicate 20 0) (decimal n) (digits-short 20 n) c.fill_digits-end.ensures in
    front.0 ∙ sym (ap length front.1)

pub returns : goal.returns
returns c =
    let a = c.args in
    let front = front-typed (replicate 20 0) (decimal a.n) (digits-short 20 a.n) c.fill_digits-end.ensures in
    c.put_words.ensures ∙ ap (typed (record { buffer = a.out.now; at = a.at })) front.1
