use Rattle.std.proofs.Common.{rules, sym}
use Rattle.stored.proofs.Lines.{lines_to_last, no_lines}
use Rattle.stored.proofs.texts.whole_lines.Goals as goal

pub returns-in-Some : goal.returns-in-Some
returns-in-Some c = sym (lines_to_last c.args.text.now c.in-Some.last (search rules) (search rules) (search rules))

pub returns-in-None : goal.returns-in-None
returns-in-None c = sym (no_lines c.args.text.now (search rules))
