use Rattle.korvezul.proofs.groups.group_answer.Goals as goal

pub returns : goal.returns
returns c = rw (c.group_told.ensures, c.is_up.ensures)
