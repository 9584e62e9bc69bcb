use Rattle.why.proofs.put_answer.Goals as goal

pub returns : goal.returns
returns c = rw (← c.ended.ensures) c.put_text.ensures
