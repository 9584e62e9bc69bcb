-- The words that `spacing` takes: a label, as `why` takes it, and nothing behind it.
-- Assumes nothing.
use Rattle.std.specs.Prelude.{Bool, ◌&&◌, eqb}
use Rattle.inquiry.specs.declared.question.Question.{Question}

-- the label was there, and no thing behind it that `why` would be asked about
abbrev pub is_label : Question → Bool
is_label q = q.good && (q.labelled && eqb q.kind 0)
