-- What `run` answers, and every byte of the lent buffer afterwards.
-- Assumes nothing.
use Rattle.std.specs.Prelude.{ℕ, cond, List, eqb, length, Result, Ok, Err}
use Rattle.octets.specs.Writing.{Written, writing}
use Rattle.octets.specs.Refusals.{number_of}
use Rattle.octets.specs.declared.refusals.Refusal.{Refusal}
use Rattle.text.specs.Text.{text_of}

-- the answer, and how many octets the text has
pub record Ran : Type 0 where
  pub answer : ℕ
  pub written : ℕ

abbrev pub ran_in : Result ℕ Refusal → Ran
ran_in (Ok n) = record { answer = 0; written = n }
ran_in (Err r) = record { answer = number_of r; written = 0 }

pub record Finished : Type 0 where
  pub ran : Ran
  pub out : List ℕ

-- 0 and how many octets the text has; under 13 none
abbrev pub finished : ℕ → Written → Finished
finished octets w = record { ran = record { answer = w.answer; written = cond (eqb w.answer 0) octets 0 }; out = w.buffer }

-- the text at the buffer's front and the bytes behind it as they were; 13 where it does not fit, and then no byte changes
unfoldable pub run_of : List ℕ → List ℕ → Finished
run_of capture out = finished (length (text_of capture)) (writing 0 (text_of capture) out)
