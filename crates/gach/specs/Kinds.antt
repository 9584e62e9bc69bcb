-- Which of the three kinds a message is.
-- Assumes nothing.
use Rattle.std.specs.Prelude.{ℕ, List, eqb, Result, Ok, Err}
use Rattle.octets.specs.Choice.{bar, or_else, Answer, accepted, refused, answer}
use Rattle.gach.specs.Header.{cc_channel, cv_channel, fault_channel, channel_of, header_refusal}
use Rattle.gach.specs.declared.Kind.{Kind}
use Rattle.gach.specs.declared.Kind.TheVariants.{ContinuityCheck, ConnectivityVerification, Fault}
use Rattle.octets.specs.declared.refusals.Refusal.{Refusal}
use Rattle.octets.specs.Refusals.{number_of}

-- the paper's number and value for each case: a kind is its channel type, under answer 0
abbrev pub said : Result Kind Refusal → Answer ℕ
said (Ok ContinuityCheck) = accepted cc_channel
said (Ok ConnectivityVerification) = accepted cv_channel
said (Ok Fault) = accepted fault_channel
said (Err r) = refused (number_of r)

-- refusal 5: a channel type that is none of the three
unfoldable pub kind_refusal : ℕ → ℕ → ℕ
kind_refusal header channel =
    or_else header
    (bar (eqb channel cc_channel) 0
    (bar (eqb channel cv_channel) 0
    (bar (eqb channel fault_channel) 0 5)))

-- 3 (under 4 octets), 4, 5, else the kind
unfoldable pub read_kind : List ℕ → Answer ℕ
read_kind m = answer (kind_refusal (header_refusal m) (channel_of m)) (channel_of m)
