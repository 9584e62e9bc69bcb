-- The text of `why`: which record, how old, and what ends it, a line each; or the refusal. And what is said of a capture that is not whole.
-- Assumes nothing.
use Rattle.std.specs.Prelude.{ℕ, zero, suc, ◌+◌, ◌/◌, ◌%◌, Bool, cond, List, [], ◌∷◌, ◌++◌, eqb, ltb, length, drop}
use Rattle.std.proofs.Math.Option.{Option, none, some}
use Rattle.octets.specs.Choice.{Answer, accepted, refused}
use Rattle.cv.specs.declared.MepId.{MepId}
use Rattle.message.specs.declared.Message.{Message}
use Rattle.message.specs.declared.Message.TheVariants.{ContinuityCheck, ConnectivityVerification, FaultManagement}
use Rattle.message.specs.Message.{message_of}
use Rattle.rules.specs.declared.Key.{Key}
use Rattle.rules.specs.Conditions.{key_of}
use Rattle.capture.specs.Records.{header_fits}
use Rattle.capture.specs.Lines.{decimal}
use Rattle.text.specs.Text.{parsed}
use Rattle.meaning.specs.Histories.{History}
use Rattle.cause.specs.declared.Cause.{Cause}
use Rattle.cause.specs.declared.Thing.{Thing}
use Rattle.cause.specs.declared.Thing.TheVariants.{Crossing, Loss, Condition, HeldBack}
use Rattle.cause.specs.declared.Timed.{Timed}
use Rattle.cause.specs.declared.Timed.TheVariants.{Opening, Unlock, Cc, Cv}
use Rattle.cause.specs.Causes.{cause_of, Reason, crossed_by, timed_by, fault_by, reason_of}
use Rattle.cause.specs.Pasts.{past_up_to}
use Rattle.inquiry.specs.Vocabulary.{w_which, w_at, w_comma, w_slash, w_point, w_opening, w_unlock, w_cc, w_cv, w_your, w_from, w_section, w_lsp, w_pseudowire, w_ais, w_lkr, w_refresh, w_seconds, w_link_down, w_interface, w_global, w_how_old, w_ends_at, w_unless, w_stood, w_or_removed, w_or_loss_ends, w_not_open, w_is_not_open, w_no_crossing, w_no_loss, w_not_held_back, w_no_condition, w_cut, w_bad_header, w_line}

-- ---- what the record was
abbrev pub timed_words : Timed → List ℕ
timed_words Opening = w_opening
timed_words Unlock = w_unlock
timed_words Cc = w_cc
timed_words Cv = w_cv

abbrev pub pair_words : ℕ → ℕ → List ℕ
pair_words a b = decimal a ++ w_slash ++ decimal b

-- a MEP-ID: of a Section Global_ID, Node and interface, of an LSP Global_ID, Node, tunnel and LSP, of a pseudowire Global_ID, Node and AC_ID
unfoldable pub mep_words : MepId → List ℕ
mep_words id =
    cond (eqb id.kind 0) (w_section ++ pair_words id.global id.node ++ w_slash ++ decimal id.local)
    (cond (eqb id.kind 1) (w_lsp ++ pair_words id.global id.node ++ w_slash ++ pair_words (id.local / 65536) (id.local % 65536))
    (w_pseudowire ++ pair_words id.global id.node ++ w_slash ++ decimal id.local))

-- a crossed message, which is a CC or a CV
unfoldable pub message_words : Message → List ℕ
message_words (ContinuityCheck p) = w_cc ++ w_your ++ decimal p.your
message_words (ConnectivityVerification p id) = w_cv ++ w_your ++ decimal p.your ++ w_from ++ mep_words id
message_words (FaultManagement f) = []

-- words that are there only under a mark
abbrev pub only_if : Bool → List ℕ → List ℕ
only_if b words = cond b words []

-- a fault message: its type, refresh and L, and the rest of its key as far as it is present
unfoldable pub condition_words : Key → ℕ → Bool → List ℕ
condition_words key refresh linkdown =
    cond (eqb key.kind 1) w_ais w_lkr ++ w_refresh ++ decimal refresh ++ w_seconds ++ only_if linkdown w_link_down
    ++ only_if (eqb key.present 1) (w_interface ++ pair_words key.node key.interface)
    ++ only_if (eqb key.carrier 1) (w_global ++ decimal key.global)

abbrev pub reason_words : Reason → List ℕ
reason_words (crossed_by m) = message_words (message_of m)
reason_words (timed_by t) = timed_words t
reason_words (fault_by f) = condition_words (key_of f) f.refresh f.linkdown

abbrev pub reason_text : Option Reason → List ℕ
reason_text none = []
reason_text (some w) = reason_words w

-- ---- the three lines
-- the last k digits of a number, noughts among them
unfoldable pub padded : ℕ → ℕ → List ℕ
padded zero n = []
padded (suc k) n = padded k (n / 10) ++ (48 + n % 10) ∷ []

-- microseconds as seconds, with six decimals
abbrev pub seconds : ℕ → List ℕ
seconds n = decimal (n / 1000000) ++ w_point ++ padded 6 (n % 1000000) ++ w_seconds

abbrev pub which_front : ℕ → ℕ → List ℕ
which_front number reading = w_which ++ decimal number ++ w_at ++ decimal reading ++ w_comma

abbrev pub which_line : Cause → List ℕ → List ℕ
which_line c words = which_front c.number c.reading ++ words ++ w_line

abbrev pub age_line : ℕ → List ℕ
age_line age = w_how_old ++ seconds age ++ w_line

abbrev pub end_line : Thing → ℕ → List ℕ
end_line Crossing end = w_ends_at ++ decimal end ++ w_unless ++ w_line
end_line Loss end = w_stood ++ decimal end ++ w_line
end_line (Condition key) end = w_ends_at ++ decimal end ++ w_or_removed ++ w_line
end_line HeldBack end = w_ends_at ++ decimal end ++ w_or_loss_ends ++ w_line

-- ---- a refusal: 2, else 15
abbrev pub absent_words : Thing → List ℕ
absent_words Crossing = w_no_crossing
absent_words Loss = w_no_loss
absent_words (Condition key) = w_no_condition
absent_words HeldBack = w_not_held_back

abbrev pub refused_line : ℕ → ℕ → Thing → List ℕ
refused_line n l thing = cond (eqb n 2) (w_not_open ++ decimal l ++ w_is_not_open ++ w_line) (absent_words thing ++ w_line)

-- the answer, with the words for the record that it names
unfoldable pub telling : Answer Cause → List ℕ → ℕ → Thing → List ℕ
telling (accepted c) words l thing = which_line c words ++ age_line c.age ++ end_line thing c.end
telling (refused n) words l thing = refused_line n l thing

-- of a history
unfoldable pub answer_words : History → ℕ → Thing → List ℕ
answer_words h l thing = telling (cause_of h l thing) (reason_text (reason_of h l thing)) l thing

-- ---- a capture that is not whole. Where it has more records than were asked for, nothing is said of its end
abbrev pub cut_line : ℕ → List ℕ
cut_line n = w_cut ++ decimal n ++ w_line

abbrev pub end_note : ℕ → ℕ → List ℕ → List ℕ
end_note upto n rest = cond (ltb upto n) [] (cond (eqb (length rest) 0) [] (cut_line n))

unfoldable pub capture_note : ℕ → List ℕ → List ℕ
capture_note upto capture =
    cond (header_fits capture) (end_note upto (length (parsed (drop 8 capture)).calls) (parsed (drop 8 capture)).rest) (w_bad_header ++ w_line)

-- the text: about a label and a thing, at the end of the first records of a capture
unfoldable pub why_text : ℕ → Thing → ℕ → List ℕ → List ℕ
why_text l thing upto capture = answer_words (past_up_to upto capture) l thing ++ capture_note upto capture
