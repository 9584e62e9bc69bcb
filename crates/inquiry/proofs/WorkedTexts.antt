-- Worked questions, from a capture's octets to the text, by computation.
-- Assumes nothing.
use Prim.Native.Nat.{ℕ}
use mathlib.Core.Path.{◌≡◌, refl}
use mathlib.Core.List.{List, [], ◌∷◌}
use Rattle.gach.specs.Header.{header_refusal, channel_refusal}
use Rattle.gach.specs.Kinds.{kind_refusal}
use Rattle.cv.specs.Forms.{value_length, length_fits, agi_fits, form_refusal, agi_refusal, mep_refusal, mep_fits}
use Rattle.fault.specs.Tlvs.{repeated, right_length, bad_octet, with_tlv, tlvs_of}
use Rattle.fault.specs.Message.{range_refusal, head_refusal, refusal_with, fault_refusal, fields_with, fault_of}
use Rattle.message.specs.Message.{message_refusal, message_of}
use Rattle.rules.specs.Times.{late, past, within}
use Rattle.rules.specs.Settings.{settings_fit}
use Rattle.rules.specs.Lists.{any, only, once, without}
use Rattle.rules.specs.Received.{received_as}
use Rattle.rules.specs.Conditions.{same_if_id, same_global_id, same_key, follows_with}
use Rattle.capture.specs.Records.{header_fits, record_in, next_in, settings_in, call_of, call_in}
use Rattle.capture.specs.Lines.{digits}
use Rattle.text.specs.Text.{parsed_by, parsed}
use Rattle.meaning.specs.Stories.{settings_of}
use Rattle.meaning.specs.Standing.{locked, crossing, timed_from, multiplier_of, loss_in, state, state_at, remote_diagnostic, remote_of, owed, stands, followed_last, keys_of, conditions, followed, defect, held, report, diagnostic}
use Rattle.meaning.specs.Histories.{clock_of, story, labels}
use Rattle.meaning.specs.Answers.{rival, open_number, act_said, says_of, says}
use Rattle.meaning.specs.Accounts.{size}
use Rattle.meaning.specs.Edges.{told-all}
use Rattle.cause.specs.declared.Thing.TheVariants.{Loss, HeldBack}
use Rattle.cause.specs.Marks.{last_mark}
use Rattle.cause.specs.Causes.{last_ending, cause_of, reason_of}
use Rattle.cause.specs.Pasts.{past_up_to}
use Rattle.inquiry.specs.Words.{condition_words, padded, telling, answer_words, capture_note, why_text}

-- open 100 at 0, `ais refresh=20 if=1/7` at 1,000,000, tick 67,500,000
abbrev example : List ℕ
example =
    84 ∷ 80 ∷ 79 ∷ 0 ∷ 1 ∷ 0 ∷ 0 ∷ 0 ∷ 0 ∷ 0 ∷ 0 ∷ 0 ∷ 0 ∷ 0 ∷ 0 ∷ 0 ∷ 0 ∷ 0 ∷ 0 ∷ 100 ∷ 0 ∷ 1 ∷ 0 ∷ 35 ∷ 0 ∷ 0 ∷ 0 ∷ 17 ∷ 0 ∷ 15 ∷ 66 ∷ 64 ∷ 0 ∷ 1 ∷ 0 ∷ 0 ∷ 0 ∷ 1 ∷ 0 ∷ 0 ∷ 0 ∷ 10 ∷ 0 ∷ 1 ∷ 0 ∷ 1 ∷ 0 ∷ 0 ∷ 0 ∷ 1 ∷ 0 ∷ 0 ∷ 0 ∷ 20 ∷ 0 ∷ 1 ∷ 0 ∷ 1 ∷ 0 ∷ 0 ∷ 0 ∷ 0 ∷ 0 ∷ 0 ∷ 15 ∷ 66 ∷ 64 ∷ 0 ∷ 0 ∷ 0 ∷ 100 ∷ 0 ∷ 5 ∷ 0 ∷ 19 ∷ 16 ∷ 0 ∷ 0 ∷ 88 ∷ 16 ∷ 1 ∷ 0 ∷ 20 ∷ 10 ∷ 1 ∷ 8 ∷ 0 ∷ 0 ∷ 0 ∷ 1 ∷ 0 ∷ 0 ∷ 0 ∷ 7 ∷ 0 ∷ 0 ∷ 0 ∷ 0 ∷ 4 ∷ 5 ∷ 247 ∷ 224 ∷ 0 ∷ 0 ∷ 0 ∷ 0 ∷ 0 ∷ 0 ∷ 0 ∷ 0 ∷ []

-- open 100 at 0, tick 5,000,000, tick 4,000,000, which is refused, report; three octets behind it
abbrev cut_example : List ℕ
cut_example =
    84 ∷ 80 ∷ 79 ∷ 0 ∷ 1 ∷ 0 ∷ 0 ∷ 0 ∷ 0 ∷ 0 ∷ 0 ∷ 0 ∷ 0 ∷ 0 ∷ 0 ∷ 0 ∷ 0 ∷ 0 ∷ 0 ∷ 100 ∷ 0 ∷ 1 ∷ 0 ∷ 35 ∷ 0 ∷ 0 ∷ 0 ∷ 17 ∷ 0 ∷ 15 ∷ 66 ∷ 64 ∷ 0 ∷ 1 ∷ 0 ∷ 0 ∷ 0 ∷ 1 ∷ 0 ∷ 0 ∷ 0 ∷ 10 ∷ 0 ∷ 1 ∷ 0 ∷ 1 ∷ 0 ∷ 0 ∷ 0 ∷ 1 ∷ 0 ∷ 0 ∷ 0 ∷ 20 ∷ 0 ∷ 1 ∷ 0 ∷ 1 ∷ 0 ∷ 0 ∷ 0 ∷ 0 ∷ 0 ∷ 0 ∷ 76 ∷ 75 ∷ 64 ∷ 0 ∷ 0 ∷ 0 ∷ 0 ∷ 0 ∷ 0 ∷ 0 ∷ 0 ∷ 0 ∷ 0 ∷ 0 ∷ 0 ∷ 0 ∷ 61 ∷ 9 ∷ 0 ∷ 0 ∷ 0 ∷ 0 ∷ 0 ∷ 0 ∷ 0 ∷ 0 ∷ 0 ∷ 0 ∷ 0 ∷ 0 ∷ 0 ∷ 0 ∷ 0 ∷ 0 ∷ 0 ∷ 0 ∷ 0 ∷ 0 ∷ 100 ∷ 0 ∷ 6 ∷ 0 ∷ 0 ∷ 0 ∷ 0 ∷ 0 ∷ []

-- `why 100 held-back`
example-text : why_text 100 HeldBack 18446744073709551615 example
    ≡ 119 ∷ 104 ∷ 105 ∷ 99 ∷ 104 ∷ 58 ∷ 32 ∷ 114 ∷ 101 ∷ 99 ∷ 111 ∷ 114 ∷ 100 ∷ 32 ∷ 50 ∷ 32 ∷ 97 ∷ 116 ∷ 32 ∷ 49 ∷ 48 ∷ 48 ∷ 48 ∷ 48 ∷ 48 ∷ 48 ∷ 44 ∷ 32 ∷ 65 ∷ 73 ∷ 83 ∷ 44 ∷ 32 ∷ 114 ∷ 101 ∷ 102 ∷ 114 ∷ 101 ∷ 115 ∷ 104 ∷ 32 ∷ 50 ∷ 48 ∷ 32 ∷ 115 ∷ 44 ∷ 32 ∷ 105 ∷ 110 ∷ 116 ∷ 101 ∷ 114 ∷ 102 ∷ 97 ∷ 99 ∷ 101 ∷ 32 ∷ 49 ∷ 47 ∷ 55 ∷ 10 ∷ 104 ∷ 111 ∷ 119 ∷ 32 ∷ 111 ∷ 108 ∷ 100 ∷ 58 ∷ 32 ∷ 54 ∷ 54 ∷ 46 ∷ 53 ∷ 48 ∷ 48 ∷ 48 ∷ 48 ∷ 48 ∷ 32 ∷ 115 ∷ 10 ∷ 101 ∷ 110 ∷ 100 ∷ 115 ∷ 58 ∷ 32 ∷ 97 ∷ 116 ∷ 32 ∷ 55 ∷ 49 ∷ 48 ∷ 48 ∷ 48 ∷ 48 ∷ 48 ∷ 48 ∷ 44 ∷ 32 ∷ 111 ∷ 114 ∷ 32 ∷ 119 ∷ 104 ∷ 101 ∷ 110 ∷ 32 ∷ 116 ∷ 104 ∷ 101 ∷ 32 ∷ 108 ∷ 111 ∷ 115 ∷ 115 ∷ 32 ∷ 101 ∷ 110 ∷ 100 ∷ 115 ∷ 10 ∷ []
unfolding why_text answer_words capture_note telling condition_words padded digits past_up_to header_fits record_in next_in settings_in call_of call_in parsed_by parsed cause_of reason_of last_ending last_mark size told-all says says_of act_said open_number rival clock_of story labels late past within settings_fit any only once without received_as same_if_id same_global_id same_key follows_with header_refusal channel_refusal kind_refusal value_length length_fits agi_fits form_refusal agi_refusal mep_refusal mep_fits repeated right_length bad_octet with_tlv tlvs_of range_refusal head_refusal refusal_with fault_refusal fields_with fault_of message_refusal message_of settings_of locked crossing timed_from multiplier_of loss_in state state_at remote_diagnostic remote_of owed stands followed_last keys_of conditions followed defect held report diagnostic
example-text = refl

-- `why 100 loss`: the cut is told
cut-text : why_text 100 Loss 18446744073709551615 cut_example
    ≡ 119 ∷ 104 ∷ 105 ∷ 99 ∷ 104 ∷ 58 ∷ 32 ∷ 114 ∷ 101 ∷ 99 ∷ 111 ∷ 114 ∷ 100 ∷ 32 ∷ 49 ∷ 32 ∷ 97 ∷ 116 ∷ 32 ∷ 48 ∷ 44 ∷ 32 ∷ 111 ∷ 112 ∷ 101 ∷ 110 ∷ 105 ∷ 110 ∷ 103 ∷ 10 ∷ 104 ∷ 111 ∷ 119 ∷ 32 ∷ 111 ∷ 108 ∷ 100 ∷ 58 ∷ 32 ∷ 53 ∷ 46 ∷ 48 ∷ 48 ∷ 48 ∷ 48 ∷ 48 ∷ 48 ∷ 32 ∷ 115 ∷ 10 ∷ 101 ∷ 110 ∷ 100 ∷ 115 ∷ 58 ∷ 32 ∷ 97 ∷ 116 ∷ 32 ∷ 116 ∷ 104 ∷ 101 ∷ 32 ∷ 110 ∷ 101 ∷ 120 ∷ 116 ∷ 32 ∷ 67 ∷ 67 ∷ 32 ∷ 111 ∷ 114 ∷ 32 ∷ 67 ∷ 86 ∷ 32 ∷ 104 ∷ 101 ∷ 97 ∷ 114 ∷ 100 ∷ 44 ∷ 32 ∷ 97 ∷ 32 ∷ 108 ∷ 111 ∷ 99 ∷ 107 ∷ 32 ∷ 111 ∷ 114 ∷ 32 ∷ 97 ∷ 32 ∷ 99 ∷ 108 ∷ 111 ∷ 115 ∷ 101 ∷ 59 ∷ 32 ∷ 115 ∷ 116 ∷ 111 ∷ 111 ∷ 100 ∷ 32 ∷ 102 ∷ 114 ∷ 111 ∷ 109 ∷ 32 ∷ 51 ∷ 48 ∷ 48 ∷ 48 ∷ 48 ∷ 48 ∷ 49 ∷ 10 ∷ 99 ∷ 97 ∷ 112 ∷ 116 ∷ 117 ∷ 114 ∷ 101 ∷ 58 ∷ 32 ∷ 99 ∷ 117 ∷ 116 ∷ 32 ∷ 98 ∷ 101 ∷ 104 ∷ 105 ∷ 110 ∷ 100 ∷ 32 ∷ 114 ∷ 101 ∷ 99 ∷ 111 ∷ 114 ∷ 100 ∷ 32 ∷ 52 ∷ 10 ∷ []
unfolding why_text answer_words capture_note telling condition_words padded digits past_up_to header_fits record_in next_in settings_in call_of call_in parsed_by parsed cause_of reason_of last_ending last_mark size told-all says says_of act_said open_number rival clock_of story labels late past within settings_fit any only once without received_as same_if_id same_global_id same_key follows_with header_refusal channel_refusal kind_refusal value_length length_fits agi_fits form_refusal agi_refusal mep_refusal mep_fits repeated right_length bad_octet with_tlv tlvs_of range_refusal head_refusal refusal_with fault_refusal fields_with fault_of message_refusal message_of settings_of locked crossing timed_from multiplier_of loss_in state state_at remote_diagnostic remote_of owed stands followed_last keys_of conditions followed defect held report diagnostic
cut-text = refl

-- `why 100 loss upto=1`: more records are there, and nothing is said of the cut
upto-text : why_text 100 Loss 1 cut_example
    ≡ 114 ∷ 101 ∷ 102 ∷ 117 ∷ 115 ∷ 101 ∷ 100 ∷ 32 ∷ 49 ∷ 53 ∷ 58 ∷ 32 ∷ 110 ∷ 111 ∷ 32 ∷ 108 ∷ 111 ∷ 115 ∷ 115 ∷ 32 ∷ 115 ∷ 116 ∷ 97 ∷ 110 ∷ 100 ∷ 115 ∷ 10 ∷ []
unfolding why_text answer_words capture_note telling condition_words padded digits past_up_to header_fits record_in next_in settings_in call_of call_in parsed_by parsed cause_of reason_of last_ending last_mark size told-all says says_of act_said open_number rival clock_of story labels late past within settings_fit any only once without received_as same_if_id same_global_id same_key follows_with header_refusal channel_refusal kind_refusal value_length length_fits agi_fits form_refusal agi_refusal mep_refusal mep_fits repeated right_length bad_octet with_tlv tlvs_of range_refusal head_refusal refusal_with fault_refusal fields_with fault_of message_refusal message_of settings_of locked crossing timed_from multiplier_of loss_in state state_at remote_diagnostic remote_of owed stands followed_last keys_of conditions followed defect held report diagnostic
upto-text = refl

-- a header that is not whole
header-text : why_text 100 Loss 0 (84 ∷ 80 ∷ 79 ∷ [])
    ≡ 114 ∷ 101 ∷ 102 ∷ 117 ∷ 115 ∷ 101 ∷ 100 ∷ 32 ∷ 50 ∷ 58 ∷ 32 ∷ 108 ∷ 97 ∷ 98 ∷ 101 ∷ 108 ∷ 32 ∷ 49 ∷ 48 ∷ 48 ∷ 32 ∷ 105 ∷ 115 ∷ 32 ∷ 110 ∷ 111 ∷ 116 ∷ 32 ∷ 111 ∷ 112 ∷ 101 ∷ 110 ∷ 10 ∷ 99 ∷ 97 ∷ 112 ∷ 116 ∷ 117 ∷ 114 ∷ 101 ∷ 58 ∷ 32 ∷ 98 ∷ 97 ∷ 100 ∷ 32 ∷ 104 ∷ 101 ∷ 97 ∷ 100 ∷ 101 ∷ 114 ∷ 10 ∷ []
unfolding why_text answer_words capture_note telling condition_words padded digits past_up_to header_fits record_in next_in settings_in call_of call_in parsed_by parsed cause_of reason_of last_ending last_mark size told-all says says_of act_said open_number rival clock_of story labels late past within settings_fit any only once without received_as same_if_id same_global_id same_key follows_with header_refusal channel_refusal kind_refusal value_length length_fits agi_fits form_refusal agi_refusal mep_refusal mep_fits repeated right_length bad_octet with_tlv tlvs_of range_refusal head_refusal refusal_with fault_refusal fields_with fault_of message_refusal message_of settings_of locked crossing timed_from multiplier_of loss_in state state_at remote_diagnostic remote_of owed stands followed_last keys_of conditions followed defect held report diagnostic
header-text = refl
