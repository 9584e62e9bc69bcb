-- The worked questions, by computation.
-- Assumes nothing.
use mathlib.Core.Path.{refl}
use Rattle.gach.specs.Header.{header_refusal, channel_refusal}
use Rattle.gach.specs.Kinds.{kind_refusal}
use Rattle.bfd.specs.Packet.{packet_of}
use Rattle.bfd.specs.Reception.{rule_refusal, your_refusal, control_refusal, cc_refusal}
use Rattle.bfd.specs.Octets.{packet_octets}
use Rattle.cv.specs.Forms.{value_length, length_fits, agi_fits, form_refusal, agi_refusal, mep_refusal, mep_fits}
use Rattle.cv.specs.MepId.{head_octets, agi_octets, mep_octets, same_mep_id}
use Rattle.cv.specs.Cv.{cv_refusal, mep_part}
use Rattle.fault.specs.Tlvs.{repeated, right_length, bad_octet, with_tlv, tlvs_of}
use Rattle.fault.specs.Message.{range_refusal, head_refusal, refusal_with, fault_refusal, fields_with, fault_of}
use Rattle.fault.specs.Octets.{fault_octets}
use Rattle.message.specs.Message.{message_refusal, message_of}
use Rattle.rules.specs.Times.{late, past, within}
use Rattle.rules.specs.Settings.{settings_fit}
use Rattle.rules.specs.Lists.{any, only, once, without}
use Rattle.rules.specs.Received.{received_as}
use Rattle.rules.specs.Conditions.{same_if_id, same_global_id, same_key, follows_with}
use Rattle.capture.specs.Records.{header_fits, record_in, next_in, settings_in, call_of, call_in}
use Rattle.text.specs.Text.{parsed_by, parsed}
use Rattle.meaning.specs.Stories.{settings_of}
use Rattle.meaning.specs.Standing.{locked, crossing, timed_from, multiplier_of, loss_in, state, state_at, remote_diagnostic, remote_of, owed, stands, followed_last, keys_of, conditions, followed, defect, held, report, diagnostic}
use Rattle.meaning.specs.Histories.{clock_of, story, labels}
use Rattle.meaning.specs.Answers.{rival, open_number, act_said, says_of, says}
use Rattle.meaning.specs.Accounts.{size}
use Rattle.meaning.specs.Edges.{told-all}
use Rattle.cause.specs.Marks.{last_mark}
use Rattle.cause.specs.Causes.{last_ending, cause_of, reason_of}
use Rattle.cause.specs.Pasts.{past_of, past_up_to}
use Rattle.cause.specs.Worked.{answer_to, reason_to, Hold, questions, answer_of, Told, captures}

pub questions-hold : Hold questions
unfolding Hold questions answer_to reason_to cause_of reason_of last_ending last_mark size told-all says says_of act_said open_number rival clock_of story labels late past within settings_fit any only once without received_as same_if_id same_global_id same_key follows_with header_refusal channel_refusal kind_refusal packet_of rule_refusal your_refusal control_refusal cc_refusal packet_octets value_length length_fits agi_fits form_refusal agi_refusal mep_refusal mep_fits head_octets agi_octets mep_octets same_mep_id cv_refusal mep_part repeated right_length bad_octet with_tlv tlvs_of range_refusal head_refusal refusal_with fault_refusal fields_with fault_of fault_octets message_refusal message_of settings_of locked crossing timed_from multiplier_of loss_in state state_at remote_diagnostic remote_of owed stands followed_last keys_of conditions followed defect held report diagnostic
questions-hold = (refl, refl, (refl, refl, (refl, refl, (refl, refl, (refl, refl, (refl, refl, (refl, refl, (refl, refl, (refl, refl, (refl, refl, (refl, refl, (refl, refl, (refl, refl, (refl, refl, (refl, refl, (refl, refl, (refl, refl, (refl, refl, (refl, refl, (refl, refl, (refl, refl, (refl, refl, (refl, refl, (refl, refl, (refl, refl, tt)))))))))))))))))))))))))

pub captures-told : Told captures
unfolding Told captures answer_of past_of past_up_to header_fits record_in next_in settings_in call_of call_in parsed_by parsed cause_of last_mark size told-all says says_of act_said open_number rival clock_of story labels late past within settings_fit value_length length_fits agi_fits mep_fits any without settings_of locked crossing timed_from multiplier_of loss_in state state_at remote_diagnostic stands keys_of conditions only followed defect held report
captures-told = (refl, (refl, (refl, (refl, (refl, (refl, (refl, (refl, tt))))))))
