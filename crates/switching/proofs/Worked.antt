-- The worked groups, by computation.
-- Assumes nothing.
use mathlib.Core.Path.{refl}
use Rattle.gach.specs.Header.{header_refusal, channel_refusal}
use Rattle.gach.specs.Kinds.{kind_refusal}
use Rattle.bfd.specs.Packet.{packet_of}
use Rattle.bfd.specs.Reception.{rule_refusal, your_refusal, control_refusal, cc_refusal}
use Rattle.bfd.specs.Octets.{packet_octets}
use Rattle.cv.specs.Forms.{value_length, length_fits, agi_fits, mep_fits}
use Rattle.coordination.specs.Tlvs.{repeated, wrong_length, wrong_tlv, tlvs_of}
use Rattle.coordination.specs.Message.{tlvs_refusal, refusal_with, dhc_refusal, status_at, switching_at, dhc_of}
use Rattle.coordination.specs.Octets.{dhc_octets}
use Rattle.message.specs.Message.{message_refusal, message_of}
use Rattle.rules.specs.Times.{late, past, within}
use Rattle.rules.specs.Settings.{settings_fit}
use Rattle.rules.specs.Lists.{any, only, without}
use Rattle.rules.specs.Received.{received_as}
use Rattle.homing.specs.Worked.{Hold}
use Rattle.meaning.specs.Stories.{settings_of}
use Rattle.meaning.specs.Standing.{locked, crossing, timed_from, multiplier_of, loss_in, state, state_at, stands, followed_last, keys_of, followed, defect, held}
use Rattle.meaning.specs.Histories.{clock_of, story, labels}
use Rattle.meaning.specs.Answers.{rival, open_number, act_said, says_of, says}
use Rattle.switching.specs.Groups.{plain, group_of, group_among, tells, sets_to, names_to, coordinates_to, says_to}
use Rattle.switching.specs.Worked.{answered_all, told_after, number_after, courses, numbers}

pub courses-hold : Hold told_after courses
unfolding Hold courses told_after answered_all plain group_of group_among tells sets_to names_to coordinates_to says_to says says_of act_said open_number rival clock_of story labels locked crossing timed_from multiplier_of loss_in state state_at stands followed_last keys_of followed defect held settings_of received_as any only without settings_fit late past within message_refusal message_of dhc_octets tlvs_refusal refusal_with dhc_refusal status_at switching_at dhc_of repeated wrong_length wrong_tlv tlvs_of value_length length_fits agi_fits mep_fits packet_octets rule_refusal your_refusal control_refusal cc_refusal packet_of kind_refusal header_refusal channel_refusal
courses-hold = (refl, (refl, (refl, (refl, (refl, (refl, (refl, (refl, (refl, (refl, (refl, (refl, (refl, (refl, (refl, (refl, (refl, (refl, (refl, (refl, (refl, (refl, tt))))))))))))))))))))))

pub numbers-hold : Hold number_after numbers
unfolding Hold numbers number_after answered_all plain group_of group_among sets_to names_to coordinates_to says_to says says_of act_said open_number rival clock_of story labels locked crossing timed_from multiplier_of loss_in state state_at stands followed_last keys_of followed defect held settings_of received_as any only without settings_fit late past within dhc_octets tlvs_refusal refusal_with dhc_refusal status_at switching_at dhc_of repeated wrong_length wrong_tlv tlvs_of value_length length_fits agi_fits mep_fits header_refusal channel_refusal
numbers-hold = (refl, (refl, (refl, (refl, (refl, (refl, (refl, (refl, (refl, (refl, (refl, (refl, (refl, (refl, (refl, (refl, (refl, tt)))))))))))))))))
