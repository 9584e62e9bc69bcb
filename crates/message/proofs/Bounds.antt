-- No refusal of a message is above 25, and none of a message of the three kinds that a session takes above 8.
-- Assumes nothing.
use Prim.Native.Nat.{ℕ, ◌+◌, ◌/◌, ◌%◌, ◌≤◌}
use native.Mathlib.Omega.{arith}
use mathlib.Core.List.{List}
use lib.ListN.{length, get_or}
use lib.Dec.{ltb, eqb}
use Rattle.octets.specs.Numbers.{number_at}
use Rattle.octets.proofs.Chain.{need-most, bar-most}
use Rattle.gach.specs.Header.{cc_channel, cv_channel, fault_channel, channel_of, header_refusal, channel_refusal}
use Rattle.gach.specs.Kinds.{kind_refusal}
use Rattle.gach.proofs.Says.{header-most, channel-most}
use Rattle.bfd.specs.Packet.{version_octet, flag_octet, length_of}
use Rattle.bfd.specs.Reception.{rule_refusal, your_refusal, control_refusal, cc_refusal}
use Rattle.cv.specs.Forms.{length_fits, agi_fits, form_refusal, agi_refusal, mep_refusal}
use Rattle.cv.specs.Cv.{mep_at, cv_refusal}
use Rattle.fault.proofs.Bounds.{fault-most}
use Rattle.coordination.specs.Message.{dhc_channel, dhc_refusal}
use Rattle.coordination.proofs.Bounds.{dhc-most}
use Rattle.message.specs.Message.{three_refusal, unheard_dhc, message_refusal}

rule-most : (version flags multiplier len my : ℕ) → rule_refusal version flags multiplier len my ≤ 8
unfolding rule_refusal
rule-most version flags multiplier len my =
    need-most 8 (eqb (version / 32) 1) (omega arith)
    (need-most 8 (eqb (flags / 4 % 2) 0) (omega arith)
    (need-most 8 (eqb (flags % 2) 0) (omega arith)
    (bar-most 8 (eqb multiplier 0) (omega arith) (bar-most 8 (ltb len 24) (omega arith) (bar-most 8 (eqb my 0) (omega arith) (omega arith))))))

your-most : (state your : ℕ) → your_refusal state your ≤ 8
unfolding your_refusal
your-most state your = need-most 8 (eqb your 0) (omega arith) (need-most 8 (ltb state 2) (omega arith) (omega arith))

control-most : (own : ℕ) (m : List ℕ) → control_refusal own m ≤ 8
unfolding control_refusal
control-most own m =
    need-most 8 (eqb (channel_refusal own m) 0) (omega (arith, channel-most own m))
    (bar-most 8 (ltb (length m) 28) (omega arith) (rule-most (version_octet m) (flag_octet m) (get_or m 6 0) (length_of m) (number_at 4 m 8)))

cc-most : (m : List ℕ) → cc_refusal m ≤ 8
unfolding cc_refusal
cc-most m =
    need-most 8 (eqb (control_refusal cc_channel m) 0) (control-most cc_channel m)
    (need-most 8 (eqb (your_refusal (flag_octet m / 64) (number_at 4 m 12)) 0) (your-most (flag_octet m / 64) (number_at 4 m 12))
    (bar-most 8 (ltb (length m) (4 + length_of m)) (omega arith) (omega arith)))

form-most : (kind len : ℕ) → form_refusal kind len ≤ 8
unfolding form_refusal
form-most kind len = need-most 8 (ltb kind 3) (omega arith) (need-most 8 (length_fits kind len) (omega arith) (omega arith))

agi-most : (kind len agi : ℕ) → agi_refusal kind len agi ≤ 8
unfolding agi_refusal
agi-most kind len agi = need-most 8 (agi_fits kind len agi) (omega arith) (omega arith)

mep-most : (m : List ℕ) (at : ℕ) → mep_refusal m at ≤ 8
unfolding mep_refusal
mep-most m at =
    let kind = number_at 2 m at in
    let len = number_at 2 m (at + 2) in
    bar-most 8 (ltb (length m) (at + 4)) (omega arith)
    (need-most 8 (eqb (form_refusal kind len) 0) (form-most kind len)
    (bar-most 8 (ltb (length m) (at + 4 + len)) (omega arith) (agi-most kind len (get_or m (at + 17) 0))))

cv-most : (m : List ℕ) → cv_refusal m ≤ 8
unfolding cv_refusal
cv-most m = need-most 8 (eqb (control_refusal cv_channel m) 0) (control-most cv_channel m) (mep-most m (mep_at m))

kind-most : (m : List ℕ) → kind_refusal (header_refusal m) (channel_of m) ≤ 8
unfolding kind_refusal
kind-most m =
    need-most 8 (eqb (header_refusal m) 0) (omega (arith, header-most m))
    (bar-most 8 (eqb (channel_of m) cc_channel) (omega arith)
    (bar-most 8 (eqb (channel_of m) cv_channel) (omega arith) (bar-most 8 (eqb (channel_of m) fault_channel) (omega arith) (omega arith))))

unheard-most : (m : List ℕ) → unheard_dhc m ≤ 25
unfolding unheard_dhc
unheard-most m = need-most 25 (eqb (dhc_refusal m) 0) (dhc-most m) (omega arith)

three-most : (m : List ℕ) → three_refusal m ≤ 8
three-most m =
    need-most 8 (eqb (kind_refusal (header_refusal m) (channel_of m)) 0) (kind-most m)
    (bar-most 8 (eqb (channel_of m) cc_channel) (cc-most m) (bar-most 8 (eqb (channel_of m) cv_channel) (cv-most m) (fault-most m)))

pub message-most : (m : List ℕ) → message_refusal m ≤ 25
unfolding message_refusal
message-most m = bar-most 25 (eqb (channel_of m) dhc_channel) (unheard-most m) (omega (arith, three-most m))
