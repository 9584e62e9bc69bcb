use Rattle.bfd.specs.Octets.{packet_octets}
use Rattle.cv.specs.MepId.{head_octets, agi_octets}
use Rattle.cv.proofs.Octets.{count_fits, front_of_lem}
use Rattle.cv.proofs.write.write_cv.Goals as goal

pub shared_ref_as_front-write_unless_refused : goal.shared_ref_as_front-write_unless_refused
unfolding packet_octets head_octets agi_octets
shared_ref_as_front-write_unless_refused c = let a = c.args in rw c.cv_octets-o.ensures (count_fits a.p a.id)

pub returns : goal.returns
returns c = let a = c.args in
    rw (c.cv_field_refusal.ensures, front_of_lem a.p a.id c.cv_octets-o.result c.cv_octets-o.ensures) at c.write_unless_refused.ensures
