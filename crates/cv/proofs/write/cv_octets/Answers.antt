use Rattle.bfd.specs.Octets.{packet_octets}
use Rattle.cv.specs.MepId.{head_octets, agi_octets}
use Rattle.cv.proofs.Forms.{length-within}
use native.Mathlib.Omega.{arith}
use Rattle.cv.proofs.write.cv_octets.Goals as goal

pub overflow_add-result : goal.overflow_add-result
overflow_add-result c = let id = c.args.id in omega (arith, c.mep_size.ensures, (length-within id.kind id.size).1)

pub returns : goal.returns
unfolding head_octets agi_octets packet_octets
returns c = rw (c.mep_size.ensures, c.put_octets-2.ensures, c.put_octets.ensures, c.mep_octets.ensures, c.packet_octets.ensures)
