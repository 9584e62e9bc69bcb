use mathlib.Core.Path.{sym, ap, ◌∙◌}
use Rattle.octets.specs.Refusals.{refusal_in}
use Rattle.octets.proofs.Found.{chained}
use Rattle.coordination.specs.Message.{tlvs_refusal, refusal_with}
use Rattle.coordination.proofs.Says.{front-first}
use Rattle.coordination.proofs.read.refusal_with.Goals as goal

pub returns : goal.returns
unfolding refusal_with
returns c = let a = c.args in
    ap refusal_in c.and.ensures ∙ chained c.front_refusal.result c.tlvs_refusal.result
    ∙ rw (c.tlvs_refusal.ensures, c.front_refusal.ensures) (sym (front-first a.m.now (tlvs_refusal a.t)))
