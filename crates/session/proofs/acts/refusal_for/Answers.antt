use mathlib.Core.Path.{ap, ◌∙◌}
use Rattle.octets.specs.Refusals.{refusal_in}
use Rattle.octets.proofs.Found.{chained}
use Rattle.session.proofs.acts.refusal_for.Goals as goal

pub returns : goal.returns
returns c = ap refusal_in c.and.ensures ∙ chained c.args.read c.bfd_refusal.result ∙ rw c.bfd_refusal.ensures
