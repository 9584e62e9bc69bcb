use mathlib.Core.Path.{◌∙◌}
use borrow.Author.Tests.{eq-eqb, ne_eqb}
use Rattle.fault.specs.Tlvs.{with_tlv}
use borrow.Author.Rules.{rules}
use Rattle.fault.proofs.tlv.step_tlv.Goals as goal

pub returns-then-octet-ne0 : goal.returns-then-octet-ne0
unfolding with_tlv
returns-then-octet-ne0 c = c.end_with.ensures ∙ rw (← c.get_u8-kind.ensures, ← c.get_u8-size.ensures, ← c.bad_octet-octet.ensures, ne_eqb _ _ c.if-octet-ne0.true)

pub returns-then-kind-eq1 : goal.returns-then-kind-eq1
unfolding with_tlv
returns-then-kind-eq1 c = c.with_if.ensures ∙ rw (c.get_u32-then-kind-eq1.ensures, c.get_u32.ensures, c.pass_tlv-next.ensures, ← c.get_u8-kind.ensures, ← c.get_u8-size.ensures, ← c.bad_octet-octet.ensures, c.if-octet-ne0.false, eq-eqb _ _ c.if-kind-eq1.true)

pub returns-then-kind-eq2 : goal.returns-then-kind-eq2
unfolding with_tlv
returns-then-kind-eq2 c = c.with_global.ensures ∙ rw (c.get_u32-then-kind-eq2.ensures, c.pass_tlv-next.ensures, ← c.get_u8-kind.ensures, ← c.get_u8-size.ensures, ← c.bad_octet-octet.ensures, c.if-octet-ne0.false, ne_eqb _ _ c.if-kind-eq1.false, eq-eqb _ _ c.if-kind-eq2.true)

pub returns : goal.returns
unfolding with_tlv
returns c = c.pass_tlv-next.ensures ∙ rw (← c.get_u8-kind.ensures, ← c.get_u8-size.ensures, ← c.bad_octet-octet.ensures, c.if-octet-ne0.false, ne_eqb _ _ c.if-kind-eq1.false, ne_eqb _ _ c.if-kind-eq2.false)
