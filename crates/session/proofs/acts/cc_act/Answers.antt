use mathlib.Core.Path.{◌≡◌, sym, ap, ◌∙◌}
use Prim.Native.Nat.{ℕ}
use Rattle.octets.specs.Choice.{or_else}
use Rattle.octets.proofs.Found.{number_found}
use Rattle.session.specs.Reception.{bfd_answer}
use Rattle.session.proofs.LiveMessages.{cc_crosses, cc-refused, cc-crossed, cc-heard}
use Rattle.session.proofs.acts.cc_act.Goals as goal

pub returns-in-Err : goal.returns-in-Err
returns-in-Err c = let a = c.args in
    let r = c.in-Err.refusal in
    c.refused.ensures
    ∙ cc-refused a.s a.m.now a.reading _ (c.in-Err.ensures ∙ ap (λ (n : ℕ). or_else n (bfd_answer a.s)) c.cc_body_refusal.ensures) (number_found r)

pub returns-then-is_foreign : goal.returns-then-is_foreign
returns-then-is_foreign c = let a = c.args in
    let none = sym (c.in_default.ensures ∙ ap (λ (n : ℕ). or_else n (bfd_answer a.s)) c.cc_body_refusal.ensures) in
    let crossed : c.is_foreign.result ≡ cc_crosses a.s a.m.now =
    c.is_foreign.ensures ∙ rw c.packet_of-p.ensures in
    c.accepted.ensures ∙ rw c.crossed_live.ensures (cc-crossed a.s a.m.now a.reading none (sym crossed ∙ c.if-is_foreign.true))

pub returns : goal.returns
returns c = let a = c.args in
    let none = sym (c.in_default.ensures ∙ ap (λ (n : ℕ). or_else n (bfd_answer a.s)) c.cc_body_refusal.ensures) in
    let crossed : c.is_foreign.result ≡ cc_crosses a.s a.m.now =
    c.is_foreign.ensures ∙ rw c.packet_of-p.ensures in
    c.accepted-2.ensures ∙ rw (c.cc_live.ensures, c.packet_of-p.ensures) (cc-heard a.s a.m.now a.reading none (sym crossed ∙ c.if-is_foreign.false))
