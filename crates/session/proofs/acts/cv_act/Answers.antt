use mathlib.Core.Path.{◌≡◌, refl, sym, ap, ◌∙◌}
use Prim.Native.Nat.{ℕ}
use Rattle.bfd.specs.Packet.{packet_of}
use Rattle.octets.specs.Choice.{or_else}
use Rattle.octets.proofs.Found.{number_found}
use Rattle.session.specs.Reception.{bfd_answer}
use Rattle.session.proofs.LiveMessages.{cv_crosses, cv-refused, cv-crossed, cv-heard}
use Rattle.session.proofs.acts.cv_act.Goals as goal

pub returns-in-Err : goal.returns-in-Err
returns-in-Err c = let a = c.args in
    let r = c.in-Err.refusal in
    c.refused.ensures
    ∙ cv-refused a.s a.m.now a.reading _ (c.in-Err.ensures ∙ ap (λ (n : ℕ). or_else n (bfd_answer a.s)) c.cv_body_refusal.ensures) (number_found r)

pub returns-then-cv_crosses : goal.returns-then-cv_crosses
returns-then-cv_crosses c = let a = c.args in
    let none = sym (c.in_default.ensures ∙ ap (λ (n : ℕ). or_else n (bfd_answer a.s)) c.cv_body_refusal.ensures) in
    let crossed : c.cv_crosses.result ≡ cv_crosses a.s a.m.now =
    c.cv_crosses.ensures
    ∙ rw (c.source_of.ensures, c.get_u32.ensures) (unfold packet_of in refl) in
    c.accepted.ensures ∙ rw c.crossed_live.ensures (cv-crossed a.s a.m.now a.reading none (sym crossed ∙ c.if-cv_crosses.true))

pub returns : goal.returns
returns c = let a = c.args in
    let none = sym (c.in_default.ensures ∙ ap (λ (n : ℕ). or_else n (bfd_answer a.s)) c.cv_body_refusal.ensures) in
    let crossed : c.cv_crosses.result ≡ cv_crosses a.s a.m.now =
    c.cv_crosses.ensures
    ∙ rw (c.source_of.ensures, c.get_u32.ensures) (unfold packet_of in refl) in
    c.accepted-2.ensures ∙ rw c.cv_live.ensures (cv-heard a.s a.m.now a.reading none (sym crossed ∙ c.if-cv_crosses.false))
