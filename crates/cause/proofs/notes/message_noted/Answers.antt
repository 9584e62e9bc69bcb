use mathlib.Core.Path.{◌≡◌, sym, ◌∙◌}
use mathlib.Core.Bool.{not, ◌||◌}
use lib.ListN.{length}
use Rattle.cv.specs.MepId.{mep_id_at, same_mep_id}
use Rattle.rules.specs.Received.{foreign}
use Rattle.cause.specs.Records.{bfd_noted}
use Rattle.cause.proofs.Channels.{your-at, cc-noted, cv-noted, fault-noted}
use borrow.Author.Rules.{rules}
use Rattle.cause.proofs.notes.message_noted.Goals as goal

pub returns-then-channel-eq-CC_CHANNEL : goal.returns-then-channel-eq-CC_CHANNEL
returns-then-channel-eq-CC_CHANNEL c = let a = c.args in
    let b = a.body.now in
    let channel = sym c.get_u16-channel.ensures ∙ c.if-channel-eq-CC_CHANNEL.true in
    let crossed = c.is_foreign-crossed.ensures ∙ (λ i. foreign a.before.settings.discriminator ((c.get_u32-your.ensures ∙ your-at b) i)) in
    c.bfd_noted.ensures ∙ (λ i. bfd_noted a.m a.number (length b) (crossed i) 2) ∙ sym (cc-noted a.before a.m a.number a.reading b channel)

pub returns-then-channel-eq-CV_CHANNEL : goal.returns-then-channel-eq-CV_CHANNEL
returns-then-channel-eq-CV_CHANNEL c = let a = c.args in
    let b = a.body.now in
    let s = a.before.settings in
    let e = c.get_u16-channel.ensures in
    let part = c.mep_id_at-id.ensures ∙ (λ i. mep_id_at (c.mep_part.ensures.which i) 0) in
    let crossed = c.cv_crosses-crossed.ensures ∙ (λ i. foreign s.discriminator ((c.get_u32-your.ensures ∙ your-at b) i) || not (same_mep_id (part i) s.expected)) in
    c.bfd_noted-then-channel-eq-CV_CHANNEL.ensures
    ∙ (λ i. bfd_noted a.m a.number (length b) (crossed i) 3)
    ∙ sym (cv-noted a.before a.m a.number a.reading b (λ p. c.if-channel-eq-CC_CHANNEL.false (e ∙ p)) (sym e ∙ c.if-channel-eq-CV_CHANNEL.true))
