use mathlib.Core.Path.{◌≡◌, sym, ◌∙◌}
use borrow.Author.Rules.{rules}
use Rattle.rules.specs.Received.{foreign}
use Rattle.interval.specs.Records.{cc_event}
use Rattle.interval.proofs.Recorded.{your-at, cc-heard, other-heard}
use Rattle.interval.proofs.message_event.Goals as goal

pub returns-then-channel-eq-CC_CHANNEL : goal.returns-then-channel-eq-CC_CHANNEL
returns-then-channel-eq-CC_CHANNEL c = let a = c.args in
    let m = a.body.now in
    let channel = sym c.get_u16-channel.ensures ∙ c.if-channel-eq-CC_CHANNEL.true in
    let crossed = c.is_foreign-crossed.ensures ∙ (λ i. foreign a.before.settings.discriminator ((c.get_u32-your.ensures ∙ your-at m) i)) in
    c.cc_event.ensures ∙ (λ i. cc_event (crossed i) a.reading a.before.settings.period) ∙ sym (cc-heard a.before a.reading m channel)

pub returns : goal.returns
returns c = let a = c.args in
    sym (other-heard a.before a.reading a.body.now (λ p. c.if-channel-eq-CC_CHANNEL.false (c.get_u16-channel.ensures ∙ p)))
