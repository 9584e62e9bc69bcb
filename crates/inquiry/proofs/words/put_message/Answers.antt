use native.Mathlib.Omega.{arith}
use mathlib.Core.Path.{◌∙◌}
use Rattle.capture.specs.Typing.{Put}
use Rattle.capture.proofs.Typing.{then}
use Rattle.cause.proofs.Channels.{your-at}
use Rattle.inquiry.proofs.Putting.{cc-put, cv-put}
use Rattle.inquiry.proofs.words.put_message.Goals as goal

pub returns-in-34 : goal.returns-in-34
returns-in-34 c = let s = c.args in
    let p : Put = record { buffer = s.out.now; at = s.at } in
    cc-put p s.m.now c.get_u16.ensures (c.get_u32-your.ensures ∙ your-at s.m.now) c.in-34.is (then p _ _ c.put_words-a.ensures c.put_decimal.ensures)

pub returns-in-35 : goal.returns-in-35
returns-in-35 c = let s = c.args in
    let p : Put = record { buffer = s.out.now; at = s.at } in
    cv-put p s.m.now c.get_u16.ensures (c.get_u32-your.ensures ∙ your-at s.m.now) (λ e. absurd (omega arith)) c.in-35.is c.mep_id_at.ensures c.mep_part.ensures.which c.put_cv.ensures
