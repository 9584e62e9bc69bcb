use mathlib.Core.Path.{sym, ap, ◌∙◌}
use Prim.Native.Nat.{ℕ}
use Rattle.octets.specs.Choice.{answer}
use Rattle.octets.proofs.Found.{found_answer}
use Rattle.configuration.specs.declared.Offer.{Offer}
use Rattle.configuration.proofs.Noted.{answer-is}
use Rattle.configuration.proofs.read.read_configuration.Goals as goal

pub returns-in-Ok : goal.returns-in-Ok
returns-in-Ok c = let a = c.args in
    let s = c.read_list-s.result in
    let offer : Offer = record { discriminator = s.discriminator; period = s.period } in
    ap (λ (n : ℕ). answer n offer) c.in-Ok.ensures
    ∙ answer-is a.authentication a.octets.now s (rw c.nothing_seen.ensures at c.read_list-s.ensures)

pub returns-in-Err : goal.returns-in-Err
returns-in-Err c = let a = c.args in
    let s = c.read_list-s.result in
    let offer : Offer = record { discriminator = s.discriminator; period = s.period } in
    sym (found_answer c.in-Err.refusal offer)
    ∙ ap (λ (n : ℕ). answer n offer) c.in-Err.ensures
    ∙ answer-is a.authentication a.octets.now s (rw c.nothing_seen.ensures at c.read_list-s.ensures)
