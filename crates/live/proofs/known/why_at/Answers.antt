use Rattle.std.proofs.Common.{◌≡◌, List, ap, ◌∙◌}
use lib.ListN.{get_or, set}
use lib.Seq.{set-get_or}
use Rattle.session.specs.declared.Session.{Session}
use Rattle.table.specs.declared.Head.{Head}
use Rattle.table.specs.Table.{absent}
use Rattle.scan.specs.declared.Summary.{Summary}
use Rattle.live.specs.declared.LiveQuestion.{LiveQuestion}
use Rattle.live.specs.declared.LiveStep.{LiveStep}
use Rattle.live.specs.Live.{step_of, why_at}
use Rattle.live.proofs.known.why_at.Goals as goal

-- what is told is the record's, and that is put back where it was
said : (ys : List Session) (h : Head) (z : Summary) (c : LiveQuestion) (r : Session) → r ≡ get_or ys z.place absent → (d : LiveStep) → d ≡ step_of z h c r → (r' : Session) → r' ≡ r
    → (zs : List Session) → zs ≡ set ys d.place r' → (d.outcome ≡ why_at ys h z c) × (zs ≡ ys)
unfolding why_at step_of
said ys h z c r e₁ d e₂ r' e₃ zs e₄ = (
  ap (λ (u : LiveStep). u.outcome) e₂ ∙ ap (λ (u : Session). (step_of z h c u).outcome) e₁,
  e₄ ∙ ap (λ (u : LiveStep). set ys u.place r') e₂ ∙ ap (set ys z.place) (e₃ ∙ e₁) ∙ set-get_or ys z.place absent,
)

pub returns : goal.returns
returns c =
    let a = c.args in
    said a.row.now a.head a.seen a.q _ c.record_at-r.ensures _ c.live_step-done.ensures _ c.kept_record.ensures _ c.put_record.ensures
