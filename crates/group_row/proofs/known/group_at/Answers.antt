-- The four calls come to `group_at`.
use mathlib.Core.Path.{◌≡◌, ap, ◌∙◌}
use mathlib.Core.List.{List}
use lib.ListN.{get_or, set}
use Rattle.session.specs.declared.Session.{Session}
use Rattle.group_step.specs.declared.GroupSeen.{GroupSeen}
use Rattle.group_step.specs.declared.GroupOutcome.{GroupOutcome}
use Rattle.group_step.specs.declared.GroupRequest.{GroupRequest}
use Rattle.group_step.specs.declared.GroupStepped.{GroupStepped}
use Rattle.group_step.specs.GroupStepping.{GroupObeyed, acted_of, group_at, step_of}
use Rattle.table.specs.declared.Head.{Head}
use Rattle.table.specs.Table.{absent}
use Rattle.group_row.proofs.known.group_at.Goals as goal

abbrev obeyed-as : GroupOutcome → List Session → GroupObeyed
obeyed-as out zs = record { outcome = out; row = zs }

said : (ys : List Session) (h : Head) (z : GroupSeen) (c : GroupRequest) (r : Session) → r ≡ get_or ys z.place absent → (d : GroupStepped) → d ≡ step_of z h c r → (r' : Session) → r' ≡ acted_of c r
    → (zs : List Session) → zs ≡ set ys d.place r' → obeyed-as d.outcome zs ≡ group_at ys h z c
unfolding group_at
said ys h z c r e₁ d e₂ r' e₃ zs e₄ =
    ap (λ (us : List Session). obeyed-as d.outcome us) e₄
    ∙ ap (λ (u : Session). obeyed-as d.outcome (set ys d.place u)) e₃
    ∙ ap (λ (u : GroupStepped). obeyed-as u.outcome (set ys u.place (acted_of c r))) e₂
    ∙ ap (λ (u : Session). obeyed-as (step_of z h c u).outcome (set ys (step_of z h c u).place (acted_of c u))) e₁

pub returns : goal.returns
returns c =
    said c.args.row.now c.args.head c.args.seen c.args.q c.record_at-r.result c.record_at-r.ensures c.group_step-done.result c.group_step-done.ensures c.group_acted.result c.group_acted.ensures c.put_record.new.row c.put_record.ensures
