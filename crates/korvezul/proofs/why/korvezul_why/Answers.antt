-- `korvezul::korvezul_why`: what is told from the scanned row is what the table tells.
use Rattle.std.proofs.Common.{◌≡◌, ap, ◌∙◌, List}
use Rattle.session.specs.declared.Session.{Session}
use Rattle.table.specs.declared.Head.{Head}
use Rattle.scan.specs.declared.Target.{Target}
use Rattle.scan.specs.declared.Summary.{Summary}
use Rattle.scan.specs.Passing.{summary_of}
use Rattle.step.specs.Requests.{aimed_at}
use Rattle.step.specs.Stepping.{table_of}
use Rattle.live.specs.declared.LiveQuestion.{LiveQuestion}
use Rattle.live.specs.declared.LiveCause.{LiveCause}
use Rattle.live.specs.Live.{asked_label, asking, why_at}
use Rattle.live.proofs.LiveTable.{asked-live}
use Rattle.korvezul.proofs.why.korvezul_why.Goals as goal

said : (ys : List Session) (h : Head) (c : LiveQuestion) (t : Target) → t ≡ aimed_at (asked_label c) → (z : Summary) → z ≡ summary_of ys h t → (u : LiveCause) (zs : List Session)
    → (u ≡ why_at ys h z c) × (zs ≡ ys) → record { cause = u; table = table_of zs u.head } ≡ asking (table_of ys h) c
said ys h c t e₁ z e₂ u zs e₃ = asked-live ys h c u zs (e₃.0 ∙ ap (λ (x : Summary). why_at ys h x c) (e₂ ∙ ap (summary_of ys h) e₁)) e₃.1

pub returns : goal.returns
returns c = said c.args.row.now c.args.head.now c.args.q _ c.live_target.ensures _ c.scan_row-s.ensures _ _ c.why_at-o.ensures
