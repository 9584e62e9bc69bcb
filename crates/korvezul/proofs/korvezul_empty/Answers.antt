-- `korvezul::korvezul_empty`: by the two cases of the row's length.
use Rattle.std.proofs.Common.{◌≡◌, ap, ◌∙◌, List, length, eqb}
use Rattle.rules.proofs.Bools.{split}
use Rattle.session.specs.declared.Session.{Session}
use Rattle.table.specs.declared.Head.{Head}
use Rattle.table.specs.Table.{emptied}
use Rattle.step.specs.Stepping.{table_of}
use Rattle.korvezul.specs.declared.Begun.{Begun}
use Rattle.korvezul.specs.Calling.{Emptied, begun_of, emptying}
use Rattle.korvezul.proofs.korvezul_empty.Goals as goal

emptied-is : (ys : List Session) (h : Head) → record { number = (begun_of (length ys) h).answer; table = table_of ys (begun_of (length ys) h).head } ≡ emptying ys h
unfolding emptied
emptied-is ys h = split (eqb (length ys) 64) (λ z. rw z) (λ z. rw z)

said : (ys : List Session) (h : Head) (c : Begun) → c ≡ begun_of (length ys) h → record { number = c.answer; table = table_of ys c.head } ≡ emptying ys h
said ys h c e = ap {B = Emptied} (λ (u : Begun). record { number = u.answer; table = table_of ys u.head }) e ∙ emptied-is ys h

pub returns : goal.returns
returns c = said c.args.row.now c.args.head.now _ c.first_table-b.ensures
