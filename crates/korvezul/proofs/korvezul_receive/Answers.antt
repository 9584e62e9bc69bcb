-- `korvezul::korvezul_receive`: a DHC message is a command on groups, any other message a call as ever.
use Rattle.std.proofs.Common.{◌≡◌, ℕ, true, false, sym, ap, ◌∙◌, List}
use Rattle.rules.specs.Calls.{On, Receive}
use Rattle.grouping.specs.Commands.{Ordinary, Coordinate, is_dhc, received_on}
use Rattle.step.specs.Stepping.{table_of}
use Rattle.korvezul.specs.Calling.{meant_by}
use Rattle.korvezul.specs.Commanding.{commanded}
use Rattle.korvezul.proofs.OneCommand.{ordinary-command}
use Rattle.korvezul.proofs.korvezul_receive.Goals as goal

-- what a message is by its header
dhc-is : (l : ℕ) (m : List ℕ) (u : ℕ) → is_dhc m ≡ true → Coordinate l m u ≡ received_on l m u
dhc-is l m u e = rw e

other-is : (l : ℕ) (m : List ℕ) (u : ℕ) → is_dhc m ≡ false → Ordinary (On l (Receive m u)) ≡ received_on l m u
other-is l m u e = rw e

pub returns-then-is_dhc : goal.returns-then-is_dhc
returns-then-is_dhc c =
    let l = meant_by c.args.circuit in
    let t = table_of c.args.row.now c.args.head.now in
    c.coordinate_lent.ensures ∙ ap (commanded t) (dhc-is l c.args.message.now c.args.reading (sym c.is_dhc.ensures ∙ c.if-is_dhc.true))

pub returns : goal.returns
returns c =
    let l = meant_by c.args.circuit in
    let t = table_of c.args.row.now c.args.head.now in
    let ms = c.args.message.now in
    let u = c.args.reading in
    c.receive_lent.ensures ∙ sym (ordinary-command t (On l (Receive ms u))) ∙ ap (commanded t) (other-is l ms u (sym c.is_dhc.ensures ∙ c.if-is_dhc.false))
