use mathlib.Core.Path.{◌≡◌, refl}
use Rattle.scan.specs.Passing.{summary_of}
use Rattle.step.specs.Stepping.{Obeyed, opening_target, open_at}
use Rattle.feed.specs.Calling.{opening_in, seen_with}
use Rattle.feed.proofs.Calling.{open-calls}
use Rattle.feed.proofs.calls.open_call.Goals as goal

pub returns : goal.returns
returns c k =
    let a = c.args in
    let g = opening_in a.input.now a.f a.r in
    let s = seen_with (summary_of a.row.now a.f.head (opening_target g)) a.sound in
    let opened : ◌≡◌ {A = Obeyed} (record { outcome = c.open_at.result; row = c.open_at.new.row }) (open_at a.row.now a.f.head s g) = cc in
    open-calls a.row.now a.f a.r a.input.now a.sound k g refl s refl c.open_at.result c.open_at.new.row opened
