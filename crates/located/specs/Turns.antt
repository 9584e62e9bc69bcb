-- What one read is to the octets that were read before it.
-- Assumes nothing.
use Rattle.std.specs.Prelude.{ℕ, ◌+◌, min}
use Rattle.syscall.specs.declared.Came.{Came}
use Rattle.syscall.specs.declared.Came.TheVariants.{Octets, End, Again, Failed}
use Rattle.located.specs.declared.Turn.{Turn}
use Rattle.located.specs.declared.Turn.TheVariants.{More, All, Failed as NoMore}

-- so many octets more, and not past the buffer's end; none is the end of the file. A read that failed is made again or is the last
abbrev pub turn_behind : ℕ → Came → ℕ → Turn
turn_behind size (Octets n) room = More (min (size + n) room)
turn_behind size End room = All size
turn_behind size Again room = More size
turn_behind size Failed room = NoMore
