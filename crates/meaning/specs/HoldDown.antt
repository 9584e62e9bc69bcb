-- A coordinated session under a crossing or under a condition that it follows is DOWN or ADMIN DOWN: of a story, and of what is answered after every
-- list of calls, refused ones included, from any row of 64 made empty.
-- Assumes nothing.
use Rattle.std.specs.Prelude.{ℕ, ◌≤◌, ◌≡◌, true, false, List, ◌⊎◌}
use Rattle.std.proofs.Math.Option.{Option, none, some}
use Rattle.bfd.specs.Packet.{packet_of}
use Rattle.rules.specs.declared.Mode.TheVariants.{Coordinated}
use Rattle.rules.specs.States.{is_coming_up}
use Rattle.rules.specs.Calls.{Act, WriteCc, WriteCv, Call, On, Said, is_accepted}
use Rattle.session.specs.declared.Session.{Session}
use Rattle.table.specs.Table.{answer}
use Rattle.meaning.specs.Stories.{Story, opened, lock, unlock, got, wrote_cc}
use Rattle.meaning.specs.Standing.{mode, held, state_at}
use Rattle.meaning.specs.Histories.{clock_of, story}
use Rattle.meaning.specs.Worlds.{past_of, table_after}
use Rattle.meaning.specs.Demand.{report_on}

-- the clock `now` is below no reading of the story
unfoldable pub ReadBy : ℕ → Story → Type 0
ReadBy now (opened g t) = t ≤ now
ReadBy now (lock s t) = (t ≤ now) × ReadBy now s
ReadBy now (unlock s t) = (t ≤ now) × ReadBy now s
ReadBy now (got s m t) = (t ≤ now) × ReadBy now s
ReadBy now (wrote_cc s) = ReadBy now s

-- the session of a label, where there is one, is coordinated
abbrev pub IsCoordinated : Option Story → Type 0
IsCoordinated none = Unit {0}
IsCoordinated (some s) = mode s ≡ Coordinated

-- held down is neither INIT nor UP
abbrev pub StoryDown : ℕ → Story → Type 0
StoryDown now s = ReadBy now s → held now s ≡ true → is_coming_up (state_at now s) ≡ false

-- octets of a CC or CV: with the diagnostic of a crossing or of a followed condition goes state 0 or 1
abbrev pub WrittenDown : List ℕ → Type 0
WrittenDown octets = ((packet_of octets).diagnostic ≡ 9) ⊎ ((packet_of octets).diagnostic ≡ 5) → (packet_of octets).state ≤ 1

pub record HeldDown (row : List Session) (cs : List Call) : Type 0 where
  -- of every open label, at the clock after the list and at every later one
  pub told : (l now : ℕ) (s : Story) → story l (past_of row cs) ≡ some s → clock_of (past_of row cs) ≤ now → held now s ≡ true
      → is_coming_up (state_at now s) ≡ false
  -- a report on a coordinated session that shows a crossing shows state 0 or 1
  pub reported : (l : ℕ) → IsCoordinated (story l (past_of row cs)) → (report_on (table_after row cs) l).crossing ≡ 1 → (report_on (table_after row cs) l).state ≤ 1
  -- and so does every accepted CC and CV that is written
  pub cc : (l : ℕ) (b : List ℕ) → IsCoordinated (story l (past_of row cs)) → is_accepted (answer (table_after row cs) (On l (WriteCc b))) ≡ true
      → WrittenDown (answer (table_after row cs) (On l (WriteCc b))).buffer
  pub cv : (l : ℕ) (b : List ℕ) → IsCoordinated (story l (past_of row cs)) → is_accepted (answer (table_after row cs) (On l (WriteCv b))) ≡ true
      → WrittenDown (answer (table_after row cs) (On l (WriteCv b))).buffer
