-- The worked examples of the two parties, and two runs that are one for party 0.
-- Assumes nothing.
use mathlib.Core.Path.{◌≡◌, refl, sym, ◌∙◌}
use mathlib.Core.List.{List, [], ◌∷◌}
use lib.ListN.{length}
use Rattle.cv.specs.Forms.{mep_fits}
use Rattle.rules.specs.Times.{late, past, within}
use Rattle.rules.specs.Settings.{settings_fit}
use Rattle.rules.specs.Lists.{any, only, once, without}
use Rattle.rules.specs.Calls.{Close, ReportOn, Tick, On}
use Rattle.session.specs.declared.Session.{Session}
use Rattle.table.specs.Table.{emptied}
use Rattle.meaning.specs.Stories.{settings_of}
use Rattle.meaning.specs.Standing.{locked, crossing, timed_from, multiplier_of, loss_in, state, state_at, remote_diagnostic, remote_of, owed, stands, followed_last, keys_of, conditions, followed, defect, held, report}
use Rattle.meaning.specs.Histories.{clock_of, story, labels}
use Rattle.meaning.specs.Answers.{rival, open_number, act_said, says_of, says}
use Rattle.meaning.specs.Worlds.{step, play, begin, table_after}
use Rattle.meaning.specs.Edges.{told-all, last_said, Hold}
use Rattle.meaning.specs.Parties.{OpenFor, OnFor, turns, questions}
use Rattle.meaning.specs.PartyEdges.{circuit, filled, all_taken, alone, amid, ours, theirs, two_parties}
use Rattle.meaning.proofs.Orders.{clock-after}
use Rattle.meaning.proofs.Isolation.{isolation}

pub two-parties : Hold two_parties
unfolding Hold two_parties filled all_taken without last_said told-all says says_of act_said open_number rival clock_of story labels late past within settings_fit any only once mep_fits settings_of locked crossing timed_from multiplier_of loss_in state state_at remote_diagnostic remote_of owed stands followed_last keys_of conditions followed defect held report
two-parties = (refl, (refl, (refl, (refl, (refl, (refl, (refl, (refl, (refl, (refl, (refl, (refl, (refl, (refl, (refl, (refl, (refl, (refl, (refl, (refl, tt))))))))))))))))))))

-- the premise of isolation, met by two runs that are not one: the clock is 0 before each call of party 0 in both
pub same_asked : (row other : List Session) → length row ≡ 64 → length other ≡ 64
    → questions (turns 0 (emptied row) alone) ≡ questions (turns 0 (emptied other) amid)
unfolding turns questions table_after play step begin told-all says says_of act_said open_number rival clock_of story labels late settings_fit any only mep_fits settings_of
same_asked row other e f =
    let opened = clock-after row e [] ∙ sym (clock-after other f (theirs ∷ [])) in
    let reported = clock-after row e (ours ∷ []) ∙ sym (clock-after other f (theirs ∷ ours ∷ On 0 (Close 0) ∷ Tick 0 ∷ [])) in
    let closed =
    clock-after row e (ours ∷ On 100 ReportOn ∷ []) ∙ sym (clock-after other f (theirs ∷ ours ∷ On 0 (Close 0) ∷ Tick 0 ∷ On 100 ReportOn ∷ [])) in
    λ i.
    record { before = opened i; call = OpenFor 0 (circuit 100 17) 0 }
    ∷ record { before = reported i; call = OnFor 0 100 ReportOn }
    ∷ record { before = closed i; call = OnFor 0 500000 (Close 0) }
    ∷ []

pub same-told : (row other : List Session) → length row ≡ 64 → length other ≡ 64 → turns 0 (emptied row) alone ≡ turns 0 (emptied other) amid
same-told row other e f = isolation row other e f alone amid 0 (same_asked row other e f)
