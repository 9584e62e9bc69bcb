-- Asked from the index that is built of a log whose answers are our run's, the answer is the one from reading all, by what the rules paper says to
-- the calls of the log.
-- Assumes nothing.
use Prim.Native.Nat.{ℕ, ◌≤◌}
use mathlib.Core.Path.{◌≡◌, refl, sym, ap, ◌∙◌, subst}
use mathlib.Core.List.{List, [], ◌∷◌, ◌++◌}
use lib.ListN.{length, drop, replicate, length-replicate}
use Rattle.rules.specs.Times.{latest}
use Rattle.rules.specs.Calls.{Call, Tick, On, ReportOn, Said}
use Rattle.session.specs.declared.Session.{Session}
use Rattle.table.specs.Table.{Table, answer, next, emptied, absent}
use Rattle.meaning.specs.Histories.{History, start, after}
use Rattle.meaning.specs.Answers.{says}
use Rattle.meaning.specs.Edges.{told-all}
use Rattle.meaning.specs.Worlds.{World, step, play, begin}
use Rattle.meaning.proofs.Demand.{answered, Good, good-play, good-begin}
use Rattle.call_log.specs.Records.{Logged, logged_by}
use Rattle.call_log.specs.Reading.{count_of}
use Rattle.call_log.specs.Runs.{Ours, behind_all, gone_through}
use Rattle.call_log.proofs.Runs.{reported}
use Rattle.call_log.proofs.Asking.{front_of}
use Rattle.indexing.specs.Asking.{ask_of}
use Rattle.indexing.specs.Building.{build_of}
use Rattle.indexing.proofs.Asks.{ask-run}
use Rattle.testimony.specs.ReadingAll.{calls_of, AsSaid, called_up_to, reported_at}

-- a table in step with its history answers what the paper says
said-by : (w : World) → Good w → (c : Call) → answer w.table c ≡ says w.past c
said-by w G c = answered w.past w.table G.in_step c

-- so a log whose answers the paper gives has the answers of a table made empty
ours-said : (w : World) (gs : List Logged) → Good w → AsSaid w.past gs → Ours w.table gs
unfolding AsSaid Ours play step
ours-said w [] G a = tt
ours-said w (g ∷ gs) G a =
    let c = g.call in
    let e = said-by w G c in (
      a.0 ∙ ap (λ (x : Said). x.number) (sym e),
      ours-said (step w c) gs (good-play w (c ∷ []) G) (subst (λ (x : Said). AsSaid (after w.past c x) gs) (sym e) a.1),
    )

-- the table behind the calls, and the past that the paper tells of them
behind-play : (w : World) (gs : List Logged) → behind_all w.table gs ≡ (play w (calls_of gs)).table
unfolding behind_all play step
behind-play w [] = refl
behind-play w (g ∷ gs) = behind-play (step w g.call) gs

past-told : (w : World) (cs : List Call) → Good w → (play w cs).past ≡ told-all w.past cs
unfolding play step told-all
past-told w [] G = refl
past-told w (c ∷ cs) G =
    past-told (step w c) cs (good-play w (c ∷ []) G) ∙ ap (λ (x : Said). told-all (after w.past c x) cs) (said-by w G c)

play-behind : (w : World) (cs ds : List Call) → play w (cs ++ ds) ≡ play (play w cs) ds
unfolding play
play-behind w [] ds = refl
play-behind w (c ∷ cs) ds = play-behind (step w c) cs ds

one_more : (w : World) (c : Call) → (play w (c ∷ [])).table ≡ next w.table c
unfolding play step
one_more w c = refl

-- the report of our run is the one that the paper gives
reported-told : (row : List Session) → length row ≡ 64 → (log : List ℕ) (l u : ℕ) → reported (front_of row log u) u l ≡ reported_at log l u
unfolding reported_at begin
reported-told row e log l u =
    let gs = gone_through 65536 u (drop 8 log) in
    let G = good-play (begin row) (calls_of gs ++ Tick u ∷ []) (good-begin row e) in
    let table : next (front_of row log u) (Tick u) ≡ (play (begin row) (calls_of gs ++ Tick u ∷ [])).table =
    ap (λ (t : Table). next t (Tick u)) (behind-play (begin row) gs) ∙ sym (ap (λ (x : World). x.table) (play-behind (begin row) (calls_of gs) (Tick u ∷ [])) ∙ one_more (play (begin row) (calls_of gs)) (Tick u)) in
    ap (λ (t : Table). answer t (On l ReportOn)) table
    ∙ said-by (play (begin row) (calls_of gs ++ Tick u ∷ [])) G (On l ReportOn)
    ∙ ap (λ (h : History). says h (On l ReportOn)) (past-told (begin row) (calls_of gs ++ Tick u ∷ []) (good-begin row e))

-- any row of 64 serves
abbrev some_row : List Session
some_row = replicate 64 absent

ours-here : (gs : List Logged) → AsSaid start gs → Ours (emptied some_row) gs
unfolding begin
ours-here gs a = ours-said (begin some_row) gs (good-begin some_row (length-replicate 64 absent)) a

-- of a log whose answers the paper gives, and whatever was lent to build its index: what `ask` answers of a label at a reading up to the greatest is
-- what reading all of the log gives, number and report
pub ask-said : (log : List ℕ) (l : ℕ) (cs ps : List ℕ) (rs : List Session) → AsSaid start (logged_by (count_of log).count (drop 8 log)) → (u : ℕ) → u ≤ latest
    → (build_of log l cs ps rs).built.answer ≡ 0
    → ((ask_of log (build_of log l cs ps rs).built.head (build_of log l cs ps rs).clocks (build_of log l cs ps rs).places (build_of log l cs ps rs).records l u).answer
    ≡ (reported_at log l u).number)
    × ((ask_of log (build_of log l cs ps rs).built.head (build_of log l cs ps rs).clocks (build_of log l cs ps rs).places (build_of log l cs ps rs).records l u).report
    ≡ (reported_at log l u).report)
ask-said log l cs ps rs a u top e =
    let sized : length some_row ≡ 64 = length-replicate 64 absent in
    let r = ask-run log l cs ps rs some_row sized (ours-here (logged_by (count_of log).count (drop 8 log)) a) u top e in
    let same = reported-told some_row sized log l u in
    (r.0 ∙ ap (λ (x : Said). x.number) same, r.1 ∙ ap (λ (x : Said). x.report) same)
