-- Two operators' firmware on rows of their own or on one: from what each exported function ensures, what a party is told, of its groups too, rests on its own calls and the
-- clock alone.
-- Assumes nothing.
use Prim.Native.Nat.{ℕ}
use mathlib.Core.Path.{◌≡◌, refl, sym, ap, ◌∙◌}
use mathlib.Core.Bool.{cond}
use mathlib.Core.List.{List, [], ◌∷◌, map}
use lib.ListN.{length}
use Rattle.session.specs.declared.Session.{Session}
use Rattle.table.specs.Table.{Table, emptied}
use Rattle.group_parties.specs.Parties.{Request, request_names, leaves, turns, questions}
use Rattle.group_parties.proofs.Isolation.{group-isolation}
use Rattle.korvezul.specs.Runs.{PublicCall, Answered, answered, Promises, HandedOn, turns_of, Isolated}

abbrev requests_in : List PublicCall → List Request
requests_in cs = map (λ c. c.request) cs

-- the turns of a run are those of its requests to the table that it began with
turns-run : (p : ℕ) (cs : List PublicCall) (t v : Table) → Promises cs → HandedOn t cs v → turns_of p cs ≡ turns p t (requests_in cs)
unfolding turns_of turns
turns-run p [] t v k e = refl
turns-run p (c ∷ cs) t v k e =
    let clock : c.lent.clock ≡ t.clock = ap (λ (u : Table). u.clock) (sym e.0) in
    let is : record { response = c.response; table = c.left } ≡ answered t c.request = k.0 ∙ ap (λ (u : Table). answered u c.request) (sym e.0) in
    let rest : turns_of p cs ≡ turns p (leaves t c.request) (requests_in cs) =
    turns-run p cs c.left v k.1 e.1 ∙ ap (λ (x : Answered). turns p x.table (requests_in cs)) is in
    λ i. cond (request_names p c.request) (record { before = clock i; request = c.request; response = (is i).response } ∷ rest i) (rest i)

module _ (row other : List Session) (whole : length row ≡ 64) (too : length other ≡ 64) (cs ds : List PublicCall) (v w : Table)
    (kept : Promises cs) (handed : HandedOn (emptied row) cs v) (kept' : Promises ds) (handed' : HandedOn (emptied other) ds w) where
  -- of two runs of the exported functions, each on a row made empty, for every party
  pub run-isolated : (p : ℕ) → Isolated p cs ds
  run-isolated p e =
      let x = turns-run p cs (emptied row) v kept handed in
      let y = turns-run p ds (emptied other) w kept' handed' in
      x ∙ group-isolation row other whole too (requests_in cs) (requests_in ds) p (ap questions (sym x) ∙ e ∙ ap questions y) ∙ sym y
