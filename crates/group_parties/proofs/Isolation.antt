-- What a party is told rests on what it asks and the clock alone, its groups too, proved.
-- Assumes nothing.
use Prim.Native.Nat.{ℕ}
use native.Mathlib.Omega.{arith}
use mathlib.Core.Path.{◌≡◌, refl, sym, ap, ◌∙◌, subst}
use mathlib.Core.Option.{none}
use mathlib.Core.List.{List, [], ◌∷◌}
use Rattle.rules.proofs.Bools.{split}
use Rattle.table.specs.Table.{emptied}
use Rattle.grouping.specs.Grouped.{answer_to, next_by}
use Rattle.meaning.proofs.Isolation.{nothing as no-calls}
use Rattle.switching.specs.Groups.{start, after, plain, now_of, group_of, says_to}
use Rattle.switching.specs.Switching.{Run, step, play, begun}
use Rattle.switching.proofs.Asked.{asked-same}
use Rattle.switching.proofs.Answered.{says_same}
use Rattle.switching.proofs.Switching.{Good, good-play, good-begun}
use Rattle.group_parties.specs.Parties.{command_of, command_names, Request, Gives, Asks, request_names, Response, Says, Tells, Turn, turns, Question, questions, GroupIsolation}
use Rattle.group_parties.proofs.Sights.{Sight, with_id, says_by, tells_from, left_by, View}
use Rattle.group_parties.proofs.Others.{right-plain, view-other}
use Rattle.group_parties.proofs.Own.{says-own, tells-own, view-own}

-- 1. Turns that are settled by those before them.

abbrev response_by : ℕ → Sight → Request → Response
response_by now s (Gives c) = Says (says_by now s (command_of c))
response_by now s (Asks p id) = Tells (tells_from now s (with_id now s p id))

abbrev seen_behind : ℕ → Sight → Request → Sight
seen_behind now s (Gives c) = left_by now (says_by now s (command_of c)) (command_of c) s
seen_behind now s (Asks p id) = s

Settled : Sight → List Turn → Type 0
Settled s [] = Unit {0}
Settled s (x ∷ xs) = (x.response ≡ response_by x.before s x.request) × Settled (seen_behind x.before s x.request) xs

same-turns : (s : Sight) (xs ys : List Turn) → Settled s xs → Settled s ys → questions xs ≡ questions ys → xs ≡ ys
unfolding Settled questions
same-turns s [] [] a b e = refl
same-turns s [] (y ∷ ys) a b e = absurd (let z : ◌≡◌ {A = ℕ} 0 1 = cc in omega arith)
same-turns s (x ∷ xs) [] a b e = absurd (let z : ◌≡◌ {A = ℕ} 0 1 = cc in omega arith)
same-turns s (x ∷ xs) (y ∷ ys) a b e =
    let t : questions xs ≡ questions ys = cc in
    let hd : ◌≡◌ {A = Question} (record { before = x.before; request = x.request }) (record { before = y.before; request = y.request }) = cc in
    let p : x.before ≡ y.before = ap (λ (q : Question). q.before) hd in
    let c : x.request ≡ y.request = ap (λ (q : Question). q.request) hd in
    let w : x.response ≡ y.response = a.0 ∙ (λ i. response_by (p i) s (c i)) ∙ sym b.0 in
    let r : xs ≡ ys =
    same-turns (seen_behind x.before s x.request) xs ys a.1
    (subst (λ (q : Question). Settled (seen_behind q.before s q.request) ys) (sym hd) b.1) t in
    λ i. record { before = p i; request = c i; response = w i } ∷ r i

-- 2. A party's turns are, from where it is seen what it can see.

settled : (p : ℕ) (w : Run) (rs : List Request) (s : Sight) → Good w → View p w.past s → Settled s (turns p w.table rs)
unfolding turns Settled step play
settled p w [] s G S = tt
settled p w (Gives c ∷ rs) s G S =
    let a = answer_to w.table (command_of c) in
    let right = right-plain w.past G.right in
    let said : a ≡ says_to w.past (command_of c) = says_same w.past w.table G.kept (command_of c) in
    let on = good-play w (command_of c ∷ []) G in
    let clock : w.table.clock ≡ now_of w.past = G.kept.in_step.clock in
    split (command_names p c)
    (λ e.
    let own : a ≡ says_by w.table.clock s (command_of c) =
    said ∙ says-own S right c e ∙ ap (λ (now : ℕ). says_by now s (command_of c)) (sym clock) in
    rw e (
      ap Says own,
      settled p (step w (command_of c)) rs _ on
          (subst (λ (x : Sight). View p (after w.past (command_of c) a) x)
          (λ i. left_by (sym clock i) (own i) (command_of c) s)
          (view-own S right w.table (next_by w.table (command_of c)) G.kept c e a said on.kept)),
    ))
    (λ e. rw e (settled p (step w (command_of c)) rs s on (view-other S right w.table G.kept c e a said)))
settled p w (Asks q id ∷ rs) s G S =
    let right = right-plain w.past G.right in
    let clock : w.table.clock ≡ now_of w.past = G.kept.in_step.clock in
    split (request_names p (Asks q id))
    (λ e. rw e (
      ap Tells
          (asked-same w.past w.table G.kept q id
          ∙ tells-own S right q id e
          ∙ ap (λ (now : ℕ). tells_from now s (with_id now s q id)) (sym clock)),
      settled p w rs s G S,
    ))
    (λ e. rw e (settled p w rs s G S))

-- 3. Nothing is there to be seen of no commands.

abbrev unseen : Sight
unseen = record { stories = λ l. none; opens = []; groups = λ l. none }

nothing : (p : ℕ) → View p start unseen
unfolding plain group_of
nothing p = record { calls = no-calls p; groups = λ l o. refl; dnis = λ l o. tt }

pub group-isolation : GroupIsolation
unfolding begun
group-isolation row other e f rs qs p same =
    same-turns unseen (turns p (emptied row) rs) (turns p (emptied other) qs)
    (settled p (begun row) rs unseen (good-begun row e) (nothing p))
    (settled p (begun other) qs unseen (good-begun other f) (nothing p)) same
