use mathlib.Core.Path.{sym, ◌∙◌}
use mathlib.Core.Logic.{⊎_elim}
use borrow.Author.Rules.{rules}
use Rattle.rules.proofs.Bools.{or_cases}
use Rattle.conditions.proofs.Taken.{says-sound}
use Rattle.conditions.proofs.Digests.{refused, sound, unsound, apart, clashing, neither}
use Rattle.conditions.proofs.Held.{keys-held}
use Rattle.conditions.proofs.sound.several_sound.Goals as goal

pub returns-then-not-a : goal.returns-then-not-a
returns-then-not-a c = refused _ _ (λ s. unsound _ _ c.digest_of-a.ensures c.if-not-a.true s.first)

pub returns-then-not-b : goal.returns-then-not-b
returns-then-not-b c = refused _ _ (λ s. unsound _ _ c.digest_of-b.ensures c.if-not-b.true s.second)

pub returns-then-are_alike : goal.returns-then-are_alike
returns-then-are_alike c =
    let held = keys-held _ _ c.well_formed.0 in
    refused _ _ (λ s. clashing _ _ _ held.first held.second c.digest_of-a.ensures c.digest_of-b.ensures (sym c.are_alike.ensures ∙ c.if-are_alike.true) s.first s.second s.apart12)

pub returns-then-not-c : goal.returns-then-not-c
returns-then-not-c c = refused _ _ (λ s. unsound _ _ c.digest_of-c.ensures c.if-not-c.true s.third)

pub returns-then-is_alike_to : goal.returns-then-is_alike_to
returns-then-is_alike_to c =
    let held = keys-held _ _ c.well_formed.0 in
    refused _ _
    (λ s. ⊎_elim (λ z. clashing _ _ _ held.first held.third c.digest_of-a.ensures c.digest_of-c.ensures z s.first s.third s.apart13)
    (λ z. clashing _ _ _ held.second held.third c.digest_of-b.ensures c.digest_of-c.ensures z s.second s.third s.apart23)
    (or_cases _ _ (sym c.is_alike_to.ensures ∙ c.if-is_alike_to.true)))

pub returns-then-not-d : goal.returns-then-not-d
returns-then-not-d c = refused _ _ (λ s. unsound _ _ c.digest_of-d.ensures c.if-not-d.true s.fourth)

pub returns-then-is_alike_to-2 : goal.returns-then-is_alike_to-2
returns-then-is_alike_to-2 c =
    let held = keys-held _ _ c.well_formed.0 in
    refused _ _
    (λ s. ⊎_elim (λ z. clashing _ _ _ held.first held.fourth c.digest_of-a.ensures c.digest_of-d.ensures z s.first s.fourth s.apart14)
    (λ z. clashing _ _ _ held.second held.fourth c.digest_of-b.ensures c.digest_of-d.ensures z s.second s.fourth s.apart24)
    (or_cases _ _ (sym c.is_alike_to-2.ensures ∙ c.if-is_alike_to-2.true)))

pub returns-then-are_alike-2 : goal.returns-then-are_alike-2
returns-then-are_alike-2 c =
    let held = keys-held _ _ c.well_formed.0 in
    refused _ _ (λ s. clashing _ _ _ held.third held.fourth c.digest_of-c.ensures c.digest_of-d.ensures (sym c.are_alike-2.ensures ∙ c.if-are_alike-2.true) s.third s.fourth s.apart34)

pub returns : goal.returns
returns c =
    let held = keys-held _ _ c.well_formed.0 in
    let p1 = sound _ _ c.digest_of-a.ensures c.if-not-a.false in
    let p2 = sound _ _ c.digest_of-b.ensures c.if-not-b.false in
    let p3 = sound _ _ c.digest_of-c.ensures c.if-not-c.false in
    let p4 = sound _ _ c.digest_of-d.ensures c.if-not-d.false in
    let to3 = neither _ _ (sym c.is_alike_to.ensures ∙ c.if-is_alike_to.false) in
    let to4 = neither _ _ (sym c.is_alike_to-2.ensures ∙ c.if-is_alike_to-2.false) in
    sym
    (says-sound _ _
    (record {
      first = p1;
      second = p2;
      third = p3;
      fourth = p4;
      apart12 = apart _ _ _ held.first held.second c.digest_of-a.ensures c.digest_of-b.ensures (sym c.are_alike.ensures ∙ c.if-are_alike.false) p1 p2;
      apart13 = apart _ _ _ held.first held.third c.digest_of-a.ensures c.digest_of-c.ensures to3.0 p1 p3;
      apart14 = apart _ _ _ held.first held.fourth c.digest_of-a.ensures c.digest_of-d.ensures to4.0 p1 p4;
      apart23 = apart _ _ _ held.second held.third c.digest_of-b.ensures c.digest_of-c.ensures to3.1 p2 p3;
      apart24 = apart _ _ _ held.second held.fourth c.digest_of-b.ensures c.digest_of-d.ensures to4.1 p2 p4;
      apart34 = apart _ _ _ held.third held.fourth c.digest_of-c.ensures c.digest_of-d.ensures (sym c.are_alike-2.ensures ∙ c.if-are_alike-2.false) p3 p4;
    }))
