use Prim.Native.Nat.{ℕ, ◌<◌, ◌+◌, ◌/◌, ◌%◌, min}
use mathlib.Core.Path.{◌≡◌, refl, sym, ap, subst, ◌∙◌}
use mathlib.Core.Bool.{true, false}
use mathlib.Core.Logic.{⊎_elim}
use native.Mathlib.Omega.{arith}
use lib.ListN.{length, get_or}
use lib.Dec.{eqb}
use mathlib.Core.List.{◌∷◌}
use Rattle.rules.specs.Lists.{any, once}
use Rattle.rules.proofs.Bools.{or_cases}
use Rattle.scan.specs.Distinct.{key_in, filled, keys, reach_of, distinct_in}
use Rattle.scan.proofs.KeyMarks.{Seen, numbers, reach-most, and-false, found-kept, stands-either, new-within, twice, neither, keys-same, keys-more, numbers-same, numbers_more, apart_more, distinct-all, seen_none, seen-new, seen-still, seen_next}
use Rattle.scan.proofs.keys.distinct.Goals as goal
use Rattle.scan.proofs.keys.distinct.Goals.{then-pair-ne0, then-labels-x+then-among+else-key_stands, then-labels-x+else-among+else-among-2, else-labels-x+else-others-y, else-pair-ne0}

pub loop-i-init : goal.loop-i-init
unfolding filled numbers once any
loop-i-init c = let e = c.reach.ensures in record {
  inside = omega arith;
  end = rw (← e) c.min-n.ensures;
  most = omega (arith, c.min-n.ensures, e, reach-most c.args.occupied);
  own = seen_none;
  far = seen_none;
  labels_apart = refl;
  own_apart = refl;
}

pub returns-then-key_stands : goal.returns-then-key_stands
returns-then-key_stands c = let a = c.args in
    let l = c.loop-i in
    let h : l.i < length a.pairs.now = omega arith in
    let k : l.i < reach_of a.occupied = omega arith in
    let d = c.if-pair-ne0.true in
    let pair = get_or a.pairs.now l.i 0 in
    ⊎_elim
    (λ t. rw (twice true a.pairs.now l.i (reach_of a.occupied) h k d t))
    (λ t. and-false (distinct_in true (reach_of a.occupied) a.pairs.now) (twice false a.pairs.now l.i (reach_of a.occupied) h k d t))
    (or_cases (any (eqb (key_in true pair)) (0 ∷ keys true l.i a.pairs.now)) (any (eqb (key_in false pair)) (0 ∷ keys false l.i a.pairs.now))
    (sym (stands-either a.pairs.now l.i pair) ∙ sym c.key_stands.ensures ∙ c.if-key_stands.true))

pub loop-i-preserved : goal.loop-i-preserved
loop-i-preserved c = let a = c.args in
    let l = c.loop-i in
    let h : l.i < length a.pairs.now = omega arith in
    let k : l.i < 64 = omega arith in
    let pair = get_or a.pairs.now l.i 0 in
    let own = l.invariant.own in
    let far = l.invariant.far in
    let rest : (Seen (keys true (l.i + 1) a.pairs.now) (l.i + 1) c.if-pair-ne0.labels c.if-pair-ne0.own × Seen (numbers (l.i + 1) a.pairs.now) (l.i + 1) c.if-pair-ne0.others c.if-pair-ne0.far)
    × ((once eqb (0 ∷ keys true (l.i + 1) a.pairs.now) ≡ true) × (once eqb (0 ∷ keys false (l.i + 1) a.pairs.now) ≡ true)) =
    elim c.if-pair-ne0.branch [
      | then-pair-ne0 w ↦
          let x = w.label_in-l.ensures in
          let y = w.discriminator_in-d.ensures in
          let taken = w.if-pair-ne0.true in
          let both : (any (eqb (key_in true pair)) (0 ∷ keys true l.i a.pairs.now) ≡ false) × (any (eqb (key_in false pair)) (0 ∷ keys false l.i a.pairs.now) ≡ false) =
          elim w.if-labels-x.branch [
            | then-labels-x+then-among+else-key_stands v ↦ neither _ _ (sym (stands-either a.pairs.now l.i pair) ∙ sym v.key_stands.ensures ∙ v.if-key_stands.false)
            | then-labels-x+else-among+else-among-2 v ↦ (
              sym (found-kept _ _ _ _ own (key_in true pair) k) ∙ ap (λ (z : ℕ). any (eqb z) l.own) (sym x) ∙ sym v.among.ensures ∙ v.if-among.false,
              new-within a.pairs.now l.i pair
                  (sym (found-kept _ _ _ _ far (pair / 4294967296) k) ∙ ap (λ (z : ℕ). any (eqb z) l.far) (sym y) ∙ sym v.among-else-among.ensures ∙ v.if-among-2.false),
            )
            | else-labels-x+else-others-y v ↦ (
              seen-new _ _ _ _ own (key_in true pair) (ap (λ (z : ℕ). get_or l.labels (z % 1024) false) (sym x) ∙ v.if-labels-x.false),
              new-within a.pairs.now l.i pair (seen-new _ _ _ _ far (pair / 4294967296) (ap (λ (z : ℕ). get_or l.others (z % 1024) false) (sym y) ∙ v.if-others-y.false)),
            )
          ] in (
            (
              seen_next _ _ l.i l.labels _ l.own _ (key_in true pair) w.label_in-l.result own k x (keys-more true a.pairs.now l.i h taken) w.labels-is w.own-is,
              seen_next _ _ l.i l.others _ l.far _ (pair / 4294967296) w.discriminator_in-d.result far k y (numbers_more a.pairs.now l.i h taken) w.others-is w.far-is,
            ),
            (
              apart_more _ _ (key_in true pair) l.invariant.labels_apart both.0 (keys-more true a.pairs.now l.i h taken),
              apart_more _ _ (key_in false pair) l.invariant.own_apart both.1 (keys-more false a.pairs.now l.i h taken),
            ),
          )
      | else-pair-ne0 w ↦
          let left = w.if-pair-ne0.false in (
            (
              seen-still _ _ l.i l.labels _ l.own _ own (keys-same true a.pairs.now l.i h left) w.labels-is w.own-is,
              seen-still _ _ l.i l.others _ l.far _ far (numbers-same a.pairs.now l.i h left) w.others-is w.far-is,
            ),
            (rw (keys-same true a.pairs.now l.i h left) l.invariant.labels_apart, rw (keys-same false a.pairs.now l.i h left) l.invariant.own_apart),
          )
    ] in
    record {
      inside = omega arith;
      end = l.invariant.end;
      most = l.invariant.most;
      own = rest.0.0;
      far = rest.0.1;
      labels_apart = rest.1.0;
      own_apart = rest.1.1;
    }

pub returns : goal.returns
returns c = let a = c.args in
    let l = c.loop-i in
    let e : l.i ≡ min (reach_of a.occupied) (length a.pairs.now) = omega arith in
    rw (
      distinct-all true a.pairs.now (reach_of a.occupied) (subst (λ (n : ℕ). once eqb (0 ∷ keys true n a.pairs.now) ≡ true) e l.invariant.labels_apart),
      distinct-all false a.pairs.now (reach_of a.occupied) (subst (λ (n : ℕ). once eqb (0 ∷ keys false n a.pairs.now) ≡ true) e l.invariant.own_apart),
    )
