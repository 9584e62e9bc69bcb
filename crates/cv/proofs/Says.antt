-- What an accepted CV says, what its MEP-ID part is, and where its numbers stand.
-- Assumes nothing.
use mathlib.Core.Path.{◌≡◌, ap, ◌∙◌}
use mathlib.Core.List.{List, []}
use Prim.Native.Nat.{ℕ, ◌+◌, ◌≤◌, ◌<◌}
use native.Mathlib.Nat.{add-zero}
use native.Mathlib.Omega.{arith}
use lib.Dec.{ltb, eqb}
use lib.ListN.{length, get_or, drop, length-drop}
use lib.Seq.{length-take-le, get_or-take, get_or-drop}
use borrow.Author.Tests.{ltb-false, le-ltb, eq-eqb, ne_eqb}
use Rattle.octets.specs.Numbers.{number_at}
use Rattle.octets.specs.Choice.{bar, or_else}
use Rattle.octets.proofs.Numbers.{at_part}
use Rattle.octets.proofs.Chain.{bar-passed, or_else-passed, need-most, bar-most}
use Rattle.gach.specs.Header.{cv_channel, channel_refusal}
use Rattle.bfd.specs.Reception.{control_refusal}
use Rattle.bfd.proofs.Says.{ControlSays, control-says, control-passes}
use Rattle.cv.specs.Forms.{length_fits, agi_fits, form_refusal, agi_refusal, mep_refusal}
use Rattle.cv.specs.MepId.{mep_id_at, stretch_at}
use Rattle.cv.specs.Cv.{mep_at, len_at, cv_refusal, cv_body_refusal, source_of, mep_part, part_at}
use Rattle.cv.proofs.Forms.{Formed, formed, form-passes, agi-passes, formed-at, formed-long}

-- a MEP-ID from place `at` that is not refused: it is there, and has a form
pub record MepSays (s : List ℕ) (at : ℕ) : Type 0 where
  pub room : at + 4 + number_at 2 s (at + 2) ≤ length s
  pub form : Formed (number_at 2 s at) (number_at 2 s (at + 2)) (get_or s (at + 17) 0)

pub mep-says : (s : List ℕ) (at : ℕ) → mep_refusal s at ≡ 0 → MepSays s at
unfolding mep_refusal
mep-says s at e =
    let kind = number_at 2 s at in
    let len = number_at 2 s (at + 2) in
    let form = form_refusal kind len in
    let agi = agi_refusal kind len (get_or s (at + 17) 0) in
    let cut = ltb (length s) (at + 4 + len) in
    let b = bar-passed (ltb (length s) (at + 4)) 2 (or_else form (bar cut 3 agi)) e in
    let c = or_else-passed form (bar cut 3 agi) b.1 in
    let d = bar-passed cut 2 agi c.1 in
    record { room = ltb-false (length s) (at + 4 + len) d.0; form = formed kind len (get_or s (at + 17) 0) c.0 d.1 }

pub mep-passes : (s : List ℕ) (at : ℕ) → MepSays s at → mep_refusal s at ≡ 0
unfolding mep_refusal
mep-passes s at says =
    let head : at + 4 ≤ length s = omega (arith, says.room) in
    rw (
      le-ltb (length s) (at + 4) head,
      form-passes says.form,
      le-ltb (length s) (at + 4 + number_at 2 s (at + 2)) says.room,
      agi-passes says.form,
    )

-- no refusal of it is above 7
pub mep-most : (s : List ℕ) (at : ℕ) → mep_refusal s at ≤ 7
unfolding form_refusal agi_refusal mep_refusal
mep-most s at =
    let kind = number_at 2 s at in
    let len = number_at 2 s (at + 2) in
    let form : form_refusal kind len ≤ 7 = need-most 7 (ltb kind 3) (omega arith) (need-most 7 (length_fits kind len) (omega arith) (omega arith)) in
    let agi : agi_refusal kind len (get_or s (at + 17) 0) ≤ 7 = need-most 7 (agi_fits kind len (get_or s (at + 17) 0)) (omega arith) (omega arith) in
    bar-most 7 (ltb (length s) (at + 4)) (omega arith)
    (need-most 7 (eqb (form_refusal kind len) 0) form (bar-most 7 (ltb (length s) (at + 4 + len)) (omega arith) agi))

pub record CvSays (m : List ℕ) : Type 0 where
  pub control : ControlSays cv_channel m
  pub mep : MepSays m (mep_at m)

pub cv-says : (m : List ℕ) → cv_refusal m ≡ 0 → CvSays m
unfolding cv_refusal
cv-says m e =
    let a = or_else-passed (control_refusal cv_channel m) (mep_refusal m (mep_at m)) e in
    record { control = control-says cv_channel m a.0; mep = mep-says m (mep_at m) a.1 }

pub cv-passes : (m : List ℕ) → CvSays m → cv_refusal m ≡ 0
unfolding cv_refusal
cv-passes m s = rw (control-passes cv_channel m s.control, mep-passes m (mep_at m) s.mep)

-- behind a CV's own header
pub cv-behind : (m : List ℕ) → channel_refusal cv_channel m ≡ 0 → cv_refusal m ≡ cv_body_refusal m
unfolding control_refusal cv_refusal cv_body_refusal
cv-behind m e = rw e

-- the octets of a MEP-ID that is not refused
module _ (s : List ℕ) (at : ℕ) (says : MepSays s at) where
  -- 16, or 18 to 50: four and the length
  pub stretch-length : length (stretch_at s at) ≡ 4 + number_at 2 s (at + 2)
  stretch-length =
      let n = 4 + number_at 2 s (at + 2) in
      let k : n ≤ length (drop at s) = omega (arith, length-drop at s, says.room) in
      length-take-le n (drop at s) k

  -- a number of them is the slice's
  pub stretch-number : (k i : ℕ) → i + k ≤ 4 + number_at 2 s (at + 2) → number_at k (stretch_at s at) i ≡ number_at k s (at + i)
  stretch-number k i h = at_part k (4 + number_at 2 s (at + 2)) at s i h

  pub stretch-octet : (i : ℕ) → i < 4 + number_at 2 s (at + 2) → get_or (stretch_at s at) i 0 ≡ get_or s (at + i) 0
  stretch-octet i h = get_or-take (4 + number_at 2 s (at + 2)) (drop at s) i 0 h ∙ get_or-drop at s i 0

  pub stretch-kind : number_at 2 (stretch_at s at) 0 ≡ number_at 2 s at
  stretch-kind = stretch-number 2 0 (omega (arith, formed-long says.form)) ∙ ap (number_at 2 s) (add-zero at)

  pub stretch-len : number_at 2 (stretch_at s at) 2 ≡ number_at 2 s (at + 2)
  stretch-len = stretch-number 2 2 (omega (arith, formed-long says.form))

  pub stretch-formed : Formed (number_at 2 (stretch_at s at) 0) (number_at 2 (stretch_at s at) 2) (get_or (stretch_at s at) 17 0)
  stretch-formed =
      rw (stretch-kind, stretch-len)
      (formed-at (get_or (stretch_at s at) 17 0) says.form (λ w. stretch-octet 17 (omega arith)))

-- of an accepted message the part is its MEP-ID
module _ (m : List ℕ) (e : cv_refusal m ≡ 0) where
  pub part-accepted : mep_part m ≡ stretch_at m (mep_at m)
  unfolding mep_part
  part-accepted = rw (eq-eqb _ _ e)

  -- and so it lies
  pub at-accepted : part_at m ≡ mep_at m
  unfolding part_at
  at-accepted = rw (eq-eqb _ _ e)

  -- it reads to the MEP-ID that the reader hands out
  pub part-source : mep_id_at (mep_part m) 0 ≡ source_of m
  part-source = ap (λ (l : List ℕ). mep_id_at l 0) part-accepted

  pub part_length : length (mep_part m) ≡ 4 + len_at m
  part_length = rw part-accepted (stretch-length m (mep_at m) (cv-says m e).mep)

  -- a number of the part is the message's
  pub part-number : (k at : ℕ) → at + k ≤ 4 + len_at m → number_at k (mep_part m) at ≡ number_at k m (mep_at m + at)
  part-number k at h = rw part-accepted (stretch-number m (mep_at m) (cv-says m e).mep k at h)

  pub part-octet : (i : ℕ) → i < 4 + len_at m → get_or (mep_part m) i 0 ≡ get_or m (mep_at m + i) 0
  part-octet i h = rw part-accepted (stretch-octet m (mep_at m) (cv-says m e).mep i h)

-- and empty of a refused one, at the message's start
module _ (m : List ℕ) (h : cv_refusal m ≡ 0 → ⊥) where
  pub part-refused : mep_part m ≡ []
  unfolding mep_part
  part-refused = rw (ne_eqb _ _ h)

  pub at-refused : part_at m ≡ 0
  unfolding part_at
  at-refused = rw (ne_eqb _ _ h)
