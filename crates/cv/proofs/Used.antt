-- The place behind an accepted CV is the octets that it uses: the header's 4, Length, and its MEP-ID, without padding.
-- Assumes nothing.
use mathlib.Core.Path.{◌≡◌, refl, ap, ◌∙◌}
use mathlib.Core.List.{List}
use Prim.Native.Nat.{ℕ, ◌+◌, ◌≤◌, ◌<◌}
use native.Mathlib.Nat.{le_refl}
use native.Mathlib.Omega.{arith}
use lib.ListN.{length, get_or, take, drop}
use lib.Seq.{length-take-le, get_or-take, take-add, drop_at, take-take}
use borrow.Author.Tests.{lt-ltb, le-ltb}
use Rattle.octets.proofs.Cuts.{at_front_lem}
use Rattle.octets.specs.Numbers.{number_at}
use Rattle.gach.specs.Header.{cv_channel}
use Rattle.gach.specs.Places.{Used}
use Rattle.gach.proofs.Places.{below}
use Rattle.bfd.specs.Packet.{length_of}
use Rattle.bfd.proofs.Says.{control-passes}
use Rattle.bfd.proofs.Used.{control-front, packet-front, control-cut, control-place}
use Rattle.cv.specs.Forms.{form_place, value_place, mep_refusal}
use Rattle.cv.specs.MepId.{stretch_at}
use Rattle.cv.specs.Cv.{mep_at, kind_at, cv_refusal, read_cv, cv_end, source_place, cv_place, verification_of}
use Rattle.cv.proofs.Forms.{formed-at, formed-long, length-allowed, agi-allowed, form-passes}
use Rattle.cv.proofs.Says.{MepSays, CvSays, cv-says, cv-passes}

-- 4, Length, 4 and the MEP-ID's length
pub place-used : (m : List ℕ) → cv_refusal m ≡ 0 → cv_place m ≡ cv_end m
unfolding form_place value_place source_place cv_place
place-used m e =
    let s = cv-says m e in
    let form = s.mep.form in
    let head : mep_at m + 4 ≤ length m = omega (arith, s.mep.room) in
    control-place cv_channel m _ s.control
    ∙ rw (
      le-ltb (length m) (mep_at m + 4) head,
      lt-ltb (kind_at m) 3 (length-allowed form).0,
      (length-allowed form).1,
      le-ltb (length m) (cv_end m) s.mep.room,
      agi-allowed form,
    )

-- a stretch of a list that is cut where the stretch ends
stretch-cut : (a k : ℕ) (l : List ℕ) → a ≤ length l → take k (drop a (take (a + k) l)) ≡ take k (drop a l)
stretch-cut a k l h =
    ap (λ (x : List ℕ). take k (drop a x)) (take-add a k l)
    ∙ ap (take k) (drop_at (take a l) (take k (drop a l)) a (length-take-le a l h))
    ∙ take-take k k (drop a l) (le_refl k)

-- a MEP-ID that is not refused, cut where it ends
module _ (s : List ℕ) (at : ℕ) (says : MepSays s at) (n : ℕ) (end : n ≡ at + 4 + number_at 2 s (at + 2)) where
  fits : n ≤ length s
  fits = omega (arith, says.room)

  long : at + 16 ≤ n
  long = omega (arith, formed-long says.form)

  kind-front : number_at 2 (take n s) at ≡ number_at 2 s at
  kind-front = at_front_lem 2 n s at (omega (arith, long))

  len-front : number_at 2 (take n s) (at + 2) ≡ number_at 2 s (at + 2)
  len-front = at_front_lem 2 n s (at + 2) (omega (arith, long))

  mep-front : MepSays (take n s) at
  mep-front =
      record {
        room = rw (len-front, length-take-le n s fits) (omega arith);
        form =
            rw (kind-front, len-front)
            (formed-at (get_or (take n s) (at + 17) 0) says.form (λ w. get_or-take n s (at + 17) 0 (omega arith)));
      }

  stretch-front : stretch_at (take n s) at ≡ stretch_at s at
  stretch-front =
      let len = number_at 2 s (at + 2) in
      let sum : n ≡ at + (4 + len) = omega arith in
      rw (len-front, sum) (stretch-cut at (4 + len) s (omega (arith, fits)))

-- an accepted CV that is cut where its octets end
module _ (m : List ℕ) (s : CvSays m) where
  far : 28 ≤ cv_end m
  far = omega (arith, s.control.whole)

  at_same : mep_at (take (cv_end m) m) ≡ mep_at m
  at_same = ap (λ (l : ℕ). 4 + l) (get_or-take (cv_end m) m 7 0 (omega (arith, far)))

  cv-front : CvSays (take (cv_end m) m)
  cv-front =
      record {
        control = control-front m (cv_end m) s.mep.room far cv_channel s.control;
        mep = rw at_same (mep-front m (mep_at m) s.mep (cv_end m) refl);
      }

  verification-front : verification_of (take (cv_end m) m) ≡ verification_of m
  verification-front =
      rw (packet-front m (cv_end m) s.mep.room far, at_same, stretch-front m (mep_at m) s.mep (cv_end m) refl)

  -- and before
  cv-cut : (n : ℕ) → n < cv_end m → cv_refusal (take n m) ≡ 3
  unfolding mep_refusal cv_refusal
  cv-cut n h =
      let le : n ≤ length m = omega (arith, s.mep.room) in
      let size : length (take n m) ≡ n = length-take-le n m le in
      below n 28 (λ low. control-cut cv_channel m n _ le low s.control)
      (λ high.
      let at : length_of (take n m) ≡ length_of m = get_or-take n m 7 0 (omega arith) in
      let control = control-passes cv_channel (take n m) (control-front m n le high cv_channel s.control) in
      below n (mep_at m + 4) (λ low. rw (control, lt-ltb (length (take n m)) (mep_at (take n m) + 4) (omega arith)))
      (λ there.
      rw (
        control,
        at,
        at_front_lem 2 n m (mep_at m) (omega arith),
        at_front_lem 2 n m (mep_at m + 2) (omega arith),
        le-ltb (length (take n m)) (mep_at m + 4) (omega arith),
        form-passes s.mep.form,
        lt-ltb (length (take n m)) (cv_end m) (omega arith),
      )))

pub used-exactly : (m : List ℕ) → cv_refusal m ≡ 0 → Used read_cv cv_refusal cv_place m
unfolding read_cv
used-exactly m e =
    let s = cv-says m e in
    record {
      same = rw (place-used m e, e, cv-passes (take (cv_end m) m) (cv-front m s), verification-front m s);
      fewer = λ n h. cv-cut m s n (rw (place-used m e) at h);
    }
