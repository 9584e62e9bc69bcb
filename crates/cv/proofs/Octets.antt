-- The octets of a MEP-ID and of a CV: how many they are, and that each is an octet.
-- Assumes nothing.
use mathlib.Core.Path.{◌≡◌, refl, ap, ◌∙◌}
use mathlib.Core.List.{List, [], ◌∷◌}
use Prim.Native.Nat.{ℕ, zero, suc, ◌+◌, ◌/◌, ◌%◌, ◌^◌, ◌≤◌, ◌<◌}
use native.Mathlib.Nat.{pow-suc}
use native.Mathlib.Omega.{arith}
use lib.ListN.{length, get_or, take, length-take, get_or-eq_default}
use lib.Seq.{take-append-add, length-take-le, get_or-take}
use lib.Dec.{ltb}
use borrow.Author.Tests.{ltb-true, ltb-false}
use Rattle.octets.specs.Numbers.{number_at, octets_of}
use Rattle.gach.specs.Header.{cv_channel}
use Rattle.bfd.specs.declared.Packet.{Packet}
use Rattle.bfd.specs.Octets.{packet_octets}
use Rattle.cv.specs.declared.MepId.{MepId}
use Rattle.cv.specs.Forms.{value_length}
use Rattle.cv.specs.MepId.{head_octets, agi_octets, whole_octets, mep_octets, MepSized}
use Rattle.cv.specs.declared.CvOctets.{CvOctets}
use Rattle.cv.specs.Cv.{cv_octets, cv_size, cv_whole}
use Rattle.cv.proofs.Forms.{split, length-fixed, length-within}

-- the 50 octets of all numbers
pub whole_length : (id : MepId) → length (whole_octets id) ≡ 50
unfolding head_octets agi_octets
whole_length id = refl

-- the MEP-ID has four and its length
pub mep-length : (id : MepId) → length (mep_octets id) ≡ 4 + value_length id.kind id.size
unfolding mep_octets
mep-length id =
    length-take-le (4 + value_length id.kind id.size) (whole_octets id)
    (omega (arith, whole_length id, (length-within id.kind id.size).1))

-- a CV has 44 octets for a Section or LSP, and never fewer or more than 78
pub size-within : (id : MepId) → (44 ≤ cv_size id) × (cv_size id ≤ 78)
size-within id =
    let w = length-within id.kind id.size in
    (omega (arith, w.0), omega (arith, w.1))

pub size-fixed : (id : MepId) → id.kind < 2 → cv_size id ≡ 44
size-fixed id h = omega (arith, length-fixed id.kind id.size h)

module _ (p : Packet) (id : MepId) where
  pub count_fits : cv_size id ≤ length (packet_octets cv_channel p (whole_octets id))
  unfolding packet_octets head_octets agi_octets
  count_fits = omega (arith, (length-within id.kind id.size).1)

  -- the message is the front of the 78 octets
  pub front-whole : take (cv_size id) (packet_octets cv_channel p (whole_octets id)) ≡ cv_octets p id
  unfolding packet_octets mep_octets
  front-whole = take-append-add (packet_octets cv_channel p []) (whole_octets id) (4 + value_length id.kind id.size)

  pub front_of_lem : (w : CvOctets) → w ≡ cv_whole p id → take w.count w.octets ≡ cv_octets p id
  front_of_lem w e = ap (λ (x : CvOctets). take x.count x.octets) e ∙ front-whole

  pub cv-length : length (cv_octets p id) ≡ cv_size id
  unfolding packet_octets
  cv-length = omega (arith, mep-length id)

-- a list of octets
abbrev pub Small : List ℕ → Type 0
Small s = (i : ℕ) → get_or s i 0 < 256

-- its numbers are within their octets
pub number_small : (k : ℕ) (s : List ℕ) (at : ℕ) → Small s → number_at k s at < 256 ^ k
number_small zero s at h = omega arith
number_small (suc k) s at h = omega (arith, pow-suc 256 k, number_small k s at h, h (at + k))

small-cons : (x : ℕ) (s : List ℕ) → x < 256 → Small s → Small (x ∷ s)
small-cons x s b h zero = b
small-cons x s b h (suc i) = h i

small_of : (k v : ℕ) (rest : List ℕ) → Small rest → Small (octets_of k v rest)
small_of zero v rest h = h
small_of (suc k) v rest h = small_of k (v / 256) (v % 256 ∷ rest) (small-cons (v % 256) rest (omega arith) h)

pub small-take : (n : ℕ) (s : List ℕ) → Small s → Small (take n s)
small-take n s h i =
    split (ltb i n) (λ e. rw (get_or-take n s i 0 (ltb-true i n e)) (h i))
    (λ e.
    let k : length (take n s) ≤ i = omega (arith, length-take n s, ltb-false i n e) in
    rw (get_or-eq_default (take n s) 0 k) (omega arith))

small-none : Small []
small-none i = omega arith

pub mep-small : (id : MepId) → MepSized id → Small (mep_octets id)
unfolding mep_octets head_octets agi_octets
mep-small id s =
    let g = id.agi in
    let d = octets_of 8 g.fourth [] in
    let c = octets_of 8 g.third d in
    let b = octets_of 8 g.second c in
    let agi = octets_of 8 g.first b in
    let group = id.group ∷ id.size ∷ agi in
    let local = octets_of 4 id.local group in
    let node = octets_of 4 id.node local in
    let global = octets_of 4 id.global node in
    let len = value_length id.kind id.size in
    let words : Small agi =
    small_of 8 g.first b (small_of 8 g.second c (small_of 8 g.third d (small_of 8 g.fourth [] small-none))) in
    let rest : Small group = small-cons id.group (id.size ∷ agi) s.group (small-cons id.size agi s.size words) in
    let value : Small global =
    small_of 4 id.global node (small_of 4 id.node local (small_of 4 id.local group rest)) in
    small-take (4 + len) (whole_octets id) (small_of 2 id.kind (octets_of 2 len global) (small_of 2 len global value))
