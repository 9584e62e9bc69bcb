-- What is written reads back to the same two numbers, and is refused by the writer exactly where the reader would refuse it.
-- Assumes nothing.
use mathlib.Core.Path.{◌≡◌, refl, sym, ap, ◌∙◌}
use mathlib.Core.Bool.{Bool, true, false}
use mathlib.Core.List.{List, [], ◌∷◌, ◌++◌}
use mathlib.Core.Logic.{◌↔◌}
use Prim.Native.Nat.{ℕ, zero, suc, ◌<◌, ◌^◌}
use native.Mathlib.Omega.{arith}
use lib.ListN.{length, take, drop}
use lib.Seq.{take_at}
use lib.Dec.{eqb, eqb-suc-zero}
use borrow.Author.Tests.{ne_eqb}
use Rattle.octets.specs.Numbers.{number_at, octets_of}
use Rattle.octets.specs.Choice.{need, accepted, refused, answer, number}
use Rattle.octets.specs.Writing.{writing}
use Rattle.octets.proofs.Chain.{or_else-passed}
use Rattle.octets.proofs.Numbers.{read_of}
use Rattle.rules.specs.Lists.{any, only}
use Rattle.configuration.specs.Entries.{Entry, padded_size, entry_at, following, each, with_held, entries_in}
use Rattle.configuration.specs.declared.Offer.{Offer}
use Rattle.configuration.specs.Reading.{offer_fits, wrong_length, number_in, refusal_of, read_configuration}
use Rattle.configuration.specs.Octets.{configuration_octets, offer_refusal}
use Rattle.configuration.specs.Refused.{UnfitOffer}
use Rattle.configuration.proofs.Refusals.{unfit-exactly}

-- the four entries that are written, one in the other
abbrev written : ℕ → ℕ → List Entry
written d p =
    let timers : List ℕ = octets_of 4 p (0 ∷ 0 ∷ 0 ∷ 0 ∷ 0 ∷ 0 ∷ 0 ∷ 0 ∷ []) in
    let leaves : List ℕ = 0 ∷ 1 ∷ 0 ∷ 4 ∷ octets_of 4 d (0 ∷ 2 ∷ 0 ∷ 12 ∷ timers) in
    record { levels = 3; kind = 16; size = 36; past = false; value = 0 ∷ 0 ∷ 0 ∷ 0 ∷ 0 ∷ 1 ∷ 0 ∷ 28 ∷ 0 ∷ 0 ∷ 0 ∷ 0 ∷ leaves }
    ∷ record { levels = 2; kind = 1; size = 28; past = false; value = 0 ∷ 0 ∷ 0 ∷ 0 ∷ leaves }
    ∷ record { levels = 1; kind = 1; size = 4; past = false; value = octets_of 4 d [] }
    ∷ record { levels = 1; kind = 2; size = 12; past = false; value = timers } ∷ []

entries-written : (d p : ℕ) → entries_in 3 (configuration_octets d p) ≡ written d p
unfolding padded_size entry_at following each with_held entries_in configuration_octets
entries-written d p = refl

-- whatever the numbers are, reading what would be written says what the writer does
pub read_again : (a d p : ℕ) → (a ≡ 1 → ⊥) → (a ≡ 2 → ⊥) → d < 256 ^ 4 → p < 256 ^ 4
    → read_configuration a (configuration_octets d p) ≡ answer (offer_refusal d p) (record { discriminator = d; period = p })
unfolding read_configuration refusal_of wrong_length number_in any only
read_again a d p one two hd hp =
    let one' : 1 ≡ a → ⊥ = λ e. one (sym e) in
    let two' : 2 ≡ a → ⊥ = λ e. two (sym e) in
    let d-is : number_at 4 (octets_of 4 d []) 0 ≡ d = read_of 4 d [] hd in
    let p-is : number_at 4 (octets_of 4 p []) 0 ≡ p = read_of 4 p [] hp in
    rw (entries-written d p, ne_eqb a 1 one, ne_eqb a 2 two, ne_eqb 1 a one', ne_eqb 2 a two', d-is, p-is)

forty : (d p : ℕ) → length (configuration_octets d p) ≡ 40
unfolding configuration_octets
forty d p = refl

-- "what we write, we read to the same two", for every setting that is not refused
pub read-written : (a d p : ℕ) → (a ≡ 1 → ⊥) → (a ≡ 2 → ⊥) → d < 256 ^ 4 → p < 256 ^ 4 → offer_refusal d p ≡ 0
    → read_configuration a (configuration_octets d p) ≡ accepted (record { discriminator = d; period = p })
read-written a d p one two hd hp e = read_again a d p one two hd hp ∙ rw e

-- the writer's 10 is the reader's, for every setting that is not refused, and is for nothing else
pub refused-exactly : (a d p : ℕ) → (a ≡ 1 → ⊥) → (a ≡ 2 → ⊥) → d < 256 ^ 4 → p < 256 ^ 4
    → number (read_configuration a (configuration_octets d p)) ≡ offer_refusal d p
refused-exactly a d p one two hd hp = ap number (read_again a d p one two hd hp) ∙ number_of (offer_refusal d p) (record { discriminator = d; period = p })
  where
    number_of : (n : ℕ) (o : Offer) → number (answer n o) ≡ n
    number_of zero o = refl
    number_of (suc n) o = rw (eqb-suc-zero n)

-- in words: 10 exactly for a discriminator of 0 and for a period not 1,000 to 10,000,000
pub refused-10 : (d p : ℕ) → (offer_refusal d p ≡ 10) ↔ UnfitOffer d p
refused-10 d p = ((λ e. (unfit-exactly d p).0 (by-need (offer_fits d p) e)), λ u. rw ((unfit-exactly d p).1 u))
  where
    by-need : (test : Bool) → need test 10 0 ≡ 10 → test ≡ false
    by-need true e = absurd (omega arith)
    by-need false e = refl

-- the front of a buffer that was written into reads to the two numbers, whatever was in the buffer
pub read-buffer : (a d p : ℕ) (buffer : List ℕ) → (a ≡ 1 → ⊥) → (a ≡ 2 → ⊥) → d < 256 ^ 4 → p < 256 ^ 4
    → (writing (offer_refusal d p) (configuration_octets d p) buffer).answer ≡ 0
    → read_configuration a (take 40 (writing (offer_refusal d p) (configuration_octets d p) buffer).buffer) ≡ accepted (record { discriminator = d; period = p })
unfolding writing
read-buffer a d p buffer one two hd hp e =
    let o = configuration_octets d p in
    rw (e, take_at o (drop (length o) buffer) 40 (forty d p)) (read-written a d p one two hd hp (or_else-passed (offer_refusal d p) _ e).0)
