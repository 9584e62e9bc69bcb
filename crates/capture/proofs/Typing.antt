-- Octets put one behind the other into a buffer: a text that is put in parts, octets as they are and in hex, a text that has room.
-- Assumes nothing.
use Prim.Native.Nat.{ℕ, suc, ◌+◌, ◌/◌, ◌%◌, ◌≤◌, ◌<◌}
use native.Mathlib.Omega.{arith}
use native.Mathlib.Nat.{add-zero}
use native.Mathlib.Numerals.{add-one}
use mathlib.Core.Path.{◌≡◌, refl, sym, ap, ◌∙◌}
use mathlib.Core.List.{List, [], ◌∷◌, ◌++◌}
use lib.ListN.{length, get_or, set, take, drop, length-set}
use lib.Seq.{sets, sets-eq, take-suc, take_all}
use borrow.Author.Tests.{lt-ltb}
use Rattle.rules.specs.declared.Report.{Report}
use Rattle.capture.specs.Lines.{hex_digit, hex, spaced, seven_numbers}
use Rattle.capture.specs.Typing.{Put, pushed, typed}

-- ---- a text in parts
pub typed-join : (xs ys : List ℕ) (p : Put) → typed p (xs ++ ys) ≡ typed (typed p xs) ys
unfolding typed
typed-join [] ys p = refl
typed-join (x ∷ xs) ys p = typed-join xs ys (pushed p x)

module _ (p : Put) {q r : Put} where
  -- a text, then another
  pub then : (xs ys : List ℕ) → q ≡ typed p xs → r ≡ typed q ys → r ≡ typed p (xs ++ ys)
  then xs ys e f = f ∙ ap (λ (o : Put). typed o ys) e ∙ sym (typed-join xs ys p)

  -- a text, then an octet
  pub then-last : (xs : List ℕ) (b : ℕ) → q ≡ typed p xs → r ≡ pushed q b → r ≡ typed p (xs ++ b ∷ [])
  unfolding typed
  then-last xs b e f = f ∙ ap (λ (o : Put). pushed o b) e ∙ sym (typed-join xs (b ∷ []) p)

  -- an octet, then a text
  pub first_then : (b : ℕ) (ys : List ℕ) → q ≡ pushed p b → r ≡ typed q ys → r ≡ typed p (b ∷ ys)
  unfolding typed
  first_then b ys e f = f ∙ ap (λ (o : Put). typed o ys) e

-- nothing
pub typed-none : (p : Put) → p ≡ typed p []
unfolding typed
typed-none p = refl

-- ---- octets as they are
pub words_more : (p : Put) (words : List ℕ) (i : ℕ) {q r : Put} → i < length words → q ≡ typed p (take i words) → r ≡ pushed q (get_or words i 0)
    → r ≡ typed p (take (i + 1) words)
words_more p words i l e f = rw (add-one, take-suc words i 0 l) (then-last p (take i words) (get_or words i 0) e f)

pub words-all : (p : Put) (words : List ℕ) (i : ℕ) → length words ≤ i → typed p (take i words) ≡ typed p words
words-all p words i h = ap (typed p) (take_all i words h)

-- ---- octets in hex
hex-join : (xs ys : List ℕ) → hex (xs ++ ys) ≡ hex xs ++ hex ys
unfolding hex
hex-join [] ys = refl
hex-join (x ∷ xs) ys = rw (hex-join xs ys)

pub hex-none : (p : Put) (octets : List ℕ) → p ≡ typed p (hex (take 0 octets))
unfolding typed hex
hex-none p octets = refl

pub hex-more : (p : Put) (octets : List ℕ) (i : ℕ) {q r s : Put} {g h : ℕ} → i < length octets → q ≡ typed p (hex (take i octets))
    → g ≡ hex_digit (get_or octets i 0 / 16 % 16) → r ≡ pushed q g
    → h ≡ hex_digit (get_or octets i 0 % 16) → s ≡ pushed r h
    → s ≡ typed p (hex (take (i + 1) octets))
unfolding typed hex
hex-more p octets i l e a b c d =
    rw (add-one, take-suc octets i 0 l, hex-join (take i octets) (get_or octets i 0 ∷ []))
    (d ∙ rw (b, a, c, e) (sym (typed-join (hex (take i octets)) (hex_digit (get_or octets i 0 / 16 % 16) ∷ hex_digit (get_or octets i 0 % 16) ∷ []) p)))

pub hex-all : (p : Put) (octets : List ℕ) (i : ℕ) → length octets ≤ i → typed p (hex (take i octets)) ≡ typed p (hex octets)
hex-all p octets i h = ap (λ (o : List ℕ). typed p (hex o)) (take_all i octets h)

-- ---- a report, put part by part
pub seven : (p : Put) (r : Report) {a b c d e f g : Put}
    → a ≡ typed p (spaced r.state) → b ≡ typed a (spaced r.crossing) → c ≡ typed b (spaced r.loss) → d ≡ typed c (spaced r.alarm)
    → e ≡ typed d (spaced r.rdi) → f ≡ typed e (spaced r.blocked) → g ≡ typed f (spaced r.conditions)
    → g ≡ typed p (seven_numbers r)
unfolding seven_numbers
seven p r ea eb ec ed ee ef eg = then p _ _ (then p _ _ (then p _ _ (then p _ _ (then p _ _ (then p _ _ ea eb) ec) ed) ee) ef) eg

-- ---- a text that has room
pub room : (text : List ℕ) (b : List ℕ) (at : ℕ) → at + length text ≤ length b
    → typed (record { buffer = b; at = at }) text ≡ record { buffer = sets b at text; at = at + length text }
unfolding typed pushed
room [] b at h = rw add-zero
room (x ∷ xs) b at h =
    let same : suc at + length xs ≡ at + suc (length xs) = omega arith in
    rw (lt-ltb at (length b) (omega arith), add-one)
    (room xs (set b at x) (suc at) (rw (length-set b at x) (omega arith))
    ∙ ap (λ (n : ℕ). record { buffer = sets (set b at x) (suc at) xs; at = n }) same)

-- it stands between what was before and what was behind
pub typed-fits : (p : Put) (text : List ℕ) → p.at + length text ≤ length p.buffer
    → typed p text ≡ record { buffer = take p.at p.buffer ++ text ++ drop (p.at + length text) p.buffer; at = p.at + length text }
typed-fits p text h = room text p.buffer p.at h ∙ rw (sets-eq text p.buffer p.at h)

-- one octet that has room
pub pushed-fits : (b : List ℕ) (at x : ℕ) → at < length b → record { buffer = set b at x; at = at + 1 } ≡ pushed (record { buffer = b; at = at }) x
unfolding pushed
pushed-fits b at x h = rw (lt-ltb at (length b) h)

-- the two digits of an octet in hex that have room
pub hex-fits : (p : Put) (octets : List ℕ) (i : ℕ) (b : List ℕ) (at : ℕ) {g h : ℕ} → i < length octets → at + 2 ≤ length b
    → record { buffer = b; at = at } ≡ typed p (hex (take i octets))
    → g ≡ hex_digit (get_or octets i 0 / 16 % 16) → h ≡ hex_digit (get_or octets i 0 % 16)
    → record { buffer = set (set b at g) (at + 1) h; at = at + 2 } ≡ typed p (hex (take (i + 1) octets))
hex-fits p octets i b at {g} {h} l f e eg eh =
    let two : at + 2 ≡ at + 1 + 1 = omega arith in
    rw two
    (hex-more p octets i l e eg (pushed-fits b at g (omega arith)) eh
    (pushed-fits (set b at g) (at + 1) h (rw (length-set b at g) (omega arith))))

-- the parts of a text, one behind the other
pub ruleset parts = (then, then-last, first_then)

-- octets as they are, and in hex
pub ruleset words = (typed-none, words_more, words-all)

pub ruleset hexes = (hex-none, hex-more, hex-fits, hex-all)
