-- The question that the arguments of `why` are, word by word.
-- Assumes nothing.
use Rattle.std.specs.Prelude.{ℕ, suc, ◌+◌, ◌-◌, ◌*◌, ◌^◌, Bool, true, false, cond, not, ◌&&◌, List, [], ◌∷◌, eqb, ltb, length, take, drop, Option as Held, Some, None}
use Rattle.std.proofs.Math.Option.{Option, none, some}
use Rattle.rules.specs.declared.Key.{Key}
use Rattle.cause.specs.declared.Thing.{Thing}
use Rattle.cause.specs.declared.Thing.TheVariants.{Crossing, Loss, Condition, HeldBack}
use Rattle.inquiry.specs.declared.question.Question.{Question}

-- ---- a number in decimal
abbrev pub is_digit : ℕ → Bool
is_digit d = ltb 47 d && ltb d 58

-- digits behind those that came to n: each is worth a tenth of the one before it
unfoldable pub number_from : ℕ → List ℕ → Option ℕ
number_from n [] = some n
number_from n (d ∷ ds) = cond (is_digit d) (number_from (n * 10 + (d - 48)) ds) none

-- digits alone, and at least one
unfoldable pub number_in : List ℕ → Option ℕ
number_in [] = none
number_in (d ∷ ds) = number_from 0 (d ∷ ds)

-- for a reader: what digits are worth, each by the number of digits behind it
unfoldable pub all_digits : List ℕ → Bool
all_digits [] = true
all_digits (d ∷ ds) = is_digit d && all_digits ds

unfoldable pub worth : List ℕ → ℕ
worth [] = 0
worth (d ∷ ds) = (d - 48) * 10 ^ length ds + worth ds

-- what octets are as a number, and whether they are one
pub record Number : Type 0 where
  pub value : ℕ
  pub good : Bool

abbrev pub no_number : Number
no_number = record { value = 0; good = false }

abbrev pub within : ℕ → ℕ → Number
within most n = cond (ltb most n) no_number (record { value = n; good = true })

-- a number up to a greatest one
abbrev pub up_to : ℕ → Option ℕ → Number
up_to most none = no_number
up_to most (some n) = within most n

unfoldable pub numeral : ℕ → List ℕ → Number
numeral most s = up_to most (number_in s)

-- ---- words
-- the place of the first slash, and the end where there is none
unfoldable pub slash_at : List ℕ → ℕ
slash_at [] = 0
slash_at (b ∷ bs) = cond (eqb b 47) 0 (suc (slash_at bs))

-- a word has these octets in front
unfoldable pub begins : List ℕ → List ℕ → Bool
begins [] w = true
begins (x ∷ xs) [] = false
begins (x ∷ xs) (b ∷ bs) = eqb b x && begins xs bs

-- it has these and no more
abbrev pub is_word : List ℕ → List ℕ → Bool
is_word word w = eqb (length w) (length word) && begins word w

-- `crossing`
abbrev pub word_crossing : List ℕ
word_crossing = 99 ∷ 114 ∷ 111 ∷ 115 ∷ 115 ∷ 105 ∷ 110 ∷ 103 ∷ []

-- `loss`
abbrev pub word_loss : List ℕ
word_loss = 108 ∷ 111 ∷ 115 ∷ 115 ∷ []

-- `held-back`
abbrev pub word_held_back : List ℕ
word_held_back = 104 ∷ 101 ∷ 108 ∷ 100 ∷ 45 ∷ 98 ∷ 97 ∷ 99 ∷ 107 ∷ []

-- `ais`
abbrev pub word_ais : List ℕ
word_ais = 97 ∷ 105 ∷ 115 ∷ []

-- `lkr`
abbrev pub word_lkr : List ℕ
word_lkr = 108 ∷ 107 ∷ 114 ∷ []

-- `if=`
abbrev pub word_if : List ℕ
word_if = 105 ∷ 102 ∷ 61 ∷ []

-- `global=`
abbrev pub word_global : List ℕ
word_global = 103 ∷ 108 ∷ 111 ∷ 98 ∷ 97 ∷ 108 ∷ 61 ∷ []

-- `upto=`
abbrev pub word_upto : List ℕ
word_upto = 117 ∷ 112 ∷ 116 ∷ 111 ∷ 61 ∷ []

-- ---- what is asked
abbrev pub key_anew_of : ℕ → Key
key_anew_of kind = record { node = 0; interface = 0; global = 0; kind = kind; present = 0; carrier = 0 }

abbrev pub no_key : Key
no_key = key_anew_of 0

-- nothing yet; all records of the capture, as long as `upto=` does not say otherwise
abbrev pub no_question : Question
no_question = record { key = no_key; upto = 18446744073709551615; label = 0; kind = 0; labelled = false; bounded = false; good = true }

-- words that are no question
abbrev pub no_such : Question
no_such = record { key = no_key; upto = 0; label = 0; kind = 0; labelled = false; bounded = false; good = false }

abbrev pub with_label : Question → ℕ → Question
with_label q l = record { key = q.key; upto = q.upto; label = l; kind = q.kind; labelled = true; bounded = q.bounded; good = q.good }

abbrev pub with_thing : Question → ℕ → Key → Question
with_thing q k key = record { key = key; upto = q.upto; label = q.label; kind = k; labelled = q.labelled; bounded = q.bounded; good = q.good }

abbrev pub with_upto : Question → ℕ → Question
with_upto q n = record { key = q.key; upto = n; label = q.label; kind = q.kind; labelled = q.labelled; bounded = true; good = q.good }

-- a number of 32 bits
abbrev pub small : List ℕ → Number
small s = numeral 4294967295 s

-- the first word is the label
unfoldable pub label_taken : Question → List ℕ → Question
label_taken q w = cond (small w).good (with_label q (small w).value) no_such

-- the second is the thing: 1 crossing, 2 loss, 3 held back, 4 AIS, 5 LKR; 0 is none of them
unfoldable pub kind_of : List ℕ → ℕ
kind_of w = cond (is_word word_crossing w) 1 (cond (is_word word_loss w) 2 (cond (is_word word_held_back w) 3 (cond (is_word word_ais w) 4 (cond (is_word word_lkr w) 5 0))))

-- the type of a condition's key: 1 AIS, 2 LKR
abbrev pub key_kind : ℕ → ℕ
key_kind k = cond (eqb k 4) 1 (cond (eqb k 5) 2 0)

-- its IF_ID and its Global_ID are absent until they are named
abbrev pub key_anew : ℕ → Key
key_anew k = key_anew_of (key_kind k)

unfoldable pub thing_taken : Question → List ℕ → Question
thing_taken q w = cond (ltb 0 (kind_of w)) (with_thing q (kind_of w) (key_anew (kind_of w))) no_such

-- `if=` and `global=` stand behind ais and lkr alone, and each at most once
abbrev pub is_free : ℕ → ℕ → Bool
is_free kind mark = ltb 0 kind && eqb mark 0

abbrev pub with_interface : Key → ℕ → ℕ → Key
with_interface k n i = record { node = n; interface = i; global = k.global; kind = k.kind; present = 1; carrier = k.carrier }

abbrev pub with_global : Key → ℕ → Key
with_global k g = record { node = k.node; interface = k.interface; global = g; kind = k.kind; present = k.present; carrier = 1 }

-- behind `if=`: a node, a slash and an interface
abbrev pub node_in : List ℕ → Number
node_in s = small (take (slash_at s) s)

abbrev pub interface_in : List ℕ → Number
interface_in s = small (drop 1 (drop (slash_at s) s))

unfoldable pub interface_taken : Question → List ℕ → Question
interface_taken q s =
    cond (is_free q.key.kind q.key.present && ((node_in s).good && (interface_in s).good))
    (with_thing q q.kind (with_interface q.key (node_in s).value (interface_in s).value))
    no_such

-- behind `global=`
unfoldable pub global_taken : Question → List ℕ → Question
global_taken q s =
    cond (is_free q.key.kind q.key.carrier && (small s).good) (with_thing q q.kind (with_global q.key (small s).value)) no_such

-- behind `upto=`, which stands at most once too
abbrev pub bound_in : List ℕ → Number
bound_in s = numeral 18446744073709551615 s

unfoldable pub upto_taken : Question → List ℕ → Question
upto_taken q s = cond (not q.bounded && (bound_in s).good) (with_upto q (bound_in s).value) no_such

-- the words behind the first two
unfoldable pub option_taken : Question → List ℕ → Question
option_taken q w =
    cond (begins word_if w) (interface_taken q (drop 3 w))
    (cond (begins word_global w) (global_taken q (drop 7 w))
    (cond (begins word_upto w) (upto_taken q (drop 5 w)) no_such))

-- one word more
unfoldable pub word_taken : Question → List ℕ → Question
word_taken q w = cond q.good (cond q.labelled (cond (eqb q.kind 0) (thing_taken q w) (option_taken q w)) (label_taken q w)) q

-- all words
unfoldable pub question_from : Question → List (List ℕ) → Question
question_from q [] = q
question_from q (w ∷ ws) = question_from (word_taken q w) ws

abbrev pub question_of : List (List ℕ) → Question
question_of words = question_from no_question words

-- they are a question: the label and the thing were there, and each word belongs there
abbrev pub is_asked : Question → Bool
is_asked q = q.good && ltb 0 q.kind

unfoldable pub thing_of : Question → Thing
thing_of q = cond (eqb q.kind 1) Crossing (cond (eqb q.kind 2) Loss (cond (eqb q.kind 3) HeldBack (Condition q.key)))

-- ---- as the code holds them
-- a number that was read, or none
abbrev pub numbered : Held ℕ → Number
numbered None = no_number
numbered (Some n) = record { value = n; good = true }

-- what is asked with a word more, or words that are no question
abbrev pub question_in : Held Question → Question
question_in None = no_such
question_in (Some q) = q
