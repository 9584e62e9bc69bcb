-- Worked words: the text of each kind of answer, octet by octet as the page of `why` has it.
-- Assumes nothing.
use Prim.Native.Nat.{ℕ}
use mathlib.Core.Path.{◌≡◌, refl}
use mathlib.Core.Bool.{true, false}
use mathlib.Core.List.{[], ◌∷◌}
use Rattle.octets.specs.Choice.{accepted, refused}
use Rattle.bfd.specs.declared.Packet.{Packet}
use Rattle.cv.specs.declared.MepId.{MepId}
use Rattle.cv.specs.MepId.{no_agi}
use Rattle.message.specs.declared.Message.TheVariants.{ContinuityCheck, ConnectivityVerification}
use Rattle.rules.specs.declared.Key.{Key}
use Rattle.capture.specs.Lines.{digits}
use Rattle.cause.specs.declared.Thing.TheVariants.{Crossing, Loss, Condition, HeldBack}
use Rattle.cause.specs.declared.Timed.TheVariants.{Opening}
use Rattle.inquiry.specs.Words.{timed_words, mep_words, message_words, condition_words, padded, telling, cut_line}

-- a packet of which Your alone is told, and a MEP-ID of a type
abbrev packet : ℕ → Packet
packet your =
    record {
      diagnostic = 0;
      state = 1;
      poll = false;
      fin = false;
      independent = false;
      demand = false;
      multiplier = 3;
      my = 18;
      your = your;
      transmit = 1000000;
      receive = 1000000;
      echo = 0;
    }

abbrev mep : ℕ → ℕ → MepId
mep kind local = record { agi = no_agi; global = 1; node = 20; local = local; kind = kind; group = 0; size = 0 }

abbrev interface_key : ℕ → ℕ → ℕ → Key
interface_key node interface carrier = record { node = node; interface = interface; global = 7; kind = 1; present = 1; carrier = carrier }

-- open 100 at 0, `ais refresh=20 if=1/7` at 1,000,000, clock 67,500,000: `why 100 held-back`
held-back-words : telling (accepted (record { number = 2; reading = 1000000; age = 66500000; end = 71000000 })) (condition_words (interface_key 1 7 0) 20 false) 100 HeldBack
    ≡ 119 ∷ 104 ∷ 105 ∷ 99 ∷ 104 ∷ 58 ∷ 32 ∷ 114 ∷ 101 ∷ 99 ∷ 111 ∷ 114 ∷ 100 ∷ 32 ∷ 50 ∷ 32 ∷ 97 ∷ 116 ∷ 32 ∷ 49 ∷ 48 ∷ 48 ∷ 48 ∷ 48 ∷ 48 ∷ 48 ∷ 44 ∷ 32 ∷ 65 ∷ 73 ∷ 83 ∷ 44 ∷ 32 ∷ 114 ∷ 101 ∷ 102 ∷ 114 ∷ 101 ∷ 115 ∷ 104 ∷ 32 ∷ 50 ∷ 48 ∷ 32 ∷ 115 ∷ 44 ∷ 32 ∷ 105 ∷ 110 ∷ 116 ∷ 101 ∷ 114 ∷ 102 ∷ 97 ∷ 99 ∷ 101 ∷ 32 ∷ 49 ∷ 47 ∷ 55 ∷ 10 ∷ 104 ∷ 111 ∷ 119 ∷ 32 ∷ 111 ∷ 108 ∷ 100 ∷ 58 ∷ 32 ∷ 54 ∷ 54 ∷ 46 ∷ 53 ∷ 48 ∷ 48 ∷ 48 ∷ 48 ∷ 48 ∷ 32 ∷ 115 ∷ 10 ∷ 101 ∷ 110 ∷ 100 ∷ 115 ∷ 58 ∷ 32 ∷ 97 ∷ 116 ∷ 32 ∷ 55 ∷ 49 ∷ 48 ∷ 48 ∷ 48 ∷ 48 ∷ 48 ∷ 48 ∷ 44 ∷ 32 ∷ 111 ∷ 114 ∷ 32 ∷ 119 ∷ 104 ∷ 101 ∷ 110 ∷ 32 ∷ 116 ∷ 104 ∷ 101 ∷ 32 ∷ 108 ∷ 111 ∷ 115 ∷ 115 ∷ 32 ∷ 101 ∷ 110 ∷ 100 ∷ 115 ∷ 10 ∷ []
unfolding telling mep_words message_words condition_words padded digits
held-back-words = refl

-- with L and a Global_ID
condition-words : telling (accepted (record { number = 4; reading = 2; age = 3399998; end = 7000002 })) (condition_words (interface_key 9 1 1) 2 true) 100 (Condition (interface_key 9 1 1))
    ≡ 119 ∷ 104 ∷ 105 ∷ 99 ∷ 104 ∷ 58 ∷ 32 ∷ 114 ∷ 101 ∷ 99 ∷ 111 ∷ 114 ∷ 100 ∷ 32 ∷ 52 ∷ 32 ∷ 97 ∷ 116 ∷ 32 ∷ 50 ∷ 44 ∷ 32 ∷ 65 ∷ 73 ∷ 83 ∷ 44 ∷ 32 ∷ 114 ∷ 101 ∷ 102 ∷ 114 ∷ 101 ∷ 115 ∷ 104 ∷ 32 ∷ 50 ∷ 32 ∷ 115 ∷ 44 ∷ 32 ∷ 76 ∷ 44 ∷ 32 ∷ 105 ∷ 110 ∷ 116 ∷ 101 ∷ 114 ∷ 102 ∷ 97 ∷ 99 ∷ 101 ∷ 32 ∷ 57 ∷ 47 ∷ 49 ∷ 44 ∷ 32 ∷ 71 ∷ 108 ∷ 111 ∷ 98 ∷ 97 ∷ 108 ∷ 95 ∷ 73 ∷ 68 ∷ 32 ∷ 55 ∷ 10 ∷ 104 ∷ 111 ∷ 119 ∷ 32 ∷ 111 ∷ 108 ∷ 100 ∷ 58 ∷ 32 ∷ 51 ∷ 46 ∷ 51 ∷ 57 ∷ 57 ∷ 57 ∷ 57 ∷ 56 ∷ 32 ∷ 115 ∷ 10 ∷ 101 ∷ 110 ∷ 100 ∷ 115 ∷ 58 ∷ 32 ∷ 97 ∷ 116 ∷ 32 ∷ 55 ∷ 48 ∷ 48 ∷ 48 ∷ 48 ∷ 48 ∷ 50 ∷ 44 ∷ 32 ∷ 111 ∷ 114 ∷ 32 ∷ 97 ∷ 116 ∷ 32 ∷ 97 ∷ 32 ∷ 109 ∷ 101 ∷ 115 ∷ 115 ∷ 97 ∷ 103 ∷ 101 ∷ 32 ∷ 111 ∷ 102 ∷ 32 ∷ 116 ∷ 104 ∷ 105 ∷ 115 ∷ 32 ∷ 107 ∷ 101 ∷ 121 ∷ 32 ∷ 119 ∷ 105 ∷ 116 ∷ 104 ∷ 32 ∷ 82 ∷ 10 ∷ []
unfolding telling mep_words message_words condition_words padded digits
condition-words = refl

-- a crossed CV of an LSP: tunnel 2, LSP 3
crossing-words : telling (accepted (record { number = 3; reading = 1000000; age = 9; end = 4500000 })) (message_words (ConnectivityVerification (packet 98) (mep 1 131075))) 100 Crossing
    ≡ 119 ∷ 104 ∷ 105 ∷ 99 ∷ 104 ∷ 58 ∷ 32 ∷ 114 ∷ 101 ∷ 99 ∷ 111 ∷ 114 ∷ 100 ∷ 32 ∷ 51 ∷ 32 ∷ 97 ∷ 116 ∷ 32 ∷ 49 ∷ 48 ∷ 48 ∷ 48 ∷ 48 ∷ 48 ∷ 48 ∷ 44 ∷ 32 ∷ 67 ∷ 86 ∷ 44 ∷ 32 ∷ 89 ∷ 111 ∷ 117 ∷ 114 ∷ 32 ∷ 57 ∷ 56 ∷ 44 ∷ 32 ∷ 102 ∷ 114 ∷ 111 ∷ 109 ∷ 32 ∷ 76 ∷ 83 ∷ 80 ∷ 32 ∷ 49 ∷ 47 ∷ 50 ∷ 48 ∷ 47 ∷ 50 ∷ 47 ∷ 51 ∷ 10 ∷ 104 ∷ 111 ∷ 119 ∷ 32 ∷ 111 ∷ 108 ∷ 100 ∷ 58 ∷ 32 ∷ 48 ∷ 46 ∷ 48 ∷ 48 ∷ 48 ∷ 48 ∷ 48 ∷ 57 ∷ 32 ∷ 115 ∷ 10 ∷ 101 ∷ 110 ∷ 100 ∷ 115 ∷ 58 ∷ 32 ∷ 97 ∷ 116 ∷ 32 ∷ 52 ∷ 53 ∷ 48 ∷ 48 ∷ 48 ∷ 48 ∷ 48 ∷ 44 ∷ 32 ∷ 117 ∷ 110 ∷ 108 ∷ 101 ∷ 115 ∷ 115 ∷ 32 ∷ 97 ∷ 110 ∷ 111 ∷ 116 ∷ 104 ∷ 101 ∷ 114 ∷ 32 ∷ 99 ∷ 114 ∷ 111 ∷ 115 ∷ 115 ∷ 101 ∷ 100 ∷ 32 ∷ 109 ∷ 101 ∷ 115 ∷ 115 ∷ 97 ∷ 103 ∷ 101 ∷ 32 ∷ 99 ∷ 111 ∷ 109 ∷ 101 ∷ 115 ∷ 10 ∷ []
unfolding telling mep_words message_words condition_words padded digits
crossing-words = refl

-- timed from the opening
loss-words : telling (accepted (record { number = 1; reading = 0; age = 4500000; end = 3000001 })) (timed_words Opening) 100 Loss
    ≡ 119 ∷ 104 ∷ 105 ∷ 99 ∷ 104 ∷ 58 ∷ 32 ∷ 114 ∷ 101 ∷ 99 ∷ 111 ∷ 114 ∷ 100 ∷ 32 ∷ 49 ∷ 32 ∷ 97 ∷ 116 ∷ 32 ∷ 48 ∷ 44 ∷ 32 ∷ 111 ∷ 112 ∷ 101 ∷ 110 ∷ 105 ∷ 110 ∷ 103 ∷ 10 ∷ 104 ∷ 111 ∷ 119 ∷ 32 ∷ 111 ∷ 108 ∷ 100 ∷ 58 ∷ 32 ∷ 52 ∷ 46 ∷ 53 ∷ 48 ∷ 48 ∷ 48 ∷ 48 ∷ 48 ∷ 32 ∷ 115 ∷ 10 ∷ 101 ∷ 110 ∷ 100 ∷ 115 ∷ 58 ∷ 32 ∷ 97 ∷ 116 ∷ 32 ∷ 116 ∷ 104 ∷ 101 ∷ 32 ∷ 110 ∷ 101 ∷ 120 ∷ 116 ∷ 32 ∷ 67 ∷ 67 ∷ 32 ∷ 111 ∷ 114 ∷ 32 ∷ 67 ∷ 86 ∷ 32 ∷ 104 ∷ 101 ∷ 97 ∷ 114 ∷ 100 ∷ 44 ∷ 32 ∷ 97 ∷ 32 ∷ 108 ∷ 111 ∷ 99 ∷ 107 ∷ 32 ∷ 111 ∷ 114 ∷ 32 ∷ 97 ∷ 32 ∷ 99 ∷ 108 ∷ 111 ∷ 115 ∷ 101 ∷ 59 ∷ 32 ∷ 115 ∷ 116 ∷ 111 ∷ 111 ∷ 100 ∷ 32 ∷ 102 ∷ 114 ∷ 111 ∷ 109 ∷ 32 ∷ 51 ∷ 48 ∷ 48 ∷ 48 ∷ 48 ∷ 48 ∷ 49 ∷ 10 ∷ []
unfolding telling mep_words message_words condition_words padded digits
loss-words = refl

-- a crossed CC
cc-words : message_words (ContinuityCheck (packet 99))
    ≡ 67 ∷ 67 ∷ 44 ∷ 32 ∷ 89 ∷ 111 ∷ 117 ∷ 114 ∷ 32 ∷ 57 ∷ 57 ∷ []
unfolding telling mep_words message_words condition_words padded digits
cc-words = refl

-- of a Section
section-words : mep_words (mep 0 7)
    ≡ 83 ∷ 101 ∷ 99 ∷ 116 ∷ 105 ∷ 111 ∷ 110 ∷ 32 ∷ 49 ∷ 47 ∷ 50 ∷ 48 ∷ 47 ∷ 55 ∷ []
unfolding telling mep_words message_words condition_words padded digits
section-words = refl

-- of a pseudowire
pseudowire-words : mep_words (mep 2 3)
    ≡ 112 ∷ 115 ∷ 101 ∷ 117 ∷ 100 ∷ 111 ∷ 119 ∷ 105 ∷ 114 ∷ 101 ∷ 32 ∷ 49 ∷ 47 ∷ 50 ∷ 48 ∷ 47 ∷ 51 ∷ []
unfolding telling mep_words message_words condition_words padded digits
pseudowire-words = refl

-- refusal 2
not-open-words : telling (refused 2) [] 4294967295 Loss
    ≡ 114 ∷ 101 ∷ 102 ∷ 117 ∷ 115 ∷ 101 ∷ 100 ∷ 32 ∷ 50 ∷ 58 ∷ 32 ∷ 108 ∷ 97 ∷ 98 ∷ 101 ∷ 108 ∷ 32 ∷ 52 ∷ 50 ∷ 57 ∷ 52 ∷ 57 ∷ 54 ∷ 55 ∷ 50 ∷ 57 ∷ 53 ∷ 32 ∷ 105 ∷ 115 ∷ 32 ∷ 110 ∷ 111 ∷ 116 ∷ 32 ∷ 111 ∷ 112 ∷ 101 ∷ 110 ∷ 10 ∷ []
unfolding telling mep_words message_words condition_words padded digits
not-open-words = refl

-- refusal 15, of each thing
no-crossing-words : telling (refused 15) [] 100 Crossing
    ≡ 114 ∷ 101 ∷ 102 ∷ 117 ∷ 115 ∷ 101 ∷ 100 ∷ 32 ∷ 49 ∷ 53 ∷ 58 ∷ 32 ∷ 110 ∷ 111 ∷ 32 ∷ 99 ∷ 114 ∷ 111 ∷ 115 ∷ 115 ∷ 105 ∷ 110 ∷ 103 ∷ 32 ∷ 115 ∷ 116 ∷ 97 ∷ 110 ∷ 100 ∷ 115 ∷ 10 ∷ []
unfolding telling mep_words message_words condition_words padded digits
no-crossing-words = refl

-- of a loss
no-loss-words : telling (refused 15) [] 100 Loss
    ≡ 114 ∷ 101 ∷ 102 ∷ 117 ∷ 115 ∷ 101 ∷ 100 ∷ 32 ∷ 49 ∷ 53 ∷ 58 ∷ 32 ∷ 110 ∷ 111 ∷ 32 ∷ 108 ∷ 111 ∷ 115 ∷ 115 ∷ 32 ∷ 115 ∷ 116 ∷ 97 ∷ 110 ∷ 100 ∷ 115 ∷ 10 ∷ []
unfolding telling mep_words message_words condition_words padded digits
no-loss-words = refl

-- of a condition
no-condition-words : telling (refused 15) [] 100 (Condition (interface_key 9 1 0))
    ≡ 114 ∷ 101 ∷ 102 ∷ 117 ∷ 115 ∷ 101 ∷ 100 ∷ 32 ∷ 49 ∷ 53 ∷ 58 ∷ 32 ∷ 116 ∷ 104 ∷ 105 ∷ 115 ∷ 32 ∷ 99 ∷ 111 ∷ 110 ∷ 100 ∷ 105 ∷ 116 ∷ 105 ∷ 111 ∷ 110 ∷ 32 ∷ 100 ∷ 111 ∷ 101 ∷ 115 ∷ 32 ∷ 110 ∷ 111 ∷ 116 ∷ 32 ∷ 115 ∷ 116 ∷ 97 ∷ 110 ∷ 100 ∷ 10 ∷ []
unfolding telling mep_words message_words condition_words padded digits
no-condition-words = refl

-- of an alarm held back
not-held-back-words : telling (refused 15) [] 100 HeldBack
    ≡ 114 ∷ 101 ∷ 102 ∷ 117 ∷ 115 ∷ 101 ∷ 100 ∷ 32 ∷ 49 ∷ 53 ∷ 58 ∷ 32 ∷ 110 ∷ 111 ∷ 32 ∷ 97 ∷ 108 ∷ 97 ∷ 114 ∷ 109 ∷ 32 ∷ 105 ∷ 115 ∷ 32 ∷ 104 ∷ 101 ∷ 108 ∷ 100 ∷ 32 ∷ 98 ∷ 97 ∷ 99 ∷ 107 ∷ 10 ∷ []
unfolding telling mep_words message_words condition_words padded digits
not-held-back-words = refl

-- a capture that is cut
cut-words : cut_line 18446744073709551615
    ≡ 99 ∷ 97 ∷ 112 ∷ 116 ∷ 117 ∷ 114 ∷ 101 ∷ 58 ∷ 32 ∷ 99 ∷ 117 ∷ 116 ∷ 32 ∷ 98 ∷ 101 ∷ 104 ∷ 105 ∷ 110 ∷ 100 ∷ 32 ∷ 114 ∷ 101 ∷ 99 ∷ 111 ∷ 114 ∷ 100 ∷ 32 ∷ 49 ∷ 56 ∷ 52 ∷ 52 ∷ 54 ∷ 55 ∷ 52 ∷ 52 ∷ 48 ∷ 55 ∷ 51 ∷ 55 ∷ 48 ∷ 57 ∷ 53 ∷ 53 ∷ 49 ∷ 54 ∷ 49 ∷ 53 ∷ 10 ∷ []
unfolding telling mep_words message_words condition_words padded digits
cut-words = refl
