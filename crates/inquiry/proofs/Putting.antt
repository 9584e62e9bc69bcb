-- A digit, and a message by its channel, put into a buffer.
-- Assumes nothing.
use Prim.Native.Nat.{ℕ, ◌+◌, ◌%◌, ◌<◌}
use native.Mathlib.Omega.{arith}
use native.Mathlib.Nat.{mod-eq_of_lt}
use mathlib.Core.Path.{◌≡◌, sym, ap, ◌∙◌}
use mathlib.Core.List.{List, [], ◌∷◌, ◌++◌, append_assoc}
use borrow.Author.Tests.{eq-eqb, ne_eqb}
use Rattle.gach.specs.Header.{cc_channel, cv_channel, channel_of}
use Rattle.bfd.specs.Packet.{packet_of}
use Rattle.cv.specs.declared.MepId.{MepId}
use Rattle.cv.specs.MepId.{mep_id_at}
use Rattle.cv.specs.Cv.{mep_part}
use Rattle.message.specs.declared.Message.{Message}
use Rattle.message.specs.declared.Message.TheVariants.{ContinuityCheck, ConnectivityVerification}
use Rattle.message.specs.Message.{message_of}
use Rattle.capture.specs.Lines.{decimal}
use Rattle.capture.specs.Typing.{Put, typed}
use Rattle.capture.proofs.Digits.{one-digit}
use Rattle.capture.proofs.Typing.{typed-none, typed-join}
use Rattle.inquiry.specs.Vocabulary.{w_cc, w_cv, w_your, w_from}
use Rattle.inquiry.specs.Words.{mep_words, message_words}

-- two texts, one behind the other
pub joined : (p : Put) (xs ys : List ℕ) → typed (typed p xs) ys ≡ typed p (xs ++ ys)
joined p xs ys = sym (typed-join xs ys p)

pub ruleset parts = (joined, append_assoc, typed-none)

-- one digit put as a number
pub digit_put : (p : Put) (n : ℕ) {r : Put} → r ≡ typed p (decimal (n % 10)) → r ≡ typed p ((48 + n % 10) ∷ [])
digit_put p n e =
    let small : n % 10 < 10 = omega arith in
    e ∙ ap (typed p) (one-digit 19 (n % 10) small ∙ rw (mod-eq_of_lt small))

module _ (p : Put) (m : List ℕ) {r : Put} {channel : ℕ} where
  pub cc-put : {your : ℕ} → channel ≡ channel_of m → your ≡ (packet_of m).your → channel ≡ cc_channel → r ≡ typed p (w_cc ++ w_your ++ decimal your)
      → r ≡ typed p (message_words (message_of m))
  unfolding message_of message_words
  cc-put e f t put =
      let is : message_of m ≡ ContinuityCheck (packet_of m) = rw (eq-eqb (channel_of m) cc_channel (sym e ∙ t)) in
      put ∙ ap (λ (x : ℕ). typed p (w_cc ++ w_your ++ decimal x)) f ∙ ap (λ (x : Message). typed p (message_words x)) (sym is)

  pub cv-put : {your : ℕ} {id : MepId} {part : List ℕ} → channel ≡ channel_of m → your ≡ (packet_of m).your → (channel ≡ cc_channel → ⊥) → channel ≡ cv_channel
      → id ≡ mep_id_at part 0 → part ≡ mep_part m → r ≡ typed p (w_cv ++ w_your ++ decimal your ++ w_from ++ mep_words id)
      → r ≡ typed p (message_words (message_of m))
  unfolding message_of message_words
  cv-put {id = id} e f other t g h put =
      let is : message_of m ≡ ConnectivityVerification (packet_of m) (mep_id_at (mep_part m) 0) =
      rw (ne_eqb (channel_of m) cc_channel (λ o. other (e ∙ o)), eq-eqb (channel_of m) cv_channel (sym e ∙ t)) in
      let mep : id ≡ mep_id_at (mep_part m) 0 = g ∙ ap (λ (o : List ℕ). mep_id_at o 0) h in
      put ∙ ap (λ (x : ℕ). typed p (w_cv ++ w_your ++ decimal x ++ w_from ++ mep_words id)) f
      ∙ ap (λ (x : MepId). typed p (message_words (ConnectivityVerification (packet_of m) x))) mep ∙ ap (λ (x : Message). typed p (message_words x)) (sym is)

-- neither of them: nothing is put
pub none-put : (p : Put) (m : List ℕ) {channel : ℕ} → channel ≡ channel_of m → (channel ≡ cc_channel → ⊥) → (channel ≡ cv_channel → ⊥)
    → p ≡ typed p (message_words (message_of m))
unfolding message_of message_words
none-put p m e other neither =
    rw (ne_eqb (channel_of m) cc_channel (λ o. other (e ∙ o)), ne_eqb (channel_of m) cv_channel (λ o. neither (e ∙ o))) (typed-none p)
