-- The same text from the marks, the session's record and what is kept of its last crossed message: what the code puts.
-- Assumes nothing.
use Rattle.std.specs.Prelude.{ℕ, cond, List, [], eqb, take}
use Rattle.std.proofs.Math.Option.{Option, none, some}
use Rattle.message.specs.Message.{message_of}
use Rattle.conditions.specs.declared.Condition.{Condition}
use Rattle.conditions.specs.Standing.{place_stands}
use Rattle.session.specs.declared.Session.{Session}
use Rattle.cause.specs.declared.Marks.{Marks}
use Rattle.cause.specs.declared.Thing.{Thing}
use Rattle.cause.specs.declared.Thing.TheVariants.{Crossing, Loss, Condition as OfKey, HeldBack}
use Rattle.cause.specs.FromMarks.{best_of, stands_as, why_from}
use Rattle.inquiry.specs.Vocabulary.{w_opening, w_unlock, w_cc, w_cv}
use Rattle.inquiry.specs.Words.{message_words, condition_words, telling}

-- what it was timed by, by its number
abbrev pub timed_words_by : ℕ → List ℕ
timed_words_by n = cond (eqb n 0) w_opening (cond (eqb n 1) w_unlock (cond (eqb n 2) w_cc w_cv))

abbrev pub place_words : Condition → List ℕ
place_words c = condition_words c.key c.refresh (eqb c.linkdown 1)

-- the words for the record that is named
unfoldable pub words_from : Marks → Session → ℕ → List ℕ → Thing → List ℕ
words_from m r now kept Crossing = message_words (message_of (take m.size kept))
words_from m r now kept Loss = timed_words_by m.by
words_from m r now kept (OfKey key) = place_words (best_of (stands_as key now) r.conditions m).place
words_from m r now kept HeldBack = place_words (best_of (λ c. place_stands c now) r.conditions m).place

abbrev pub words_in : Marks → Option Session → ℕ → List ℕ → Thing → List ℕ
words_in m none now kept thing = []
words_in m (some r) now kept thing = words_from m r now kept thing

unfoldable pub telling_from : Marks → Option Session → ℕ → List ℕ → ℕ → Thing → List ℕ
telling_from m o now kept l thing = telling (why_from m o now thing) (words_in m o now kept thing) l thing
