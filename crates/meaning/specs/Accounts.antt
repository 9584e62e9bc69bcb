-- Which calls account for what stands: positions in the history, accepted calls, their arguments and readings, and nothing that was
-- computed from them, but for the state of a source ("While a thing stands, these calls account for it").
-- Assumes nothing.
use Rattle.std.specs.Prelude.{ℕ, suc, ◌+◌, ◌*◌, ◌<◌, ◌≡◌, true, false, List, ◌⊎◌, ◌↔◌}
use Rattle.std.proofs.Math.Option.{some}
use Rattle.bfd.specs.declared.Packet.{Packet}
use Rattle.fault.specs.declared.Fault.{Fault}
use Rattle.message.specs.Message.{message_of}
use Rattle.rules.specs.declared.Key.{Key}
use Rattle.rules.specs.declared.Settings.{Settings}
use Rattle.rules.specs.declared.Received.{Received}
use Rattle.rules.specs.declared.Received.TheVariants.{CrossedMessage, HeardCc, HeardCv, FaultMessage}
use Rattle.rules.specs.Received.{received_as}
use Rattle.rules.specs.Conditions.{key_of, same_key}
use Rattle.rules.specs.Lists.{any, once}
use Rattle.rules.specs.Modes.{mode_in, is_source_up}
use Rattle.rules.specs.Calls.{Close, Lock, Unlock, Receive, Call, Open, On, is_accepted}
use Rattle.meaning.specs.Stories.{Story}
use Rattle.meaning.specs.Standing.{state}
use Rattle.meaning.specs.Histories.{History, start, after, story}

-- how many calls a history has: the position of the next
unfoldable pub size : History → ℕ
size start = 0
size (after h c a) = suc (size h)

-- an accepted call c stands at position p
unfoldable pub Took : History → ℕ → Call → Type 0
Took start p c = ⊥
Took (after h d a) p c = ((p ≡ size h) × (c ≡ d) × (is_accepted a ≡ true)) ⊎ Took h p c

-- the opening of a label that is open: the last accepted open, at position o, with no accepted close since
pub record Opening (h : History) (l o : ℕ) (g : Settings) (t : ℕ) : Type 0 where
  pub took : Took h o (Open g t)
  pub label : g.label ≡ l
  pub latest : (p u : ℕ) (k : Settings) → o < p → Took h p (Open k u) → k.label ≡ l → ⊥
  pub unclosed : (p u : ℕ) → o < p → Took h p (On l (Close u)) → ⊥

-- a message that was accepted on the label since the opening, and what it was
pub record ReceivedSince (h : History) (l o : ℕ) (g : Settings) (p t : ℕ) (x : Received) : Type 0 where
  pub message : (m : _) × Took h p (On l (Receive m t)) × (received_as g (message_of m) ≡ x)
  pub since : o < p

-- just before position p the session is locked: a lock since the opening with no unlock between
pub record LockedBefore (h : History) (l o p : ℕ) : Type 0 where
  pub at : ℕ
  pub reading : ℕ
  pub since : o < at
  pub before : at < p
  pub took : Took h at (On l (Lock reading))
  pub still : (q u : ℕ) → at < q → q < p → Took h q (On l (Unlock u)) → ⊥

-- an unlock is real when accepted while locked
pub record RealUnlock (h : History) (l o p t : ℕ) : Type 0 where
  pub took : Took h p (On l (Unlock t))
  pub locked : LockedBefore h l o p

-- what the detection time is timed from: the opening, a real unlock, a heard message
pub data Restart (h : History) (l o : ℕ) (g : Settings) (p t : ℕ) : Type 0 where
  by_opening : p ≡ o → Took h o (Open g t) → Restart h l o g p t
  by_unlock : RealUnlock h l o p t → Restart h l o g p t
  by_cc : (packet : Packet) → ReceivedSince h l o g p t (HeardCc packet) → Restart h l o g p t
  by_cv : ReceivedSince h l o g p t HeardCv → Restart h l o g p t

-- the multiplier: that of the last heard CC since opening or real unlock, else 3
pub data Multiplier (h : History) (l o : ℕ) (g : Settings) : ℕ → Type 0 where
  heard : (p t : ℕ) (packet : Packet) → ReceivedSince h l o g p t (HeardCc packet)
      → ((q u : ℕ) (other : Packet) → p < q → ReceivedSince h l o g q u (HeardCc other) → ⊥) → ((q u : ℕ) → p < q → RealUnlock h l o q u → ⊥)
      → Multiplier h l o g packet.multiplier
  unheard : ((p t : ℕ) (packet : Packet) → ReceivedSince h l o g p t (HeardCc packet) → (q : ℕ) × (u : ℕ) × (p < q) × RealUnlock h l o q u)
      → Multiplier h l o g 3

-- for a crossing: each crossed message since the opening, less than 3,500,000 before now
pub record AccountsForCrossing (h : History) (l now p : ℕ) : Type 0 where
  pub o : ℕ
  pub settings : Settings
  pub opened_at : ℕ
  pub opening : Opening h l o settings opened_at
  pub reading : ℕ
  pub message : ReceivedSince h l o settings p reading CrossedMessage
  pub fresh : now < reading + 3500000

-- for a loss: the opening, real unlock or heard message that it is timed from; of equal readings the later call
pub record AccountsForLoss (h : History) (l now p : ℕ) : Type 0 where
  pub o : ℕ
  pub settings : Settings
  pub opened_at : ℕ
  pub opening : Opening h l o settings opened_at
  pub reading : ℕ
  pub restart : Restart h l o settings p reading
  pub latest : (q u : ℕ) → p < q → Restart h l o settings q u → ⊥
  pub unlocked : LockedBefore h l o (size h) → ⊥
  -- a source that the accepted calls leave in UP has no loss
  pub exposed : (s : Story) → story l h ≡ some s → is_source_up (mode_in settings) (state s) ≡ false
  pub multiplier : ℕ
  pub times : Multiplier h l o settings multiplier
  pub over : reading + settings.period * multiplier < now

-- for a condition: its key's last accepted message, R clear, less than 3,500,000 times its refresh before now
pub record AccountsForCondition (h : History) (l : ℕ) (key : Key) (now p : ℕ) : Type 0 where
  pub o : ℕ
  pub settings : Settings
  pub opened_at : ℕ
  pub opening : Opening h l o settings opened_at
  pub reading : ℕ
  pub fault : Fault
  pub message : ReceivedSince h l o settings p reading (FaultMessage fault)
  pub own : same_key (key_of fault) key ≡ true
  pub latest : (q u : ℕ) (other : Fault) → p < q → ReceivedSince h l o settings q u (FaultMessage other) → same_key (key_of other) key ≡ true → ⊥
  pub present : fault.removed ≡ false
  pub fresh : now < reading + 3500000 * fault.refresh

-- the keys so accounted for: a list that has each of them once and no other key
pub record AccountedKeys (h : History) (l now : ℕ) (keys : List Key) : Type 0 where
  pub each-once : once same_key keys ≡ true
  pub exactly : (key : Key) → (any (same_key key) keys ≡ true) ↔ ((p : ℕ) × AccountsForCondition h l key now p)

-- for a held-back alarm: a loss is accounted for, and those of its standing conditions account for the alarm
pub record AccountsForHeldBack (h : History) (l now p : ℕ) : Type 0 where
  pub loss : (q : ℕ) × AccountsForLoss h l now q
  pub condition : (key : Key) × AccountsForCondition h l key now p
