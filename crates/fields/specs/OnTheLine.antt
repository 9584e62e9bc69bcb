-- Where each field of a message stands among its octets, counted from the channel header's first: the documents' own places, said of the numbers that a host
-- hands in or is handed. The structs between, and the definitions that fill them, have no part in it.
-- Assumes nothing.
use Rattle.std.specs.Prelude.{ℕ, ◌+◌, ◌*◌, ◌/◌, ◌%◌, ◌<◌, ◌≡◌, List, get_or, take, drop}
use Rattle.octets.specs.Numbers.{number_at}
use Rattle.cv.specs.declared.MepId.{MepId}
use Rattle.fields.specs.declared.fields.PacketFields.{PacketFields}
use Rattle.fields.specs.declared.fields.FaultFields.{FaultFields}

-- a BFD control packet behind the header (RFC 5880, 4.1): octet 5 is state (2 bits), P, F, C, A, D, M
pub record PacketStands (m : List ℕ) (f : PacketFields) : Type 0 where
  pub diagnostic : get_or m 4 0 % 32 ≡ f.diagnostic
  pub state : get_or m 5 0 / 64 ≡ f.state
  pub poll : get_or m 5 0 / 32 % 2 ≡ f.poll
  pub fin : get_or m 5 0 / 16 % 2 ≡ f.fin
  pub independent : get_or m 5 0 / 8 % 2 ≡ f.independent
  pub demand : get_or m 5 0 / 2 % 2 ≡ f.demand
  pub multiplier : get_or m 6 0 ≡ f.multiplier
  pub my : number_at 4 m 8 ≡ f.my
  pub your : number_at 4 m 12 ≡ f.your
  pub transmit : number_at 4 m 16 ≡ f.transmit
  pub receive : number_at 4 m 20 ≡ f.receive
  pub echo : number_at 4 m 24 ≡ f.echo

-- the octets of the AGI of a pseudowire's MEP-ID whose type begins at a place: as many as its AGI length says
abbrev pub agi_in : List ℕ → ℕ → MepId → List ℕ
agi_in m place id = take id.size (drop (place + 18) m)

-- the AGI of a pseudowire: its type and its length before it, eight octets of it to a word with the first one highest, and noughts behind them; the length
-- of the value makes up with that of the AGI
pub record AgiStands (m : List ℕ) (place : ℕ) (id : MepId) : Type 0 where
  pub length : number_at 2 m (place + 2) ≡ 14 + id.size
  pub group : get_or m (place + 16) 0 ≡ id.group
  pub size : get_or m (place + 17) 0 ≡ id.size
  pub first : number_at 8 (agi_in m place id) 0 ≡ id.agi.first
  pub second : number_at 8 (agi_in m place id) 8 ≡ id.agi.second
  pub third : number_at 8 (agi_in m place id) 16 ≡ id.agi.third
  pub fourth : number_at 8 (agi_in m place id) 24 ≡ id.agi.fourth

-- a MEP-ID whose type begins at a place (RFC 6428, 3.5): 0, 1 or 2; of the first two the length 12 follows the type
pub record MepStands (m : List ℕ) (place : ℕ) (id : MepId) : Type 0 where
  pub known : id.kind < 3
  pub kind : number_at 2 m place ≡ id.kind
  pub fixed : id.kind < 2 → number_at 2 m (place + 2) ≡ 12
  pub global : number_at 4 m (place + 4) ≡ id.global
  pub node : number_at 4 m (place + 8) ≡ id.node
  pub local : number_at 4 m (place + 12) ≡ id.local
  pub agi : id.kind ≡ 2 → AgiStands m place id

-- an IF_ID TLV: type 1, length 8, Node and Interface (RFC 6427, 4.1)
pub record IfIdStands (m : List ℕ) (place : ℕ) (f : FaultFields) : Type 0 where
  pub kind : get_or m place 0 ≡ 1
  pub size : get_or m (place + 1) 0 ≡ 8
  pub node : number_at 4 m (place + 2) ≡ f.node
  pub interface : number_at 4 m (place + 6) ≡ f.interface

-- a Global_ID TLV: type 2, length 4, the number
pub record GlobalIdStands (m : List ℕ) (place : ℕ) (f : FaultFields) : Type 0 where
  pub kind : get_or m place 0 ≡ 2
  pub size : get_or m (place + 1) 0 ≡ 4
  pub global : number_at 4 m (place + 2) ≡ f.global

-- a plain fault message (RFC 6427, 4): L has value 2 among the flags and R value 1; the TLVs begin at octet 9, and a Global_ID stands behind the IF_ID's ten octets
pub record FaultStands (m : List ℕ) (f : FaultFields) : Type 0 where
  pub kind : get_or m 5 0 ≡ f.kind
  pub linkdown : get_or m 6 0 / 2 % 2 ≡ f.linkdown
  pub removed : get_or m 6 0 % 2 ≡ f.removed
  pub refresh : get_or m 7 0 ≡ f.refresh
  pub total : get_or m 8 0 ≡ f.ifid * 10 + f.globalid * 6
  pub if-id : f.ifid ≡ 1 → IfIdStands m 9 f
  pub global-id : f.globalid ≡ 1 → GlobalIdStands m (9 + f.ifid * 10) f
