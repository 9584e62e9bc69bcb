-- What is written into an index file reads back: its head, and each entry with its record, which has no group.
-- Assumes nothing.
use Prim.Native.Nat.{ℕ, ◌^◌, ◌<◌}
use mathlib.Core.Path.{◌≡◌, sym}
use mathlib.Core.List.{List, ◌∷◌}
use Rattle.octets.specs.Numbers.{octets_of}
use Rattle.octets.proofs.Numbers.{read_of}
use Rattle.cv.specs.declared.Agi.{Agi}
use Rattle.cv.specs.declared.MepId.{MepId}
use Rattle.rules.specs.declared.Key.{Key}
use Rattle.rules.specs.declared.Settings.{Settings}
use Rattle.conditions.specs.declared.Condition.{Condition}
use Rattle.conditions.specs.declared.Conditions.{Conditions}
use Rattle.session.specs.declared.Peer.{Peer}
use Rattle.session.specs.declared.Session.{Session}
use Rattle.own.proofs.Ungrouped.{Ungrouped}
use Rattle.indexing.specs.declared.IndexHead.{IndexHead}
use Rattle.index_file.specs.declared.Entry.{Entry}
use Rattle.index_file.specs.Octets.{key_octets, condition_octets, conditions_octets, agi_octets, mep_octets, settings_octets, peer_octets, session_octets, entry_octets, head_octets, key_in, condition_in, conditions_in, agi_in, mep_in, settings_in, peer_in, session_in, entry_in, head_in}

-- the ranges of the code's own numbers, as far as a number takes more than one octet
pub record KeyInRange (k : Key) : Type 0 where
  pub node : k.node < 256 ^ 4
  pub interface : k.interface < 256 ^ 4
  pub global : k.global < 256 ^ 4

pub record ConditionInRange (c : Condition) : Type 0 where
  pub at : c.at < 256 ^ 8
  pub key : KeyInRange c.key

pub record ConditionsInRange (cs : Conditions) : Type 0 where
  pub first : ConditionInRange cs.first
  pub second : ConditionInRange cs.second
  pub third : ConditionInRange cs.third
  pub fourth : ConditionInRange cs.fourth

pub record AgiInRange (a : Agi) : Type 0 where
  pub first : a.first < 256 ^ 8
  pub second : a.second < 256 ^ 8
  pub third : a.third < 256 ^ 8
  pub fourth : a.fourth < 256 ^ 8

pub record MepInRange (m : MepId) : Type 0 where
  pub agi : AgiInRange m.agi
  pub global : m.global < 256 ^ 4
  pub node : m.node < 256 ^ 4
  pub local : m.local < 256 ^ 4
  pub kind : m.kind < 256 ^ 2

pub record SettingsInRange (g : Settings) : Type 0 where
  pub own : MepInRange g.own
  pub expected : MepInRange g.expected
  pub label : g.label < 256 ^ 4
  pub discriminator : g.discriminator < 256 ^ 4
  pub period : g.period < 256 ^ 4

pub record SessionInRange (s : Session) : Type 0 where
  pub timed : s.timed < 256 ^ 8
  pub crossed : s.crossed < 256 ^ 8
  pub conditions : ConditionsInRange s.conditions
  pub settings : SettingsInRange s.settings
  pub remote : s.peer.remote < 256 ^ 4

pub record EntryInRange (e : Entry) : Type 0 where
  pub clock : e.clock < 256 ^ 8
  pub place : e.place < 256 ^ 8
  pub session : SessionInRange e.session

pub record HeadInRange (h : IndexHead) : Type 0 where
  pub length : h.length < 256 ^ 8
  pub label : h.label < 256 ^ 4
  pub count : h.count < 256 ^ 4

key_back : (k : Key) (rest : List ℕ) → KeyInRange k → key_in (key_octets k rest) ≡ k
key_back k rest h =
    let ends = k.kind ∷ k.present ∷ k.carrier ∷ rest in
    let node = read_of 4 k.node (octets_of 4 k.interface (octets_of 4 k.global ends)) h.node in
    let interface = read_of 4 k.interface (octets_of 4 k.global ends) h.interface in
    let global = read_of 4 k.global ends h.global in
    λ i. record { node = node i; interface = interface i; global = global i; kind = k.kind; present = k.present; carrier = k.carrier }

condition-back : (c : Condition) (rest : List ℕ) → ConditionInRange c → condition_in (condition_octets c rest) ≡ c
condition-back c rest h =
    let ends = c.refresh ∷ c.linkdown ∷ rest in
    let at = read_of 8 c.at (key_octets c.key ends) h.at in
    let key = key_back c.key ends h.key in
    λ i. record { at = at i; key = key i; refresh = c.refresh; linkdown = c.linkdown }

conditions-back : (cs : Conditions) (rest : List ℕ) → ConditionsInRange cs → conditions_in (conditions_octets cs rest) ≡ cs
unfolding conditions_in
conditions-back cs rest h =
    let fourth = condition-back cs.fourth rest h.fourth in
    let third = condition-back cs.third (condition_octets cs.fourth rest) h.third in
    let second = condition-back cs.second (condition_octets cs.third (condition_octets cs.fourth rest)) h.second in
    let first = condition-back cs.first (condition_octets cs.second (condition_octets cs.third (condition_octets cs.fourth rest))) h.first in
    λ i. record { first = first i; second = second i; third = third i; fourth = fourth i }

agi-back : (a : Agi) (rest : List ℕ) → AgiInRange a → agi_in (agi_octets a rest) ≡ a
agi-back a rest h =
    let fourth = read_of 8 a.fourth rest h.fourth in
    let third = read_of 8 a.third (octets_of 8 a.fourth rest) h.third in
    let second = read_of 8 a.second (octets_of 8 a.third (octets_of 8 a.fourth rest)) h.second in
    let first = read_of 8 a.first (octets_of 8 a.second (octets_of 8 a.third (octets_of 8 a.fourth rest))) h.first in
    λ i. record { first = first i; second = second i; third = third i; fourth = fourth i }

mep-back : (m : MepId) (rest : List ℕ) → MepInRange m → mep_in (mep_octets m rest) ≡ m
mep-back m rest h =
    let ends = octets_of 2 m.kind (m.group ∷ m.size ∷ rest) in
    let kind = read_of 2 m.kind (m.group ∷ m.size ∷ rest) h.kind in
    let local = read_of 4 m.local ends h.local in
    let node = read_of 4 m.node (octets_of 4 m.local ends) h.node in
    let global = read_of 4 m.global (octets_of 4 m.node (octets_of 4 m.local ends)) h.global in
    let agi = agi-back m.agi (octets_of 4 m.global (octets_of 4 m.node (octets_of 4 m.local ends))) h.agi in
    λ i. record { agi = agi i; global = global i; node = node i; local = local i; kind = kind i; group = m.group; size = m.size }

settings-back : (g : Settings) (rest : List ℕ) → SettingsInRange g → settings_in (settings_octets g rest) ≡ g
unfolding settings_in
settings-back g rest h =
    let marks = g.followlink ∷ g.followlock ∷ g.mode ∷ rest in
    let numbers = octets_of 4 g.label (octets_of 4 g.discriminator (octets_of 4 g.period marks)) in
    let period = read_of 4 g.period marks h.period in
    let discriminator = read_of 4 g.discriminator (octets_of 4 g.period marks) h.discriminator in
    let label = read_of 4 g.label (octets_of 4 g.discriminator (octets_of 4 g.period marks)) h.label in
    let expected = mep-back g.expected numbers h.expected in
    let own = mep-back g.own (mep_octets g.expected numbers) h.own in
    λ i. record {
      own = own i;
      expected = expected i;
      label = label i;
      discriminator = discriminator i;
      period = period i;
      followlink = g.followlink;
      followlock = g.followlock;
      mode = g.mode;
    }

peer-back : (p : Peer) (rest : List ℕ) → p.remote < 256 ^ 4 → peer_in (peer_octets p rest) ≡ p
unfolding peer_in
peer-back p rest h =
    let remote = read_of 4 p.remote (p.multiplier ∷ p.diagnostic ∷ p.owed ∷ rest) h in
    λ i. record { remote = remote i; multiplier = p.multiplier; diagnostic = p.diagnostic; owed = p.owed }

session-back : (s : Session) (rest : List ℕ) → SessionInRange s → Ungrouped s → session_in (session_octets s rest) ≡ s
unfolding session_in
session-back s rest h none =
    let ends = s.state ∷ s.crossing ∷ rest in
    let late = settings_octets s.settings (peer_octets s.peer ends) in
    let peer = peer-back s.peer ends h.remote in
    let settings = settings-back s.settings (peer_octets s.peer ends) h.settings in
    let conditions = conditions-back s.conditions late h.conditions in
    let crossed = read_of 8 s.crossed (conditions_octets s.conditions late) h.crossed in
    let timed = read_of 8 s.timed (octets_of 8 s.crossed (conditions_octets s.conditions late)) h.timed in
    λ i. record {
      timed = timed i;
      crossed = crossed i;
      conditions = conditions i;
      settings = settings i;
      peer = peer i;
      state = s.state;
      crossing = s.crossing;
      group = sym none i;
    }

-- an entry whose record has no group, whatever stands behind it
pub entry-back : (e : Entry) (rest : List ℕ) → EntryInRange e → Ungrouped e.session → entry_in (entry_octets e rest) ≡ e
unfolding entry_in
entry-back e rest h none =
    let session = session-back e.session rest h.session none in
    let place = read_of 8 e.place (session_octets e.session rest) h.place in
    let clock = read_of 8 e.clock (octets_of 8 e.place (session_octets e.session rest)) h.clock in
    λ i. record { clock = clock i; place = place i; session = session i }

-- the head, whatever stands behind it
pub head-back : (h : IndexHead) (rest : List ℕ) → HeadInRange h → head_in (head_octets h rest) ≡ h
head-back h rest r =
    let count = read_of 4 h.count rest r.count in
    let label = read_of 4 h.label (octets_of 4 h.count rest) r.label in
    let length = read_of 8 h.length (octets_of 4 h.label (octets_of 4 h.count rest)) r.length in
    λ i. record { length = length i; label = label i; count = count i }
