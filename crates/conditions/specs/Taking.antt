-- What an accepted fault message does to the four places: one path for a new, a renewed and a cleared condition. The message's key
-- is forgotten, and where R is clear the condition takes the first place in which none stands.
-- Assumes nothing.
use Rattle.std.specs.Prelude.{ℕ, Bool, cond, not, ◌&&◌, eqb}
use Rattle.octets.specs.Choice.{bit_of}
use Rattle.fault.specs.declared.Fault.{Fault}
use Rattle.rules.specs.declared.Key.{Key}
use Rattle.rules.specs.Conditions.{key_of, same_key}
use Rattle.conditions.specs.declared.Condition.{Condition}
use Rattle.conditions.specs.declared.Conditions.{Conditions}
use Rattle.conditions.specs.Standing.{place_stands}

-- a place that holds nothing
abbrev pub empty : Condition
empty =
    record {
      at = 0;
      key = record { node = 0; interface = 0; global = 0; kind = 0; present = 0; carrier = 0 };
      refresh = 0;
      linkdown = 0;
    }

-- no condition: what a session starts with
abbrev pub no_conditions : Conditions
no_conditions = record { first = empty; second = empty; third = empty; fourth = empty }

abbrev pub without : Key → Condition → Condition
without key c = cond (same_key c.key key) empty c

unfoldable pub forgotten : Conditions → Key → Conditions
forgotten cs key =
    record {
      first = without key cs.first;
      second = without key cs.second;
      third = without key cs.third;
      fourth = without key cs.fourth;
    }

-- the first place in which no condition stands, counted from 0; 4 where four stand
unfoldable pub free_place : Conditions → ℕ → ℕ
free_place cs now =
    cond (place_stands cs.first now)
    (cond (place_stands cs.second now)
    (cond (place_stands cs.third now)
    (cond (place_stands cs.fourth now) 4 3) 2) 1) 0

-- a condition put into a place; there is no place 4
unfoldable pub placed : Conditions → ℕ → Condition → Conditions
placed cs place c =
    record {
      first = cond (eqb place 0) c cs.first;
      second = cond (eqb place 1) c cs.second;
      third = cond (eqb place 2) c cs.third;
      fourth = cond (eqb place 3) c cs.fourth;
    }

-- the condition that a message with R clear tells of, dated from its reading
abbrev pub condition_of : Fault → ℕ → Condition
condition_of f now = record { at = now; key = key_of f; refresh = f.refresh; linkdown = bit_of f.linkdown }

-- refusal 9: R clear, the key does not stand, and four others do
unfoldable pub fault_answer : Conditions → Fault → ℕ → ℕ
fault_answer cs f now = cond (not f.removed && eqb (free_place (forgotten cs (key_of f)) now) 4) 9 0

unfoldable pub taken_in : Conditions → Fault → ℕ → Conditions
taken_in cs f now =
    placed (forgotten cs (key_of f)) (cond f.removed 4 (free_place (forgotten cs (key_of f)) now)) (condition_of f now)
