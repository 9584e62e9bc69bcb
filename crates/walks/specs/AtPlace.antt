-- A call that concerns one record of the row, by its place: what it says and what it leaves, whatever the call is.
--     goes     the place of a request.        unmet     what is said where the row has no such place
--     act      what the request and its octets do with the record there.        put      the record to store.        said     what is said of it
-- Assumes nothing.
use Rattle.std.specs.Prelude.{ℕ, cond, List, ltb, length, get_or, set}

-- what a call says, and the row afterwards
pub record Afterwards (O R : Type 0) : Type 0 where
  pub outcome : O
  pub row : List R

-- past the row's end nothing is stored
unfoldable pub at_place : {R X D O : Type 0} → (X → ℕ) → (X → O) → (R → X → List ℕ → D) → (R → D → R) → (X → D → O) → R → List R → X → List ℕ → Afterwards O R
at_place goes unmet act put said past row x m =
    let s = get_or row (goes x) past in
    let d = act s x m in
    cond (ltb (goes x) (length row)) (record { outcome = said x d; row = set row (goes x) (put s d) }) (record { outcome = unmet x; row = row })
