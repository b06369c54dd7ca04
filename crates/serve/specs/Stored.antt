-- The places of the table that a call stores: a load those of all sites loaded, a change that of its site, an add that behind the sites held, and the
-- other calls none. A decision says how many of its sites, from the first on, go to the table: 0 where the call is refused or
-- changes no site.
use Rattle.std.specs.Prelude.{cond, ℕ, ◌+◌, ◌≤◌, ltb}
use Rattle.store.specs.declared.Request.{Request}
use Rattle.store.specs.declared.Request.TheVariants.{Load, Change, Add, Propose, Share, Depot, Difference, Written, AtLeast, ListWritten}
use Rattle.serve.specs.declared.Places.{Places}

abbrev pub none : Places
none = record { from = 0; to = 0 }

abbrev pub alone : ℕ → Places
alone i = record { from = i; to = i + 1 }

-- the place i alone, if it is one of the first n
abbrev pub one : ℕ → ℕ → Places
one i n = cond (ltb i n) (alone i) none

-- at a store with so many sites, where the decision says n
abbrev pub stored_of : Request → ℕ → ℕ → Places
stored_of Load count n = record { from = 0; to = n }
stored_of (Change i w) count n = one i n
stored_of (Add f s w) count n = one count n
stored_of Propose count n = none
stored_of (Share i) count n = none
stored_of (Depot d) count n = none
stored_of (Difference a b) count n = none
stored_of Written count n = none
stored_of (AtLeast m) count n = none
stored_of ListWritten count n = none

-- places that are some of the first n
pub record Among (n : ℕ) (p : Places) : Type 0 where
  pub ordered : p.from ≤ p.to
  pub first : p.to ≤ n
