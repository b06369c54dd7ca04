-- What laying does to a depot's load.
use Rattle.std.specs.Prelude.{List, ℕ, ◌+◌, set}
use Rattle.residual.specs.Array.{at}

-- the array with m more at place i
abbrev pub raise : List ℕ → ℕ → ℕ → List ℕ
raise xs i m = set xs i (at xs i + m)
