-- Stores for the examples of row 0.
use Rattle.std.specs.Prelude.{true, false, List, ℕ, replicate}
use Rattle.std.proofs.Math.Option.{none}
use Rattle.records.specs.declared.RollArray.{RollArray}
use Rattle.records.specs.Values.{roll_array}
use Rattle.held_state.specs.declared.Store.{Store}

-- a store of n sites and no plan with this roll, one without a roll, and one with a plan of k groups
abbrev pub crewed : ℕ → RollArray → Store
crewed n roll = record { count = n; held = false; grouped = 0; groups = replicate 64 0; shares = replicate 512 0; roll = roll }

abbrev pub without : ℕ → Store
without n = crewed n (roll_array none)

abbrev pub with : ℕ → ℕ → List ℕ → List ℕ → Store
with n k gs ss = record { count = n; held = true; grouped = k; groups = gs; shares = ss; roll = roll_array none }
