-- A store and a table as they are written over lent bytes.
use Rattle.std.specs.Prelude.{◌≡◌, Bool, true, false, List, ℕ, ◌<◌, ◌^◌, length, take, get_or}
use Rattle.std.proofs.Math.Option.{none}
use Rattle.density.specs.declared.Site.{Site}
use Rattle.density.specs.Network.{no_site}
use Rattle.table.specs.Table.{overlay}
use Rattle.records.specs.declared.RollArray.{RollArray}
use Rattle.records.specs.Values.{roll_array}
use Rattle.records.specs.Write.{onto}
use Rattle.held_state.specs.declared.Store.{Store}
use Rattle.layout.specs.Layout.{front_bytes, store_bytes, store_in, sites_in, table_over}

-- What the writers leave, and that it reads back where the figures have the width and there is no roll where the edition has none.
pub record PutStore (w : ℕ) (r : Bool) (s : Store) (last : List ℕ) : Type 0 where
  pub bytes : last ≡ store_bytes w r s
  pub reads : ((i : ℕ) → get_or s.shares i 0 < 256 ^ w) → (r ≡ false → s.roll ≡ roll_array none) → store_in w r last ≡ s

-- a store that holds a plan
abbrev pub held_store : ℕ → ℕ → List ℕ → List ℕ → RollArray → Store
held_store count grouped groups shares roll = record { count = count; held = true; grouped = grouped; groups = groups; shares = shares; roll = roll }

-- What stands in front of a roll is written, and what stands behind it is as it was.
abbrev pub PutFront : ℕ → Store → List ℕ → List ℕ → Type 0
PutFront w s first last = last ≡ onto (front_bytes w s) first

pub record PutSites (w n : ℕ) (sites : List Site) (t last : List ℕ) : Type 0 where
  pub bytes : last ≡ table_over w (take n sites) t
  pub reads : ((i : ℕ) → i < n → (get_or sites i no_site).litres < 256 ^ w) → sites_in w last ≡ overlay n sites (sites_in w t)
  -- by its type
  pub many : length sites ≡ 512
