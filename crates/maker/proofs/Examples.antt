-- T and an own site get plans that differ: Make is not "a maker with one plan for every list". Assumes nothing.
use mathlib.Core.Path.{◌≡◌, refl, sym, ap, ◌∙◌}
use mathlib.Core.List.{List, [], ◌∷◌}
use mathlib.Core.Option.{none}
use Prim.Native.Nat.{ℕ}
use native.Mathlib.Omega.{arith}
use lib.Dec.{T, lit<}
use lib.ListN.{take}
use Rattle.sets.specs.Sum.{all, any}
use Rattle.density.specs.Network.{Listing, network, depots_in_range, crews_above, sites_uncrewed, in_range}
use Rattle.density.specs.Groups.{groups_of}
use Rattle.density.specs.Rows.{first_row}
use Rattle.density.specs.Examples.{own, starred}
use Rattle.density.proofs.Lists.{valid}
use Rattle.density.proofs.Examples.{starred-known}
use Rattle.density.proofs.Existence.{decomposition-is}
use Rattle.std.specs.declared.result.Result.TheVariants.{Ok}
use Rattle.records.specs.Bytes.{value}
use Rattle.records.specs.Record.{records}
use Rattle.records.specs.Outcome.{passed}
use Rattle.records.specs.Format.{edition1, edition_of, read_list, plan_of}
use Rattle.records.specs.Samples.{list_t, list_own}
use Rattle.records.proofs.Samples.{T as T-list, T-read}
use Rattle.maker.specs.Make.{Made}
use Rattle.maker.proofs.Made.{groups-written}

abbrev sites_o : Listing
sites_o = record { sites = own 0 7 ∷ []; roll = none }

reads-O : read_list edition1 512 list_own ≡ passed sites_o
unfolding read_list first_row value records crews_above sites_uncrewed any
reads-O = refl

in-range-T : T (in_range T-list)
unfolding in_range depots_in_range crews_above sites_uncrewed all any
in-range-T = tt

in-range-O : T (in_range sites_o)
unfolding in_range depots_in_range crews_above sites_uncrewed all any
in-range-O = tt

groups-T : groups_of (network T-list) ≡ 3 ∷ []
unfolding starred
groups-T = sym (decomposition-is (network T-list) (valid T-list in-range-T) (3 ∷ []) (starred-known 1 (lit< tt)).plan.groups)

groups-O : groups_of (network sites_o) ≡ 1 ∷ []
unfolding starred
groups-O = sym (decomposition-is (network sites_o) (valid sites_o in-range-O) (1 ∷ []) (starred-known 2 (lit< tt)).plan.groups)

pub not-one-plan : (out out' last last' : List ℕ) (n n' : ℕ) → Made (edition_of list_t) (read_list (edition_of list_t) 512 list_t) out (Ok n) last
    → Made (edition_of list_own) (read_list (edition_of list_own) 512 list_own) out' (Ok n') last' → take n last ≡ take n' last' → ⊥
unfolding value
not-one-plan out out' last last' n n' m m' e =
    let g = groups-written edition1 list_t out last n T-read m in
    let g' = groups-written edition1 list_own out' last' n' reads-O m' in
    let k : ◌≡◌ {A = List ℕ} (3 ∷ []) (1 ∷ []) = sym groups-T ∙ sym g ∙ ap (λ (s : List ℕ). (plan_of edition1 1 s).groups) e ∙ g' ∙ groups-O in
    let z : ◌≡◌ {A = ℕ} 3 1 = cc in
    omega arith
