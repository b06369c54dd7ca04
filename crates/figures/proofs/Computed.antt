-- The tables of the plan made hold the figures of the definition. Assumes nothing.
use mathlib.Core.Path.{◌≡◌}
use mathlib.Core.List.{List}
use Prim.Native.Nat.{ℕ, ◌≤◌}
use native.Mathlib.Omega.{arith}
use lib.Dec.{T}
use lib.ListN.{length}
use Rattle.density.specs.Network.{Listing, network, in_range}
use Rattle.density.specs.Plan.{place, group_size}
use Rattle.density.proofs.Lists.{valid}
use Rattle.density.proofs.Plans.{complete}
use Rattle.records.specs.declared.ListArray.{ListArray}
use Rattle.records.specs.declared.PlanArray.{PlanArray}
use Rattle.records.specs.Values.{roll_in, listing}
use Rattle.tables.specs.Tables.{net, groups_in, Holds, Ready, Tables, Litres, Placed}
use Rattle.tables.proofs.Verdicts.{tables}
use Rattle.tables.proofs.Shares.{placed}
use Rattle.maker.specs.Planned.{Planned}
use Rattle.figures.specs.Computed.{Computed}

module _ (list : ListArray) (plan : PlanArray) (few : list.count ≤ 512) (range : T (in_range (listing list))) (p : Planned list plan)
    (wide : length list.sites ≡ 512) (deep : length plan.groups ≡ 64) where
  ready : Ready list plan
  ready =
      record {
        counted = record { sites = few; groups = p.few; range = range };
        places = (wide, deep);
        listed = (complete (net list) (valid (listing list) range) (groups_in list plan) p.plan.groups).listed;
      }

  module _ (places sizes : List ℕ) (lp : length places ≡ 64) (lq : length sizes ≡ 64) (h : Holds places (place (groups_in list plan)) 64)
      (k : (l : Listing) → l.roll ≡ roll_in list.roll → Holds sizes (group_size (network l) (groups_in list plan)) (length (groups_in list plan))) where
    both : Tables list plan places sizes
    both = tables list plan ready places sizes lp lq h k

    pub placed-here : Placed list places
    placed-here = placed list plan ready places sizes both

    pub computed : (litres : List ℕ) → length litres ≡ 64 → Litres list places litres
        → Computed (record { list = list; plan = plan; places = places; sizes = sizes; litres = litres })
    computed litres lw w =
        record {
          planned = p;
          ready = ready;
          tables = both;
          length-litres = lw;
          litres = λ n l. w.is (groups_in list plan) h n (omega (arith, p.few));
        }
