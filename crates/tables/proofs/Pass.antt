-- The pass over the sites: what holds of the sites passed, and a step of the loop. Assumes nothing.
use mathlib.Core.Path.{◌≡◌, refl, sym, ap, ap₂, ◌∙◌, subst}
use mathlib.Core.Bool.{Bool, true, false}
use mathlib.Core.List.{List}
use Prim.Native.Nat.{ℕ, ◌+◌, ◌*◌, ◌≤◌, ◌<◌, ◌^◌, max}
use native.Mathlib.Nat.{le_of_suc-le}
use native.Mathlib.Omega.{arith}
use borrow.Author.Tests.{ltb-true, ltb-false}
use lib.Dec.{T, ltb}
use lib.ListN.{length, get_or, set, replicate, length-set}
use Rattle.sets.specs.Sum.{any}
use Rattle.sets.proofs.Test.{fails}
use Rattle.sets.proofs.Set.{any-start, any-more, any_here}
use Rattle.density.specs.declared.Site.{Site}
use Rattle.density.specs.Network.{Network, no_site, in_range}
use Rattle.density.specs.Plan.{whole}
use Rattle.density.specs.Rows.{share_broken, shares_broken}
use Rattle.records.specs.declared.ListArray.{ListArray}
use Rattle.records.specs.declared.PlanArray.{PlanArray}
use Rattle.records.specs.Values.{listing}
use Rattle.tables.specs.declared.Tally.{Tally}
use Rattle.tables.specs.Tables.{net, groups_in, shares_in, Holds, Ready, Tables, Tallied, Entry}
use Rattle.tables.proofs.Arrays.{holds_more}
use Rattle.tables.proofs.Shares.{size_few, product_lt, sites-count, later-lt, entry, placed}
use Rattle.tables.proofs.Totals.{Summed, summed-zero, summed-one, carried, litres-end}

-- the loop's invariant: what the first i sites add up to; none of their shares breaks a rule, if the groups are the listed depots
pub record Pass (list : ListArray) (plan : PlanArray) (places litres wholes : List ℕ) (i : ℕ) : Type 0 where
  pub litres-is : Summed (λ _. 0) (carried list.sites places) (2 ^ 32) litres i
  pub wide : length wholes ≡ 512
  pub wholes-is : Ready list plan → Holds wholes (whole (net list) (groups_in list plan)) i
  pub unbroken : Ready list plan → any (share_broken (net list) (groups_in list plan) (shares_in list plan)) i ≡ false

pub pass-start : (list : ListArray) (plan : PlanArray) (places wholes : List ℕ) → length wholes ≡ 512 → Pass list plan places (replicate 64 0) wholes 0
pass-start list plan places wholes wide =
    record { litres-is = summed-zero _ _; wide = wide; wholes-is = λ r k l. absurd (omega arith); unbroken = λ r. any-start _ }

-- w × q of a group is small, for any plan
pub table_fits : (list : ListArray) (plan : PlanArray) → T (in_range (listing list)) → (places sizes : List ℕ) → Tables list plan places sizes → (k w : ℕ) → k < plan.count → w < 2 ^ 32
    → w * get_or sizes k 0 < 2 ^ 42
table_fits list plan h places sizes t k w l m = product_lt w _ m (omega (arith, t.size k l, size_few list h (groups_in list plan) k))

module _ (list : ListArray) (plan : PlanArray) (places sizes : List ℕ) (t : Tables list plan places sizes) (i : ℕ) (l : i < list.count) where
  abbrev site : Site
  site = get_or list.sites i no_site

  abbrev later_at : ℕ
  later_at = max (get_or places site.first 0) (get_or places site.second 0)

  abbrev share : ℕ
  share = get_or plan.shares i 0

  module _ (k : ℕ) (e : k ≡ later_at) where
    -- a site without a group: then the groups are not the listed depots
    pub no-group : plan.count ≤ k → Ready list plan → ⊥
    no-group m r = omega (arith, e, later-lt list plan r places sizes t i l)

    module _ (w : ℕ) (v : (w ≡ site.litres) × (w < 2 ^ 32)) where
      abbrev all : ℕ
      all = w * get_or sizes k 0

      all-is : all ≡ site.litres * get_or sizes later_at 0
      all-is = ap₂ ◌*◌ v.0 (ap (λ n. get_or sizes n 0) e)

      here : Ready list plan → Entry (net list) (groups_in list plan) (shares_in list plan) i site (get_or places site.first 0) (get_or places site.second 0) all share
      here r =
          subst (λ n. Entry (net list) (groups_in list plan) (shares_in list plan) i site (get_or places site.first 0) (get_or places site.second 0) n share) (sym all-is)
          (entry list plan r places sizes t i l)

      module _ (x : Bool) (b : (N : Network) (gs ss : List ℕ) (j : ℕ) → Entry N gs ss j site (get_or places site.first 0) (get_or places site.second 0) all share → x ≡ share_broken N gs ss j) where
        -- a share that breaks a rule
        pub broken-here : x ≡ true → Ready list plan → true ≡ shares_broken (net list) (groups_in list plan) (shares_in list plan)
        unfolding shares_broken
        broken-here y r = sym (any_here _ _ i (omega (arith, sites-count list plan r)) (sym (b _ _ _ i (here r)) ∙ y))

        -- a site more
        pub pass-more : (litres litres' wholes wholes' : List ℕ) → Pass list plan places litres wholes i → x ≡ false → k < 64 → list.count ≤ 512
            → litres' ≡ set litres k (get_or litres k 0 + w) → wholes' ≡ set wholes i all → Pass list plan places litres' wholes' (i + 1)
        pass-more litres litres' wholes wholes' h y m few p q =
            record {
              litres-is = summed-one _ (carried list.sites places) (2 ^ 32) litres litres' i k w h.litres-is m (le_of_suc-le v.1) p (λ j. rw (e, v.0));
              wide = ap length q ∙ length-set wholes i _ ∙ h.wide;
              wholes-is = λ r. rw q (holds_more wholes _ i _ (h.wholes-is r) (omega (arith, h.wide)) (sym (here r).whole));
              unbroken = λ r. any-more _ i (h.unbroken r) (sym (b _ _ _ i (here r)) ∙ y);
            }

pass-end : (list : ListArray) (plan : PlanArray) (places sizes : List ℕ) → Tables list plan places sizes → (litres wholes : List ℕ) (i : ℕ) → i ≡ list.count
    → Pass list plan places litres wholes i → (r : Tally) → r.broken ≡ false → r.litres ≡ litres → Ready list plan → Tallied list plan places r wholes
unfolding shares_broken
pass-end list plan places sizes t litres wholes i e h r p q y =
    record {
      broken = p ∙ sym (h.unbroken y) ∙ ap (any _) (e ∙ sym (sites-count list plan y));
      sums = λ z. (
        rw q (litres-end list places litres (placed list plan y places sizes t) i e h.litres-is),
        (h.wide, λ k l. h.wholes-is y k (omega arith)),
      );
    }

-- what a pass that ends at a broken share leaves
pass-broken : (list : ListArray) (plan : PlanArray) (places wholes : List ℕ) (r : Tally) → r.broken ≡ true → (Ready list plan → true ≡ shares_broken (net list) (groups_in list plan) (shares_in list plan))
    → Ready list plan → Tallied list plan places r wholes
pass-broken list plan places wholes r p h y = record { broken = p ∙ h y; sums = λ z. absurd (fails _ z (rw p tt)) }

-- what the pass leaves that ended at i: behind the last site, or where a share breaks a rule if the groups are the listed depots
pub pass-done : (list : ListArray) (plan : PlanArray) (places sizes : List ℕ) → Tables list plan places sizes → (litres wholes : List ℕ) (i : ℕ) → i ≤ list.count → Pass list plan places litres wholes i
    → (i < list.count → Ready list plan → true ≡ shares_broken (net list) (groups_in list plan) (shares_in list plan)) → (r : Tally) → r.broken ≡ ltb i list.count → r.litres ≡ litres
    → Ready list plan → Tallied list plan places r wholes
pass-done list plan places sizes t litres wholes i l h stopped r p q = ended (ltb i list.count) p refl
  where
    ended : (b : Bool) → r.broken ≡ b → ltb i list.count ≡ b → Ready list plan → Tallied list plan places r wholes
    ended true e d = pass-broken list plan places wholes r e (stopped (ltb-true i list.count d))
    ended false e d = pass-end list plan places sizes t litres wholes i (omega (arith, ltb-false i list.count d, l)) h r e q
