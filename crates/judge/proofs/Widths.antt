-- The shares of a true plan have an edition's width, so it is true in any edition that has room for the list. Assumes nothing.
use mathlib.Core.Path.{refl, subst}
use mathlib.Core.List.{List}
use Prim.Native.Nat.{ℕ, ◌*◌, ◌<◌, ◌≤◌, ◌^◌}
use native.Mathlib.Nat.{lt_of_le_of_lt, lt_of_lt_of_le, le_refl, mul-le-mul, mul-lt-mul_of_pos_right}
use lib.Dec.{T, lit<}
use lib.ListN.{length, get_or}
use Rattle.density.specs.Network.{Listing, network, site_at, in_range}
use Rattle.density.specs.Plan.{TruePlan, group_size, carrier, group, whole, first_share}
use Rattle.density.proofs.Lists.{size-most}
use Rattle.records.specs.declared.Edition.{Edition}
use Rattle.records.specs.Values.{Plan}
use Rattle.records.specs.Write.{plan_bytes}
use Rattle.judge.specs.Check.{True}

-- they have the edition's width, where w × q has: w has the width of litres, and q is at most 576, which depots of up to nine crews have
pub share-fits : (e : Edition) (l : Listing) → T (in_range l) → (gs ss : List ℕ) → 256 ^ e.litres * 576 ≤ 256 ^ e.share
    → ((i : ℕ) → i < length l.sites → (site_at l i).litres < 256 ^ e.litres) → TruePlan (network l) gs ss
    → (i : ℕ) → i < length ss → get_or ss i 0 < 256 ^ e.share
unfolding network first_share whole group_size
share-fits e l range gs ss wide small t i k =
    let j : i < length l.sites = subst (λ n. i < n) t.form.each k in
    let q = group_size (network l) gs (carrier gs (site_at l i)) in
    let few : q ≤ 576 = size-most l range (group gs (carrier gs (site_at l i))) in
    lt_of_lt_of_le (lt_of_le_of_lt (t.shares.rules i j).bound (lt_of_le_of_lt (mul-le-mul (le_refl (site_at l i).litres) few) (mul-lt-mul_of_pos_right (small i j) (lit< tt)))) wide

-- the same figures in another edition
pub true-over : (e f : Edition) (l : Listing) → T (in_range l) → (p : Plan) {plan : List ℕ} → 256 ^ f.litres * 576 ≤ 256 ^ f.share
    → ((i : ℕ) → i < length l.sites → (site_at l i).litres < 256 ^ f.litres) → True e l p plan → True f l p (plan_bytes f p)
unfolding network
true-over e f l range p wide small t =
    let is_true : TruePlan (network l) p.groups p.shares =
    record { form = record { sets = t.layout.sets; each = t.layout.each }; groups = t.groups; shares = t.shares } in
    record {
      layout =
          record {
            few = t.layout.few;
            sets = t.layout.sets;
            each = t.layout.each;
            fits = share-fits f l range p.groups p.shares wide small is_true;
            bytes-are = refl;
          };
      groups = t.groups;
      shares = t.shares;
    }
