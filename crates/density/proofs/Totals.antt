-- The W of all groups add up to the litres of the list; a depot's running load is its load; there are at most 64 groups. Assumes nothing.
use mathlib.Core.Path.{◌≡◌, sym, ap, ◌∙◌, subst}
use mathlib.Core.Logic.{⊎_elim}
use mathlib.Core.Bool.{Bool, true, false}
use mathlib.Core.List.{List}
use Prim.Native.Nat.{ℕ, ◌*◌, ◌+◌, ◌≤◌, ◌<◌, zero-le}
use native.Mathlib.Nat.{le_trans, le_of_eq}
use native.Mathlib.Omega.{arith}
use lib.Arith.{lt_of_le-ne}
use lib.Dec.{T, eqb, ltb, eqb→eq, ltb→lt, lt→ltb}
use lib.ListN.{length}
use Rattle.sets.specs.Sum.{when, sum}
use Rattle.sets.specs.Set.{Depots}
use Rattle.density.specs.Network.{Network, Valid, size, end}
use Rattle.density.specs.declared.Site.{Site}
use Rattle.density.specs.Plan.{union, group, place, carrier, group_litres, first_share, second_share, Rules, share_of, load, Falling}
use Rattle.density.specs.Rows.{scaled_load}
use Rattle.sets.proofs.Test.{T?, eq→eqb, when-on, when-off, when-≤, when-mono}
use Rattle.sets.proofs.Sum.{sum-cong, sum_mono, sum-zero, sum-swap, sum-pick, sum-const, sum-≤, sum-term}
use Rattle.sets.proofs.Weigh.{weigh-le}
use Rattle.density.proofs.Plans.{shares, earlier, union→, →union, group-place}

module _ (N : Network) (ok : Valid N) (gs : List ℕ) (all : (d : ℕ) → union gs d ≡ N.listed d) where
  -- the group that carries a site is one of the plan's
  pub carrier-lt : (i : ℕ) → i < N.count → carrier gs (N.site i) < length gs
  unfolding carrier
  carrier-lt i l =
      omega (
        arith,
        union→ gs _ (subst T (sym (all (N.site i).first)) (ok.first-listed i l)),
        union→ gs _ (subst T (sym (all (N.site i).second)) (ok.second-listed i l)),
      )

  pub total : sum (group_litres N gs) (length gs) ≡ sum (λ i. (N.site i).litres) N.count
  unfolding group_litres
  total =
      sum-swap _ (length gs) N.count
      ∙ sum-cong _ _ N.count (λ i l. sum-pick (λ k. (N.site i).litres) (carrier gs (N.site i)) (length gs) (carrier-lt i l))

end-≤ : (gs : List ℕ) (s : Site) (e : Bool) → place gs (end e s) ≤ carrier gs s
unfolding carrier
end-≤ gs s true = omega arith
end-≤ gs s false = omega arith

module _ (N : Network) (gs ss : List ℕ) (r : (i : ℕ) → i < N.count → Rules N gs ss i) where
  -- a depot has nothing from a site that its own group does not carry
  elsewhere : (d i : ℕ) → i < N.count → (T (eqb (carrier gs (N.site i)) (place gs d)) → ⊥) → (e : Bool)
      → when (eqb (end e (N.site i)) d) (shares N gs ss e i) ≡ 0
  elsewhere d i l n e =
      ⊎_elim
      (λ t.
      when-on (eqb (end e (N.site i)) d) (shares N gs ss e i) t
      ∙ earlier N gs ss i (r i l) e (lt_of_le-ne (end-≤ gs (N.site i) e) (λ q. n (eq→eqb _ _ (sym q ∙ ap (place gs) (eqb→eq (end e (N.site i)) d t))))))
      (when-off (eqb (end e (N.site i)) d) (shares N gs ss e i))
      (T? (eqb (end e (N.site i)) d))

  pub scaled-load : (d : ℕ) → scaled_load N gs ss d ≡ load N gs ss d
  unfolding scaled_load load share_of
  scaled-load d =
      sum-cong _ _ N.count
      (λ i l.
      ⊎_elim (λ t. sym (when-on (eqb (carrier gs (N.site i)) (place gs d)) _ t))
      (λ n.
      omega
      (arith, elsewhere d i l n true, elsewhere d i l n false, when-off (eqb (carrier gs (N.site i)) (place gs d)) (when (eqb (N.site i).first d) (first_share ss i) + when (eqb (N.site i).second d) (second_share N gs ss i)) n))
      (T? (eqb (carrier gs (N.site i)) (place gs d))))

-- at most one group has a depot
once : (p n : ℕ) → sum (λ k. when (eqb p k) 1) n ≤ 1
once p n =
    ⊎_elim (λ l. le_of_eq (sum-pick (λ k. 1) p n (ltb→lt p n l)))
    (λ l. le_trans (le_of_eq (sum-zero _ n (λ k m. when-off (eqb p k) 1 (λ t. let e = eqb→eq p k t in l (lt→ltb p n (omega arith)))))) zero-le)
    (T? (ltb p n))

pub few-groups : (N : Network) → Valid N → (gs : List ℕ) → Falling N gs → length gs ≤ 64
few-groups N ok gs f =
    omega (
      arith,
      sum-const 1 (length gs),
      sum-const 1 64,
      sum_mono (λ k. 1) (λ k. sum (λ d. when (group gs k d) 1) 64) (length gs)
          (λ k l.
          let s = f.some k l in
          le_trans (le_of_eq (sym (when-on (group gs k s.0) 1 s.1)))
          (sum-term (λ d. when (group gs k d) 1) s.0 64 (ok.small _ (subst T (f.listed s.0) (→union gs s.0 (place-lt k l s.0 s.1)))))),
      sum-swap (λ k d. when (group gs k d) 1) (length gs) 64,
      sum_mono (λ d. sum (λ k. when (group gs k d) 1) (length gs)) (λ d. 1) 64
          (λ d l.
          le_trans (sum_mono _ (λ k. when (eqb (place gs d) k) 1) (length gs) (λ k m. when-mono (group gs k d) (eqb (place gs d) k) 1 (λ t. eq→eqb _ _ (group-place gs f.apart k d m t))))
          (once (place gs d) (length gs))),
    )
  where
    place-lt : (k : ℕ) → k < length gs → (d : ℕ) → T (group gs k d) → place gs d < length gs
    place-lt k l d t = omega (arith, group-place gs f.apart k d l t)

-- bounds for the machine: a set's size, and the litres that a group carries
pub size-≤ : (N : Network) (X : Depots) (c : ℕ) → ((d : ℕ) → N.crews d ≤ c) → size N X ≤ 64 * c
unfolding size
size-≤ N X c h = weigh-le N.crews X 64 c (λ d l. h d)

pub group-litres-≤ : (N : Network) (gs : List ℕ) (k w : ℕ) → ((i : ℕ) → i < N.count → (N.site i).litres ≤ w) → group_litres N gs k ≤ N.count * w
unfolding group_litres
group-litres-≤ N gs k w h = sum-≤ _ w N.count (λ i l. le_trans (when-≤ (eqb (carrier gs (N.site i)) k) _) (h i l))
