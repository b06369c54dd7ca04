-- Networks with the same sites, the same listed depots and the same crews of these have the same groups, figures and true plans. Assumes nothing.
use mathlib.Core.Path.{◌≡◌, sym, ap, ap₂, ◌∙◌, subst}
use mathlib.Core.List.{List, [], ◌∷◌}
use Prim.Native.Nat.{ℕ, ◌+◌, ◌-◌, ◌*◌, ◌≤◌, ◌<◌}
use lib.Dec.{T, eqb}
use lib.ListN.{length}
use Rattle.sets.specs.Sum.{when, sum}
use Rattle.sets.specs.Set.{Depots, ∅, ◌∪◌, ◌⊆◌, has, weigh}
use Rattle.density.specs.Network.{Network, Valid, counts, litres, size, Agree}
use Rattle.density.specs.declared.Site.{Site}
use Rattle.density.specs.Groups.{Candidate, exceeds, Next, Follow, Decomposition}
use Rattle.density.specs.Plan.{group, place, carrier, group_size, group_litres, whole, first_share, second_share, Rules, share_of, load, target, TruePlan}
use Rattle.sets.proofs.Test.{when-cong-on}
use Rattle.sets.proofs.Sum.{sum-cong}
use Rattle.density.proofs.Places.{follow-next}
use Rattle.density.proofs.Plans.{complete}
use Rattle.density.proofs.Totals.{carrier-lt}

pub agree-back : (N M : Network) → Agree N M → Agree M N
agree-back N M a =
    record {
      count = sym a.count;
      site = λ i. sym (a.site i);
      listed = sym a.listed;
      crews = λ d t. sym (a.crews d (subst (λ (X : Depots). T (X d)) (sym a.listed) t));
    }

module _ (N M : Network) (a : Agree N M) where
  -- a sum over the sites
  sites : (f : Site → ℕ) → sum (λ i. f (N.site i)) N.count ≡ sum (λ i. f (M.site i)) M.count
  sites f = sum-cong (λ i. f (N.site i)) (λ i. f (M.site i)) N.count (λ i l. ap f (a.site i)) ∙ ap (sum (λ i. f (M.site i))) a.count

  litres-agree : (X G : Depots) → litres N X G ≡ litres M X G
  unfolding litres
  litres-agree X G = sites (λ s. when (counts X G s) s.litres)

  size-agree : (X : Depots) → X ⊆ N.listed → size N X ≡ size M X
  unfolding size weigh
  size-agree X h = sum-cong _ _ 64 (λ d l. when-cong-on (X d) (λ t. a.crews d (h d t)))

  exceeds-agree : (G X Y : Depots) → X ⊆ N.listed → Y ⊆ N.listed → exceeds N G X Y ≡ exceeds M G X Y
  unfolding exceeds
  exceeds-agree G X Y x y = rw (litres-agree X G, litres-agree Y G, size-agree X x, size-agree Y y)

  candidate-agree : (G X : Depots) → Candidate M G X → Candidate N G X
  candidate-agree G X x = record { some = x.some; listed = subst (λ (L : Depots). X ⊆ L) (sym a.listed) x.listed; free = x.free }

  candidate-back : (G X : Depots) → Candidate N G X → Candidate M G X
  candidate-back G X x = record { some = x.some; listed = subst (λ (L : Depots). X ⊆ L) a.listed x.listed; free = x.free }

  next_agree : (G X : Depots) → Next N G X → Next M G X
  next_agree G X x =
      record {
        candidate = candidate-back G X x.candidate;
        most = λ Y y t.
            let z = candidate-agree G Y y in
            x.most Y z (subst T (sym (exceeds-agree G Y X z.listed x.candidate.listed)) t);
      }

  follow-agree : (G : Depots) (gs : List ℕ) → Follow N G gs → Follow M G gs
  unfolding Follow
  follow-agree G [] f = subst (λ (L : Depots). L ⊆ G) a.listed f
  follow-agree G (g ∷ gs) f = (next_agree G (has g) f.0, follow-agree (G ∪ has g) gs f.1)

  pub groups-agree : (gs : List ℕ) → Decomposition N gs → Decomposition M gs
  unfolding Decomposition
  groups-agree = follow-agree ∅

  pub litres-figure : (gs : List ℕ) (k : ℕ) → group_litres N gs k ≡ group_litres M gs k
  unfolding group_litres
  litres-figure gs k = sites (λ s. when (eqb (carrier gs s) k) s.litres)

  module _ (ok : Valid N) (gs : List ℕ) (h : Decomposition N gs) where
    pub size-figure : (k : ℕ) → k < length gs → group_size N gs k ≡ group_size M gs k
    unfolding group_size Decomposition
    size-figure k l = size-agree (group gs k) (follow-next N ∅ gs h k l).candidate.listed

    pub whole-figure : (i : ℕ) → i < N.count → whole N gs i ≡ whole M gs i
    unfolding whole
    whole-figure i l =
        ap (λ n. (N.site i).litres * n) (size-figure (carrier gs (N.site i)) (carrier-lt N ok gs (complete N ok gs h).listed i l))
        ∙ ap (λ (s : Site). s.litres * group_size M gs (carrier gs s)) (a.site i)

    module _ (ss : List ℕ) where
      second-agree : (i : ℕ) → i < N.count → second_share N gs ss i ≡ second_share M gs ss i
      unfolding second_share
      second-agree i l = ap (λ n. n - first_share ss i) (whole-figure i l)

      rules-agree : (i : ℕ) → i < N.count → Rules N gs ss i → Rules M gs ss i
      rules-agree i l r =
          record {
            bound = subst (λ n. first_share ss i ≤ n) (whole-figure i l) r.bound;
            own = λ e. r.own (rw (a.site i) e) ∙ whole-figure i l;
            first-earlier = λ e. r.first-earlier (rw (a.site i) e);
            second-earlier = λ e. sym (second-agree i l) ∙ r.second-earlier (rw (a.site i) e);
          }

      share-agree : (d i : ℕ) → i < N.count → share_of N gs ss d i ≡ share_of M gs ss d i
      unfolding share_of
      share-agree d i l =
          ap (λ n. when (eqb (N.site i).first d) (first_share ss i) + when (eqb (N.site i).second d) n) (second-agree i l)
          ∙ ap (λ (s : Site). when (eqb s.first d) (first_share ss i) + when (eqb s.second d) (second_share M gs ss i)) (a.site i)

      load-agree : (d : ℕ) → load N gs ss d ≡ load M gs ss d
      unfolding load
      load-agree d =
          sum-cong _ (λ i. when (eqb (carrier gs (M.site i)) (place gs d)) (share_of M gs ss d i)) N.count
          (λ i l.
          ap (λ n. when (eqb (carrier gs (N.site i)) (place gs d)) n) (share-agree d i l)
          ∙ ap (λ (s : Site). when (eqb (carrier gs s) (place gs d)) (share_of M gs ss d i)) (a.site i))
          ∙ ap (sum (λ i. when (eqb (carrier gs (M.site i)) (place gs d)) (share_of M gs ss d i))) a.count

      target-agree : (d : ℕ) → T (N.listed d) → target N gs d ≡ target M gs d
      unfolding target
      target-agree d t = ap₂ ◌*◌ (a.crews d t) (litres-figure gs (place gs d))

  -- a plan that is true of one is true of the other
  pub true-agree : Valid N → (gs ss : List ℕ) → TruePlan N gs ss → TruePlan M gs ss
  true-agree ok gs ss p =
      record {
        form = record { sets = p.form.sets; each = p.form.each ∙ a.count };
        groups = groups-agree gs p.groups;
        shares =
            record {
              rules = λ i l.
                  let m : i < N.count = subst (λ n. i < n) (sym a.count) l in
                  rules-agree ok gs p.groups ss i m (p.shares.rules i m);
              level = λ d t.
                  let u : T (N.listed d) = subst (λ (X : Depots). T (X d)) (sym a.listed) t in
                  sym (load-agree ok gs p.groups ss d) ∙ p.shares.level d u ∙ target-agree ok gs p.groups ss d u;
            };
      }
