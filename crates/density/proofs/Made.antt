-- What a maker has shown group by group makes the plan true. Assumes nothing.
use mathlib.Core.Path.{◌≡◌, refl, sym, ap, ◌∙◌, subst}
use mathlib.Core.Bool.{true, false}
use mathlib.Core.List.{List}
use Prim.Native.Nat.{ℕ, ◌*◌, ◌<◌}
use native.Mathlib.Nat.{le_of_lt}
use native.Mathlib.Omega.{arith}
use lib.Dec.{T, eqb_refl}
use lib.ListN.{length}
use Rattle.density.specs.Network.{Network, Valid, counts, litres}
use Rattle.density.specs.Plan.{place, group, before, carrier, group_size, whole, first_share, second_share, Rules, share_of, load, target, Shared, Formed, TruePlan, Falling}
use Rattle.sets.proofs.Test.{when-cong}
use Rattle.sets.proofs.Sum.{sum-cong}
use Rattle.density.proofs.Level.{Spread, load_of}
use Rattle.density.proofs.Places.{→group, →before}
use Rattle.density.proofs.Plans.{shares, union→, counts-carrier, group-litres, sound}
use Rattle.density.proofs.Totals.{carrier-lt}

module _ (N : Network) (ok : Valid N) (gs ss : List ℕ) (f : Falling N gs)
    (v : (k : ℕ) → k < length gs → Spread N (before gs k) (group gs k) (shares N gs ss))
    (level : (k : ℕ) → k < length gs → (d : ℕ) → T (group gs k d)
    → load_of N (before gs k) (group gs k) (shares N gs ss) d ≡ N.crews d * litres N (group gs k) (before gs k))
    (own : (i : ℕ) → i < N.count → (N.site i).first ≡ (N.site i).second → first_share ss i ≡ whole N gs i) where
  carried : (i : ℕ) → i < N.count → T (counts (group gs (carrier gs (N.site i))) (before gs (carrier gs (N.site i))) (N.site i))
  carried i l = subst T (sym (counts-carrier gs f.apart _ (carrier-lt N ok gs f.listed i l) (N.site i))) (eqb_refl (carrier gs (N.site i)))

  rules : (i : ℕ) → i < N.count → Rules N gs ss i
  unfolding first_share second_share whole group_size
  rules i l =
      let k = carrier gs (N.site i) in
      let m = carrier-lt N ok gs f.listed i l in
      record {
        bound = omega (arith, (v k m).whole i l (carried i l));
        own = own i l;
        first-earlier = λ p. (v k m).free true i l (carried i l) (→before gs k _ (le_of_lt m) p);
        second-earlier = λ p. (v k m).free false i l (carried i l) (→before gs k _ (le_of_lt m) p);
      }

  level-at : (d : ℕ) → T (N.listed d) → load N gs ss d ≡ target N gs d
  unfolding load load_of share_of target
  level-at d t =
      let l = union→ gs d (subst T (sym (f.listed d)) t) in
      sym (sum-cong _ _ N.count (λ i m. when-cong _ _ _ (counts-carrier gs f.apart (place gs d) l (N.site i))))
      ∙ level (place gs d) l d (→group gs (place gs d) d l refl)
      ∙ ap (λ n. N.crews d * n) (sym (group-litres gs f.apart N (place gs d) l))

  pub made : Formed N gs ss → TruePlan N gs ss
  made m =
      let s : Shared N gs ss = record { rules = rules; level = level-at } in
      record { form = m; groups = sound N ok gs ss f s; shares = s }
