-- Rolls that make no difference: no roll, and a roll of ones. Assumes nothing.
use mathlib.Core.Path.{◌≡◌, refl, ap, ◌∙◌, subst, fun_ext}
use mathlib.Core.Logic.{◌↔◌, ⊎_elim}
use mathlib.Core.Bool.{false, or-false}
use mathlib.Core.List.{List}
use mathlib.Core.Option.{Option, none, some}
use Prim.Native.Nat.{ℕ}
use native.Mathlib.Omega.{arith}
use lib.Dec.{T}
use lib.ListN.{length, get_or}
use Rattle.sets.specs.Set.{Depots, ◌∪◌}
use Rattle.density.specs.Network.{Listing, Network, site_at, named, enrolled, network, base_network, depots_in_range, with_roll, RollOfOnes, Valid, Agree}
use Rattle.density.specs.Plan.{TruePlan}
use Rattle.sets.proofs.Test.{or_l, or_cases, T?, T-ext, when-on, when-off}
use Rattle.density.proofs.Lists.{named_small, enrolled→, valid-of}
use Rattle.density.proofs.Agree.{agree-back, true-agree}

-- "Lists without a roll are unaffected": the graph of such a list is document 01's
pub without-roll : (l : Listing) → l.roll ≡ none → network l ≡ base_network l.sites
unfolding network base_network
without-roll l e =
    ap (λ (r : Option (List ℕ)). network (with_roll l r)) e
    ∙ ap (λ (X : Depots). record { count = length l.sites; site = site_at l; listed = X; crews = λ d. 1 }) (fun_ext (λ d. or-false (named l d)))

module _ (l : Listing) (roll : List ℕ) (h : T (depots_in_range l)) (ones : RollOfOnes l roll) where
  abbrev with : Network
  with = network (with_roll l (some roll))

  abbrev without : Network
  without = network (with_roll l none)

  one : (d : ℕ) → T (named l d) → get_or roll d 0 ≡ 1
  one d t = ones d (named_small l h d t) ∙ when-on (named l d) 1 t

  -- the roll has crews for the depots that sites name, and for no others
  enrolled-named : (d : ℕ) → T (enrolled (some roll) d) → T (named l d)
  enrolled-named d t =
      let c = enrolled→ (some roll) d t in
      ⊎_elim (λ n. n) (λ f. absurd (let no : ⊥ = omega (arith, ones d c.0, when-off (named l d) 1 f, c.1) in no)) (T? (named l d))

  listed-named : (d : ℕ) → T ((named l ∪ enrolled (some roll)) d) → T (named l d)
  listed-named d t = ⊎_elim (λ n. n) (enrolled-named d) (or_cases (named l d) (enrolled (some roll) d) t)

  ones-agree : Agree with without
  unfolding network
  ones-agree =
      record {
        count = refl;
        site = λ i. refl;
        listed = fun_ext (λ d. T-ext _ _ (λ t. or_l (named l d) false (listed-named d t)) (λ t. or_l (named l d) _ (subst T (or-false (named l d)) t)));
        crews = λ d t. one d (listed-named d t);
      }

  with-valid : Valid with
  unfolding depots_in_range
  with-valid = valid-of (with_roll l (some roll)) h (λ d t. omega (arith, one d t))

  without-valid : Valid without
  unfolding depots_in_range
  without-valid = valid-of (with_roll l none) h (λ d t. omega arith)

  -- "A roll with 1 for each depot that a site names and 0 for every other lets exactly those plans pass that pass without a roll."
  pub ones-pass : (gs ss : List ℕ) → TruePlan with gs ss ↔ TruePlan without gs ss
  ones-pass gs ss = (true-agree with without ones-agree with-valid gs ss, true-agree without with (agree-back with without ones-agree) without-valid gs ss)
