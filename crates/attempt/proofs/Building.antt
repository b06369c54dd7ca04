-- One more finished group, and the plan that the groups are in the end. Assumes nothing.
use mathlib.Core.Bool.{Bool, false, true}
use mathlib.Core.List.{List}
use mathlib.Core.Logic.{◌⊎◌, inl, inr, ⊎_elim}
use mathlib.Core.Path.{◌∙◌, ◌≡◌, ap, ap₂, fun_ext, subst, sym}
use Prim.Native.Nat.{◌*◌, ◌+◌, ◌<◌, ◌^◌, ◌≤◌, suc, ℕ}
use native.Mathlib.Numerals.{add-one}
use native.Mathlib.Omega.{arith}
use lib.Dec.{T, eqb_refl, eqb→eq}
use lib.ListN.{get_or, length, length-set, set, take}
use lib.Seq.{get_or-set_other, get_or-set_same, get_or-take, length-take-le, take-set-le, take-take}
use Rattle.sets.specs.Set.{Apart, Depots, Nonempty, ◌∪◌, ◌⊆◌, has}
use Rattle.sets.proofs.Member.{has-none}
use Rattle.sets.proofs.Test.{and_i, and_l, or_cases, or_r}
use Rattle.density.specs.Network.{Network, Valid, counts, litres, size, touches, within}
use Rattle.density.specs.Plan.{TruePlan, Falling, before, carrier, first_share, group, group_size, second_share, union, whole}
use Rattle.density.proofs.Level.{within_end}
use Rattle.density.proofs.Made.{made}
use Rattle.density.proofs.Places.{before-suc, before→, group→, →before}
use Rattle.density.proofs.Plans.{counts-carrier, falling-of, shares}
use Rattle.density.proofs.Totals.{carrier-lt}
use Rattle.residual.specs.Array.{at}
use Rattle.residual.proofs.Laws.{below?}
use Rattle.attempt.specs.Arrays.{Holds}
use Rattle.attempt.proofs.Built.{Built, Finished, shares_of}
use Rattle.attempt.proofs.Finishing.{finished-kept}

pub built-begins : (N : Network) (h : Bool → ℕ → ℕ) (groups : List ℕ) (u : ℕ) → Built N h groups 0 0 u
unfolding union
built-begins N h groups u = record {
  done = λ k l. absurd (omega arith);
  down = λ k l. absurd (omega arith);
  all = fun_ext (λ d. sym (has-none d));
  next = λ k e. absurd (omega arith);
}

module _ {N : Network} {h : Bool → ℕ → ℕ} {groups : List ℕ} {n b u : ℕ} (m : Built N h groups n b u) where
  -- the sites of a group lie within what is grouped
  inside : n ≤ length groups → (k : ℕ) → k < n → (d : ℕ) → T ((group groups k ∪ before groups k) d) → T (has b d)
  inside fits k l d t =
      subst (λ (X : Depots). T (X d)) m.all
      (→before groups n d fits (⊎_elim (λ p. omega (arith, group→ groups k d (omega arith) p)) (λ p. omega (arith, before→ groups k d p)) (or_cases (group groups k d) (before groups k d) t)))

  -- shares that are kept within what is grouped keep the groups, and u may shrink
  pub built-kept : (g : Bool → ℕ → ℕ) (v : ℕ) → n ≤ length groups
      → ((e : Bool) (i : ℕ) → i < N.count → T (within (has b) (N.site i)) → g e i ≡ h e i) → has v ⊆ has u → Built N g groups n b v
  built-kept g v fits kept part = record {
    done = λ k l. finished-kept N h g _ _ (m.done k l) (λ e i j t.
        let w = within_end (group groups k ∪ before groups k) (N.site i) (and_l (within (group groups k ∪ before groups k) (N.site i)) (touches (group groups k) (N.site i)) t) in
        kept e i j (and_i (has b (N.site i).first) (has b (N.site i).second) (inside fits k l _ (w true)) (inside fits k l _ (w false))));
    down = m.down;
    all = m.all;
    next = λ k e Y y. m.next k e Y (λ d t. part d (y d t));
  }

  module _ (x v : ℕ) (fits : n < length groups) (f : Finished N h (has b) (has x)) (join : (has b ∪ has x) ≡ has u)
      (falls : (Y : Depots) → Y ⊆ has v → Apart Y (has u) → Nonempty Y → litres N Y (has u) * size N (has x) < litres N (has x) (has b) * size N Y) where
    abbrev gs : List ℕ
    gs = set groups n x

    old-group : (k : ℕ) → k < n → get_or gs k 0 ≡ get_or groups k 0
    old-group k l = get_or-set_other groups n k x 0 (λ e. omega arith)

    old-before : (k : ℕ) → k ≤ n → before gs k ≡ before groups k
    old-before k l = ap union (take-set-le k groups n x l)

    new-group : get_or gs n 0 ≡ x
    new-group = get_or-set_same groups n x 0 fits

    new-before : before gs n ≡ has b
    new-before = old-before n (omega arith) ∙ m.all

    new-all : before gs (suc n) ≡ has u
    new-all = before-suc gs n (simp length-set fits) ∙ ap₂ ◌∪◌ new-before (ap has new-group) ∙ join

    done : (k : ℕ) → (k < n) ⊎ (k ≡ n) → Finished N h (before gs k) (group gs k)
    done k (inl l) = rw (old-before k (omega arith), old-group k l) (m.done k l)
    done k (inr e) = rw (e, new-before, new-group) f

    down : (k : ℕ) → (suc k < n) ⊎ (suc k ≡ n)
        → litres N (group gs (suc k)) (before gs (suc k)) * size N (group gs k) < litres N (group gs k) (before gs k) * size N (group gs (suc k))
    down k (inl l) = rw (old-before k (omega arith), old-before (suc k) (omega arith), old-group k (omega arith), old-group (suc k) l) (m.down k l)
    down k (inr e) =
        rw (e, new-before, new-group, old-before k (omega arith), old-group k (omega arith))
        (m.next k e (has x) (λ d t. subst (λ (X : Depots). T (X d)) join (or_r (has b d) (has x d) t)) f.candidate.free f.candidate.some)

    pub built-more : Built N h gs (n + 1) u v
    built-more = record {
      done = λ k l. done k (upto k l);
      down = λ k l. down k (upto (suc k) l);
      all = rw add-one new-all;
      next = λ k e Y y a s. let z : k ≡ n = omega arith in rw (z, new-before, new-group) (falls Y y a s);
    }
      where
        upto : (k : ℕ) → k < n + 1 → (k < n) ⊎ (k ≡ n)
        upto k l = ⊎_elim inl (λ z. inr (omega arith)) (below? k n)

-- every listed depot is grouped: the plan is true
module _ {N : Network} {ends litre crews : List ℕ} {listed : ℕ} (ok : Valid N) (holds : Holds N ends litre crews listed) (share : List ℕ) {groups : List ℕ} {n b u : ℕ}
    (m : Built N (shares_of share) groups n b u) (wide : length share ≡ 1024) (fits : n ≤ length groups) (every : N.listed ⊆ has b) where
  abbrev plan : List ℕ
  plan = take n groups

  abbrev ss : List ℕ
  ss = take N.count share

  plan-length : length plan ≡ n
  plan-length = length-take-le n groups fits

  plan-group : (k : ℕ) → k < n → get_or plan k 0 ≡ get_or groups k 0
  plan-group k l = get_or-take n groups k 0 l

  plan-before : (k : ℕ) → k ≤ n → before plan k ≡ before groups k
  plan-before k l = ap union (take-take k n groups l)

  plan-done : (k : ℕ) → k < length plan → Finished N (shares_of share) (before plan k) (group plan k)
  plan-done k l = let z : k < n = omega (arith, plan-length) in rw (plan-before k (omega arith), plan-group k z) (m.done k z)

  plan-falling : Falling N plan
  plan-falling =
      falling-of N plan (λ k l. (plan-done k l).candidate) (λ d t. subst (λ (X : Depots). T (X d)) (sym m.all) (every d t))
      (λ k l.
      let z : suc k < n = omega (arith, plan-length) in
      rw (← before-suc plan k (omega arith), plan-before (suc k) (omega arith), plan-before k (omega arith), plan-group k (omega arith), plan-group (suc k) z) (m.down k z))

  carried : (k : ℕ) → k < length plan → (i : ℕ) → T (counts (group plan k) (before plan k) (N.site i)) → carrier plan (N.site i) ≡ k
  carried k l i t = eqb→eq _ k (subst T (counts-carrier plan plan-falling.apart k l (N.site i)) t)

  first-is : (i : ℕ) → i < N.count → first_share ss i ≡ at share i
  unfolding first_share
  first-is i l = get_or-take N.count share i 0 l

  -- the plan's shares are those of the arrays
  same : (k : ℕ) → k < length plan → (e : Bool) (i : ℕ) → i < N.count → T (counts (group plan k) (before plan k) (N.site i)) → shares N plan ss e i ≡ shares_of share e i
  unfolding first_share second_share whole group_size
  same k l true i j t = first-is i j
  same k l false i j t =
      omega (
        arith,
        (plan-done k l).spread.whole i j t,
        get_or-take N.count share i 0 j,
        ap (λ (c : ℕ). (N.site i).litres * size N (group plan c)) (carried k l i t),
      )

  finished : (k : ℕ) → k < length plan → Finished N (shares N plan ss) (before plan k) (group plan k)
  finished k l = finished-kept N (shares_of share) (shares N plan ss) _ _ (plan-done k l) (same k l)

  own : (i : ℕ) → i < N.count → (N.site i).first ≡ (N.site i).second → first_share ss i ≡ whole N plan i
  unfolding whole group_size
  own i l e =
      let k = carrier plan (N.site i) in
      let j = carrier-lt N ok plan plan-falling.listed i l in
      let t : T (counts (group plan k) (before plan k) (N.site i)) = subst T (sym (counts-carrier plan plan-falling.apart k j (N.site i))) (eqb_refl k) in
      omega (arith, (finished k j).spread.whole i l t, (finished k j).own i l t e)

  pub built-plan : ((k : ℕ) → k < n → get_or groups k 0 < 2 ^ 64) → TruePlan N plan ss
  built-plan bits =
      made N ok plan ss plan-falling (λ k l. (finished k l).spread) (λ k l. (finished k l).level) own
      (record {
        sets = λ k l. let z : k < n = omega (arith, plan-length) in rw (plan-group k z) (bits k z);
        each = length-take-le N.count share (omega (arith, holds.few));
      })
