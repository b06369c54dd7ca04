-- Whole shares exist at the scale of each group: every valid network has a true plan. Assumes nothing.
use mathlib.Core.Path.{◌≡◌, refl, sym, ap, ap₂, ◌∙◌, subst}
use mathlib.Core.Logic.{⊎_elim}
use mathlib.Core.Bool.{Bool, true, false, cond, not, ◌&&◌, ◌||◌}
use mathlib.Core.List.{List, [], ◌∷◌}
use Prim.Native.Nat.{ℕ, zero, suc, ◌+◌, ◌*◌, ◌≤◌, ◌<◌, ◌^◌, zero-le}
use native.Mathlib.Nat.{le_trans, le_of_eq, le_of_suc-le-suc}
use native.Mathlib.Omega.{arith}
use lib.Dec.{T, T_not, eqb, eqb_refl, ltb, eqb→eq, ltb→lt, lt→ltb}
use lib.ListN.{length, get_or}
use Rattle.sets.specs.Sum.{when, sum}
use Rattle.sets.specs.Set.{Depots, ∅, ◌∪◌, ◌∩◌, has, set_of, weigh}
use Rattle.sets.proofs.Test.{or_l, or_r, or_cases, and_i, and_l, and_r, T?, eq→eqb, cond-on, when-on, when-off, when-add, when-zero, when-cong-on}
use Rattle.sets.proofs.Sum.{sum-cong, sum_mono, sum-mul}
use Rattle.sets.proofs.Member.{ext, set_of-lt, has-set}
use Rattle.density.specs.declared.Site.{Site}
use Rattle.density.specs.Network.{Listing, Network, network, in_range, Valid, touches, within, counts, litres, size, end}
use Rattle.density.specs.Groups.{Next, Decomposition, groups_of}
use Rattle.density.specs.Plan.{group, before, carrier, group_size, whole, first_share, second_share, Formed, TruePlan, Falling}
use Rattle.density.proofs.Next.{next-densest, density}
use Rattle.density.proofs.Level.{within_end, within-ends, touches-end, Spread, load_of}
use Rattle.density.proofs.Places.{follow-next}
use Rattle.density.proofs.Plans.{shares, counts-carrier, complete}
use Rattle.density.proofs.Existence.{computed}
use Rattle.density.proofs.Lists.{valid, end-small}
use Rattle.density.proofs.Totals.{carrier-lt}
use Rattle.density.proofs.Made.{made}
use Rattle.density.proofs.Units.{units, given, Allotment, allot}

-- ---- one site

-- its units, between its first and its second depot where both may have some, and otherwise all to the one that may
abbrev parted : Bool → Bool → (Bool → ℕ) → Bool → ℕ
parted true true g e = g e
parted true false g true = g true + g false
parted true false g false = 0
parted false b g true = 0
parted false b g false = g true + g false

parted-whole : (a b : Bool) (g : Bool → ℕ) → parted a b g true + parted a b g false ≡ g true + g false
parted-whole true true g = refl
parted-whole true false g = omega arith
parted-whole false b g = omega arith

parted-first : (a b : Bool) (g : Bool → ℕ) → (T a → ⊥) → parted a b g true ≡ 0
parted-first true b g f = absurd (f tt)
parted-first false b g f = refl

parted-second : (a b : Bool) (g : Bool → ℕ) → T a → (T b → ⊥) → parted a b g false ≡ 0
parted-second true true g t f = absurd (f tt)
parted-second true false g t f = refl
parted-second false b g t f = absurd t

-- a depot has as much of it as if an end that may have none stood at the other
parted-level : (a b o : Bool) (g : Bool → ℕ) (p q d : ℕ) → T (a || b) → (T o → p ≡ q)
    → when (eqb p d) (parted a (b && not o) g true) + when (eqb q d) (parted a (b && not o) g false)
    ≡ when (eqb (cond a p q) d) (g true) + when (eqb (cond b q p) d) (g false)
parted-level true true true g p q d t h =
    omega (arith, when-add (eqb p d) (g true) (g false), when-zero (eqb q d), ap (λ k. when (eqb k d) (g false)) (h tt))
parted-level true true false g p q d t h = refl
parted-level true false o g p q d t h = omega (arith, when-add (eqb p d) (g true) (g false), when-zero (eqb q d))
parted-level false true o g p q d t h = omega (arith, when-add (eqb q d) (g true) (g false), when-zero (eqb p d))
parted-level false false o g p q d t h = absurd t

-- ---- one group

-- shares of the sites that X carries, given G: whole, level, and of an own site all at its first depot
record Leveled (N : Network) (G X : Depots) (h : Bool → ℕ → ℕ) : Type 0 where
  pub spread : Spread N G X h
  pub level : (d : ℕ) → T (X d) → load_of N G X h d ≡ N.crews d * litres N X G
  pub own : (i : ℕ) → i < N.count → T (counts X G (N.site i)) → (N.site i).first ≡ (N.site i).second → h false i ≡ 0

when-when-mul : (a b : Bool) (c w : ℕ) → when a (when b c * w) ≡ when (a && b) c * w
when-when-mul true b c w = refl
when-when-mul false b c w = omega arith

when-when-≤ : (a b c : Bool) (l q : ℕ) → (T a → T b → T c) → when a (when b l * q) ≤ when c l * q
when-when-≤ true true c l q f = le_of_eq (ap (λ n. n * q) (sym (when-on c l (f tt tt))))
when-when-≤ true false c l q f = omega arith
when-when-≤ false b c l q f = zero-le

module _ (N : Network) (ok : Valid N) (G X : Depots) (x : Next N G X) where
  -- a site as an item: its two depots, and where only one of them is in X, that depot twice
  abbrev ends : Bool → ℕ → ℕ
  ends e i = cond (X (end e (N.site i))) (end e (N.site i)) (end (not e) (N.site i))

  -- the units of a site, at the scale of X's size, and the quota of a depot
  abbrev unit : ℕ → ℕ
  unit i = when (counts X G (N.site i)) (N.site i).litres * size N X

  abbrev quota : ℕ → ℕ
  quota d = when (X d) (N.crews d) * litres N X G

  ends-small : (e : Bool) (i : ℕ) → i < N.count → ends e i < 64
  ends-small e i l = either (X (end e (N.site i))) (end-small N ok e i l) (end-small N ok (not e) i l)
    where
      either : (b : Bool) {p q : ℕ} → p < 64 → q < 64 → cond b p q < 64
      either true h k = h
      either false h k = k

  -- a site that X carries, and whose ends lie in Y, is one that the depots of Y in X carry
  counted : (Y : Depots) (i : ℕ) → T (Y (ends true i) && Y (ends false i)) → T (counts X G (N.site i)) → T (counts (Y ∩ X) G (N.site i))
  counted Y i y t =
      and_i (within ((Y ∩ X) ∪ G) s) (touches (Y ∩ X) s) (within-ends ((Y ∩ X) ∪ G) s true (up true) (up false))
      (⊎_elim (λ p. touches-end (Y ∩ X) s true (both true p)) (λ p. touches-end (Y ∩ X) s false (both false p))
      (or_cases (X s.first) (X s.second) (and_r (within (X ∪ G) s) (touches X s) t)))
    where
      s : Site
      s = N.site i

      in-Y : (e : Bool) → T (Y (ends e i))
      in-Y true = and_l (Y (ends true i)) (Y (ends false i)) y
      in-Y false = and_r (Y (ends true i)) (Y (ends false i)) y

      both : (e : Bool) → T (X (end e s)) → T ((Y ∩ X) (end e s))
      both e p = and_i (Y (end e s)) (X (end e s)) (subst (λ d. T (Y d)) (cond-on (X (end e s)) (end e s) (end (not e) s) p) (in-Y e)) p

      up : (e : Bool) → T (((Y ∩ X) ∪ G) (end e s))
      up e =
          ⊎_elim (λ p. or_l ((Y ∩ X) (end e s)) (G (end e s)) (both e p)) (or_r ((Y ∩ X) (end e s)) (G (end e s)))
          (or_cases (X (end e s)) (G (end e s)) (within_end (X ∪ G) s (and_l (within (X ∪ G) s) (touches X s) t) e))

  units-≤ : (Y : Depots) → units N.count ends unit Y ≤ litres N (Y ∩ X) G * size N X
  unfolding units litres
  units-≤ Y =
      le_trans (sum_mono _ _ N.count (λ i l. when-when-≤ (Y (ends true i) && Y (ends false i)) (counts X G (N.site i)) (counts (Y ∩ X) G (N.site i)) (N.site i).litres (size N X) (counted Y i)))
      (le_of_eq (sum-mul _ (size N X) N.count))

  quotas : (Y : Depots) → weigh quota Y 64 ≡ size N (Y ∩ X) * litres N X G
  unfolding weigh size
  quotas Y = sum-cong _ _ 64 (λ d l. when-when-mul (Y d) (X d) (N.crews d) (litres N X G)) ∙ sum-mul _ (litres N X G) 64

  -- no set has more litres per depot than X
  room : (Y : Depots) → units N.count ends unit Y ≤ weigh quota Y 64
  room Y =
      omega (
        arith,
        units-≤ Y,
        density N ok G X (next-densest N G X x) (Y ∩ X) (λ d t. x.candidate.listed d (and_r (Y d) (X d) t)) (λ d t. x.candidate.free d (and_r (Y d) (X d) t)),
        quotas Y,
      )

  units-all : sum unit N.count ≡ size N X * litres N X G
  unfolding litres
  units-all = omega (arith, sum-mul (λ i. when (counts X G (N.site i)) (N.site i).litres) (size N X) N.count)

  quotas-all : sum quota 64 ≡ size N X * litres N X G
  unfolding size weigh
  quotas-all = sum-mul (λ d. when (X d) (N.crews d)) (litres N X G) 64

  allotment : Allotment N.count ends unit quota
  allotment = allot N.count ends ends-small (size N X * litres N X G) unit quota units-all quotas-all room

  -- the second depot may have some of the site
  abbrev split : ℕ → Bool
  split i = X (N.site i).second && not (eqb (N.site i).first (N.site i).second)

  -- the shares of a site's first and second depot
  abbrev sharing : Bool → ℕ → ℕ
  sharing e i = parted (X (N.site i).first) (split i) (λ k. allotment.share k i) e

  -- what is allotted of a site that X carries, and of another
  units-counted : (i : ℕ) → i < N.count → T (counts X G (N.site i)) → allotment.share true i + allotment.share false i ≡ (N.site i).litres * size N X
  units-counted i l t = allotment.whole i l ∙ ap (λ w. w * size N X) (when-on (counts X G (N.site i)) (N.site i).litres t)

  units-uncounted : (i : ℕ) → i < N.count → (T (counts X G (N.site i)) → ⊥) → allotment.share true i + allotment.share false i ≡ 0
  units-uncounted i l f = omega (arith, allotment.whole i l, ap (λ w. w * size N X) (when-off (counts X G (N.site i)) (N.site i).litres f))

  touched : (i : ℕ) → T (counts X G (N.site i)) → T (touches X (N.site i))
  touched i t = and_r (within (X ∪ G) (N.site i)) (touches X (N.site i)) t

  load_is : (d : ℕ) → load_of N G X sharing d ≡ given N.count ends allotment.share d
  unfolding load_of given
  load_is d =
      sum-cong _ _ N.count
      (λ i l.
      let s : Site = N.site i in
      ⊎_elim
      (λ t.
      when-on (counts X G s) (when (eqb s.first d) (sharing true i) + when (eqb s.second d) (sharing false i)) t
      ∙ parted-level (X s.first) (X s.second) (eqb s.first s.second) (λ k. allotment.share k i) s.first s.second d (touched i t) (eqb→eq s.first s.second))
      (λ f.
      let z = units-uncounted i l f in
      let a : allotment.share true i ≡ 0 = omega arith in
      let b : allotment.share false i ≡ 0 = omega arith in
      when-off (counts X G s) (when (eqb s.first d) (sharing true i) + when (eqb s.second d) (sharing false i)) f
      ∙ omega (
        arith,
        ap (when (eqb (ends true i) d)) a,
        ap (when (eqb (ends false i) d)) b,
        when-zero (eqb (ends true i) d),
        when-zero (eqb (ends false i) d),
      ))
      (T? (counts X G s)))

  free : (e : Bool) (i : ℕ) → i < N.count → T (counts X G (N.site i)) → T (G (end e (N.site i))) → sharing e i ≡ 0
  free true i l t g = parted-first (X (N.site i).first) (split i) (λ k. allotment.share k i) (λ p. x.candidate.free _ p g)
  free false i l t g =
      let s : Site = N.site i in
      let out : T (X s.second) → ⊥ = λ p. x.candidate.free _ p g in
      parted-second (X s.first) (split i) (λ k. allotment.share k i) (⊎_elim (λ p. p) (λ p. absurd (out p)) (or_cases (X s.first) (X s.second) (touched i t)))
      (λ p. out (and_l (X s.second) (not (eqb s.first s.second)) p))

  own : (i : ℕ) → i < N.count → T (counts X G (N.site i)) → (N.site i).first ≡ (N.site i).second → sharing false i ≡ 0
  own i l t e =
      let s : Site = N.site i in
      parted-second (X s.first) (split i) (λ k. allotment.share k i)
      (⊎_elim (λ p. p) (λ p. subst (λ d. T (X d)) (sym e) p) (or_cases (X s.first) (X s.second) (touched i t)))
      (λ p. T_not (eqb s.first s.second) (and_r (X s.second) (not (eqb s.first s.second)) p) (eq→eqb s.first s.second e))

  leveled : Leveled N G X sharing
  leveled =
      record {
        spread =
            record {
              whole = λ i l t. parted-whole (X (N.site i).first) (split i) (λ k. allotment.share k i) ∙ units-counted i l t;
              free = free;
            };
        level = λ d t. load_is d ∙ allotment.level d (ok.small d (x.candidate.listed d t)) ∙ ap (λ n. n * litres N X G) (when-on (X d) (N.crews d) t);
        own = own;
      }

-- ---- the plan

-- a list of what f gives for the numbers below n
tabulated : (f : ℕ → ℕ) (n : ℕ) → (xs : List ℕ) × (length xs ≡ n) × ((i : ℕ) → i < n → get_or xs i 0 ≡ f i)
tabulated f zero = ([], refl, λ i l. absurd (let z : ⊥ = omega arith in z))
tabulated f (suc n) =
    let r = tabulated (λ i. f (suc i)) n in
    (f 0 ∷ r.0, ap suc r.1, at r.0 r.2)
  where
    at : (xs : List ℕ) → ((i : ℕ) → i < n → get_or xs i 0 ≡ f (suc i)) → (i : ℕ) → i < suc n → get_or (f 0 ∷ xs) i 0 ≡ f i
    at xs h zero l = refl
    at xs h (suc i) l = h i (le_of_suc-le-suc l)

-- a number whose depots are all below k
members-lt : (k x : ℕ) → ((d : ℕ) → T (has x d) → d < k) → x < 2 ^ k
members-lt k x h = subst (λ y. y < 2 ^ k) (ext (set_of (has x) k) x (has-set k (has x) h)) (set_of-lt k (has x))

module _ (N : Network) (ok : Valid N) (gs : List ℕ) (D : Decomposition N gs) where
  falling : Falling N gs
  falling = complete N ok gs D

  next : (k : ℕ) → k < length gs → Next N (before gs k) (group gs k)
  unfolding Decomposition
  next = follow-next N ∅ gs D

  -- the shares of group k, and none where there is no such group
  of-group : (k : ℕ) → (g : Bool → ℕ → ℕ) × (k < length gs → Leveled N (before gs k) (group gs k) g)
  of-group k =
      ⊎_elim (λ t. let x = next k (ltb→lt k (length gs) t) in (sharing N ok (before gs k) (group gs k) x, λ l. leveled N ok (before gs k) (group gs k) x))
      (λ f. (λ e i. 0, λ l. absurd (f (lt→ltb k (length gs) l))))
      (T? (ltb k (length gs)))

  -- the list of the first depots' shares, of each site that of the group that carries it
  abbrev table : (xs : List ℕ) × (length xs ≡ N.count) × ((i : ℕ) → i < N.count → get_or xs i 0 ≡ (of-group (carrier gs (N.site i))).0 true i)
  table = tabulated (λ i. (of-group (carrier gs (N.site i))).0 true i) N.count

  abbrev ss : List ℕ
  ss = table.0

  module _ (k : ℕ) (l : k < length gs) where
    abbrev G : Depots
    G = before gs k

    abbrev X : Depots
    X = group gs k

    abbrev g : Bool → ℕ → ℕ
    g = (of-group k).0

    good : Leveled N G X g
    good = (of-group k).1 l

    carried : (i : ℕ) → T (counts X G (N.site i)) → carrier gs (N.site i) ≡ k
    carried i t = eqb→eq _ _ (subst T (counts-carrier gs falling.apart k l (N.site i)) t)

    is_whole : (i : ℕ) → i < N.count → T (counts X G (N.site i)) → g true i + g false i ≡ whole N gs i
    unfolding whole group_size
    is_whole i m t = good.spread.whole i m t ∙ ap (λ j. (N.site i).litres * size N (group gs j)) (sym (carried i t))

    is-first : (i : ℕ) → i < N.count → T (counts X G (N.site i)) → first_share ss i ≡ g true i
    unfolding first_share
    is-first i m t = table.2 i m ∙ ap (λ j. (of-group j).0 true i) (carried i t)

    is_share : (e : Bool) (i : ℕ) → i < N.count → T (counts X G (N.site i)) → shares N gs ss e i ≡ g e i
    unfolding second_share
    is_share true i m t = is-first i m t
    is_share false i m t = omega (arith, is-first i m t, is_whole i m t)

    spread : Spread N G X (shares N gs ss)
    spread =
        record {
          whole = λ i m t. ap₂ ◌+◌ (is_share true i m t) (is_share false i m t) ∙ good.spread.whole i m t;
          free = λ e i m t b. is_share e i m t ∙ good.spread.free e i m t b;
        }

    level : (d : ℕ) → T (X d) → load_of N G X (shares N gs ss) d ≡ N.crews d * litres N X G
    unfolding load_of
    level d t =
        sum-cong _ _ N.count
        (λ i m.
        let s : Site = N.site i in
        when-cong-on (counts X G s)
        (λ c. ap₂ ◌+◌ (ap (when (eqb s.first d)) (is_share true i m c)) (ap (when (eqb s.second d)) (is_share false i m c))))
        ∙ good.level d t

  own-whole : (i : ℕ) → i < N.count → (N.site i).first ≡ (N.site i).second → first_share ss i ≡ whole N gs i
  own-whole i m e =
      let k = carrier gs (N.site i) in
      let l = carrier-lt N ok gs falling.listed i m in
      let t = subst T (sym (counts-carrier gs falling.apart k l (N.site i))) (eqb_refl k) in
      omega (arith, is-first k l i m t, is_whole k l i m t, (good k l).own i m t e)

  form : Formed N gs ss
  form =
      record {
        sets = λ k l. members-lt 64 (get_or gs k 0) (λ d t. ok.small d ((next k l).candidate.listed d t));
        each = table.1;
      }

  plan : TruePlan N gs ss
  plan = made N ok gs ss falling spread level own-whole form

-- "That whole shares always exist at scale q is for the team to show": whatever the litres and the crews, there are shares, whole numbers at the scale
-- of each group's size, with which the groups of the definition are a true plan.
pub shares-exist : (N : Network) → Valid N → (ss : List ℕ) × TruePlan N (groups_of N) ss
shares-exist N ok = (ss N ok (groups_of N) (computed N ok), plan N ok (groups_of N) (computed N ok))

-- the same of a list that rows 5, 22 and 23 do not refuse
pub list-shares-exist : (l : Listing) → T (in_range l) → (ss : List ℕ) × TruePlan (network l) (groups_of (network l)) ss
list-shares-exist l h = shares-exist (network l) (valid l h)
