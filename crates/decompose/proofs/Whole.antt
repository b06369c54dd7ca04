-- From a list to the maker's arrays, and back to the plan. Assumes nothing.
use mathlib.Core.Bool.{Bool, false, true}
use mathlib.Core.List.{List}
use mathlib.Core.Logic.{◌⊎◌, inl, inr, ⊎_elim}
use mathlib.Core.Path.{◌∙◌, ◌≡◌, ap, refl, subst, sym}
use Prim.Native.Nat.{◌*◌, ◌+◌, ◌<◌, ◌^◌, ◌≤◌, ℕ}
use native.Mathlib.Nat.{mul-le-mul_right}
use native.Mathlib.Omega.{arith}
use lib.Dec.{T}
use lib.ListN.{get_or, get_or-replicate, length, replicate, set, take}
use Rattle.sets.specs.Set.{has, set_of}
use Rattle.sets.specs.Sum.{sum}
use Rattle.sets.proofs.Member.{has-set}
use Rattle.sets.proofs.Sum.{sum-≤}
use Rattle.density.specs.Network.{Network, Valid, crews_of, in_range, network, no_site, end}
use Rattle.density.specs.Plan.{TruePlan}
use Rattle.density.specs.declared.Site.{Site}
use Rattle.density.proofs.Existence.{decomposition-is}
use Rattle.density.proofs.Lists.{valid, range-roll}
use Rattle.records.specs.Values.{roll_in, listing}
use Rattle.records.specs.declared.ListArray.{ListArray}
use Rattle.tables.specs.Tables.{net, Holds as CrewsIn}
use Rattle.tables.proofs.Groups.{crews-few}
use Rattle.tables.proofs.Sites.{count-is, site-is, site-small}
use Rattle.residual.specs.Array.{at}
use Rattle.residual.specs.Search.{Linking, reverse}
use Rattle.residual.proofs.Laws.{below?}
use Rattle.attempt.specs.Arrays.{Begun, Grouped, Holds, Tables, arc}
use Rattle.attempt.proofs.Laws.{zero-at}
use Rattle.attempt.proofs.AllLaid.{side}
use Rattle.decompose.specs.Arrays.{Copied, Filling}
use Rattle.decompose.specs.Planned.{Planned}

-- the arrays before they are filled
pub fill_begins : (table : List Site) → Filling table (replicate 1024 64) (replicate 512 0) 0
fill_begins table = record {
  arcs = refl;
  sizes = refl;
  low = omega arith;
  depot = λ e k l. absurd (omega arith);
  litre = λ k l. absurd (omega arith);
  fits = λ k l. absurd (omega arith);
  blank = λ e k l m. blank e k m;
  none = λ k l m. zero-at 512 k;
}
  where
    blank : (e : Bool) (k : ℕ) → k < 512 → at (replicate 1024 64) (arc e k) ≡ 64
    blank true k m = get_or-replicate 1024 k 64 0 (omega arith)
    blank false k m = get_or-replicate 1024 (512 + k) 64 0 (omega arith)

pub link-begins : (ends : List ℕ) → length ends ≡ 1024 → Linking ends (replicate 1088 0) 0
link-begins ends e = record {
  arcs = e;
  size = refl;
  low = omega arith;
  first = λ d l. rw (zero-at 1088 (1024 + d)) (record { below = omega arith; here = λ h. absurd (omega arith); none = λ j a b. absurd (omega arith) });
  next = λ k l. absurd (omega arith);
}

module _ {table : List Site} {ends litres : List ℕ} {n : ℕ} (f : Filling table ends litres n)
    (small : (k : ℕ) → k < n → ((get_or table k no_site).first < 64) × ((get_or table k no_site).second < 64)) where
  -- a site's depot, or none
  depots : (e : Bool) (k : ℕ) → k < 512 → ((k < n) × (at ends (arc e k) < 64)) ⊎ ((n ≤ k) × (at ends (arc e k) ≡ 64))
  depots e k l = ⊎_elim (λ (z : k < n). inl (z, rw (f.depot e k z) (low e k z))) (λ (z : n ≤ k). inr (z, f.blank e k z l)) (below? k n)
    where
      low : (e : Bool) (k : ℕ) → k < n → end e (get_or table k no_site) < 64
      low true k z = (small k z).0
      low false k z = (small k z).1

  both : (e g : Bool) (k : ℕ) → k < 512 → at ends (arc e k) < 64 → at ends (arc g k) < 64
  both e g k l h = ⊎_elim
      (λ y. ⊎_elim (λ z. z.1) (λ z. absurd (omega (arith, y.0, z.0))) (depots g k l))
      (λ y. absurd (omega (arith, y.1)))
      (depots e k l)

  most : (e : Bool) (k : ℕ) → k < 512 → at ends (arc e k) ≤ 64
  most e k l = ⊎_elim (λ z. omega (arith, z.1)) (λ z. omega (arith, z.1)) (depots e k l)

  litre-most : (k : ℕ) → k < 512 → at litres k ≤ 2 ^ 32
  litre-most k l = ⊎_elim (λ (z : k < n). omega (arith, f.fits k z)) (λ (z : n ≤ k). omega (arith, f.none k z l)) (below? k n)

  litres-sum : sum (at litres) 512 ≤ 512 * 2 ^ 32
  litres-sum = sum-≤ (at litres) (2 ^ 32) 512 litre-most

  -- the arrays hold a network that is valid
  tables-of : {N : Network} {crews : List ℕ} {all : ℕ} → Valid N → length crews ≡ 64 → ((d : ℕ) → d < 64 → at crews d ≤ 9) → Holds N ends litres crews all → Tables ends litres crews all
  tables-of {N} {crews} ok size most-crews h = record {
    paired = record {
      size = f.arcs;
      both = λ j h e. let s = side j h in ⊎_elim
          (λ z. rw z.1 (both true false s.site s.is (rw z.0 at e)))
          (λ z. rw z.1 (both false true s.site s.is (rw z.0 at e)))
          s.which;
    };
    most = λ j h. let s = side j h in ⊎_elim (λ z. rw z.0 (most true s.site s.is)) (λ z. rw z.0 (most false s.site s.is)) s.which;
    sites = record {
      arcs = f.arcs;
      sizes = f.sizes;
      pair = both true false;
      none = λ k l h. ⊎_elim (λ (z : at ends (512 + k) < 64). absurd (omega (arith, both false true k l z))) (λ z. z) (below? (at ends (512 + k)) 64);
      void = λ k l h. ⊎_elim (λ z. absurd (omega (arith, z.1))) (λ z. f.none k z.0 l) (depots true k l);
    };
    crew = size;
    most-crews = most-crews;
    network = N;
    valid = ok;
    holds = h;
    litre-fits = omega (arith, litres-sum);
    fits = omega (arith, litres-sum, mul-le-mul_right (sum (at litres) 512) (sum-≤ (at crews) 9 64 most-crews));
  }

module _ (list : ListArray) (few : list.count ≤ 512) (range : T (in_range (listing list))) (wide : length list.sites ≡ 512) {ends litres : List ℕ}
    (f : Filling list.sites ends litres list.count) {all : ℕ} (is : all ≡ set_of (net list).listed 64)
    (crews : List ℕ) (each : CrewsIn crews (crews_of (roll_in list.roll)) 64) where
  ok : Valid (net list)
  ok = valid (listing list) range

  held : Holds (net list) ends litres crews all
  unfolding network
  held = record {
    few = omega (arith, count-is list wide few);
    depot = λ e i l. let z : i < list.count = omega (arith, count-is list wide few) in f.depot e i z ∙ sym (ap (end e) (site-is list wide few i z));
    litre = λ i l. let z : i < list.count = omega (arith, count-is list wide few) in f.litre i z ∙ sym (ap (λ (s : Site). s.litres) (site-is list wide few i z));
    none = λ i l h. f.none i (omega (arith, count-is list wide few)) h;
    blank = λ e i l h. omega (arith, f.blank e i (omega (arith, count-is list wide few)) h);
    crew = each;
    list = λ d. ap (λ (n : ℕ). has n d) is ∙ has-set 64 (net list).listed ok.small d;
  }

  pub tables : length crews ≡ 64 → Tables ends litres crews all
  tables size = tables-of f (site-small list wide few range) ok size (crews-few list.roll crews each (range-roll (listing list) range)) held

  pub planned : {share groups shares : List ℕ} {n : ℕ} → Grouped ends litres crews all share groups n → Copied share list.count shares
      → Planned list (record { count = n; groups = groups; shares = shares })
  planned {share} {groups} {shares} {n} p c =
      let plan : TruePlan (net list) (take n groups) (take list.count shares) =
      subst (TruePlan (net list) (take n groups)) (ap (λ (k : ℕ). take k share) (count-is list wide few) ∙ sym c.first) (p.plan (net list) ok held) in
      record {
        few = p.few;
        plan = plan;
        groups-are = decomposition-is (net list) ok (take n groups) plan.groups;
        groups-beyond = p.beyond;
        shares-beyond = c.beyond;
      }

pub begun : {ends : List ℕ} {all : ℕ} → all < 2 ^ 64 → Begun ends all (set (replicate 64 0) 0 all) (replicate 1024 0) (replicate 64 0)
begun fits = record {
  bits = fits;
  wide = refl;
  base = refl;
  shares = record { size = refl; blank = λ j h e. zero-at 1024 j; sites = λ j h. omega (arith, zero-at 1024 j, zero-at 1024 (reverse j)) };
  places = refl;
  empty = zero-at 64;
}
