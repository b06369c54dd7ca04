-- The network of a list as a value, and its listed depots gathered from the sites. Assumes nothing.
use mathlib.Core.Path.{◌≡◌, sym, ap, ap₂, ◌∙◌, subst}
use mathlib.Core.Bool.{Bool, ◌||◌, or_assoc, or_comm, or-false}
use mathlib.Core.List.{List}
use Prim.Native.Nat.{ℕ, ◌+◌, ◌≤◌, ◌<◌}
use native.Mathlib.Numerals.{add-one}
use native.Mathlib.Omega.{arith}
use lib.Dec.{T, eqb, ltb, ltb→lt}
use lib.ListN.{length, get_or}
use lib.Seq.{get_or-take, length-take-le}
use Rattle.sets.specs.Sum.{any}
use Rattle.sets.specs.Set.{Depots, only, ◌∪◌, has, set_of}
use Rattle.sets.proofs.Test.{and_l, and_r, eqb_swap}
use Rattle.sets.proofs.Sum.{all-at, any-cong}
use Rattle.sets.proofs.Member.{has-set_of, set_of-cong}
use Rattle.density.specs.declared.Site.{Site}
use Rattle.density.specs.Network.{no_site, site_at, names, enrolled, network, depots_in_range, in_range}
use Rattle.density.proofs.Lists.{range-depots}
use Rattle.records.specs.declared.ListArray.{ListArray}
use Rattle.records.specs.Values.{roll_in, listing}
use Rattle.tables.specs.Tables.{net}

module _ (list : ListArray) (wide : length list.sites ≡ 512) (few : list.count ≤ 512) where
  pub count-is : (net list).count ≡ list.count
  unfolding network
  count-is = length-take-le list.count list.sites (omega arith)

  pub site-is : (i : ℕ) → i < list.count → (net list).site i ≡ get_or list.sites i no_site
  unfolding network
  site-is i l = get_or-take list.count list.sites i no_site l

  -- "A depot is a number from 0 to 63."
  pub site-small : T (in_range (listing list)) → (i : ℕ) → i < list.count → ((get_or list.sites i no_site).first < 64) × ((get_or list.sites i no_site).second < 64)
  unfolding depots_in_range
  site-small h i l =
      let s = site_at (listing list) i in
      let b = all-at _ _ (range-depots (listing list) h) i (subst (λ n. i < n) (sym (length-take-le list.count list.sites (omega arith))) l) in
      let small : (s.first < 64) × (s.second < 64) =
      (ltb→lt s.first 64 (and_l (ltb s.first 64) (ltb s.second 64) b), ltb→lt s.second 64 (and_r (ltb s.first 64) (ltb s.second 64) b)) in
      subst (λ (t : Site). (t.first < 64) × (t.second < 64)) (get_or-take list.count list.sites i no_site l) small

-- ---- the depots that the first sites name, as a number

pub name-is : (set : ℕ) (s : Site) → set_of (has (set_of (has set ∪ only s.first) 64) ∪ only s.second) 64 ≡ set_of (has set ∪ names s) 64
name-is set s =
    set_of-cong _ _ 64
    (λ d l.
    ap₂ ◌||◌ (has-set_of 64 (has set ∪ only s.first) d l ∙ ap (λ (b : Bool). has set d || b) (eqb_swap d s.first)) (eqb_swap d s.second)
    ∙ or_assoc (has set d) (eqb s.first d) (eqb s.second d))

abbrev pub named : List Site → ℕ → Depots
named sites i d = any (λ j. names (get_or sites j no_site) d) i

-- with those of another set, B
pub named_start : (B : Depots) (sites : List Site) (set : ℕ) → set ≡ set_of B 64 → set ≡ set_of (B ∪ named sites 0) 64
unfolding any
named_start B sites set e = e ∙ set_of-cong _ _ 64 (λ d l. sym (or-false (B d)))

pub named_more : (B : Depots) (sites : List Site) (i set : ℕ) → set ≡ set_of (B ∪ named sites i) 64
    → set_of (has set ∪ names (get_or sites i no_site)) 64 ≡ set_of (B ∪ named sites (i + 1)) 64
unfolding any
named_more B sites i set e =
    set_of-cong _ _ 64
    (λ d l.
    ap (λ (b : Bool). b || names (get_or sites i no_site) d) (ap (λ (n : ℕ). has n d) e ∙ has-set_of 64 (B ∪ named sites i) d l)
    ∙ or_assoc (B d) (named sites i d) (names (get_or sites i no_site) d)
    ∙ sym (ap (λ (n : ℕ). B d || named sites n d) (add-one i)))

pub named_end : (list : ListArray) → length list.sites ≡ 512 → list.count ≤ 512 → (i : ℕ) → i ≡ list.count
    → set_of (enrolled (roll_in list.roll) ∪ named list.sites i) 64 ≡ set_of (net list).listed 64
unfolding network
named_end list wide few i e =
    set_of-cong _ _ 64
    (λ d l.
    ap (λ (b : Bool). enrolled (roll_in list.roll) d || b)
    (any-cong _ _ i (λ j m. ap (λ (s : Site). names s d) (sym (get_or-take list.count list.sites j no_site (omega arith))))
    ∙ ap (any (λ j. names (site_at (listing list) j) d)) (e ∙ sym (length-take-le list.count list.sites (omega arith))))
    ∙ or_comm (enrolled (roll_in list.roll) d) _)
