-- Units given to depots. There are items, each with two ends and some units, and each unit goes to an end of its item. If the units inside no set of
-- depots are more than the quotas of its depots, and all quotas together are as many as the units, then each depot can be given its quota. (Hakimi's
-- theorem: a multigraph has an orientation with given in-degrees.) Assumes nothing.
use mathlib.Core.Path.{◌≡◌, refl, sym, ap, ap₂, ◌∙◌, subst}
use mathlib.Core.Logic.{⊎_elim}
use mathlib.Core.Bool.{Bool, true, false, not, ◌&&◌, ◌||◌}
use Prim.Native.Nat.{ℕ, zero, suc, ◌+◌, ◌-◌, ◌^◌, ◌≤◌, ◌<◌}
use native.Mathlib.Nat.{le_refl, le_step, eq-zero-or-pos}
use native.Mathlib.Omega.{arith}
use lib.Dec.{T, T_not, not_T, eqb, leb, eqb→eq, leb→le, eqb_refl, nleb→lt}
use Rattle.sets.specs.Sum.{when, sum, any}
use Rattle.sets.specs.Set.{Depots, only, ◌∪◌, ◌∩◌, has, set_of, weigh}
use Rattle.sets.proofs.Test.{and_i, and_l, and_r, T?, when-on, when-off, when-cong, when-add, when-zero}
use Rattle.sets.proofs.Sum.{sum-cong, sum_lt, sum-zero, sum-add, sum-cong₂, sum-pick, sum-term, any_at, any-from}
use Rattle.sets.proofs.Weigh.{weigh-cong, weigh-modular, weigh-only}
use Rattle.sets.proofs.Member.{set_of-lt, has-set_of}
use Rattle.density.proofs.Litres.{super-tests}

-- the units of the items whose ends both lie in Y; u i are the units of item i
unfoldable pub units : ℕ → (Bool → ℕ → ℕ) → (ℕ → ℕ) → Depots → ℕ
units n ends u Y = sum (λ i. when (Y (ends true i) && Y (ends false i)) (u i)) n

-- what depot d has, where h true i and h false i go to the ends of item i
unfoldable pub given : ℕ → (Bool → ℕ → ℕ) → (Bool → ℕ → ℕ) → ℕ → ℕ
given n ends h d = sum (λ i. when (eqb (ends true i) d) (h true i) + when (eqb (ends false i) d) (h false i)) n

-- every unit goes to an end of its item, and each depot has its quota t d
pub record Allotment (n : ℕ) (ends : Bool → ℕ → ℕ) (u t : ℕ → ℕ) : Type 0 where
  pub share : Bool → ℕ → ℕ
  pub whole : (i : ℕ) → i < n → share true i + share false i ≡ u i
  pub level : (d : ℕ) → d < 64 → given n ends share d ≡ t d

-- ---- one less at j

abbrev less : (ℕ → ℕ) → ℕ → ℕ → ℕ
less u j i = u i - when (eqb j i) 1

less_one : (u : ℕ → ℕ) (j : ℕ) → 0 < u j → (i : ℕ) → less u j i + when (eqb j i) 1 ≡ u i
less_one u j p i =
    ⊎_elim (λ t. omega (arith, when-on (eqb j i) 1 t, ap u (eqb→eq j i t))) (λ f. omega (arith, when-off (eqb j i) 1 f)) (T? (eqb j i))

when-swap : (a b : Bool) → when a (when b 1) ≡ when b (when a 1)
when-swap true b = refl
when-swap false b = sym (when-zero b)

sum_less : (c : ℕ → Bool) (u : ℕ → ℕ) (j n : ℕ) → j < n → 0 < u j → sum (λ i. when (c i) (less u j i)) n + when (c j) 1 ≡ sum (λ i. when (c i) (u i)) n
sum_less c u j n l p =
    ap (λ m. sum (λ i. when (c i) (less u j i)) n + m) (sym (sum-pick (λ i. when (c i) 1) j n l))
    ∙ sum-cong₂ (λ i. when (c i) (less u j i)) (λ i. when (eqb j i) (when (c i) 1)) (λ i. when (c i) (u i)) n
    (λ i m. ap (λ k. when (c i) (less u j i) + k) (when-swap (eqb j i) (c i)) ∙ sym (when-add (c i) (less u j i) (when (eqb j i) 1)) ∙ ap (when (c i)) (less_one u j p i))

-- a sum that is not 0 has a term that is not
sum-some : (f : ℕ → ℕ) (n : ℕ) → 0 < sum f n → (i : ℕ) × (i < n) × (0 < f i)
unfolding sum
sum-some f zero p = absurd (let z : ⊥ = omega arith in z)
sum-some f (suc n) p =
    ⊎_elim (λ (e : f n ≡ 0). let r = sum-some f n (omega arith) in (r.0, le_step r.1, r.2)) (λ q. (n, le_refl (suc n), q)) (eq-zero-or-pos (f n))

-- ---- tests of two ends

super-strict : (a b a' b' : Bool) (w : ℕ) → T a → (T b → ⊥) → (T a' → ⊥) → T b' → 0 < w
    → when (a && a') w + when (b && b') w < when ((a || b) && (a' || b')) w + when ((a && b) && (a' && b')) w
super-strict true true a' b' w t f g s p = absurd (f tt)
super-strict true false true b' w t f g s p = absurd (g tt)
super-strict true false false true w t f g s p = omega arith
super-strict true false false false w t f g s p = absurd s
super-strict false b a' b' w t f g s p = absurd t

two : (g : Bool → Bool) (e : Bool) → T (g e) → T (g (not e)) → T (g true && g false)
two g true s t = and_i (g true) (g false) s t
two g false s t = and_i (g true) (g false) t s

-- one unit more of item j to its end e
abbrev more : Bool → ℕ → (Bool → ℕ → ℕ) → Bool → ℕ → ℕ
more true j h true i = h true i + when (eqb j i) 1
more true j h false i = h false i
more false j h true i = h true i
more false j h false i = h false i + when (eqb j i) 1

more-whole : (e : Bool) (j : ℕ) (h : Bool → ℕ → ℕ) (i : ℕ) → more e j h true i + more e j h false i ≡ h true i + h false i + when (eqb j i) 1
more-whole true j h i = omega arith
more-whole false j h i = omega arith

module _ (n : ℕ) (ends : Bool → ℕ → ℕ) (small : (e : Bool) (i : ℕ) → i < n → ends e i < 64) where
  more-term : (e : Bool) (j : ℕ) (h : Bool → ℕ → ℕ) (d i : ℕ)
      → when (eqb (ends true i) d) (h true i) + when (eqb (ends false i) d) (h false i) + when (eqb j i) (when (eqb (ends e i) d) 1)
      ≡ when (eqb (ends true i) d) (more e j h true i) + when (eqb (ends false i) d) (more e j h false i)
  more-term true j h d i = omega (arith, when-swap (eqb j i) (eqb (ends true i) d), when-add (eqb (ends true i) d) (h true i) (when (eqb j i) 1))
  more-term false j h d i = omega (arith, when-swap (eqb j i) (eqb (ends false i) d), when-add (eqb (ends false i) d) (h false i) (when (eqb j i) 1))

  given-more : (e : Bool) (j : ℕ) (h : Bool → ℕ → ℕ) (d : ℕ) → j < n → given n ends h d + when (eqb (ends e j) d) 1 ≡ given n ends (more e j h) d
  unfolding given
  given-more e j h d l =
      ap (λ m. given n ends h d + m) (sym (sum-pick (λ i. when (eqb (ends e i) d) 1) j n l))
      ∙ sum-cong₂ _ (λ i. when (eqb j i) (when (eqb (ends e i) d) 1)) _ n (λ i m. more-term e j h d i)

  units-cong : (u : ℕ → ℕ) (Y Z : Depots) → ((d : ℕ) → d < 64 → Y d ≡ Z d) → units n ends u Y ≡ units n ends u Z
  unfolding units
  units-cong u Y Z e =
      sum-cong _ _ n (λ i l. when-cong _ _ (u i) (ap₂ ◌&&◌ (e (ends true i) (small true i l)) (e (ends false i) (small false i l))))

  -- no set has more units inside it than its depots' quotas
  abbrev Room : (ℕ → ℕ) → (ℕ → ℕ) → Type 0
  Room u t = (Y : Depots) → units n ends u Y ≤ weigh t Y 64

  -- an item j that has a unit
  module _ (u t : ℕ → ℕ) (room : Room u t) (j : ℕ) (l : j < n) (some : 0 < u j) where
    units-term : (e : Bool) (Y : Depots) → T (Y (ends e j)) → T (Y (ends (not e) j)) → 0 < units n ends u Y
    unfolding units
    units-term e Y p q =
        omega (
          arith,
          sum-term (λ i. when (Y (ends true i) && Y (ends false i)) (u i)) j n l,
          when-on (Y (ends true j) && Y (ends false j)) (u j) (two (λ k. Y (ends k j)) e p q),
        )

    units-less : (Y : Depots) → units n ends (less u j) Y + when (Y (ends true j) && Y (ends false j)) 1 ≡ units n ends u Y
    unfolding units
    units-less Y = sum_less (λ i. Y (ends true i) && Y (ends false i)) u j n l some

    units-super : (Y Z : Depots) → T (Y (ends true j)) → (T (Z (ends true j)) → ⊥) → (T (Y (ends false j)) → ⊥) → T (Z (ends false j))
        → units n ends u Y + units n ends u Z < units n ends u (Y ∪ Z) + units n ends u (Y ∩ Z)
    unfolding units
    units-super Y Z a b c d =
        omega (
          arith,
          sum_lt (λ i. when (Y (ends true i) && Y (ends false i)) (u i) + when (Z (ends true i) && Z (ends false i)) (u i))
              (λ i. when ((Y ∪ Z) (ends true i) && (Y ∪ Z) (ends false i)) (u i) + when ((Y ∩ Z) (ends true i) && (Y ∩ Z) (ends false i)) (u i)) n
              (λ i m. super-tests (Y (ends true i)) (Z (ends true i)) (Y (ends false i)) (Z (ends false i)) (u i)) j l
              (super-strict (Y (ends true j)) (Z (ends true j)) (Y (ends false j)) (Z (ends false j)) (u j) a b c d some),
          sum-add (λ i. when (Y (ends true i) && Y (ends false i)) (u i)) (λ i. when (Z (ends true i) && Z (ends false i)) (u i)) n,
          sum-add (λ i. when ((Y ∪ Z) (ends true i) && (Y ∪ Z) (ends false i)) (u i)) (λ i. when ((Y ∩ Z) (ends true i) && (Y ∩ Z) (ends false i)) (u i)) n,
        )

    -- set x has end e of item j and not the other, and no room for a unit more
    abbrev tight : Bool → ℕ → Bool
    tight e x = (has x (ends e j) && not (has x (ends (not e) j))) && leb (weigh t (has x) 64) (units n ends u (has x))

    -- there is such a set among all sets of depots; this search is never run
    abbrev blocked : Bool → Bool
    blocked e = any (tight e) (2 ^ 64)

    -- both ends are not blocked: of two such sets, the union and the intersection together have more units inside them than quotas
    not-both : T (blocked true) → T (blocked false) → ⊥
    not-both s r =
        let y = any_at (tight true) (2 ^ 64) s in
        let z = any_at (tight false) (2 ^ 64) r in
        let Y : Depots = has y.0 in
        let Z : Depots = has z.0 in
        let ye = and_l (Y (ends true j) && not (Y (ends false j))) (leb (weigh t Y 64) (units n ends u Y)) y.2 in
        let ze = and_l (Z (ends false j) && not (Z (ends true j))) (leb (weigh t Z 64) (units n ends u Z)) z.2 in
        omega (
          arith,
          units-super Y Z (and_l (Y (ends true j)) (not (Y (ends false j))) ye) (T_not (Z (ends true j)) (and_r (Z (ends false j)) (not (Z (ends true j))) ze))
              (T_not (Y (ends false j)) (and_r (Y (ends true j)) (not (Y (ends false j))) ye)) (and_l (Z (ends false j)) (not (Z (ends true j))) ze),
          leb→le (weigh t Y 64) (units n ends u Y) (and_r (Y (ends true j) && not (Y (ends false j))) (leb (weigh t Y 64) (units n ends u Y)) y.2),
          leb→le (weigh t Z 64) (units n ends u Z) (and_r (Z (ends false j) && not (Z (ends true j))) (leb (weigh t Z 64) (units n ends u Z)) z.2),
          room (Y ∪ Z),
          room (Y ∩ Z),
          weigh-modular t Y Z 64,
        )

    -- where it is not blocked, end e can have a unit: each set still has room for the units that are left
    module _ (e : Bool) (free : T (blocked e) → ⊥) where
      loose : (Y : Depots) → T (Y (ends e j)) → (T (Y (ends (not e) j)) → ⊥) → units n ends u Y < weigh t Y 64
      loose Y p q =
          let x : ℕ = set_of Y 64 in
          let same : (d : ℕ) → d < 64 → has x d ≡ Y d = has-set_of 64 Y in
          let a = small e j l in
          let b = small (not e) j l in
          let r = nleb→lt (weigh t (has x) 64) (units n ends u (has x))
          (not_T (leb (weigh t (has x) 64) (units n ends u (has x)))
          (λ s. free (any-from (tight e) (2 ^ 64) x (set_of-lt 64 Y)
          (and_i (has x (ends e j) && not (has x (ends (not e) j))) (leb (weigh t (has x) 64) (units n ends u (has x)))
          (and_i (has x (ends e j)) (not (has x (ends (not e) j))) (subst T (sym (same _ a)) p) (not_T (has x (ends (not e) j)) (λ k. q (subst T (same _ b) k)))) s)))) in
          omega (arith, units-cong u (has x) Y same, weigh-cong t (has x) Y 64 same)

      quota-some : 0 < t (ends e j)
      quota-some =
          let p : ℕ = ends e j in
          ⊎_elim (λ q. omega (arith, units-term e (only p) (eqb_refl p) q, room (only p), weigh-only t p 64 (small e j l)))
          (λ q. omega (arith, loose (only p) (eqb_refl p) q, weigh-only t p 64 (small e j l)))
          (T? (only p (ends (not e) j)))

      weigh-less : (Y : Depots) → weigh (less t (ends e j)) Y 64 + when (Y (ends e j)) 1 ≡ weigh t Y 64
      unfolding weigh
      weigh-less Y = sum_less Y t (ends e j) 64 (small e j l) quota-some

      room-less : Room (less u j) (less t (ends e j))
      room-less Y =
          ⊎_elim
          (λ p. ⊎_elim
          (λ q. omega (arith, units-less Y, weigh-less Y, room Y, when-on (Y (ends true j) && Y (ends false j)) 1 (two (λ k. Y (ends k j)) e p q), when-on (Y (ends e j)) 1 p))
          (λ q. omega (arith, units-less Y, weigh-less Y, loose Y p q, when-on (Y (ends e j)) 1 p))
          (T? (Y (ends (not e) j))))
          (λ p. omega (arith, units-less Y, weigh-less Y, room Y, when-off (Y (ends e j)) 1 p))
          (T? (Y (ends e j)))

      -- what is left is allotted, and the unit goes to end e
      give : Allotment n ends (less u j) (less t (ends e j)) → Allotment n ends u t
      give a =
          record {
            share = more e j a.share;
            whole = λ i m. more-whole e j a.share i ∙ ap (λ k. k + when (eqb j i) 1) (a.whole i m) ∙ less_one u j some i;
            level = λ d m. sym (given-more e j a.share d l) ∙ ap (λ k. k + when (eqb (ends e j) d) 1) (a.level d m) ∙ less_one t (ends e j) quota-some d;
          }

  -- by the number of units: each goes to an end that is not blocked
  pub allot : (m : ℕ) (u t : ℕ → ℕ) → sum u n ≡ m → sum t 64 ≡ m → ((Y : Depots) → units n ends u Y ≤ weigh t Y 64) → Allotment n ends u t
  unfolding given
  allot zero u t p q room =
      record {
        share = λ e i. 0;
        whole = λ i l. omega (arith, sum-term u i n l);
        level = λ d l. omega (arith, sum-term t d 64 l, sum-zero (λ i. when (eqb (ends true i) d) 0 + when (eqb (ends false i) d) 0) n (λ i m. omega (arith, when-zero (eqb (ends true i) d), when-zero (eqb (ends false i) d))));
      }
  allot (suc m) u t p q room =
      let r = sum-some u n (omega arith) in
      let j : ℕ = r.0 in
      let l : j < n = r.1 in
      let s : 0 < u j = r.2 in
      let lower : (e : Bool) → (T (blocked u t room j l s e) → ⊥) → Allotment n ends u t =
      λ e f.
      give u t room j l s e f
      (allot m (less u j) (less t (ends e j)) (omega (arith, sum_less (λ i. true) u j n l s))
      (omega (arith, sum_less (λ d. true) t (ends e j) 64 (small e j l) (quota-some u t room j l s e f))) (room-less u t room j l s e f)) in
      ⊎_elim (λ b. lower false (not-both u t room j l s b)) (lower true) (T? (blocked u t room j l s true))
