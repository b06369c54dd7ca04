-- Rows 12 and 13 and the place of a depot, group by group. Assumes nothing.
use mathlib.Core.Path.{◌≡◌, refl, sym, ap, ◌∙◌, subst}
use mathlib.Core.Bool.{Bool, true, false, not, ◌||◌, ◌&&◌, beq}
use mathlib.Core.List.{List}
use mathlib.Core.Option.{Option}
use mathlib.Core.Logic.{⊎_elim}
use Prim.Native.Nat.{ℕ, ◌+◌, ◌≤◌, ◌<◌, ◌^◌}
use native.Mathlib.Numerals.{add-one}
use native.Mathlib.Omega.{arith}
use lib.Dec.{T, eqb, ltb, eqb→eq, ltb→lt, lt→ltb, nltb→le, T_not, not_T}
use lib.ListN.{length, get_or, set}
use Rattle.sets.specs.Sum.{when, any}
use Rattle.sets.specs.Set.{Depots, ◌∪◌, ◌∩◌, has, set_of, is_empty, weigh}
use Rattle.sets.proofs.Test.{T?, T-ext, eq→eqb, is_false, fails}
use Rattle.sets.proofs.Sum.{sum-cong, any_at, any-from, any-cong}
use Rattle.sets.proofs.Member.{member-lt, has-none, has-set_of, set_of-is, set_of-cong}
use Rattle.sets.proofs.Set.{any_here}
use Rattle.density.specs.Network.{Listing, Network, Valid, crews_of, network, crews_above, size}
use Rattle.density.specs.Plan.{union, group, before, place, group_size}
use Rattle.density.specs.Rows.{groups_meet, groups_unlisted}
use Rattle.density.proofs.Places.{→group, before-suc}
use Rattle.density.proofs.Plans.{union→}
use Rattle.records.specs.declared.RollArray.{RollArray}
use Rattle.records.specs.Values.{roll_in}
use Rattle.tables.specs.Tables.{Holds}
use Rattle.tables.proofs.Arrays.{holds_more}

-- ---- the depots of the groups before k, as a number

module _ (gs : List ℕ) where
  pub before-start : 0 ≡ set_of (before gs 0) 64
  unfolding union
  before-start = set_of-is 64 (before gs 0) (omega arith) (λ d l. has-none d)

  pub before_more : (k seen : ℕ) → k < length gs → seen ≡ set_of (before gs k) 64 → set_of (has seen ∪ group gs k) 64 ≡ set_of (before gs (k + 1)) 64
  before_more k seen l e =
      set_of-cong _ _ 64
      (λ d m.
      ap (λ (b : Bool). b || group gs k d) (ap (λ (n : ℕ). has n d) e ∙ has-set_of 64 (before gs k) d m)
      ∙ sym (ap (λ (X : Depots). X d) (before-suc gs k l))
      ∙ sym (ap (λ (n : ℕ). before gs n d) (add-one k)))

  -- ---- row 12

  abbrev pub meets_at : ℕ → Bool
  meets_at k = is_empty (group gs k) 64 || not (is_empty (group gs k ∩ before gs k) 64)

  pub meets-is : (k seen : ℕ) → seen ≡ set_of (before gs k) 64 → (is_empty (group gs k) 64 || not (is_empty (group gs k ∩ has seen) 64)) ≡ meets_at k
  meets-is k seen e =
      ap (λ (b : Bool). is_empty (group gs k) 64 || not (not b))
      (any-cong (group gs k ∩ has seen) (group gs k ∩ before gs k) 64
      (λ d l. ap (λ (b : Bool). group gs k d && b) (ap (λ (n : ℕ). has n d) e ∙ has-set_of 64 (before gs k) d l)))

  pub meet-here : (k : ℕ) → k < length gs → meets_at k ≡ true → groups_meet gs ≡ true
  unfolding groups_meet
  meet-here k l e = any_here meets_at (length gs) k l e

  pub meet-none : (k : ℕ) → k ≡ length gs → any meets_at k ≡ false → groups_meet gs ≡ false
  unfolding groups_meet
  meet-none k e h = ap (any meets_at) (sym e) ∙ h

-- ---- row 13

unequal : (a : Bool) → T (not (beq a a)) → ⊥
unequal true t = t
unequal false t = t

equal : (a b : Bool) → (T (not (beq a b)) → ⊥) → a ≡ b
equal true true n = refl
equal true false n = absurd (n tt)
equal false true n = absurd (n tt)
equal false false n = refl

pub unlisted-is : (N : Network) (gs : List ℕ) → not (eqb (set_of (union gs) 64) (set_of N.listed 64)) ≡ groups_unlisted N gs
unfolding groups_unlisted
unlisted-is N gs =
    T-ext (not (eqb (set_of X 64) (set_of Y 64))) (any (λ d. not (beq (X d) (Y d))) 64)
    (λ t.
    ⊎_elim (λ u. u)
    (λ n.
    absurd
    (T_not (eqb (set_of X 64) (set_of Y 64)) t
    (eq→eqb _ _ (set_of-cong X Y 64 (λ d l. equal (X d) (Y d) (λ u. n (any-from (λ e. not (beq (X e) (Y e))) 64 d l u)))))))
    (T? (any (λ d. not (beq (X d) (Y d))) 64)))
    (λ t.
    let r = any_at (λ d. not (beq (X d) (Y d))) 64 t in
    not_T (eqb (set_of X 64) (set_of Y 64))
    (λ u. unequal (Y r.0) (subst (λ (b : Bool). T (not (beq b (Y r.0)))) (at r.0 r.1 (eqb→eq _ _ u)) r.2)))
  where
    X : Depots
    X = union gs

    Y : Depots
    Y = N.listed

    at : (d : ℕ) → d < 64 → set_of X 64 ≡ set_of Y 64 → X d ≡ Y d
    at d l e = sym (has-set_of 64 X d l) ∙ ap (λ (n : ℕ). has n d) e ∙ has-set_of 64 Y d l

-- so the groups have the listed depots and no others
pub listed-is : (N : Network) → Valid N → (gs : List ℕ) → ((k : ℕ) → k < length gs → get_or gs k 0 < 2 ^ 64) → groups_unlisted N gs ≡ false → (d : ℕ) → union gs d ≡ N.listed d
unfolding groups_unlisted
listed-is N ok gs low e d =
    ⊎_elim
    (λ t.
    let l = ltb→lt d 64 t in
    equal (union gs d) (N.listed d) (λ u. fails _ e (any-from (λ e. not (beq (union gs e) (N.listed e))) 64 d l u)))
    (λ n.
    is_false (union gs d)
    (λ t. let p = union→ gs d t in n (lt→ltb d 64 (member-lt 64 d (low (place gs d) p) (→group gs (place gs d) d p refl))))
    ∙ sym (is_false (N.listed d) (λ t. n (lt→ltb d 64 (ok.small d t)))))
    (T? (ltb d 64))

-- ---- the crews of the depots, and q of a group

-- the crews of a list's depots
pub crews-net : (l : Listing) (roll : Option (List ℕ)) (crews : List ℕ) → l.roll ≡ roll → Holds crews (crews_of roll) 64 → Holds crews (network l).crews 64
unfolding network
crews-net l roll crews e h d m = h d m ∙ ap (λ (r : Option (List ℕ)). crews_of r d) (sym e)

-- where row 22 does not refuse the roll, each has at most 9
module _ (roll : RollArray) (crews : List ℕ) (h : Holds crews (crews_of (roll_in roll)) 64) where
  pub crews-few : crews_above (roll_in roll) ≡ false → (d : ℕ) → d < 64 → get_or crews d 0 ≤ 9
  unfolding crews_above
  crews-few e d l =
      rw (h d l)
      (nltb→le 9 (crews_of (roll_in roll) d) (not_T (ltb 9 (crews_of (roll_in roll) d)) (λ t. fails _ e (any-from (λ d. ltb 9 (crews_of (roll_in roll) d)) 64 d l t))))

-- a set's size is its crews added up
pub size_is : (N : Network) (crews : List ℕ) → Holds crews N.crews 64 → (X : Depots) → weigh (λ d. get_or crews d 0) X 64 ≡ size N X
unfolding size weigh
size_is N crews h X = sum-cong _ _ 64 (λ d l. ap (when (X d)) (h d l))

-- q of one group more
pub sizes-more : (crews gs a : List ℕ) (k x : ℕ) → ((N : Network) → Holds crews N.crews 64 → Holds a (group_size N gs) k) → k < length a
    → x ≡ weigh (λ d. get_or crews d 0) (group gs k) 64 → (N : Network) → Holds crews N.crews 64 → Holds (set a k x) (group_size N gs) (k + 1)
unfolding group_size
sizes-more crews gs a k x h low e N c = holds_more a (group_size N gs) k x (h N c) low (e ∙ size_is N crews c (group gs k))
