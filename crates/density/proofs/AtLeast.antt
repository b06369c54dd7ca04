-- Document 02, a: in groups that fall, those read up to the first below the threshold are all that reach it. Assumes nothing.
use mathlib.Core.Path.{◌≡◌, refl, sym, ap₂, ◌∙◌, subst}
use mathlib.Core.Logic.{⊎_elim}
use mathlib.Core.Bool.{Bool, ◌&&◌}
use mathlib.Core.List.{List}
use Prim.Native.Nat.{ℕ, zero, suc, ◌+◌, ◌-◌, ◌*◌, ◌<◌, ◌≤◌}
use native.Mathlib.Nat.{mul_comm, mul_assoc, mul-le-mul, le_refl, lt_of_lt_of_le, lt_of_mul-lt-mul_right}
use native.Mathlib.Omega.{arith}
use lib.Dec.{T, leb, ltb, leb→le, le→leb, ltb→lt, nltb→le, not_T}
use lib.ListN.{length}
use Rattle.sets.specs.Set.{◌⊆◌, has, set_of, lowest}
use Rattle.sets.proofs.Test.{T?, T-ext, and_i, and_l, and_r}
use Rattle.sets.proofs.Sum.{any_at, any-from}
use Rattle.sets.proofs.Member.{has-set_of, of-set_of, set_of-cong}
use Rattle.sets.proofs.Weigh.{lowest-le, lowest-least, lowest-hit}
use Rattle.density.specs.Network.{Network, Valid}
use Rattle.density.specs.Groups.{Decomposition}
use Rattle.density.specs.Plan.{group, before, place, group_size, group_litres}
use Rattle.density.specs.Figures.{depot_litres, depot_size, reaches, at_least, at_least_by, groups_read, depots_read, every_group}
use Rattle.density.proofs.Places.{before→, →before, →group}
use Rattle.density.proofs.Plans.{complete, group-place, union→, →union}
use Rattle.density.proofs.Figures.{depot-litres, depot-size, groups-fall}

module _ (N : Network) (ok : Valid N) (gs : List ℕ) (h : Decomposition N gs) (m : ℕ) where
  abbrev W : ℕ → ℕ
  W k = group_litres N gs k

  abbrev Q : ℕ → ℕ
  Q k = group_size N gs k

  -- group k is below the threshold, and how many groups are read
  abbrev low : ℕ → Bool
  low k = ltb (W k) (m * Q k)

  abbrev end : ℕ
  end = lowest low (length gs)

  -- what is below the threshold stays below it
  low-next : (k : ℕ) → suc k < length gs → W k < m * Q k → W (suc k) < m * Q (suc k)
  low-next k l t =
      let a : W (suc k) * Q k < W k * Q (suc k) = groups-fall N ok gs h k l in
      let b : W k * Q (suc k) ≤ (m * Q k) * Q (suc k) = mul-le-mul (let z : W k ≤ m * Q k = omega arith in z) (le_refl (Q (suc k))) in
      let c : (m * Q k) * Q (suc k) ≡ (m * Q (suc k)) * Q k = rw (mul_assoc, mul_assoc, mul_comm (Q k) (Q (suc k))) refl in
      lt_of_mul-lt-mul_right (Q k) (subst (λ (z : ℕ). W (suc k) * Q k < z) c (lt_of_lt_of_le a b))

  low-on : (n k : ℕ) → k + n < length gs → W k < m * Q k → W (k + n) < m * Q (k + n)
  low-on zero k l t = rw (let z : k + 0 ≡ k = omega arith in z) t
  low-on (suc n) k l t =
      let e : suc k + n ≡ k + suc n = omega arith in
      subst (λ (j : ℕ). W j < m * Q j) e (low-on n (suc k) (omega arith) (low-next k (omega arith) t))

  -- a listed depot's group is one of the groups
  listed-place : (d : ℕ) → T (N.listed d) → place gs d < length gs
  listed-place d t = union→ gs d (subst T (sym ((complete N ok gs h).listed d)) t)

  place-listed : (d : ℕ) → place gs d < length gs → T (N.listed d)
  place-listed d l = subst T ((complete N ok gs h).listed d) (→union gs d l)

  -- a group that reaches the threshold is read
  reached-read : (d : ℕ) → T (at_least_by N gs m d) → place gs d < end
  reached-read d t =
      let p = place gs d in
      let over : m * Q p ≤ W p = leb→le (m * Q p) (W p) (and_r (N.listed d) (leb (m * Q p) (W p)) t) in
      let there : p < length gs = listed-place d (and_l (N.listed d) (leb (m * Q p) (W p)) t) in
      ⊎_elim (λ u. ltb→lt p end u)
      (λ n.
      let far : end ≤ p = nltb→le p end (not_T (ltb p end) n) in
      let hit = ltb→lt (W end) (m * Q end) (lowest-hit low (length gs) (omega arith)) in
      let e : end + (p - end) ≡ p = omega arith in
      absurd (let z = subst (λ (j : ℕ). W j < m * Q j) e (low-on (p - end) end (omega arith) hit) in omega arith))
      (T? (ltb p end))

  -- a group that is read reaches it
  read-reached : (d : ℕ) → place gs d < end → T (at_least_by N gs m d)
  read-reached d l =
      let p = place gs d in
      let few = lowest-le low (length gs) in
      let over : m * Q p ≤ W p = nltb→le (W p) (m * Q p) (not_T (low p) (lowest-least low (length gs) p l)) in
      and_i (N.listed d) (leb (m * Q p) (W p)) (place-listed d (omega arith)) (le→leb (m * Q p) (W p) over)

  read_at : (d : ℕ) → before gs end d ≡ at_least_by N gs m d
  read_at d =
      T-ext (before gs end d) (at_least_by N gs m d) (λ t. read-reached d (before→ gs end d t)) (λ t. →before gs end d (lowest-le low (length gs)) (reached-read d t))

  -- W and q of the depot's group are the definition's
  by-groups : (d : ℕ) → at_least_by N gs m d ≡ at_least N m d
  by-groups d = ap₂ (λ (w q : ℕ). N.listed d && reaches m w q) (depot-litres N ok gs h d) (depot-size N ok gs h d)

  pub by-is : set_of (at_least_by N gs m) 64 ≡ set_of (at_least N m) 64
  by-is = set_of-cong (at_least_by N gs m) (at_least N m) 64 (λ d l. by-groups d)

  -- Looking at every group finds the depots that reach the threshold.
  every-at : (d : ℕ) → every_group N gs m d ≡ at_least_by N gs m d
  unfolding every_group
  every-at d =
      let p = place gs d in
      let holds : ℕ → Bool = λ k. group gs k d && leb (m * Q k) (W k) in
      T-ext (every_group N gs m d) (at_least_by N gs m d)
      (λ t.
      let (k, l, u) = any_at holds (length gs) t in
      let e : p ≡ k = group-place gs (complete N ok gs h).apart k d l (and_l (group gs k d) (leb (m * Q k) (W k)) u) in
      and_i (N.listed d) (leb (m * Q p) (W p)) (place-listed d (omega arith)) (rw e (and_r (group gs k d) (leb (m * Q k) (W k)) u)))
      (λ t.
      let l = listed-place d (and_l (N.listed d) (leb (m * Q p) (W p)) t) in
      any-from holds (length gs) p l
      (and_i (group gs p d) (leb (m * Q p) (W p)) (→group gs p d l refl) (and_r (N.listed d) (leb (m * Q p) (W p)) t)))

  pub every-is : set_of (every_group N gs m) 64 ≡ set_of (at_least N m) 64
  every-is = set_of-cong (every_group N gs m) (at_least N m) 64 (λ d l. every-at d ∙ by-groups d)

  -- So does reading up to the first group below it.
  pub read_is : set_of (depots_read N gs m) 64 ≡ set_of (at_least N m) 64
  unfolding groups_read
  read_is = set_of-cong (before gs end) (at_least N m) 64 (λ d l. read_at d ∙ by-groups d)

-- "a mark of 0 gives all listed depots"
pub at-least-zero : (N : Network) → set_of (at_least N 0) 64 ≡ set_of N.listed 64
at-least-zero N = set_of-cong (at_least N 0) N.listed 64 (λ d l. and-true (N.listed d) (depot_size N d) (depot_litres N d))
  where
    and-true : (b : Bool) (q w : ℕ) → (b && leb (0 * q) w) ≡ b
    and-true b q w = T-ext (b && leb (0 * q) w) b (λ t. and_l b (leb (0 * q) w) t) (λ t. and_i b (leb (0 * q) w) t (le→leb (0 * q) w (omega arith)))

-- a higher threshold gives a subset
pub at-least-fewer : (N : Network) (m n : ℕ) → m ≤ n → has (set_of (at_least N n) 64) ⊆ has (set_of (at_least N m) 64)
at-least-fewer N m n l d t =
    let q = depot_size N d in
    let w = depot_litres N d in
    let (below, u) = of-set_of 64 (at_least N n) d t in
    let over : n * q ≤ w = leb→le (n * q) w (and_r (N.listed d) (leb (n * q) w) u) in
    let less : m * q ≤ n * q = mul-le-mul l (le_refl q) in
    subst T (sym (has-set_of 64 (at_least N m) d below))
    (and_i (N.listed d) (leb (m * q) w) (and_l (N.listed d) (leb (n * q) w) u) (le→leb (m * q) w (omega arith)))
