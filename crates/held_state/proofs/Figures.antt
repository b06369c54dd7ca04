-- W and q by the tables of the check, and their difference. Assumes nothing.
use mathlib.Core.Path.{◌≡◌, sym, ap, ◌∙◌, subst}
use mathlib.Core.Logic.{⊎_elim}
use mathlib.Core.Bool.{Bool, true, false, cond}
use mathlib.Core.List.{List}
use Prim.Native.Nat.{ℕ, zero, suc, ◌+◌, ◌-◌, ◌*◌, ◌≤◌, ◌<◌, ◌^◌}
use native.Mathlib.Nat.{mul-le-mul}
use native.Mathlib.Omega.{arith}
use lib.Dec.{T, ltb, ltb→lt, lt→ltb}
use lib.IntN.{ℤ, pos, negsuc, ◌-ℤ◌}
use lib.ListN.{get_or}
use lib.Signed.{mag}
use borrow.Author.Rules.{sfits_of}
use mir.Syntax.{w64}
use mir.Val.{SFits, to_z, of_z}
use mir.ValLaws.{to_z-of_z, to_z_pos}
use Rattle.sets.specs.Set.{has, set_of}
use Rattle.sets.proofs.Test.{T?, T-ext}
use Rattle.sets.proofs.Member.{set_of-lt, has-set_of, member-lt}
use Rattle.density.specs.Network.{in_range}
use Rattle.density.specs.Plan.{place, group_size, group_litres}
use Rattle.density.specs.Figures.{difference_of}
use Rattle.density.proofs.Lists.{valid}
use Rattle.records.specs.declared.ListArray.{ListArray}
use Rattle.records.specs.declared.PlanArray.{PlanArray}
use Rattle.records.specs.Values.{listing}
use Rattle.tables.specs.declared.Form.{Form}
use Rattle.tables.specs.Tables.{net, groups_in, Kept}
use Rattle.tables.proofs.Shares.{place-lt, sizes-few}
use Rattle.held_state.specs.Values.{held_litres, held_size}

-- the set of the listed depots has them
pub listed_has : (list : ListArray) → T (in_range (listing list)) → (d : ℕ) → has (set_of (net list).listed 64) d ≡ (net list).listed d
listed_has list h d =
    ⊎_elim (λ l. has-set_of 64 (net list).listed d (ltb→lt d 64 l))
    (λ n.
    T-ext (has (set_of (net list).listed 64) d) ((net list).listed d)
    (λ t. absurd (n (lt→ltb d 64 (member-lt 64 d (set_of-lt 64 (net list).listed) t))))
    (λ t. absurd (n (lt→ltb d 64 ((valid (listing list) h).small d t)))))
    (T? (ltb d 64))

-- ---- the figures of a listed depot

module _ (list : ListArray) (plan : PlanArray) (f : Form) (ws : List ℕ) (k : Kept list plan f ws) (d : ℕ) (t : T (has f.listed d)) where
  here : T ((net list).listed d)
  here = rw (k.listed, listed_has list k.ready.counted.range d) at t

  -- the place of a listed depot
  abbrev at : ℕ
  at = get_or f.places d 0

  pub depot-lt : d < 64
  depot-lt = (valid (listing list) k.ready.counted.range).small d here

  place_is : at ≡ place (groups_in list plan) d
  place_is = k.tables.place d depot-lt

  group-lt : at < plan.count
  group-lt = omega (arith, place_is, place-lt list plan k.ready d here)

  pub at_lt : at < 64
  at_lt = omega (arith, group-lt, k.ready.counted.groups)

  pub litres-is : get_or f.litres at 0 ≡ held_litres list plan d
  litres-is = k.litres.1.is (groups_in list plan) k.tables.place at at_lt ∙ ap (group_litres (net list) (groups_in list plan)) place_is

  pub litres-low : get_or f.litres at 0 ≤ 512 * 2 ^ 32
  litres-low = k.litres.1.low at at_lt

  pub size_is : get_or f.sizes at 0 ≡ held_size list plan d
  size_is = k.tables.size at group-lt ∙ ap (group_size (net list) (groups_in list plan)) place_is

  pub size_low : get_or f.sizes at 0 ≤ 576
  size_low = sizes-few list plan k.ready f.places f.sizes k.tables at group-lt

-- ---- a difference as a signed number

small : (b : Bool) (m n : ℕ) → m < 2 ^ 63 → n < 2 ^ 63 → mag (cond b (negsuc m) (pos n)) < 2 ^ 63
small true m n k l = k
small false m n k l = l

pub less-fits : (x y : ℕ) → x < 2 ^ 52 → y < 2 ^ 52 → SFits w64 (pos x -ℤ pos y)
less-fits x zero k l = sfits_of (let n : x + 0 < 2 ^ 63 = omega arith in n)
less-fits x (suc y) k l = sfits_of (small (ltb x (suc y)) (suc y - suc x) (x - suc y) (omega arith) (omega arith))

pub as-signed : (x : ℕ) → x < 2 ^ 52 → to_z w64 x ≡ pos x
as-signed x l = to_z_pos w64 x (let n : x < 2 ^ 63 = omega arith in n)

pub less-back : (z : ℤ) (x y : ℕ) → x < 2 ^ 52 → y < 2 ^ 52 → z ≡ pos x -ℤ pos y → to_z w64 (of_z w64 z) ≡ pos x -ℤ pos y
less-back z x y k l e = to_z-of_z w64 z (subst (SFits w64) (sym e) (less-fits x y k l)) ∙ e

-- a product of W and q
pub product_small : (w q : ℕ) → w ≤ 512 * 2 ^ 32 → q ≤ 576 → w * q < 2 ^ 52
product_small w q l m = omega (arith, mul-le-mul l m)

-- the difference of two depots, and its divisor
pub difference-is : (wa qa wb qb wa' qa' wb' qb' : ℕ) (d : ℤ) → d ≡ difference_of wa qa wb qb → wa ≡ wa' → qa ≡ qa' → wb ≡ wb' → qb ≡ qb'
    → (d ≡ difference_of wa' qa' wb' qb') × (qa * qb ≡ qa' * qb')
difference-is wa qa wb qb wa' qa' wb' qb' d e a b c f = (e ∙ rw (a, b, c, f), rw (b, f))
