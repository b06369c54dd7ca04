-- `rows::groups_rise` meets its contract. The invariant: W/q falls at each group passed. Assumes nothing.
use mathlib.Core.Path.{◌≡◌, sym, ap, ◌∙◌, subst}
use mathlib.Core.Bool.{false}
use mathlib.Core.List.{List}
use Prim.Native.Nat.{ℕ, ◌+◌, ◌-◌, ◌*◌, ◌≤◌}
use native.Mathlib.Omega.{arith}
use lib.Dec.{leb}
use lib.ListN.{get_or}
use borrow.Author.Tests.{le-leb, lt-leb}
use Rattle.sets.specs.Sum.{any}
use Rattle.sets.proofs.Set.{any-start, any-more, any_here}
use Rattle.tables.proofs.Totals.{rises_at, rises-is}
use Rattle.tables.proofs.Shares.{product-fits}
use borrow.Author.Rules.{rules}
use Rattle.rows.proofs.groups_rise.Goals as goal

-- the group before k and k, as the test reads them
here : (litres sizes : List ℕ) (k : ℕ) → 1 ≤ k → rises_at litres sizes (k - 1) ≡ leb (get_or litres (k - 1) 0 * get_or sizes k 0) (get_or litres k 0 * get_or sizes (k - 1) 0)
here litres sizes k l = let e : k - 1 + 1 ≡ k = omega arith in rw e

pub loop-k-init : goal.loop-k-init
loop-k-init c = (search rules, any-start _)

pub overflow_mul-litres : goal.overflow_mul-litres
overflow_mul-litres c =
    let k = c.loop-k.k in
    omega (arith, product-fits (get_or c.args.litres.now (k - 1) 0) (get_or c.args.sizes.now k 0) (c.requires.litre (k - 1) (omega arith)) (c.requires.size k (omega arith)))

pub overflow_mul-litres-in-loop-k : goal.overflow_mul-litres-in-loop-k
overflow_mul-litres-in-loop-k c =
    let k = c.loop-k.k in
    omega (arith, product-fits (get_or c.args.litres.now k 0) (get_or c.args.sizes.now (k - 1) 0) (c.requires.litre k (omega arith)) (c.requires.size (k - 1) (omega arith)))

pub returns-then-litres-k : goal.returns-then-litres-k
returns-then-litres-k c = λ N gs e w q.
    let a = c.args in
    let k = c.loop-k.k in
    sym (sym (rises-is a.litres.now a.sizes.now a.n N gs e w q)
    ∙ any_here (rises_at a.litres.now a.sizes.now) (a.n - 1) (k - 1) (omega arith) (here a.litres.now a.sizes.now k (omega arith) ∙ le-leb _ _ c.if-litres-k.true))

pub loop-k-preserved : goal.loop-k-preserved
loop-k-preserved c =
    let a = c.args in
    let k = c.loop-k.k in
    let e : k - 1 + 1 ≡ k + 1 - 1 = omega arith in (
      omega arith,
      subst (λ (n : ℕ). any (rises_at a.litres.now a.sizes.now) n ≡ false) e
          (any-more (rises_at a.litres.now a.sizes.now) (k - 1) c.loop-k.invariant.1 (here a.litres.now a.sizes.now k (omega arith) ∙ lt-leb _ _ c.if-litres-k.false)),
    )

pub returns : goal.returns
returns c = λ N gs e w q.
    let a = c.args in
    let end : a.n - 1 ≡ c.loop-k.k - 1 = omega arith in
    sym (sym (rises-is a.litres.now a.sizes.now a.n N gs e w q) ∙ ap (any (rises_at a.litres.now a.sizes.now)) end ∙ c.loop-k.invariant.1)
