-- `held_state::groups_read` meets its contract. The invariant: no group passed is below the threshold. Assumes nothing.
use mathlib.Core.Path.{◌≡◌, sym, ◌∙◌, subst}
use mathlib.Core.Bool.{false}
use Prim.Native.Nat.{ℕ}
use native.Mathlib.Omega.{arith}
use Rattle.sets.specs.Sum.{any}
use Rattle.sets.proofs.Set.{any-start, any-more}
use Rattle.held_state.proofs.AtLeast.{low, size_low, read-to, read_all}
use Rattle.held_state.proofs.groups_read.Goals as goal

pub loop-k-init : goal.loop-k-init
loop-k-init c = any-start _

pub is_below-requires : goal.is_below-requires
is_below-requires c = let h = c.requires in size_low h.3 h.4 c.loop-k.k (omega (arith, c.loop-k-test.true))

pub returns-then-is_below : goal.returns-then-is_below
returns-then-is_below c = (
  omega arith,
  λ list plan ws k e. read-to k e c.args.threshold c.loop-k.k (omega (arith, c.loop-k-test.true)) c.loop-k.invariant (sym c.is_below.ensures ∙ c.if-is_below.true),
)

pub loop-k-preserved : goal.loop-k-preserved
loop-k-preserved c = any-more (low c.args.f c.args.threshold) c.loop-k.k c.loop-k.invariant (sym c.is_below.ensures ∙ c.if-is_below.false)

pub returns : goal.returns
returns c =
    let all : c.loop-k.k ≡ c.args.n = omega arith in
    (omega arith, λ list plan ws k e. read_all k e c.args.threshold (subst (λ (n : ℕ). any (low c.args.f c.args.threshold) n ≡ false) all c.loop-k.invariant))
