-- `held_state::difference_of` meets its contract. Assumes nothing.
use native.Mathlib.Nat.{mul-le-mul}
use native.Mathlib.Omega.{arith}
use Rattle.held_state.proofs.Figures.{less-back, product_small, difference-is}
use Rattle.held_state.proofs.difference_of.Goals as goal
use Rattle.held_state.proofs.difference_of.Goals.{After-figures_of-x, After-figures_of-y, After-less, Start}

pub figures_of-x-requires : goal.figures_of-x-requires
figures_of-x-requires c = (c.requires.0, c.requires.1)

pub figures_of-y-requires : goal.figures_of-y-requires
figures_of-y-requires c =
    let s = (goal.at.figures_of-y-requires c).Start in
    (s.requires.0, s.requires.2)

pub overflow_mul-x : goal.overflow_mul-x
overflow_mul-x c =
    let y = (goal.at.overflow_mul-x c).After-figures_of-y in
    let x = (goal.at.After-figures_of-y y).After-figures_of-x in
    omega (arith, product_small _ _ x.figures_of-x.ensures.1 y.figures_of-y.ensures.2)

pub overflow_mul-y : goal.overflow_mul-y
overflow_mul-y c =
    let y = (goal.at.overflow_mul-y c).After-figures_of-y in
    let x = (goal.at.After-figures_of-y y).After-figures_of-x in
    omega (arith, product_small _ _ y.figures_of-y.ensures.1 x.figures_of-x.ensures.2)

pub less-requires : goal.less-requires
less-requires c =
    let y = (goal.at.less-requires c).After-figures_of-y in
    let x = (goal.at.After-figures_of-y y).After-figures_of-x in
    (product_small _ _ x.figures_of-x.ensures.1 y.figures_of-y.ensures.2, product_small _ _ y.figures_of-y.ensures.1 x.figures_of-x.ensures.2)

pub overflow_mul-result : goal.overflow_mul-result
overflow_mul-result c =
    let y = (goal.at.overflow_mul-result c).After-figures_of-y in
    let x = (goal.at.After-figures_of-y y).After-figures_of-x in
    omega (arith, mul-le-mul x.figures_of-x.ensures.2 y.figures_of-y.ensures.2)

pub returns : goal.returns
returns c =
    let l = (goal.at.returns c).After-less in
    let y = (goal.at.After-less l).After-figures_of-y in
    let x = (goal.at.After-figures_of-y y).After-figures_of-x in
    let fx = x.figures_of-x.ensures in
    let fy = y.figures_of-y.ensures in
    λ list plan ws k.
    let a = fx.0 list plan ws k in
    let b = fy.0 list plan ws k in
    difference-is _ _ _ _ _ _ _ _ _ (less-back _ _ _ (product_small _ _ fx.1 fy.2) (product_small _ _ fy.1 fx.2) l.less.ensures) a.0 a.1 b.0 b.1
