-- `lines::site_line` meets its contract. Assumes nothing.
use mathlib.Core.Path.{◌≡◌, ap}
use Prim.Native.Nat.{ℕ, ◌<◌, ◌≤◌}
use native.Mathlib.Omega.{arith}
use lib.ListN.{get_or}
use Rattle.tables.proofs.Shares.{product_lt}
use Rattle.figures.specs.declared.Figures.{Figures}
use Rattle.figures.specs.Computed.{Computed}
use Rattle.lines.proofs.Lines.{place_of, size_of, depots-low, size_low, share-≤, site-line-is}
use Rattle.lines.proofs.site_line.Goals as goal

-- q, found at the later of the depots' places
found-is : (x : Figures) (m : Computed x) (i : ℕ) (l : i < x.list.count) {k : ℕ} → k ≡ place_of x m i l → get_or x.sizes k 0 ≡ size_of x m i l
found-is x m i l e = ap (λ (n : ℕ). get_or x.sizes n 0) e

pub bounds-x-s : goal.bounds-x-s
bounds-x-s c =
    omega (arith, (depots-low c.args.x c.requires.1 c.args.i c.requires.0).0, c.requires.1.tables.length-places)

pub bounds-x-s-2 : goal.bounds-x-s-2
bounds-x-s-2 c =
    omega (arith, (depots-low c.args.x c.requires.1 c.args.i c.requires.0).1, c.requires.1.tables.length-places)

pub bounds-x-k : goal.bounds-x-k
bounds-x-k c =
    omega (arith, c.later-k.ensures, (size_low c.args.x c.requires.1 c.args.i c.requires.0).0, c.requires.1.tables.length-sizes)

pub overflow_mul-second : goal.overflow_mul-second
overflow_mul-second c =
    let q = get_or c.args.x.sizes c.later-k.result 0 in
    let few : q ≤ 576 = rw (found-is c.args.x c.requires.1 c.args.i c.requires.0 c.later-k.ensures) (size_low c.args.x c.requires.1 c.args.i c.requires.0).1 in
    omega (arith, product_lt c.litres_of-litres.result q c.litres_of-litres.ensures.1 few)

pub overflow_sub-second : goal.overflow_sub-second
overflow_sub-second c =
    rw (c.litres_of-litres.ensures.0, found-is c.args.x c.requires.1 c.args.i c.requires.0 c.later-k.ensures) (share-≤ c.args.x c.requires.1 c.args.i c.requires.0)

pub returns : goal.returns
returns c =
    let found = found-is c.args.x c.requires.1 c.args.i c.requires.0 c.later-k.ensures in
    let w = site-line-is c.args.x c.requires.1 c.args.i c.requires.0 _ _ c.litres_of-litres.ensures.0 found in
    record { value = w.0; rules = w.1 }
