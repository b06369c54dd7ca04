-- `lines::depot_line` meets its contract. Assumes nothing.
use Prim.Native.Nat.{ℕ, ◌<◌}
use native.Mathlib.Omega.{arith}
use lib.Dec.{T}
use lib.ListN.{get_or}
use Rattle.tables.specs.Tables.{net}
use Rattle.figures.specs.declared.Figures.{Figures}
use Rattle.figures.specs.Computed.{Computed}
use Rattle.lines.proofs.Lines.{depot-small, place-small, depot-line-is}
use Rattle.lines.proofs.depot_line.Goals as goal

-- the place of the depot's group
low : (x : Figures) → Computed x → (d : ℕ) → T ((net x.list).listed d) → get_or x.places d 0 < 64
low x m d l = omega (arith, place-small x m d l, m.planned.few)

pub bounds-x-d : goal.bounds-x-d
bounds-x-d c = omega (arith, depot-small c.args.x c.requires.1 c.args.d c.requires.0, c.requires.1.tables.length-places)

pub overflow_add-result : goal.overflow_add-result
overflow_add-result c = omega (arith, low c.args.x c.requires.1 c.args.d c.requires.0)

pub offset_bounds-x-k : goal.offset_bounds-x-k
offset_bounds-x-k c = omega (arith, low c.args.x c.requires.1 c.args.d c.requires.0)

pub bounds-x-k : goal.bounds-x-k
bounds-x-k c = omega (arith, low c.args.x c.requires.1 c.args.d c.requires.0, c.requires.1.length-litres)

pub offset_bounds-x-k-2 : goal.offset_bounds-x-k-2
offset_bounds-x-k-2 c = omega (arith, low c.args.x c.requires.1 c.args.d c.requires.0)

pub bounds-x-k-2 : goal.bounds-x-k-2
bounds-x-k-2 c = omega (arith, low c.args.x c.requires.1 c.args.d c.requires.0, c.requires.1.tables.length-sizes)

pub returns : goal.returns
returns c = depot-line-is c.args.x c.requires.1 c.args.d c.requires.0
