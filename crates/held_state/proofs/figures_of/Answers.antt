-- `held_state::figures_of` meets its contract. Assumes nothing.
use native.Mathlib.Omega.{arith}
use Prim.Native.Nat.{◌<◌}
use lib.ListN.{get_or}
use Rattle.held_state.proofs.Figures.{depot-lt, at_lt, litres-is, litres-low, size_is, size_low}
use Rattle.held_state.proofs.figures_of.Goals as goal
use Rattle.held_state.proofs.figures_of.Goals.{Start}

-- the depot, and its place
depot : (s : Start) → s.args.d < 64
depot s = depot-lt s.requires.0.0 s.requires.0.1 s.args.f s.requires.0.2 s.requires.0.3 s.args.d s.requires.1

place : (s : Start) → get_or s.args.f.places s.args.d 0 < 64
place s = at_lt s.requires.0.0 s.requires.0.1 s.args.f s.requires.0.2 s.requires.0.3 s.args.d s.requires.1

pub bounds-f-d : goal.bounds-f-d
bounds-f-d c = omega (arith, depot c)

pub offset_bounds-f-k : goal.offset_bounds-f-k
offset_bounds-f-k c = omega (arith, place (goal.at.offset_bounds-f-k c).Start)

pub bounds-f-k : goal.bounds-f-k
bounds-f-k c = omega (arith, place (goal.at.bounds-f-k c).Start)

pub offset_bounds-f-k-2 : goal.offset_bounds-f-k-2
offset_bounds-f-k-2 c = omega (arith, place (goal.at.offset_bounds-f-k-2 c).Start)

pub bounds-f-k-2 : goal.bounds-f-k-2
bounds-f-k-2 c = omega (arith, place (goal.at.bounds-f-k-2 c).Start)

pub returns : goal.returns
returns c =
    let s = (goal.at.returns c).Start in
    let f = s.args.f in
    let d = s.args.d in
    let h = s.requires.0 in (
      λ list plan ws k. (litres-is list plan f ws k d s.requires.1, size_is list plan f ws k d s.requires.1),
      litres-low h.0 h.1 f h.2 h.3 d s.requires.1,
      size_low h.0 h.1 f h.2 h.3 d s.requires.1,
    )
