-- `depots::print_lines` keeps what it calls to what they ask. Assumes nothing.
use mathlib.Core.Path.{◌≡◌, sym, ap, ◌∙◌}
use mathlib.Core.Bool.{true}
use Prim.Native.Nat.{ℕ}
use lib.Dec.{T}
use Rattle.sets.specs.Set.{Depots, has, set_of}
use Rattle.sets.proofs.Test.{passes}
use Rattle.sets.proofs.Member.{of-set_of}
use Rattle.tables.specs.Tables.{net}
use Rattle.depots.proofs.print_lines.Goals as goal

-- a depot of the set of the listed ones is listed
of-listed : (X : Depots) (all d : ℕ) → all ≡ set_of X 64 → has all d ≡ true → T (X d)
of-listed X all d e h = (of-set_of 64 X d (passes _ (ap (λ (x : ℕ). has x d) (sym e) ∙ h))).1

pub depot_line-requires : goal.depot_line-requires
depot_line-requires g c =
    (of-listed (net c.args.x.list).listed c.listed-all.result c.loop-d.d c.listed-all.ensures (sym c.contains.ensures ∙ c.if-contains.true), c.requires)
