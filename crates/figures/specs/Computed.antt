-- The figures of a list: the plan made for it, and the tables of its groups.
use Rattle.std.specs.Prelude.{◌≡◌, List, ℕ, length}
use Rattle.density.specs.Plan.{group_litres}
use Rattle.std.specs.declared.result.Result.{Result}
use Rattle.std.specs.declared.result.Result.TheVariants.{Ok, Err}
use Rattle.records.specs.declared.Edition.{Edition}
use Rattle.records.specs.declared.refusal.Refusal.{Refusal}
use Rattle.records.specs.Refusals.{number}
use Rattle.records.specs.Outcome.{refused, passed}
use Rattle.records.specs.Format.{read_list}
use Rattle.records.specs.Answer.{list_read}
use Rattle.tables.specs.Tables.{net, groups_in, Holds, Ready, Tables}
use Rattle.maker.specs.Planned.{Planned}
use Rattle.figures.specs.declared.Figures.{Figures}

-- the plan is the one made for the list, and the tables hold the place of each depot, and q and W of each group: "Let q be that group's size and W the litres of
-- all sites it carries."
pub record Computed (x : Figures) : Type 0 where
  pub planned : Planned x.list x.plan
  pub ready : Ready x.list x.plan
  pub tables : Tables x.list x.plan x.places x.sizes
  pub length-litres : length x.litres ≡ 64
  pub litres : Holds x.litres (group_litres (net x.list) (groups_in x.list x.plan)) x.plan.count

-- what the bytes of a list of an edition give: the row of a list that refuses it, or the figures of the list read
abbrev pub Of : Edition → List ℕ → Result Figures Refusal → Type 0
Of e bytes (Ok x) = (passed x.list ≡ list_read (read_list e 512 bytes)) × Computed x
Of e bytes (Err row) = refused (number row) ≡ list_read (read_list e 512 bytes)
