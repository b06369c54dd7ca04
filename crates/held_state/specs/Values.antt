-- The values that a call goes by, and the state that they are read from.
use Rattle.std.specs.Prelude.{◌≡◌, true, false, List, ℕ, ◌≤◌, length, get_or, take, is_err, MatchOption, IfOk, IfErr, OnOk}
use Rattle.std.specs.declared.option.Option.{Option}
use Rattle.std.specs.declared.result.Result.{Result}
use Rattle.records.specs.declared.refusal.Refusal.{Refusal}
use Rattle.records.specs.declared.refusal.Refusal.TheVariants.{CorruptStore}
use Rattle.sets.specs.Sum.{any}
use Rattle.density.specs.Network.{no_site}
use Rattle.density.specs.Plan.{place, group_litres, group_size}
use Rattle.records.specs.declared.ListArray.{ListArray}
use Rattle.records.specs.declared.PlanArray.{PlanArray}
use Rattle.tables.specs.declared.Form.{Form}
use Rattle.tables.specs.Tables.{net, groups_in, Kept}
use Rattle.held_state.specs.declared.Summary.{Summary}
use Rattle.held_state.specs.Held.{State, bad_site, corrupt}

-- The values are those of the state: its figures, its roll or the lack of one, and as many sites, groups and shares as it holds, where there is room for them.
pub record Stands (s : State) (list : ListArray) (k : Summary) (gs ss : List ℕ) : Type 0 where
  pub count : list.count ≡ s.store.count
  pub places : k.places ≡ length s.table
  pub held : k.held ≡ s.store.held
  pub grouped : k.grouped ≡ s.store.grouped
  pub sites : list.count ≤ 512 → list.count ≤ k.places → take list.count list.sites ≡ take list.count s.table
  pub roll : list.roll ≡ s.store.roll
  pub groups : k.grouped ≤ 64 → take k.grouped gs ≡ take k.grouped s.store.groups
  pub shares : list.count ≤ 512 → take list.count ss ≡ take list.count s.store.shares

-- whether rows 5 or 6 refuse a site is known
abbrev pub BadKnown : ListArray → Summary → Type 0
BadKnown list k = list.count ≤ 512 → list.count ≤ k.places → k.bad ≡ any (λ i. bad_site (get_or list.sites i no_site)) list.count

-- What row 0 finds, how many sites there are where it does not refuse, and the tables that the figures are taken from where a plan is held that it does not refuse.
pub record Examined (list : ListArray) (k : Summary) (plan : PlanArray) (r : Result (Option Form) Refusal) (ws : List ℕ) : Type 0 where
  pub zero : (s : State) → Stands s list k plan.groups plan.shares → is_err r ≡ corrupt s
  pub row : IfErr r (λ e. e ≡ CorruptStore)
  pub few : OnOk r (list.count ≤ 512)
  pub kept : IfOk r (λ o. MatchOption o (k.held ≡ false) (λ f. (k.held ≡ true) × Kept list plan f ws))

-- W and q of a depot, by the groups of the plan
abbrev pub held_litres : ListArray → PlanArray → ℕ → ℕ
held_litres list plan d = group_litres (net list) (groups_in list plan) (place (groups_in list plan) d)

abbrev pub held_size : ListArray → PlanArray → ℕ → ℕ
held_size list plan d = group_size (net list) (groups_in list plan) (place (groups_in list plan) d)
