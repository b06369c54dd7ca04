-- Document 01, "Entry points", the desk: what is held, row 0, and the figures by the held groups.
use Rattle.std.specs.Prelude.{Bool, ◌&&◌, ◌||◌, List, ℕ, eqb, ltb, length, take}
use Rattle.sets.specs.Sum.{any}
use Rattle.density.specs.declared.Site.{Site}
use Rattle.density.specs.Network.{Listing, network, site_at, crews_above, sites_uncrewed}
use Rattle.density.specs.Plan.{place, group_litres, group_size}
use Rattle.density.specs.Rows.{groups_meet, groups_unlisted, shares_broken}
use Rattle.records.specs.declared.Edition.{Edition}
use Rattle.records.specs.Values.{Plan, roll_in}
use Rattle.held_state.specs.declared.Store.{Store}

-- The desk (store) of an edition, and the table that it is lent.
pub record State : Type 0 where
  pub edition : Edition
  pub store : Store
  pub table : List Site

-- the list held, whose sites are the first of the table (document 02, g: the desk "keeps the roll, or the lack of one"), and the plan held
abbrev pub list_of : State → Listing
list_of s = record { sites = take s.store.count s.table; roll = roll_in s.store.roll }

abbrev pub plan_held : State → Plan
plan_held s =
    record { groups = take s.store.grouped s.store.groups; shares = take s.store.count s.store.shares }

abbrev pub on : Edition → Store → List Site → State
on e store table = record { edition = e; store = store; table = table }

-- Row 0: "held site count above 512 or the table's places, a held site that rows 5 or 6 refuse, or a held plan that rows 8 or 12 to 14 refuse".
-- Document 02, g: "Row 0 also covers a held roll or site that rows 22 or 23 refuse."
abbrev pub bad_site : Site → Bool
bad_site x = ltb 63 x.first || ltb 63 x.second || eqb x.litres 0

abbrev pub bad_plan : Listing → Plan → Bool
bad_plan l p = groups_meet p.groups || groups_unlisted (network l) p.groups || shares_broken (network l) p.groups p.shares

unfoldable pub corrupt : State → Bool
corrupt s =
    ltb 512 s.store.count
    || ltb (length s.table) s.store.count
    || any (λ i. bad_site (site_at (list_of s) i)) s.store.count
    || crews_above (list_of s).roll
    || sites_uncrewed (list_of s)
    || (s.store.held && (ltb 64 s.store.grouped || bad_plan (list_of s) (plan_held s)))

-- W and q by the held groups
abbrev pub litres_at : State → ℕ → ℕ
litres_at s d = group_litres (network (list_of s)) (plan_held s).groups (place (plan_held s).groups d)

abbrev pub size_at : State → ℕ → ℕ
size_at s d = group_size (network (list_of s)) (plan_held s).groups (place (plan_held s).groups d)
