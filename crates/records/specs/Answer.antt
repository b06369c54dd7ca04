-- The readers' answers: the paper's number and the value of each case.
use Rattle.std.specs.Prelude.{ℕ, ◌+◌, ◌-◌, List, ◌++◌, map, ◌&&◌, length, drop, replicate}
use Rattle.std.proofs.Math.Option.{some}
use Rattle.density.specs.Network.{Listing, no_site}
use Rattle.records.specs.declared.ListArray.{ListArray}
use Rattle.records.specs.declared.PlanArray.{PlanArray}
use Rattle.records.specs.declared.SitesRead.{SitesRead}
use Rattle.records.specs.declared.RollRead.{RollRead}
use Rattle.records.specs.declared.Edition.{Edition}
use Rattle.records.specs.Values.{Plan, roll_array}
use Rattle.records.specs.Record.{records, any_of, wrong_mark}
use Rattle.records.specs.Format.{site_of, wrong_depot, no_litres, rolled, roll_record, roll_of}
use Rattle.records.specs.Outcome.{Outcome, refused, passed}

-- a row of n places: these, and then zeros
abbrev pub filled : {A : Type 0} → ℕ → List A → A → List A
filled n xs z = xs ++ replicate (n - length xs) z

-- a list and a plan as values: the places behind are zero
abbrev pub list_array : Listing → ListArray
list_array l = record { count = length l.sites; sites = filled 512 l.sites no_site; roll = roll_array l.roll }

abbrev pub plan_array : Plan → PlanArray
plan_array p = record { count = length p.groups; groups = filled 64 p.groups 0; shares = filled 512 p.shares 0 }

-- what n sites' records behind the head say, of a site's mark m and litres of w bytes
abbrev pub sites_by : ℕ → ℕ → ℕ → List ℕ → SitesRead
sites_by m w n s =
    record {
      sites = filled 512 (map (site_of w) (records (4 + w) n (drop 4 s))) no_site;
      marks = any_of (wrong_mark m) (records (4 + w) n (drop 4 s));
      depots = any_of wrong_depot (records (4 + w) n (drop 4 s));
      litres = any_of (no_litres w) (records (4 + w) n (drop 4 s));
    }

abbrev pub sites_read : Edition → ℕ → List ℕ → SitesRead
sites_read e = sites_by e.mark.site e.litres

-- what a roll's record says, and what stands behind a list's sites says: a roll or none
abbrev pub roll_at : ℕ → List ℕ → RollRead
roll_at m r = record { mark = wrong_mark m r; roll = roll_array (some (drop 2 r)) }

abbrev pub roll_read : Edition → List ℕ → RollRead
roll_read e s = record { mark = rolled e s && wrong_mark e.mark.roll (roll_record e s); roll = roll_array (roll_of e s) }

-- the row that refuses, or the value
abbrev pub list_read : Outcome Listing → Outcome ListArray
list_read (refused n) = refused n
list_read (passed l) = passed (list_array l)

abbrev pub plan_read : Outcome Plan → Outcome PlanArray
plan_read (refused n) = refused n
plan_read (passed p) = passed (plan_array p)
