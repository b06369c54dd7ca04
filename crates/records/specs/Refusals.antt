-- Document 01, "When the gate stays shut", and the rows of document 02: the number of each refusal, and what a call answers.
use Rattle.std.specs.Prelude.{ℕ}
use Rattle.std.specs.declared.result.Result.{Result}
use Rattle.std.specs.declared.result.Result.TheVariants.{Ok, Err}
use Rattle.std.proofs.Math.Option.{Option, none, some}
use Rattle.records.specs.declared.refusal.Refusal.{Refusal}
use Rattle.records.specs.declared.refusal.Refusal.TheVariants as by
use Rattle.records.specs.Outcome.{Outcome, refused, passed}

-- "A refusal is its number and no other figure"
abbrev pub number : Refusal → ℕ
number by.CorruptStore = 0
number by.ListHead = 1
number by.TooManySites = 2
number by.ListLength = 3
number by.SiteMark = 4
number by.DepotAbove63 = 5
number by.NoLitres = 6
number by.PlanHead = 7
number by.TooManyGroups = 8
number by.OtherSiteCount = 9
number by.PlanLength = 10
number by.PlanMark = 11
number by.GroupsMeet = 12
number by.GroupsUnlisted = 13
number by.ShareBroken = 14
number by.LoadUneven = 15
number by.GroupsRise = 16
number by.NoPlanHeld = 17
number by.NoSuchSite = 18
number by.DepotUnlisted = 19
number by.BufferShort = 20
number by.NotInEdition1 = 21
number by.CrewsAbove9 = 22
number by.SiteUncrewed = 23

-- what a call found: its value, or the number of the row that refuses
abbrev pub outcome : {A : Type 0} → Result A Refusal → Outcome A
outcome (Ok a) = passed a
outcome (Err e) = refused (number e)

-- the number of the row that refuses, or none
abbrev pub refusal_of : {A : Type 0} → Result A Refusal → Option ℕ
refusal_of (Ok a) = none
refusal_of (Err e) = some (number e)
