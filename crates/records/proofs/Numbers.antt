-- No two refusals have one number, so an equation over `outcome r` or `refusal_of r` settles r. Assumes nothing.
use Prim.Native.Nat.{ℕ}
use native.Mathlib.Omega.{arith}
use mathlib.Core.Bool.{cond}
use mathlib.Core.Option.{Option, none, some}
use mathlib.Core.Path.{◌≡◌, refl, sym, ap, ◌∙◌}
use lib.Dec.{eqb}
use Rattle.records.specs.declared.refusal.Refusal.{Refusal}
use Rattle.records.specs.declared.refusal.Refusal.TheVariants as by
use Rattle.std.specs.declared.result.Result.{Result}
use Rattle.std.specs.declared.result.Result.TheVariants.{Ok, Err}
use Rattle.records.specs.Outcome.{Outcome, refused, passed}
use Rattle.records.specs.Refusals.{number, outcome, refusal_of}

named : ℕ → Refusal
named n =
    cond (eqb n 0) by.CorruptStore
    (cond (eqb n 1) by.ListHead
    (cond (eqb n 2) by.TooManySites
    (cond (eqb n 3) by.ListLength
    (cond (eqb n 4) by.SiteMark
    (cond (eqb n 5) by.DepotAbove63
    (cond (eqb n 6) by.NoLitres
    (cond (eqb n 7) by.PlanHead
    (cond (eqb n 8) by.TooManyGroups
    (cond (eqb n 9) by.OtherSiteCount
    (cond (eqb n 10) by.PlanLength
    (cond (eqb n 11) by.PlanMark
    (cond (eqb n 12) by.GroupsMeet
    (cond (eqb n 13) by.GroupsUnlisted
    (cond (eqb n 14) by.ShareBroken
    (cond (eqb n 15) by.LoadUneven
    (cond (eqb n 16) by.GroupsRise
    (cond (eqb n 17) by.NoPlanHeld
    (cond (eqb n 18) by.NoSuchSite
    (cond (eqb n 19) by.DepotUnlisted
    (cond (eqb n 20) by.BufferShort
    (cond (eqb n 21) by.NotInEdition1
    (cond (eqb n 22) by.CrewsAbove9 by.SiteUncrewed))))))))))))))))))))))

back : (x : Refusal) → named (number x) ≡ x
unfolding named
back by.CorruptStore = refl
back by.ListHead = refl
back by.TooManySites = refl
back by.ListLength = refl
back by.SiteMark = refl
back by.DepotAbove63 = refl
back by.NoLitres = refl
back by.PlanHead = refl
back by.TooManyGroups = refl
back by.OtherSiteCount = refl
back by.PlanLength = refl
back by.PlanMark = refl
back by.GroupsMeet = refl
back by.GroupsUnlisted = refl
back by.ShareBroken = refl
back by.LoadUneven = refl
back by.GroupsRise = refl
back by.NoPlanHeld = refl
back by.NoSuchSite = refl
back by.DepotUnlisted = refl
back by.BufferShort = refl
back by.NotInEdition1 = refl
back by.CrewsAbove9 = refl
back by.SiteUncrewed = refl

pub number-one : (x y : Refusal) → number x ≡ number y → x ≡ y
number-one x y e = sym (back x) ∙ ap named e ∙ back y

-- what a call found settles its answer
pub outcome-one : {A : Type 0} (r s : Result A Refusal) → outcome r ≡ outcome s → r ≡ s
outcome-one (Ok a) (Ok b) e = cc
outcome-one (Err x) (Err y) e = ap Err (number-one x y cc)
outcome-one (Ok a) (Err y) e = let z : ◌≡◌ {A = ℕ} 0 1 = cc in absurd (omega arith)
outcome-one (Err x) (Ok b) e = let z : ◌≡◌ {A = ℕ} 0 1 = cc in absurd (omega arith)

-- and so does the row that refuses
pub refusal-one : {A : Type 0} (r : Result A Refusal) (x : Refusal) → refusal_of r ≡ some (number x) → r ≡ Err x
refusal-one (Err y) x e = ap Err (number-one y x cc)
refusal-one (Ok a) x e = let z : ◌≡◌ {A = ℕ} 0 1 = cc in absurd (omega arith)

pub none-refuses : {A : Type 0} (r : Result A Refusal) → refusal_of r ≡ none → (a : A) × (r ≡ Ok a)
none-refuses (Ok a) e = (a, refl)
none-refuses (Err y) e = let z : ◌≡◌ {A = ℕ} 0 1 = cc in absurd (omega arith)
