-- Document 02, d: files between editions. "A converter turns an edition 1 list or plan into edition 2, with the same figures in the same order, and back where every figure fits."
use Rattle.std.specs.Prelude.{Bool, true, false, cond, ◌&&◌, ◌||◌, List, [], ◌∷◌, ◌≡◌, ℕ, ◌<◌, ◌≤◌, ◌^◌, eqb, ltb, length}
use Rattle.std.proofs.Math.Option.{Option, none, some}
use Rattle.sets.specs.Sum.{any}
use Rattle.density.specs.declared.Site.{Site}
use Rattle.density.specs.Network.{Listing, site_at, network}
use Rattle.density.specs.Plan.{first_share, whole}
use Rattle.density.specs.Rows.{row}
use Rattle.records.specs.Values.{Plan}
use Rattle.records.specs.Outcome.{Outcome, passed, gate, bind}
use Rattle.records.specs.Format.{edition1, edition2, read_list, read_plan}
use Rattle.records.specs.Write.{list_bytes, fitted}
use Rattle.records.specs.Files.{Files, files, fitted_both}
use Rattle.judge.specs.Check.{judged_for}
use Rattle.converter.specs.declared.Way.{Way}

-- the two ways: "Each way takes one edition only"
abbrev pub upgrade : Way
upgrade = record { from = edition1; to = edition2; back = false }

abbrev pub downgrade : Way
downgrade = record { from = edition2; to = edition1; back = true }

abbrev pub way : Bool → Way
way back = cond back downgrade upgrade

-- "a site's litres are outside 1 to 65,535"
abbrev pub is_outside : Site → Bool
is_outside x = eqb x.litres 0 || ltb 65535 x.litres

unfoldable pub outside : Listing → Bool
outside l = any (λ i. is_outside (site_at l i)) (length l.sites)

-- Document 02, g: "row 21 also refuses a list with" a roll
abbrev pub has_roll : Option (List ℕ) → Bool
has_roll none = false
has_roll (some roll) = true

abbrev pub unfit : Listing → Bool
unfit l = outside l || has_roll l.roll

-- "The list is read first by all its rows"; "21, going back, if a site's litres are outside 1 to 65,535; after all rows of the list, before the plan is read"; g: and if
-- it has a roll
abbrev pub list_for : Way → List ℕ → Outcome Listing
list_for w list = bind (read_list w.from 512 list) (λ (l : Listing). gate (row 21 (w.back && unfit l) ∷ []) l)

-- a list alone: what is written, or the row that refuses, of which "row 20 comes last"
abbrev pub convert_list : Way → List ℕ → List ℕ → Outcome (List ℕ)
convert_list w list out = bind (list_for w list) (λ (l : Listing). fitted (list_bytes w.to l) out)

-- "A plan is converted along with its list": "The list is read first by all its rows, then the plan by rows 7 to 16; row 20 comes last and covers a buffer too short for
-- what is converted, the list's first."
abbrev pub convert_plan : Way → List ℕ → List ℕ → List ℕ → List ℕ → Outcome Files
convert_plan w list plan list-out plan-out =
    bind (list_for w list)
    (λ (l : Listing). bind (judged_for w.from l plan) (λ (p : Plan). fitted_both (files w.to l p) list-out plan-out))

-- ---- what holds of two files before and after

-- "with the same figures in the same order": a list reads as the same sites, in the edition that a way takes and in that it writes
pub record SameList (w : Way) (list list' : List ℕ) : Type 0 where
  pub l : Listing
  pub given : read_list w.from 512 list ≡ passed l
  pub written : read_list w.to 512 list' ≡ passed l

-- and a plan for it as the same groups and shares. A share fits the edition that it goes to: row 14 refuses "s above w × q", so s is at most w × q
pub record SamePlan (w : Way) (list plan list' plan' : List ℕ) : Type 0 where
  pub lists : SameList w list list'
  pub p : Plan
  pub given : read_plan w.from (length lists.l.sites) plan ≡ passed p
  pub written : read_plan w.to (length lists.l.sites) plan' ≡ passed p
  pub fits : (i : ℕ) → i < length lists.l.sites
      → (first_share p.shares i ≤ whole (network lists.l) p.groups i) × (first_share p.shares i < 256 ^ w.to.share)
