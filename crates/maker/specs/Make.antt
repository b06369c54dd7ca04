-- Document 01, "Entry points": Make.
use Rattle.std.specs.Prelude.{◌≡◌, List, ℕ, ◌+◌, ◌*◌, ◌<◌, ◌^◌, length, get_or}
use Rattle.density.specs.Network.{Listing, network}
use Rattle.density.specs.Groups.{groups_of}
use Rattle.density.specs.Plan.{TruePlan}
use Rattle.records.specs.declared.Edition.{Edition}
use Rattle.std.specs.declared.result.Result.{Result}
use Rattle.records.specs.declared.refusal.Refusal.{Refusal}
use Rattle.records.specs.Refusals.{outcome}
use Rattle.records.specs.Outcome.{Outcome, refused, passed}
use Rattle.records.specs.Format.{share_size}
use Rattle.records.specs.Write.{plan_bytes, Written}

-- "Make's shares are left free: what holds of them is that the plan passes": there are shares with which the groups of the definition are a true plan,
-- each of the edition's width, and that plan is written. "Bytes after the plan are unchanged" (`Written`).
pub record PlanWritten (e : Edition) (l : Listing) (out : List ℕ) (r : Result ℕ Refusal) (last : List ℕ) : Type 0 where
  pub shares : List ℕ
  pub plan : TruePlan (network l) (groups_of (network l)) shares
  pub fits : (i : ℕ) → i < length shares → get_or shares i 0 < 256 ^ e.share
  pub written : Written (plan_bytes e (record { groups = groups_of (network l); shares = shares })) out r last

-- "Make: a list and a buffer; answers the plan's length": by how the list is read, what is answered, and what the buffer then holds. A list that a row
-- refuses leaves the buffer as before.
abbrev pub Made : Edition → Outcome Listing → List ℕ → Result ℕ Refusal → List ℕ → Type 0
Made e (refused n) out r last = (outcome r ≡ refused n) × (last ≡ out)
Made e (passed l) out r last = PlanWritten e l out r last

-- "the plan's length, 5 + 10 × groups + 6 × sites" in edition 1, where the record of a share has 6 bytes; in edition 2 it has 10
abbrev pub plan_length : Edition → Listing → ℕ
plan_length e l = 5 + 10 * length (groups_of (network l)) + share_size e * length l.sites
