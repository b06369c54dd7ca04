-- Document 01, "Entry points", and document 02, d: what the library for Rust and C answers, each as a number, where two are written with the plan's length beside it.
use Rattle.std.specs.Prelude.{ℕ, List, ◌≡◌, ℤ, pos, neg_ℤ}
use Rattle.std.proofs.Math.Option.{Option, none, some}
use Rattle.density.specs.Network.{Listing}
use Rattle.records.specs.declared.Edition.{Edition}
use Rattle.std.specs.declared.result.Result.{Result}
use Rattle.records.specs.declared.Lengths.{Lengths}
use Rattle.records.specs.declared.refusal.Refusal.{Refusal}
use Rattle.records.specs.Refusals.{outcome}
use Rattle.records.specs.Outcome.{Outcome, refused, passed}
use Rattle.records.specs.Write.{wrote_of, buffer_of}
use Rattle.records.specs.Files.{Files, wrote_both_of, list_part, plan_part}
use Rattle.maker.specs.Make.{Made}

-- "Check: a list and a plan; passes or refuses": 0, or the row's number with a minus sign
abbrev pub check_code : Option ℕ → ℤ
check_code none = pos 0
check_code (some n) = neg_ℤ (pos n)

-- "every writer answers the length it wrote" (document 02, b), Make the plan's: the length, or the row's number with a minus sign
abbrev pub wrote_code : Outcome ℕ → ℤ
wrote_code (passed n) = pos n
wrote_code (refused n) = neg_ℤ (pos n)

-- Make, its answer as a number
pub record MadeCode (e : Edition) (l : Outcome Listing) (out : List ℕ) (r : ℤ) (last : List ℕ) : Type 0 where
  pub wrote : Result ℕ Refusal
  pub made : Made e l out wrote last
  pub code : r ≡ wrote_code (outcome wrote)

-- Document 02, d: a list and its plan converted. "the list's first where it writes two" (b): the list's length, or the row's number with a minus sign
abbrev pub both_code : Outcome Lengths → ℤ
both_code (passed x) = pos x.list
both_code (refused n) = neg_ℤ (pos n)

-- the plan's length; where a row refuses, what was there
abbrev pub plan_length_in : Outcome Lengths → ℕ → ℕ
plan_length_in (passed x) len = x.plan
plan_length_in (refused n) len = len

-- a list converted, the answer as a number
pub record ListCode (o : Outcome (List ℕ)) (out : List ℕ) (r : ℤ) (last : List ℕ) : Type 0 where
  pub code : r ≡ wrote_code (wrote_of o)
  pub buffer : last ≡ buffer_of o out

-- a list and its plan converted, the answer as a number and the plan's length in its place
pub record BothCode (o : Outcome Files) (list-out plan-out : List ℕ) (len : ℕ) (r : ℤ) (list-last plan-last : List ℕ) (len' : ℕ) : Type 0 where
  pub code : r ≡ both_code (wrote_both_of o)
  pub plan-length : len' ≡ plan_length_in (wrote_both_of o) len
  pub list : list-last ≡ buffer_of (list_part o) list-out
  pub plan : plan-last ≡ buffer_of (plan_part o) plan-out
