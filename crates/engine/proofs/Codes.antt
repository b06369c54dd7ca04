-- What a caller reads off a code: no row has the number 0, so 0 says that the plan passes, and a number that is not negative is the length of a
-- plan or list that is written. Assumes nothing.
use Prim.Native.Nat.{ℕ, zero, suc, ◌<◌}
use mathlib.Core.List.{List, [], ◌∷◌}
use mathlib.Core.Option.{none}
use mathlib.Core.Path.{◌≡◌, refl, sym, ap, subst, ◌∙◌}
use native.Mathlib.Omega.{arith}
use lib.IntN.{pos, neg_ℤ}
use lib.ListN.{length}
use Rattle.density.specs.Network.{Listing, network}
use Rattle.density.specs.Groups.{groups_of}
use Rattle.density.specs.Rows.{row}
use Rattle.records.specs.declared.Edition.{Edition}
use Rattle.std.specs.declared.result.Result.{Result}
use Rattle.std.specs.declared.result.Result.TheVariants.{Ok, Err}
use Rattle.records.specs.declared.refusal.Refusal.{Refusal}
use Rattle.records.specs.Refusals.{number, outcome}
use Rattle.records.specs.Values.{Plan}
use Rattle.records.specs.Outcome.{Outcome, refused, passed}
use Rattle.records.specs.Format.{read_list}
use Rattle.records.specs.Write.{plan_bytes, is_short, fitted, wrote_of, WrittenOf}
use Rattle.records.specs.Files.{Files, wrote_both_of, WrittenBoth}
use Rattle.records.proofs.Outcomes.{gate-numbered, bind-numbered, list-numbered}
use Rattle.judge.specs.Check.{judged, refusal, check_row}
use Rattle.judge.proofs.Truth.{judged-numbered}
use Rattle.maker.specs.Make.{Made}
use Rattle.converter.specs.declared.Way.{Way}
use Rattle.converter.specs.Convert.{convert_list, convert_plan}
use Rattle.converter.proofs.Ways.{list-row-numbered, plan-row-numbered}
use Rattle.engine.specs.Codes.{check_code, wrote_code, MadeCode, both_code, plan_length_in, ListCode, BothCode}

-- no row has the number 0
zero-passes : (o : Outcome Plan) → ((n : ℕ) → o ≡ refused n → 0 < n) → check_code (refusal o) ≡ pos 0 → refusal o ≡ none
zero-passes (refused zero) h k = let l = h 0 refl in absurd (omega arith)
zero-passes (refused (suc n)) h k = let z : ◌≡◌ {A = ℕ} 0 1 = cc in absurd (omega arith)
zero-passes (passed p) h k = refl

-- Check answers 0 only where the plan passes
pub check-passes : (e : Edition) (list plan : List ℕ) → check_code (check_row e list plan) ≡ pos 0 → check_row e list plan ≡ none
unfolding check_row
check-passes e list plan =
    zero-passes (judged e list plan) (bind-numbered (read_list e 512 list) _ (list-numbered e 512 list) (λ (l : Listing). judged-numbered e l plan))

not-row-0 : (o : Outcome (List ℕ)) → ((n : ℕ) → o ≡ refused n → 0 < n) → refused 0 ≡ wrote_of o → ⊥
not-row-0 (refused n) h e = let l = h n refl in let z : ◌≡◌ {A = ℕ} 0 n = cc in omega arith
not-row-0 (passed bytes) h e = let z : ◌≡◌ {A = ℕ} 0 1 = cc in omega arith

made_row : (e : Edition) (o : Outcome Listing) (out last : List ℕ) (x : Refusal) → number x ≡ 0 → ((n : ℕ) → o ≡ refused n → 0 < n) → Made e o out (Err x) last → ⊥
made_row e (refused n) out last x z h m = let l = h n refl in let g = m.0 in let k : ◌≡◌ {A = ℕ} 0 n = cc in omega arith
made_row e (passed l) out last x z h m =
    let bytes = plan_bytes e (record { groups = groups_of (network l); shares = m.shares }) in
    not-row-0 (fitted bytes out) (gate-numbered (row 20 (is_short out bytes) ∷ []) tt bytes) (ap refused (sym z) ∙ m.written.answer)

-- a code that is not negative is no row's but 0
neg-zero : (n k : ℕ) → pos n ≡ neg_ℤ (pos k) → k ≡ 0
neg-zero n zero c = refl
neg-zero n (suc k) c = let z : ◌≡◌ {A = ℕ} 0 1 = cc in absurd (omega arith)

-- Make answers a number that is not negative only where a plan of that length is written
pub make-writes : (e : Edition) (list out last : List ℕ) (n : ℕ) → MadeCode e (read_list e 512 list) out (pos n) last → Made e (read_list e 512 list) out (Ok n) last
make-writes e list out last n m = by m.wrote m.made m.code
  where
    by : (w : Result ℕ Refusal) → Made e (read_list e 512 list) out w last → pos n ≡ wrote_code (outcome w) → Made e (read_list e 512 list) out (Ok n) last
    by (Ok k) h c = let z : n ≡ k = cc in subst (λ (x : ℕ). Made e (read_list e 512 list) out (Ok x) last) (sym z) h
    by (Err x) h c = absurd (made_row e (read_list e 512 list) out last x (neg-zero n (number x) c) (list-numbered e 512 list) h)

-- ---- the converters

-- a converter answers a number that is not negative only where a list of that length is written
pub list-code-writes : (w : Way) (s out last : List ℕ) (n : ℕ) → ListCode (convert_list w s out) out (pos n) last → WrittenOf (convert_list w s out) out (Ok n) last
list-code-writes w s out last n m = record { answer = by_code (convert_list w s out) (list-row-numbered w s out) m.code; buffer = m.buffer }
  where
    by_code : (o : Outcome (List ℕ)) → ((k : ℕ) → o ≡ refused k → 0 < k) → pos n ≡ wrote_code (wrote_of o) → passed n ≡ wrote_of o
    by_code (refused zero) h c = let l = h 0 refl in absurd (omega arith)
    by_code (refused (suc k)) h c = let z : ◌≡◌ {A = ℕ} 0 1 = cc in absurd (omega arith)
    by_code (passed bytes) h c = let z : n ≡ length bytes = cc in ap passed z

-- and with a plan only where both are written, the plan's length being in its place
pub both-code-writes : (w : Way) (s plan out other last rest : List ℕ) (n x x' : ℕ) → BothCode (convert_plan w s plan out other) out other x (pos n) last rest x'
    → WrittenBoth (convert_plan w s plan out other) out other (Ok (record { list = n; plan = x' })) last rest
both-code-writes w s plan out other last rest n x x' m =
    record {
      answer = by_code (convert_plan w s plan out other) (plan-row-numbered w s plan out other) m.code m.plan-length;
      list = m.list;
      plan = m.plan;
    }
  where
    by_code : (o : Outcome Files) → ((k : ℕ) → o ≡ refused k → 0 < k) → pos n ≡ both_code (wrote_both_of o) → x' ≡ plan_length_in (wrote_both_of o) x
        → passed (record { list = n; plan = x' }) ≡ wrote_both_of o
    by_code (refused zero) h c l = let z = h 0 refl in absurd (omega arith)
    by_code (refused (suc k)) h c l = let z : ◌≡◌ {A = ℕ} 0 1 = cc in absurd (omega arith)
    by_code (passed f) h c l = let z : n ≡ length f.list = cc in rw (z, l) refl
