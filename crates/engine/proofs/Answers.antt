-- The answers of Check, Make and the converters as numbers, by the enums that the code goes by. Assumes nothing.
use Prim.Native.Nat.{ℕ, ◌*◌, ◌<◌, ◌^◌}
use mathlib.Core.List.{List}
use mathlib.Core.Path.{◌≡◌, ap, ◌∙◌}
use native.Mathlib.Omega.{arith}
use lib.IntN.{ℤ}
use lib.ListN.{length}
use Rattle.density.specs.Network.{Listing, network}
use Rattle.density.specs.Groups.{groups_of}
use Rattle.records.specs.declared.Edition.{Edition}
use Rattle.std.specs.Result.{IfOk}
use Rattle.std.specs.declared.result.Result.{Result}
use Rattle.std.specs.declared.result.Result.TheVariants.{Ok, Err}
use Rattle.records.specs.declared.Lengths.{Lengths}
use Rattle.records.specs.declared.refusal.Refusal.{Refusal}
use Rattle.records.specs.Refusals.{outcome}
use Rattle.records.specs.Outcome.{Outcome, refused, passed}
use Rattle.records.specs.Format.{read_list}
use Rattle.records.specs.Write.{plan_bytes, fitted, WrittenOf, Written}
use Rattle.records.specs.Files.{WrittenBoth}
use Rattle.records.proofs.Files.{fitted-room, length-held, lengths-held}
use Rattle.maker.specs.Make.{Made}
use Rattle.converter.specs.declared.Way.{Way}
use Rattle.converter.specs.Convert.{convert_list, convert_plan}
use Rattle.converter.proofs.Ways.{list-room, plan-room}
use Rattle.engine.specs.Codes.{wrote_code, both_code, plan_length_in, ListCode, BothCode}

-- a length that is answered is one that the buffer has, and so fits a signed number
pub length-fits : (e : Edition) (list out last : List ℕ) (r : Result ℕ Refusal) → length out * 1 < 2 ^ 63 → Made e (read_list e 512 list) out r last → IfOk r (λ n. n < 2 ^ 63)
length-fits e list out last (Err x) l m = tt
length-fits e list out last (Ok n) l m = by-list (read_list e 512 list) m
  where
    by_written : (bytes : List ℕ) → Written bytes out (Ok n) last → n < 2 ^ 63
    by_written bytes v = let k = length-held (fitted bytes out) out (fitted-room bytes out) v.answer in omega arith

    by-list : (o : Outcome Listing) → Made e o out (Ok n) last → n < 2 ^ 63
    by-list (refused k) m = let g = m.0 in let z : ◌≡◌ {A = ℕ} 0 1 = cc in absurd (omega arith)
    by-list (passed x) m = by_written (plan_bytes e (record { groups = groups_of (network x); shares = m.shares })) m.written

pub list-fits : (w : Way) (s out last : List ℕ) {r : Result ℕ Refusal} → length out * 1 < 2 ^ 63 → WrittenOf (convert_list w s out) out r last → IfOk r (λ n. n < 2 ^ 63)
list-fits w s out last {r = Err x} l v = tt
list-fits w s out last {r = Ok n} l v = let k = length-held (convert_list w s out) out (list-room w s out) v.answer in omega arith

pub plan-fits : (w : Way) (s plan out other last rest : List ℕ) {r : Result Lengths Refusal} → length out * 1 < 2 ^ 63
    → WrittenBoth (convert_plan w s plan out other) out other r last rest → IfOk r (λ (x : Lengths). x.list < 2 ^ 63)
plan-fits w s plan out other last rest {r = Err x} l v = tt
plan-fits w s plan out other last rest {r = Ok x} l v =
    let m = lengths-held (convert_plan w s plan out other) out {n = x.list} {k = x.plan} (plan-room w s plan out other) v.answer in omega arith

-- ---- the converters

pub list_code : {o : Outcome (List ℕ)} {out last : List ℕ} {r : Result ℕ Refusal} {z : ℤ} → WrittenOf o out r last → z ≡ wrote_code (outcome r) → ListCode o out z last
list_code v c = record { code = c ∙ ap wrote_code v.answer; buffer = v.buffer }

pub both_code_lem : (w : Way) (s plan out other : List ℕ) {last rest : List ℕ} {r : Result Lengths Refusal} {z : ℤ} {x x' : ℕ} → WrittenBoth (convert_plan w s plan out other) out other r last rest
    → z ≡ both_code (outcome r) → x' ≡ plan_length_in (outcome r) x → BothCode (convert_plan w s plan out other) out other x z last rest x'
both_code_lem w s plan out other {x = x} v c h =
    record {
      code = c ∙ ap both_code v.answer;
      plan-length = h ∙ ap (λ (y : Outcome Lengths). plan_length_in y x) v.answer;
      list = v.list;
      plan = v.plan;
    }
