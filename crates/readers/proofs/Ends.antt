-- "records are read one after another, and nothing follows the last": where a head gives a count, the bytes end at the reader's last position. Assumes nothing.
use Prim.Native.Nat.{ℕ, ◌+◌, ◌*◌, ◌≤◌}
use mathlib.Core.Bool.{Bool, true, false, cond, ◌||◌}
use mathlib.Core.List.{List, []}
use mathlib.Core.Logic.{⊎_elim}
use mathlib.Core.Path.{◌≡◌, refl}
use native.Mathlib.Omega.{arith}
use lib.Dec.{eqb, eqb→eq}
use lib.ListN.{length, drop, drop_of_length-le}
use Rattle.sets.proofs.Test.{and_r, or_cases, passes}
use Rattle.records.specs.declared.Edition.{Edition}
use Rattle.records.specs.Format.{site_size, site_count, list_size, rolled}
use Rattle.scanner.specs.declared.End.{End}
use Rattle.scanner.specs.Scan.{AllRead}
use Rattle.scanner.proofs.Turns.{nothing-follows}
use Rattle.records.specs.Outcome.{passed}
use Rattle.readers.specs.Head.{list_head, plan_head}
use Rattle.readers.proofs.Heads.{list-headed, plan-headed}

-- of a list, which has no groups: they end there or, where they end in a roll, this stands there and they end behind its 66 bytes
pub list-ends : (e : Edition) (places : ℕ) (s : List ℕ) {n : ℕ} → passed n ≡ list_head e places s
    → (g m : ℕ) {r : End} {sets out : List ℕ} → AllRead s 4 g 0 (2 + e.litres) m n r sets out
    → (r.at ≡ list_size e (site_count s)) × (drop (cond (rolled e s) (r.at + 66) r.at) s ≡ [])
list-ends e places s {n} h g m {r = r} x =
    let k = list-headed e places s h in
    let place : (w : ℕ) → w ≡ site_size e → r.at ≡ 4 + 10 * 0 + w * n → r.at ≡ list_size e (site_count s) = λ w f z. rw (k.count, ← f) (omega arith) in
    let at = place (2 + (2 + e.litres)) (omega arith) x.at in
    (at, by at (rolled e s) refl k.fits)
  where
    by : r.at ≡ list_size e (site_count s) → (b : Bool) → rolled e s ≡ b → (eqb (length s) (list_size e (site_count s)) || b) ≡ true → drop (cond b (r.at + 66) r.at) s ≡ []
    by at true t f =
        let z = eqb→eq (length s) (list_size e (site_count s) + 66) (and_r e.roll _ (passes _ t)) in
        drop_of_length-le s (let all : length s ≤ r.at + 66 = omega arith in all)
    by at false t f =
        let z = ⊎_elim (eqb→eq (length s) (list_size e (site_count s))) absurd (or_cases (eqb (length s) (list_size e (site_count s))) false (passes _ f)) in
        drop_of_length-le s (let all : length s ≤ r.at = omega arith in all)

-- of a plan
pub plan-ends : (e : Edition) (sites : ℕ) (s : List ℕ) {n : ℕ} → passed n ≡ plan_head e sites s
    → (g m : ℕ) {r : End} {sets out : List ℕ} → AllRead s 5 g n e.share m sites r sets out → drop r.at s ≡ []
plan-ends e sites s h g m x = nothing-follows x (plan-headed e sites s h).size
