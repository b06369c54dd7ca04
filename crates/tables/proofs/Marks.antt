-- The places of the depots, marked from the last group to the first. Assumes nothing.
use mathlib.Core.Path.{◌≡◌, sym, ap, ◌∙◌}
use mathlib.Core.Logic.{⊎_elim}
use mathlib.Core.Bool.{Bool, true, false, cond, not, ◌&&◌, and-true}
use mathlib.Core.List.{List}
use Prim.Native.Nat.{ℕ, suc, ◌+◌, ◌-◌, ◌≤◌, ◌<◌, ◌^◌}
use native.Mathlib.Omega.{arith}
use lib.Dec.{eqb, eqb→eq, eqb_refl, T_not}
use lib.ListN.{length, get_or, set, drop}
use lib.Seq.{drop-cons, drop-length, get_or-set_same, get_or-set_other}
use Rattle.sets.specs.Set.{has, is_empty, lowest}
use Rattle.sets.proofs.Test.{T?, and_r, is_false, passes, eq→eqb, cond-on, cond-off}
use Rattle.sets.proofs.Set.{empty→}
use Rattle.sets.proofs.Rest.{rest, lowest-lt, in_left, rest-is}
use Rattle.density.specs.Plan.{place}

-- ---- a set's depots, from the lowest on

module _ (left : ℕ) (low : left < 2 ^ 64) (some : not (is_empty (has left) 64) ≡ true) (d : ℕ) (is : d ≡ lowest (has left) 64) where
  -- marking d and then what is left marks all that was left
  pub mark-more : (a : List ℕ) (k e : ℕ) → length a ≡ 64 → cond (has (rest left d) e) k (get_or (set a d k) e 0) ≡ cond (has left e) k (get_or a e 0)
  mark-more a k e wide =
      ⊎_elim
      (λ t.
      let z = eqb→eq e d t in
      rw z
      (ap (λ (b : Bool). cond b k (get_or (set a d k) d 0)) (rest-is left low some d is d)
      ∙ cond-off (has left d && not (eqb d d)) k _ (λ u. T_not (eqb d d) (and_r (has left d) (not (eqb d d)) u) (eqb_refl d))
      ∙ get_or-set_same a d k 0 (omega (arith, wide, is, lowest-lt left low some))
      ∙ sym (cond-on (has left d) k (get_or a d 0) (in_left left low some d is))))
      (λ n.
      ap (λ (b : Bool). cond b k (get_or (set a d k) e 0)) (rest-is left low some d is e ∙ ap (λ (b : Bool). has left e && not b) (is_false (eqb e d) n) ∙ and-true (has left e))
      ∙ ap (cond (has left e) k) (get_or-set_other a d e k 0 (λ z. n (eq→eqb e d z))))
      (T? (eqb e d))

pub mark-end : (left : ℕ) → is_empty (has left) 64 ≡ true → (d k x : ℕ) → d < 64 → cond (has left d) k x ≡ x
mark-end left none d k x l = cond-off (has left d) k x (empty→ (has left) 64 (passes _ none) d l)

-- ---- the groups from place k on

pub places-start : (gs : List ℕ) (d : ℕ) → length gs ≡ length gs + place (drop (length gs) gs) d
unfolding place
places-start gs d = rw (drop-length gs) (omega arith)

marked : (gs : List ℕ) (k d : ℕ) → k < length gs → cond (has (get_or gs k 0) d) k (suc k + place (drop (suc k) gs) d) ≡ k + place (drop k gs) d
unfolding place
marked gs k d l = rw (drop-cons gs k 0 l) (step (has (get_or gs k 0) d))
  where
    step : (b : Bool) → cond b k (suc k + place (drop (suc k) gs) d) ≡ k + cond b 0 (suc (place (drop (suc k) gs) d))
    step true = omega arith
    step false = omega arith

pub places-more : (gs : List ℕ) (k d x : ℕ) → 0 < k → k ≤ length gs → x ≡ k + place (drop k gs) d
    → cond (has (get_or gs (k - 1) 0) d) (k - 1) x ≡ k - 1 + place (drop (k - 1) gs) d
places-more gs k d x p l e =
    let z : k ≡ suc (k - 1) = omega arith in
    ap (cond (has (get_or gs (k - 1) 0) d) (k - 1)) (e ∙ ap (λ n. n + place (drop n gs) d) z) ∙ marked gs (k - 1) d (omega arith)
