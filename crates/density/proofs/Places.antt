-- A depot's place among the groups, and the sets that a place stands for. Assumes nothing.
use mathlib.Core.Path.{◌≡◌, refl, sym, ap, ◌∙◌, fun_ext, subst}
use mathlib.Core.Logic.{◌⊎◌, inl, inr, ⊎_elim}
use mathlib.Core.Bool.{Bool, true, false, cond, ◌||◌, or-false, or_assoc}
use mathlib.Core.List.{List, [], ◌∷◌}
use Prim.Native.Nat.{ℕ, zero, suc, ◌≤◌, ◌<◌, zero-le, suc-le-suc}
use native.Mathlib.Nat.{le_refl, le_trans, le_antisymm, le_of_suc-le, le_of_suc-le-suc, suc_inj}
use native.Mathlib.Omega.{arith}
use lib.Dec.{T, not_T, ltb, ltb→lt, nltb→le}
use lib.ListN.{length, drop}
use lib.Seq.{drop-cons, drop-length, take-length}
use Rattle.sets.specs.Set.{Depots, ◌∪◌, ◌⊆◌, has}
use Rattle.density.specs.Network.{Network}
use Rattle.density.specs.Groups.{Next, Follow}
use Rattle.density.specs.Plan.{union, group, before, place}
use Rattle.sets.proofs.Test.{or_l, or_r, or_cases, T?}

cons-lt : (b : Bool) (p k : ℕ) → T b ⊎ (p < k) → cond b 0 (suc p) < suc k
cons-lt true p k h = suc-le-suc zero-le
cons-lt false p k h = ⊎_elim absurd suc-le-suc h

lt-cons : (b : Bool) (p k : ℕ) → cond b 0 (suc p) < suc k → T b ⊎ (p < k)
lt-cons true p k h = inl tt
lt-cons false p k h = inr (le_of_suc-le-suc h)

pub before→ : (gs : List ℕ) (k d : ℕ) → T (before gs k d) → place gs d < k
unfolding union place
before→ gs zero d t = absurd t
before→ [] (suc k) d t = absurd t
before→ (g ∷ gs) (suc k) d t =
    cons-lt (has g d) (place gs d) k (⊎_elim inl (λ u. inr (before→ gs k d u)) (or_cases (has g d) (before gs k d) t))

pub →before : (gs : List ℕ) (k d : ℕ) → k ≤ length gs → place gs d < k → T (before gs k d)
unfolding union place
→before gs zero d l h = absurd (let z : ⊥ = omega arith in z)
→before [] (suc k) d l h = absurd (let z : ⊥ = omega arith in z)
→before (g ∷ gs) (suc k) d l h =
    ⊎_elim (or_l (has g d) (before gs k d)) (λ m. or_r (has g d) (before gs k d) (→before gs k d (le_of_suc-le-suc l) m))
    (lt-cons (has g d) (place gs d) k h)

pub group→ : (gs : List ℕ) (k d : ℕ) → k < length gs → T (group gs k d) → place gs d < suc k
unfolding place
group→ [] k d l t = absurd (let z : ⊥ = omega arith in z)
group→ (g ∷ gs) zero d l t = cons-lt (has g d) (place gs d) 0 (inl t)
group→ (g ∷ gs) (suc k) d l t = cons-lt (has g d) (place gs d) (suc k) (inr (group→ gs k d (le_of_suc-le-suc l) t))

pub →group : (gs : List ℕ) (k d : ℕ) → k < length gs → place gs d ≡ k → T (group gs k d)
unfolding place
→group [] k d l e = absurd (let z : ⊥ = omega arith in z)
→group (g ∷ gs) zero d l e = first (has g d) e
  where
    first : (b : Bool) → cond b 0 (suc (place gs d)) ≡ 0 → T b
    first true e = tt
    first false e = omega arith
→group (g ∷ gs) (suc k) d l e = →group gs k d (le_of_suc-le-suc l) (later (has g d) e)
  where
    later : (b : Bool) → cond b 0 (suc (place gs d)) ≡ suc k → place gs d ≡ k
    later true e = omega arith
    later false e = suc_inj e

before_at : (gs : List ℕ) (k : ℕ) → k < length gs → (d : ℕ) → before gs (suc k) d ≡ (before gs k d || group gs k d)
unfolding union
before_at [] k l d = absurd (let z : ⊥ = omega arith in z)
before_at (g ∷ gs) zero l d = or-false (has g d)
before_at (g ∷ gs) (suc k) l d =
    ap (λ b. has g d || b) (before_at gs k (le_of_suc-le-suc l) d) ∙ sym (or_assoc (has g d) (before gs k d) (group gs k d))

pub before-suc : (gs : List ℕ) (k : ℕ) → k < length gs → before gs (suc k) ≡ (before gs k ∪ group gs k)
before-suc gs k l = fun_ext (before_at gs k l)

-- the groups follow G exactly if each is the next one after G and those before it, and all listed depots are in one
pub follow-from : (N : Network) (G : Depots) (gs : List ℕ) → ((k : ℕ) → k < length gs → Next N (G ∪ before gs k) (group gs k))
    → N.listed ⊆ (G ∪ union gs) → Follow N G gs
unfolding Follow union
follow-from N G [] h l = λ d t. subst T (or-false (G d)) (l d t)
follow-from N G (g ∷ gs) h l = (
  subst (λ (X : Depots). Next N X (has g)) (fun_ext (λ d. or-false (G d))) (h 0 (suc-le-suc zero-le)),
  follow-from N (G ∪ has g) gs
      (λ k m. subst (λ (X : Depots). Next N X (group gs k)) (fun_ext (λ d. sym (or_assoc (G d) (has g d) (before gs k d)))) (h (suc k) (suc-le-suc m)))
      (λ d t. subst T (sym (or_assoc (G d) (has g d) (union gs d))) (l d t)),
)

-- what holds of G and the groups after it holds, after k of them, of those passed and the rest
pub along : (P : Depots → List ℕ → Type 0) → ((G : Depots) (g : ℕ) (gs : List ℕ) → P G (g ∷ gs) → P (G ∪ has g) gs)
    → (G : Depots) (gs : List ℕ) → P G gs → (k : ℕ) → P (G ∪ before gs k) (drop k gs)
unfolding union
along P step G gs p zero = subst (λ (X : Depots). P X gs) (fun_ext (λ d. sym (or-false (G d)))) p
along P step G [] p (suc k) = subst (λ (X : Depots). P X []) (fun_ext (λ d. sym (or-false (G d)))) p
along P step G (g ∷ gs) p (suc k) =
    subst (λ (X : Depots). P X (drop k gs)) (fun_ext (λ d. or_assoc (G d) (has g d) (before gs k d)))
    (along P step (G ∪ has g) gs (step G g gs p) k)

follow-after : (N : Network) (G : Depots) (gs : List ℕ) → Follow N G gs → (k : ℕ) → Follow N (G ∪ before gs k) (drop k gs)
unfolding Follow
follow-after N = along (Follow N) (λ G g gs f. f.1)

pub follow-next : (N : Network) (G : Depots) (gs : List ℕ) → Follow N G gs → (k : ℕ) → k < length gs → Next N (G ∪ before gs k) (group gs k)
unfolding Follow
follow-next N G gs f k l = (rw (drop-cons gs k 0 l) at (follow-after N G gs f k)).0

pub follow-listed : (N : Network) (G : Depots) (gs : List ℕ) → Follow N G gs → N.listed ⊆ (G ∪ union gs)
unfolding Follow
follow-listed N G gs f = rw (drop-length gs, take-length gs) at (follow-after N G gs f (length gs))

pub place-≤ : (gs : List ℕ) (d : ℕ) → place gs d ≤ length gs
unfolding place
place-≤ [] d = le_refl 0
place-≤ (g ∷ gs) d = step (has g d) (place-≤ gs d)
  where
    step : (b : Bool) → place gs d ≤ length gs → cond b 0 (suc (place gs d)) ≤ suc (length gs)
    step true h = zero-le
    step false h = suc-le-suc h

-- what a search from the first group finds
place-≥ : (gs : List ℕ) (k d : ℕ) → k ≤ length gs → ((j : ℕ) → j < k → T (group gs j d) → ⊥) → k ≤ place gs d
place-≥ gs k d l n =
    ⊎_elim (λ t. absurd (let p = ltb→lt (place gs d) k t in n (place gs d) p (→group gs (place gs d) d (le_trans p l) refl)))
    (λ f. nltb→le (place gs d) k (not_T (ltb (place gs d) k) f))
    (T? (ltb (place gs d) k))

pub place_found : (gs : List ℕ) (k d : ℕ) → k < length gs → ((j : ℕ) → j < k → T (group gs j d) → ⊥) → T (group gs k d) → place gs d ≡ k
place_found gs k d l n t = le_antisymm (le_of_suc-le-suc (group→ gs k d l t)) (place-≥ gs k d (le_of_suc-le l) n)

pub place_none : (gs : List ℕ) (d : ℕ) → ((j : ℕ) → j < length gs → T (group gs j d) → ⊥) → place gs d ≡ length gs
place_none gs d n = le_antisymm (place-≤ gs d) (place-≥ gs (length gs) d (le_refl (length gs)) n)
