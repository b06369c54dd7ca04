-- The loop that sets targets and ranks. Assumes nothing.
use mathlib.Core.Bool.{Bool, cond}
use mathlib.Core.List.{List}
use mathlib.Core.Logic.{⊎_elim}
use mathlib.Core.Path.{◌∙◌, ◌≡◌, ap, subst}
use Prim.Native.Nat.{◌*◌, ◌+◌, ◌<◌, ◌≤◌, ℕ}
use native.Mathlib.Omega.{arith}
use lib.ListN.{length-set, set}
use Rattle.sets.specs.Set.{has}
use Rattle.sets.specs.Sum.{when}
use Rattle.residual.specs.Array.{at}
use Rattle.residual.proofs.Laws.{stored}
use Rattle.attempt.specs.Lay.{Aiming}
use Rattle.attempt.proofs.Laid.{Aimed}

module _ {crews : List ℕ} {s w : ℕ} {target rank : List ℕ} {d : ℕ} (i : Aiming crews s w target rank d) where
  pub aim-goes : {t r : ℕ} → d < 64 → t ≡ when (has s d) (w * at crews d) → r ≡ cond (has s d) 64 65 → Aiming crews s w (set target d t) (set rank d r) (d + 1)
  aim-goes {t} {r} h e f = record {
    targets = simp length-set i.targets;
    ranks = simp length-set i.ranks;
    low = omega arith;
    done = λ x l. (
      ⊎_elim (λ z. z.1 ∙ rw z.0 e) (λ z. z.1 ∙ (i.done x (omega (arith, z.0))).0) (stored target d t x (omega (arith, i.targets))),
      ⊎_elim (λ z. z.1 ∙ rw z.0 f) (λ z. z.1 ∙ (i.done x (omega (arith, z.0))).1) (stored rank d r x (omega (arith, i.ranks))),
    );
  }

  pub aim-ends : 64 ≤ d → Aiming crews s w target rank 64
  aim-ends h = let z : d ≡ 64 = omega (arith, i.low) in subst (Aiming crews s w target rank) z i

-- what the moves ask
pub aimed : {crews : List ℕ} {s w : ℕ} {target rank : List ℕ} → Aiming crews s w target rank 64 → Aimed target rank (has s) (at crews) w
aimed {crews} {s} {w} i = record {
  inside = λ d h e. ((i.done d h).1 ∙ ap (λ (t : Bool). cond t 64 65) e, (i.done d h).0 ∙ ap (λ (t : Bool). when t (w * at crews d)) e);
  outside = λ d h e. ((i.done d h).1 ∙ ap (λ (t : Bool). cond t 64 65) e, (i.done d h).0 ∙ ap (λ (t : Bool). when t (w * at crews d)) e);
}
