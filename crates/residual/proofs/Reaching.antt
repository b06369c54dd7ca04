-- The search: what holds while the order is gone through. Assumes nothing.
use mathlib.Core.Path.{◌≡◌, sym, ap, ◌∙◌}
use mathlib.Core.List.{List}
use mathlib.Core.Logic.{⊎_elim}
use Prim.Native.Nat.{ℕ, ◌+◌, ◌≤◌, ◌<◌}
use native.Mathlib.Omega.{arith}
use Rattle.residual.specs.Array.{at}
use Rattle.residual.specs.Search.{Queue, Grown, Closed, Residual, Placed, Scanned, Reached}
use Rattle.residual.proofs.Laws.{grown-none, grown-out, grown-grown, below?}

-- the first k of the order have been scanned
pub record Reaching (ends chain share : List ℕ) (start : ℕ) (order₀ rank₀ : List ℕ) (n : ℕ) (order rank : List ℕ) (k : ℕ) : Type 0 where
  pub net : Residual ends chain share
  pub queue : Queue n order rank
  pub grown : Grown ends share start order₀ rank₀ n order rank
  pub low : k ≤ n
  pub small : n ≤ 64
  pub done : (i : ℕ) → i < k → Closed ends share rank (at order i)

module _ {ends chain share : List ℕ} {start : ℕ} {order₀ rank₀ : List ℕ} where
  pub reach-begins : Residual ends chain share → Queue start order₀ rank₀ → Reaching ends chain share start order₀ rank₀ start order₀ rank₀ 0
  reach-begins t q = record {
    net = t;
    queue = q;
    grown = grown-none;
    low = omega arith;
    small = omega (arith, q.places);
    done = λ i h. absurd (omega arith);
  }

  module _ {n : ℕ} {order rank : List ℕ} {k : ℕ} (i : Reaching ends chain share start order₀ rank₀ n order rank k) where
    pub reach-placed : k < n → Placed rank (at order k)
    reach-placed h = record { depot = i.queue.depot k h; within = omega (arith, i.queue.placed k h, i.small) }

    pub reach-goes : {n' : ℕ} {order' rank' : List ℕ} → k < n → Scanned ends share (at order k) n order rank n' order' rank'
        → Reaching ends chain share start order₀ rank₀ n' order' rank' (k + 1)
    reach-goes h v = record {
      net = i.net;
      queue = v.queue;
      grown = grown-grown i.queue i.grown v.grown;
      low = omega (arith, v.grown.more);
      small = omega (arith, v.queue.places);
      done = λ x l p is gives from out. ⊎_elim
          (λ b. i.done x b p is gives (from ∙ v.grown.same x (omega arith)) (grown-out v.grown _ out))
          (λ b. let x≡k : x ≡ k = omega arith in v.closed p is gives (from ∙ v.grown.same x (omega arith) ∙ ap (at order) x≡k) out)
          (below? x k);
    }

    pub reach-ends : n ≤ k → Reached ends share start order₀ rank₀ n order rank
    reach-ends h = record {
      queue = i.queue;
      grown = i.grown;
      closed = λ v w p is gives from out.
          let f = i.queue.found v w.depot w.within in
          i.done (at rank v) (omega (arith, f.0)) p is gives (from ∙ sym f.1) out;
    }
