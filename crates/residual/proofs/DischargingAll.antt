-- A round of moves: what holds while the order is discharged from its end. Assumes nothing.
use mathlib.Core.Path.{◌≡◌, sym, ap, ◌∙◌}
use mathlib.Core.List.{List}
use mathlib.Core.Logic.{◌⊎◌, inl, inr, ⊎_elim}
use Prim.Native.Nat.{ℕ, ◌-◌, ◌≤◌, ◌<◌}
use native.Mathlib.Omega.{arith}
use Rattle.residual.specs.Array.{at, total_deficit}
use Rattle.residual.specs.Search.{Queue, Leads, Placed}
use Rattle.residual.specs.Moves.{Loaded, Ranked, Moved, PushedFrom, EarlierExcess, Gained, Admissible, Discharged}
use Rattle.residual.specs.Rounds.{Excess, Found, AllDischarged}
use Rattle.residual.proofs.Laws.{below?}
use Rattle.residual.proofs.Discharging.{moved_none, moved-moved}

-- less is lacking, or the seeds still lack and a depot before place k overflows
abbrev pub Claim : List ℕ → List ℕ → List ℕ → ℕ → List ℕ → ℕ → Type 0
Claim order target load₀ start load k =
    (total_deficit target load < total_deficit target load₀)
    ⊎ (((i : ℕ) → i < start → at load (at order i) < at target (at order i)) × Excess order target load start k)

-- the places from k on are done
pub record DischargingAll (ends chain order rank target : List ℕ) (start n : ℕ) (share₀ load₀ share load : List ℕ) (k : ℕ) : Type 0 where
  pub ranked : Ranked ends chain rank target
  pub queue : Queue n order rank
  pub moved : Moved ends rank target share₀ load₀ share load
  pub begun : start ≤ k
  pub low : k ≤ n
  pub small : n ≤ 64
  pub leads : (i : ℕ) → start ≤ i → i < k → Leads ends share order rank i
  pub claim : Claim order target load₀ start load k

module _ {ends chain order rank target : List ℕ} {start n : ℕ} {share₀ load₀ : List ℕ} where
  pub discharge-all-begins : Ranked ends chain rank target → Loaded ends share₀ load₀ → Found ends share₀ order rank target load₀ start n
      → Excess order target load₀ start n → DischargingAll ends chain order rank target start n share₀ load₀ share₀ load₀ n
  discharge-all-begins t l f e = record {
    ranked = t;
    queue = f.queue;
    moved = moved_none l;
    begun = f.begun;
    low = omega arith;
    small = omega (arith, f.queue.places);
    leads = f.leads;
    claim = inr (f.seeds, e);
  }

  module _ {share load : List ℕ} {k : ℕ} (i : DischargingAll ends chain order rank target start n share₀ load₀ share load k) where
    pub discharge-all-placed : start < k → Placed rank (at order (k - 1))
    discharge-all-placed h = record {
      depot = i.queue.depot (k - 1) (omega (arith, i.low));
      within = omega (arith, i.queue.placed (k - 1) (omega (arith, i.low)), i.low, i.small);
    }

    pub discharge-all-goes : {share' load' : List ℕ} → start < k → Discharged ends rank target (at order (k - 1)) 0 share load share' load'
        → DischargingAll ends chain order rank target start n share₀ load₀ share' load' (k - 1)
    discharge-all-goes {share'} {load'} h = ⊎_elim idle moves
      where
        place : (x : ℕ) → x < k → at rank (at order x) ≡ x
        place x b = i.queue.placed x (omega (arith, i.low))

        last : Leads ends share order rank (k - 1)
        last = i.leads (k - 1) (omega arith) (omega arith)

        before : Excess order target load start k → (at target (at order (k - 1)) < at load (at order (k - 1)) → ⊥) → Excess order target load start (k - 1)
        before c n = ⊎_elim
            (λ b. record { place = c.place; from = c.from; is = b; over = c.over })
            (λ b. let z : c.place ≡ k - 1 = omega (arith, c.is) in absurd (n (rw (← z) c.over)))
            (below? c.place (k - 1))

        idle : (share' ≡ share) × (load' ≡ load) × (at target (at order (k - 1)) < at load (at order (k - 1)) → (a : ℕ) → 0 ≤ a → a < 1024 → at ends a ≡ at order (k - 1)
            → Admissible ends rank share (at order (k - 1)) a → ⊥) → DischargingAll ends chain order rank target start n share₀ load₀ share' load' (k - 1)
        idle w = rw (w.0, w.1) (record {
          ranked = i.ranked;
          queue = i.queue;
          moved = i.moved;
          begun = omega arith;
          low = omega (arith, i.low);
          small = i.small;
          leads = λ x a b. i.leads x a (omega arith);
          claim = ⊎_elim inl (λ c. inr (c.0, before c.1 (λ z. w.2 z last.arc (omega arith) last.is last.from (record { gives = last.gives; earlier = omega (arith, last.earlier, place (k - 1) (omega arith)) })))) i.claim;
        })

        still : PushedFrom ends rank target (at order (k - 1)) share load share' load' → (x : ℕ) → x < k - 1 → Leads ends share order rank x → Leads ends share' order rank x
        still w x b l = record {
          arc = l.arc;
          is = l.is;
          from = l.from;
          gives = omega (
            arith,
            l.gives,
            w.arcs l.arc l.is (λ z. let y : at rank (at order x) ≡ at rank (at order (k - 1)) = ap (at rank) (sym l.from ∙ z) in
                omega (arith, place x (omega arith), place (k - 1) (omega arith))),
          );
          earlier = l.earlier;
        }

        later : ((d : ℕ) → d < start → at load (at order d) < at target (at order d)) → ((d : ℕ) → at load d < at target d → at load' d < at target d)
            → EarlierExcess rank target load' (at order (k - 1)) → Excess order target load' start (k - 1)
        later seeds lacks o =
            let small : at rank o.depot < k - 1 = omega (arith, o.earlier, place (k - 1) (omega arith)) in
            let f = i.queue.found o.depot o.is (omega (arith, small, i.low, i.small)) in
            record {
              place = at rank o.depot;
              from = ⊎_elim
                  (λ b. absurd (omega (arith, lacks _ (seeds (at rank o.depot) b), ap (at load') f.1, ap (at target) f.1, o.over)))
                  (λ b. b)
                  (below? (at rank o.depot) start);
              is = small;
              over = rw f.1 o.over;
            }

        moves : PushedFrom ends rank target (at order (k - 1)) share load share' load' × Gained rank target (at order (k - 1)) load load'
            → DischargingAll ends chain order rank target start n share₀ load₀ share' load' (k - 1)
        moves w = record {
          ranked = i.ranked;
          queue = i.queue;
          moved = moved-moved i.moved w.0.moved;
          begun = omega arith;
          low = omega (arith, i.low);
          small = i.small;
          leads = λ x a b. still w.0 x b (i.leads x a (omega arith));
          claim = ⊎_elim (λ c. inl (omega (arith, w.0.moved.less)))
              (λ c. ⊎_elim (λ g. inl (omega (arith, i.moved.less))) (λ g. inr ((λ d h. g.0 _ (c.0 d h)), later c.0 g.0 g.1)) w.1)
              i.claim;
        }

    pub discharge-all-ends : k ≤ start → AllDischarged ends rank target share₀ load₀ share load
    discharge-all-ends h = record {
      moved = i.moved;
      falls = ⊎_elim (λ c. c) (λ c. absurd (omega (arith, c.1.from, c.1.is))) i.claim;
    }
