-- `rows::is_broken` meets its contract. Assumes nothing.
use mathlib.Core.Path.{◌≡◌, sym, ap, ap₂, ◌∙◌}
use mathlib.Core.Bool.{Bool, cond, ◌||◌}
use mathlib.Core.Logic.{◌⊎◌, ⊎_elim}
use Prim.Native.Nat.{ℕ, ◌<◌, ◌≤◌}
use lib.Dec.{eqb, ltb}
use borrow.Author.Tests.{lt-ltb, le-ltb, eq-eqb, ne_eqb}
use Rattle.tables.proofs.Shares.{broken-at}
use Rattle.rows.proofs.is_broken.Goals as goal
use Rattle.rows.proofs.is_broken.Goals.{then-s, else-s, then-a-b, else-a-b}

-- the least share, where it is all and where it is none
least : (a b first second all : ℕ) → ℕ
least a b first second all = cond (ltb b a || eqb first second) all 0

least-all : (a b first second all : ℕ) → (b < a) ⊎ ((a ≤ b) × (first ≡ second)) → all ≡ least a b first second all
unfolding least
least-all a b first second all e = ⊎_elim (λ l. rw (lt-ltb b a l)) (λ h. rw (le-ltb b a h.0, eq-eqb first second h.1)) e

least-none : (a b first second all : ℕ) → (a ≤ b) × (first ≡ second → ⊥) → 0 ≡ least a b first second all
unfolding least
least-none a b first second all h = rw (le-ltb b a h.0, ne_eqb first second h.1)

pub returns-then-share-least : goal.returns-then-share-least
unfolding least
returns-then-share-least c = λ N gs ss i e.
    let a = c.args in
    let low : c.if-s.least ≡ least a.a a.b a.s.first a.s.second a.all =
    elim c.if-s.branch [ then-s w ↦ w.least-is ∙ least-all _ _ _ _ _ w.if-s.either | else-s w ↦ w.least-is ∙ least-none _ _ _ _ _ w.if-s.false ] in
    let high : c.if-a-b.most ≡ cond (ltb a.a a.b) 0 a.all =
    elim c.if-a-b.branch [ then-a-b w ↦ rw (lt-ltb _ _ w.if-a-b.true) w.most-is | else-a-b w ↦ rw (le-ltb _ _ w.if-a-b.false) w.most-is ] in
    let test = lt-ltb _ _ c.if-share-least.true in
    test ∙ sym (ap (λ (b : Bool). b || ltb c.if-a-b.most a.share) test) ∙ ap₂ (λ (l m : ℕ). ltb a.share l || ltb m a.share) low high ∙ broken-at N gs ss i a.s a.a a.b a.all a.share e

pub returns-else-share-least : goal.returns-else-share-least
unfolding least
returns-else-share-least c = λ N gs ss i e.
    let a = c.args in
    let low : c.if-s.least ≡ least a.a a.b a.s.first a.s.second a.all =
    elim c.if-s.branch [ then-s w ↦ w.least-is ∙ least-all _ _ _ _ _ w.if-s.either | else-s w ↦ w.least-is ∙ least-none _ _ _ _ _ w.if-s.false ] in
    let high : c.if-a-b.most ≡ cond (ltb a.a a.b) 0 a.all =
    elim c.if-a-b.branch [ then-a-b w ↦ rw (lt-ltb _ _ w.if-a-b.true) w.most-is | else-a-b w ↦ rw (le-ltb _ _ w.if-a-b.false) w.most-is ] in
    sym (ap (λ (b : Bool). b || ltb c.if-a-b.most a.share) (le-ltb _ _ c.if-share-least.false)) ∙ ap₂ (λ (l m : ℕ). ltb a.share l || ltb m a.share) low high ∙ broken-at N gs ss i a.s a.a a.b a.all a.share e
