-- The model has at most one reply to a call or the step to edition 2, and at most one model follows it; so too for a list of events. Assumes nothing.
use mathlib.Core.Path.{◌≡◌, refl, sym, ap, ap₂, ◌∙◌, subst}
use mathlib.Core.Logic.{inl, inr}
use mathlib.Core.List.{List, ◌∷◌}
use mathlib.Core.Option.{some-injective}
use Prim.Native.Nat.{ℕ}
use Rattle.records.specs.Values.{Plan}
use Rattle.store.specs.declared.Request.{Request}
use Rattle.store.specs.declared.Request.TheVariants.{Load, Change, Add, Propose, Share, Depot, Difference, Written, AtLeast, ListWritten}
use Rattle.store.specs.Calls.{Call, Event, called, migrate, Reply, same, refused}
use Rattle.store.specs.Model.{Model, Turn, Turns, Proposes, SaysOf, Says, Follows, planned}
use Rattle.store.specs.Trace.{Run, start, then}
use Rattle.store.proofs.Plans.{one-plan}

module _ (b : Model) (c : Call) (r r' : Reply) (b₁ b₂ : Model) where
  one-turn : Turns b c r b₁ → Turns b c r' b₂ → (r ≡ r') × (b₁ ≡ b₂)
  one-turn x y = let e = x ∙ sym y in (ap (λ (t : Turn). t.reply) e, ap (λ (t : Turn). t.after) e)

  one-proposal : Proposes b c r b₁ → Proposes b c r' b₂ → (r ≡ r') × (b₁ ≡ b₂)
  one-proposal (inl (p, t, x, y)) (inl (p', t', x', y')) =
      (x ∙ sym x', y ∙ ap (λ (q : Plan). planned b q) (one-plan b.edition b.list p p' c.input t t') ∙ sym y')
  one-proposal (inl (p, t, x, y)) (inr (never, n, e, x', y')) = absurd (never p t)
  one-proposal (inr (never, n, e, x, y)) (inl (p', t', x', y')) = absurd (never p' t')
  one-proposal (inr (never, n, e, x, y)) (inr (never', n', e', x', y')) =
      (x ∙ ap (λ (k : ℕ). same c (refused k)) (some-injective n n' (sym e ∙ e')) ∙ sym x', y ∙ sym y')

  one_of : (q : Request) → SaysOf q b c r b₁ → SaysOf q b c r' b₂ → (r ≡ r') × (b₁ ≡ b₂)
  one_of Load = one-turn
  one_of (Change i w) = one-turn
  one_of (Add f s w) = one-turn
  one_of Propose = one-proposal
  one_of (Share i) = one-turn
  one_of (Depot d) = one-turn
  one_of (Difference a d) = one-turn
  one_of Written = one-turn
  one_of (AtLeast m) = one-turn
  one_of ListWritten = one-turn

  pub one-says : Says b c r b₁ → Says b c r' b₂ → (r ≡ r') × (b₁ ≡ b₂)
  one-says = one_of c.request

pub one_follows : (b : Model) (v : Event) (r r' : Reply) (b₁ b₂ : Model) → Follows b v r b₁ → Follows b v r' b₂ → (r ≡ r') × (b₁ ≡ b₂)
one_follows b (called c) r r' b₁ b₂ x y = one-says b c r r' b₁ b₂ x.1 y.1
one_follows b (migrate table) r r' b₁ b₂ x y = let e = x.1 ∙ sym y.1 in (ap (λ (t : Turn). t.reply) e, ap (λ (t : Turn). t.after) e)

-- a step with one result has runs with one result
pub one-run : {S : Type 0} (Step : S → Event → Reply → S → Type 0)
    → ((s : S) (v : Event) (r r' : Reply) (s₁ s₂ : S) → Step s v r s₁ → Step s v r' s₂ → (r ≡ r') × (s₁ ≡ s₂))
    → {s s₁ s₂ : S} {events : List Event} {rs rs' : List Reply} → Run Step s events rs s₁ → Run Step s events rs' s₂ → (rs ≡ rs') × (s₁ ≡ s₂)
one-run Step one start start = (refl, refl)
one-run Step one {s₂ = t} (then {s = s} {s₁ = s₁} {v = v} {vs = vs} {r = r} x xs) (then {s₁ = s₁'} {r = r'} {rs = rs'} y ys) =
    let k = one s v r r' s₁ s₁' x y in
    let rest = one-run Step one xs (subst (λ (u : _). Run Step u vs rs' t) (sym k.1) ys) in
    (ap₂ ◌∷◌ k.0 rest.0, rest.1)

-- The model answers a list of events in at most one way.
pub one-model : {b b₁ b₂ : Model} {events : List Event} {rs rs' : List Reply} → Run Follows b events rs b₁ → Run Follows b events rs' b₂ → (rs ≡ rs') × (b₁ ≡ b₂)
one-model = one-run Follows one_follows
