-- The plan held is that of the proposal that passed last: what is written out are its figures, and shares are read from it. Assumes nothing.
use mathlib.Core.Path.{◌≡◌, refl, sym, ap, subst}
use mathlib.Core.Logic.{◌↔◌, inl, inr}
use mathlib.Core.Bool.{Bool, true, false, cond, true≢false}
use mathlib.Core.Option.{Option, none, some, none-ne-some, some-injective}
use Prim.Native.Nat.{ℕ}
use lib.ListN.{length}
use Rattle.density.specs.Network.{Listing}
use Rattle.density.specs.Rows.{first_row}
use Rattle.records.specs.declared.Edition.{Edition}
use Rattle.records.specs.Values.{Plan}
use Rattle.records.proofs.RoundTrip.{laid-plan}
use Rattle.judge.specs.Check.{True}
use Rattle.store.specs.declared.Request.{Request}
use Rattle.store.specs.declared.Request.TheVariants.{Load, Change, Add, Propose, Share, Depot, Difference, Written, AtLeast, ListWritten}
use Rattle.store.specs.Calls.{Call, Reply}
use Rattle.store.specs.Model.{Model, rows_of, Turn, Turns, Proposes, SaysOf, grant_of, settled, turned, planned}
use Rattle.store.specs.Trace.{Proposal, leaves, proposed_plan, plan_from}

-- a plan, or none, and the proposal that it comes from, or none
abbrev pub Backed : Listing → Option Proposal → Option Plan → Type 0
Backed l none none = Unit {0}
Backed l none (some q) = ⊥
Backed l (some p) none = ⊥
Backed l (some p) (some q) = True p.edition l q p.bytes

abbrev pub BackedIn : Model → Option Proposal → Type 0
BackedIn b o = Backed b.list o b.plan

-- every call but a proposal
abbrev Other : Request → Type 0
Other Load = Unit {0}
Other (Change i w) = Unit {0}
Other (Add f s w) = Unit {0}
Other Propose = ⊥
Other (Share i) = Unit {0}
Other (Depot d) = Unit {0}
Other (Difference a d) = Unit {0}
Other Written = Unit {0}
Other (AtLeast m) = Unit {0}
Other ListWritten = Unit {0}

module _ (b : Model) (c : Call) (o : Option Proposal) (h : BackedIn b o) (e : Edition) (same : e ≡ b.edition) where
  -- the proposal that the call may be
  abbrev proposal : Proposal
  proposal = record { edition = e; bytes = c.input }

  turn-backed : (q : Request) (x : Option ℕ) → Other q
      → BackedIn (settled x b c (grant_of b c q)).after (leaves q proposal (settled x b c (grant_of b c q)).reply.answer o)
  turn-backed Load none n = tt
  turn-backed Load (some k) n = h
  turn-backed (Change i w) none n = tt
  turn-backed (Change i w) (some k) n = h
  turn-backed (Add f s w) none n = tt
  turn-backed (Add f s w) (some k) n = h
  turn-backed Propose x n = absurd n
  turn-backed (Share i) none n = h
  turn-backed (Share i) (some k) n = h
  turn-backed (Depot d) none n = h
  turn-backed (Depot d) (some k) n = h
  turn-backed (Difference a d) none n = h
  turn-backed (Difference a d) (some k) n = h
  turn-backed Written none n = h
  turn-backed Written (some k) n = h
  turn-backed (AtLeast m) none n = h
  turn-backed (AtLeast m) (some k) n = h
  turn-backed ListWritten none n = h
  turn-backed ListWritten (some k) n = h

  module _ (r : Reply) (b' : Model) where
    other-backed : (q : Request) → c.request ≡ q → Other q → Turns b c r b' → BackedIn b' (leaves q proposal r.answer o)
    other-backed q k n t =
        let u : turned b' r ≡ settled (first_row (rows_of b c q)) b c (grant_of b c q) =
        subst (λ (q : Request). turned b' r ≡ settled (first_row (rows_of b c q)) b c (grant_of b c q)) k t in
        subst (λ (x : Turn). BackedIn x.after (leaves q proposal x.reply.answer o)) (sym u) (turn-backed q (first_row (rows_of b c q)) n)

    proposal-backed : Proposes b c r b' → BackedIn b' (leaves Propose proposal r.answer o)
    proposal-backed (inl (p, t, x, y)) =
        subst (λ (m : Model). BackedIn m (leaves Propose proposal r.answer o)) (sym y)
        (subst (λ (a : Reply). BackedIn (planned b p) (leaves Propose proposal a.answer o)) (sym x) (subst (λ (e : Edition). True e b.list p c.input) (sym same) t))
    proposal-backed (inr (never, n, e, x, y)) =
        subst (λ (m : Model). BackedIn m (leaves Propose proposal r.answer o)) (sym y)
        (subst (λ (a : Reply). BackedIn b (leaves Propose proposal a.answer o)) (sym x) h)

    pub says-backed : (q : Request) → c.request ≡ q → SaysOf q b c r b' → BackedIn b' (leaves q proposal r.answer o)
    says-backed Load k = other-backed Load k tt
    says-backed (Change i w) k = other-backed (Change i w) k tt
    says-backed (Add f s w) k = other-backed (Add f s w) k tt
    says-backed Propose k = proposal-backed
    says-backed (Share i) k = other-backed (Share i) k tt
    says-backed (Depot d) k = other-backed (Depot d) k tt
    says-backed (Difference a d) k = other-backed (Difference a d) k tt
    says-backed Written k = other-backed Written k tt
    says-backed (AtLeast m) k = other-backed (AtLeast m) k tt
    says-backed ListWritten k = other-backed ListWritten k tt

-- so it is laid out by that proposal, and true of the list
module _ (l : Listing) where
  pub backed-from : (o : Option Proposal) (m : Option Plan) → Backed l o m → m ≡ plan_from (length l.sites) o
  backed-from none none h = refl
  backed-from none (some q) h = absurd h
  backed-from (some p) none h = absurd h
  backed-from (some p) (some q) h = ap some (sym (laid-plan p.edition l q p.bytes h.layout))

  pub backed-true : (o : Option Proposal) (m : Option Plan) (p : Proposal) → Backed l o m → o ≡ some p → True p.edition l (proposed_plan (length l.sites) p) p.bytes
  backed-true none m p h k = absurd (none-ne-some p k)
  backed-true (some x) none p h k = absurd h
  backed-true (some x) (some q) p h k =
      subst (λ (p : Proposal). True p.edition l (proposed_plan (length l.sites) p) p.bytes) (some-injective x p k)
      (subst (λ (q : Plan). True x.edition l q x.bytes) (sym (laid-plan x.edition l q x.bytes h.layout)) h)

-- no plan is held exactly if there is no such proposal
pub none_from : (n : ℕ) (q : Plan) (x : Bool) (o : Option Proposal) → cond x (some q) none ≡ plan_from n o → (x ≡ false) ↔ (o ≡ none)
none_from n q false none h = (λ k. refl, λ k. refl)
none_from n q false (some p) h = absurd (none-ne-some (proposed_plan n p) h)
none_from n q true none h = absurd (none-ne-some q (sym h))
none_from n q true (some p) h = (λ k. absurd (true≢false k), λ k. absurd (none-ne-some p (sym k)))
