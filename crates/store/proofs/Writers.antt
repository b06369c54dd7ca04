-- Every writer answers the length it wrote, at any state: where a call answers a length, it is the one for the plan or the one for the list written out, which stands at the front of
-- its buffer; that holds so many bytes, and those behind are unchanged. Assumes nothing.
use mathlib.Core.Path.{◌≡◌, refl, ap, ◌∙◌}
use mathlib.Core.Bool.{Bool, true, false, cond, ◌&&◌}
use mathlib.Core.List.{List}
use mathlib.Core.Option.{Option, none, some, none-ne-some, some-ne-none, some-injective}
use Prim.Native.Nat.{ℕ, ◌≤◌}
use native.Mathlib.Omega.{arith}
use borrow.Author.Tests.{ltb-false}
use lib.ListN.{length}
use Rattle.density.specs.Rows.{first_row}
use Rattle.records.specs.Values.{Plan}
use Rattle.records.specs.Write.{plan_bytes, is_short}
use Rattle.store.specs.declared.Request.{Request}
use Rattle.store.specs.declared.Request.TheVariants.{Load, Change, Add, Propose, Share, Depot, Difference, Written, AtLeast, ListWritten}
use Rattle.store.specs.Calls.{Call, Reply, same, put_out, refused, wrote}
use Rattle.store.specs.Model.{missing, held, rows_of}
use Rattle.held_state.specs.Held.{State, plan_held, corrupt}
use Rattle.store.specs.State.{Done, model_of, tries_zero, row_for, plan_out, list_out, Output, stays, effect_of, settle, step}
use Rattle.store.specs.Trace.{Steps}
use Rattle.store.proofs.Steps.{row-zero-off}

-- where no row refuses, the last does not
plan-short : (z h : Bool) (p : Plan) (f : Plan → Bool)
    → cond {A = Option ℕ} z (some 0) (cond (missing (cond h (some p) none)) (some 17) (cond (f (held (cond h (some p) none))) (some 20) none)) ≡ none → f p ≡ false
plan-short true h p f e = absurd (some-ne-none 0 e)
plan-short false false p f e = absurd (some-ne-none 17 e)
plan-short false true p f e = by (f p) e
  where
    by : (b : Bool) → cond {A = Option ℕ} b (some 20) none ≡ none → b ≡ false
    by true e = absurd (some-ne-none 20 e)
    by false e = refl

list-short : (z b : Bool) → cond {A = Option ℕ} z (some 0) (cond b (some 20) none) ≡ none → b ≡ false
list-short true b e = absurd (some-ne-none 0 e)
list-short false true e = absurd (some-ne-none 20 e)
list-short false false e = refl

module _ (s : State) (c : Call) (n : ℕ) where
  -- these bytes are put out, n of them, and the buffer holds them
  abbrev Filled : Reply → List ℕ → Type 0
  Filled r out = (r ≡ put_out c out) × (n ≡ length out) × (n ≤ length c.buffer)

  written-by : (out : List ℕ) (o : Option ℕ) → (o ≡ none → is_short c.buffer out ≡ false) → (settle o s c (stays s (put_out c out))).reply.answer ≡ wrote n
      → Filled (settle o s c (stays s (put_out c out))).reply out
  written-by out (some k) f e = let z : ◌≡◌ {A = ℕ} 0 1 = cc in absurd (omega arith)
  written-by out none f e =
      let l : n ≡ length out = cc in
      (refl, l, omega (arith, ltb-false (length c.buffer) (length out) (f refl), l))

  -- the step for a request
  abbrev row_of : Request → Option ℕ
  row_of q = cond (tries_zero q && corrupt s) (some 0) (row_for (model_of s) c q)

  abbrev step_of : Request → Done
  step_of q = settle (row_of q) s c (effect_of s c q)

  abbrev Puts : Request → Type 0
  Puts q = (step_of q).reply.answer ≡ wrote n → (out : List ℕ) × Output s q out × Filled (step_of q).reply out

  -- every other call answers no length
  no_length : (q : Request) → ((effect_of s c q).reply.answer ≡ wrote n → ⊥) → Puts q
  no_length q f e = absurd (by (row_of q) e)
    where
      by : (o : Option ℕ) → (settle o s c (effect_of s c q)).reply.answer ≡ wrote n → ⊥
      by (some k) e = let z : ◌≡◌ {A = ℕ} 0 1 = cc in omega arith
      by none e = f e

  by-request : (q : Request) → Puts q
  unfolding first_row
  by-request Load = no_length Load (λ e. let z : ◌≡◌ {A = ℕ} 0 1 = cc in omega arith)
  by-request (Change i w) = no_length (Change i w) (λ e. let z : ◌≡◌ {A = ℕ} 0 1 = cc in omega arith)
  by-request (Add f d w) = no_length (Add f d w) (λ e. let z : ◌≡◌ {A = ℕ} 0 1 = cc in omega arith)
  by-request Propose = no_length Propose (λ e. let z : ◌≡◌ {A = ℕ} 0 1 = cc in omega arith)
  by-request (Share i) = no_length (Share i) (λ e. let z : ◌≡◌ {A = ℕ} 0 1 = cc in omega arith)
  by-request (Depot d) = no_length (Depot d) (λ e. let z : ◌≡◌ {A = ℕ} 0 1 = cc in omega arith)
  by-request (Difference a d) = no_length (Difference a d) (λ e. let z : ◌≡◌ {A = ℕ} 0 1 = cc in omega arith)
  by-request Written = λ e. (
    plan_out s,
    refl,
    written-by (plan_out s) (row_of Written) (plan-short (corrupt s) s.store.held (plan_held s) (λ (p : Plan). is_short c.buffer (plan_bytes s.edition p))) e,
  )
  by-request (AtLeast m) = no_length (AtLeast m) (λ e. let z : ◌≡◌ {A = ℕ} 0 1 = cc in omega arith)
  by-request ListWritten = λ e. (list_out s, refl, written-by (list_out s) (row_of ListWritten) (list-short (corrupt s) (is_short c.buffer (list_out s))) e)

  -- Document 02, b: "every writer answers the length it wrote".
  pub every-writer : (step s c).reply.answer ≡ wrote n
      → (out : List ℕ) × Output s c.request out × ((step s c).reply ≡ put_out c out) × (n ≡ length out) × (n ≤ length c.buffer)
  every-writer e = let (out, is-output, filled) = by-request c.request e in (out, is-output, filled.0, filled.1, filled.2)

-- ---- what they reply at a state that is not corrupt: row 20, or what they put out

module _ (s : State) (h : corrupt s ≡ false) where
  out-by : (c : Call) (bytes : List ℕ) (t : Bool)
      → settle (cond t (some 20) none) s c (stays s (put_out c bytes)) ≡ stays s (cond t (same c (refused 20)) (put_out c bytes))
  out-by c bytes true = refl
  out-by c bytes false = refl

  abbrev out_of : Call → List ℕ → Reply
  out_of c bytes = cond (is_short c.buffer bytes) (same c (refused 20)) (put_out c bytes)

  -- the step of a call whose request is known
  abbrev step_by : Call → Request → Done
  step_by c q = settle (first_row (rows_of (model_of s) c q)) s c (effect_of s c q)

  step_by_lem : (c : Call) (r : Reply) (s' : State) (q : Request) → c.request ≡ q → Steps s c r s' → record { after = s'; reply = r } ≡ step_by c q
  step_by_lem c r s' q k x = x ∙ ap (λ (o : Option ℕ). settle o s c (effect_of s c c.request)) (row-zero-off s c h) ∙ ap (step_by c) k

  plan-by : (c : Call) (x : Bool) (p q : Plan) → cond x (some p) none ≡ some q
      → settle (cond (missing (cond x (some p) none)) (some 17) (cond (is_short c.buffer (plan_bytes s.edition (held (cond x (some p) none)))) (some 20) none)) s c
      (stays s (put_out c (plan_bytes s.edition p)))
      ≡ stays s (out_of c (plan_bytes s.edition q))
  plan-by c false p q e = absurd (none-ne-some q e)
  plan-by c true p q e =
      out-by c (plan_bytes s.edition p) (is_short c.buffer (plan_bytes s.edition p))
      ∙ ap (λ (q : Plan). stays s (out_of c (plan_bytes s.edition q))) (some-injective p q e)

  pub plan-replies : (c : Call) (r : Reply) (s' : State) (q : Plan) → (model_of s).plan ≡ some q → c.request ≡ Written → Steps s c r s'
      → (s' ≡ s) × (r ≡ out_of c (plan_bytes s.edition q))
  unfolding first_row
  plan-replies c r s' q e k x =
      let d = step_by_lem c r s' Written k x ∙ plan-by c s.store.held (plan_held s) q e in
      (ap (λ (d : Done). d.after) d, ap (λ (d : Done). d.reply) d)

  pub list-replies : (c : Call) (r : Reply) (s' : State) → c.request ≡ ListWritten → Steps s c r s' → (s' ≡ s) × (r ≡ out_of c (list_out s))
  unfolding first_row
  list-replies c r s' k x =
      let d = step_by_lem c r s' ListWritten k x ∙ out-by c (list_out s) (is_short c.buffer (list_out s)) in
      (ap (λ (d : Done). d.after) d, ap (λ (d : Done). d.reply) d)
