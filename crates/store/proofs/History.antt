-- Demand 3: whatever calls a fresh store gets, and wherever it goes over to edition 2, it answers as the model does, and holds what the model holds. Assumes nothing.
use mathlib.Core.Path.{◌≡◌, refl, sym, ap, ap₂, ◌∙◌, subst}
use mathlib.Core.Logic.{◌↔◌, inl, inr}
use mathlib.Core.Bool.{Bool, true, false, not, cond, ◌||◌, true≢false}
use mathlib.Core.List.{List, [], ◌∷◌, ◌++◌, map}
use mathlib.Core.Option.{Option, none, some, none-ne-some}
use Prim.Native.Nat.{ℕ, ◌*◌}
use native.Mathlib.Omega.{arith}
use lib.Dec.{T, leb}
use lib.IntN.{ℤ}
use lib.ListN.{get_or, replicate, length-replicate}
use Rattle.sets.specs.Set.{◌⊆◌, has, set_of}
use Rattle.sets.proofs.Test.{is_true}
use Rattle.density.specs.declared.Site.{Site}
use Rattle.density.specs.Network.{Listing, Network, network, no_site, size}
use Rattle.density.specs.Groups.{Decomposition, groups_of}
use Rattle.density.specs.Plan.{place, group_litres, group_size, whole}
use Rattle.density.specs.Rows.{first_row}
use Rattle.density.specs.Figures.{depot_litres, depot_size, site_whole, difference, divisor, difference_of, at_least, at_least_by}
use Rattle.density.specs.Isolated.{isolated, IsolatedLast}
use Rattle.density.proofs.Existence.{computed}
use Rattle.density.proofs.Isolated.{isolated-listed, isolated-last}
use Rattle.density.proofs.Figures.{depot-litres, depot-size, site-whole}
use Rattle.density.proofs.AtLeast.{by-is, every-is, at-least-zero, at-least-fewer}
use Rattle.records.specs.declared.Edition.{Edition}
use Rattle.records.specs.Values.{Plan}
use Rattle.records.specs.Format.{edition1, edition2}
use Rattle.records.specs.Write.{plan_bytes, is_short, All, Marked}
use Rattle.records.proofs.Samples.{marked1, marked2}
use Rattle.store.specs.declared.Request.{Request}
use Rattle.store.specs.declared.Request.TheVariants.{Load, Change, Add, Propose, Share, Depot, Difference, Written, AtLeast, ListWritten}
use Rattle.store.specs.Calls.{Call, Event, called, Reply, Told, same, put_out, refused, done, shared, loaded, differ, wrote, reached}
use Rattle.judge.specs.Check.{True}
use Rattle.store.specs.Model.{Model, empty_model, missing, held, count, unlisted, rows_of, model_rows, Turn, Turns, Proposes, SaysOf, Says, Possible, Follows, grant_of, settled, turned}
use Rattle.held_state.specs.Held.{State, plan_held, list_of, corrupt}
use Rattle.store.specs.State.{Done, model_of, fresh, effect_of, settle, step, step_on}
use Rattle.store.specs.Trace.{Run, start, then, Steps, Goes, History, Modelled, AllPossible, InBytes, AllBytes, Proposal, MadeIn, Traced, traced, begun, trace, proposed_plan, plan_from, written_as, Question, Exact, SameFigures}
use Rattle.store.proofs.Rules.{granted-not-refused}
use Rattle.store.proofs.Steps.{Holds, holds-valid, holds-litres, Fed, fresh_holds, row-zero-off, kept}
use Rattle.store.proofs.LastPassed.{backed-from, backed-true, none_from}
use Rattle.store.proofs.Migrate.{Agrees, goes_on_lem, gone-on, migration-or-row-2, each-held, none-held}
use Rattle.store.proofs.SameAnswers.{same-through}
use Rattle.store.proofs.Writers.{plan-replies, list-replies}
use Rattle.store.proofs.OneModel.{one-run, one-model, one_follows}

-- ---- a run of steps is a run of the model

-- t is what the events and replies before tell
record Reached (s : State) (t : Traced) (events : List Event) (replies : List Reply) (s' : State) : Type 0 where
  model : Run Follows (model_of s) events replies (model_of s')
  holds : Holds s'
  marked : Marked s'.edition
  agrees : Agrees (traced t events replies) s'
  never-zero : All (λ (r : Reply). r.answer ≡ refused 0 → ⊥) replies

run-reached : {s s' : State} {events : List Event} {replies : List Reply} → Run Goes s events replies s' → Marked s.edition → Holds s → AllBytes events
    → (t : Traced) → Agrees t s → Reached s t events replies s'
unfolding AllBytes traced
run-reached start m h b t a = record { model = start; holds = h; marked = m; agrees = a; never-zero = tt }
run-reached (then {s = s} {s₁ = s₁} {v = v} {r = r} x xs) m h b t a =
    let k = gone-on s m h v r s₁ b.0 x in
    let rest = run-reached xs k.marked k.holds b.1 _ (k.agrees t a) in
    record {
      model = then k.follows rest.model;
      holds = rest.holds;
      marked = rest.marked;
      agrees = rest.agrees;
      never-zero = (k.not-zero, rest.never-zero);
    }

fresh-agrees : (e : Edition) (table : List Site) → Agrees (begun e table) (fresh e table)
fresh-agrees e table = record { edition = refl; places = refl; backed = tt; own = λ p k. absurd (none-ne-some p k); roll = refl }

-- ---- a question

module _ (s : State) (c : Call) (q : Request) (p : Plan) (k : ℕ) (other : k ≡ 17 → ⊥) where
  seventeen : (y x : Bool)
      → ((settle (cond (missing (cond x (some p) none)) (some 17) (cond y (some k) none)) s c (effect_of s c q)).reply.answer ≡ refused 17) ↔ (x ≡ false)
  seventeen y false = (λ e. refl, λ e. refl)
  seventeen true true = (λ e. absurd (other (cc)), λ e. absurd (true≢false e))
  seventeen false true = (λ e. absurd (granted-not-refused s c q 17 e), λ e. absurd (true≢false e))

module _ (s : State) (c : Call) where
  wants : (q : Request) → Question q
      → ((settle (first_row (rows_of (model_of s) c q)) s c (effect_of s c q)).reply.answer ≡ refused 17) ↔ (s.store.held ≡ false)
  unfolding first_row
  wants Load h = absurd h
  wants (Change i w) h = absurd h
  wants (Add f x w) h = absurd h
  wants Propose h = absurd h
  wants (Share i) h = seventeen s c (Share i) (plan_held s) 18 (λ e. omega arith) (leb (count (model_of s)) i) s.store.held
  wants (Depot d) h = seventeen s c (Depot d) (plan_held s) 19 (λ e. omega arith) (unlisted (model_of s) d) s.store.held
  wants (Difference a d) h =
      seventeen s c (Difference a d) (plan_held s) 19 (λ e. omega arith) (unlisted (model_of s) a || unlisted (model_of s) d) s.store.held
  wants Written h =
      seventeen s c Written (plan_held s) 20 (λ e. omega arith)
      (is_short c.buffer (plan_bytes s.edition (held (model_of s).plan))) s.store.held
  wants (AtLeast m) h = seventeen s c (AtLeast m) (plan_held s) 18 (λ e. omega arith) false s.store.held
  wants ListWritten h = absurd h

  question : corrupt s ≡ false → (r : Reply) (s' : State) → Question c.request → Steps s c r s' → (r.answer ≡ refused 17) ↔ (s.store.held ≡ false)
  question h r s' q x =
      let e : r.answer ≡ (settle (first_row (model_rows (model_of s) c)) s c (effect_of s c c.request)).reply.answer =
      ap (λ (d : Done). d.reply.answer) x
      ∙ ap (λ (o : Option ℕ). (settle o s c (effect_of s c c.request)).reply.answer) (row-zero-off s c h) in
      let w = wants c.request q in
      (λ a. w.0 (sym e ∙ a), λ a. e ∙ w.1 a)

-- every answer but a refusal
abbrev Answered : Told → Type 0
Answered (refused n) = ⊥
Answered done = Unit {0}
Answered (shared s w) = Unit {0}
Answered (loaded w q) = Unit {0}
Answered (differ d q) = Unit {0}
Answered (wrote n) = Unit {0}
Answered (reached x) = Unit {0}

-- where a question is answered, a proposal has passed
some-passed : {a b : Told} (o : Option Proposal) → (a ≡ refused 17) ↔ (o ≡ none) → a ≡ b → Answered b → (p : Proposal) × (o ≡ some p)
some-passed none w e g = absurd (subst Answered (sym e ∙ w.1 refl) g)
some-passed (some p) w e g = (p, refl)

-- ---- the answers of the model

module _ (b : Model) (c : Call) (r : Reply) (b' : Model) where
  -- the model's answer to a call whose request is known
  abbrev answer_to : Request → Option ℕ → Told
  answer_to q o = (settled o b c (grant_of b c q)).reply.answer

  answer-to : (q : Request) → c.request ≡ q → Turns b c r b' → r.answer ≡ answer_to q (first_row (rows_of b c q))
  answer-to q k t = ap (λ (u : Turn). u.reply.answer) (subst (λ (q : Request). turned b' r ≡ settled (first_row (rows_of b c q)) b c (grant_of b c q)) k t)

  loaded-is : (d w q : ℕ) (o : Option ℕ) → r.answer ≡ answer_to (Depot d) o → r.answer ≡ loaded w q
      → (w ≡ depot_litres (network b.list) d) × (q ≡ depot_size (network b.list) d)
  loaded-is d w q none e a = (cc, cc)
  loaded-is d w q (some n) e a = absurd (let z : ◌≡◌ {A = ℕ} 0 1 = cc in omega arith)

  shared-is : (i x w : ℕ) (o : Option ℕ) → r.answer ≡ answer_to (Share i) o → r.answer ≡ shared x w
      → (x ≡ get_or (held b.plan).shares i 0) × (w ≡ site_whole (network b.list) i)
  shared-is i x w none e a = (cc, cc)
  shared-is i x w (some n) e a = absurd (let z : ◌≡◌ {A = ℕ} 0 1 = cc in omega arith)

  differ-is : (x y : ℕ) (z : ℤ) (q : ℕ) (o : Option ℕ) → r.answer ≡ answer_to (Difference x y) o → r.answer ≡ differ z q
      → (z ≡ difference (network b.list) x y) × (q ≡ divisor (network b.list) x y)
  differ-is x y z q none e a = (cc, cc)
  differ-is x y z q (some n) e a = absurd (let z : ◌≡◌ {A = ℕ} 0 1 = cc in omega arith)

  -- with a plan no row refuses a threshold
  reached-is : (m : ℕ) {p : Plan} → b.plan ≡ some p → r.answer ≡ answer_to (AtLeast m) (first_row (rows_of b c (AtLeast m)))
      → r.answer ≡ reached (set_of (at_least (network b.list) m) 64)
  unfolding first_row
  reached-is m k e = e ∙ ap (λ (o : Option Plan). answer_to (AtLeast m) (cond (missing o) (some 17) none)) k

  -- with a plan no row refuses a question about a listed depot
  loaded_at : (d : ℕ) {p : Plan} → b.plan ≡ some p → T ((network b.list).listed d) → r.answer ≡ answer_to (Depot d) (first_row (rows_of b c (Depot d)))
      → r.answer ≡ loaded (depot_litres (network b.list) d) (depot_size (network b.list) d)
  unfolding first_row
  loaded_at d k t e =
      e
      ∙ ap (λ (o : Option Plan). answer_to (Depot d) (cond (missing o) (some 17) (cond (unlisted b d) (some 19) none))) k
      ∙ ap (λ (l : Bool). answer_to (Depot d) (cond (not l) (some 19) none)) (is_true ((network b.list).listed d) t)

  proposed : Proposes b c r b' → (r.answer ≡ done) ↔ ((p : Plan) × True b.edition b.list p c.input)
  proposed (inl (p, t, x, y)) = (λ e. (p, t), λ e. ap (λ (r : Reply). r.answer) x)
  proposed (inr (never, n, e, x, y)) =
      (λ a. absurd (let k : r.answer ≡ refused n = ap (λ (r : Reply). r.answer) x in let z : ◌≡◌ {A = ℕ} 0 1 = cc in omega arith), λ (p, t). absurd (never p t))

-- ---- Demand 3

-- the figures of two depots by a decomposition and by the function
module _ (s : State) (h : Holds s) (gs : List ℕ) (dec : Decomposition (network (list_of s)) gs) where
  abbrev N : Network
  N = network (list_of s)

  difference-is : (a d : ℕ)
      → (difference N a d
      ≡ difference_of (group_litres N gs (place gs a)) (group_size N gs (place gs a)) (group_litres N gs (place gs d)) (group_size N gs (place gs d)))
      × (divisor N a d ≡ group_size N gs (place gs a) * group_size N gs (place gs d))
  unfolding difference divisor
  difference-is a d =
      let ok = holds-valid s h in
      let W = depot-litres N ok gs dec in
      let Q = depot-size N ok gs dec in
      (rw (W a, W d, Q a, Q d) refl, rw (Q a, Q d) refl)

module _ {e : Edition} (m : Marked e) {table : List Site} {events : List Event} {replies : List Reply} {s : State} (h : History e table events replies s)
    (bytes : AllBytes events) where
  final : Reached (fresh e table) (begun e table) events replies s
  final = run-reached h m (fresh_holds e table) bytes (begun e table) (fresh-agrees e table)

  abbrev b : Model
  b = model_of s

  said : (c : Call) (r : Reply) (s' : State) → Fed c.request c.input → Steps s c r s' → Says b c r (model_of s')
  said c r s' f x = (kept s c final.marked final.holds f r s' x).says

  -- what the model says to a call whose request is known
  says-to : (c : Call) (r : Reply) (s' : State) (q : Request) → c.request ≡ q → Fed q c.input → Steps s c r s' → SaysOf q b c r (model_of s')
  says-to c r s' q k f x = subst (λ (q : Request). SaysOf q b c r (model_of s')) k (said c r s' (subst (λ (q : Request). Fed q c.input) (sym k) f) x)

  -- the figures answered are those of the list held
  depot-says : (c : Call) (d : ℕ) (r : Reply) (s' : State) (w q : ℕ) → c.request ≡ Depot d → Steps s c r s' → r.answer ≡ loaded w q
      → (w ≡ depot_litres (network b.list) d) × (q ≡ depot_size (network b.list) d)
  depot-says c d r s' w q k x a =
      loaded-is b c r (model_of s') d w q (first_row (rows_of b c (Depot d))) (answer-to b c r (model_of s') (Depot d) k (says-to c r s' (Depot d) k tt x)) a

  site-says : (c : Call) (i : ℕ) (r : Reply) (s' : State) (y w : ℕ) → c.request ≡ Share i → Steps s c r s' → r.answer ≡ shared y w
      → (y ≡ get_or (held b.plan).shares i 0) × (w ≡ site_whole (network b.list) i)
  site-says c i r s' y w k x a =
      shared-is b c r (model_of s') i y w (first_row (rows_of b c (Share i))) (answer-to b c r (model_of s') (Share i) k (says-to c r s' (Share i) k tt x)) a

  difference-says : (c : Call) (y d : ℕ) (r : Reply) (s' : State) (z : ℤ) (q : ℕ) → c.request ≡ Difference y d → Steps s c r s'
      → r.answer ≡ differ z q → (z ≡ difference (network b.list) y d) × (q ≡ divisor (network b.list) y d)
  difference-says c y d r s' z q k x a =
      differ-is b c r (model_of s') y d z q (first_row (rows_of b c (Difference y d)))
      (answer-to b c r (model_of s') (Difference y d) k (says-to c r s' (Difference y d) k tt x)) a

  -- the depots without sites, where every site has litres
  isolated-held : (gs : List ℕ) → Decomposition (network b.list) gs → IsolatedLast (network b.list) gs
  isolated-held gs dec = isolated-last (network b.list) (holds-valid s final.holds) gs dec (holds-litres s final.holds)

  -- the plan held is that of the proposal that passed last
  abbrev last : Option Proposal
  last = (trace e table events replies).proposal

  plan-held : b.plan ≡ plan_from (count b) last
  plan-held = backed-from b.list last b.plan final.agrees.backed

  plan-true : (p : Proposal) → last ≡ some p → True p.edition b.list (proposed_plan (count b) p) p.bytes
  plan-true p l = backed-true b.list last b.plan p final.agrees.backed l

  wanting : (c : Call) (r : Reply) (s' : State) → Question c.request → Steps s c r s' → (r.answer ≡ refused 17) ↔ (last ≡ none)
  wanting c r s' q x =
      let w = question s c final.holds.intact r s' q x in
      let f = none_from (count b) (plan_held s) s.store.held last plan-held in
      (λ a. f.0 (w.0 a), λ a. w.1 (f.1 a))

  -- so where a question is answered there is one
  held-last : (c : Call) (r : Reply) (s' : State) (q : Request) → c.request ≡ q → Question q → Steps s c r s' → {a : Told} → r.answer ≡ a → Answered a
      → (p : Proposal) × (last ≡ some p) × (b.plan ≡ some (proposed_plan (count b) p))
  held-last c r s' q k h x a g =
      let (p, l) = some-passed last (wanting c r s' (subst Question (sym k) h) x) a g in
      (p, l, plan-held ∙ ap (plan_from (count b)) l)

  site-read : (c : Call) (i : ℕ) (r : Reply) (s' : State) (y w : ℕ) → c.request ≡ Share i → Steps s c r s' → r.answer ≡ shared y w
      → (p : Proposal) × (last ≡ some p) × (y ≡ get_or (proposed_plan (count b) p).shares i 0)
  site-read c i r s' y w k x a =
      let (p, l, q) = held-last c r s' (Share i) k tt x a tt in
      (p, l, (site-says c i r s' y w k x a).0 ∙ ap (λ (m : Option Plan). get_or (held m).shares i 0) q)

  -- with a plan the depots that reach a threshold are answered, by the definition on the list alone
  reached-says : (c : Call) (n : ℕ) (r : Reply) (s' : State) (p : Proposal) → c.request ≡ AtLeast n → Steps s c r s' → last ≡ some p
      → r.answer ≡ reached (set_of (at_least (network b.list) n) 64)
  reached-says c n r s' p k x l =
      reached-is b c r (model_of s') n (plan-held ∙ ap (plan_from (count b)) l) (answer-to b c r (model_of s') (AtLeast n) k (says-to c r s' (AtLeast n) k tt x))

  reached-so : (c : Call) (n : ℕ) (r : Reply) (s' : State) (y : ℕ) → c.request ≡ AtLeast n → Steps s c r s' → r.answer ≡ reached y
      → y ≡ set_of (at_least (network b.list) n) 64
  reached-so c n r s' y k x a =
      let (p, l, q) = held-last c r s' (AtLeast n) k tt x a tt in
      let z = reached-says c n r s' p k x l in
      cc

  isolated-says : (c : Call) (d : ℕ) (r : Reply) (s' : State) (p : Proposal) → c.request ≡ Depot d → Steps s c r s' → last ≡ some p
      → T (isolated (network b.list) d) → r.answer ≡ loaded 0 (size (network b.list) (isolated (network b.list)))
  unfolding depot_litres depot_size
  isolated-says c d r s' p k x l t =
      let N = network b.list in
      let ok = holds-valid s final.holds in
      let last = isolated-held (groups_of N) (computed N ok) in
      let e = loaded_at b c r (model_of s') d (plan-held ∙ ap (plan_from (count b)) l) (isolated-listed N d t) (answer-to b c r (model_of s') (Depot d) k (says-to c r s' (Depot d) k tt x)) in
      e ∙ ap₂ loaded (last.litres d t) (last.sizes d t)

  -- "the book's plan stands at the front of the buffer byte for byte"
  plan-out : (c : Call) (r : Reply) (s' : State) (p : Proposal) → c.request ≡ Written → Steps s c r s' → last ≡ some p
      → (s' ≡ s)
      × (r ≡ cond (is_short c.buffer (written_as s p)) (same c (refused 20)) (put_out c (written_as s p)))
      × (p.edition ≡ s.edition → written_as s p ≡ p.bytes)
  plan-out c r s' p k x l =
      let out = plan-replies s final.holds.intact c r s' (proposed_plan (count b) p) (plan-held ∙ ap (plan_from (count b)) l) k x in
      (out.0, out.1, λ e. ap (λ (e : Edition). plan_bytes e (proposed_plan (count b) p)) (sym e) ∙ sym (plan-true p l).layout.bytes-are)

  -- Demand 3: every history is as the model has it.
  pub exact : Exact e table events replies s
  exact =
      record {
        model = final.model;
        only = λ rs b' run. one-model run final.model;
        never-zero = final.never-zero;
        tidy = final.holds.tidy;
        edition = final.agrees.edition;
        sized = final.agrees.places;
        roll = final.agrees.roll;
        unrolled = none-held s final.holds;
        plan-held = plan-held;
        plan-true = plan-true;
        made_in = λ p l. subst (MadeIn p) (sym final.agrees.edition) (final.agrees.own p l);
        wanting = wanting;
        gate = λ c r s' k f x. proposed b c r (model_of s') (says-to c r s' Propose k f x);
        depot-figures = λ c d r s' w q k x a gs dec.
            let ok = holds-valid s final.holds in
            let f = depot-says c d r s' w q k x a in
            (f.0 ∙ sym (depot-litres (network b.list) ok gs dec d), f.1 ∙ sym (depot-size (network b.list) ok gs dec d));
        site-figures = λ c i r s' y w k x a gs dec.
            let (p, l, y-is) = site-read c i r s' y w k x a in
            (p, l, y-is, (site-says c i r s' y w k x a).1 ∙ sym (site-whole (network b.list) (holds-valid s final.holds) gs dec i));
        differences = λ c y d r s' z q k x a gs dec.
            let f = difference-says c y d r s' z q k x a in
            let g = difference-is s final.holds gs dec y d in
            (f.0 ∙ g.0, f.1 ∙ g.1);
        written_out = plan-out;
        at-least = λ c n r s' p k x l gs dec.
            reached-says c n r s' p k x l ∙ ap reached (sym (by-is (network b.list) (holds-valid s final.holds) gs dec n));
        every-group = λ c n r s' p k x l.
            reached-says c n r s' p k x l ∙ ap reached (sym (every-is (network b.list) (holds-valid s final.holds) _ (plan-true p l).groups n));
        zero-gives-all = λ c r s' p k x l. reached-says c 0 r s' p k x l ∙ ap reached (at-least-zero (network b.list));
        higher-gives-fewer = λ c c' n n' r r' s₁ s₂ y y' k k' x x' a a' l.
            subst (λ (z : ℕ). has y' ⊆ has z) (sym (reached-so c n r s₁ y k x a))
            (subst (λ (z : ℕ). has z ⊆ has (set_of (at_least (network b.list) n) 64)) (sym (reached-so c' n' r' s₂ y' k' x' a'))
            (at-least-fewer (network b.list) n n' l));
        list-written-out = λ c r s' k x. list-replies s final.holds.intact c r s' k x;
        migration = migration-or-row-2 s final.holds.intact (each-held s final.holds) (none-held s final.holds);
        same-answers = same-through s final.holds.intact (each-held s final.holds) (none-held s final.holds);
        isolated-last = isolated-held;
        isolated-figures = isolated-says;
      }

-- the store's edition has marks of two bytes, as the one it began with
pub history-marked : {e : Edition} → Marked e → {table : List Site} {events : List Event} {replies : List Reply} {s : State} → History e table events replies s → AllBytes events
    → Marked s.edition
history-marked m h bytes = (final m h bytes).marked

-- and it holds what it should
pub history-holds : {e : Edition} → Marked e → {table : List Site} {events : List Event} {replies : List Reply} {s : State} → History e table events replies s → AllBytes events → Holds s
history-holds m h bytes = (final m h bytes).holds

-- Every list of events that are possible where they come has a history.
pub runs : (s : State) (events : List Event) → AllPossible s events → (replies : List Reply) × (s' : State) × Run Goes s events replies s'
unfolding AllPossible
runs s [] p = ([], s, start)
runs s (v ∷ vs) p = let (rs, s', run) = runs (step_on s v).after vs p.1 in ((step_on s v).reply ∷ rs, s', then (p.0, refl) run)

-- Calls are possible everywhere.
pub calls-possible : (s : State) (cs : List Call) → AllPossible s (map called cs)
unfolding AllPossible
calls-possible s [] = tt
calls-possible s (c ∷ cs) = (tt, calls-possible (step s c).after cs)

pub history : (e : Edition) → Marked e → (table : List Site) (events : List Event) → AllPossible (fresh e table) events → AllBytes events
    → (replies : List Reply) × (s : State) × History e table events replies s × Exact e table events replies s
history e m table events p bytes = let (rs, s, run) = runs (fresh e table) events p in (rs, s, run, exact m run bytes)

-- What the model goes through, the store goes through.
pub followed : {b b' : Model} {events : List Event} {rs : List Reply} → Run Follows b events rs b' → (s : State) → b ≡ model_of s → Marked s.edition → Holds s → AllBytes events
    → (s' : State) × Run Goes s events rs s' × (b' ≡ model_of s') × Marked s'.edition × Holds s'
unfolding AllBytes
followed start s e m h bytes = (s, start, e, m, h)
followed (then {s₁ = b₁} {v = v} {r = r} x xs) s e m h bytes =
    let y : Follows (model_of s) v r b₁ = subst (λ (b : Model). Follows b v r b₁) e x in
    let d = step_on s v in
    let k = goes_on_lem s m h v y.0 bytes.0 in
    let one = one_follows (model_of s) v r d.reply b₁ (model_of d.after) y k.follows in
    let (s', run, f, marked, holds) = followed xs d.after one.1 k.marked k.holds bytes.1 in
    (s', then (y.0, ap (λ (r : Reply). record { after = d.after; reply = r }) one.0) run, f, marked, holds)

-- The model has exactly one reply to an event that is possible, after any events.
pub one-reply : {e : Edition} → Marked e → {places : ℕ} {events : List Event} {replies : List Reply} {b : Model} → Modelled e places events replies b
    → AllBytes events → (v : Event) → Possible b.edition v → InBytes v
    → (r : Reply) × (b' : Model) × Follows b v r b' × ((r₂ : Reply) (b₂ : Model) → Follows b v r₂ b₂ → (r₂ ≡ r) × (b₂ ≡ b'))
one-reply {e} m {places} {events} {replies} {b} run bytes v p f =
    let table = replicate places no_site in
    let (s, h, same, marked, holds) =
    followed run (fresh e table) (ap (λ (n : ℕ). empty_model e n) (sym (length-replicate places no_site))) m (fresh_holds e table) bytes in
    let d = step_on s v in
    let k = goes_on_lem s marked holds v (subst (λ (b : Model). Possible b.edition v) same p) f in
    let follows : Follows b v d.reply (model_of d.after) = subst (λ (b : Model). Follows b v d.reply (model_of d.after)) (sym same) k.follows in
    (d.reply, model_of d.after, follows, λ r₂ b₂ y. one_follows b v r₂ d.reply b₂ (model_of d.after) y follows)

-- Demand 3 at edition 1: nothing is asked but that inputs are bytes, and that the store goes over to edition 2 only where it is of edition 1.
pub history1 : (table : List Site) (events : List Event) → AllPossible (fresh edition1 table) events → AllBytes events
    → (replies : List Reply) × (s : State) × History edition1 table events replies s × Exact edition1 table events replies s
history1 = history edition1 marked1

-- and at edition 2
pub history2 : (table : List Site) (events : List Event) → AllPossible (fresh edition2 table) events → AllBytes events
    → (replies : List Reply) × (s : State) × History edition2 table events replies s × Exact edition2 table events replies s
history2 = history edition2 marked2

-- It has one only.
pub one-history : {e : Edition} {table : List Site} {events : List Event} {rs rs' : List Reply} {s s' : State}
    → History e table events rs s → History e table events rs' s' → (rs ≡ rs') × (s ≡ s')
one-history = one-run Goes (λ s v r r' s₁ s₂ x y. let e = x.1 ∙ sym y.1 in (ap (λ (d : Done). d.reply) e, ap (λ (d : Done). d.after) e))

-- Any event may follow it that is possible.
extended : {s s' : State} {events : List Event} {rs : List Reply} → Run Goes s events rs s' → (v : Event) → Possible s'.edition v
    → Run Goes s (events ++ (v ∷ [])) (rs ++ ((step_on s' v).reply ∷ [])) (step_on s' v).after
extended start v p = then (p, refl) start
extended (then x xs) v p = then x (extended xs v p)

pub extends : {e : Edition} {table : List Site} {events : List Event} {rs : List Reply} {s : State} → History e table events rs s → (v : Event) → Possible s.edition v
    → (r : Reply) × (s' : State) × Goes s v r s' × History e table (events ++ (v ∷ [])) (rs ++ (r ∷ [])) s'
extends {s = s} h v p = ((step_on s v).reply, (step_on s v).after, (p, refl), extended h v p)

-- Each event of a run is a step from a run: the one that the events before it are.
pub cut : {s s' : State} (us : List Event) (v : Event) (ws : List Event) {rs : List Reply} → Run Goes s (us ++ (v ∷ ws)) rs s'
    → (qs : List Reply) × (r : Reply) × (ts : List Reply) × (t : State) × (t' : State) × (rs ≡ qs ++ (r ∷ ts)) × Run Goes s us qs t × Goes t v r t' × Run Goes t' ws ts s'
cut [] v ws (then {s = s} {s₁ = s₁} {r = r} {rs = rs} x xs) = ([], r, rs, s, s₁, refl, start, x, xs)
cut (u ∷ us) v ws (then {r = q} x xs) =
    let (qs, r, ts, t, t', e, run, y, rest) = cut us v ws xs in
    (q ∷ qs, r, ts, t, t', ap (λ (l : List Reply). q ∷ l) e, then x run, y, rest)

bytes_cut : (us : List Event) (v : Event) (ws : List Event) → AllBytes (us ++ (v ∷ ws)) → AllBytes us × InBytes v
unfolding AllBytes
bytes_cut [] v ws b = (tt, b.0)
bytes_cut (u ∷ us) v ws b = let (x, y) = bytes_cut us v ws b.1 in ((b.0, x), y)

-- What is said of the events before an event, so that each field of `Exact` speaks of every call and of the step to edition 2 inside a history.
pub each-event : {e : Edition} → Marked e → {table : List Site} (us : List Event) (v : Event) (ws : List Event) {rs : List Reply} {s : State}
    → History e table (us ++ (v ∷ ws)) rs s → AllBytes (us ++ (v ∷ ws))
    → (qs : List Reply) × (r : Reply) × (ts : List Reply) × (t : State) × (t' : State) × (rs ≡ qs ++ (r ∷ ts)) × Exact e table us qs t × InBytes v × Goes t v r t' × Run Goes t' ws ts s
each-event m us v ws h bytes =
    let (qs, r, ts, t, t', e, run, x, rest) = cut us v ws h in
    let (before, here) = bytes_cut us v ws bytes in
    (qs, r, ts, t, t', e, exact m run before, here, x, rest)

-- ---- two stores that hold the same list

-- where a question is answered a plan is held, and its groups are a decomposition of the list
decomposed : {e : Edition} {table : List Site} {events : List Event} {replies : List Reply} {s : State} → Exact e table events replies s
    → (c : Call) (r : Reply) (s' : State) (q : Request) → c.request ≡ q → Question q → Steps s c r s' → {a : Told} → r.answer ≡ a → Answered a
    → (gs : List ℕ) × Decomposition (network (model_of s).list) gs
decomposed {e} {table} {events} {replies} {s} x c r s' q k h y a g =
    let (p, l) = some-passed (trace e table events replies).proposal (x.wanting c r s' (subst Question (sym k) h) y) a g in
    ((proposed_plan (count (model_of s)) p).groups, (x.plan-true p l).groups)

-- Two stores that hold the same list, of whatever histories: each W, q, w × q, difference and set of depots that both answer is the same.
pub same-figures : {e₁ e₂ : Edition} {t₁ t₂ : List Site} {vs₁ vs₂ : List Event} {rs₁ rs₂ : List Reply} {s₁ s₂ : State}
    → Exact e₁ t₁ vs₁ rs₁ s₁ → Exact e₂ t₂ vs₂ rs₂ s₂ → (model_of s₁).list ≡ (model_of s₂).list → SameFigures s₁ s₂
same-figures {s₁ = s₁} {s₂ = s₂} x y l =
    record {
      site = λ c₁ c₂ i r₁ r₂ s₁' s₂' y₁ w₁ y₂ w₂ k₁ k₂ x₁ x₂ a₁ a₂.
          let (gs, d) = decomposed x c₁ r₁ s₁' (Share i) k₁ tt x₁ a₁ tt in
          let (bytes₁, p₁, f₁, g₁) = x.site-figures c₁ i r₁ s₁' y₁ w₁ k₁ x₁ a₁ gs d in
          let (bytes₂, p₂, f₂, g₂) = y.site-figures c₂ i r₂ s₂' y₂ w₂ k₂ x₂ a₂ gs (over l gs d) in
          g₁ ∙ ap (λ l. whole (network l) gs i) l ∙ sym g₂;
      depot = λ c₁ c₂ d r₁ r₂ s₁' s₂' w₁ q₁ w₂ q₂ k₁ k₂ x₁ x₂ a₁ a₂.
          let (gs, dec) = decomposed x c₁ r₁ s₁' (Depot d) k₁ tt x₁ a₁ tt in
          let f₁ = x.depot-figures c₁ d r₁ s₁' w₁ q₁ k₁ x₁ a₁ gs dec in
          let f₂ = y.depot-figures c₂ d r₂ s₂' w₂ q₂ k₂ x₂ a₂ gs (over l gs dec) in
          (f₁.0 ∙ ap (λ l. group_litres (network l) gs (place gs d)) l ∙ sym f₂.0, f₁.1 ∙ ap (λ l. group_size (network l) gs (place gs d)) l ∙ sym f₂.1);
      differences = λ c₁ c₂ a d r₁ r₂ s₁' s₂' z₁ q₁ z₂ q₂ k₁ k₂ x₁ x₂ a₁ a₂.
          let (gs, dec) = decomposed x c₁ r₁ s₁' (Difference a d) k₁ tt x₁ a₁ tt in
          let f₁ = x.differences c₁ a d r₁ s₁' z₁ q₁ k₁ x₁ a₁ gs dec in
          let f₂ = y.differences c₂ a d r₂ s₂' z₂ q₂ k₂ x₂ a₂ gs (over l gs dec) in
          let W : Listing → ℕ → ℕ = λ l x. group_litres (network l) gs (place gs x) in
          let Q : Listing → ℕ → ℕ = λ l x. group_size (network l) gs (place gs x) in
          (f₁.0 ∙ ap (λ l. difference_of (W l a) (Q l a) (W l d) (Q l d)) l ∙ sym f₂.0, f₁.1 ∙ ap (λ l. Q l a * Q l d) l ∙ sym f₂.1);
      at-least = λ c₁ c₂ m r₁ r₂ s₁' s₂' x₁ x₂ k₁ k₂ y₁ y₂ a₁ a₂.
          let (gs, dec) = decomposed x c₁ r₁ s₁' (AtLeast m) k₁ tt y₁ a₁ tt in
          let (bytes₁, l₁) = some-passed _ (x.wanting c₁ r₁ s₁' (subst Question (sym k₁) tt) y₁) a₁ tt in
          let (bytes₂, l₂) = some-passed _ (y.wanting c₂ r₂ s₂' (subst Question (sym k₂) tt) y₂) a₂ tt in
          let f₁ = x.at-least c₁ m r₁ s₁' bytes₁ k₁ y₁ l₁ gs dec in
          let f₂ = y.at-least c₂ m r₂ s₂' bytes₂ k₂ y₂ l₂ gs (over l gs dec) in
          let z = ap (λ (l : Listing). reached (set_of (at_least_by (network l) gs m) 64)) l in
          cc;
    }
  where
    over : {l l' : Listing} → l ≡ l' → (gs : List ℕ) → Decomposition (network l) gs → Decomposition (network l') gs
    over e gs d = subst (λ (l : Listing). Decomposition (network l) gs) e d
