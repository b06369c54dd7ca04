-- Document 02, e: what is written out after the step to edition 2 is what the converter makes of what was written out before. Assumes nothing.
use mathlib.Core.Path.{◌≡◌, refl, sym, ap, ap₂, ◌∙◌, subst}
use mathlib.Core.Bool.{Bool, true, false, cond}
use mathlib.Core.List.{List, [], ◌∷◌}
use mathlib.Core.Option.{Option, none, some}
use Prim.Native.Nat.{ℕ, ◌<◌, ◌≤◌, ◌^◌}
use native.Mathlib.Omega.{arith}
use lib.Dec.{T, lit≤}
use lib.ListN.{length, take, drop}
use lib.Seq.{take-append_seam}
use Rattle.density.specs.declared.Site.{Site}
use Rattle.density.specs.Network.{Listing, no_site, site_at, in_range}
use Rattle.density.specs.Rows.{first_row, row}
use Rattle.records.specs.declared.Edition.{Edition}
use Rattle.records.specs.Values.{Plan}
use Rattle.records.specs.Outcome.{passed, gate}
use Rattle.records.specs.Format.{edition1, edition2, read_list}
use Rattle.records.specs.Write.{list_bytes, plan_bytes, is_short, fitted, Good, Marked}
use Rattle.records.specs.Files.{Files, files, fitted_both, plan_part}
use Rattle.records.proofs.Records.{all-at}
use Rattle.records.proofs.Samples.{marked1}
use Rattle.judge.specs.Check.{True, judged_for}
use Rattle.judge.proofs.Truth.{true-judged}
use Rattle.judge.proofs.Widths.{true-over}
use Rattle.held_state.specs.Held.{State, list_of}
use Rattle.held_state.proofs.Intact.{Intact, sized, intact→, good-range}
use Rattle.store.specs.declared.Request.TheVariants.{Written, ListWritten}
use Rattle.store.specs.Calls.{Call, Event, migrate, Reply, same, put_out, wrote, done}
use Rattle.store.specs.Calls as told
use Rattle.store.specs.Model.{Model, Turn, count, migrate_rows, migrate_turn, turned, migrated_model}
use Rattle.store.specs.State.{model_of, list_out}
use Rattle.store.specs.Trace.{Steps, Goes, History, AllBytes, Proposal, trace, proposed_plan, plan_from, Exact}
use Rattle.store.specs.Widths.{PlacesFit}
use Rattle.store.proofs.Steps.{Holds}
use Rattle.store.proofs.Migrate.{gone-on}
use Rattle.store.proofs.History.{exact, history-holds, history-marked}
use Rattle.store.proofs.ListRoundTrip.{held-good, list-round-trip}
use Rattle.store.proofs.Writers.{plan-replies, list-replies}
use Rattle.converter.specs.Convert.{upgrade, list_for, convert_list, convert_plan}
use Rattle.converter.proofs.Ways.{up-taken}
use Rattle.store_converted.specs.Converted.{writing, Converted}

-- ---- what is replied is what the converter finds

module _ (c : Call) (bytes : List ℕ) where
  abbrev out_of : Bool → Reply
  out_of short = cond short (same c (told.refused 20)) (put_out c bytes)

  fitted-out : out_of (is_short c.buffer bytes) ≡ writing c (fitted bytes c.buffer)
  unfolding first_row
  fitted-out = by (is_short c.buffer bytes)
    where
      by : (b : Bool) → out_of b ≡ writing c (gate (row 20 b ∷ []) bytes)
      by true = refl
      by false = refl

-- of two files, where the list's has room
plan-fitted : (x : Files) (out other : List ℕ) → is_short out x.list ≡ false → plan_part (fitted_both x out other) ≡ fitted x.plan other
unfolding first_row
plan-fitted x out other room = by (is_short out x.list) (is_short other x.plan) room
  where
    by : (a b : Bool) → a ≡ false → plan_part (gate (row 20 a ∷ row 20 b ∷ []) x) ≡ gate (row 20 b ∷ []) x.plan
    by false true e = refl
    by false false e = refl
    by true b e = let z : ◌≡◌ {A = Bool} true false = e in absurd (let k : ◌≡◌ {A = ℕ} 0 1 = cc in omega arith)

-- where a length is answered, the bytes put out stand at the front
out-front : (c : Call) (bytes : List ℕ) (r : Reply) (n : ℕ) → r ≡ out_of c bytes (is_short c.buffer bytes) → r.answer ≡ wrote n → take n r.buffer ≡ bytes
out-front c bytes r n e a = by (is_short c.buffer bytes) e
  where
    by : (b : Bool) → r ≡ out_of c bytes b → take n r.buffer ≡ bytes
    by true e = let k : r.answer ≡ told.refused 20 = ap (λ (r : Reply). r.answer) e in absurd (let z : ◌≡◌ {A = ℕ} 0 1 = cc in omega arith)
    by false e =
        let k : r.answer ≡ wrote (length bytes) = ap (λ (r : Reply). r.answer) e in
        let l : n ≡ length bytes = cc in
        ap₂ (λ (n : ℕ) (z : List ℕ). take n z) l (ap (λ (r : Reply). r.buffer) e) ∙ take-append_seam bytes (drop (length bytes) c.buffer)

-- a step that is done has the model's list and plan, now in edition 2
over_done : (b b' : Model) (r : Reply) (places : ℕ) (o : Option ℕ) → r.answer ≡ done → turned b' r ≡ migrate_turn o b places → b' ≡ migrated_model b places
over_done b b' r places none a x = ap (λ (t : Turn). t.after) x
over_done b b' r places (some n) a x = absurd (let k : r.answer ≡ told.refused n = ap (λ (t : Turn). t.reply.answer) x in let z : ◌≡◌ {A = ℕ} 0 1 = cc in omega arith)

module _ {e : Edition} (m : Marked e) {table : List Site} {events : List Event} {replies : List Reply} {s : State} (h : History e table events replies s) (bytes : AllBytes events)
    (fit : PlacesFit s.store.count s) (new : List Site) {r₀ : Reply} {s' : State} (x : Goes s (migrate new) r₀ s') (ok : r₀.answer ≡ done) where
  holds : Holds s
  holds = history-holds m h bytes

  sound : Intact s
  sound = intact→ s holds.intact

  abbrev l : Listing
  l = list_of s

  few : length l.sites ≤ 512
  few = rw (sized s sound.room) sound.few

  in-range : T (in_range l)
  in-range = good-range l sound.good

  over-holds : Holds s'
  over-holds = (gone-on s (history-marked m h bytes) holds (migrate new) r₀ s' tt x).holds

  over-model : model_of s' ≡ migrated_model (model_of s) (length new)
  over-model =
      over_done (model_of s) (model_of s') r₀ (length new) (first_row (migrate_rows (model_of s) (length new))) ok
      (gone-on s (history-marked m h bytes) holds (migrate new) r₀ s' tt x).follows.1

  list-now : list_out s' ≡ list_bytes edition2 l
  list-now = ap (λ (b : Model). list_bytes b.edition b.list) over-model

  -- ---- the list written out before

  module _ (c : Call) (r : Reply) (t : State) (n : ℕ) (k : c.request ≡ ListWritten) (y : Steps s c r t) (a : r.answer ≡ wrote n) where
    list-taken : list_for upgrade (take n r.buffer) ≡ passed l
    list-taken =
        up-taken (take n r.buffer)
        ∙ subst (λ (e : Edition). read_list e 512 (take n r.buffer) ≡ passed l) x.0 ((list-round-trip s (history-marked m h bytes) fit holds.roll).reads c r t n 512 k y a few)

    list-made : (out : List ℕ) → convert_list upgrade (take n r.buffer) out ≡ fitted (list_bytes edition2 l) out
    list-made out = rw list-taken refl

    -- the plan along with it
    module _ (plan : List ℕ) (p : Plan) (passes : judged_for edition1 l plan ≡ passed p) where
      plan-made : (out other : List ℕ) → convert_plan upgrade (take n r.buffer) plan out other ≡ fitted_both (files edition2 l p) out other
      plan-made out other = rw (list-taken, passes) refl

  -- ---- the plan held

  abbrev last : Option Proposal
  last = (trace e table events replies).proposal

  now-exact : Exact e table events replies s
  now-exact = exact m h bytes

  -- a plan that is written out is held, and true of the list in edition 1
  held-plan : (d : Call) (q : Reply) (u : State) (n : ℕ) → d.request ≡ Written → Steps s d q u → q.answer ≡ wrote n
      → (p : Plan) × ((model_of s).plan ≡ some p) × True edition1 l p (plan_bytes edition1 p)
  held-plan d q u n k y a = by last refl
    where
      by : (o : Option Proposal) → last ≡ o → (p : Plan) × ((model_of s).plan ≡ some p) × True edition1 l p (plan_bytes edition1 p)
      by none z =
          absurd
          (let w : q.answer ≡ told.refused 17 = (now-exact.wanting d q u (rw k tt) y).1 z in
          let z : ◌≡◌ {A = ℕ} 0 1 = cc in
          omega arith)
      by (some p) z = (
        proposed_plan (count (model_of s)) p,
        now-exact.plan-held ∙ ap (plan_from (count (model_of s))) z,
        true-over p.edition edition1 l in-range (proposed_plan (count (model_of s)) p) (lit≤ tt)
            (λ i j. subst (λ (e : Edition). (site_at l i).litres < 256 ^ e.litres) x.0 (all-at (Good s.edition) no_site l.sites (held-good s sound fit) i j).fits)
            (now-exact.plan-true p z),
      )

  pub written_over : Converted s s'
  written_over =
      record {
        list = λ c c' r r' t t' n k y a k' y'.
            (list-replies s' over-holds.intact c' r' t' k' y').1
            ∙ ap (λ (z : List ℕ). out_of c' z (is_short c'.buffer z)) list-now
            ∙ fitted-out c' (list_bytes edition2 l)
            ∙ ap (writing c') (sym (list-made c r t n k y a c'.buffer));
        plan = λ c d d' r q q' t u u' n i k y a j w g out room j' w'.
            let (p, held, true-plan) = held-plan d q u i j w g in
            let was : take i q.buffer ≡ plan_bytes edition1 p =
            out-front d (plan_bytes s.edition p) q i (plan-replies s holds.intact d q u p held j w).1 g ∙ ap (λ (e : Edition). plan_bytes e p) x.0 in
            let passes : judged_for edition1 l (take i q.buffer) ≡ passed p =
            subst (λ (z : List ℕ). judged_for edition1 l z ≡ passed p) (sym was) (true-judged edition1 l in-range (plan_bytes edition1 p) p marked1 few true-plan) in
            (plan-replies s' over-holds.intact d' q' u' p (ap (λ (b : Model). b.plan) over-model ∙ held) j' w').1
            ∙ ap (λ (b : Model). out_of d' (plan_bytes b.edition p) (is_short d'.buffer (plan_bytes b.edition p))) over-model
            ∙ fitted-out d' (plan_bytes edition2 p)
            ∙ ap (writing d')
            (sym (ap plan_part (plan-made c r t n k y a (take i q.buffer) p passes out d'.buffer) ∙ plan-fitted (files edition2 l p) out d'.buffer (subst (λ (z : List ℕ). is_short out z ≡ false) list-now room)));
      }
