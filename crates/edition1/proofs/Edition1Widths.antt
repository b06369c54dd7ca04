-- The widths of edition 1: shares fit by their type, and a decision on figures of these widths is one of edition 1. Assumes nothing.
use mathlib.Core.Path.{◌≡◌, refl, sym, ap, ap₂, subst, ◌∙◌}
use mathlib.Core.Logic.{⊎_elim}
use mathlib.Core.List.{List, [], ◌∷◌, map}
use mathlib.Core.Option.{none}
use Prim.Native.Nat.{ℕ, zero, suc, ◌+◌, ◌<◌, ◌≤◌, ◌^◌}
use native.Mathlib.Omega.{arith}
use lib.Dec.{ltb, ltb→lt, nltb→le, not_T, lit<}
use lib.ListN.{length, get_or, take, length-map, get_or-eq_default}
use lib.Seq.{get_or-take}
use mir.Val.{Val}
use denote.Builtin.{u32}
use denote.Array.{Array, each}
use denote.Laws.{Is}
use denote.Shadow.{shadow}
use Rattle.sets.proofs.Test.{T?}
use Rattle.density.specs.declared.Site.{Site}
use Rattle.density.specs.Network.{no_site}
use Rattle.records.specs.declared.Edition.{Edition}
use Rattle.records.specs.Bytes.{Bytes}
use Rattle.records.specs.Values.{roll_array}
use Rattle.records.specs.Format.{edition1}
use Rattle.table.specs.declared.Site1.{Site1}
use Rattle.table.specs.Widths.{widened, LitresFit}
use Rattle.table.proofs.Overlay.{map-take}
use Rattle.table.proofs.Widths.{fit_at}
use Rattle.table.proofs.Copies.{widened-over, stored-fits}
use Rattle.held_state.specs.declared.Store.{Store}
use Rattle.edition1.specs.declared.Store1.{Store1}
use Rattle.store.specs.declared.Request.{Request}
use Rattle.edition1.specs.declared.Request1.{Request1}
use Rattle.store.specs.declared.Decision.{Decision}
use Rattle.store.specs.Calls.{told}
use Rattle.held_state.specs.Held.{on}
use Rattle.store.specs.State.{Done}
use Rattle.store.specs.Widths.{Named, Fits}
use Rattle.store.proofs.Widths.{step_fits}
use Rattle.serve.specs.Serve.{Served}
use Rattle.serve.proofs.FirstPlaces.{same-front, front-there}
use Rattle.edition1.specs.Edition1.{store_of1, view1, request_of1, call_of1, Typed1, Served1}

-- an array of 32-bit figures
each_fits : (l : List ℕ) (us : List Val) → shadow (each ℕ u32.own_val l us) → (i : ℕ) → get_or l i 0 < 2 ^ 32
each_fits [] us is i = lit< tt
each_fits (x ∷ l) [] is i = absurd is
each_fits (x ∷ l) (u ∷ us) is zero = is.0.1
each_fits (x ∷ l) (u ∷ us) is (suc i) = each_fits l us is.1 i

pub shares-fit : (n : ℕ) (l : List ℕ) (vs : List Val) → Is (Array u32 n) l vs → (i : ℕ) → get_or l i 0 < 2 ^ 32
shares-fit n l vs is = each_fits l is.0 is.1.1

-- the litres of the first 512 places of a table are those of the sites that stand for it
table_fits : (places : ℕ) (l : List Site) (table : List Site) → places ≡ length table → take places l ≡ take 512 table → LitresFit l
    → (i : ℕ) → i < 512 → (get_or table i no_site).litres < 2 ^ 16
table_fits places l table k e h i m =
    ⊎_elim
    (λ t.
    let room : i + 1 ≤ places = omega (arith, ltb→lt i (length table) t) in
    let same : get_or l i no_site ≡ get_or table i no_site =
    sym (get_or-take (i + 1) l i no_site (omega arith)) ∙ ap (λ (x : List Site). get_or x i no_site) (same-front l table places e (i + 1) (omega arith) room)
    ∙ get_or-take (i + 1) table i no_site (omega arith) in
    subst (λ (s : Site). s.litres < 2 ^ 16) same (fit_at l h i (omega (arith, front-there l table places e (i + 1) k (omega arith) room))))
    (λ n. rw (get_or-eq_default table no_site (nltb→le i (length table) (not_T (ltb i (length table)) n))) (lit< tt)) (T? (ltb i (length table)))

abbrev done1 : Store → List Site → Decision → List ℕ → Done
done1 a t d last = record { after = on edition1 a t; reply = record { answer = told d.answer; buffer = last } }

module _ (store : Store1) (sites : List Site1) (places : ℕ) (request : Request1) (input buffer last : List ℕ) where
  -- a decision at edition 1's widths, narrowed where it fits
  serves1 : (d : Decision) (held : Store1) (l : List Site1)
      → Served edition1 (store_of1 store) (map widened sites) places (request_of1 request) input buffer d last
      → Bytes input
      → LitresFit (map widened sites)
      → ((i : ℕ) → get_or store.shares i 0 < 2 ^ 32)
      → Named (2 ^ 16) (request_of1 request)
      → (((i : ℕ) → get_or d.store.shares i 0 < 2 ^ 32) → d.store.roll ≡ roll_array none → store_of1 held ≡ d.store)
      → (LitresFit (take d.n d.sites) → map widened (take d.n l) ≡ take d.n d.sites)
      → Served1 store sites places request input buffer (record { answer = d.answer; store = held; sites = l; n = d.n }) last
  serves1 d held l s bytes litres shares named narrows fronts =
      record {
        few = s.few;
        room = s.room;
        steps = λ table k e.
            let wide = map widened table in
            let k' : places ≡ length wide = k ∙ sym (length-map table widened) in
            let e' : take places (map widened sites) ≡ take 512 wide = sym (map-take widened places sites) ∙ ap (map widened) e ∙ map-take widened 512 table in
            let x = s.steps wide k' e' in
            let fits : Fits 512 (view1 store table) = record { litres = table_fits places (map widened sites) wide k' e' litres; shares = shares; roll = λ k. refl } in
            let after = subst (λ (r : Done). Fits 512 r.after) (sym x) (step_fits 512 (view1 store table) fits (call_of1 request input buffer) bytes named) in
            ap₂ (λ (a : Store) (t : List Site). done1 a t d last)
            (narrows after.shares (after.roll refl)) (widened-over d.n l d.sites table (fronts (stored-fits 512 d.n d.sites wide s.few after.litres)))
            ∙ x;
      }

  -- the same, of what the parts are widened to
  pub widened-serves : {e : Edition} {w : Store} {a : List Site} {q : Request} {d : Decision} {held : Store1} {l : List Site1}
      → e ≡ edition1
      → (w ≡ store_of1 store) × ((i : ℕ) → get_or w.shares i 0 < 2 ^ 32)
      → (a ≡ map widened sites) × LitresFit a
      → (q ≡ request_of1 request) × Named (2 ^ 16) q
      → Bytes input × Served e w a places q input buffer d last
      → (((i : ℕ) → get_or d.store.shares i 0 < 2 ^ 32) → d.store.roll ≡ roll_array none → store_of1 held ≡ d.store)
      → (LitresFit (take d.n d.sites) → map widened (take d.n l) ≡ take d.n d.sites)
      → Typed1 request input × Served1 store sites places request input buffer (record { answer = d.answer; store = held; sites = l; n = d.n }) last
  widened-serves {d = d} {held} {l} e w a (r, n) (bytes, s) narrows fronts =
      let named = subst (Named (2 ^ 16)) r n in (
        (bytes, named),
        serves1 d held l (rw (e, w.0, a.0, r) at s) bytes (subst LitresFit a.0 a.1)
            (subst (λ (x : Store). (i : ℕ) → get_or x.shares i 0 < 2 ^ 32) w.0 w.1) named narrows fronts,
      )
