-- Calls of a typed entry, one after another, from a fresh store and a table of any length and content: they are a history, so what is proved of histories holds of them.
-- Nothing is asked of their inputs or of the litres that they name: the contract says what these are. Assumes nothing.
use mathlib.Core.Path.{◌≡◌, refl, sym, ap, ◌∙◌, subst}
use mathlib.Core.List.{List, map}
use Prim.Native.Nat.{ℕ}
use lib.ListN.{take, drop}
use Rattle.records.specs.declared.Edition.{Edition}
use Rattle.held_state.specs.declared.Store.{Store}
use Rattle.held_state.specs.Held.{State, on}
use Rattle.store.specs.State.{model_of}
use Rattle.store.specs.Trace.{Run, start, then, Goes, History, AllBytes, Traced, traced_on, begun, Exact, ListRoundTrip, SameFigures}
use Rattle.store.specs.Widths.{NamedIn, AllNamed}
use Rattle.store.proofs.History.{exact, one-history, same-figures}
use Rattle.store.proofs.ListRoundTrip.{history-list}
use Rattle.serve.specs.Entries.{Entry, Lawful, view, Passed, event, Returned, replied, Calls, none, next, first, CallsOn, none-on, next-on}

-- ---- calls over a lent table

module _ {E : Entry} where
  calls-run : {s s' : E.StoreType} {t t' : List E.SiteType} {ps : List (Passed E)} {rs : List (Returned E)} → Calls E s t ps rs s' t'
      → Run Goes (view E s t) (map (event E) ps) (map (replied E) rs) (view E s' t')
  calls-run none = start
  calls-run (next (typed, x) xs) = then (tt, x) (calls-run xs)

  -- every input is bytes, and every litres have the edition's width
  calls-bytes : {s s' : E.StoreType} {t t' : List E.SiteType} {ps : List (Passed E)} {rs : List (Returned E)} → Calls E s t ps rs s' t' → AllBytes (map (event E) ps)
  unfolding AllBytes
  calls-bytes none = tt
  calls-bytes (next (typed, x) xs) = (typed.0, calls-bytes xs)

  calls-named : {s s' : E.StoreType} {t t' : List E.SiteType} {ps : List (Passed E)} {rs : List (Returned E)} → Calls E s t ps rs s' t'
      → (u : Traced) → u.edition ≡ E.edition → AllNamed u (map (event E) ps) (map (replied E) rs)
  unfolding AllNamed
  calls-named none u e = tt
  calls-named (next {p = p} {r = r} (typed, x) xs) u e =
      (subst (λ (e : Edition). NamedIn e (event E p)) (sym e) typed.1, calls-named xs (traced_on (event E p) (replied E r).answer u) e)

module _ {E : Entry} (L : Lawful E) where
  -- They are a history of the edition.
  pub calls-history : {s : E.StoreType} {table table' : List E.SiteType} {ps : List (Passed E)} {rs : List (Returned E)} → Calls E E.fresh table ps rs s table'
      → History E.edition (E.sites table) (map (event E) ps) (map (replied E) rs) (view E s table')
  calls-history {s} {table} {table'} {ps} {rs} calls =
      subst (λ (k : Store). Run Goes (on E.edition k (E.sites table)) (map (event E) ps) (map (replied E) rs) (view E s table')) L.is-fresh (calls-run calls)

  -- Demand 3 of these calls.
  pub calls-exact : {s : E.StoreType} {table table' : List E.SiteType} {ps : List (Passed E)} {rs : List (Returned E)} → Calls E E.fresh table ps rs s table'
      → Exact E.edition (E.sites table) (map (event E) ps) (map (replied E) rs) (view E s table')
  calls-exact calls = exact L.marked (calls-history calls) (calls-bytes calls)

  -- Document 02, b: the list written out after them.
  pub calls-list : {s : E.StoreType} {table table' : List E.SiteType} {ps : List (Passed E)} {rs : List (Returned E)} → Calls E E.fresh table ps rs s table'
      → ListRoundTrip (view E s table')
  calls-list {table = table} calls = history-list L.marked (calls-history calls) (calls-bytes calls) (calls-named calls (begun E.edition (E.sites table)) refl)

  -- The calls settle the replies, the store and the whole table.
  pub calls-one : {s s' : E.StoreType} {table t t' : List E.SiteType} {ps : List (Passed E)} {rs rs' : List (Returned E)}
      → Calls E E.fresh table ps rs s t → Calls E E.fresh table ps rs' s' t'
      → (map (replied E) rs ≡ map (replied E) rs') × (s ≡ s') × (t ≡ t')
  calls-one {s} {s'} {table} {t} {t'} x y =
      let (replies, views) = one-history (calls-history x) (calls-history y) in
      (replies, L.same_store s s' (ap (λ (z : State). z.store) views), L.same-table t t' (ap (λ (z : State). z.table) views))

-- Two stores that hold the same list after such calls, of one edition or of two: each W, q, w × q, difference and set of depots that both answer is the same.
pub calls-same-figures : {E F : Entry} → Lawful E → Lawful F → {s : E.StoreType} {t u : List E.SiteType} {ps : List (Passed E)} {rs : List (Returned E)}
    → {s' : F.StoreType} {t' u' : List F.SiteType} {qs : List (Passed F)} {ts : List (Returned F)}
    → Calls E E.fresh t ps rs s u → Calls F F.fresh t' qs ts s' u' → (model_of (view E s u)).list ≡ (model_of (view F s' u')).list
    → SameFigures (view E s u) (view F s' u')
calls-same-figures L M x y = same-figures (calls-exact L x) (calls-exact M y)

-- ---- calls over the first k places of a table by value: such calls over these, and the places behind keep their content

module _ {E : Entry} where
  pub calls-on : {k : ℕ} {s s' : E.StoreType} {t t' : List E.SiteType} {ps : List (Passed E)} {rs : List (Returned E)} → CallsOn E k s t ps rs s' t'
      → Calls E s (take k t) ps (map (first E k) rs) s' (take k t') × (drop k t' ≡ drop k t)
  calls-on none-on = (none, refl)
  calls-on (next-on (typed, x, e) xs) =
      let (y, f) = calls-on xs in
      (next (typed, x) y, f ∙ e)

  -- Demand 3 of these calls.
  pub calls-on-exact : Lawful E → {k : ℕ} {s : E.StoreType} {table table' : List E.SiteType} {ps : List (Passed E)} {rs : List (Returned E)}
      → CallsOn E k E.fresh table ps rs s table'
      → Exact E.edition (E.sites (take k table)) (map (event E) ps) (map (replied E) (map (first E k) rs)) (view E s (take k table'))
      × (drop k table' ≡ drop k table)
  calls-on-exact L calls =
      let (x, e) = calls-on calls in
      (calls-exact L x, e)

  pub calls-on-list : Lawful E → {k : ℕ} {s : E.StoreType} {table table' : List E.SiteType} {ps : List (Passed E)} {rs : List (Returned E)}
      → CallsOn E k E.fresh table ps rs s table' → ListRoundTrip (view E s (take k table'))
  calls-on-list L calls = calls-list L (calls-on calls).0

-- Two stores that hold the same list after such calls, of one edition or of two.
pub calls-on-same-figures : {E F : Entry} → Lawful E → Lawful F
    → {k : ℕ} {s : E.StoreType} {t u : List E.SiteType} {ps : List (Passed E)} {rs : List (Returned E)}
    → {k' : ℕ} {s' : F.StoreType} {t' u' : List F.SiteType} {qs : List (Passed F)} {ts : List (Returned F)}
    → CallsOn E k E.fresh t ps rs s u → CallsOn F k' F.fresh t' qs ts s' u'
    → (model_of (view E s (take k u))).list ≡ (model_of (view F s' (take k' u'))).list → SameFigures (view E s (take k u)) (view F s' (take k' u'))
calls-on-same-figures L M x y = calls-same-figures L M (calls-on x).0 (calls-on y).0
