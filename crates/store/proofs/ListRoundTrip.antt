-- Document 02, b: the list written out is read back, in any store with room, and what was loaded is written out again byte for byte. Assumes nothing.
use mathlib.Core.Path.{◌≡◌, refl, sym, ap, ap₂, ◌∙◌, subst}
use mathlib.Core.Bool.{Bool, true, false, ◌||◌}
use mathlib.Core.List.{List}
use Prim.Native.Nat.{ℕ, ◌<◌, ◌≤◌, ◌^◌}
use native.Mathlib.Omega.{arith}
use borrow.Author.Tests.{ltb-false, eqb-false}
use lib.Dec.{eqb, ltb}
use lib.ListN.{length, take, drop}
use lib.Seq.{take-append_seam, get_or-take}
use Rattle.sets.proofs.Test.{is_false}
use Rattle.density.specs.declared.Site.{Site}
use Rattle.density.specs.Network.{Listing, no_site, site_at}
use Rattle.records.specs.declared.Edition.{Edition}
use Rattle.records.specs.Outcome.{passed}
use Rattle.records.specs.Format.{listing_of, read_list}
use Rattle.records.specs.Write.{list_bytes, onto, All, Marked, Allowed, Good, Whole, Crewed}
use Rattle.records.proofs.Answers.{roll-array}
use Rattle.records.proofs.Records.{all_from}
use Rattle.records.proofs.RoundTrip.{list_back, list-again}
use Rattle.held_state.specs.Held.{State, list_of, corrupt}
use Rattle.held_state.proofs.Intact.{neither, listing, good-crewed, Intact, intact→, sized}
use Rattle.store.specs.declared.Request.{Request}
use Rattle.store.specs.declared.Request.TheVariants.{Load, ListWritten}
use Rattle.store.specs.Calls.{Call, Event, Reply, refused, done, wrote}
use Rattle.store.specs.Model.{count}
use Rattle.store.specs.State.{Done, model_of, tries_zero, list_out, Output}
use Rattle.store.specs.Trace.{Steps, History, AllBytes, begun, trace, ListRoundTrip}
use Rattle.store.specs.Widths.{AllNamed, PlacesFit, SitesFit}
use Rattle.store.proofs.Steps.{row_zero}
use Rattle.store.proofs.Settled.{load_read, load-done}
use Rattle.store.proofs.Widths.{run-sites}
use Rattle.store.proofs.Writers.{every-writer}
use Rattle.store.proofs.History.{history-marked, history-holds}

-- ---- a list written out

module _ (s : State) (c : Call) (r : Reply) (s' : State) (n : ℕ) (k : c.request ≡ ListWritten) (x : Steps s c r s') (a : r.answer ≡ wrote n) where
  -- the answer is the length of the list held, which stands at the front of the buffer
  list_wrote : (n ≡ length (list_out s)) × (r.buffer ≡ onto (list_out s) c.buffer)
  list_wrote =
      let replied = ap (λ (d : Done). d.reply) x in
      let (out, is-output, put, l, room) = every-writer s c n (sym (ap (λ (r : Reply). r.answer) replied) ∙ a) in
      let is : out ≡ list_out s = subst (λ (q : Request). Output s q out) k is-output in
      (l ∙ ap length is, ap (λ (r : Reply). r.buffer) (replied ∙ put) ∙ ap (λ (z : List ℕ). onto z c.buffer) is)

  pub list-front : take n r.buffer ≡ list_out s
  list-front =
      ap₂ (λ (n : ℕ) (z : List ℕ). take n z) list_wrote.0 list_wrote.1 ∙ take-append_seam (list_out s) (drop (length (list_out s)) c.buffer)

  -- the state is not corrupt: row 0 was tried
  list-intact : Intact s
  list-intact = intact→ s (by (corrupt s) refl)
    where
      by : (z : Bool) → corrupt s ≡ z → z ≡ false
      by false e = refl
      by true e =
          absurd
          (let zero : r.answer ≡ refused 0 = (row_zero s c r s' (ap tries_zero k) x).1 e in
          let z : ◌≡◌ {A = ℕ} 0 1 = cc in
          omega arith)

-- ---- it is read back, where the litres held have their width, and a roll its bytes

module _ (s : State) (i : Intact s) (fit : PlacesFit s.store.count s) where
  pub held-good : All (Good s.edition) (list_of s).sites
  held-good = all_from (Good s.edition) no_site (list_of s).sites good
    where
      good : (j : ℕ) → j < length (list_of s).sites → Good s.edition (site_at (list_of s) j)
      good j l =
          let x = site_at (list_of s) j in
          let below : j < s.store.count = omega (arith, sized s i.room) in
          let tests = neither (ltb 63 x.first || ltb 63 x.second) (eqb x.litres 0) (i.good.sites j l) in
          let depots = neither (ltb 63 x.first) (ltb 63 x.second) tests.0 in
          let allowed : Allowed x =
          record {
            first = ltb-false 63 x.first (is_false (ltb 63 x.first) depots.0);
            second = ltb-false 63 x.second (is_false (ltb 63 x.second) depots.1);
            some = omega (arith, eqb-false x.litres 0 (is_false (eqb x.litres 0) tests.1));
          } in
          record {
            allowed = allowed;
            fits = subst (λ (y : Site). y.litres < 256 ^ s.edition.litres) (sym (get_or-take s.store.count s.table j no_site below)) (fit j below);
          }

  -- rows 22 and 23 do not refuse it
  pub held-crewed : Whole s.edition (list_of s).roll → Crewed s.edition (list_of s)
  held-crewed w = record { whole = w; few-crews = i.good.roll; crewed = good-crewed (list_of s) i.good }

  held_back : Marked s.edition → Whole s.edition (list_of s).roll → (places : ℕ) → count (model_of s) ≤ places → read_list s.edition places (list_out s) ≡ passed (list_of s)
  held_back m w places room = list_back s.edition m (list_of s) (rw (sized s i.room) i.few) (held-crewed w) places room held-good

-- ---- a list loaded: the list then held is the one read

load-list : (t : State) (c : Call) (r : Reply) (t' : State) (l : Listing) → c.request ≡ Load → read_list t.edition (length t.table) c.input ≡ passed l
    → Steps t c r t' → (r.answer ≡ done) × (t'.edition ≡ t.edition) × ((model_of t').list ≡ l)
load-list t c r t' l k read x =
    let d = x ∙ (load_read t c l k read).0 in (
      ap (λ (d : Done). d.reply.answer) d,
      ap (λ (d : Done). d.after.edition) d,
      ap (λ (d : Done). (model_of d.after).list) d ∙ ap₂ listing (roll-array l.roll) (take-append_seam l.sites (drop (length l.sites) t.table)),
    )

-- Both round trips of the list: at every state, whatever it holds, whose sites have litres of the edition's width, and whose roll, where it has one, is of an edition with rolls and has a byte
-- for each depot.
pub list-round-trip : (s : State) → Marked s.edition → PlacesFit s.store.count s → Whole s.edition (list_of s).roll → ListRoundTrip s
list-round-trip s m fit w =
    record {
      reads = λ c r s' n places k x a room.
          subst (λ (z : List ℕ). read_list s.edition places z ≡ passed (list_of s)) (sym (list-front s c r s' n k x a))
          (held_back s (list-intact s c r s' n k x a) fit m w places room);
      loads = λ c c' r r' s' t t' n k x a of-e room k' input x'.
          let front : c'.input ≡ list_out s = input ∙ list-front s c r s' n k x a in
          let read : read_list t.edition (length t.table) c'.input ≡ passed (list_of s) =
          ap₂ (λ (e : Edition) (z : List ℕ). read_list e (length t.table) z) of-e front
          ∙ held_back s (list-intact s c r s' n k x a) fit m w (length t.table) room in
          let loaded = load-list t c' r' t' (list_of s) k' read x' in
          (loaded.0, loaded.2);
      again = λ c c' r r' s' t n k b x a k' x' a'.
          let l : Listing = listing_of s.edition c.input in
          let read = load-done s c r s' k x a in
          let loaded = load-list s c r s' l k read x in
          let out : list_out s' ≡ c.input =
          ap₂ list_bytes loaded.1 loaded.2 ∙ list-again s.edition (length s.table) c.input b read in
          let w = list_wrote s' c' r' t n k' x' a' in
          (w.0 ∙ ap length out, w.1 ∙ ap (λ (z : List ℕ). onto z c'.buffer) out);
    }

-- What a history writes out: the litres of its changes and added sites have the width of the store's edition then, so those held have.
pub history-fits : {e : Edition} {table : List Site} {events : List Event} {replies : List Reply} {s : State} → History e table events replies s
    → AllBytes events → AllNamed (begun e table) events replies → SitesFit (trace e table events replies).edition s
history-fits {e} {table} h bytes named =
    run-sites h (begun e table) (record { edition = refl; litres = λ i l. absurd (let z : ⊥ = omega arith in z) }) bytes named

pub history-list : {e : Edition} → Marked e → {table : List Site} {events : List Event} {replies : List Reply} {s : State} → History e table events replies s
    → AllBytes events → AllNamed (begun e table) events replies → ListRoundTrip s
history-list m {s = s} h bytes named = list-round-trip s (history-marked m h bytes) (history-fits h bytes named).litres (history-holds m h bytes).roll
