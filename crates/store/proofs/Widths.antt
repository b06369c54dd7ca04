-- A step keeps the widths of an edition: figures read are fields of that width, and those filled in are zero. Assumes nothing.
use mathlib.Core.Path.{◌≡◌, refl, sym, ap, ◌∙◌, subst}
use mathlib.Core.Bool.{Bool, true, false, cond}
use mathlib.Core.List.{List, [], ◌∷◌, ◌++◌, map, append-nil}
use mathlib.Core.Option.{Option, none, some, some-ne-none}
use Prim.Native.Nat.{ℕ, zero, suc, ◌+◌, ◌-◌, ◌*◌, ◌<◌, ◌^◌}
use native.Mathlib.Omega.{arith}
use lib.Dec.{lit<}
use lib.ListN.{length, get_or, drop, set, replicate, get_or-append}
use lib.Seq.{get_or-take}
use Rattle.density.specs.declared.Site.{Site}
use Rattle.density.specs.Network.{no_site, site_at}
use Rattle.records.specs.declared.Edition.{Edition}
use Rattle.records.specs.Bytes.{Bytes}
use Rattle.records.specs.Record.{records}
use Rattle.records.specs.Values.{roll_array}
use Rattle.density.specs.Rows.{first_row}
use Rattle.records.specs.Write.{All}
use Rattle.records.specs.Format.{edition1, site_size, site_count, site_of, sites_of, roll_of, share_size, group_count, body_of}
use Rattle.records.proofs.Bytes.{bytes_take, bytes_drop, field-small}
use Rattle.store.specs.declared.Request.{Request}
use Rattle.store.specs.declared.Request.TheVariants.{Load, Change, Add, Propose, Share, Depot, Difference, Written, AtLeast, ListWritten}
use Rattle.store.specs.Calls.{Call, Event, called, migrate, Reply}
use Rattle.store.specs.Model.{with_litres, site_from, Possible}
use Rattle.store.specs.Widths.{Named, NamedIn, AllNamed, Fits, SitesFit}
use Rattle.held_state.specs.Held.{State, list_of, plan_held, corrupt}
use Rattle.held_state.proofs.Intact.{Intact, sized, intact→}
use Rattle.store.specs.State.{Done, bare, holding, refusal, effect_of, settle, step, migrate_row, migrate_step, step_on}
use Rattle.store.specs.Trace.{Run, start, then, Goes, InBytes, AllBytes, Traced, traced_on, traced}
use Rattle.store.proofs.Steps.{unrolled, read_whole}

-- ---- a property of what stands at a place

module _ {X : Type 0} (P : X → Type 0) (d : X) where
  set_at : (l : List X) (j i : ℕ) (x : X) → P x → P (get_or l i d) → P (get_or (set l j x) i d)
  set_at [] j i x a b = b
  set_at (y ∷ l) zero zero x a b = a
  set_at (y ∷ l) zero (suc i) x a b = b
  set_at (y ∷ l) (suc j) zero x a b = b
  set_at (y ∷ l) (suc j) (suc i) x a b = set_at l j i x a b

  over-at : (l t : List X) (i : ℕ) → P (get_or l i d) → P (get_or t i d) → P (get_or (l ++ drop (length l) t) i d)
  over-at [] t i a b = b
  over-at (y ∷ l) [] i a b = subst (λ (z : List X). P (get_or z i d)) (sym (append-nil (y ∷ l))) a
  over-at (y ∷ l) (x ∷ t) zero a b = a
  over-at (y ∷ l) (x ∷ t) (suc i) a b = over-at l t i a b

  pub repeated-at : P d → (n i : ℕ) → P (get_or (replicate n d) i d)
  repeated-at b zero i = b
  repeated-at b (suc n) zero = b
  repeated-at b (suc n) (suc i) = repeated-at b n i

  -- the first k, and one behind them
  one-more-at : (l : List X) (k : ℕ) (x : X) → P x → P d → ((i : ℕ) → i < k → P (get_or l i d)) → (i : ℕ) → i < k + 1 → P (get_or (set l k x) i d)
  one-more-at [] k x a b h i m = b
  one-more-at (y ∷ l) zero x a b h zero m = a
  one-more-at (y ∷ l) zero x a b h (suc i) m = absurd (let z : ⊥ = omega arith in z)
  one-more-at (y ∷ l) (suc k) x a b h zero m = h zero (omega arith)
  one-more-at (y ∷ l) (suc k) x a b h (suc i) m = one-more-at l k x a b (λ j n. h (suc j) (omega arith)) i (omega arith)

  filled_at : P d → (l : List X) (n i : ℕ) → P (get_or l i d) → P (get_or (l ++ replicate n d) i d)
  filled_at b [] n i a = repeated-at b n i
  filled_at b (y ∷ l) n zero a = a
  filled_at b (y ∷ l) n (suc i) a = filled_at b l n i a

  -- what is read of each record of bytes
  pub read_at : (f : List ℕ → X) → ((r : List ℕ) → Bytes r → P (f r)) → P d → (size n : ℕ) (s : List ℕ) → Bytes s → (i : ℕ)
      → P (get_or (map f (records size n s)) i d)
  unfolding records
  read_at f g b size zero s bytes i = b
  read_at f g b size (suc n) s bytes zero = g _ (bytes_take size s bytes)
  read_at f g b size (suc n) s bytes (suc i) = read_at f g b size n (drop size s) (bytes_drop size s bytes) i

pub below : (w : ℕ) → 0 < 256 ^ w
below w = omega (arith, field-small [] 0 w (λ i. lit< tt))

-- ---- states and calls

module _ (m : ℕ) (s : State) (h : Fits m s) (c : Call) (bytes : Bytes c.input) where
  abbrev Litres : Site → Type 0
  Litres x = x.litres < 256 ^ s.edition.litres

  abbrev Narrow : ℕ → Type 0
  Narrow x = x < 256 ^ s.edition.share

  zeros : (i : ℕ) → Narrow (get_or (replicate 512 0) i 0)
  zeros = repeated-at Narrow 0 (below s.edition.share) 512

  effect-fits : (q : Request) → Named (256 ^ s.edition.litres) q → Fits m (effect_of s c q).after
  effect-fits Load n =
      let w = s.edition.litres in
      record {
        litres = λ i l.
            over-at Litres no_site (sites_of s.edition c.input) s.table i
            (read_at Litres no_site (site_of w) (λ r b. field-small r 4 w b) (below w) (site_size s.edition) (site_count c.input) (drop 4 c.input)
            (bytes_drop 4 c.input bytes) i)
            (h.litres i l);
        shares = zeros;
        roll = λ k. ap roll_array (unrolled s.edition (roll_of s.edition c.input) (read_whole s.edition c.input) k);
      }
  effect-fits (Change j w) n =
      record {
        litres = λ i l. set_at Litres no_site s.table j i (with_litres (site_at (list_of s) j) w) n (h.litres i l);
        shares = zeros;
        roll = h.roll;
      }
  effect-fits (Add f d w) n =
      record {
        litres = λ i l. set_at Litres no_site s.table s.store.count i (site_from f d w) n (h.litres i l);
        shares = zeros;
        roll = h.roll;
      }
  effect-fits Propose n =
      let w = s.edition.share in
      let at = 5 + 10 * group_count c.input in
      let read : List ℕ = map (body_of w) (records (share_size s.edition) s.store.count (drop at c.input)) in
      record {
        litres = h.litres;
        shares = λ i.
            filled_at Narrow 0 (below w) read (512 - length read) i
            (read_at Narrow 0 (body_of w) (λ r b. field-small r 2 w b) (below w) (share_size s.edition) s.store.count (drop at c.input)
            (bytes_drop at c.input bytes) i);
        roll = h.roll;
      }
  effect-fits (Share i) n = h
  effect-fits (Depot d) n = h
  effect-fits (Difference a d) n = h
  effect-fits Written n = h
  effect-fits (AtLeast m) n = h
  effect-fits ListWritten n = h

  settle-fits : (o : Option ℕ) (d : Done) → Fits m d.after → Fits m (settle o s c d).after
  settle-fits none d f = f
  settle-fits (some n) d f = h

  -- After a step the widths are kept.
  pub step_fits : Named (256 ^ s.edition.litres) c.request → Fits m (step s c).after
  step_fits n = settle-fits (refusal s c) (effect_of s c c.request) (effect-fits c.request n)

-- ---- the sites held

module _ {e : Edition} (s : State) (h : SitesFit e s) (c : Call) (bytes : Bytes c.input) where
  abbrev Wide : Site → Type 0
  Wide x = x.litres < 256 ^ s.edition.litres

  effect-sites : (q : Request) → Named (256 ^ s.edition.litres) q → SitesFit e (effect_of s c q).after
  effect-sites Load n =
      let w = s.edition.litres in
      let sites = sites_of s.edition c.input in
      record {
        edition = h.edition;
        litres = λ i l.
            subst Wide (sym (get_or-append sites (drop (length sites) s.table) no_site i l))
            (read_at Wide no_site (site_of w) (λ r b. field-small r 4 w b) (below w) (site_size s.edition) (site_count c.input) (drop 4 c.input)
            (bytes_drop 4 c.input bytes) i);
      }
  effect-sites (Change j w) n =
      record { edition = h.edition; litres = λ i l. set_at Wide no_site s.table j i (with_litres (site_at (list_of s) j) w) n (h.litres i l) }
  effect-sites (Add f d w) n =
      record {
        edition = h.edition;
        litres = one-more-at Wide no_site s.table s.store.count (site_from f d w) n (below s.edition.litres) h.litres;
      }
  effect-sites Propose n = record { edition = h.edition; litres = h.litres }
  effect-sites (Share i) n = h
  effect-sites (Depot d) n = h
  effect-sites (Difference a d) n = h
  effect-sites Written n = h
  effect-sites (AtLeast m) n = h
  effect-sites ListWritten n = h

  settle-sites : (o : Option ℕ) (d : Done) → SitesFit e d.after → SitesFit e (settle o s c d).after
  settle-sites none d f = f
  settle-sites (some n) d f = h

  step-sites : Named (256 ^ e.litres) c.request → SitesFit e (step s c).after
  step-sites n =
      settle-sites (refusal s c) (effect_of s c c.request)
      (effect-sites c.request (subst (λ (e : Edition). Named (256 ^ e.litres) c.request) (sym h.edition) n))

-- ---- the step to edition 2: what has edition 1's width has edition 2's

not-corrupt : (x : Bool) (o : Option ℕ) → cond x (some 0) o ≡ none → x ≡ false
not-corrupt true o e = absurd (some-ne-none 0 e)
not-corrupt false o e = refl

module _ (s : State) (h : SitesFit edition1 s) (table : List Site) where
  -- the sites held are the first of the new table
  over-litres : Intact s → (i : ℕ) → i < s.store.count → (get_or ((list_of s).sites ++ drop s.store.count table) i no_site).litres < 256 ^ 4
  over-litres k i l =
      let old : (get_or s.table i no_site).litres < 256 ^ 2 = subst (λ (e : Edition). (get_or s.table i no_site).litres < 256 ^ e.litres) h.edition (h.litres i l) in
      let below : i < length (list_of s).sites = omega (arith, sized s k.room) in
      rw (get_or-append (list_of s).sites (drop s.store.count table) no_site i below, get_or-take s.store.count s.table i no_site l) (omega arith)

  carried-count : (x : Bool) → (cond x (holding (bare s.store.count (roll_array none)) (plan_held s)) (bare s.store.count (roll_array none))).count ≡ s.store.count
  carried-count true = refl
  carried-count false = refl

  migrate-sites : (t : Traced) → t.edition ≡ edition1 → (o : Option ℕ) → migrate_row s table ≡ o
      → SitesFit (traced_on (migrate table) (migrate_step o s table).reply.answer t).edition (migrate_step o s table).after
  unfolding first_row
  migrate-sites t e (some n) k = subst (λ (e : Edition). SitesFit e s) (sym e) h
  migrate-sites t e none k =
      let sound = intact→ s (not-corrupt (corrupt s) _ k) in
      record { edition = refl; litres = λ i l. over-litres sound i (subst (λ (n : ℕ). i < n) (carried-count s.store.held) l) }

-- after an event whose litres have the width of the edition
event-sites : (t : Traced) (s : State) → SitesFit t.edition s → (v : Event) → Possible s.edition v → InBytes v → NamedIn t.edition v
    → SitesFit (traced_on v (step_on s v).reply.answer t).edition (step_on s v).after
event-sites t s h (called c) p b n = step-sites s h c b n
event-sites t s h (migrate table) p b n =
    let e : t.edition ≡ edition1 = sym h.edition ∙ p in
    migrate-sites s (subst (λ (e : Edition). SitesFit e s) e h) table t e (migrate_row s table) refl

-- along every run whose litres have that width
pub run-sites : {s s' : State} {events : List Event} {replies : List Reply} → Run Goes s events replies s' → (t : Traced) → SitesFit t.edition s → AllBytes events
    → AllNamed t events replies → SitesFit (traced t events replies).edition s'
unfolding AllBytes AllNamed traced
run-sites start t h b n = h
run-sites (then {s = s} {v = v} {r = r} x xs) t h b n =
    run-sites xs (traced_on v r.answer t)
    (subst (λ (d : Done). SitesFit (traced_on v d.reply.answer t).edition d.after) (sym x.1) (event-sites t s h v x.0 b.0 n.0)) b.1 n.1

-- calls alone name litres of one width
pub calls-named : (t : Traced) (cs : List Call) (replies : List Reply) → All (λ (c : Call). Named (256 ^ t.edition.litres) c.request) cs → AllNamed t (map called cs) replies
unfolding AllNamed
calls-named t [] rs h = tt
calls-named t (c ∷ cs) [] h = tt
calls-named t (c ∷ cs) (r ∷ rs) h = (h.0, calls-named (traced_on (called c) r.answer t) cs rs h.1)
