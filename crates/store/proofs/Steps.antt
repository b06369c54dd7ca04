-- Each step of the store is one of the model: what a state holds stays the model's. Assumes nothing.
use mathlib.Core.Path.{◌≡◌, refl, sym, ap, ap₂, ◌∙◌, subst}
use mathlib.Core.Logic.{◌↔◌, inl, inr}
use mathlib.Core.Bool.{Bool, true, false, cond, ◌&&◌, ◌||◌, true≢false, false≢true}
use mathlib.Core.List.{List, [], ◌∷◌, ◌++◌}
use mathlib.Core.Option.{Option, none, some, none-ne-some}
use Prim.Native.Nat.{ℕ, ◌+◌, ◌-◌, ◌*◌, ◌≤◌, ◌<◌, zero-le}
use native.Mathlib.Numerals.{add-one}
use native.Mathlib.Omega.{arith}
use borrow.Author.Tests.{leb-false, eqb-true}
use lib.Dec.{T, eqb, leb, ltb}
use lib.ListN.{length, get_or, take, drop, set, replicate, length-append, length-drop, length-set}
use lib.Seq.{take-append_seam, drop-append_seam, take-set-lt, take-suc-set, take_at, drop_at, get_or-take}
use Rattle.sets.specs.Sum.{any}
use Rattle.sets.proofs.Test.{is_false}
use Rattle.density.specs.declared.Site.{Site}
use Rattle.density.specs.Network.{Listing, network, site_at, crews_above, Valid}
use Rattle.density.specs.Plan.{TruePlan}
use Rattle.density.specs.Rows.{first_row, groups_meet, groups_unlisted, shares_broken, plan_rows}
use Rattle.density.specs.Figures.{depot_litres, depot_size, difference, divisor, difference_of}
use Rattle.density.proofs.Rows.{Clear, →clear}
use Rattle.density.proofs.Figures.{depot-litres, depot-size, site-whole}
use Rattle.density.proofs.AtLeast.{read_is}
use Rattle.records.specs.declared.Edition.{Edition}
use Rattle.records.specs.Bytes.{Bytes}
use Rattle.records.specs.declared.RollArray.{RollArray}
use Rattle.records.specs.Values.{Plan, roll_in, roll_array}
use Rattle.records.specs.Format.{site_count, sites_of, list_size, rolled, roll_record, roll_of, listing_of, layout_rows, plan_of}
use Rattle.records.specs.Write.{plan_bytes, Marked, Whole}
use Rattle.records.proofs.Answers.{roll-array}
use Rattle.store.specs.declared.Request.{Request}
use Rattle.store.specs.declared.Request.TheVariants.{Load, Change, Add, Propose, Share, Depot, Difference, Written, AtLeast, ListWritten}
use Rattle.store.specs.Calls.{Call, Reply, same, put_out, refused, done, shared, loaded, differ, reached}
use Rattle.judge.specs.Check.{True}
use Rattle.store.specs.Model.{Model, Says, listed, planned, missing, held, count, rows_of, model_rows, proposal_rows, with_sites, with_litres, site_from, grant_of, settled, turned, turn}
use Rattle.held_state.specs.declared.Store.{Store}
use Rattle.held_state.specs.Held.{State, list_of, plan_held, bad_plan, corrupt, litres_at, size_at}
use Rattle.store.specs.State.{Done, model_of, tries_zero, bare, fresh, holding, next, stays, effect_of, row_for, refusal, settle, step}
use Rattle.store.specs.Trace.{Steps, Tidy, roll_left}
use Rattle.store.proofs.Rules.{none_both, first-both, never-row-zero, granted-not-refused, zero-answer}
use Rattle.store.proofs.Plans.{formed, true-of-rows, rows-of-true}
use Rattle.held_state.proofs.Intact.{neither, or-not, Good, listing, good-valid, good-litres, good-set, good-add, read-list, Intact, sized, intact→, →intact}

pub both_true : (a b : Bool) → a && b ≡ true → (a ≡ true) × (b ≡ true)
both_true true b k = (refl, k)
both_true false b k = absurd (false≢true k)

-- A state holds what it should: it is not corrupt, its plan is true of its list, the places behind are zero, and a roll, which only an edition with rolls has, has a byte for each depot.
pub record Holds (s : State) : Type 0 where
  pub intact : corrupt s ≡ false
  pub plan : s.store.held ≡ true → TruePlan (network (list_of s)) (plan_held s).groups (plan_held s).shares
  pub tidy : Tidy s
  pub roll : Whole s.edition (list_of s).roll

-- an edition without rolls has none
pub unrolled : (e : Edition) (o : Option (List ℕ)) → Whole e o → e.roll ≡ false → o ≡ none
unrolled e none w h = refl
unrolled e (some roll) w h = absurd (true≢false (sym w.0 ∙ h))

-- the roll that bytes have
pub read_whole : (e : Edition) (s : List ℕ) → Whole e (roll_of e s)
read_whole e s = by (rolled e s) refl
  where
    by : (b : Bool) → rolled e s ≡ b → Whole e (cond b (some (drop 2 (roll_record e s))) none)
    by false h = tt
    by true h =
        let r = both_true e.roll (eqb (length s) (list_size e (site_count s) + 66)) h in
        (r.0, rw (length-drop, length-drop) (omega (arith, eqb-true (length s) (list_size e (site_count s) + 66) r.1)))

pub holds-valid : (s : State) → Holds s → Valid (network (list_of s))
holds-valid s h = good-valid (list_of s) (intact→ s h.intact).good

-- and every site has litres
pub holds-litres : (s : State) → Holds s → (i : ℕ) → i < (network (list_of s)).count → 0 < ((network (list_of s)).site i).litres
unfolding network
holds-litres s h = good-litres (list_of s) (intact→ s h.intact).good

-- A step that is the model's and keeps that.
pub record Kept (s : State) (c : Call) (d : Done) : Type 0 where
  pub says : Says (model_of s) c d.reply (model_of d.after)
  pub holds : Holds d.after
  pub edition : d.after.edition ≡ s.edition
  pub places : length d.after.table ≡ length s.table
  pub roll : (list_of d.after).roll ≡ roll_left c.request (roll_of s.edition c.input) d.reply.answer (list_of s).roll

-- ---- a store's row for a call is the model's

pub row-model : (b : Model) (c : Call) (q : Request) → row_for b c q ≡ first_row (rows_of b c q)
row-model b c Load = refl
row-model b c (Change i w) = refl
row-model b c (Add x y w) = refl
row-model b c Propose =
    let p = plan_of b.edition (count b) c.input in
    first-both (plan_rows (network b.list) p.groups p.shares) (layout_rows b.edition (count b) c.input)
row-model b c (Share i) = refl
row-model b c (Depot d) = refl
row-model b c (Difference a d) = refl
row-model b c Written = refl
row-model b c (AtLeast m) = refl
row-model b c ListWritten = refl

-- ---- a state without a plan

module _ (e : Edition) (n : ℕ) (roll : RollArray) (table : List Site) where
  abbrev without : State
  without = record { edition = e; store = bare n roll; table = table }

  pub bare-holds : n ≤ 512 → n ≤ length table → Good (list_of without) → Whole e (roll_in roll) → Holds without
  bare-holds few room good rolls =
      record {
        intact = →intact without (record { few = few; room = room; good = good; groups = λ t. absurd t; plan = λ t. absurd t });
        plan = λ h. absurd (false≢true h);
        tidy = record { none = λ h. (refl, refl, refl); behind = λ h. absurd (false≢true h) };
        roll = rolls;
      }

none_above : crews_above none ≡ false
unfolding crews_above any
none_above = refl

pub fresh_holds : (e : Edition) (table : List Site) → Holds (fresh e table)
fresh_holds e table =
    bare-holds e 0 (roll_array none) table zero-le zero-le
    (record { sites = λ i m. absurd (let z : ⊥ = omega arith in z); roll = none_above; crewed = λ i m. absurd (let z : ⊥ = omega arith in z) }) tt

-- ---- a state that holds a plan

module _ (e : Edition) (store : Store) (p : Plan) (table : List Site) where
  abbrev with : State
  with = record { edition = e; store = holding store p; table = table }

  module _ (each : length p.shares ≡ store.count) where
    -- the plan held is that one
    pub holding-plan : plan_held with ≡ p
    holding-plan =
        ap₂ (λ (g x : List ℕ). record { groups = g; shares = x }) (take-append_seam p.groups (replicate (64 - length p.groups) 0))
        (take_at p.shares (replicate (512 - length p.shares) 0) store.count each)

    pub holding-intact : store.count ≤ 512 → store.count ≤ length table → Good (list_of with) → length p.groups ≤ 64 → (T (bad_plan (list_of with) p) → ⊥) → corrupt with ≡ false
    holding-intact few room good groups clear =
        →intact with
        (record {
          few = few;
          room = room;
          good = good;
          groups = λ u. groups;
          plan = λ u. subst (λ (q : Plan). T (bad_plan (list_of with) q) → ⊥) (sym holding-plan) clear;
        })

    -- places behind it are zero
    pub holding-tidy : Tidy with
    holding-tidy =
        record {
          none = λ u. absurd (true≢false u);
          behind = λ u. (
            drop-append_seam p.groups (replicate (64 - length p.groups) 0),
            drop_at p.shares (replicate (512 - length p.shares) 0) store.count each ∙ ap (λ (k : ℕ). replicate (512 - k) 0) each,
          );
        }

    pub holding-holds : corrupt with ≡ false → TruePlan (network (list_of with)) p.groups p.shares → Whole e (roll_in store.roll) → Holds with
    holding-holds sound true-plan rolls =
        record {
          intact = sound;
          plan = λ u. subst (λ (q : Plan). TruePlan (network (list_of with)) q.groups q.shares) (sym holding-plan) true-plan;
          tidy = holding-tidy;
          roll = rolls;
        }

-- ---- the plan held, where there is one

not-missing : (x : Bool) (p : Plan) → (T (missing (cond x (some p) none)) → ⊥) → x ≡ true
not-missing true p h = refl
not-missing false p h = absurd (h tt)

pub held-is : (x : Bool) (p : Plan) → x ≡ true → held (cond x (some p) none) ≡ p
held-is x p e = rw e refl

-- ---- what the model says where no row refuses, and where one does

turn-granted : (b : Model) (c : Call) → first_row (model_rows b c) ≡ none → turn b c ≡ grant_of b c c.request
turn-granted b c e = ap (λ (o : Option ℕ). settled o b c (grant_of b c c.request)) e

turn-refused : (b : Model) (c : Call) (n : ℕ) → first_row (model_rows b c) ≡ some n → turn b c ≡ turned b (same c (refused n))
turn-refused b c n e = ap (λ (o : Option ℕ). settled o b c (grant_of b c c.request)) e

-- what is asked of a call's input
abbrev pub Fed : Request → List ℕ → Type 0
Fed Load s = Unit {0}
Fed (Change i w) s = Unit {0}
Fed (Add f d w) s = Unit {0}
Fed Propose s = Bytes s
Fed (Share i) s = Unit {0}
Fed (Depot d) s = Unit {0}
Fed (Difference a d) s = Unit {0}
Fed Written s = Unit {0}
Fed (AtLeast m) s = Unit {0}
Fed ListWritten s = Unit {0}

pub fed : (q : Request) (s : List ℕ) → Bytes s → Fed q s
fed Load s b = tt
fed (Change i w) s b = tt
fed (Add f d w) s b = tt
fed Propose s b = b
fed (Share i) s b = tt
fed (Depot d) s b = tt
fed (Difference a d) s b = tt
fed Written s b = tt
fed (AtLeast m) s b = tt
fed ListWritten s b = tt

plan-clear : (e : Edition) (l : Listing) (s : List ℕ) → first_row (proposal_rows e l s) ≡ none → T (bad_plan l (plan_of e (length l.sites) s)) → ⊥
unfolding Clear plan_rows
plan-clear e l s h =
    let p = plan_of e (length l.sites) s in
    let c = →clear (plan_rows (network l) p.groups p.shares)
    (none_both (plan_rows (network l) p.groups p.shares) (layout_rows e (length l.sites) s) h).1 in
    or-not (groups_meet p.groups || groups_unlisted (network l) p.groups) (shares_broken (network l) p.groups p.shares)
    (or-not (groups_meet p.groups) (groups_unlisted (network l) p.groups) c.0 c.1.0) c.1.1.0

module _ (s : State) (h : Holds s) (input buffer : List ℕ) where
  abbrev call : Request → Call
  call q = record { request = q; input = input; buffer = buffer }

  abbrev b : Model
  b = model_of s

  abbrev n : ℕ
  n = s.store.count

  parts : Intact s
  parts = intact→ s h.intact

  size : length (list_of s).sites ≡ n
  size = sized s parts.room

  ok : Valid (network (list_of s))
  ok = holds-valid s h

  -- a call that drops the plan
  dropped : (q : Request) (m : ℕ) (roll : RollArray) (table : List Site) (l : Listing) → length table ≡ length s.table → take m table ≡ l.sites → roll_in roll ≡ l.roll
      → m ≤ 512 → m ≤ length s.table → Good l → Whole s.edition l.roll → l.roll ≡ roll_left q (roll_of s.edition input) done (list_of s).roll
      → Says b (call q) (same (call q) done) (listed b l) → Kept s (call q) (next s (bare m roll) table (same (call q) done))
  dropped q m roll table l len front rolls few room good complete left t =
      let list : listing (roll_in roll) (take m table) ≡ l = ap₂ listing rolls front in
      let model : model_of (record { edition = s.edition; store = bare m roll; table = table }) ≡ listed b l =
      ap₂ (λ (i : ℕ) (l : Listing). record { edition = s.edition; places = i; list = l; plan = none }) len list in
      record {
        says = subst (λ (x : Model). Says b (call q) (same (call q) done) x) (sym model) t;
        holds = bare-holds s.edition m roll table few (rw len room) (subst Good (sym list) good) (subst (Whole s.edition) (sym rolls) complete);
        edition = refl;
        places = len;
        roll = rolls ∙ left;
      }

  -- a call that is refused, or only reads
  asked : (q : Request) (r : Reply) → (list_of s).roll ≡ roll_left q (roll_of s.edition input) r.answer (list_of s).roll → Says b (call q) r b → Kept s (call q) (stays s r)
  asked q r left t = record { says = t; holds = h; edition = refl; places = refl; roll = left }

  -- a proposal that is true
  accepted : (p : Plan) → True s.edition (list_of s) p input → (T (bad_plan (list_of s) p) → ⊥)
      → Kept s (call Propose) (next s (holding s.store p) s.table (same (call Propose) done))
  accepted p t clear =
      let each : length p.shares ≡ n = t.layout.each ∙ size in
      let form = formed s.edition (list_of s) p input t.layout in
      record {
        says = inl (p, t, refl, ap (λ (q : Plan). planned b q) (holding-plan s.edition s.store p s.table each));
        holds =
            holding-holds s.edition s.store p s.table each
            (holding-intact s.edition s.store p s.table each parts.few parts.room parts.good t.layout.few clear)
            (record { form = form; groups = t.groups; shares = t.shares }) h.roll;
        edition = refl;
        places = refl;
        roll = refl;
      }

  -- W and q of the held groups are those of the definition
  module _ (t : s.store.held ≡ true) where
    litres-are : (d : ℕ) → litres_at s d ≡ depot_litres (network (list_of s)) d
    litres-are = depot-litres (network (list_of s)) ok (plan_held s).groups (h.plan t).groups

    size-are : (d : ℕ) → size_at s d ≡ depot_size (network (list_of s)) d
    size-are = depot-size (network (list_of s)) ok (plan_held s).groups (h.plan t).groups

    difference-reply : (a d : ℕ)
        → turned b (same (call (Difference a d)) (differ (difference_of (litres_at s a) (size_at s a) (litres_at s d) (size_at s d)) (size_at s a * size_at s d)))
        ≡ grant_of b (call (Difference a d)) (Difference a d)
    unfolding difference divisor
    difference-reply a d = rw (litres-are a, litres-are d, size-are a, size-are d) refl

  -- what each call does that no row refuses
  granted : (q : Request) → Fed q input → first_row (rows_of b (call q) q) ≡ none → Kept s (call q) (effect_of s (call q) q)
  unfolding Clear
  granted Load f e =
      let r = read-list s.edition (length s.table) input e in
      let sites = sites_of s.edition input in
      let room = r.room in
      let len : length (sites ++ drop (length sites) s.table) ≡ length s.table = simp (length-append, length-drop) (omega arith) in
      dropped Load (length sites) (roll_array (roll_of s.edition input)) (sites ++ drop (length sites) s.table) (listing_of s.edition input) len (take-append_seam sites _)
      (roll-array (roll_of s.edition input)) r.few r.room r.good (read_whole s.edition input) refl
      (sym (turn-granted b (call Load) e))
  granted (Change i w) f e =
      let c = →clear (rows_of b (call (Change i w)) (Change i w)) e in
      let below : i < n = omega (arith, leb-false (length (list_of s).sites) i (is_false (leb (length (list_of s).sites) i) c.1.0), size) in
      let x = with_litres (site_at (list_of s) i) w in
      dropped (Change i w) n s.store.roll (set s.table i x) (with_sites (list_of s) (set (list_of s).sites i x)) (length-set s.table i x) (take-set-lt n s.table i x below)
      refl parts.few parts.room (good-set (list_of s).roll (list_of s).sites parts.good i w (rw size below) c.0) h.roll refl
      (sym (turn-granted b (call (Change i w)) e))
  granted (Add x y w) f e =
      let c = →clear (rows_of b (call (Add x y w)) (Add x y w)) e in
      let full = neither (leb 512 (length (list_of s).sites)) (leb (length s.table) (length (list_of s).sites)) c.0 in
      let few : n < 512 = omega (arith, leb-false 512 (length (list_of s).sites) (is_false (leb 512 (length (list_of s).sites)) full.0), size) in
      let room : n < length s.table =
      omega (arith, leb-false (length s.table) (length (list_of s).sites) (is_false (leb (length s.table) (length (list_of s).sites)) full.1), size) in
      let z = site_from x y w in
      dropped (Add x y w) (n + 1) s.store.roll (set s.table n z) (with_sites (list_of s) ((list_of s).sites ++ (z ∷ []))) (length-set s.table n z)
      (rw add-one (take-suc-set s.table n z room)) refl (omega arith) (omega arith)
      (good-add (list_of s).roll (list_of s).sites parts.good z (or-not (ltb 63 x || ltb 63 y) (eqb w 0) c.1.0 c.1.1.0) c.1.1.1.0) h.roll refl
      (sym (turn-granted b (call (Add x y w)) e))
  granted Propose f e =
      subst (λ (k : ℕ). Kept s (call Propose) (next s (holding s.store (plan_of s.edition k input)) s.table (same (call Propose) done))) size
      (accepted (plan_of s.edition (length (list_of s).sites) input) (true-of-rows s.edition (list_of s) ok input f e)
      (plan-clear s.edition (list_of s) input e))
  granted (Share i) f e =
      let c = →clear (rows_of b (call (Share i)) (Share i)) e in
      let t = not-missing s.store.held (plan_held s) c.0 in
      let below : i < n = omega (arith, leb-false (length (list_of s).sites) i (is_false (leb (length (list_of s).sites) i) c.1.0), size) in
      asked (Share i) (effect_of s (call (Share i)) (Share i)).reply refl
      (ap₂ (λ (x w : ℕ). turned b (same (call (Share i)) (shared x w)))
      (sym (ap (λ (p : Plan). get_or p.shares i 0) (held-is s.store.held (plan_held s) t) ∙ get_or-take n s.store.shares i 0 below))
      (site-whole (network (list_of s)) ok (plan_held s).groups (h.plan t).groups i)
      ∙ sym (turn-granted b (call (Share i)) e))
  granted (Depot d) f e =
      let c = →clear (rows_of b (call (Depot d)) (Depot d)) e in
      let t = not-missing s.store.held (plan_held s) c.0 in
      asked (Depot d) (effect_of s (call (Depot d)) (Depot d)).reply refl
      (ap₂ (λ (w q : ℕ). turned b (same (call (Depot d)) (loaded w q))) (litres-are t d) (size-are t d) ∙ sym (turn-granted b (call (Depot d)) e))
  granted (Difference a d) f e =
      let c = →clear (rows_of b (call (Difference a d)) (Difference a d)) e in
      let t = not-missing s.store.held (plan_held s) c.0 in
      asked (Difference a d) (effect_of s (call (Difference a d)) (Difference a d)).reply refl
      (difference-reply t a d ∙ sym (turn-granted b (call (Difference a d)) e))
  granted Written f e =
      let c = →clear (rows_of b (call Written) Written) e in
      let t = not-missing s.store.held (plan_held s) c.0 in
      asked Written (effect_of s (call Written) Written).reply refl
      (ap (λ (p : Plan). turned b (put_out (call Written) (plan_bytes s.edition p))) (sym (held-is s.store.held (plan_held s) t))
      ∙ sym (turn-granted b (call Written) e))
  granted (AtLeast m) f e =
      let c = →clear (rows_of b (call (AtLeast m)) (AtLeast m)) e in
      let t = not-missing s.store.held (plan_held s) c.0 in
      asked (AtLeast m) (effect_of s (call (AtLeast m)) (AtLeast m)).reply refl
      (ap (λ (x : ℕ). turned b (same (call (AtLeast m)) (reached x))) (read_is (network (list_of s)) ok (plan_held s).groups (h.plan t).groups m)
      ∙ sym (turn-granted b (call (AtLeast m)) e))
  granted ListWritten f e = asked ListWritten (effect_of s (call ListWritten) ListWritten).reply refl (sym (turn-granted b (call ListWritten) e))

  -- a call that a row refuses
  refuses : Marked s.edition → (q : Request) (k : ℕ) → first_row (rows_of b (call q) q) ≡ some k → Kept s (call q) (stays s (same (call q) (refused k)))
  refuses m Load k e = asked Load _ refl (sym (turn-refused b (call Load) k e))
  refuses m (Change i w) k e = asked (Change i w) _ refl (sym (turn-refused b (call (Change i w)) k e))
  refuses m (Add x y w) k e = asked (Add x y w) _ refl (sym (turn-refused b (call (Add x y w)) k e))
  refuses m Propose k e =
      asked Propose _ refl
      (inr
      (λ p t. none-ne-some k (sym (rows-of-true s.edition (list_of s) ok input m (rw size parts.few) p t) ∙ e), k, e, refl, refl))
  refuses m (Share i) k e = asked (Share i) _ refl (sym (turn-refused b (call (Share i)) k e))
  refuses m (Depot d) k e = asked (Depot d) _ refl (sym (turn-refused b (call (Depot d)) k e))
  refuses m (Difference a d) k e = asked (Difference a d) _ refl (sym (turn-refused b (call (Difference a d)) k e))
  refuses m Written k e = asked Written _ refl (sym (turn-refused b (call Written) k e))
  refuses m (AtLeast n) k e = asked (AtLeast n) _ refl (sym (turn-refused b (call (AtLeast n)) k e))
  refuses m ListWritten k e = asked ListWritten _ refl (sym (turn-refused b (call ListWritten) k e))

  decided : Marked s.edition → (q : Request) → Fed q input → (o : Option ℕ) → first_row (rows_of b (call q) q) ≡ o
      → Kept s (call q) (settle o s (call q) (effect_of s (call q) q))
  decided m q f none e = granted q f e
  decided m q f (some k) e = refuses m q k e

-- no row 0 where a state is not corrupt
pub row-zero-off : (s : State) (c : Call) → corrupt s ≡ false → refusal s c ≡ first_row (model_rows (model_of s) c)
row-zero-off s c e = off (tries_zero c.request) (corrupt s) (row_for (model_of s) c c.request) e ∙ row-model (model_of s) c c.request
  where
    off : (x y : Bool) (o : Option ℕ) → y ≡ false → cond (x && y) (some 0) o ≡ o
    off false y o h = refl
    off true false o h = refl
    off true true o h = absurd (true≢false h)

-- Each step from a state that holds is the model's, and the next state holds.
module _ (s : State) (c : Call) (m : Marked s.edition) (h : Holds s) (f : Fed c.request c.input) where
  pub keeps : Kept s c (step s c)
  keeps =
      subst (λ (o : Option ℕ). Kept s c (settle o s c (effect_of s c c.request))) (sym (row-zero-off s c h.intact))
      (decided s h c.input c.buffer m c.request f (first_row (model_rows (model_of s) c)) refl)

  pub kept : (r : Reply) (s' : State) → Steps s c r s' → Kept s c (record { after = s'; reply = r })
  kept r s' x = subst (λ (d : Done). Kept s c d) (sym x) keeps

-- ---- row 0 at any state

zero_is : (s : State) (c : Call) (r : Reply) (s' : State) → Steps s c r s' → (r.answer ≡ refused 0) ↔ (tries_zero c.request && corrupt s ≡ true)
zero_is s c r s' x =
    let e : r.answer ≡ (step s c).reply.answer = ap (λ (d : Done). d.reply.answer) x in
    let h = zero-answer s c (effect_of s c c.request) (tries_zero c.request && corrupt s) (row_for (model_of s) c c.request)
    (λ z. never-row-zero (model_of s) c c.request (sym (row-model (model_of s) c c.request) ∙ z)) (granted-not-refused s c c.request 0) in
    (λ a. h.0 (sym e ∙ a), λ a. e ∙ h.1 a)

-- A call that tries row 0 is refused by it exactly if the state is corrupt.
pub row_zero : (s : State) (c : Call) (r : Reply) (s' : State) → tries_zero c.request ≡ true → Steps s c r s'
    → (r.answer ≡ refused 0) ↔ (corrupt s ≡ true)
row_zero s c r s' t x = let h = zero_is s c r s' x in (λ e. rw t at (h.0 e), λ e. h.1 (rw t e))

-- Load never is, and no call where the state is not corrupt.
pub load-not-zero : (s : State) (c : Call) (r : Reply) (s' : State) → c.request ≡ Load → Steps s c r s' → r.answer ≡ refused 0 → ⊥
load-not-zero s c r s' t x e = false≢true (rw t at ((zero_is s c r s' x).0 e))

pub not-zero : (s : State) (c : Call) (r : Reply) (s' : State) → corrupt s ≡ false → Steps s c r s' → r.answer ≡ refused 0 → ⊥
not-zero s c r s' h x e = false≢true (sym h ∙ (both_true (tries_zero c.request) (corrupt s) ((zero_is s c r s' x).0 e)).1)
