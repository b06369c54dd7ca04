-- From the values that stand for a table to the step at it: each case of the code is a case of the step. Assumes nothing.
use mathlib.Core.Path.{◌≡◌, refl, sym, ap, ◌∙◌, subst}
use mathlib.Core.Bool.{Bool, true, false}
use mathlib.Core.List.{List, []}
use Prim.Native.Nat.{ℕ, ◌+◌, ◌≤◌, ◌<◌}
use native.Mathlib.Omega.{arith}
use lib.Dec.{T}
use lib.ListN.{length, get_or, set, take}
use lib.Seq.{get_or-take, take-append_seam}
use Rattle.density.specs.declared.Site.{Site}
use Rattle.density.specs.Network.{Listing, no_site, site_at, in_range}
use Rattle.density.specs.Rows.{first_row}
use Rattle.records.specs.declared.Edition.{Edition}
use Rattle.records.specs.declared.ListArray.{ListArray}
use Rattle.records.specs.Values.{Plan, listing, roll_in, roll_array}
use Rattle.records.specs.Format.{edition1, read_list}
use Rattle.records.specs.Outcome.{refused, passed}
use Rattle.records.specs.Answer.{filled, plan_array}
use Rattle.records.proofs.RoundTrip.{list_read_lem}
use Rattle.std.specs.declared.result.Result.{Result}
use Rattle.std.specs.declared.result.Result.TheVariants.{Ok, Err}
use mathlib.Core.Option.{Option, none, some}
use Rattle.records.specs.declared.refusal.Refusal.{Refusal}
use Rattle.records.specs.declared.refusal.Refusal.TheVariants.{CorruptStore}
use Rattle.records.specs.Refusals.{number}
use Rattle.judge.specs.Check.{judged_for}
use Rattle.table.specs.Table.{overlay}
use Rattle.table.proofs.Overlay.{overlay-none, overlay-set}
use Rattle.held_state.specs.declared.Store.{Store}
use Rattle.held_state.specs.declared.Summary.{Summary}
use Rattle.held_state.specs.Held.{State, list_of, corrupt, on}
use Rattle.held_state.specs.Values.{Stands}
use Rattle.held_state.proofs.Intact.{intact→, good-range}
use Rattle.store.specs.declared.Request.{Request}
use Rattle.store.specs.declared.Request.TheVariants.{Load, Change, Add, Propose}
use Rattle.store.specs.declared.Decision.{Decision}
use Rattle.store.specs.declared.Answer.{Answer}
use Rattle.store.specs.declared.Answer.TheVariants as of
use Rattle.store.specs.Calls.{Call, Reply, same, told, refused as row, done}
use Rattle.store.specs.Model.{Model, rows_of, with_litres}
use Rattle.store.specs.State.{model_of, tries_zero, bare, next, stays, refusal, step}
use Rattle.store.specs.Decide.{takes}
use Rattle.store.specs.Trace.{ReadsOnly}
use Rattle.store.proofs.Rules.{reading-leaves}
use Rattle.store.proofs.Settled as settled
use Rattle.store_calls.proofs.Steps as steps
use Rattle.serve.specs.Serve.{decided, Served}
use Rattle.serve.proofs.FirstPlaces.{same-front, a-table}

module _ (store : Store) (sites : List Site) (places : ℕ) where
  abbrev pub list : ListArray
  list = record { count = store.count; sites = sites; roll = store.roll }

  -- of every table that the values stand for
  abbrev pub AtTable : Edition → (State → Type 0) → Type 0
  AtTable e P = (table : List Site) → places ≡ length table → take places sites ≡ take 512 table → P (on e store table)

  -- the values are those of a state with such a table
  pub stands : (known : Summary) → known.places ≡ places → known.held ≡ store.held → known.grouped ≡ store.grouped
      → (e : Edition) → AtTable e (λ s. Stands s list known store.groups store.shares)
  stands known p h g e table k y =
      record {
        count = refl;
        places = p ∙ k;
        held = h;
        grouped = g;
        sites = λ a b. same-front sites table places y store.count a (omega (arith, b, p));
        roll = refl;
        groups = λ a. refl;
        shares = λ a. refl;
      }

  -- what row 0 finds
  abbrev pub Zero : Bool → Type 0
  Zero b = (e : Edition) → AtTable e (λ s. b ≡ corrupt s)

  -- what the rows of a change and of another site find
  abbrev pub ChangeRow : ℕ → ℕ → Option ℕ → Type 0
  ChangeRow i w v = (b : Model) (c : Call) → length b.list.sites ≡ store.count → v ≡ first_row (rows_of b c (Change i w))

  abbrev another : Site → Request
  another x = Add x.first x.second x.litres

  abbrev pub AddRow : Site → Option ℕ → Type 0
  AddRow x v = (b : Model) (c : Call) → length b.list.sites ≡ store.count → b.places ≡ places → b.list.roll ≡ roll_in store.roll → v ≡ first_row (rows_of b c (another x))

  -- where row 0 finds nothing: the sites held are among the values, and the list is in range
  module _ (wide : length sites ≡ 512) (zero : Zero false) where
    pub few : store.count ≤ 512
    few = let (table, k, h) = a-table sites places wide in (intact→ (on edition1 store table) (sym (zero edition1 table k h))).few

    pub room : store.count ≤ places
    room =
        let (table, k, h) = a-table sites places wide in
        omega (arith, k, (intact→ (on edition1 store table) (sym (zero edition1 table k h))).room)

    same-list : (e : Edition) → AtTable e (λ s. listing list ≡ list_of s)
    same-list e table k h = ap (λ (xs : List Site). record { sites = xs; roll = roll_in store.roll }) (same-front sites table places h store.count few room)

    pub in-range : T (in_range (listing list))
    in-range =
        let (table, k, h) = a-table sites places wide in
        let s = on edition1 store table in
        subst (λ (l : Listing). T (in_range l)) (sym (same-list edition1 table k h))
        (good-range (list_of s) (intact→ s (sym (zero edition1 table k h))).good)

    -- what is granted: a change of a site that is held, another site where there is a place for it
    module _ (i w : ℕ) (v : ChangeRow i w none) where
      change-step : (c : Call) → c.request ≡ Change i w → (e : Edition)
          → AtTable e (λ s. (step s c ≡ next s (bare store.count store.roll) (set s.table i (with_litres (site_at (list_of s) i) w)) (same c done)) × (i < store.count))
      change-step c q e table k h =
          let s = on e store table in
          let z = sym (zero e table k h) in
          steps.change-passed s c z i w q (sym (v (model_of s) c (steps.held-count s z).2))

      pub change-held : (i < store.count) × (i < 512)
      change-held =
          let (table, k, h) = a-table sites places wide in
          let l = (change-step (record { request = Change i w; input = []; buffer = [] }) refl edition1 table k h).1 in
          (l, omega (arith, l, few))

    module _ (x : Site) (v : AddRow x none) where
      add_step : (c : Call) → c.request ≡ another x → (e : Edition)
          → AtTable e (λ s. (step s c ≡ next s (bare (store.count + 1) store.roll) (set s.table store.count x) (same c done)) × (store.count < 512) × (store.count < length s.table))
      add_step c q e table k h =
          let s = on e store table in
          let z = sym (zero e table k h) in
          steps.add-passed s c z x.first x.second x.litres q (sym (v (model_of s) c (steps.held-count s z).2 (sym k) refl))

      pub add-room : (store.count < 512) × (store.count < places)
      add-room =
          let (table, k, h) = a-table sites places wide in
          let l = add_step (record { request = another x; input = []; buffer = [] }) refl edition1 table k h in
          (l.1, omega (arith, l.2, k))

  module _ (e : Edition) (input buffer : List ℕ) (r : Decision) where
    abbrev call : Request → Call
    call request = record { request = request; input = input; buffer = buffer }

    abbrev Goes : Request → List ℕ → Type 0
    Goes request last = Served e store sites places request input buffer r last

    abbrev Answered : Result Answer Refusal → Type 0
    Answered a = r ≡ record { answer = a; store = store; sites = sites; n = 0 }

    -- the table stays where no site goes to it
    kept : (a : Result Answer Refusal) → Answered a → (last : List ℕ) → AtTable e (λ s. decided s r last ≡ stays s (record { answer = told a; buffer = last }))
    kept a q last table k h = rw (q, overlay-none sites table)

    none-go : (a : Result Answer Refusal) → Answered a → (m : ℕ) → r.n ≤ m
    none-go a q m = let z : r.n ≡ 0 = ap (λ (x : Decision). x.n) q in omega arith

    -- a refusal leaves the store, the table and the buffer
    refuses : (request : Request) (x : Refusal) → AtTable e (λ s. step s (call request) ≡ stays s (same (call request) (row (number x)))) → Answered (Err x) → Goes request buffer
    refuses request x f q =
        record {
          steps = λ table k h. kept (Err x) q buffer table k h ∙ sym (f table k h);
          few = none-go (Err x) q 512;
          room = none-go (Err x) q places;
        }

    pub zero-served : (request : Request) → tries_zero request ≡ true → Zero true → Answered (Err CorruptStore) → Goes request buffer
    zero-served request t z = refuses request CorruptStore (λ table k h. settled.zero-step (on e store table) (call request) t (sym (z e table k h)))

    -- ---- a call that only reads

    pub asked : (request : Request) (a : Result Answer Refusal) (last : List ℕ) → ReadsOnly request
        → AtTable e (λ s. record { answer = told a; buffer = last } ≡ (step s (call request)).reply) → Answered a → Goes request last
    asked request a last u f q =
        record {
          steps = λ table k h.
              let s = on e store table in
              let c = call request in
              kept a q last table k h ∙ ap (λ (x : Reply). stays s x) (f table k h)
              ∙ ap (λ (x : State). record { after = x; reply = (step s c).reply }) (sym (reading-leaves (refusal s c) s c request u));
          few = none-go a q 512;
          room = none-go a q places;
        }

    -- ---- load

    pub load-refused : (x : Refusal) → read_list e places input ≡ refused (number x) → Answered (Err x) → Goes Load buffer
    load-refused x o =
        refuses Load x
        (λ table k h. settled.load-refused (on e store table) (call Load) (number x) refl (subst (λ (m : ℕ). read_list e m input ≡ refused (number x)) k o))

    pub load_read : (l : Listing) → read_list e places input ≡ passed l
        → r ≡ record { answer = Ok of.Done; store = bare (length l.sites) (roll_array l.roll); sites = filled 512 l.sites no_site; n = length l.sites } → Goes Load buffer
    unfolding overlay
    load_read l o q =
        let d = list_read_lem e places input o in
        let n : r.n ≡ length l.sites = ap (λ (x : Decision). x.n) q in
        record {
          steps = λ table k h. rw (q, take-append_seam)
              (sym (settled.load_read (on e store table) (call Load) l refl (subst (λ (m : ℕ). read_list e m input ≡ passed l) k o)).0);
          few = omega (arith, d.few, d.count);
          room = omega (arith, d.room, d.count);
        }

    module _ (wide : length sites ≡ 512) (zero : Zero false) where
      -- ---- propose

      pub propose-refused : (x : Refusal) → judged_for e (listing list) input ≡ refused (number x) → Answered (Err x) → Goes Propose buffer
      propose-refused x j =
          refuses Propose x
          (λ table k h.
          steps.proposal-refused (on e store table) (call Propose) (sym (zero e table k h)) (number x) refl
          (subst (λ (l : Listing). judged_for e l input ≡ refused (number x)) (same-list wide zero e table k h) j))

      pub propose-passed : (p : Plan) → judged_for e (listing list) input ≡ passed p → r ≡ takes store (plan_array p) sites → Goes Propose buffer
      propose-passed p j q =
          let z : r.n ≡ 0 = ap (λ (x : Decision). x.n) q in
          record {
            steps = λ table k h. rw (q, overlay-none sites table)
                (sym (steps.proposal-passed (on e store table) (call Propose) (sym (zero e table k h)) p refl
                (subst (λ (l : Listing). judged_for e l input ≡ passed p) (same-list wide zero e table k h) j)).0);
            few = omega arith;
            room = omega arith;
          }

      -- ---- change

      module _ (i w : ℕ) where
        pub change-refused : (x : Refusal) → ChangeRow i w (some (number x)) → Answered (Err x) → Goes (Change i w) buffer
        change-refused x v =
            refuses (Change i w) x
            (λ table k h.
            let s = on e store table in
            let z = sym (zero e table k h) in
            let c = call (Change i w) in
            steps.change-refused s c z i w (number x) refl (sym (v (model_of s) c (steps.held-count s z).2)))

        pub change-made : ChangeRow i w none → r ≡ record { answer = Ok of.Done; store = bare store.count store.roll; sites = set sites i (with_litres (get_or sites i no_site) w); n = store.count }
            → Goes (Change i w) buffer
        change-made v q =
            let n : r.n ≡ store.count = ap (λ (x : Decision). x.n) q in
            let l = (change-held wide zero i w v).0 in
            record {
              steps = λ table k h.
                  let f = same-front sites table places h store.count (few wide zero) (room wide zero) in
                  let x : get_or sites i no_site ≡ get_or (take store.count table) i no_site =
                  sym (get_or-take store.count sites i no_site l) ∙ ap (λ (xs : List Site). get_or xs i no_site) f in
                  rw (q, overlay-set store.count sites table i (with_litres (get_or sites i no_site) w) l f, x)
                  (sym (change-step wide zero i w v (call (Change i w)) refl e table k h).0);
              few = omega (arith, few wide zero);
              room = omega (arith, room wide zero);
            }

      -- ---- add

      module _ (x : Site) where
        pub add-refused : (y : Refusal) → AddRow x (some (number y)) → Answered (Err y) → Goes (another x) buffer
        add-refused y v =
            refuses (another x) y
            (λ table k h.
            let s = on e store table in
            let z = sym (zero e table k h) in
            let c = call (another x) in
            steps.add-refused s c z x.first x.second x.litres (number y) refl (sym (v (model_of s) c (steps.held-count s z).2 (sym k) refl)))

        pub add-made : AddRow x none → r ≡ record { answer = Ok of.Done; store = bare (store.count + 1) store.roll; sites = set sites store.count x; n = store.count + 1 }
            → Goes (another x) buffer
        add-made v q =
            let n : r.n ≡ store.count + 1 = ap (λ (y : Decision). y.n) q in
            let l = add-room wide zero x v in
            record {
              steps = λ table k h.
                  let f = same-front sites table places h (store.count + 1) (omega (arith, l.0)) (omega (arith, l.1)) in
                  rw (q, overlay-set (store.count + 1) sites table store.count x (omega arith) f)
                  (sym (add_step wide zero x v (call (another x)) refl e table k h).0);
              few = omega (arith, l.0);
              room = omega (arith, l.1);
            }
