-- The starred lists, the nine sites, the refused plans and thresholds: what the computed tests say. The groups of a starred list are found twice, by the
-- definition run over every set and by the rows on its plan. Assumes nothing.
use mathlib.Core.Path.{◌≡◌, refl, sym, ◌∙◌}
use mathlib.Core.Bool.{true, false, ◌&&◌}
use mathlib.Core.List.{List, [], ◌∷◌}
use mathlib.Core.Option.{Option, none, some}
use Prim.Native.Nat.{ℕ, ◌≤◌, ◌<◌, ◌^◌}
use lib.Dec.{T, eqb, ltb, eqb→eq, ltb→lt, lit≤}
use lib.ListN.{length, get_or}
use Rattle.sets.specs.Sum.{all}
use Rattle.sets.specs.Set.{∅, ◌⊆◌}
use Rattle.density.specs.Network.{network, Valid, litres, size}
use Rattle.density.specs.Groups.{groups_from}
use Rattle.density.specs.Plan.{group, before, group_size, group_litres, Formed, TruePlan}
use Rattle.density.specs.Figures.{reaches}
use Rattle.density.specs.Rows.{first_row, plan_rows}
use Rattle.density.specs.Examples.{Example, no_sites, starred, with_crews, Grouped, Known, nine_sites, refused, no_refusal, GetsRow, reading, readings, ReadsSo}
use Rattle.sets.proofs.Test.{and_l, and_r}
use Rattle.sets.proofs.Sum.{all-at}
use Rattle.sets.proofs.Set.{subset-of}
use Rattle.density.proofs.Cases.{same, grouped, is_none, passes, has_row, gets_row, computed-groups, computed-nine, computed-plans, computed-crews, computed-refusals, reads_so, computed-readings}
use Rattle.density.proofs.Lists.{valid}
use Rattle.density.proofs.Checks.{no_row}
use Rattle.density.proofs.Existence.{run_is}

same→ : (xs ys : List ℕ) → T (same xs ys) → xs ≡ ys
unfolding same
same→ [] [] t = refl
same→ [] (y ∷ ys) t = absurd t
same→ (x ∷ xs) [] t = absurd t
same→ (x ∷ xs) (y ∷ ys) t = cc (eqb→eq x y (and_l (eqb x y) (same xs ys) t), same→ xs ys (and_r (eqb x y) (same xs ys) t))

grouped-valid : (w : ℕ) (e : Example) → T (grouped w e) → Valid (network e.list)
unfolding grouped
grouped-valid w e t = valid e.list (search (and_l, and_r))

-- a figure of each group
figures : (f : ℕ → ℕ) (xs : List ℕ) (n : ℕ) → T (all (λ k. eqb (f k) (get_or xs k 0)) n) → (k : ℕ) → k < n → f k ≡ get_or xs k 0
figures f xs n t k l = eqb→eq (f k) (get_or xs k 0) (all-at (λ k. eqb (f k) (get_or xs k 0)) n t k l)

grouped→ : (w : ℕ) → w ≤ 64 → (e : Example) → T (grouped w e) → Grouped e
unfolding grouped
grouped→ w wide e t =
    let N = network e.list in
    let n = length e.groups in
    let ok = grouped-valid w e t in
    let low : N.listed ⊆ (λ d. ltb d w) = subset-of N.listed (λ d. ltb d w) 64 ok.small (search (and_l, and_r)) in
    record {
      groups =
          sym (run_is N ok w wide (λ d u. ltb→lt d w (low d u)))
          ∙ same→ (groups_from N w ∅ (size N N.listed)) e.groups (search (and_l, and_r));
      litres = figures (group_litres N e.groups) e.litres n (search (and_l, and_r));
      given = figures (λ k. litres N (group e.groups k) (before e.groups k)) e.litres n (search (and_l, and_r));
      sizes = figures (group_size N e.groups) e.sizes n (search (and_l, and_r));
    }

pub is_none→ : (o : Option ℕ) → T (is_none o) → o ≡ none
unfolding is_none
is_none→ none t = refl
is_none→ (some n) t = absurd t

passes→ : (e : Example) → Valid (network e.list) → T (passes e) → TruePlan (network e.list) e.groups e.shares
unfolding passes network
passes→ e ok t =
    let form : Formed (network e.list) e.groups e.shares =
    record {
      sets = λ k l. ltb→lt _ _ (all-at (λ k. ltb (get_or e.groups k 0) (2 ^ 64)) _ (search (and_l, and_r)) k l);
      each = eqb→eq _ _ (search (and_l, and_r));
    } in
    (no_row (network e.list) e.groups e.shares ok form).0
    (is_none→ (first_row (plan_rows (network e.list) e.groups e.shares)) (search (and_l, and_r)))

-- every starred list: its groups, W and q are those of the definition, and its plan is true
pub starred-known : (k : ℕ) → k < length starred → Known (get_or starred k no_sites)
starred-known k l =
    let e = get_or starred k no_sites in
    let t = all-at (λ k. grouped 3 (get_or starred k no_sites)) (length starred) computed-groups k l in
    record {
      grouped = grouped→ 3 (lit≤ tt) e t;
      plan = passes→ e (grouped-valid 3 e t) (all-at (λ k. passes (get_or starred k no_sites)) (length starred) computed-plans k l);
    }

-- the same of the lists with crews
pub crews-known : (k : ℕ) → k < length with_crews → Known (get_or with_crews k no_sites)
crews-known k l =
    let e = get_or with_crews k no_sites in
    let t = all-at (λ k. grouped 3 (get_or with_crews k no_sites) && passes (get_or with_crews k no_sites)) (length with_crews) computed-crews k l in
    let g = and_l (grouped 3 e) (passes e) t in
    record { grouped = grouped→ 3 (lit≤ tt) e g; plan = passes→ e (grouped-valid 3 e g) (and_r (grouped 3 e) (passes e) t) }

-- the nine sites: not the innermost core {0,1,2,3}, which has 1.5 litres per depot, but {0,1,2,3,4} with 1.6
pub nine-grouped : Grouped nine_sites
nine-grouped = grouped→ 6 (lit≤ tt) nine_sites computed-nine

pub has_row→ : (o : Option ℕ) (n : ℕ) → T (has_row o n) → o ≡ some n
unfolding has_row
has_row→ none n t = absurd t
has_row→ (some m) n t = cc (eqb→eq m n t)

-- every refused plan gets its row
pub refused-row : (k : ℕ) → k < length refused → GetsRow (get_or refused k no_refusal)
unfolding gets_row
refused-row k l = has_row→ _ _ (all-at (λ k. gets_row (get_or refused k no_refusal)) (length refused) computed-refusals k l)

-- Document 02, a: W/q at a threshold exactly reaches it, and nothing is rounded up
pub reaches-exactly : reaches 4 8 2 ≡ true
reaches-exactly = refl

pub reaches-below : reaches 4 9 2 ≡ true
reaches-below = refl

pub reaches-not : reaches 5 9 2 ≡ false
reaches-not = refl

-- and every reading has its sets
pub readings-known : (k : ℕ) → k < length readings → ReadsSo (get_or readings k (reading [] 0 0 0))
unfolding reads_so
readings-known k l =
    let x = get_or readings k (reading [] 0 0 0) in
    let t = all-at (λ k. reads_so (get_or readings k (reading [] 0 0 0))) (length readings) computed-readings k l in
    record { read = eqb→eq _ x.read (search and_l); every = eqb→eq _ x.every (search and_r) }
