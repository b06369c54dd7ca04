-- Document 01, "Lists with known plans": the starred lists, and the examples of rows 12 to 16. Document 02, a: thresholds; g: crews; h: depots without sites.
use Rattle.std.specs.Prelude.{◌≡◌, List, [], ◌∷◌, ℕ, ◌<◌, length, get_or}
use Rattle.std.proofs.Math.Option.{none, some}
use Rattle.sets.specs.Set.{set_of}
use Rattle.density.specs.declared.Site.{Site}
use Rattle.density.specs.Network.{Listing, network, litres}
use Rattle.density.specs.Groups.{groups_of}
use Rattle.density.specs.Plan.{group, before, group_litres, group_size, TruePlan}
use Rattle.density.specs.Rows.{first_row, plan_rows}
use Rattle.density.specs.Figures.{depots_read, every_group}

-- a list, its groups with W and q of each, and shares
pub record Example : Type 0 where
  pub list : Listing
  pub groups : List ℕ
  pub litres : List ℕ
  pub sizes : List ℕ
  pub shares : List ℕ

abbrev pub pair : ℕ → ℕ → ℕ → Site
pair a b w = record { first = a; second = b; litres = w }

abbrev pub own : ℕ → ℕ → Site
own a w = pair a a w

abbrev pub example : List Site → List ℕ → List ℕ → List ℕ → List ℕ → Example
example l g w q s = record { list = record { sites = l; roll = none }; groups = g; litres = w; sizes = q; shares = s }

abbrev pub example_with : List Site → List ℕ → List ℕ → List ℕ → List ℕ → List ℕ → Example
example_with l r g w q s = record { list = record { sites = l; roll = some r }; groups = g; litres = w; sizes = q; shares = s }

abbrev pub no_sites : Example
no_sites = example [] [] [] [] []

-- {0} is 1, {1} 2, {0,1} 3, {2} 4 and {0,1,2} 7
unfoldable pub starred : List Example
starred =
    no_sites
    ∷ example (pair 0 1 10 ∷ []) (3 ∷ []) (10 ∷ []) (2 ∷ []) (10 ∷ [])
    ∷ example (own 0 7 ∷ []) (1 ∷ []) (7 ∷ []) (1 ∷ []) (7 ∷ [])
    ∷ example (own 0 4 ∷ own 1 4 ∷ []) (3 ∷ []) (8 ∷ []) (2 ∷ []) (8 ∷ 8 ∷ [])
    ∷ example (own 0 4 ∷ own 1 3 ∷ []) (1 ∷ 2 ∷ []) (4 ∷ 3 ∷ []) (1 ∷ 1 ∷ []) (4 ∷ 3 ∷ [])
    ∷ example (own 0 7 ∷ pair 0 1 6 ∷ []) (1 ∷ 2 ∷ []) (7 ∷ 6 ∷ []) (1 ∷ 1 ∷ []) (7 ∷ 0 ∷ [])
    ∷ example (own 0 6 ∷ pair 0 1 6 ∷ []) (3 ∷ []) (12 ∷ []) (2 ∷ []) (12 ∷ 0 ∷ [])
    ∷ example (own 0 5 ∷ pair 0 1 6 ∷ []) (3 ∷ []) (11 ∷ []) (2 ∷ []) (10 ∷ 1 ∷ [])
    ∷ example (pair 0 1 9 ∷ pair 1 2 1 ∷ []) (3 ∷ 4 ∷ []) (9 ∷ 1 ∷ []) (2 ∷ 1 ∷ []) (9 ∷ 0 ∷ [])
    ∷ example (pair 0 1 1 ∷ pair 1 2 1 ∷ pair 0 2 1 ∷ []) (7 ∷ []) (3 ∷ []) (3 ∷ []) (3 ∷ 3 ∷ 0 ∷ [])
    ∷ []

-- not starred, and without shares: all six pairs of 0 to 3, then (0,4), (1,4), (4,5), each of 1
unfoldable pub nine_sites : Example
nine_sites =
    example
    (pair 0 1 1 ∷ pair 0 2 1 ∷ pair 0 3 1 ∷ pair 1 2 1 ∷ pair 1 3 1 ∷ pair 2 3 1 ∷ pair 0 4 1 ∷ pair 1 4 1 ∷ pair 4 5 1 ∷ [])
    (31 ∷ 32 ∷ [])
    (8 ∷ 1 ∷ [])
    (5 ∷ 1 ∷ [])
    []

-- Not in the papers, document 02, g: crews. (0,1) of 12 with three crews and one; the same with a crew each; (0,1) of 12 and own 2 of 5 with nine, nine and one: one
-- crew each would put {0,1} first; own 0 of 4 and own 1 of 8 with one and two: one group. Document 02, h: own 0 of 4 with two crews, and one of depot 2, which no site
-- names; own 1 of 4 with a crew, three and one of depots 0 and 2, which no site names: one group; and no sites at all.
unfoldable pub with_crews : List Example
with_crews =
    example_with (pair 0 1 12 ∷ []) (3 ∷ 1 ∷ []) (3 ∷ []) (12 ∷ []) (4 ∷ []) (36 ∷ [])
    ∷ example_with (pair 0 1 12 ∷ []) (1 ∷ 1 ∷ []) (3 ∷ []) (12 ∷ []) (2 ∷ []) (12 ∷ [])
    ∷ example_with (pair 0 1 12 ∷ own 2 5 ∷ []) (9 ∷ 9 ∷ 1 ∷ []) (4 ∷ 3 ∷ []) (5 ∷ 12 ∷ []) (1 ∷ 18 ∷ []) (108 ∷ 5 ∷ [])
    ∷ example_with (own 0 4 ∷ own 1 8 ∷ []) (1 ∷ 2 ∷ []) (3 ∷ []) (12 ∷ []) (3 ∷ []) (12 ∷ 24 ∷ [])
    ∷ example_with (own 0 4 ∷ []) (2 ∷ 0 ∷ 1 ∷ []) (1 ∷ 4 ∷ []) (4 ∷ 0 ∷ []) (2 ∷ 1 ∷ []) (8 ∷ [])
    ∷ example_with (own 1 4 ∷ []) (3 ∷ 1 ∷ 1 ∷ []) (2 ∷ 5 ∷ []) (4 ∷ 0 ∷ []) (1 ∷ 4 ∷ []) (4 ∷ [])
    ∷ example_with [] (0 ∷ 2 ∷ 1 ∷ []) (6 ∷ []) (0 ∷ []) (3 ∷ []) []
    ∷ []

-- Document 02, a: groups of own sites of 4 and of 9 ({0} is 1, {1} 2), a threshold, and the sets found by reading up to the first group below it and by looking
-- at every group. {1}, {0} fall; {0}, {1} do not, so that the two sets can differ; {0,1} has W/q 13/2 and reaches 6, not 7.
pub record Reading : Type 0 where
  pub groups : List ℕ
  pub threshold : ℕ
  pub read : ℕ
  pub every : ℕ

abbrev pub reading : List ℕ → ℕ → ℕ → ℕ → Reading
reading g t r e = record { groups = g; threshold = t; read = r; every = e }

abbrev pub own_sites : Listing
own_sites = record { sites = own 0 4 ∷ own 1 9 ∷ []; roll = none }

unfoldable pub readings : List Reading
readings =
    reading (2 ∷ 1 ∷ []) 0 3 3
    ∷ reading (2 ∷ 1 ∷ []) 4 3 3
    ∷ reading (2 ∷ 1 ∷ []) 5 2 2
    ∷ reading (2 ∷ 1 ∷ []) 9 2 2
    ∷ reading (2 ∷ 1 ∷ []) 10 0 0
    ∷ reading (1 ∷ 2 ∷ []) 4 3 3
    ∷ reading (1 ∷ 2 ∷ []) 5 0 2
    ∷ reading (3 ∷ []) 6 3 3
    ∷ reading (3 ∷ []) 7 0 0
    ∷ []

-- these are the sets
pub record ReadsSo (x : Reading) : Type 0 where
  pub read : set_of (depots_read (network own_sites) x.groups x.threshold) 64 ≡ x.read
  pub every : set_of (every_group (network own_sites) x.groups x.threshold) 64 ≡ x.every

-- the groups are those of the definition, with W, which is also the group's litres given the earlier ones, and q
pub record Grouped (e : Example) : Type 0 where
  pub groups : groups_of (network e.list) ≡ e.groups
  pub given : (k : ℕ) → k < length e.groups → litres (network e.list) (group e.groups k) (before e.groups k) ≡ get_or e.litres k 0
  pub litres : (k : ℕ) → k < length e.groups → group_litres (network e.list) e.groups k ≡ get_or e.litres k 0
  pub sizes : (k : ℕ) → k < length e.groups → group_size (network e.list) e.groups k ≡ get_or e.sizes k 0

-- and the plan is true
pub record Known (e : Example) : Type 0 where
  pub grouped : Grouped e
  pub plan : TruePlan (network e.list) e.groups e.shares

-- a plan that a row refuses: the list, groups, shares and the row
pub record Refused : Type 0 where
  pub list : Listing
  pub groups : List ℕ
  pub shares : List ℕ
  pub number : ℕ

abbrev pub refusal : List Site → List ℕ → List ℕ → ℕ → Refused
refusal l g s r = record { list = record { sites = l; roll = none }; groups = g; shares = s; number = r }

abbrev pub refusal_with : List Site → List ℕ → List ℕ → List ℕ → ℕ → Refused
refusal_with l c g s r = record { list = record { sites = l; roll = some c }; groups = g; shares = s; number = r }

-- the paper's examples of rows 12 to 16, then others: an empty group; 12 before 13; own site not whole; a first and a second depot in
-- an earlier group with a share; 14 before 15; 15 before 16. Document 02, h: own 0 of 4, and depots 1 and 2 with crews and no site, left out, one of them alone
-- left out, in a group of its own each, joined to the group before, and in a group before it.
unfoldable pub refused : List Refused
refused =
    refusal (pair 0 1 10 ∷ []) (1 ∷ 3 ∷ []) (10 ∷ []) 12
    ∷ refusal (pair 0 1 10 ∷ []) (1 ∷ []) (10 ∷ []) 13
    ∷ refusal (pair 0 1 10 ∷ []) (3 ∷ []) (21 ∷ []) 14
    ∷ refusal (pair 0 1 10 ∷ []) (3 ∷ []) (11 ∷ []) 15
    ∷ refusal (own 0 4 ∷ own 1 4 ∷ []) (1 ∷ 2 ∷ []) (4 ∷ 4 ∷ []) 16
    ∷ refusal (pair 0 1 10 ∷ []) (3 ∷ 0 ∷ []) (10 ∷ []) 12
    ∷ refusal (pair 0 1 10 ∷ []) (1 ∷ 1 ∷ []) (10 ∷ []) 12
    ∷ refusal (own 0 7 ∷ []) (1 ∷ []) (6 ∷ []) 14
    ∷ refusal (own 0 7 ∷ pair 0 1 6 ∷ []) (1 ∷ 2 ∷ []) (7 ∷ 1 ∷ []) 14
    ∷ refusal (own 0 7 ∷ pair 1 0 6 ∷ []) (1 ∷ 2 ∷ []) (7 ∷ 5 ∷ []) 14
    ∷ refusal (own 0 5 ∷ pair 0 1 6 ∷ []) (3 ∷ []) (9 ∷ 2 ∷ []) 14
    ∷ refusal (pair 0 1 2 ∷ own 2 3 ∷ []) (3 ∷ 4 ∷ []) (1 ∷ 3 ∷ []) 15
    ∷ refusal_with (own 0 4 ∷ []) (1 ∷ 2 ∷ 1 ∷ []) (1 ∷ []) (4 ∷ []) 13
    ∷ refusal_with (own 0 4 ∷ []) (1 ∷ 2 ∷ 1 ∷ []) (1 ∷ 2 ∷ []) (4 ∷ []) 13
    ∷ refusal_with (own 0 4 ∷ []) (1 ∷ 2 ∷ 1 ∷ []) (1 ∷ 2 ∷ 4 ∷ []) (4 ∷ []) 16
    ∷ refusal_with (own 0 4 ∷ []) (1 ∷ 2 ∷ 1 ∷ []) (7 ∷ []) (16 ∷ []) 15
    ∷ refusal_with (own 0 4 ∷ []) (1 ∷ 2 ∷ 1 ∷ []) (6 ∷ 1 ∷ []) (4 ∷ []) 16
    ∷ []

abbrev pub no_refusal : Refused
no_refusal = refusal [] [] [] 0

-- the first row that applies is this one
abbrev pub GetsRow : Refused → Type 0
GetsRow r = first_row (plan_rows (network r.list) r.groups r.shares) ≡ some r.number
