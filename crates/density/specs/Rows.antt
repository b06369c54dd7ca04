-- Document 01, "When the gate stays shut": refusals, and rows 12 to 16.
use Rattle.std.specs.Prelude.{Bool, cond, not, ◌&&◌, ◌||◌, List, [], ◌∷◌, ℕ, suc, ◌-◌, ◌*◌, eqb, leb, ltb, length}
use Rattle.std.specs.Bool.{beq}
use Rattle.std.proofs.Math.Option.{Option, none, some}
use Rattle.sets.specs.Sum.{sum, any}
use Rattle.sets.specs.Set.{◌∩◌, is_empty}
use Rattle.density.specs.Network.{Network}
use Rattle.density.specs.Plan.{place, union, group, before, carrier, group_size, group_litres, whole, first_share, second_share, share_of, target}

-- a row of the table: its number, and whether it applies
pub data Row : Type 0 where
  row : ℕ → Bool → Row

-- "Rows are tried from the top": the number of the first that applies
unfoldable pub first_row : List Row → Option ℕ
first_row [] = none
first_row (row n b ∷ rows) = cond b (some n) (first_row rows)

-- "a group empty or meeting an earlier one"
unfoldable pub groups_meet : List ℕ → Bool
groups_meet gs = any (λ k. is_empty (group gs k) 64 || not (is_empty (group gs k ∩ before gs k) 64)) (length gs)

-- "groups together not the listed depots"
unfoldable pub groups_unlisted : Network → List ℕ → Bool
groups_unlisted N gs = any (λ d. not (beq (union gs d) (N.listed d))) 64

-- "s above w × q, own site not whole, or a share to an earlier group"
unfoldable pub share_broken : Network → List ℕ → List ℕ → ℕ → Bool
share_broken N gs ss i =
    ltb (whole N gs i) (first_share ss i)
    || (eqb (N.site i).first (N.site i).second && not (eqb (first_share ss i) (whole N gs i)))
    || (ltb (place gs (N.site i).first) (carrier gs (N.site i)) && not (eqb (first_share ss i) 0))
    || (ltb (place gs (N.site i).second) (carrier gs (N.site i)) && not (eqb (second_share N gs ss i) 0))

unfoldable pub shares_broken : Network → List ℕ → List ℕ → Bool
shares_broken N gs ss = any (share_broken N gs ss) N.count

-- a depot's scaled load: all that it has, from whatever sites
unfoldable pub scaled_load : Network → List ℕ → List ℕ → ℕ → ℕ
scaled_load N gs ss d = sum (share_of N gs ss d) N.count

-- "a depot's scaled load not W"; document 02, g: "a depot's scaled load is its crews times W"
unfoldable pub loads_uneven : Network → List ℕ → List ℕ → Bool
loads_uneven N gs ss = any (λ d. N.listed d && not (eqb (scaled_load N gs ss d) (target N gs d))) 64

-- "W/q not strictly falling"
unfoldable pub groups_rise : Network → List ℕ → Bool
groups_rise N gs =
    any (λ k. leb (group_litres N gs k * group_size N gs (suc k)) (group_litres N gs (suc k) * group_size N gs k)) (length gs - 1)

-- rows 12 to 16, of a plan whose form is right
unfoldable pub plan_rows : Network → List ℕ → List ℕ → List Row
plan_rows N gs ss =
    row 12 (groups_meet gs)
    ∷ row 13 (groups_unlisted N gs)
    ∷ row 14 (shares_broken N gs ss)
    ∷ row 15 (loads_uneven N gs ss)
    ∷ row 16 (groups_rise N gs)
    ∷ []
