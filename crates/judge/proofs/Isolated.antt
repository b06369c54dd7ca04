-- Document 02, h), of files: in a plan that passes the depots without sites are the last group, and a list without a roll is checked as document 01 has it. Assumes nothing.
use mathlib.Core.Path.{◌≡◌, ap}
use mathlib.Core.List.{List}
use mathlib.Core.Option.{none}
use Prim.Native.Nat.{ℕ, ◌<◌}
use lib.ListN.{length}
use Rattle.density.specs.Network.{Listing, Network, no_site, network, base_network}
use Rattle.density.specs.Groups.{Decomposition}
use Rattle.density.specs.Isolated.{IsolatedLast}
use Rattle.density.specs.Rows.{plan_rows}
use Rattle.density.proofs.Lists.{valid}
use Rattle.density.proofs.Rolls.{without-roll}
use Rattle.density.proofs.Isolated.{isolated-last}
use Rattle.records.specs.declared.Edition.{Edition}
use Rattle.records.specs.Bytes.{Bytes}
use Rattle.records.specs.Values.{Plan}
use Rattle.records.specs.Outcome.{gate, bind, passed}
use Rattle.records.specs.Format.{edition_of, read_list, read_plan}
use Rattle.records.specs.Write.{Allowed}
use Rattle.records.proofs.Records.{all-at}
use Rattle.records.proofs.RoundTrip.{list-few, list-range, list-allowed, laid-read}
use Rattle.readers.proofs.Editions.{marks}
use Rattle.judge.specs.Check.{check_row, checked_row, refusal}
use Rattle.judge.proofs.Truth.{check-true}

-- every site of a list that was read has litres: row 6
module _ (e : Edition) (places : ℕ) (s : List ℕ) (l : Listing) (h : read_list e places s ≡ passed l) where
  some-litres : (i : ℕ) → i < (network l).count → 0 < ((network l).site i).litres
  unfolding network
  some-litres i k = (all-at Allowed no_site l.sites (list-allowed e places s h) i k).some

  -- "Such depots form the last group, the only one where no site stands, with W 0": by the groups of the definition
  pub isolated-read : (gs : List ℕ) → Decomposition (network l) gs → IsolatedLast (network l) gs
  isolated-read gs d = isolated-last (network l) (valid l (list-range e places s h)) gs d some-litres

-- and by those of a plan that passes
pub isolated-check : (list plan : List ℕ) → Bytes plan → checked_row list plan ≡ none
    → (l : Listing) × (p : Plan) × (read_list (edition_of list) 512 list ≡ passed l) × (read_plan (edition_of list) (length l.sites) plan ≡ passed p) × IsolatedLast (network l) p.groups
isolated-check list plan b h =
    let (l, p, r, t) = (check-true list plan b).0 h in
    (l, p, r, laid-read (edition_of list) (marks list) l (list-few (edition_of list) 512 list r).0 t.layout, isolated-read (edition_of list) 512 list l r p.groups t.groups)

-- "Lists without a roll are unaffected": rows 12 to 16 are those of document 01's graph of the list
pub unaffected-check : (e : Edition) (list plan : List ℕ) {l : Listing} → read_list e 512 list ≡ passed l → l.roll ≡ none
    → check_row e list plan ≡ refusal (bind (read_plan e (length l.sites) plan) (λ (p : Plan). gate (plan_rows (base_network l.sites) p.groups p.shares) p))
unfolding check_row
unaffected-check e list plan {l = l} r bare =
    rw r (ap (λ (N : Network). refusal (bind (read_plan e (length l.sites) plan) (λ (p : Plan). gate (plan_rows N p.groups p.shares) p))) (without-roll l bare))
