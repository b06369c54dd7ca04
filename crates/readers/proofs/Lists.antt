-- Rows 4, 5, 6, 22 and 23, behind a head that gives a count: where the rows before do not apply, the next refuses the list or does not. Assumes nothing.
use Prim.Native.Nat.{ℕ}
use mathlib.Core.Bool.{true, false, ◌&&◌, ◌||◌}
use mathlib.Core.List.{List}
use mathlib.Core.Option.{Option}
use mathlib.Core.Path.{◌≡◌, ◌∙◌, ap, ap₂, sym}
use lib.ListN.{length, drop, get_or, length-map, get_or-append}
use Rattle.sets.specs.Sum.{any}
use Rattle.sets.proofs.Sum.{any-cong}
use Rattle.density.specs.declared.Site.{Site}
use Rattle.density.specs.Network.{no_site, crews_above, uncrewed, sites_uncrewed}
use Rattle.density.specs.Rows.{first_row}
use Rattle.records.specs.declared.Edition.{Edition}
use Rattle.records.specs.declared.RollArray.{RollArray}
use Rattle.records.specs.declared.RollRead.{RollRead}
use Rattle.records.specs.declared.SitesRead.{SitesRead}
use Rattle.records.specs.declared.ListArray.{ListArray}
use Rattle.records.specs.Values.{roll_in, roll_array}
use Rattle.records.specs.Record.{any_of, wrong_mark}
use Rattle.records.specs.Outcome.{Outcome, refused, passed, gate}
use Rattle.records.specs.Answer.{filled, sites_read, roll_read, list_read}
use Rattle.records.specs.Format.{read_list, list_rows, listing_of, rolled, roll_record, roll_of, sites_of, site_records, site_count, site_of}
use Rattle.records.proofs.Answers.{roll-array}
use Rattle.records.proofs.Records.{length-records}
use Rattle.readers.proofs.Heads.{ListHeaded}

-- the first k rows do not apply
abbrev pub RowsLeft : Edition → ℕ → List ℕ → ℕ → Type 0
RowsLeft e places s k = read_list e places s ≡ gate (drop k (list_rows e places s)) (listing_of e s)

-- row 23, of the sites in their places
test : (o : Option (List ℕ)) (xs : List Site) {n : ℕ} {k : RollArray} {ys : List Site} → k ≡ roll_array o → ys ≡ filled 512 xs no_site → n ≡ length xs
    → any (λ i. uncrewed (roll_in k) (get_or ys i no_site)) n ≡ any (λ i. uncrewed o (get_or xs i no_site)) (length xs)
test o xs q y h = rw (q, y, h, roll-array o) (any-cong _ _ (length xs) (λ i l. ap (uncrewed o) (get_or-append xs _ no_site i l)))

-- what was read of the n sites and of the roll
pub record Found (e : Edition) (places : ℕ) (s : List ℕ) (n : ℕ) (r : SitesRead) (k : RollRead) : Type 0 where
  pub headed : ListHeaded e places s n
  pub sites : r ≡ sites_read e n s
  pub roll : k ≡ roll_read e s

module _ {e : Edition} {places : ℕ} {s : List ℕ} {n : ℕ} {r : SitesRead} {k : RollRead} (f : Found e places s n r k) where
  sites-are : r ≡ sites_read e (site_count s) s
  sites-are = f.sites ∙ ap (λ (m : ℕ). sites_read e m s) (sym f.headed.count)

  count-is : n ≡ length (sites_of e s)
  count-is = sym (length-map (site_records e s) (site_of e.litres) ∙ length-records _ _ _ ∙ f.headed.count)

  -- what each row tests
  marks : (any_of (wrong_mark e.mark.site) (site_records e s) || (rolled e s && wrong_mark e.mark.roll (roll_record e s))) ≡ (r.marks || k.mark)
  marks = sym (ap₂ ◌||◌ (ap (λ (x : SitesRead). x.marks) sites-are) (ap (λ (x : RollRead). x.mark) f.roll))

  roll-is : k.roll ≡ roll_array (roll_of e s)
  roll-is = ap (λ (x : RollRead). x.roll) f.roll

  above : crews_above (roll_of e s) ≡ crews_above (roll_in k.roll)
  above = sym (ap (λ (x : RollArray). crews_above (roll_in x)) roll-is ∙ ap crews_above (roll-array _))

  named : sites_uncrewed (listing_of e s) ≡ any (λ i. uncrewed (roll_in k.roll) (get_or r.sites i no_site)) n
  unfolding sites_uncrewed
  named = sym (test (roll_of e s) (sites_of e s) roll-is (ap (λ (x : SitesRead). x.sites) sites-are) count-is)

  pub past-4 : (r.marks || k.mark) ≡ false → RowsLeft e places s 4
  unfolding first_row
  past-4 t = f.headed.rest ∙ rw (marks ∙ t)

  pub row-4 : (r.marks || k.mark) ≡ true → read_list e places s ≡ refused 4
  unfolding first_row
  row-4 t = f.headed.rest ∙ rw (marks ∙ t)

  pub past-5 : RowsLeft e places s 4 → r.depots ≡ false → RowsLeft e places s 5
  unfolding first_row
  past-5 p t = p ∙ rw (sym (ap (λ (x : SitesRead). x.depots) sites-are) ∙ t)

  pub row-5 : RowsLeft e places s 4 → r.depots ≡ true → read_list e places s ≡ refused 5
  unfolding first_row
  row-5 p t = p ∙ rw (sym (ap (λ (x : SitesRead). x.depots) sites-are) ∙ t)

  pub past-6 : RowsLeft e places s 5 → r.litres ≡ false → RowsLeft e places s 6
  unfolding first_row
  past-6 p t = p ∙ rw (sym (ap (λ (x : SitesRead). x.litres) sites-are) ∙ t)

  pub row-6 : RowsLeft e places s 5 → r.litres ≡ true → read_list e places s ≡ refused 6
  unfolding first_row
  row-6 p t = p ∙ rw (sym (ap (λ (x : SitesRead). x.litres) sites-are) ∙ t)

  pub past-22 : RowsLeft e places s 6 → crews_above (roll_in k.roll) ≡ false → RowsLeft e places s 7
  unfolding first_row
  past-22 p t = p ∙ rw (above ∙ t)

  pub row-22 : RowsLeft e places s 6 → crews_above (roll_in k.roll) ≡ true → read_list e places s ≡ refused 22
  unfolding first_row
  row-22 p t = p ∙ rw (above ∙ t)

  pub past-23 : RowsLeft e places s 7 → any (λ i. uncrewed (roll_in k.roll) (get_or r.sites i no_site)) n ≡ false → RowsLeft e places s 8
  unfolding first_row
  past-23 p t = p ∙ rw (named ∙ t)

  pub row-23 : RowsLeft e places s 7 → any (λ i. uncrewed (roll_in k.roll) (get_or r.sites i no_site)) n ≡ true → read_list e places s ≡ refused 23
  unfolding first_row
  row-23 p t = p ∙ rw (named ∙ t)

  pub all_read : RowsLeft e places s 8
      → ◌≡◌ {A = Outcome ListArray} (passed (record { count = n; sites = r.sites; roll = k.roll })) (list_read (read_list e places s))
  unfolding first_row
  all_read p = rw p (cc (count-is, ap (λ (x : SitesRead). x.sites) sites-are, roll-is))
