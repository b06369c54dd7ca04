-- Document 01, "Records and their marks" and rows 1 to 11, and document 02, g), rows 22 and 23: how a list and a plan are read, over an edition.
use Rattle.std.specs.Prelude.{ℕ, ◌+◌, ◌*◌, Bool, true, false, cond, not, ◌&&◌, ◌||◌, List, [], ◌∷◌, map, length, drop, ltb, eqb}
use Rattle.std.proofs.Math.Option.{Option, none, some}
use Rattle.density.specs.declared.Site.{Site}
use Rattle.density.specs.Network.{Listing, crews_above, sites_uncrewed}
use Rattle.density.specs.Rows.{Row, row}
use Rattle.records.specs.declared.Edition.{Edition}
use Rattle.records.specs.Values.{Plan}
use Rattle.records.specs.Bytes.{field}
use Rattle.records.specs.Record.{records, any_of, wrong_mark}
use Rattle.records.specs.Outcome.{Outcome, gate}

-- Edition 1: its marks are the bytes 4C 53, 53 54, 50 4C, 47 52 and 53 48; litres have 2 bytes and a share 4. It has no rolls.
abbrev pub edition1 : Edition
edition1 =
    record {
      mark = record { list = 0x534C; site = 0x5453; plan = 0x4C50; group = 0x5247; share = 0x4853; roll = 0x5244 };
      litres = 2;
      share = 4;
      roll = false;
    }

-- Document 02, c, edition 2: 4C 32, 53 32 with "litres in 4 bytes", 50 32, 47 52 as in edition 1, and 53 33 "with s in 8 bytes"; g, rolls: 44 52.
abbrev pub edition2 : Edition
edition2 =
    record {
      mark = record { list = 0x324C; site = 0x3253; plan = 0x3250; group = 0x5247; share = 0x3353; roll = 0x5244 };
      litres = 4;
      share = 8;
      roll = true;
    }

-- "List edition 2 begins 4C 32": the edition that the first two bytes of a list name. A list with any other mark is read as one of edition 1, whose row 1 refuses
-- it unless it begins 4C 53.
abbrev pub edition_of : List ℕ → Edition
edition_of s = cond (eqb (field s 0 2) edition2.mark.list) edition2 edition1

-- "53 54, first depot (1), second depot (1), litres (2)": the bytes of a site's record, and its site
abbrev pub site_size : Edition → ℕ
site_size e = 4 + e.litres

abbrev pub site_of : ℕ → List ℕ → Site
site_of w r = record { first = field r 2 1; second = field r 3 1; litres = field r 4 w }

-- "List: 4C 53, site count (2 bytes). Then per site" a record
abbrev pub site_count : List ℕ → ℕ
site_count s = field s 2 2

abbrev pub site_records : Edition → List ℕ → List (List ℕ)
site_records e s = records (site_size e) (site_count s) (drop 4 s)

abbrev pub sites_of : Edition → List ℕ → List Site
sites_of e s = map (site_of e.litres) (site_records e s)

-- "a named depot in a list .. above 63", and "litres 0", of a site's record
abbrev pub wrong_depot : List ℕ → Bool
wrong_depot r = ltb 63 (field r 2 1) || ltb 63 (field r 3 1)

abbrev pub no_litres : ℕ → List ℕ → Bool
no_litres w r = eqb (field r 4 w) 0

-- the bytes of a list of n sites, without a roll
abbrev pub list_size : Edition → ℕ → ℕ
list_size e n = 4 + site_size e * n

-- "An edition 2 list may end in a roll: 44 52 and 64 bytes, one per depot": where the edition has rolls, 66 more bytes are one
abbrev pub rolled : Edition → List ℕ → Bool
rolled e s = e.roll && eqb (length s) (list_size e (site_count s) + 66)

abbrev pub roll_record : Edition → List ℕ → List ℕ
roll_record e s = drop (list_size e (site_count s)) s

abbrev pub roll_of : Edition → List ℕ → Option (List ℕ)
roll_of e s = cond (rolled e s) (some (drop 2 (roll_record e s))) none

abbrev pub listing_of : Edition → List ℕ → Listing
listing_of e s = record { sites = sites_of e s; roll = roll_of e s }

-- rows 1 to 6, 22 and 23, of a list for which there are so many places
abbrev pub list_rows : Edition → ℕ → List ℕ → List Row
list_rows e places s =
    row 1 (ltb (length s) 4 || wrong_mark e.mark.list s)
    ∷ row 2 (ltb 512 (site_count s) || ltb places (site_count s))
    ∷ row 3 (not (eqb (length s) (list_size e (site_count s)) || rolled e s))
    ∷ row 4 (any_of (wrong_mark e.mark.site) (site_records e s) || (rolled e s && wrong_mark e.mark.roll (roll_record e s)))
    ∷ row 5 (any_of wrong_depot (site_records e s))
    ∷ row 6 (any_of (no_litres e.litres) (site_records e s))
    ∷ row 22 (crews_above (roll_of e s))
    ∷ row 23 (sites_uncrewed (listing_of e s))
    ∷ []

unfoldable pub read_list : Edition → ℕ → List ℕ → Outcome Listing
read_list e places s = gate (list_rows e places s) (listing_of e s)

-- "Plan: 50 4C, group count (1), site count (2). Then per group, heaviest first, 47 52 and a set (8)"
abbrev pub group_count : List ℕ → ℕ
group_count s = field s 2 1

abbrev pub group_records : List ℕ → List (List ℕ)
group_records s = records 10 (group_count s) (drop 5 s)

-- "Then per site, in list order, 53 48 and s (4)"
abbrev pub share_size : Edition → ℕ
share_size e = 2 + e.share

abbrev pub share_records : Edition → ℕ → List ℕ → List (List ℕ)
share_records e sites s = records (share_size e) sites (drop (5 + 10 * group_count s) s)

-- the number of w bytes behind a record's mark
abbrev pub body_of : ℕ → List ℕ → ℕ
body_of w r = field r 2 w

abbrev pub plan_of : Edition → ℕ → List ℕ → Plan
plan_of e sites s = record { groups = map (body_of 8) (group_records s); shares = map (body_of e.share) (share_records e sites s) }

-- rows 7 to 11, of a plan for a list of so many sites
abbrev pub layout_rows : Edition → ℕ → List ℕ → List Row
layout_rows e sites s =
    row 7 (ltb (length s) 5 || wrong_mark e.mark.plan s)
    ∷ row 8 (ltb 64 (group_count s))
    ∷ row 9 (not (eqb (field s 3 2) sites))
    ∷ row 10 (not (eqb (length s) (5 + 10 * group_count s + share_size e * sites)))
    ∷ row 11 (any_of (wrong_mark e.mark.group) (group_records s) || any_of (wrong_mark e.mark.share) (share_records e sites s))
    ∷ []

unfoldable pub read_plan : Edition → ℕ → List ℕ → Outcome Plan
read_plan e sites s = gate (layout_rows e sites s) (plan_of e sites s)
