-- Document 01, "Records and their marks" and row 20: how a list and a plan are written, over an edition, and what a writer leaves in a buffer.
use Rattle.std.specs.Prelude.{ℕ, ◌+◌, ◌<◌, ◌≤◌, ◌^◌, Bool, true, false, ◌≡◌, length, take, drop, get_or, ltb}
use mathlib.Core.List.{List, [], ◌∷◌, ◌++◌, flat_map}
use Rattle.std.proofs.Math.Option.{Option, none, some}
use Rattle.density.specs.declared.Site.{Site}
use Rattle.density.specs.Network.{Listing, crews_above, sites_uncrewed}
use Rattle.density.specs.Rows.{row}
use Rattle.records.specs.Bytes.{le}
use Rattle.records.specs.Values.{Plan}
use Rattle.records.specs.Outcome.{Outcome, refused, passed, gate}
use Rattle.records.specs.declared.Edition.{Edition}
use Rattle.std.specs.declared.result.Result.{Result}
use Rattle.records.specs.declared.refusal.Refusal.{Refusal}
use Rattle.records.specs.Refusals.{outcome}

-- a record of a mark and one number of w bytes
abbrev pub mark_bytes : ℕ → ℕ → ℕ → List ℕ
mark_bytes mark w x = le 2 mark ++ le w x

abbrev pub site_bytes : Edition → Site → List ℕ
site_bytes e x = le 2 e.mark.site ++ (le 1 x.first ++ (le 1 x.second ++ le e.litres x.litres))

-- "44 52 and 64 bytes, one per depot"
abbrev pub roll_bytes : Edition → Option (List ℕ) → List ℕ
roll_bytes e none = []
roll_bytes e (some roll) = le 2 e.mark.roll ++ roll

unfoldable pub list_bytes : Edition → Listing → List ℕ
list_bytes e l = le 2 e.mark.list ++ (le 2 (length l.sites) ++ (flat_map (site_bytes e) l.sites ++ roll_bytes e l.roll))

unfoldable pub plan_bytes : Edition → Plan → List ℕ
plan_bytes e p =
    le 2 e.mark.plan
    ++ (le 1 (length p.groups)
    ++ (le 2 (length p.shares)
    ++ (flat_map (mark_bytes e.mark.group 8) p.groups
    ++ flat_map (mark_bytes e.mark.share e.share) p.shares)))

-- a buffer with p at a place
abbrev pub place : ℕ → List ℕ → List ℕ → List ℕ
place at p d = take at d ++ (p ++ drop (at + length p) d)

-- "Bytes after the plan are unchanged", and after a list: a buffer with p at its front
abbrev pub onto : List ℕ → List ℕ → List ℕ
onto p d = p ++ drop (length p) d

-- row 20: "buffer shorter than the plan"; document 02, b: "Row 20 also covers a buffer shorter than the list"; d: it "covers a buffer too short for what is converted"
abbrev pub is_short : List ℕ → List ℕ → Bool
is_short out bytes = ltb (length out) (length bytes)

-- these bytes, where the buffer has room for them
abbrev pub fitted : List ℕ → List ℕ → Outcome (List ℕ)
fitted bytes out = gate (row 20 (is_short out bytes) ∷ []) bytes

-- "every writer answers the length it wrote" (document 02, b): the row that refuses, or the length of the bytes found
abbrev pub wrote_of : Outcome (List ℕ) → Outcome ℕ
wrote_of (refused n) = refused n
wrote_of (passed bytes) = passed (length bytes)

-- the buffer then: as it was, or with the bytes found at its front
abbrev pub buffer_of : Outcome (List ℕ) → List ℕ → List ℕ
buffer_of (refused n) out = out
buffer_of (passed bytes) out = onto bytes out

-- what an entry with one buffer answers and leaves, by what it found
pub record WrittenOf (o : Outcome (List ℕ)) (out : List ℕ) (r : Result ℕ Refusal) (last : List ℕ) : Type 0 where
  pub answer : outcome r ≡ wrote_of o
  pub buffer : last ≡ buffer_of o out

-- and what a writer of these bytes does
abbrev pub Written : List ℕ → List ℕ → Result ℕ Refusal → List ℕ → Type 0
Written bytes out r last = WrittenOf (fitted bytes out) out r last

-- the bytes are the plan's, "laid out for" the list "as under Records": at most 64 groups, each a set of depots below 64, and a share for each site
pub record LaidOut (e : Edition) (l : Listing) (p : Plan) (bytes : List ℕ) : Type 0 where
  pub few : length p.groups ≤ 64
  pub sets : (k : ℕ) → k < length p.groups → get_or p.groups k 0 < 2 ^ 64
  pub each : length p.shares ≡ length l.sites
  pub fits : (i : ℕ) → i < length p.shares → get_or p.shares i 0 < 256 ^ e.share
  pub bytes-are : bytes ≡ plan_bytes e p

-- ---- what is read back once it is written

-- P holds of every element
abbrev pub All : {A : Type 0} → (A → Type 0) → List A → Type 0
All P [] = Unit {0}
All P (x ∷ xs) = P x × All P xs

-- "Each record has a two-byte mark"
pub record Marked (e : Edition) : Type 0 where
  pub list : e.mark.list < 65536
  pub site : e.mark.site < 65536
  pub plan : e.mark.plan < 65536
  pub group : e.mark.group < 65536
  pub share : e.mark.share < 65536
  pub roll : e.mark.roll < 65536

-- a site that rows 5 and 6 do not refuse
pub record Allowed (x : Site) : Type 0 where
  pub first : x.first ≤ 63
  pub second : x.second ≤ 63
  pub some : 0 < x.litres

-- and whose litres have the edition's width
pub record Good (e : Edition) (x : Site) : Type 0 where
  pub allowed : Allowed x
  pub fits : x.litres < 256 ^ e.litres

-- a roll, where there is one, has a byte for each depot, and the edition has rolls
abbrev pub Whole : Edition → Option (List ℕ) → Type 0
Whole e none = Unit {0}
Whole e (some roll) = (e.roll ≡ true) × (length roll ≡ 64)

-- and rows 22 and 23 do not refuse the list
pub record Crewed (e : Edition) (l : Listing) : Type 0 where
  pub whole : Whole e l.roll
  pub few-crews : crews_above l.roll ≡ false
  pub crewed : sites_uncrewed l ≡ false

-- a plan has at most 64 groups and 512 shares, and its numbers have the widths of their fields
pub record GoodPlan (e : Edition) (p : Plan) : Type 0 where
  pub few : length p.groups ≤ 64
  pub sites : length p.shares ≤ 512
  pub groups : All (λ (g : ℕ). g < 256 ^ 8) p.groups
  pub shares : All (λ (s : ℕ). s < 256 ^ e.share) p.shares
