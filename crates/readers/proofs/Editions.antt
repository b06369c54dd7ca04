-- The edition that a list's mark names, and the round trips in it. Assumes nothing.
use mathlib.Core.Bool.{Bool, true, false, cond}
use mathlib.Core.List.{List, [], ◌∷◌}
use mathlib.Core.Path.{◌≡◌, refl, sym, ap}
use Prim.Native.Nat.{ℕ, ◌*◌, ◌<◌, ◌≤◌, ◌^◌}
use native.Mathlib.Omega.{arith}
use borrow.Author.Tests.{eq-eqb, ne_eqb}
use lib.Dec.{eqb, lit≤}
use lib.ListN.{length}
use Rattle.records.specs.declared.Edition.{Edition}
use Rattle.density.specs.Network.{Listing}
use Rattle.records.specs.Bytes.{Bytes, le, value, field}
use Rattle.records.specs.Format.{edition1, edition2, edition_of, read_list, read_plan}
use Rattle.records.specs.Outcome.{passed}
use Rattle.records.specs.Values.{Plan}
use Rattle.records.specs.Write.{list_bytes, plan_bytes, All, Good, Marked, Crewed}
use Rattle.records.proofs.RoundTrip.{list_read_lem, list_back, list-again, plan-again}
use Rattle.records.proofs.Samples.{marked1, marked2}

-- a list of less than two bytes has no mark
short : (s : List ℕ) → Bytes s → length s < 2 → field s 0 2 < 256
unfolding value
short [] b h = omega arith
short (x ∷ []) b h = omega (arith, b 0)
short (x ∷ y ∷ s) b h = absurd (omega arith)

pub second-mark : (s : List ℕ) {x : ℕ} → field s 0 2 ≡ x → x ≡ 0x324_c → edition2 ≡ edition_of s
second-mark s e h = sym (ap (λ (z : Bool). cond z edition2 edition1) (eq-eqb (field s 0 2) 0x324_c (omega (arith, e, h))))

pub other-mark : (s : List ℕ) {x : ℕ} → field s 0 2 ≡ x → (x ≡ 0x324_c → ⊥) → edition1 ≡ edition_of s
other-mark s e h = sym (ap (λ (z : Bool). cond z edition2 edition1) (ne_eqb (field s 0 2) 0x324_c (λ k. h (omega (arith, e, k)))))

-- a list that reads in an edition names it
pub names1 : (s : List ℕ) {l : Listing} → read_list edition1 512 s ≡ passed l → edition_of s ≡ edition1
names1 s h = let m = (list_read_lem edition1 512 s h).mark in sym (other-mark s m (λ k. omega arith))

pub names2 : (s : List ℕ) {l : Listing} → read_list edition2 512 s ≡ passed l → edition_of s ≡ edition2
names2 s h = sym (second-mark s (list_read_lem edition2 512 s h).mark refl)

pub no-mark : (s : List ℕ) → Bytes s → length s < 2 → edition1 ≡ edition_of s
no-mark s b h = let k = short s b h in other-mark s refl (λ e. omega (arith, k))

-- what holds of both editions holds of the one named
pub either : (P : Edition → Type 0) → P edition1 → P edition2 → (s : List ℕ) → P (edition_of s)
either P p q s = by (eqb (field s 0 2) 0x324_c)
  where
    by : (z : Bool) → P (cond z edition2 edition1)
    by true = q
    by false = p

-- litres of at most 32 bits and shares of at most 64, and a share has room for w × q with q up to 576
pub widths : (s : List ℕ) → ((edition_of s).litres ≤ 4) × ((edition_of s).share ≤ 8) × (256 ^ (edition_of s).litres * 576 ≤ 256 ^ (edition_of s).share)
widths = either (λ (e : Edition). (e.litres ≤ 4) × (e.share ≤ 8) × (256 ^ e.litres * 576 ≤ 256 ^ e.share)) (lit≤ tt, lit≤ tt, lit≤ tt) (lit≤ tt, lit≤ tt, lit≤ tt)

pub marks : (s : List ℕ) → Marked (edition_of s)
marks = either Marked marked1 marked2

-- the round trips at either edition: what is written is read back, and what was read is written again
pub lists-there : (l : Listing) → length l.sites ≤ 512
    → (Crewed edition1 l → All (Good edition1) l.sites → read_list (edition_of (list_bytes edition1 l)) 512 (list_bytes edition1 l) ≡ passed l)
    × (Crewed edition2 l → All (Good edition2) l.sites → read_list (edition_of (list_bytes edition2 l)) 512 (list_bytes edition2 l) ≡ passed l)
unfolding list_bytes le value
lists-there l few = (λ c. list_back edition1 marked1 l few c 512 few, λ c. list_back edition2 marked2 l few c 512 few)

pub list-and-back : (s : List ℕ) {l : Listing} → Bytes s → read_list (edition_of s) 512 s ≡ passed l → list_bytes (edition_of s) l ≡ s
list-and-back s = list-again (edition_of s) 512 s

pub plan-and-back : (s plan : List ℕ) (n : ℕ) {p : Plan} → Bytes plan → read_plan (edition_of s) n plan ≡ passed p → plan_bytes (edition_of s) p ≡ plan
plan-and-back s plan n = plan-again (edition_of s) n plan
