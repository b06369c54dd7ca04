-- Laws of records of one size, and of rows of places that are filled from the front. Assumes nothing.
use Prim.Native.Nat.{ℕ, zero, suc, ◌+◌, ◌*◌, ◌-◌, ◌/◌, ◌%◌, ◌<◌, ◌≤◌}
use mathlib.Core.Bool.{Bool, true, false, cond, ◌||◌}
use mathlib.Core.List.{List, [], ◌∷◌, ◌++◌, map}
use mathlib.Core.Path.{◌≡◌, refl, ap, sym, ◌∙◌}
use Rattle.std.proofs.Math.Bool.{or_assoc, or-false}
use Rattle.std.specs.List.{list_any}
use lib.Dec.{ltb}
use lib.ListN.{length, take, drop, get_or, set, replicate, length-drop, length-replicate}
use lib.Seq.{take_all, take-length, drop-drop, take-suc, set_at, length-take-le, append_snoc}
use native.Mathlib.Nat.{add-zero, sub-zero, mul-suc, mul-le-mul_left, not-suc-le-zero, mul-zero, le_of_suc-le-suc}
use native.Mathlib.Numerals.{add-one}
use native.Mathlib.Omega.{arith}
use Rattle.sets.specs.Sum.{any}
use Rattle.sets.proofs.Test.{is_false, fails}
use Rattle.sets.proofs.Sum.{any_at, any-from}
use borrow.Author.Tests.{le-ltb, ltb-true, ltb-false}
use Rattle.records.proofs.Outcomes.{or-false as neither}
use Rattle.records.specs.Bytes.{Bytes, field}
use Rattle.records.proofs.Bytes.{field-first, field-part, field-small, bytes_take, bytes_drop}
use Rattle.records.specs.Answer.{filled}
use Rattle.records.specs.Record.{records, any_of, step_at}
use Rattle.records.specs.Write.{All}
use Rattle.records.specs.declared.Found.{Found}
use Rattle.std.specs.Prelude.{Some, None}

-- the part `&s[k..]`
pub from-part : (s : List ℕ) (k : ℕ) → take (length s - k) (drop k s) ≡ drop k s
from-part s k = take_all (length s - k) (drop k s) (rw length-drop (omega arith))

-- room for one record more
pub mul-room : (size : ℕ) {i n : ℕ} → i < n → size * i + size ≤ size * n
mul-room size {i = i} h = rw mul-suc at (mul-le-mul_left size h)

pub length-records : (size n : ℕ) (s : List ℕ) → length (records size n s) ≡ n
unfolding records
length-records size zero s = refl
length-records size (suc n) s = ap suc (length-records size n (drop size s))

pub records-at : (size : ℕ) {i n : ℕ} (s : List ℕ) → i < n → get_or (records size n s) i [] ≡ take size (drop (size * i) s)
unfolding records
records-at size {i = i} {n = zero} s h = absurd (not-suc-le-zero h)
records-at size {i = zero} {n = suc n} s h = rw mul-zero
records-at size {i = suc i} {n = suc n} s h =
    let e : size * suc i ≡ size + size * i = rw mul-suc (omega arith) in
    rw (e, records-at size (drop size s) (le_of_suc-le-suc h), drop-drop)

pub records-from : (size k : ℕ) {i n : ℕ} (s : List ℕ) → i < n → get_or (records size n (drop k s)) i [] ≡ take size (drop (k + size * i) s)
records-from size k s h = rw (records-at size (drop k s) h, drop-drop)

-- a row of k places that is filled from the front
pub fill_step : {A : Type 0} (xs : List A) (i k : ℕ) (z d : A) → i < length xs → i < k
    → set (take i xs ++ replicate (k - i) z) i (get_or xs i d) ≡ take (i + 1) xs ++ replicate (k - (i + 1)) z
fill_step xs i k z d h l =
    let e : k - i ≡ suc (k - suc i) = omega arith in
    let m : i ≤ length xs = omega arith in
    rw (e, add-one, take-suc xs i d h, set_at (take i xs) z (replicate (k - suc i) z) (get_or xs i d) i (length-take-le i xs m), append_snoc)

pub fill-all : {A : Type 0} (xs : List A) (k : ℕ) (z : A) {n : ℕ} {ys : List A} → length xs ≡ n → ys ≡ take n xs ++ replicate (k - n) z → ys ≡ filled k xs z
fill-all xs k z h e = e ∙ rw (← h, take-length)

-- the first n of k zeros, and the others
abbrev pub zeros : ℕ → List ℕ
zeros k = replicate k 0

pub zeros-front : (n k : ℕ) → n ≤ k → length (take n (zeros k)) ≡ n
zeros-front n k h = length-take-le n (zeros k) (rw length-replicate h)

pub zeros-behind : (n k : ℕ) → drop n (zeros k) ≡ zeros (k - n)
zeros-behind zero k = rw sub-zero
zeros-behind (suc n) zero = let e : zero - suc n ≡ zero = omega arith in rw e
zeros-behind (suc n) (suc k) = let e : suc k - suc n ≡ k - n = omega arith in rw e (zeros-behind n k)

pub filled-front : (n k : ℕ) {ys zs : List ℕ} → ys ≡ zs → length zs ≡ n → ys ++ drop n (zeros k) ≡ filled k zs 0
filled-front n k e h = rw (e, h, zeros-behind n k)

-- one number more that is tested
pub any_step : (f : ℕ → Bool) (i : ℕ) → any f (i + 1) ≡ (any f i || f i)
unfolding any
any_step f i = rw add-one

-- the first number that is tested, and the others
any_first : (f : ℕ → Bool) (n : ℕ) → any f (suc n) ≡ (f 0 || any (λ i. f (suc i)) n)
unfolding any
any_first f zero = sym (or-false (f 0))
any_first f (suc n) = ap (λ (b : Bool). b || f (suc n)) (any_first f n) ∙ or_assoc (f 0) (any (λ i. f (suc i)) n) (f (suc n))

-- a test of the elements of a list, as a test of their indices
pub list_any-any : {A : Type 0} (p : A → Bool) (d : A) (xs : List A) → list_any p xs ≡ any (λ i. p (get_or xs i d)) (length xs)
unfolding any
list_any-any p d [] = refl
list_any-any p d (x ∷ xs) = ap (λ (b : Bool). p x || b) (list_any-any p d xs) ∙ sym (any_first (λ i. p (get_or (x ∷ xs) i d)) (length xs))

-- one record more that is tested, and all of them
pub test-next : (p : List ℕ → Bool) (rs : List (List ℕ)) (i : ℕ) {b x y : Bool} → b ≡ any (λ j. p (get_or rs j [])) i → x ≡ p (get_or rs i []) → y ≡ (b || x)
    → y ≡ any (λ j. p (get_or rs j [])) (i + 1)
test-next p rs i e f g = g ∙ rw (e, f, any_step)

pub test-all : (p : List ℕ → Bool) (rs : List (List ℕ)) {n : ℕ} {b : Bool} → length rs ≡ n → b ≡ any (λ j. p (get_or rs j [])) n → b ≡ any_of p rs
test-all p rs h e = e ∙ rw h

-- ---- what holds of every element

pub all_from : {A : Type 0} (P : A → Type 0) (d : A) (xs : List A) → ((i : ℕ) → i < length xs → P (get_or xs i d)) → All P xs
all_from P d [] h = tt
all_from P d (x ∷ xs) h = (h 0 (omega arith), all_from P d xs (λ i l. h (suc i) (omega arith)))

pub all-at : {A : Type 0} (P : A → Type 0) (d : A) (xs : List A) → All P xs → (i : ℕ) → i < length xs → P (get_or xs i d)
all-at P d [] a i h = absurd (not-suc-le-zero h)
all-at P d (x ∷ xs) a zero h = a.0
all-at P d (x ∷ xs) a (suc i) h = all-at P d xs a.1 i (le_of_suc-le-suc h)

pub all_map : {A B : Type 0} (g : A → B) (Q : A → Type 0) (P : B → Type 0) → ((a : A) → Q a → P (g a)) → (l : List A) → All Q l → All P (map g l)
all_map g Q P h [] a = tt
all_map g Q P h (x ∷ l) a = (h x a.0, all_map g Q P h l a.1)

pub all_both : {A : Type 0} (P Q : A → Type 0) (l : List A) → All P l → All Q l → All (λ (a : A). P a × Q a) l
all_both P Q [] a b = tt
all_both P Q (x ∷ l) a b = ((a.0, b.0), all_both P Q l a.1 b.1)

-- a test that applies to no record
pub none_of : (p : List ℕ → Bool) (rs : List (List ℕ)) → any_of p rs ≡ false → All (λ (r : List ℕ). p r ≡ false) rs
none_of p rs e =
    all_from (λ (r : List ℕ). p r ≡ false) [] rs
    (λ i l. is_false (p (get_or rs i [])) (λ t. fails (any_of p rs) e (any-from (λ j. p (get_or rs j [])) (length rs) i l t)))

pub of_none : (p : List ℕ → Bool) (rs : List (List ℕ)) → All (λ (r : List ℕ). p r ≡ false) rs → any_of p rs ≡ false
of_none p rs a =
    is_false (any_of p rs) (λ t.
    let w = any_at (λ j. p (get_or rs j [])) (length rs) t in
    fails (p (get_or rs w.0 [])) (all-at (λ (r : List ℕ). p r ≡ false) [] rs a w.0 w.1) w.2)

-- the head of a plan: its body is the group count and the site count
pub head-groups : (s : List ℕ) → Bytes s → 5 ≤ length s → field s 2 3 % 256 ≡ field s 2 1
head-groups s b h = omega (arith, field-first s 2 2 (omega arith), field-small s 2 1 b)

pub head-sites : (s : List ℕ) → Bytes s → 5 ≤ length s → field s 2 3 / 256 ≡ field s 3 2
head-sites s b h = omega (arith, field-first s 2 2 (omega arith), field-small s 2 1 b)

-- the mark and the body of the i-th of n records from a place of s on
pub record-fields : (from w : ℕ) {i n : ℕ} (s : List ℕ) → i < n
    → (field s (from + (2 + w) * i) 2 ≡ field (get_or (records (2 + w) n (drop from s)) i []) 0 2)
    × (field s (from + (2 + w) * i + 2) w ≡ field (get_or (records (2 + w) n (drop from s)) i []) 2 w)
record-fields from w {i = i} s h =
    let at : ℕ = from + (2 + w) * i in
    rw (records-from (2 + w) from s h, field-part s at (2 + w) 0 2 (omega arith), field-part s at (2 + w) 2 w (omega arith), add-zero at) (refl, refl)

-- the body of a site's record at a place of s: its bytes are the first depot, the second, and the litres
module _ (s : List ℕ) (at w : ℕ) (b : Bytes s) (l : at + (4 + w) ≤ length s) where
  abbrev body : ℕ
  body = field s (at + 2) (2 + w)

  abbrev rec : List ℕ
  rec = take (4 + w) (drop at s)

  pub body-parts : body ≡ field rec 2 1 + 256 * (field rec 3 1 + 256 * field rec 4 w)
  body-parts =
      let k : 2 + w ≡ suc (suc w) = omega arith in
      let k₃ : suc (at + 2) ≡ at + 3 = omega arith in
      let k₄ : suc (at + 3) ≡ at + 4 = omega arith in
      let e₂ = field-first s (at + 2) (suc w) (omega arith) in
      let e₃ = field-first s (at + 3) w (omega arith) in
      rw (k, field-part s at (4 + w) 2 1 (omega arith), field-part s at (4 + w) 3 1 (omega arith), field-part s at (4 + w) 4 w (omega arith))
      (rw (k₃, e₃, k₄) at e₂)

  pub body-first : body % 256 ≡ field rec 2 1
  body-first = omega (arith, body-parts, field-small rec 2 1 (bytes_take (4 + w) (drop at s) (bytes_drop at s b)))

  pub body-second : body / 256 % 256 ≡ field rec 3 1
  body-second =
      let c = bytes_take (4 + w) (drop at s) (bytes_drop at s b) in
      omega (arith, body-parts, field-small rec 2 1 c, field-small rec 3 1 c)

  pub body-litres : body / 65536 ≡ field rec 4 w
  body-litres =
      let c = bytes_take (4 + w) (drop at s) (bytes_drop at s b) in
      omega (arith, body-parts, field-small rec 2 1 c, field-small rec 3 1 c)

-- what a step says: a record, or that there is none
pub step-read : (s : List ℕ) (at w : ℕ) {x : Found} → Some x ≡ step_at s at w
    → (at + (2 + w) ≤ length s) × (x.mark ≡ field s at 2) × (x.body ≡ field s (at + 2) w)
step-read s at w {x} h =
    let c = read-cases (ltb 8 w || ltb (length s) (at + (2 + w))) h in
    (ltb-false (length s) (at + (2 + w)) (neither (ltb 8 w) (ltb (length s) (at + (2 + w))) c.0).1, ap (λ (y : Found). y.mark) c.1, ap (λ (y : Found). y.body) c.1)
  where
    read-cases : (t : Bool) {x y : Found} → Some x ≡ cond t None (Some y) → (t ≡ false) × (x ≡ y)
    read-cases true h = let z : ◌≡◌ {A = ℕ} 0 1 = cc in absurd (omega arith)
    read-cases false h = (refl, cc h)

pub step_end : (s : List ℕ) (at w : ℕ) → w ≤ 8 → None ≡ step_at s at w → length s < at + (2 + w)
step_end s at w h e = ltb-true (length s) (at + (2 + w)) (end-cases (ltb (length s) (at + (2 + w))) (record { mark = field s at 2; body = field s (at + 2) w; next = at + (2 + w) }) (rw (le-ltb 8 w h) at e))
  where
    end-cases : (t : Bool) (x : Found) → None ≡ cond t None (Some x) → t ≡ true
    end-cases true x h = refl
    end-cases false x h = let z : ◌≡◌ {A = ℕ} 0 1 = cc in absurd (omega arith)
