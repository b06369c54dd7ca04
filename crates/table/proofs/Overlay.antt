-- Laws of `overlay`, `between` and `blank`: none of the sites, one more, all of them; the length; what stands in front and behind; a copy stored back;
-- one place changed, and that it is all there is to store; and a function of each element. Assumes nothing.
use mathlib.Core.Path.{◌≡◌, refl, sym, ap, ◌∙◌}
use Prim.Native.Nat.{ℕ, zero, suc, ◌+◌, ◌≤◌, ◌<◌, min}
use native.Mathlib.Nat.{le_of_suc-le-suc, not-suc-le-zero}
use native.Mathlib.Omega.{arith}
use mathlib.Core.Logic.{⊎_elim}
use lib.Dec.{ltb, ltb→lt, nltb→le, not_T}
use mathlib.Core.List.{List, [], ◌∷◌, ◌++◌, map, map-append}
use lib.ListN.{length, get_or, set, take, drop, replicate, length-replicate, take-append-drop}
use lib.Seq.{take-set-le, take-set-lt, drop-set-lt, get_or-take, get_or-set_same, take_all, take-length}
use Rattle.sets.proofs.Test.{T?}
use Rattle.walks.proofs.Fronts.{front-next, front_length, front-all}
use Rattle.table.specs.Table.{overlay, between, blank, held_of}

module _ {X : Type 0} where
  pub blank-is : (x : X) → blank x ≡ replicate 512 x
  unfolding blank
  blank-is x = refl

  pub blank-length : (x : X) → length (blank x) ≡ 512
  unfolding blank
  blank-length x = length-replicate 512 x

  pub overlay-none : (sites table : List X) → overlay 0 sites table ≡ table
  unfolding overlay
  overlay-none sites table = refl

  pub overlay-next : (sites table : List X) (i : ℕ) (d : X) → i < length sites → i < length table → set (overlay i sites table) i (get_or sites i d) ≡ overlay (i + 1) sites table
  unfolding overlay
  overlay-next = front-next

  pub overlay-all : (sites table : List X) (n : ℕ) → length sites ≤ n → length table ≤ n → overlay n sites table ≡ sites
  unfolding overlay
  overlay-all = front-all

  pub overlay-length : (sites table : List X) (n : ℕ) → n ≤ length sites → n ≤ length table → length (overlay n sites table) ≡ length table
  unfolding overlay
  overlay-length = front_length

  front : (n m : ℕ) (sites rest : List X) → n ≤ m → m ≤ length sites → take n (take m sites ++ rest) ≡ take n sites
  front zero m sites rest a b = refl
  front (suc n) zero sites rest a b = absurd (not-suc-le-zero a)
  front (suc n) (suc m) [] rest a b = absurd (not-suc-le-zero b)
  front (suc n) (suc m) (x ∷ sites) rest a b = ap (λ (r : List X). x ∷ r) (front n m sites rest (le_of_suc-le-suc a) (le_of_suc-le-suc b))

  -- the result begins as the sites do
  pub overlay-front : (n m : ℕ) (sites table : List X) → n ≤ m → m ≤ length sites → take n (overlay m sites table) ≡ take n sites
  unfolding overlay
  overlay-front n m sites table = front n m sites (drop m table)

  pub overlay-at : (m : ℕ) (sites table : List X) (i : ℕ) (d : X) → i < m → m ≤ length sites → get_or (overlay m sites table) i d ≡ get_or sites i d
  overlay-at m sites table i d l b =
      sym (get_or-take m (overlay m sites table) i d l) ∙ ap (λ (r : List X). get_or r i d) (overlay-front m m sites table (omega arith) b) ∙ get_or-take m sites i d l

  -- only the sites' front matters
  pub overlay-cong : (n : ℕ) (sites sites' table : List X) → take n sites ≡ take n sites' → overlay n sites table ≡ overlay n sites' table
  unfolding overlay
  overlay-cong n sites sites' table e = ap (λ (r : List X). r ++ drop n table) e

  -- sites that begin as the table does change nothing
  pub overlay-same : (n : ℕ) (sites table : List X) → take n sites ≡ take n table → overlay n sites table ≡ table
  unfolding overlay
  overlay-same n sites table e = ap (λ (r : List X). r ++ drop n table) e ∙ take-append-drop n table

  -- a copy stored back changes nothing
  pub overlay-back : (n m : ℕ) (table rest : List X) → n ≤ m → m ≤ length table → overlay n (overlay m table rest) table ≡ table
  overlay-back n m table rest a b = overlay-same n (overlay m table rest) table (overlay-front n m table rest a b)

  -- with one site changed it is the table with that place changed
  pub overlay-set : (n : ℕ) (sites table : List X) (i : ℕ) (s : X) → i < n → take n sites ≡ take n table → overlay n (set sites i s) table ≡ set table i s
  unfolding overlay
  overlay-set n sites table i s l e =
      ap (λ (r : List X). r ++ drop n table) (take-set-lt n sites i s l ∙ ap (λ (r : List X). set r i s) e ∙ sym (take-set-lt n table i s l))
      ∙ ap (λ (r : List X). take n (set table i s) ++ r) (sym (drop-set-lt n table i s l)) ∙ take-append-drop n (set table i s)

  behind : (n : ℕ) (sites table : List X) (i : ℕ) (d : X) → n ≤ i → n ≤ length sites → i < length table → get_or (take n sites ++ drop n table) i d ≡ get_or table i d
  behind zero sites table i d a b l = refl
  behind (suc n) [] table i d a b l = absurd (not-suc-le-zero b)
  behind (suc n) (x ∷ sites) [] i d a b l = absurd (not-suc-le-zero l)
  behind (suc n) (x ∷ sites) (y ∷ table) zero d a b l = absurd (not-suc-le-zero a)
  behind (suc n) (x ∷ sites) (y ∷ table) (suc i) d a b l = behind n sites table i d (le_of_suc-le-suc a) (le_of_suc-le-suc b) (le_of_suc-le-suc l)

  pub overlay-behind : (n : ℕ) (sites table : List X) (i : ℕ) (d : X) → n ≤ i → n ≤ length sites → i < length table → get_or (overlay n sites table) i d ≡ get_or table i d
  unfolding overlay
  overlay-behind = behind

  -- no place, one place more, one place, the first places; and the length
  pub between_none : (i : ℕ) (sites table : List X) → i ≤ length table → between i i sites table ≡ table
  between_none i sites table l = overlay-back i i table sites (omega arith) l

  pub between_next : (sites table : List X) (from i : ℕ) (d : X) → from ≤ i → i < length sites → i < length table → set (between from i sites table) i (get_or sites i d) ≡ between from (i + 1) sites table
  between_next sites table from i d a l m =
      ap (λ (x : X). set (between from i sites table) i x) (sym (overlay-behind from table sites i d a (omega (arith, a, m)) l))
      ∙ overlay-next (overlay from table sites) table i d (omega (arith, l, overlay-length table sites from (omega (arith, a, m)) (omega (arith, a, l)))) m

  pub between-one : (i : ℕ) (sites table : List X) (d : X) → i < length sites → i < length table → between i (i + 1) sites table ≡ set table i (get_or sites i d)
  between-one i sites table d l m =
      sym (between_next sites table i i d (omega arith) l m) ∙ ap (λ (r : List X). set r i (get_or sites i d)) (between_none i sites table (omega (arith, m)))

  pub between_first : (n : ℕ) (sites table : List X) → between 0 n sites table ≡ overlay n sites table
  between_first n sites table = ap (λ (r : List X). overlay n r table) (overlay-none table sites)

  pub between-length : (sites table : List X) (from to : ℕ) → from ≤ to → to ≤ length sites → to ≤ length table → length (between from to sites table) ≡ length table
  between-length sites table from to a l m =
      overlay-length (overlay from table sites) table to (omega (arith, l, overlay-length table sites from (omega (arith, a, m)) (omega (arith, a, l)))) m

  -- where the first n sites change one place, it is all that there is to store; and where it is not one of the first n, nothing is
  pub overlay-one : (n : ℕ) (sites table : List X) (i : ℕ) (x : X) → i < n → n ≤ length sites → n ≤ length table → overlay n sites table ≡ set table i x → between i (i + 1) sites table ≡ overlay n sites table
  overlay-one n sites table i x l a b e =
      let found : get_or sites i x ≡ x = sym (overlay-at n sites table i x l a) ∙ ap (λ (r : List X). get_or r i x) e ∙ get_or-set_same table i x x (omega (arith, l, b)) in
      between-one i sites table x (omega (arith, l, a)) (omega (arith, l, b)) ∙ ap (λ (y : X). set table i y) found ∙ sym e

  pub overlay-beyond : (n : ℕ) (sites table : List X) (i : ℕ) (x : X) → n ≤ i → n ≤ length sites → overlay n sites table ≡ set table i x → overlay n sites table ≡ table
  overlay-beyond n sites table i x l a e = overlay-same n sites table (sym (overlay-front n n sites table (omega arith) a) ∙ ap (take n) e ∙ take-set-le n table i x l)

  -- what is held of a table has 512 places, and begins as the table does
  pub held-length : (x : X) (table : List X) → length (held_of x table) ≡ 512
  held-length x table = overlay-length table (blank x) (min (length table) 512) (omega arith) (omega (arith, blank-length x)) ∙ blank-length x

  pub held-front : (x : X) (table : List X) (n : ℕ) → n ≤ 512 → n ≤ length table → take n (held_of x table) ≡ take n table
  held-front x table n a b = overlay-front n (min (length table) 512) table (blank x) (omega arith) (omega arith)

  -- it stands for the table: as far as the table reaches, it is the table's first 512 places
  pub held-stands : (x : X) (table : List X) → take (length table) (held_of x table) ≡ take 512 table
  held-stands x table =
      ⊎_elim
      (λ t.
      let l : length table < 512 = ltb→lt (length table) 512 t in
      held-front x table (length table) (omega arith) (omega arith) ∙ take-length table ∙ sym (take_all 512 table (omega arith)))
      (λ n.
      let l : 512 ≤ length table = nltb→le (length table) 512 (not_T (ltb (length table) 512) n) in
      let h = held_of x table in
      take_all (length table) h (omega (arith, held-length x table)) ∙ sym (take_all 512 h (omega (arith, held-length x table)))
      ∙ held-front x table 512 (omega arith) l)
      (T? (ltb (length table) 512))

module _ {X Y : Type 0} (f : X → Y) where
  pub map-take : (n : ℕ) (l : List X) → map f (take n l) ≡ take n (map f l)
  map-take zero l = refl
  map-take (suc n) [] = refl
  map-take (suc n) (x ∷ l) = ap (λ (r : List Y). f x ∷ r) (map-take n l)

  pub map-drop : (n : ℕ) (l : List X) → map f (drop n l) ≡ drop n (map f l)
  map-drop zero l = refl
  map-drop (suc n) [] = refl
  map-drop (suc n) (x ∷ l) = map-drop n l

  pub map-overlay : (n : ℕ) (sites table : List X) → map f (overlay n sites table) ≡ overlay n (map f sites) (map f table)
  unfolding overlay
  map-overlay n sites table = map-append f (take n sites) (drop n table) ∙ ap (λ (r : List Y). r ++ map f (drop n table)) (map-take n sites) ∙ ap (λ (r : List Y). take n (map f sites) ++ r) (map-drop n table)

  pub map-between : (from to : ℕ) (sites table : List X) → map f (between from to sites table) ≡ between from to (map f sites) (map f table)
  map-between from to sites table = map-overlay to (overlay from table sites) table ∙ ap (λ (r : List Y). overlay to r (map f table)) (map-overlay from table sites)
