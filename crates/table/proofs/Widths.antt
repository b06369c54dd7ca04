-- Laws of the widths: narrow and wide sites are the same values; and loops that take a function of each of 512 elements. Assumes nothing.
use mathlib.Core.Path.{◌≡◌, refl, sym, ap, subst, ◌∙◌}
use mathlib.Core.List.{List, [], ◌∷◌, map}
use Prim.Native.Nat.{ℕ, zero, suc, ◌<◌, ◌^◌}
use native.Mathlib.Nat.{le_of_suc-le-suc, not-suc-le-zero}
use native.Mathlib.Omega.{arith}
use lib.ListN.{length, get_or, length-map, get_or-map}
use Rattle.std.proofs.lemmas.List.{same_lists, get_or_default}
use mir.Val.{Val}
use denote.Array.{Array, each}
use denote.Laws.{Is}
use denote.Shadow.{shadow}
use denote.Struct.Laws as LL
use Rattle.density.specs.declared.Site.{Site}
use Rattle.density.specs.Network.{no_site}
use Rattle.table.specs.declared.Site1.{Site1}
use Rattle.table.specs.Widths.{no_site1, widened, narrowed, LitresFit}
use Rattle.table.specs.contracts.Site1 as T
use Rattle.table.proofs.Site1.TheLaws as T'
use denote.RattleType.{RattleType}

pub all-narrowed-widened : (l : List Site1) → map narrowed (map widened l) ≡ l
all-narrowed-widened [] = refl
all-narrowed-widened (s ∷ l) = ap (λ (r : List Site1). s ∷ r) (all-narrowed-widened l)

pub all-widened-narrowed : (l : List Site) → map widened (map narrowed l) ≡ l
all-widened-narrowed [] = refl
all-widened-narrowed (s ∷ l) = ap (λ (r : List Site). s ∷ r) (all-widened-narrowed l)

pub widened-at : (l : List Site1) (i : ℕ) → get_or (map widened l) i no_site ≡ widened (get_or l i no_site1)
widened-at l i = get_or-map widened l i no_site1

pub narrowed_at : (l : List Site) (i : ℕ) → get_or (map narrowed l) i no_site1 ≡ narrowed (get_or l i no_site)
narrowed_at l i = get_or-map narrowed l i no_site

pub widened-injective : (l m : List Site1) → map widened l ≡ map widened m → l ≡ m
widened-injective l m e = sym (all-narrowed-widened l) ∙ ap (map narrowed) e ∙ all-narrowed-widened m

pub fit_at : (l : List Site) → LitresFit l → (i : ℕ) → i < length l → (get_or l i no_site).litres < 2 ^ 16
unfolding LitresFit
fit_at l h = h

-- a list with f of each element of another
pub mapped-is : {X Y : Type 0} (f : X → Y) (x : X) (l : List X) (r : List Y) → length r ≡ length l → ((k : ℕ) → k < length l → get_or r k (f x) ≡ f (get_or l k x)) → r ≡ map f l
mapped-is f x l r e h =
    same_lists r (map f l) (e ∙ sym (length-map l f)) (λ k d m.
    let n : k < length l = omega (arith, e) in
    get_or_default r k d (f x) m ∙ h k n ∙ sym (get_or-map f l k x) ∙ get_or_default (map f l) k (f x) d (omega (arith, length-map l f)))

-- a site of edition 1 as a type of the logic
abbrev S : RattleType
S = T.the_row

-- the litres of sites of edition 1 fit by their type
each_fits : (l : List Site1) (us : List Val) → shadow (each Site1 S.own_val l us) → (i : ℕ) → i < length l → (get_or l i no_site1).litres < 2 ^ 16
each_fits [] us is i h = absurd (not-suc-le-zero h)
each_fits (s ∷ l) [] is i h = absurd is
each_fits (s ∷ l) (u ∷ us) is zero h = (LL.owed T.the_type T'.the_laws s _ is.0).1.1.0.1
each_fits (s ∷ l) (u ∷ us) is (suc i) h = each_fits l us is.1 i (le_of_suc-le-suc h)

pub widened-fits : (n : ℕ) (l : List Site1) (vs : List Val) → Is (Array S n) l vs → LitresFit (map widened l)
unfolding LitresFit
widened-fits n l vs is i h =
    subst (λ (s : Site). s.litres < 2 ^ 16) (sym (widened-at l i)) (each_fits l is.0 is.1.1 i (subst (λ (k : ℕ). i < k) (length-map l widened) h))
