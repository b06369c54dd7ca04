-- The loops that fill the arrays from a list of sites, and copy the shares out. Assumes nothing.
use mathlib.Core.Bool.{Bool, false, true}
use mathlib.Core.List.{List, ◌++◌}
use mathlib.Core.Logic.{⊎_elim}
use mathlib.Core.Path.{◌∙◌, ◌≡◌, ap, subst}
use Prim.Native.Nat.{◌+◌, ◌<◌, ◌^◌, ◌≤◌, ◌-◌, ℕ}
use native.Mathlib.Omega.{arith}
use lib.ListN.{drop, get_or, length, length-set, replicate, set, take}
use lib.Seq.{get_or-set_other, get_or-set_same}
use Rattle.std.proofs.lemmas.Grind.{common_steps}
use Rattle.std.proofs.lemmas.List.{get_or-append_right, get_or-drop, take-append-le}
use Rattle.density.specs.Network.{no_site, end}
use Rattle.density.specs.declared.Site.{Site}
use Rattle.residual.specs.Array.{at}
use Rattle.residual.proofs.Laws.{below?}
use Rattle.attempt.specs.Arrays.{arc}
use Rattle.attempt.proofs.Laws.{zero-at}
use Rattle.decompose.specs.Arrays.{Copied, Filling}

-- two stores, at both arcs of site i
module _ (xs : List ℕ) (i a b : ℕ) (wide : length xs ≡ 1024) (l : i < 512) where
  abbrev both : List ℕ
  both = set (set xs i a) (512 + i) b

  stored_here : (e : Bool) (s : Site) → a ≡ s.first → b ≡ s.second → at both (arc e i) ≡ end e s
  stored_here true s f g = get_or-set_other (set xs i a) (512 + i) i b 0 (λ z. omega arith) ∙ get_or-set_same xs i a 0 (omega arith) ∙ f
  stored_here false s f g = get_or-set_same (set xs i a) (512 + i) b 0 (simp length-set (omega arith)) ∙ g

  stored_there : (e : Bool) (k : ℕ) → k < 512 → (k ≡ i → ⊥) → at both (arc e k) ≡ at xs (arc e k)
  stored_there true k m n = get_or-set_other (set xs i a) (512 + i) k b 0 (λ z. omega arith) ∙ get_or-set_other xs i k a 0 n
  stored_there false k m n = get_or-set_other (set xs i a) (512 + i) (512 + k) b 0 (λ z. n (omega arith)) ∙ get_or-set_other xs i (512 + k) a 0 (λ z. omega arith)

pub fill-goes : {table : List Site} {ends litres ends' litres' : List ℕ} {i : ℕ} (x : Site) → Filling table ends litres i → i < 512 → x ≡ get_or table i no_site
    → ends' ≡ set (set ends i x.first) (512 + i) x.second → litres' ≡ set litres i x.litres → x.litres < 2 ^ 32 → Filling table ends' litres' (i + 1)
fill-goes {table} {ends} {litres} {ends'} {litres'} {i} x f l e p q small = rw (p, q) (record {
  arcs = simp length-set f.arcs;
  sizes = simp length-set f.sizes;
  low = omega arith;
  depot = λ s k m. ⊎_elim
      (λ (z : k < i). stored_there ends i x.first x.second f.arcs l s k (omega arith) (λ y. omega arith) ∙ f.depot s k z)
      (λ (z : i ≤ k). let y : k ≡ i = omega arith in rw y (stored_here ends i x.first x.second f.arcs l s (get_or table i no_site) (ap (λ (w : Site). w.first) e) (ap (λ (w : Site). w.second) e)))
      (below? k i);
  litre = λ k m. ⊎_elim
      (λ (z : k < i). there k (λ y. omega arith) ∙ f.litre k z)
      (λ (z : i ≤ k). let y : k ≡ i = omega arith in rw y (here ∙ ap (λ (w : Site). w.litres) e))
      (below? k i);
  fits = λ k m. ⊎_elim
      (λ (z : k < i). rw (there k (λ y. omega arith)) (f.fits k z))
      (λ (z : i ≤ k). let y : k ≡ i = omega arith in rw (y, here) small)
      (below? k i);
  blank = λ s k m h. stored_there ends i x.first x.second f.arcs l s k h (λ y. omega arith) ∙ f.blank s k (omega arith) h;
  none = λ k m h. there k (λ y. omega arith) ∙ f.none k (omega arith) h;
})
  where
    here : at (set litres i x.litres) i ≡ x.litres
    here = get_or-set_same litres i x.litres 0 (omega (arith, f.sizes))

    there : (k : ℕ) → (k ≡ i → ⊥) → at (set litres i x.litres) k ≡ at litres k
    there k n = get_or-set_other litres i k x.litres 0 n

pub fill-ends : {table : List Site} {ends litres : List ℕ} {i n : ℕ} → Filling table ends litres i → i ≡ n → Filling table ends litres n
fill-ends {table} {ends} {litres} f e = subst (Filling table ends litres) e f

-- the shares of the first depots, copied
pub copied : {share out : List ℕ} (n : ℕ) → out ≡ take n share → n ≤ 512 → length share ≡ 1024 → Copied share n (out ++ drop n (replicate 512 0))
copied {share} {out} n e h w =
    let size : length out ≡ n = ap length e ∙ grind (arith, common_steps) in
    record {
      first = take-append-le n out (drop n (replicate 512 0)) (omega arith) ∙ ap (take n) e ∙ grind (arith, common_steps);
      beyond = λ i l. get_or-append_right out (drop n (replicate 512 0)) n i 0 size l ∙ get_or-drop n (replicate 512 0) (i - n) 0 ∙ zero-at 512 (n + (i - n));
    }
