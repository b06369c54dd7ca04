-- The check's mathematics: a level plan whose groups fall strictly is true, and the groups of the definition fall strictly. Assumes nothing.
use mathlib.Core.Path.{◌≡◌, refl, sym, ap, ◌∙◌, subst, transport}
use mathlib.Core.Logic.{⊎_elim}
use mathlib.Core.Bool.{Bool, true, false}
use mathlib.Core.List.{List}
use Prim.Native.Nat.{ℕ, zero, suc, ◌+◌, ◌-◌, ◌*◌, ◌≤◌, ◌<◌, max}
use native.Mathlib.Nat.{le_refl, le_of_suc-le-suc, eq-or-lt_of_le, le_of_suc-le, add-sub_of_le}
use native.Mathlib.Omega.{arith}
use lib.Dec.{T, eqb, eqb→eq}
use lib.ListN.{length}
use lib.Seq.{take-length}
use Rattle.sets.specs.Sum.{all}
use Rattle.sets.specs.Set.{Depots, ∅, ◌∪◌, ◌⊆◌, Apart}
use Rattle.density.specs.Network.{Network, Valid, touches, within, counts, litres, size, end}
use Rattle.density.specs.declared.Site.{Site}
use Rattle.density.specs.Groups.{Candidate, Next, Decomposition}
use Rattle.density.specs.Plan.{union, group, before, place, carrier, group_size, group_litres, whole, first_share, second_share, Rules, share_of, load, target, Shared, Falling}
use Rattle.sets.proofs.Test.{or_l, or_r, or_cases, and_i, and_l, and_r, T-ext, eq→eqb, when-cong}
use Rattle.sets.proofs.Sum.{sum-cong}
use Rattle.density.proofs.Next.{falls}
use Rattle.density.proofs.Sound.{Below, below_end, below_next, next-of-dense}
use Rattle.density.proofs.Level.{Spread, load_of, dense}
use Rattle.density.proofs.Places.{before→, →before, group→, →group, before-suc, follow-from, follow-next, follow-listed}

-- what the first (true) and the second depot of a site have of it
abbrev pub shares : Network → List ℕ → List ℕ → Bool → ℕ → ℕ
shares N gs ss true = first_share ss
shares N gs ss false = second_share N gs ss

-- a depot in an earlier group than the carrying one has 0
pub earlier : (N : Network) (gs ss : List ℕ) (i : ℕ) → Rules N gs ss i → (e : Bool) → place gs (end e (N.site i)) < carrier gs (N.site i) → shares N gs ss e i ≡ 0
earlier N gs ss i r true = r.first-earlier
earlier N gs ss i r false = r.second-earlier

-- where no group meets an earlier one, a depot is in the group at its place and in no other
module _ (gs : List ℕ) (apart : (k : ℕ) → k < length gs → Apart (group gs k) (before gs k)) where
  pub group-place : (k d : ℕ) → k < length gs → T (group gs k d) → place gs d ≡ k
  group-place k d l t =
      ⊎_elim suc-inj' (λ m. absurd (apart k l d t (→before gs k d (le_of_suc-le l) (le_of_suc-le-suc m)))) (eq-or-lt_of_le (group→ gs k d l t))
    where
      suc-inj' : suc (place gs d) ≡ suc k → place gs d ≡ k
      suc-inj' e = omega arith

  upto : (k d : ℕ) → k < length gs → place gs d ≤ k → T ((group gs k ∪ before gs k) d)
  upto k d l h =
      ⊎_elim (λ e. or_l (group gs k d) (before gs k d) (→group gs k d l e)) (λ m. or_r (group gs k d) (before gs k d) (→before gs k d (le_of_suc-le l) m))
      (eq-or-lt_of_le h)

  upto→ : (k d : ℕ) → k < length gs → T ((group gs k ∪ before gs k) d) → place gs d ≤ k
  upto→ k d l t =
      ⊎_elim (λ g. omega (arith, group→ gs k d l g)) (λ b. omega (arith, before→ gs k d b)) (or_cases (group gs k d) (before gs k d) t)

  -- the sites that group k carries are those that its litres count
  pub counts-carrier : (k : ℕ) → k < length gs → (s : Site) → counts (group gs k) (before gs k) s ≡ eqb (carrier gs s) k
  unfolding carrier
  counts-carrier k l s = T-ext (counts X G s) (eqb (max a b) k) to from
    where
      X : Depots
      X = group gs k

      G : Depots
      G = before gs k

      a : ℕ
      a = place gs s.first

      b : ℕ
      b = place gs s.second

      to : T (counts X G s) → T (eqb (max a b) k)
      to t =
          let w = and_l (within (X ∪ G) s) (touches X s) t in
          let p = upto→ k s.first l (and_l ((X ∪ G) s.first) ((X ∪ G) s.second) w) in
          let q = upto→ k s.second l (and_r ((X ∪ G) s.first) ((X ∪ G) s.second) w) in
          eq→eqb (max a b) k
          (⊎_elim (λ t. omega (arith, group-place k s.first l t)) (λ t. omega (arith, group-place k s.second l t))
          (or_cases (X s.first) (X s.second) (and_r (within (X ∪ G) s) (touches X s) t)))

      from : T (eqb (max a b) k) → T (counts X G s)
      from t =
          let e : max a b ≡ k = eqb→eq (max a b) k t in
          let p : a ≤ k = omega arith in
          and_i (within (X ∪ G) s) (touches X s)
          (and_i ((X ∪ G) s.first) ((X ∪ G) s.second) (upto k s.first l p) (upto k s.second l (omega arith)))
          (⊎_elim (λ f. or_l (X s.first) (X s.second) (→group gs k s.first l f))
          (λ f. or_r (X s.first) (X s.second) (→group gs k s.second l (omega arith))) (eq-or-lt_of_le p))

  pub group-litres : (N : Network) (k : ℕ) → k < length gs → group_litres N gs k ≡ litres N (group gs k) (before gs k)
  unfolding group_litres litres
  group-litres N k l = sum-cong _ _ N.count (λ i m. when-cong _ _ _ (sym (counts-carrier k l (N.site i))))

pub union→ : (gs : List ℕ) (d : ℕ) → T (union gs d) → place gs d < length gs
union→ gs d t = before→ gs (length gs) d (subst (λ (l : List ℕ). T (union l d)) (sym (take-length gs)) t)

pub →union : (gs : List ℕ) (d : ℕ) → place gs d < length gs → T (union gs d)
→union gs d h = subst (λ (l : List ℕ). T (union l d)) (take-length gs) (→before gs (length gs) d (le_refl (length gs)) h)

-- the fall from group k to the next, by litres given the groups before
pub fall : (N : Network) (gs : List ℕ) → ((k : ℕ) → k < length gs → Apart (group gs k) (before gs k)) → (k : ℕ) → suc k < length gs
    → (group_litres N gs (suc k) * group_size N gs k < group_litres N gs k * group_size N gs (suc k))
    ≡ (litres N (group gs (suc k)) (before gs (suc k)) * size N (group gs k) < litres N (group gs k) (before gs k) * size N (group gs (suc k)))
unfolding group_size
fall N gs a k l = rw (group-litres gs a N (suc k) l, group-litres gs a N k (le_of_suc-le l))

module _ (N : Network) (ok : Valid N) (gs ss : List ℕ) (f : Falling N gs) (s : Shared N gs ss) where
  carried : (k : ℕ) → k < length gs → (i : ℕ) → T (counts (group gs k) (before gs k) (N.site i)) → carrier gs (N.site i) ≡ k
  carried k l i t = eqb→eq _ _ (subst T (counts-carrier gs f.apart k l (N.site i)) t)

  candidate : (k : ℕ) → k < length gs → Candidate N (before gs k) (group gs k)
  candidate k l =
      record {
        some = f.some k l;
        listed = λ d t. subst T (f.listed d) (→union gs d (omega (arith, group→ gs k d l t)));
        free = f.apart k l;
      }

  spread : (k : ℕ) → k < length gs → Spread N (before gs k) (group gs k) (shares N gs ss)
  unfolding first_share second_share whole group_size
  spread k l =
      record {
        whole = λ i m t. add-sub_of_le (s.rules i m).bound ∙ ap (λ j. (N.site i).litres * size N (group gs j)) (carried k l i t);
        free = λ e i m t b. earlier N gs ss i (s.rules i m) e (omega (arith, before→ gs k _ b, carried k l i t));
      }

  level : (k : ℕ) → k < length gs → (d : ℕ) → T (group gs k d)
      → load_of N (before gs k) (group gs k) (shares N gs ss) d ≡ N.crews d * litres N (group gs k) (before gs k)
  unfolding load load_of share_of target
  level k l d t =
      let e = group-place gs f.apart k d l t in
      sum-cong _ _ N.count
      (λ i m. when-cong _ _ _ (counts-carrier gs f.apart k l (N.site i) ∙ ap (λ j. eqb (carrier gs (N.site i)) j) (sym e)))
      ∙ s.level d ((candidate k l).listed d t)
      ∙ ap (λ n. N.crews d * n) (ap (group_litres N gs) e ∙ group-litres gs f.apart N k l)

  step : (k : ℕ) → k < length gs → Below N (before gs (suc k)) (litres N (group gs k) (before gs k)) (size N (group gs k))
      → Next N (before gs k) (group gs k)
  step k l b =
      next-of-dense N (before gs k) (group gs k) (dense N ok (before gs k) (group gs k) _ (spread k l) (level k l) (candidate k l))
      (rw (before-suc gs k l) at b)

  -- from the last group to the first
  next-at : (r k : ℕ) → suc k + r ≡ length gs → Next N (before gs k) (group gs k)
  next-at zero k e =
      step k (omega arith)
      (below_end N (before gs (suc k)) _ _
      (λ d t. →before gs (suc k) d (omega arith) (omega (arith, union→ gs d (subst T (sym (f.listed d)) t)))))
  next-at (suc r) k e =
      step k (omega arith)
      (below_next N ok (before gs (suc k)) (group gs (suc k)) _ _ (next-at r (suc k) (omega arith))
      (transport (fall N gs f.apart k (omega arith)) (f.falls k (omega arith))))

  pub sound : Decomposition N gs
  unfolding Decomposition
  sound = follow-from N ∅ gs (λ k l. next-at (length gs - suc k) k (omega arith)) (λ d t. subst T (sym (f.listed d)) t)

-- candidates one after the other that hold every listed depot, each less dense than the one before
pub falling-of : (N : Network) (gs : List ℕ) → ((k : ℕ) → k < length gs → Candidate N (before gs k) (group gs k)) → N.listed ⊆ union gs
    → ((k : ℕ) → suc k < length gs
    → litres N (group gs (suc k)) (before gs k ∪ group gs k) * size N (group gs k) < litres N (group gs k) (before gs k) * size N (group gs (suc k)))
    → Falling N gs
falling-of N gs x all down =
    record {
      some = λ k l. (x k l).some;
      apart = λ k l. (x k l).free;
      listed = λ d.
          T-ext (union gs d) (N.listed d)
          (λ t. let p = union→ gs d t in (x (place gs d) p).listed d (→group gs (place gs d) d p refl)) (all d);
      falls = λ k l. transport (sym (fall N gs (λ k l. (x k l).free) k l)) (rw (before-suc gs k (le_of_suc-le l)) (down k l));
    }

pub complete : (N : Network) → Valid N → (gs : List ℕ) → Decomposition N gs → Falling N gs
unfolding Decomposition
complete N ok gs h =
    falling-of N gs (λ k l. (next k l).candidate) (follow-listed N ∅ gs h)
    (λ k l.
    falls N ok (before gs k) (group gs k) (group gs (suc k)) (next k (le_of_suc-le l)) (rw (before-suc gs k (le_of_suc-le l)) at (next (suc k) l)))
  where
    next : (k : ℕ) → k < length gs → Next N (before gs k) (group gs k)
    next = follow-next N ∅ gs h
