-- The last group. A depot is idle here if no site with litres names it. A group with W 0 is all that was left, so it is the last, and its depots are idle; an idle depot would make any other group less dense. Where
-- every site has litres, the idle depots are those without sites. Assumes nothing.
use mathlib.Core.Path.{◌≡◌, refl, sym, ap, ◌∙◌, subst, fun_ext}
use mathlib.Core.Logic.{◌↔◌, ⊎_elim}
use mathlib.Core.Bool.{Bool, true, false, not, ◌&&◌, ◌||◌}
use mathlib.Core.List.{List}
use Prim.Native.Nat.{ℕ, suc, ◌*◌, ◌≤◌, ◌<◌}
use native.Mathlib.Nat.{le_trans, lt_irrefl, eq-zero-or-pos, eq-or-lt_of_le, mul-le-mul_right, le_of_mul-le-mul_right, mul_comm}
use native.Mathlib.Omega.{arith}
use lib.Dec.{T, T_not, not_T, eqb, ltb, eqb→eq, lt→ltb, ltb→lt}
use lib.ListN.{length}
use Rattle.sets.specs.Sum.{when, any}
use Rattle.sets.specs.Set.{Depots, only, ∅, ◌∪◌, ◌∖◌, ◌⊆◌}
use Rattle.density.specs.Network.{Listing, Network, Valid, named, enrolled, network, names, touches, within, counts, litres, size}
use Rattle.density.specs.Groups.{Candidate, Next, Decomposition}
use Rattle.density.specs.Plan.{group, before, place, carrier, group_litres, group_size, Falling}
use Rattle.density.specs.Isolated.{isolated, NoSiteStands, TheirGroup, IsolatedLast}
use Rattle.sets.proofs.Test.{or_l, or_r, or_cases, and_i, and_l, and_r, T?, T-ext, eq→eqb, when-on, when-off, when-≤, when-mono, and_mono}
use Rattle.sets.proofs.Sum.{sum_mono, sum-term, sum-zero, any_at, any-from, any-cong}
use Rattle.density.proofs.Litres.{size-lt, size-pos, litres-empty, some?}
use Rattle.density.proofs.Next.{at_most}
use Rattle.density.proofs.Places.{before-suc, →group, follow-next}
use Rattle.density.proofs.Plans.{union→, group-litres, complete}

unfoldable idle : Network → Depots
idle N d = N.listed d && not (any (λ i. names (N.site i) d && ltb 0 (N.site i).litres) N.count)

-- a site that an idle depot is named by has no litres
idle-dry : (N : Network) (d i : ℕ) → T (idle N d) → i < N.count → T (names (N.site i) d) → (N.site i).litres ≡ 0
unfolding idle
idle-dry N d i t l m =
    ⊎_elim (λ z. z)
    (λ p. absurd (T_not (any test N.count) (and_r (N.listed d) _ t) (any-from test N.count i l (and_i (names (N.site i) d) _ m (lt→ltb 0 _ p)))))
    (eq-zero-or-pos (N.site i).litres)
  where
    test : ℕ → Bool
    test i = names (N.site i) d && ltb 0 (N.site i).litres

-- of a list they are the depots that have crews in the roll and that no site names
beside : (a b : Bool) → (a || b) && not a ≡ b && not a
beside true true = refl
beside true false = refl
beside false true = refl
beside false false = refl

pub isolated-of : (l : Listing) (d : ℕ) → isolated (network l) d ≡ enrolled l.roll d && not (named l d)
unfolding isolated network
isolated-of l d = beside (named l d) (enrolled l.roll d)

pub isolated-listed : (N : Network) → isolated N ⊆ N.listed
unfolding isolated
isolated-listed N d t = and_l (N.listed d) _ t

idle-listed : (N : Network) → idle N ⊆ N.listed
unfolding idle
idle-listed N d t = and_l (N.listed d) _ t

-- and a listed depot that only such sites name is idle
dry-idle : (N : Network) (d : ℕ) → T (N.listed d) → ((i : ℕ) → i < N.count → T (names (N.site i) d) → (N.site i).litres ≡ 0) → T (idle N d)
unfolding idle
dry-idle N d t h =
    and_i (N.listed d) _ t
    (not_T (any test N.count)
    (λ u.
    let r = any_at test N.count u in
    let p = ltb→lt 0 (N.site r.0).litres (and_r (names (N.site r.0) d) _ r.2) in
    let z = h r.0 r.1 (and_l (names (N.site r.0) d) _ r.2) in
    let no : ⊥ = omega (arith, p, z) in
    no))
  where
    test : ℕ → Bool
    test i = names (N.site i) d && ltb 0 (N.site i).litres

module _ (N : Network) (ok : Valid N) (G X : Depots) (x : Next N G X) where
  -- the listed depots not yet grouped
  abbrev left : Depots
  left = N.listed ∖ G

  left-candidate : Candidate N G left
  left-candidate =
      let d = x.candidate.some.0 in
      let t = x.candidate.some.1 in
      record {
        some = (d, and_i (N.listed d) (not (G d)) (x.candidate.listed d t) (not_T (G d) (x.candidate.free d t)));
        listed = λ d t. and_l (N.listed d) (not (G d)) t;
        free = λ d t. T_not (G d) (and_r (N.listed d) (not (G d)) t);
      }

  pos : 0 < size N X
  pos = size-pos N ok X x.candidate.listed x.candidate.some

  module _ (z : litres N X G ≡ 0) where
    left-dry : litres N left G ≡ 0
    left-dry =
        ⊎_elim (λ e. e)
        (λ p.
        absurd
        (let no : ⊥ = omega (arith, mul-le-mul_right (size N X) p, (at_most N G X x left left-candidate).no-denser, ap (λ n. n * size N left) z, pos) in no))
        (eq-zero-or-pos (litres N left G))

    -- so it is the largest of those with no litres
    left_in : left ⊆ X
    left_in d t =
        ⊎_elim (λ u. u)
        (λ n.
        absurd
        (lt_irrefl (size N X)
        (le_trans
        (size-lt N ok X left
        (λ e u. and_i (N.listed e) (not (G e)) (x.candidate.listed e u) (not_T (G e) (x.candidate.free e u))) d
        (and_l (N.listed d) (not (G d)) t) t n)
        ((at_most N G X x left left-candidate).no-larger (rw (z, left-dry) (omega arith))))))
        (T? (X d))

    -- a site that names one of its depots lies among these and the grouped ones, and counts
    dry : (d i : ℕ) → T (X d) → i < N.count → T (names (N.site i) d) → (N.site i).litres ≡ 0
    unfolding litres
    dry d i t l m =
        let s = N.site i in
        let c : T (counts left G s) =
        and_i (within (left ∪ G) s) (touches left s)
        (and_i ((left ∪ G) s.first) ((left ∪ G) s.second) (anywhere s.first (ok.first-listed i l)) (anywhere s.second (ok.second-listed i l)))
        (⊎_elim (λ e. or_l (left s.first) _ (subst (λ k. T (left k)) (sym (eqb→eq _ d e)) here)) (λ e. or_r (left s.first) _ (subst (λ k. T (left k)) (sym (eqb→eq _ d e)) here))
        (or_cases (eqb s.first d) (eqb s.second d) m)) in
        omega (arith, sum-term (λ i. when (counts left G (N.site i)) (N.site i).litres) i N.count l, when-on (counts left G s) s.litres c, left-dry)
      where
        here : T (left d)
        here = and_i (N.listed d) (not (G d)) (x.candidate.listed d t) (not_T (G d) (x.candidate.free d t))

        anywhere : (e : ℕ) → T (N.listed e) → T ((left ∪ G) e)
        anywhere e u = ⊎_elim (or_r (left e) (G e)) (λ n. or_l (left e) (G e) (and_i (N.listed e) (not (G e)) u (not_T (G e) n))) (T? (G e))

    dry-in : X ⊆ idle N
    dry-in d t = dry-idle N d (x.candidate.listed d t) (λ i. dry d i t)

  -- an idle depot adds a crew and no litres
  module _ (d : ℕ) (t : T (X d)) (h : T (idle N d)) where
    abbrev rest : Depots
    rest = X ∖ only d

    rest-litres : litres N X G ≤ litres N rest G
    unfolding litres
    rest-litres = sum_mono _ _ N.count each
      where
        keeps : (e : ℕ) → (T (eqb e d) → ⊥) → T (X e) → T (rest e)
        keeps e n u = and_i (X e) (not (eqb e d)) u (not_T (eqb e d) n)

        up : (e : ℕ) → (T (eqb e d) → ⊥) → T ((X ∪ G) e) → T ((rest ∪ G) e)
        up e n u = ⊎_elim (λ v. or_l (rest e) (G e) (keeps e n v)) (or_r (rest e) (G e)) (or_cases (X e) (G e) u)

        each : (i : ℕ) → i < N.count → when (counts X G (N.site i)) (N.site i).litres ≤ when (counts rest G (N.site i)) (N.site i).litres
        each i l =
            let s = N.site i in
            ⊎_elim (λ m. omega (arith, idle-dry N d i h l m, when-≤ (counts X G s) s.litres))
            (λ n.
            let f : T (eqb s.first d) → ⊥ = λ u. n (or_l (eqb s.first d) (eqb s.second d) u) in
            let g : T (eqb s.second d) → ⊥ = λ u. n (or_r (eqb s.first d) (eqb s.second d) u) in
            when-mono (counts X G s) (counts rest G s) s.litres
            (and_mono (within (X ∪ G) s) (within (rest ∪ G) s) (touches X s) (touches rest s)
            (and_mono ((X ∪ G) s.first) ((rest ∪ G) s.first) ((X ∪ G) s.second) ((rest ∪ G) s.second) (up s.first f) (up s.second g))
            (λ u. ⊎_elim (λ v. or_l (rest s.first) (rest s.second) (keeps s.first f v)) (λ v. or_r (rest s.first) (rest s.second) (keeps s.second g v)) (or_cases (X s.first) (X s.second) u))))
            (T? (names s d))

    in-X : rest ⊆ X
    in-X e u = and_l (X e) (not (eqb e d)) u

    in-listed : rest ⊆ N.listed
    in-listed e u = x.candidate.listed e (in-X e u)

    smaller : size N rest < size N X
    smaller = size-lt N ok rest X in-X d (x.candidate.listed d t) t (λ u. T_not (eqb d d) (and_r (X d) (not (eqb d d)) u) (eq→eqb d d refl))

    idle-zero : litres N X G ≡ 0
    idle-zero =
        ⊎_elim (λ z. z)
        (λ p.
        absurd
        (⊎_elim
        (λ s.
        let y : Candidate N G rest = record { some = s; listed = in-listed; free = λ e u. x.candidate.free e (in-X e u) } in
        let m = (at_most N G X x rest y).no-denser in
        let up = mul-le-mul_right (size N X) rest-litres in
        lt_irrefl (size N rest)
        (le_trans smaller
        (le_of_mul-le-mul_right (rw (mul_comm (size N X) (litres N X G), mul_comm (size N rest) (litres N X G)) (le_trans up m)) p)))
        (λ none. let no : ⊥ = omega (arith, litres-empty N rest G none, rest-litres, p) in no)
        (some? N ok rest in-listed)))
        (eq-zero-or-pos (litres N X G))

module _ (N : Network) (ok : Valid N) (gs : List ℕ) (h : Decomposition N gs) where
  falling : Falling N gs
  falling = complete N ok gs h

  next : (k : ℕ) → k < length gs → Next N (before gs k) (group gs k)
  unfolding Decomposition
  next = follow-next N ∅ gs h

  litres-is : (k : ℕ) → k < length gs → group_litres N gs k ≡ litres N (group gs k) (before gs k)
  litres-is = group-litres gs falling.apart N

  -- a group with W 0 is the last
  zero-last : (k : ℕ) → k < length gs → group_litres N gs k ≡ 0 → suc k ≡ length gs
  zero-last k l z =
      ⊎_elim (λ e. e)
      (λ m.
      let c = (next (suc k) m).candidate in
      let d = c.some.0 in
      let t = c.some.1 in
      let b : T (before gs (suc k) d) → ⊥ = c.free d t in
      absurd
      (b
      (subst (λ (B : Depots). T (B d)) (sym (before-suc gs k l))
      (⊎_elim (or_l (before gs k d) (group gs k d))
      (λ n.
      or_r (before gs k d) (group gs k d)
      (left_in N ok (before gs k) (group gs k) (next k l) (sym (litres-is k l) ∙ z) d (and_i (N.listed d) (not (before gs k d)) (c.listed d t) (not_T (before gs k d) n))))
      (T? (before gs k d))))))
      (eq-or-lt_of_le l)

  idle-at : (d : ℕ) → T (idle N d) → (place gs d < length gs) × (group_litres N gs (place gs d) ≡ 0)
  idle-at d t =
      let l = union→ gs d (subst T (sym (falling.listed d)) (idle-listed N d t)) in
      (l, litres-is (place gs d) l ∙ idle-zero N ok (before gs (place gs d)) (group gs (place gs d)) (next (place gs d) l) d (→group gs (place gs d) d l refl) t)

  zero-idle : (k : ℕ) → k < length gs → group_litres N gs k ≡ 0 → (d : ℕ) → group gs k d ≡ idle N d
  zero-idle k l z d =
      T-ext (group gs k d) (idle N d) (dry-in N ok (before gs k) (group gs k) (next k l) (sym (litres-is k l) ∙ z) d)
      (λ t.
      let r = idle-at d t in
      →group gs k d l (omega (arith, zero-last k l z, zero-last (place gs d) r.0 r.1)))

  -- the depot's group is that of all idle depots, the last
  idle-last : (d : ℕ) → T (idle N d) → (suc (place gs d) ≡ length gs) × ((e : ℕ) → group gs (place gs d) e ≡ idle N e)
  idle-last d t =
      let r = idle-at d t in
      (zero-last (place gs d) r.0 r.1, zero-idle (place gs d) r.0 r.1)

  idle-zeros : (k : ℕ) → k < length gs → (group_litres N gs k ≡ 0) ↔ ((d : ℕ) → group gs k d ≡ idle N d)
  idle-zeros k l = (
    zero-idle k l,
    λ e.
        let d = (falling.some k l).0 in
        let t = (falling.some k l).1 in
        litres-is k l ∙ idle-zero N ok (before gs k) (group gs k) (next k l) d t (subst T (e d) t),
  )

  -- where every site has litres
  module _ (some : (i : ℕ) → i < N.count → 0 < (N.site i).litres) where
    isolated-is : (d : ℕ) → idle N d ≡ isolated N d
    unfolding idle isolated
    isolated-is d =
        ap (λ (b : Bool). N.listed d && not b)
        (any-cong _ _ N.count
        (λ i l. T-ext _ _ (and_l (names (N.site i) d) (ltb 0 (N.site i).litres)) (λ t. and_i (names (N.site i) d) _ t (lt→ltb 0 _ (some i l)))))

    -- a group carries no site exactly if its W is 0
    no-site : (k : ℕ) → (group_litres N gs k ≡ 0) ↔ NoSiteStands N gs k
    unfolding group_litres
    no-site k = (
      λ z i l e.
          omega (
            arith,
            sum-term (λ i. when (eqb (carrier gs (N.site i)) k) (N.site i).litres) i N.count l,
            when-on (eqb (carrier gs (N.site i)) k) (N.site i).litres (eq→eqb _ _ e),
            some i l,
          ),
      λ h. sum-zero _ N.count (λ i l. when-off (eqb (carrier gs (N.site i)) k) (N.site i).litres (λ t. h i l (eqb→eq _ _ t))),
    )

    theirs : (k : ℕ) → k < length gs → (group_litres N gs k ≡ 0) ↔ TheirGroup N gs k
    theirs k l = (λ z d. (idle-zeros k l).0 z d ∙ isolated-is d, λ e. (idle-zeros k l).1 (λ d. e d ∙ sym (isolated-is d)))

    size_is : (d : ℕ) → T (isolated N d) → group_size N gs (place gs d) ≡ size N (isolated N)
    unfolding group_size
    size_is d t = ap (size N) (fun_ext (λ e. (idle-last d (subst T (sym (isolated-is d)) t)).1 e ∙ isolated-is e))

    -- "Such depots form the last group, the only one where no site stands, with W 0"
    pub isolated-last : IsolatedLast N gs
    isolated-last =
        record {
          last = λ s.
              let r = idle-last s.0 (subst T (sym (isolated-is s.0)) s.1) in
              (place gs s.0, r.0, λ d. r.1 d ∙ isolated-is d);
          only = λ k l. (λ n. (theirs k l).0 ((no-site k).1 n), λ e. (no-site k).0 ((theirs k l).1 e));
          zero = theirs;
          litres = λ d t. (idle-at d (subst T (sym (isolated-is d)) t)).1;
          sizes = size_is;
        }
