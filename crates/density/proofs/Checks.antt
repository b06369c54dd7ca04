-- Rows 12 to 16 do not apply exactly if the plan is true, over every set of depots. Assumes nothing.
use mathlib.Core.Path.{◌≡◌, refl, sym, ◌∙◌, subst}
use mathlib.Core.Logic.{◌↔◌, ⊎_elim}
use mathlib.Core.Bool.{Bool, true, false, not, ◌&&◌, ◌||◌, beq}
use mathlib.Core.List.{List}
use mathlib.Core.Option.{none}
use Prim.Native.Nat.{ℕ, ◌-◌, ◌<◌}
use native.Mathlib.Nat.{lt_of_not-le, lt_irrefl, lt_of_lt_of_le}
use native.Mathlib.Omega.{arith}
use lib.Dec.{T, T_not, not_T, eqb, ltb, eqb→eq, leb→le, le→leb, ltb→lt, lt→ltb, nltb→le}
use lib.ListN.{length}
use Rattle.sets.specs.Sum.{any}
use Rattle.sets.specs.Set.{◌∩◌, is_empty}
use Rattle.density.specs.Network.{Network, Valid}
use Rattle.density.specs.Plan.{union, group, before, place, carrier, whole, first_share, second_share, Rules, load, target, Shared, Formed, TruePlan, Falling}
use Rattle.density.specs.Rows.{first_row, groups_meet, groups_unlisted, share_broken, shares_broken, scaled_load, loads_uneven, groups_rise, plan_rows}
use Rattle.sets.proofs.Test.{or_l, or_r, or_cases, and_i, and_l, and_r, T-ext, eq→eqb}
use Rattle.sets.proofs.Sum.{any_at, any-from}
use Rattle.sets.proofs.Member.{member-lt}
use Rattle.sets.proofs.Set.{empty→, →disjoint}
use Rattle.density.proofs.Rows.{Clear, clear→, →clear}
use Rattle.density.proofs.Places.{→group}
use Rattle.density.proofs.Plans.{union→, sound, complete}
use Rattle.density.proofs.Totals.{scaled-load}

-- a test that fails
passed : (b : Bool) → (T (not b) → ⊥) → T b
passed true f = tt
passed false f = absurd (f tt)

beq→ : (a b : Bool) → T (beq a b) → a ≡ b
beq→ true true t = refl
beq→ true false t = absurd t
beq→ false true t = absurd t
beq→ false false t = refl

→beq : (a : Bool) → T (beq a a)
→beq true = tt
→beq false = tt

-- none of the numbers below n
none-at : (f : ℕ → Bool) (n : ℕ) → (T (any f n) → ⊥) → (i : ℕ) → i < n → T (f i) → ⊥
none-at f n h i l t = h (any-from f n i l t)

none_from : (f : ℕ → Bool) (n : ℕ) → ((i : ℕ) → i < n → T (f i) → ⊥) → T (any f n) → ⊥
none_from f n h t = let r = any_at f n t in h r.0 r.1 r.2

-- a test that two numbers differ, where a condition holds
equal : (a : Bool) (m n : ℕ) → (T (a && not (eqb m n)) → ⊥) → T a → m ≡ n
equal a m n h t = eqb→eq m n (passed (eqb m n) (λ u. h (and_i a (not (eqb m n)) t u)))

differ : (a : Bool) (m n : ℕ) → (T a → m ≡ n) → T (a && not (eqb m n)) → ⊥
differ a m n h t = T_not (eqb m n) (and_r a (not (eqb m n)) t) (eq→eqb m n (h (and_l a (not (eqb m n)) t)))

neither : (a b : Bool) → (T a → ⊥) → (T b → ⊥) → T (a || b) → ⊥
neither a b p q t = ⊎_elim p q (or_cases a b t)

-- ---- row 14: the tests of one site's shares, and the rules

module _ (N : Network) (gs ss : List ℕ) (i : ℕ) where
  -- a site's depots, its carrier, its whole and the two shares
  abbrev f : ℕ
  f = (N.site i).first

  abbrev e : ℕ
  e = (N.site i).second

  abbrev c : ℕ
  c = carrier gs (N.site i)

  abbrev w : ℕ
  w = whole N gs i

  abbrev s : ℕ
  s = first_share ss i

  abbrev r : ℕ
  r = second_share N gs ss i

  abbrev above : Bool
  above = ltb w s

  abbrev own_broken : Bool
  own_broken = eqb f e && not (eqb s w)

  abbrev first_broken : Bool
  first_broken = ltb (place gs f) c && not (eqb s 0)

  abbrev second_broken : Bool
  second_broken = ltb (place gs e) c && not (eqb r 0)

  kept→ : (T (share_broken N gs ss i) → ⊥) → Rules N gs ss i
  unfolding share_broken
  kept→ h =
      let three : T (above || own_broken || first_broken) → ⊥ = λ t. h (or_l (above || own_broken || first_broken) second_broken t) in
      let two : T (above || own_broken) → ⊥ = λ t. three (or_l (above || own_broken) first_broken t) in
      record {
        bound = nltb→le w s (not_T above (λ t. two (or_l above own_broken t)));
        own = λ p. equal (eqb f e) s w (λ t. two (or_r above own_broken t)) (eq→eqb f e p);
        first-earlier = λ l. equal (ltb (place gs f) c) s 0 (λ t. three (or_r (above || own_broken) first_broken t)) (lt→ltb _ _ l);
        second-earlier = λ l.
            equal (ltb (place gs e) c) r 0 (λ t. h (or_r (above || own_broken || first_broken) second_broken t)) (lt→ltb _ _ l);
      }

  →kept : Rules N gs ss i → T (share_broken N gs ss i) → ⊥
  unfolding share_broken
  →kept k =
      neither (above || own_broken || first_broken) second_broken
      (neither (above || own_broken) first_broken
      (neither above own_broken (λ t. lt_irrefl w (lt_of_lt_of_le (ltb→lt w s t) k.bound)) (differ (eqb f e) s w (λ t. k.own (eqb→eq f e t))))
      (differ (ltb (place gs f) c) s 0 (λ t. k.first-earlier (ltb→lt _ _ t))))
      (differ (ltb (place gs e) c) r 0 (λ t. k.second-earlier (ltb→lt _ _ t)))

module _ (N : Network) (gs ss : List ℕ) where
  pub rules→ : (T (shares_broken N gs ss) → ⊥) → (i : ℕ) → i < N.count → Rules N gs ss i
  unfolding shares_broken
  rules→ h i l = kept→ N gs ss i (none-at (share_broken N gs ss) N.count h i l)

  →rules : ((i : ℕ) → i < N.count → Rules N gs ss i) → T (shares_broken N gs ss) → ⊥
  unfolding shares_broken
  →rules r = none_from (share_broken N gs ss) N.count (λ i l. →kept N gs ss i (r i l))

  module _ (ok : Valid N) where
    -- ---- row 15

    level→ : ((i : ℕ) → i < N.count → Rules N gs ss i) → (T (loads_uneven N gs ss) → ⊥) → (d : ℕ) → T (N.listed d) → load N gs ss d ≡ target N gs d
    unfolding loads_uneven
    level→ r h d t =
        sym (scaled-load N gs ss r d)
        ∙ equal (N.listed d) (scaled_load N gs ss d) (target N gs d) (none-at (λ d. N.listed d && not (eqb (scaled_load N gs ss d) (target N gs d))) 64 h d (ok.small d t)) t

    →level : Shared N gs ss → T (loads_uneven N gs ss) → ⊥
    unfolding loads_uneven
    →level s =
        none_from _ 64
        (λ d l. differ (N.listed d) (scaled_load N gs ss d) (target N gs d) (λ t. scaled-load N gs ss s.rules d ∙ s.level d t))

    -- ---- rows 12, 13 and 16

    module _ (form : Formed N gs ss) where
      small : (k : ℕ) → k < length gs → (d : ℕ) → T (group gs k d) → d < 64
      small k l d = member-lt 64 d (form.sets k l)

      union-small : (d : ℕ) → T (union gs d) → d < 64
      union-small d t = let p = union→ gs d t in small (place gs d) p d (→group gs (place gs d) d p refl)

      falling→ : (T (groups_meet gs) → ⊥) → (T (groups_unlisted N gs) → ⊥) → (T (groups_rise N gs) → ⊥) → Falling N gs
      unfolding groups_meet groups_unlisted groups_rise
      falling→ a b h =
          record {
            some = λ k l. let p = any_at (group gs k) 64 (passed (any (group gs k) 64) (λ t. meets k l (or_l (is_empty (group gs k) 64) _ t))) in (p.0, p.2);
            apart = λ k l d t u.
                empty→ (group gs k ∩ before gs k) 64 (passed (is_empty (group gs k ∩ before gs k) 64) (λ t. meets k l (or_r (is_empty (group gs k) 64) _ t))) d (small k l d t)
                (and_i (group gs k d) (before gs k d) t u);
            listed = λ d. T-ext (union gs d) (N.listed d) (λ t. subst T (same d (union-small d t)) t) (λ t. subst T (sym (same d (ok.small d t))) t);
            falls = λ k l. lt_of_not-le (λ m. none-at _ (length gs - 1) h k (omega arith) (le→leb _ _ m));
          }
        where
          meets : (k : ℕ) → k < length gs → T (is_empty (group gs k) 64 || not (is_empty (group gs k ∩ before gs k) 64)) → ⊥
          meets k l = none-at (λ k. is_empty (group gs k) 64 || not (is_empty (group gs k ∩ before gs k) 64)) (length gs) a k l

          same : (d : ℕ) → d < 64 → union gs d ≡ N.listed d
          same d l =
              beq→ (union gs d) (N.listed d)
              (passed (beq (union gs d) (N.listed d)) (none-at (λ d. not (beq (union gs d) (N.listed d))) 64 b d l))

      →falling : Falling N gs → (T (groups_meet gs) → ⊥) × (T (groups_unlisted N gs) → ⊥) × (T (groups_rise N gs) → ⊥)
      unfolding groups_meet groups_unlisted groups_rise
      →falling p = (
        none_from _ (length gs)
            (λ k l.
            neither (is_empty (group gs k) 64) (not (is_empty (group gs k ∩ before gs k) 64))
            (λ t. let s = p.some k l in empty→ (group gs k) 64 t s.0 (small k l s.0 s.1) s.1)
            (λ t. T_not (is_empty (group gs k ∩ before gs k) 64) t (→disjoint (group gs k) (before gs k) 64 (p.apart k l)))),
        none_from _ 64 (λ d l t. T_not (beq (union gs d) (N.listed d)) t (subst (λ b. T (beq (union gs d) b)) (p.listed d) (→beq (union gs d)))),
        none_from _ (length gs - 1) (λ k l t. lt_irrefl _ (lt_of_lt_of_le (p.falls k (omega arith)) (leb→le _ _ t))),
      )

      -- the plan is true exactly if no row applies
      pub no_row : first_row (plan_rows N gs ss) ≡ none ↔ TruePlan N gs ss
      unfolding plan_rows Clear
      no_row = (
        λ e.
            let c = →clear (plan_rows N gs ss) e in
            let r = rules→ c.1.1.0 in
            let s : Shared N gs ss = record { rules = r; level = level→ r c.1.1.1.0 } in
            record { form = form; groups = sound N ok gs ss (falling→ c.0 c.1.0 c.1.1.1.1.0) s; shares = s },
        λ t.
            let f = →falling (complete N ok gs t.groups) in
            clear→ (plan_rows N gs ss) (f.0, (f.1, (→rules t.shares.rules, (→level t.shares, (f.2, tt))))),
      )
