-- What a roll or none says of a depot. Assumes nothing.
use mathlib.Core.Path.{◌≡◌, refl, ap, ◌∙◌}
use mathlib.Core.Bool.{Bool, true, false, cond}
use mathlib.Core.List.{[], ◌++◌}
use mathlib.Core.Option.{none, some}
use Prim.Native.Nat.{ℕ}
use lib.Dec.{ltb}
use lib.ListN.{length, get_or, length-append}
use Rattle.sets.specs.Sum.{any}
use Rattle.sets.proofs.Test.{is_false}
use Rattle.sets.proofs.Sum.{any_at}
use Rattle.density.specs.declared.Site.{Site}
use Rattle.density.specs.Network.{crews_of, crews_above, uncrewed}
use Rattle.records.specs.declared.RollArray.{RollArray}
use Rattle.records.specs.declared.Edition.{Edition}
use Rattle.records.specs.Values.{roll_in}
use Rattle.records.specs.Bytes.{le}
use Rattle.records.specs.Write.{roll_bytes}
use Rattle.records.proofs.Bytes.{length-le}

module _ (roll : RollArray) {b : Bool} (e : roll.there ≡ b) where
  pub of-roll : (d : ℕ) → crews_of (roll_in roll) d ≡ cond b (get_or roll.crews d 0) 1
  of-roll d = ap (λ (x : Bool). crews_of (cond x (some roll.crews) none) d) e ∙ by b
    where
      by : (b : Bool) → crews_of (cond b (some roll.crews) none) d ≡ cond b (get_or roll.crews d 0) 1
      by true = refl
      by false = refl

-- without a roll no byte is above 9
pub none_above : (roll : RollArray) → roll.there ≡ false → crews_above (roll_in roll) ≡ false
unfolding crews_above
none_above roll e =
    ap (λ (x : Bool). any (λ d. ltb 9 (crews_of (cond x (some roll.crews) none) d)) 64) e
    ∙ is_false (any (λ d. ltb 9 1) 64) (λ t. (any_at (λ d. ltb 9 1) 64 t).2)

-- without a roll no site is without crews
pub none-uncrewed : (roll : RollArray) → roll.there ≡ false → (site : ℕ → Site) (n : ℕ) → any (λ i. uncrewed (roll_in roll) (site i)) n ≡ false
none-uncrewed roll e site n =
    ap (λ (x : Bool). any (λ i. uncrewed (cond x (some roll.crews) none) (site i)) n) e
    ∙ is_false (any (λ i. false) n) (λ t. (any_at (λ i. false) n t).2)

-- the bytes of a roll's record, and their number
module _ (e : Edition) (roll : RollArray) where
  pub bare-bytes : roll.there ≡ false → roll_bytes e (roll_in roll) ≡ []
  bare-bytes h = ap (λ (b : Bool). roll_bytes e (cond b (some roll.crews) none)) h

  pub full-bytes : roll.there ≡ true → roll_bytes e (roll_in roll) ≡ le 2 e.mark.roll ++ roll.crews
  full-bytes h = ap (λ (b : Bool). roll_bytes e (cond b (some roll.crews) none)) h

  pub roll-bytes : roll.there ≡ true → length roll.crews ≡ 64 → length (roll_bytes e (roll_in roll)) ≡ 66
  roll-bytes h w = ap length (full-bytes h) ∙ rw (length-append, length-le, w)
