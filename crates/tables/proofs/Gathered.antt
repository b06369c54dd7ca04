-- The depots with crews in a roll, gathered one by one. Assumes nothing.
use mathlib.Core.Path.{◌≡◌, sym, ap, ap₂, ◌∙◌}
use mathlib.Core.Bool.{Bool, false, cond, ◌&&◌}
use mathlib.Core.List.{List}
use mathlib.Core.Option.{none, some}
use Prim.Native.Nat.{ℕ, ◌+◌, ◌≤◌, ◌<◌}
use native.Mathlib.Omega.{arith}
use borrow.Author.Tests.{lt-ltb, le-ltb}
use lib.ListN.{get_or}
use Rattle.sets.specs.Set.{only, ◌∪◌, has, set_of}
use Rattle.sets.proofs.Member.{set_of-is, has-none}
use Rattle.sets.proofs.Set.{set_of-take, set_of-skip}
use Rattle.density.specs.Network.{enrolled}
use Rattle.records.specs.declared.RollArray.{RollArray}
use Rattle.records.specs.Values.{roll_in}

-- the roll that is there, or none
roll-is : (roll : RollArray) (b : Bool) → roll.there ≡ b → set_of (enrolled (cond b (some roll.crews) none)) 64 ≡ set_of (enrolled (roll_in roll)) 64
roll-is roll b e = sym (ap (λ (t : Bool). set_of (enrolled (cond t (some roll.crews) none)) 64) e)

pub enrolled-none : (roll : RollArray) → roll.there ≡ false → 0 ≡ set_of (enrolled (roll_in roll)) 64
enrolled-none roll e = set_of-is 64 (enrolled none) (omega arith) (λ d l. has-none d) ∙ roll-is roll false e

module _ (roll : List ℕ) (d : ℕ) (l : d < 64) {s : ℕ} (i : s ≡ set_of (enrolled (some roll)) d) where
  pub enrolled-takes : {t u : ℕ} → 0 < get_or roll d 0 → t ≡ set_of (has s ∪ only d) 64 → u ≡ t → u ≡ set_of (enrolled (some roll)) (d + 1)
  enrolled-takes h e g =
      g ∙ e ∙ ap (λ (n : ℕ). set_of (has n ∪ only d) 64) i ∙ sym (set_of-take (enrolled (some roll)) d 64 l (ap₂ ◌&&◌ (lt-ltb d 64 l) (lt-ltb _ _ h)))

  pub enrolled-skips : {u : ℕ} → get_or roll d 0 ≤ 0 → u ≡ s → u ≡ set_of (enrolled (some roll)) (d + 1)
  enrolled-skips h g = g ∙ i ∙ sym (set_of-skip (enrolled (some roll)) d (ap₂ ◌&&◌ (lt-ltb d 64 l) (le-ltb _ _ h)))
