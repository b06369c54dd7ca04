-- Laws of decimal numbers, as the loop of `decimal` meets them: one digit at a time.
-- Assumes nothing.
use Prim.Native.Nat.{ℕ, ◌+◌, ◌*◌, ◌≤◌, ◌<◌}
use mathlib.Core.Path.{◌≡◌, refl}
use mathlib.Core.Bool.{Bool, true, false, ◌&&◌}
use mathlib.Core.List.{List, [], ◌∷◌}
use Rattle.std.specs.Prelude.{Option, Some, None}
use lib.Dec.{ltb, leb}
use native.Mathlib.Omega.{arith}
use native.Mathlib.Numerals.{add-one}
use lib.ListN.{length, get_or, drop}
use lib.Seq.{drop-cons, drop-length}
use borrow.Author.Tests.{le-ltb, lt-ltb, le-leb, lt-leb, leb-true}
use Rattle.script.specs.Hex.{digit_of}
use Rattle.script.specs.Decimal.{only, number_from, number_of}

pub of_none : (most : ℕ) (s : List ℕ) → length s ≡ 0 → number_of most s ≡ None
of_none most [] h = refl
of_none most (b ∷ s) h = absurd (omega arith)

pub of_some : (most : ℕ) (s : List ℕ) → 0 < length s → number_of most s ≡ number_from most 0 (drop 0 s)
of_some most [] h = absurd (omega arith)
of_some most (b ∷ s) h = refl

pub from_end : (most v i : ℕ) (s : List ℕ) → i ≡ length s → number_from most v (drop i s) ≡ Some v
unfolding number_from
from_end most v i s h = rw (h, drop-length)

-- d is the digit at i
module _ (most v i d : ℕ) (s : List ℕ) (h : i < length s) (e : d ≡ digit_of (get_or s i 0)) where
  pub from_next : d < 10 → v * 10 + d ≤ most → number_from most v (drop i s) ≡ number_from most (v * 10 + d) (drop (i + 1) s)
  unfolding number_from
  from_next a b = rw (add-one, drop-cons s i 0) (simp (← e, lt-ltb _ _ a, le-leb _ _ b))

  pub from-letter : 10 ≤ d → number_from most v (drop i s) ≡ None
  unfolding number_from
  from-letter a = rw (drop-cons s i 0) (simp (← e, le-ltb _ _ a))

  pub from-large : d < 10 → most < v * 10 + d → number_from most v (drop i s) ≡ None
  unfolding number_from
  from-large a b = rw (drop-cons s i 0) (simp (← e, lt-ltb _ _ a, lt-leb _ _ b))

-- a number is there only where both tests hold
both : (a c : Bool) (x : Option ℕ) (n : ℕ) → only (a && c) x ≡ Some n → (c ≡ true) × (x ≡ Some n)
both true true x n e = (refl, e)
both true false x n e = let z : ◌≡◌ {A = ℕ} 0 1 = cc in absurd (omega arith)
both false c x n e = let z : ◌≡◌ {A = ℕ} 0 1 = cc in absurd (omega arith)

from-within : (most v n : ℕ) (s : List ℕ) → v ≤ most → number_from most v s ≡ Some n → n ≤ most
unfolding number_from
from-within most v n [] h e = let z : v ≡ n = cc in omega arith
from-within most v n (b ∷ s) h e =
    let t = both (ltb (digit_of b) 10) (leb (v * 10 + digit_of b) most) (number_from most (v * 10 + digit_of b) s) n e in
    from-within most (v * 10 + digit_of b) n s (leb-true _ _ t.0) t.1

-- a number that is read is at most `most`
pub of-within : (most n : ℕ) (s : List ℕ) → number_of most s ≡ Some n → n ≤ most
of-within most n [] e = let z : ◌≡◌ {A = ℕ} 0 1 = cc in absurd (omega arith)
of-within most n (b ∷ s) e = from-within most 0 n (b ∷ s) (omega arith) e
