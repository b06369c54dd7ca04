-- Document 01: "stored numbers are unsigned, low byte first".
use Rattle.std.specs.Prelude.{ℕ, zero, suc, ◌+◌, ◌*◌, ◌/◌, ◌%◌, ◌<◌, ◌^◌, List, [], ◌∷◌, ◌≡◌, length, take, drop, get_or}

-- every element is a byte
abbrev pub Bytes : List ℕ → Type 0
Bytes s = (i : ℕ) → get_or s i 0 < 256

-- the w low bytes of x
unfoldable pub le : ℕ → ℕ → List ℕ
le zero x = []
le (suc w) x = x % 256 ∷ le w (x / 256)

-- the number that bytes stand for
unfoldable pub value : List ℕ → ℕ
value [] = 0
value (b ∷ bs) = b + 256 * value bs

-- r is that number, and it is below the bound of its width
pub record Value (bs : List ℕ) (r : ℕ) : Type 0 where
  pub is : r ≡ value bs
  pub small : r < 256 ^ length bs

-- the number of w bytes at a place of s
abbrev pub field : List ℕ → ℕ → ℕ → ℕ
field s at w = value (take w (drop at s))
