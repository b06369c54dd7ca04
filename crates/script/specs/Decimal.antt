-- Decimal numbers.
use Rattle.std.specs.Prelude.{ℕ, ◌+◌, ◌*◌, Bool, true, false, ◌&&◌, List, [], ◌∷◌, Option, Some, None, ltb, leb}
use Rattle.script.specs.Hex.{digit_of}

-- the answer where the test holds, else no number
abbrev pub only : Bool → Option ℕ → Option ℕ
only true n = n
only false n = None

-- v, followed by the decimal digits of the text: no number where a byte is no digit, or where the number is above `most`
unfoldable pub number_from : ℕ → ℕ → List ℕ → Option ℕ
number_from most v [] = Some v
number_from most v (b ∷ text) = only (ltb (digit_of b) 10 && leb (v * 10 + digit_of b) most) (number_from most (v * 10 + digit_of b) text)

-- a text of decimal digits as a number of at most `most`; a text without digits is no number
abbrev pub number_of : ℕ → List ℕ → Option ℕ
number_of most [] = None
number_of most (b ∷ text) = number_from most 0 (b ∷ text)
