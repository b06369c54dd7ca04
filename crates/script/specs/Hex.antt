-- Hexadecimal digits.
use Rattle.std.specs.Prelude.{ℕ, ◌+◌, ◌*◌, ◌-◌, ◌/◌, ◌%◌, Bool, true, false, ◌&&◌, ◌||◌, not, cond, List, [], ◌∷◌, ltb, eqb, length}

-- what a hexadecimal digit, in ASCII, stands for: `0` to `9` from 48 on, `A` to `F` from 65 on, `a` to `f` from 97 on; 16 for any other byte
unfoldable pub digit_of : ℕ → ℕ
digit_of b =
    cond (ltb b 48) 16
    (cond (ltb b 58) (b - 48)
    (cond (ltb b 65) 16
    (cond (ltb b 71) (b - 55)
    (cond (ltb b 97) 16
    (cond (ltb b 103) (b - 87)
    16)))))

-- the hexadecimal digit of a number below 16, in ASCII: `0` to `9`, `A` to `F`
abbrev pub glyph_of : ℕ → ℕ
glyph_of d = cond (ltb d 10) (48 + d) (55 + d)

-- bytes as text, two digits for each
unfoldable pub digits_of : List ℕ → List ℕ
digits_of [] = []
digits_of (b ∷ bytes) = glyph_of (b / 16) ∷ glyph_of (b % 16) ∷ digits_of bytes

-- the byte of two digits; the low four bits are taken of what stands for none
abbrev pub byte_of : ℕ → ℕ → ℕ
byte_of high low = digit_of high % 16 * 16 + digit_of low % 16

-- a text of digits as bytes, one for two digits
unfoldable pub bytes_of : List ℕ → List ℕ
bytes_of [] = []
bytes_of (high ∷ []) = []
bytes_of (high ∷ low ∷ text) = byte_of high low ∷ bytes_of text

-- are all bytes hexadecimal digits?
unfoldable pub all_digits : List ℕ → Bool
all_digits [] = true
all_digits (b ∷ text) = not (eqb (digit_of b) 16) && all_digits text

-- is the word `-` (byte 45), which stands for no bytes?
unfoldable pub is_none : List ℕ → Bool
is_none [] = false
is_none (b ∷ []) = eqb b 45
is_none (b ∷ c ∷ text) = false

-- does the word stand for bytes: `-`, or an even number of hexadecimal digits, at least 2?
abbrev pub is_bytes : List ℕ → Bool
is_bytes text = is_none text || (ltb 0 (length text) && eqb (length text % 2) 0 && all_digits text)
