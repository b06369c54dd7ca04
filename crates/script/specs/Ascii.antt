-- Words as texts.
use Rattle.std.specs.Prelude.{ℕ, List, [] as []ᴸ, ◌∷◌ as ◌∷ᴸ◌, Bool}
use Prim.Native.Char.{code}
use Prim.Native.String.{String, [], ◌∷◌}
use Rattle.script.specs.Words.{same_of}

-- the characters of a text, in ASCII
abbrev pub ascii : String → List ℕ
ascii [] = []ᴸ
ascii (c ∷ text) = code c ∷ᴸ ascii text

-- is the word that text?
abbrev pub is : List ℕ → String → Bool
is word text = same_of word (ascii text)
