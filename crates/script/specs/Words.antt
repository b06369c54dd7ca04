-- Words of a text. They stand apart by one or more spaces (byte 32); spaces before the first and behind the last are passed over.
use Rattle.std.specs.Prelude.{ℕ, Bool, true, false, ◌&&◌, cond, List, [], ◌∷◌, eqb}

-- what stands behind the spaces at the front
unfoldable pub trimmed_of : List ℕ → List ℕ
trimmed_of [] = []
trimmed_of (b ∷ s) = cond (eqb b 32) (trimmed_of s) (b ∷ s)

-- the bytes before the first space
unfoldable pub letters_of : List ℕ → List ℕ
letters_of [] = []
letters_of (b ∷ s) = cond (eqb b 32) [] (b ∷ letters_of s)

-- the bytes from the first space on
unfoldable pub behind_of : List ℕ → List ℕ
behind_of [] = []
behind_of (b ∷ s) = cond (eqb b 32) (b ∷ s) (behind_of s)

-- the first word; nothing where there is none
abbrev pub word_of : List ℕ → List ℕ
word_of s = letters_of (trimmed_of s)

-- what stands behind the first word
abbrev pub rest_of : List ℕ → List ℕ
rest_of s = behind_of (trimmed_of s)

-- the words: one begins at each byte that is no space and stands at the front (`front`) or behind a space, and it ends before the next space or at the end
unfoldable pub words_from : Bool → List ℕ → List (List ℕ)
words_from front [] = []
words_from front (b ∷ s) = cond (eqb b 32) (words_from true s) (cond front ((b ∷ letters_of s) ∷ words_from false s) (words_from false s))

abbrev pub words_of : List ℕ → List (List ℕ)
words_of s = words_from true s

-- are the bytes the same?
unfoldable pub same_of : List ℕ → List ℕ → Bool
same_of [] [] = true
same_of [] (b ∷ t) = false
same_of (a ∷ s) [] = false
same_of (a ∷ s) (b ∷ t) = eqb a b && same_of s t
