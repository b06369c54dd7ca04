-- Laws of words, by the first byte that is a space or none; the words of a text, the first at a time.
-- Assumes nothing.
use Prim.Native.Nat.{ℕ, suc, ◌+◌, ◌-◌, ◌<◌}
use mathlib.Core.Path.{◌≡◌, refl, sym, ap, ◌∙◌}
use mathlib.Core.Bool.{Bool, true, false, ◌&&◌, not}
use mathlib.Core.List.{List, [], ◌∷◌}
use lib.Dec.{eqb}
use native.Mathlib.Omega.{arith}
use lib.ListN.{length, take, drop, length-drop}
use lib.Seq.{take_all}
use Rattle.std.specs.List.{prefix_len}
use borrow.Author.Tests.{eq-eqb, eqb-true}
use Rattle.script.specs.Words.{trimmed_of, letters_of, behind_of, word_of, rest_of, words_from, words_of, same_of}

-- how many spaces stand at the front, and how many bytes before the first space
abbrev pub spaces_in : List ℕ → ℕ
spaces_in s = prefix_len (λ b. eqb b 32) s

abbrev pub letters_in : List ℕ → ℕ
letters_in s = prefix_len (λ b. not (eqb b 32)) s

one-add : (n : ℕ) → 1 + n ≡ suc n
one-add n = omega arith

-- the spaces at the front are passed over
trimmed-step : (t : Bool) (b : ℕ) (s : List ℕ) → eqb b 32 ≡ t → drop (spaces_in s) s ≡ trimmed_of s → drop (spaces_in (b ∷ s)) (b ∷ s) ≡ trimmed_of (b ∷ s)
unfolding trimmed_of
trimmed-step true b s e h = simp (e, one-add) h
trimmed-step false b s e h = simp e

pub trimmed_at : (s : List ℕ) → drop (spaces_in s) s ≡ trimmed_of s
unfolding trimmed_of
trimmed_at [] = refl
trimmed_at (b ∷ s) = trimmed-step (eqb b 32) b s refl (trimmed_at s)

-- the bytes before the first space, and those from it on
letters-step : (t : Bool) (b : ℕ) (s : List ℕ) → eqb b 32 ≡ t → take (letters_in s) s ≡ letters_of s → take (letters_in (b ∷ s)) (b ∷ s) ≡ letters_of (b ∷ s)
unfolding letters_of
letters-step true b s e h = simp e
letters-step false b s e h = simp (e, one-add) (ap (λ (l : List ℕ). b ∷ l) h)

pub letters_at : (s : List ℕ) → take (letters_in s) s ≡ letters_of s
unfolding letters_of
letters_at [] = refl
letters_at (b ∷ s) = letters-step (eqb b 32) b s refl (letters_at s)

behind_at_step : (t : Bool) (b : ℕ) (s : List ℕ) → eqb b 32 ≡ t → drop (letters_in s) s ≡ behind_of s → drop (letters_in (b ∷ s)) (b ∷ s) ≡ behind_of (b ∷ s)
unfolding behind_of
behind_at_step true b s e h = simp e
behind_at_step false b s e h = simp (e, one-add) h

pub behind_at : (s : List ℕ) → drop (letters_in s) s ≡ behind_of s
unfolding behind_of
behind_at [] = refl
behind_at (b ∷ s) = behind_at_step (eqb b 32) b s refl (behind_at s)

-- the part from n to the end
pub to_end : (n : ℕ) (s : List ℕ) → take (length s - n) (drop n s) ≡ drop n s
to_end n s = take_all (length s - n) (drop n s) (rw length-drop (omega arith))

-- the words of a text without its spaces at the front
trimmed-words-step : (t : Bool) (b : ℕ) (s : List ℕ) → eqb b 32 ≡ t → words_of (trimmed_of s) ≡ words_of s → words_of (trimmed_of (b ∷ s)) ≡ words_of (b ∷ s)
unfolding trimmed_of words_from
trimmed-words-step true b s e h = simp e h
trimmed-words-step false b s e h = simp e

words-trimmed : (s : List ℕ) → words_of (trimmed_of s) ≡ words_of s
unfolding trimmed_of words_from
words-trimmed [] = refl
words-trimmed (b ∷ s) = trimmed-words-step (eqb b 32) b s refl (words-trimmed s)

-- within a word, the words to come are those from the next space on
behind-step : (t : Bool) (b : ℕ) (s : List ℕ) → eqb b 32 ≡ t → words_from false s ≡ words_of (behind_of s) → words_from false (b ∷ s) ≡ words_of (behind_of (b ∷ s))
unfolding behind_of words_from
behind-step true b s e h = simp e
behind-step false b s e h = simp e h

words-behind : (s : List ℕ) → words_from false s ≡ words_of (behind_of s)
unfolding behind_of words_from
words-behind [] = refl
words-behind (b ∷ s) = behind-step (eqb b 32) b s refl (words-behind s)

-- a text has no word, or its first word and the words behind it
data Split (s : List ℕ) : Type 0 where
  none : word_of s ≡ [] → words_of s ≡ [] → Split s
  some : 0 < length (word_of s) → words_of s ≡ word_of s ∷ words_of (rest_of s) → Split s

split_step : (t : Bool) (b : ℕ) (s : List ℕ) → eqb b 32 ≡ t → Split s → Split (b ∷ s)
unfolding trimmed_of letters_of behind_of words_from
split_step true b s e (none p q) = none (simp e p) (simp e q)
split_step true b s e (some p q) = some (simp e p) (simp e q)
split_step false b s e r = some (simp e (omega arith)) (simp e (ap (λ (l : List (List ℕ)). (b ∷ letters_of s) ∷ l) (words-behind s)))

split : (s : List ℕ) → Split s
unfolding trimmed_of letters_of behind_of words_from
split [] = none refl refl
split (b ∷ s) = split_step (eqb b 32) b s refl (split s)

no_word : {s : List ℕ} → Split s → length (word_of s) ≡ 0 → words_of s ≡ []
no_word (none p q) h = q
no_word (some p q) h = absurd (omega arith)

a_word : {s : List ℕ} → Split s → (length (word_of s) ≡ 0 → ⊥) → words_of s ≡ word_of s ∷ words_of (rest_of s)
a_word (none p q) h = absurd (h (ap length p))
a_word (some p q) h = q

-- w is the first word of s, and r is what stands behind it
module _ (s w : List ℕ) (e : w ≡ word_of s) where
  pub words-none : length w ≡ 0 → words_of s ≡ []
  words-none h = no_word (split s) (ap length (sym e) ∙ h)

  pub words-some : (r : List ℕ) → r ≡ rest_of s → (length w ≡ 0 → ⊥) → words_of s ≡ w ∷ words_of r
  words-some r f h = a_word (split s) (λ z. h (ap length e ∙ z)) ∙ cc

-- a test that decides whether two texts are equal
same_refl : (s : List ℕ) → same_of s s ≡ true
unfolding same_of
same_refl [] = refl
same_refl (a ∷ s) = simp (eq-eqb a a refl, same_refl s)

and-true : (p q : Bool) → p && q ≡ true → (p ≡ true) × (q ≡ true)
and-true true true e = (refl, refl)
and-true true false e = (refl, e)
and-true false q e = (e, cc)

same-eq : (s t : List ℕ) → same_of s t ≡ true → s ≡ t
unfolding same_of
same-eq [] [] e = refl
same-eq [] (b ∷ t) e = let z : ◌≡◌ {A = ℕ} 0 1 = cc in absurd (omega arith)
same-eq (a ∷ s) [] e = let z : ◌≡◌ {A = ℕ} 0 1 = cc in absurd (omega arith)
same-eq (a ∷ s) (b ∷ t) e =
    let h = and-true (eqb a b) (same_of s t) e in
    let p = eqb-true a b h.0 in
    let q = same-eq s t h.1 in
    cc

decided : (r t : Bool) → (r ≡ true → t ≡ true) → (t ≡ true → r ≡ true) → r ≡ t
decided true true f g = refl
decided true false f g = sym (f refl)
decided false true f g = g refl
decided false false f g = refl

pub same-is : (r : Bool) (s t : List ℕ) → (r ≡ true → s ≡ t) × (s ≡ t → r ≡ true) → r ≡ same_of s t
same-is r s t p = decided r (same_of s t) (λ e. ap (same_of s) (sym (p.0 e)) ∙ same_refl s) (λ e. p.1 (same-eq s t e))

-- r is what the test t says
module _ {r t : Bool} (p : r ≡ t) where
  pub same-yes : r ≡ true → t ≡ true
  same-yes e = sym p ∙ e

  pub same-no : r ≡ false → t ≡ false
  same-no e = sym p ∙ e
