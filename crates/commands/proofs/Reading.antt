-- The bounds of a command's numbers.
-- Assumes nothing.
use Prim.Native.Nat.{ℕ, ◌≤◌}
use mathlib.Core.Path.{◌≡◌, refl, sym, ◌∙◌}
use mathlib.Core.Bool.{Bool, true, false, cond}
use mathlib.Core.List.{List, [], ◌∷◌}
use native.Mathlib.Omega.{arith}
use Rattle.script.proofs.Numbers.{of-within}
use Rattle.script.specs.Decimal.{number_of}
use Rattle.std.specs.Prelude.{Option, Some, None}
use Rattle.script.specs.Hex.{is_bytes}
use Rattle.script.specs.Words.{words_of}
use Rattle.script.specs.Ascii.{is}
use Rattle.store.specs.declared.Request.TheVariants as request
use Rattle.commands.specs.Commands.{of_bytes, of_number, of_depot, of_litres, of_size, reads, one_word, direction_of, of_direction, two_words, three_words, four_words, call_of, is_comment, of_words, command_of, Within}
use Rattle.commands.specs.declared.Direction.{Direction}
use Rattle.commands.specs.declared.Command.{Command}
use Rattle.commands.specs.declared.Command.TheVariants.{Bad, Table, Call, Written, Make, ListWritten, Table2, Convert, ConvertPlan, Migrate}

-- `Within`, of a command that is not computed
data Fine (most : ℕ) (x : Command) : Type 0 where
  fine : Within most x → Fine most x

module _ {most : ℕ} where
  holds : {x : Command} → Fine most x → Within most x
  holds (fine h) = h

  either : (t : Bool) {x y : Command} → Fine most x → Fine most y → Fine most (cond t x y)
  either true p q = p
  either false p q = q

  bad : Fine most Bad
  bad = fine tt

  value : (x : Option ℕ) (f : ℕ → Command) (top : ℕ) (text : List ℕ) → number_of top text ≡ x → ((n : ℕ) → n ≤ top → Fine most (f n)) → Fine most (of_number x f)
  value (Some n) f top text e h = h n (of-within top n text e)
  value None f top text e h = bad

  within-number : (f : ℕ → Command) (top : ℕ) (text : List ℕ) → ((n : ℕ) → n ≤ top → Fine most (f n)) → Fine most (of_number (number_of top text) f)
  within-number f top text h = value (number_of top text) f top text refl h

  within-direction : (x : Option Direction) (f : Direction → Command) → ((direction : Direction) → Fine most (f direction)) → Fine most (of_direction x f)
  within-direction (Some direction) f h = h direction
  within-direction None f h = bad

within-reads : (most : ℕ) (name a : List ℕ) → Fine most (reads name a)
unfolding reads
within-reads most name a =
    either (is name "share") (within-number (λ i. Call (request.Share i)) _ a (λ i h. fine tt))
    (either (is name "depot") (within-number (λ d. Call (request.Depot d)) _ a (λ d h. fine tt))
    (either (is name "written") (within-number (λ n. Written n) _ a (λ n h. fine h))
    (either (is name "atleast") (within-number (λ m. Call (request.AtLeast m)) _ a (λ m h. fine tt))
    (either (is name "list") (within-number (λ n. ListWritten n) _ a (λ n h. fine h))
    bad))))

within-one : (most : ℕ) (name a : List ℕ) → Fine most (one_word name a)
unfolding one_word
within-one most name a =
    either (is name "table") (within-number (λ n. Table n) _ a (λ n h. fine h))
    (either (is name "table2") (within-number (λ n. Table2 n) _ a (λ n h. fine h))
    (either (is name "load") (either (is_bytes a) (fine tt) bad)
    (either (is name "propose") (either (is_bytes a) (fine tt) bad)
    (either (is name "migrate") (within-number (λ n. Migrate n) _ a (λ n h. fine h))
    (within-reads most name a)))))

within-two : (most : ℕ) (name a b : List ℕ) → Fine most (two_words most name a b)
unfolding two_words
within-two most name a b =
    either (is name "change")
    (within-number (λ i. of_litres most b (λ w. Call (request.Change i w))) _ a (λ i h. within-number (λ w. Call (request.Change i w)) _ b (λ w g. fine (omega (arith, g)))))
    (either (is name "difference") (within-number (λ d. of_depot b (λ e. Call (request.Difference d e))) _ a (λ d h. within-number (λ e. Call (request.Difference d e)) _ b (λ e g. fine tt)))
    (either (is name "check") (either (is_bytes a) (either (is_bytes b) (fine tt) bad) bad)
    (either (is name "make") (either (is_bytes a) (within-number (λ n. Make n) _ b (λ n h. fine h)) bad)
    (within-direction (direction_of name) (λ direction. of_bytes a (of_size b (λ n. Convert direction n)))
    (λ direction. either (is_bytes a) (within-number (λ n. Convert direction n) _ b (λ n h. fine h)) bad)))))

within-three : (most : ℕ) (name a b c : List ℕ) → Fine most (three_words most name a b c)
unfolding three_words
within-three most name a b c =
    either (is name "add")
    (within-number (λ f. of_depot b (λ s. of_litres most c (λ w. Call (request.Add f s w)))) _ a
    (λ f h. within-number (λ s. of_litres most c (λ w. Call (request.Add f s w))) _ b
    (λ s g. within-number (λ w. Call (request.Add f s w)) _ c (λ w k. fine (omega (arith, k))))))
    bad

within-four : (most : ℕ) (name a b c d : List ℕ) → Fine most (four_words name a b c d)
unfolding four_words
within-four most name a b c d =
    within-direction (direction_of name) (λ direction. of_bytes a (of_bytes b (of_size c (λ n. of_size d (λ m. ConvertPlan direction n m)))))
    (λ direction. either (is_bytes a) (either (is_bytes b)
    (within-number (λ n. of_size d (λ m. ConvertPlan direction n m)) _ c
    (λ n h. within-number (λ m. ConvertPlan direction n m) _ d (λ m g. fine (h, g)))) bad) bad)

within-call : (most : ℕ) (name : List ℕ) (words : List (List ℕ)) → Fine most (call_of most name words)
within-call most name [] = bad
within-call most name (a ∷ []) = within-one most name a
within-call most name (a ∷ b ∷ []) = within-two most name a b
within-call most name (a ∷ b ∷ c ∷ []) = within-three most name a b c
within-call most name (a ∷ b ∷ c ∷ d ∷ []) = within-four most name a b c d
within-call most name (a ∷ b ∷ c ∷ d ∷ e ∷ more) = bad

within-words : (most : ℕ) (words : List (List ℕ)) → Fine most (of_words most words)
within-words most [] = fine tt
within-words most (name ∷ words) = either (is_comment name) (fine tt) (within-call most name words)

-- r is the command of the line
module _ {r : Command} (most : ℕ) (line : List ℕ) (e : r ≡ command_of most line) where
  -- its numbers are within their bounds
  pub within : {x : Command} → r ≡ x → Within most x
  within h = holds (rw (sym e ∙ h) at (within-words most (words_of line)))
