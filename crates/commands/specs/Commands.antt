-- The commands of a script's lines.
use Rattle.std.specs.Prelude.{ℕ, ◌+◌, ◌≤◌, Bool, true, false, cond, List, [], ◌∷◌, Option, Some, None, eqb}
use Rattle.script.specs.Hex.{is_bytes}
use Rattle.script.specs.Decimal.{number_of}
use Rattle.script.specs.Words.{words_of}
use Rattle.script.specs.Ascii.{is}
use Rattle.store.specs.declared.Request.TheVariants as request
use Rattle.store.specs.Widths.{Named}
use Rattle.commands.specs.declared.Direction.{Direction}
use Rattle.commands.specs.declared.Direction.TheVariants.{Upgrade, Downgrade}
use Rattle.commands.specs.declared.Command.{Command}
use Rattle.commands.specs.declared.Command.TheVariants.{Blank, Bad, Table, Call, Written, Check, Make, ListWritten, Table2, Convert, ConvertPlan, Migrate}

-- the command where the word stands for bytes
abbrev pub of_bytes : List ℕ → Command → Command
of_bytes word c = cond (is_bytes word) c Bad

-- the command of a number
abbrev pub of_number : Option ℕ → (ℕ → Command) → Command
of_number (Some n) f = f n
of_number None f = Bad

-- a site is at most 2^64 - 1, a depot at most 255, a threshold (document 02's mark) at most 4,294,967,295; litres are at most the largest of the store's edition
abbrev pub of_site : List ℕ → (ℕ → Command) → Command
of_site word f = of_number (number_of 18446744073709551615 word) f

abbrev pub of_depot : List ℕ → (ℕ → Command) → Command
of_depot word f = of_number (number_of 255 word) f

abbrev pub of_litres : ℕ → List ℕ → (ℕ → Command) → Command
of_litres most word f = of_number (number_of most word) f

abbrev pub of_threshold : List ℕ → (ℕ → Command) → Command
of_threshold word f = of_number (number_of 4294967295 word) f

-- a table has at most 600 places, a buffer at most 8,192 bytes
abbrev pub of_places : List ℕ → (ℕ → Command) → Command
of_places word f = of_number (number_of 600 word) f

abbrev pub of_size : List ℕ → (ℕ → Command) → Command
of_size word f = of_number (number_of 8192 word) f

-- a call that only reads, and one word behind it
unfoldable pub reads : List ℕ → List ℕ → Command
reads name a =
    -- share SITE
    cond (is name "share") (of_site a (λ i. Call (request.Share i)))
    -- depot D
    (cond (is name "depot") (of_depot a (λ d. Call (request.Depot d)))
    -- written LEN
    (cond (is name "written") (of_size a (λ n. Written n))
    -- atleast LITRES
    (cond (is name "atleast") (of_threshold a (λ m. Call (request.AtLeast m)))
    -- list LEN
    (cond (is name "list") (of_size a (λ n. ListWritten n))
    Bad))))

-- a name and one word behind it
unfoldable pub one_word : List ℕ → List ℕ → Command
one_word name a =
    -- table N
    cond (is name "table") (of_places a (λ n. Table n))
    -- table2 N
    (cond (is name "table2") (of_places a (λ n. Table2 n))
    -- load LIST
    (cond (is name "load") (of_bytes a (Call request.Load))
    -- propose PLAN
    (cond (is name "propose") (of_bytes a (Call request.Propose))
    -- migrate N
    (cond (is name "migrate") (of_places a (λ n. Migrate n))
    (reads name a)))))

-- the directions by their names; any other name has none
unfoldable pub direction_of : List ℕ → Option Direction
direction_of name = cond (is name "upgrade") (Some Upgrade) (cond (is name "downgrade") (Some Downgrade) None)

-- the command of a direction
abbrev pub of_direction : Option Direction → (Direction → Command) → Command
of_direction (Some direction) f = f direction
of_direction None f = Bad

-- does the direction go back?
abbrev pub is_back : Direction → Bool
is_back Upgrade = false
is_back Downgrade = true

-- a name and two words behind it
unfoldable pub two_words : ℕ → List ℕ → List ℕ → List ℕ → Command
two_words most name a b =
    -- change SITE LITRES
    cond (is name "change") (of_site a (λ i. of_litres most b (λ w. Call (request.Change i w))))
    -- difference A B
    (cond (is name "difference") (of_depot a (λ d. of_depot b (λ e. Call (request.Difference d e))))
    -- check LIST PLAN
    (cond (is name "check") (of_bytes a (of_bytes b Check))
    -- make LIST LEN
    (cond (is name "make") (of_bytes a (of_size b (λ n. Make n)))
    -- upgrade LIST LEN, downgrade LIST LEN
    (of_direction (direction_of name) (λ direction. of_bytes a (of_size b (λ n. Convert direction n)))))))

-- a name and three words behind it
unfoldable pub three_words : ℕ → List ℕ → List ℕ → List ℕ → List ℕ → Command
three_words most name a b c =
    -- add FIRST SECOND LITRES
    cond (is name "add") (of_depot a (λ f. of_depot b (λ s. of_litres most c (λ w. Call (request.Add f s w)))))
    Bad

-- a name and four words behind it
unfoldable pub four_words : List ℕ → List ℕ → List ℕ → List ℕ → List ℕ → Command
four_words name a b c d =
    -- upgrade LIST PLAN LEN LEN, downgrade LIST PLAN LEN LEN: the first length is that of the list's buffer, the second that of the plan's
    of_direction (direction_of name) (λ direction. of_bytes a (of_bytes b (of_size c (λ n. of_size d (λ m. ConvertPlan direction n m)))))

-- a word too many or too few is bad
abbrev pub call_of : ℕ → List ℕ → List (List ℕ) → Command
call_of most name [] = Bad
call_of most name (a ∷ []) = one_word name a
call_of most name (a ∷ b ∷ []) = two_words most name a b
call_of most name (a ∷ b ∷ c ∷ []) = three_words most name a b c
call_of most name (a ∷ b ∷ c ∷ d ∷ []) = four_words name a b c d
call_of most name (a ∷ b ∷ c ∷ d ∷ e ∷ more) = Bad

-- does the word begin with `#` (byte 35)?
abbrev pub is_comment : List ℕ → Bool
is_comment [] = false
is_comment (b ∷ word) = eqb b 35

-- a line without words, and one whose first word begins with `#`, is blank
abbrev pub of_words : ℕ → List (List ℕ) → Command
of_words most [] = Blank
of_words most (name ∷ words) = cond (is_comment name) Blank (call_of most name words)

-- the command of a line, where litres are at most `most`
abbrev pub command_of : ℕ → List ℕ → Command
command_of most line = of_words most (words_of line)

-- the numbers of a command are within their bounds, as those of every line's command are, where litres are at most `most`
abbrev pub Within : ℕ → Command → Type 0
Within most Blank = Unit {0}
Within most Bad = Unit {0}
Within most (Table n) = n ≤ 600
Within most (Call request) = Named (most + 1) request
Within most (Written n) = n ≤ 8192
Within most Check = Unit {0}
Within most (Make n) = n ≤ 8192
Within most (ListWritten n) = n ≤ 8192
Within most (Table2 n) = n ≤ 600
Within most (Convert direction n) = n ≤ 8192
Within most (ConvertPlan direction n m) = (n ≤ 8192) × (m ≤ 8192)
Within most (Migrate n) = n ≤ 600
