-- Sets of depots, and the numbers that stand for them. A width k is how many depots there are: here 64.
use Rattle.std.specs.Prelude.{◌≡◌, MatchOption, Option, Bool, true, false, not, ◌&&◌, ◌||◌, cond, ℕ, zero, suc, ◌+◌, ◌*◌, ◌/◌, ◌%◌, ◌^◌, ◌<◌, T, eqb}
use Rattle.sets.specs.Sum.{when, sum, any}

-- a set of depots
abbrev pub Depots : Type 0
Depots = ℕ → Bool

infixr 60 ◌∪◌
infixr 65 ◌∩◌
infixl 65 ◌∖◌
infix 50 ◌⊆◌
-- the empty set, and the set of d alone
abbrev pub ∅ : Depots
∅ d = false

abbrev pub only : ℕ → Depots
only d e = eqb e d

abbrev pub ◌∪◌ : Depots → Depots → Depots
◌∪◌ X Y d = X d || Y d

abbrev pub ◌∩◌ : Depots → Depots → Depots
◌∩◌ X Y d = X d && Y d

-- the depots of X that are not in Y
abbrev pub ◌∖◌ : Depots → Depots → Depots
◌∖◌ X Y d = X d && not (Y d)

-- every depot of X is in Y; none is; X has a depot
abbrev pub ◌⊆◌ : Depots → Depots → Type 0
◌⊆◌ X Y = (d : ℕ) → T (X d) → T (Y d)

abbrev pub Apart : Depots → Depots → Type 0
Apart X Y = (d : ℕ) → T (X d) → T (Y d) → ⊥

abbrev pub Nonempty : Depots → Type 0
Nonempty X = (d : ℕ) × T (X d)

-- "bit n, worth 2 to the n, stands for depot n": the set that the number x stands for
unfoldable pub has : ℕ → Depots
has x d = eqb (x / 2 ^ d % 2) 1

-- the number that stands for X's depots below k
unfoldable pub set_of : Depots → ℕ → ℕ
set_of X zero = 0
set_of X (suc k) = when (X 0) 1 + set_of (λ d. X (suc d)) k * 2

-- X has no depot below k
abbrev pub is_empty : Depots → ℕ → Bool
is_empty X k = not (any X k)

-- the weights c of X's depots below k, added up
unfoldable pub weigh : (ℕ → ℕ) → Depots → ℕ → ℕ
weigh c X k = sum (λ d. when (X d) (c d)) k

-- how many depots below k are in X
unfoldable pub cardinality : Depots → ℕ → ℕ
cardinality X k = weigh (λ d. 1) X k

-- the lowest number of X below k, or k where there is none
unfoldable pub lowest : Depots → ℕ → ℕ
lowest X zero = 0
lowest X (suc k) = cond (X 0) 0 (suc (lowest (λ d. X (suc d)) k))

-- the next depot of a set from the lowest on, and what is left of the set
abbrev pub TakesLowest : ℕ → Option ℕ → ℕ → Type 0
TakesLowest left next left' =
    MatchOption next ((is_empty (has left) 64 ≡ true) × (left' ≡ left))
    (λ d. (left < 2 ^ 64) × (is_empty (has left) 64 ≡ false) × (d < 64) × (d ≡ lowest (has left) 64) × (left' ≡ set_of (has left ∖ has (set_of (only d) 64)) 64))
