-- Sums and tests over the numbers below n.
use Rattle.std.specs.Prelude.{Bool, true, false, not, ◌&&◌, ◌||◌, ℕ, zero, suc, ◌+◌}

infixr 40 ◌⇒◌
-- the second test passes where the first does
abbrev pub ◌⇒◌ : Bool → Bool → Bool
◌⇒◌ a b = not a || b

-- n where the test passes, and 0 where it fails
abbrev pub when : Bool → ℕ → ℕ
when true n = n
when false n = 0

-- f 0 + f 1 + .. + f (n - 1)
unfoldable pub sum : (ℕ → ℕ) → ℕ → ℕ
sum f zero = 0
sum f (suc n) = sum f n + f n

-- every number below n passes the test
unfoldable pub all : (ℕ → Bool) → ℕ → Bool
all f zero = true
all f (suc n) = all f n && f n

-- some number below n passes the test
unfoldable pub any : (ℕ → Bool) → ℕ → Bool
any f zero = false
any f (suc n) = any f n || f n
