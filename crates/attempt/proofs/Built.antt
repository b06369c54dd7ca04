-- The groups finished so far. Assumes nothing.
use mathlib.Core.Path.{◌≡◌}
use mathlib.Core.Bool.{Bool, false}
use mathlib.Core.List.{List}
use Prim.Native.Nat.{ℕ, suc, ◌*◌, ◌<◌}
use lib.Dec.{T}
use Rattle.sets.specs.Set.{Depots, ◌⊆◌, Apart, Nonempty, has}
use Rattle.density.specs.Network.{Network, counts, litres, size}
use Rattle.density.specs.Groups.{Candidate}
use Rattle.density.specs.Plan.{group, before}
use Rattle.density.proofs.Level.{Spread, load_of}
use Rattle.residual.specs.Array.{at}
use Rattle.attempt.specs.Arrays.{arc}

-- what each depot of a site has of it
abbrev pub shares_of : List ℕ → Bool → ℕ → ℕ
shares_of share e i = at share (arc e i)

-- X after B: a candidate with its shares by the rules, and level
pub record Finished (N : Network) (h : Bool → ℕ → ℕ) (B X : Depots) : Type 0 where
  pub candidate : Candidate N B X
  pub spread : Spread N B X h
  pub level : (d : ℕ) → T (X d) → load_of N B X h d ≡ N.crews d * litres N X B
  pub own : (i : ℕ) → i < N.count → T (counts X B (N.site i)) → (N.site i).first ≡ (N.site i).second → h false i ≡ 0

-- The first n groups, whose union is b, are finished and fall; what is left of u falls below the last.
pub record Built (N : Network) (h : Bool → ℕ → ℕ) (groups : List ℕ) (n b u : ℕ) : Type 0 where
  pub done : (k : ℕ) → k < n → Finished N h (before groups k) (group groups k)
  pub down : (k : ℕ) → suc k < n
      → litres N (group groups (suc k)) (before groups (suc k)) * size N (group groups k) < litres N (group groups k) (before groups k) * size N (group groups (suc k))
  pub all : before groups n ≡ has b
  pub next : (k : ℕ) → suc k ≡ n → (Y : Depots) → Y ⊆ has u → Apart Y (has b) → Nonempty Y
      → litres N Y (has b) * size N (group groups k) < litres N (group groups k) (before groups k) * size N Y
