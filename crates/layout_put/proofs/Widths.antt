-- What the types of sites in an array say of their widths. Assumes nothing.
use Prim.Native.Nat.{ℕ, zero, suc, ◌<◌, ◌^◌}
use mathlib.Core.List.{List, [], ◌∷◌}
use native.Mathlib.Omega.{arith}
use lib.ListN.{get_or, take}
use mir.Val.{Val}
use denote.Array.{Array, each}
use denote.Laws.{Is}
use denote.Shadow.{shadow}
use denote.Struct.Laws as LL
use Rattle.records.specs.Write.{All}
use Rattle.density.specs.declared.Site.{Site}
use Rattle.density.specs.Network.{no_site}
use Rattle.density.specs.contracts.Site as T
use Rattle.density.proofs.Site.TheLaws as T'
use Rattle.layout.specs.Layout.{SiteFits}

-- sites whose litres have the width
sites-each : (w : ℕ) (l : List Site) (us : List Val) → shadow (each Site (T.the_row).own_val l us) → (n : ℕ) → ((i : ℕ) → i < n → (get_or l i no_site).litres < 256 ^ w)
    → All (SiteFits w) (take n l)
sites-each w l us is zero h = tt
sites-each w [] us is (suc n) h = tt
sites-each w (x ∷ l) [] is (suc n) h = absurd is
sites-each w (x ∷ l) (u ∷ us) is (suc n) h =
    let f = LL.owed T.the_type T'.the_laws x _ is.0 in
    ((f.0.1, f.1.0.1, h 0 (omega arith)), sites-each w l us is.1 n (λ i m. h (suc i) (omega arith)))

pub sites-fit : (w m : ℕ) (l : List Site) (vs : List Val) → Is (Array T.the_row m) l vs → (n : ℕ) → ((i : ℕ) → i < n → (get_or l i no_site).litres < 256 ^ w)
    → All (SiteFits w) (take n l)
sites-fit w m l vs is = sites-each w l is.0 is.1.1
