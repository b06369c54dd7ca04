-- Document 01, "Entry points", desk: "its sites stand in a table the caller lends". A table is the list of what stands at its places.
-- Nothing here depends on the type of a site.
use Rattle.std.specs.Prelude.{ℕ, min, List, ◌++◌, length, take, drop, replicate}

-- "Table places beyond the sites keep their content": the first n places take the first n sites, the others keep what they have.
unfoldable pub overlay : {X : Type 0} → ℕ → List X → List X → List X
overlay n sites table = take n sites ++ drop n table

-- the places from one up to another, excluded, take the sites there, the others keep what they have
abbrev pub between : {X : Type 0} → ℕ → ℕ → List X → List X → List X
between from to sites table = overlay to (overlay from table sites) table

-- 512 places with the same content
unfoldable pub blank : {X : Type 0} → X → List X
blank x = replicate 512 x

-- "A list has 0 to 512 sites": the table's first 512 places or, where it has fewer, all of them and blank ones after them
abbrev pub held_of : {X : Type 0} → X → List X → List X
held_of x table = overlay (min (length table) 512) table (blank x)

-- a table of so many places that stands in front in an array of 600: it has at most all of these
abbrev pub places_on : ℕ → ℕ
places_on places = min places 600
