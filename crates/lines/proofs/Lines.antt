-- The lines of depots, groups and sites are those of the definition. Assumes nothing.
use mathlib.Core.Path.{◌≡◌, sym, ap, subst, ◌∙◌}
use mathlib.Core.List.{List}
use Prim.Native.Nat.{ℕ, ◌+◌, ◌-◌, ◌*◌, ◌<◌, ◌≤◌, max}
use native.Mathlib.Omega.{arith}
use lib.Dec.{T}
use lib.ListN.{get_or}
use lib.Seq.{get_or-take}
use Rattle.sets.specs.Set.{∅}
use Rattle.density.specs.declared.Site.{Site}
use Rattle.density.specs.Network.{Valid, no_site}
use Rattle.density.specs.Groups.{Decomposition, groups_of}
use Rattle.density.specs.Plan.{place, carrier, group_size, second_share, Rules}
use Rattle.density.proofs.Litres.{size-pos}
use Rattle.density.proofs.Lists.{valid}
use Rattle.density.proofs.Places.{follow-next}
use Rattle.density.proofs.Figures.{depot-litres, depot-size}
use Rattle.records.specs.Values.{listing}
use Rattle.tables.specs.Tables.{net, groups_in, shares_in, Entry}
use Rattle.tables.proofs.Shares.{sites-count, groups-count, place-lt, depots-small, asked, entry}
use Rattle.figures.specs.declared.Figures.{Figures}
use Rattle.figures.specs.Computed.{Computed}
use Rattle.lines.specs.declared.DepotLine.{DepotLine}
use Rattle.lines.specs.declared.GroupLine.{GroupLine}
use Rattle.lines.specs.declared.SiteLine.{SiteLine}
use Rattle.lines.specs.Lines.{depot_line, group_line, site_line}

module _ (x : Figures) (c : Computed x) where
  abbrev gs : List ℕ
  gs = groups_in x.list x.plan

  ok : Valid (net x.list)
  ok = valid (listing x.list) c.ready.counted.range

  -- no group is empty
  size-some : (k : ℕ) → k < x.plan.count → 0 < group_size (net x.list) gs k
  unfolding group_size Decomposition
  size-some k l =
      let n = (follow-next (net x.list) ∅ gs c.planned.plan.groups k (omega (arith, groups-count x.list x.plan c.ready))).candidate in
      size-pos (net x.list) ok _ n.listed n.some

  -- ---- a listed depot

  module _ (d : ℕ) (t : T ((net x.list).listed d)) where
    pub depot-small : d < 64
    depot-small = ok.small d t

    place_is : get_or x.places d 0 ≡ place gs d
    place_is = c.tables.place d depot-small

    pub place-small : get_or x.places d 0 < x.plan.count
    place-small = omega (arith, place_is, place-lt x.list x.plan c.ready d t)

    pub depot-line-is :
        ◌≡◌ {A = DepotLine}
        (record {
          depot = d;
          group = get_or x.places d 0 + 1;
          litres = get_or x.litres (get_or x.places d 0) 0;
          size = get_or x.sizes (get_or x.places d 0) 0;
        })
        (depot_line (net x.list) d)
    depot-line-is =
        rw (c.litres _ place-small, c.tables.size _ place-small, place_is, depot-litres (net x.list) ok gs c.planned.plan.groups d, depot-size (net x.list) ok gs c.planned.plan.groups d, c.planned.groups-are)

  -- ---- a group

  pub group-line-is : (k : ℕ) → k < x.plan.count
      → ◌≡◌ {A = GroupLine} (record { depots = get_or x.plan.groups k 0; litres = get_or x.litres k 0; size = get_or x.sizes k 0 }) (group_line (net x.list) (groups_of (net x.list)) k)
      × (0 < get_or x.sizes k 0)
  group-line-is k l = (
    subst (λ hs. ◌≡◌ {A = GroupLine} (record { depots = get_or x.plan.groups k 0; litres = get_or x.litres k 0; size = get_or x.sizes k 0 }) (group_line (net x.list) hs k)) c.planned.groups-are
        (rw (c.litres k l, c.tables.size k l, get_or-take x.plan.count x.plan.groups k 0 l)),
    omega (arith, c.tables.size k l, size-some k l),
  )

  -- ---- a site

  module _ (i : ℕ) (l : i < x.list.count) where
    -- the site, the place of the group that carries it, and q
    abbrev pub site_of : Site
    site_of = get_or x.list.sites i no_site

    abbrev pub place_of : ℕ
    place_of = max (get_or x.places site_of.first 0) (get_or x.places site_of.second 0)

    abbrev pub size_of : ℕ
    size_of = get_or x.sizes place_of 0

    pub depots-low : (site_of.first < 64) × (site_of.second < 64)
    depots-low = depots-small x.list x.plan c.ready x.places x.sizes c.tables i l

    pub size_low : (place_of < 64) × (size_of ≤ 576)
    size_low = (asked x.list x.plan c.ready x.places x.sizes c.tables i l).1

    -- what the arrays have of the site
    known : Entry (net x.list) gs (shares_in x.list x.plan) i site_of (get_or x.places site_of.first 0) (get_or x.places site_of.second 0) (site_of.litres * size_of) (get_or x.plan.shares i 0)
    known = entry x.list x.plan c.ready x.places x.sizes c.tables i l

    here : i < (net x.list).count
    here = omega (arith, sites-count x.list x.plan c.ready)

    carrier-lt : carrier gs ((net x.list).site i) < x.plan.count
    unfolding carrier
    carrier-lt = omega (arith, place-lt x.list x.plan c.ready _ (ok.first-listed i here), place-lt x.list x.plan c.ready _ (ok.second-listed i here))

    carrier-is : carrier gs ((net x.list).site i) ≡ place_of
    unfolding carrier
    carrier-is = rw (known.site, known.first-place, known.second-place)

    size_is : group_size (net x.list) gs (carrier gs ((net x.list).site i)) ≡ size_of
    size_is = sym (c.tables.size _ carrier-lt) ∙ ap (λ k. get_or x.sizes k 0) carrier-is

    pub share-≤ : get_or x.plan.shares i 0 ≤ site_of.litres * size_of
    share-≤ = omega (arith, (c.planned.plan.shares.rules i here).bound, known.share, known.whole)

    -- what is printed of the site, where its litres and q were found
    abbrev shown : ℕ → ℕ → SiteLine
    shown w q =
        record {
          first = record { depot = site_of.first; share = get_or x.plan.shares i 0 };
          second = record { depot = site_of.second; share = w * q - get_or x.plan.shares i 0 };
          size = q;
          litres = w;
        }

    line-is : shown site_of.litres size_of ≡ site_line (net x.list) gs (shares_in x.list x.plan) i
    unfolding second_share
    line-is = rw (size_is, known.whole, known.share, known.site)

    -- the line of a site, whose shares keep the rules
    pub site-line-is : (w q : ℕ) → w ≡ site_of.litres → q ≡ size_of
        → (shown w q ≡ site_line (net x.list) (groups_of (net x.list)) (shares_in x.list x.plan) i)
        × (Rules (net x.list) (groups_of (net x.list)) (shares_in x.list x.plan) i × (0 < q))
    site-line-is w q a b =
        subst
        (λ hs.
        (shown w q ≡ site_line (net x.list) hs (shares_in x.list x.plan) i)
        × (Rules (net x.list) hs (shares_in x.list x.plan) i × (0 < q)))
        c.planned.groups-are
        (rw (a, b) line-is, (c.planned.plan.shares.rules i here, omega (arith, size_is, size-some _ carrier-lt)))
