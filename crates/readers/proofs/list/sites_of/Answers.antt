-- `readers::list::sites_of` meets its contract. The loop's invariant: the first i sites are in their places, and each test tells of the first i bodies. Assumes nothing.
use Prim.Native.Nat.{◌<◌}
use mathlib.Core.Path.{◌≡◌, ◌∙◌, sym, ap}
use native.Mathlib.Omega.{arith}
use lib.ListN.{length, get_or, replicate, length-map, get_or-map}
use Rattle.sets.specs.Sum.{any}
use Rattle.sets.proofs.Set.{any-start}
use Rattle.density.specs.Network.{no_site}
use Rattle.records.proofs.Records.{fill_step, fill-all, any_step}
use Rattle.readers.specs.declared.SiteBody.{SiteBody}
use Rattle.readers.specs.Body.{site_body}
use Rattle.readers.proofs.list.sites_of.Invariants.{all}
use Rattle.readers.proofs.list.sites_of.Goals as goal
use Rattle.readers.proofs.list.sites_of.Goals.{In-loop-i, Start}

pub no_site-none-requires : goal.no_site-none-requires
no_site-none-requires c = tt

pub loop-i-init : goal.loop-i-init
loop-i-init c = (ap (replicate 512) c.no_site-none.ensures, sym (any-start _), sym (any-start _))

pub site_of-r-requires : goal.site_of-r-requires
site_of-r-requires c =
    let s = (goal.at.site_of-r-requires c).Start in
    s.requires.1 c.loop-i.i c.loop-i-test.true

pub offset_bounds-sites-i : goal.offset_bounds-sites-i
offset_bounds-sites-i c =
    let t = (goal.at.offset_bounds-sites-i c).In-loop-i in
    let s = (goal.at.In-loop-i t).Start in
    omega (arith, t.loop-i-test.true, s.requires.0)

pub bounds-sites-i : goal.bounds-sites-i
bounds-sites-i c =
    let t = (goal.at.bounds-sites-i c).In-loop-i in
    let s = (goal.at.In-loop-i t).Start in
    omega (arith, t.loop-i-test.true, s.requires.0)

pub loop-i-preserved : goal.loop-i-preserved
loop-i-preserved c =
    let t = (goal.at.loop-i-preserved c).In-loop-i in
    let l = t.loop-i in
    let s = (goal.at.In-loop-i t).Start in
    let bs = s.args.bodies.now in
    let few = s.requires.0 in
    let r : c.site_of-r.result ≡ site_body (get_or bs l.i 0) = c.site_of-r.ensures in
    let long : l.i < length (all bs) = omega (arith, t.loop-i-test.true, length-map bs (λ b. (site_body b).site)) in (
      rw (l.invariant.0, ap (λ (x : SiteBody). x.site) r, ← (get_or-map (λ b. (site_body b).site) bs l.i 0)) (fill_step (all bs) l.i 512 no_site (site_body 0).site long (omega (arith, t.loop-i-test.true, few))),
      rw (l.invariant.1, ap (λ (x : SiteBody). x.depot) r, any_step),
      rw (l.invariant.2, ap (λ (x : SiteBody). x.litres) r, any_step),
    )

pub returns : goal.returns
returns c =
    let l = c.loop-i in
    let a = c.args in
    let bs = a.bodies.now in
    let e : l.i ≡ length bs = omega (arith, c.loop-i-test.false) in
    let placed = fill-all (all bs) 512 no_site (length-map bs (λ b. (site_body b).site) ∙ sym e) l.invariant.0 in
    let depots = l.invariant.1 ∙ ap (any (λ j. (site_body (get_or bs j 0)).depot)) e in
    let litres = l.invariant.2 ∙ ap (any (λ j. (site_body (get_or bs j 0)).litres)) e in
    λ j. record { sites = placed j; marks = a.marks; depots = depots j; litres = litres j }
