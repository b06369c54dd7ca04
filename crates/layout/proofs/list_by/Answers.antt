-- `layout::list_by` meets its contract. The invariant: the sites passed stand over blank places. Assumes nothing.
use Rattle.std.proofs.Common.{◌≡◌, ◌-◌, ◌/◌, ◌<◌, List, length, take, refl, sym, ap, ap₂, ◌∙◌, arith, replicate}
use lib.ListN.{set, length-replicate}
use Rattle.density.specs.declared.Site.{Site}
use Rattle.density.specs.Network.{no_site}
use Rattle.table.proofs.Overlay.{overlay-none, overlay-next, overlay-front}
use Rattle.layout.specs.Layout.{places_in, sites_in}
use Rattle.layout.proofs.Reading.{length-sites}
use Rattle.layout.proofs.Places.{places-by}
use Rattle.layout.proofs.list_by.Goals as goal

pub loop-i-init : goal.loop-i-init
loop-i-init c = ap (replicate 512) c.no_site-sites.ensures ∙ sym (overlay-none _ _)

pub loop-i-preserved : goal.loop-i-preserved
loop-i-preserved c =
    let l = c.loop-i in
    let a = c.args in
    let t = a.t.now in
    let all = sites_in (a.size - 2) t in
    let many : length all ≡ length t / a.size = length-sites (a.size - 2) t ∙ places-by a.size t c.requires.0 in
    let here : l.i < length all = omega (arith, many, c.loop-i-test.true, c.min-places.ensures, c.capacity.ensures) in
    let there : l.i < length (replicate 512 no_site) = omega (arith, length-replicate 512 no_site, c.loop-i-test.true, c.min-places.ensures, c.capacity.ensures) in
    ap₂ (λ (o : List Site) (x : Site). set o l.i x) l.invariant c.site_at.ensures ∙ overlay-next all (replicate 512 no_site) l.i no_site here there

pub returns : goal.returns
returns c =
    let a = c.args in
    let t = a.t.now in (
      refl,
      refl,
      λ few room.
          let by : places_in (a.size - 2) t ≡ length t / a.size = places-by a.size t c.requires.0 in
          let e : c.loop-i.i ≡ a.n = omega (arith, few, room, by, c.loop-i-test.false, c.loop-i.auto.i-end, c.min-places.ensures, c.capacity.ensures) in
          ap (take a.n) c.loop-i.invariant
          ∙ overlay-front a.n c.loop-i.i (sites_in (a.size - 2) t) (replicate 512 no_site) (omega (arith, e)) (omega (arith, e, room, length-sites (a.size - 2) t)),
    )
