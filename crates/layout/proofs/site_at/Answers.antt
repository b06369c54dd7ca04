-- `layout::site_at` meets its contract. Assumes nothing.
use Rattle.std.proofs.Common.{◌*◌, drop, refl, ◌∙◌}
use Rattle.layout.proofs.Places.{place-small, site-at}
use Rattle.layout.proofs.site_at.Goals as goal

pub site_of-requires : goal.site_of-requires
site_of-requires c =
    let a = c.args in
    place-small a.size (drop (a.size * a.i) a.t.now) c.requires.1 c.field.ensures

pub returns : goal.returns
returns c =
    let a = c.args in
    c.site_of.ensures ∙ site-at a.size (a.size * a.i) a.i a.t.now c.requires.0 (λ i. (c.type_inv.t i).fits) c.requires.2 refl c.field.ensures
