-- `layout::site_in` meets its contract. Assumes nothing.
use Rattle.std.proofs.Common.{◌+◌, drop, refl, ◌∙◌, arith}
use Rattle.layout.proofs.Places.{place_read, place-small}
use Rattle.layout.proofs.site_in.Goals as goal

pub site_of-requires : goal.site_of-requires
site_of-requires c =
    let a = c.args in
    place-small (2 + a.w) (drop a.at a.t.now) (omega (arith, c.requires.0)) c.field.ensures

pub returns : goal.returns
returns c =
    let a = c.args in
    c.site_of.ensures ∙ place_read a.w (2 + a.w) a.at a.t.now refl (λ i. (c.type_inv.t i).fits) c.requires.1 c.field.ensures
