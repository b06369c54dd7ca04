-- `store_entries2::call2` meets its contract. Assumes nothing.
use lib.Dec.{lit<}
use Rattle.std.proofs.Common.{◌≤◌, length, take, arith, sym, ap, subst, refl, ◌∙◌}
use Rattle.density.specs.Network.{no_site}
use Rattle.records.specs.Format.{edition2}
use Rattle.table.proofs.Overlay.{held-stands}
use Rattle.store.specs.Calls.{told}
use Rattle.serve.specs.Stored.{Among}
use Rattle.serve.proofs.StoredSteps.{among, stored-steps}
use Rattle.store_entries2.proofs.call2.Goals as goal

pub store-requires : goal.store-requires
store-requires c =
    let d = c.serve2-d.result in
    let some_of : Among d.n c.stored-places.result = subst (Among d.n) (sym c.stored-places.ensures) (among c.args.request c.args.store.count d.n) in
    -- the places' size is a usize; and the places are some of those that there are
    (lit< tt, (some_of.ordered, omega (arith, some_of.first, c.serve2-d.ensures.1.few), omega (arith, some_of.first, c.serve2-d.ensures.1.room)))

-- what is stored makes the table the step's
pub returns : goal.returns
returns c =
    let d = c.serve2-d.result in
    let few : d.n ≤ length d.sites = omega (arith, c.serve2-d.ensures.1.few, c.serve2-d.type_inv) in (
      c.serve2-d.ensures.0,
      rw (c.store.ensures, c.stored-places.ensures)
          (stored-steps edition2 c.args.store c.args.table.now d.sites d.n c.args.input.now c.args.buffer.now few c.serve2-d.ensures.1.room c.args.request d.store
          (record { answer = told d.answer; buffer = c.serve2-d.new.buffer })
          (c.serve2-d.ensures.1.steps c.args.table.now refl (ap (take (length c.args.table.now)) c.held-sites.ensures ∙ held-stands no_site c.args.table.now))),
    )
