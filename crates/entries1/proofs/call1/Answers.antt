-- `entries1::call1` meets its contract. Assumes nothing.
use lib.Dec.{lit<}
use Rattle.std.proofs.Common.{◌≤◌, length, take, arith, sym, ap, subst, refl, ◌∙◌}
use Rattle.records.specs.Format.{edition1}
use Rattle.table.specs.Widths.{no_site1, widened}
use Rattle.table.proofs.Overlay.{held-stands}
use Rattle.store.specs.Calls.{told}
use Rattle.edition1.specs.Edition1.{store_of1, request_of1}
use Rattle.serve.specs.Stored.{Among}
use Rattle.serve.proofs.StoredSteps.{among, seen-steps}
use Rattle.entries1.proofs.call1.Goals as goal

pub store-requires : goal.store-requires
store-requires c =
    let d = c.serve1-d.result in
    let some_of : Among d.n c.stored1-places.result = subst (Among d.n) (sym c.stored1-places.ensures) (among (request_of1 c.args.request) c.args.store.count d.n) in
    -- the places' size is a usize; and the places are some of those that there are
    (lit< tt, (some_of.ordered, omega (arith, some_of.first, c.serve1-d.ensures.1.few), omega (arith, some_of.first, c.serve1-d.ensures.1.room)))

-- what is stored makes the table the step's
pub returns : goal.returns
returns c =
    let d = c.serve1-d.result in
    let few : d.n ≤ length d.sites = omega (arith, c.serve1-d.ensures.1.few, c.serve1-d.type_inv) in (
      c.serve1-d.ensures.0,
      rw (c.store.ensures, c.stored1-places.ensures)
          (seen-steps widened edition1 (store_of1 c.args.store) c.args.table.now d.sites d.n c.args.input.now c.args.buffer.now few c.serve1-d.ensures.1.room (request_of1 c.args.request) (store_of1 d.store)
          (record { answer = told d.answer; buffer = c.serve1-d.new.buffer })
          (c.serve1-d.ensures.1.steps c.args.table.now refl (ap (take (length c.args.table.now)) c.held-sites.ensures ∙ held-stands no_site1 c.args.table.now))),
    )
