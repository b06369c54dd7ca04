-- `lent::load` meets its contract. Assumes nothing.
use mathlib.Core.Path.{refl}
use mathlib.Core.List.{List}
use Prim.Native.Nat.{ℕ}
use Rattle.std.proofs.lemmas.Result.{err_from_is_err_and}
use Rattle.store.specs.declared.Request.TheVariants as request
use Rattle.store.specs.Calls.{Call}
use Rattle.lent.proofs.Served.{places-fit, keeps, puts-sites}
use Rattle.lent.proofs.Loaded.{Fills, load-fills, load-keeps}
use Rattle.lent.proofs.load.Goals as goal
use Rattle.lent.proofs.load.Goals.{Start, In_ok-list}

abbrev asked : Start → List ℕ → Call
asked c buffer = record { request = request.Load; input = c.args.input.now; buffer = buffer }

-- a list was read
fills : (c : In_ok-list) (buffer : List ℕ)
    → let a = c.args in
    let list = c.in_ok-list.list in
    Fills a.e a.store.now a.table.now (asked (goal.at.In_ok-list c).Start buffer) list.count list.sites list.roll
fills c buffer =
    let a = c.args in
    load-fills a.e a.store.now a.table.now (asked (goal.at.In_ok-list c).Start buffer) refl c.in_ok-list.ensures

pub returns-in_err-list : goal.returns-in_err-list
returns-in_err-list c = λ buffer.
    let s = (goal.at.returns-in_err-list c).Start in
    let a = c.args in
    let p = err_from_is_err_and c.from_residual.result c.from_residual.ensures.1 in
    rw (p.1, p.2)
    (keeps a.e a.store.now a.table.now (asked s buffer) (λ i. (c.type_inv.input i).fits) refl
    (load-keeps a.e a.store.now a.table.now (asked s buffer) refl c.in_err-list.ensures))

pub put_sites-requires : goal.put_sites-requires
put_sites-requires c =
    let f = fills (goal.at.put_sites-requires c).In_ok-list c.args.input.now in
    (f.few, places-fit c.args.e.litres _ c.args.table.now f.room)

pub returns : goal.returns
returns c = λ buffer.
    let k = (goal.at.returns c).In_ok-list in
    let s = (goal.at.In_ok-list k).Start in
    let a = c.args in
    let f = fills k buffer in
    puts-sites a.e a.store.now a.table.now (asked s buffer) (λ i. (c.type_inv.input i).fits) (λ i. (c.slice_known-1.given i).fits)
    (λ i. (c.slice_known-2-1.given i).fits) tt f.few f.room f.steps c.put_new.ensures c.put_new.auto.store c.put_sites.ensures
