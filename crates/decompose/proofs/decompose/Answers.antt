-- `decompose::decompose` meets its contract. Assumes nothing.
use mathlib.Core.Path.{◌≡◌}
use lib.ListN.{length}
use borrow.Author.Rules.{rules}
use Rattle.decompose.proofs.Whole.{fill_begins, link-begins, tables, begun, planned}
use Rattle.decompose.proofs.decompose.Goals as goal

pub fill-requires : goal.fill-requires
fill-requires c = (c.requires.0, fill_begins _)

pub link-requires : goal.link-requires
link-requires c = link-begins _ c.fill.ensures.arcs

pub split-count-requires-clause-tables : goal.split-count-requires-clause-tables
split-count-requires-clause-tables c =
    let list = c.args.list in
    let l : length list.sites ≡ 512 = search rules in
    let w : length c.crews-crews.result ≡ 64 = search rules in
    tables list c.requires.0 c.requires.1 l c.fill.ensures c.listed-listed.ensures c.crews-crews.result c.crews-crews.ensures w

pub split-count-requires-clause-begun : goal.split-count-requires-clause-begun
split-count-requires-clause-begun c = begun c.listed-listed.type_inv

pub returns : goal.returns
returns c =
    let list = c.args.list in
    let l : length list.sites ≡ 512 = search rules in
    planned list c.requires.0 c.requires.1 l c.fill.ensures c.listed-listed.ensures c.crews-crews.result c.crews-crews.ensures c.split-count.ensures c.first_shares-shares.ensures
