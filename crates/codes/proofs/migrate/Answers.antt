-- `codes::migrate` meets its contract. Assumes nothing.
use mathlib.Core.Path.{◌≡◌, sym, ap, ◌∙◌}
use native.Mathlib.Omega.{arith}
use Rattle.records.specs.declared.Edition.{Edition}
use Rattle.records.specs.Format.{edition1, edition2}
use Rattle.lent.specs.Lent.{is_of}
use Rattle.codes.specs.declared.Coded.{Coded}
use Rattle.codes.specs.Codes.{done_code}
use Rattle.signed.proofs.Signed.{read_back}
use Rattle.codes.proofs.DeskCodes.{fitting1, fitting2, no-first, no_second, migrate-code}
use Rattle.codes.proofs.migrate.Goals.{After-is_store, After-is_store-2}
use Rattle.codes.proofs.migrate.Goals as goal

pub is_store-requires : goal.is_store-requires
is_store-requires c = fitting1 c.edition1.ensures

pub is_store-requires-2 : goal.is_store-requires-2
is_store-requires-2 c = fitting2 c.edition2.ensures

-- what the two tests of a length say
first-tested : (c : After-is_store) → is_of edition1 c.args.store.now ≡ c.is_store.result
first-tested c = sym (c.is_store.ensures ∙ ap (λ (e : Edition). is_of e c.args.store.now) c.edition1.ensures)

second-tested : (c : After-is_store-2) → is_of edition2 c.args.store2.now ≡ c.is_store-2.result
second-tested c = sym (c.is_store-2.ensures ∙ ap (λ (e : Edition). is_of e c.args.store2.now) c.edition2.ensures)

pub returns-then-not-is_store : goal.returns-then-not-is_store
returns-then-not-is_store c = no-first (first-tested (goal.at.returns-then-not-is_store c).After-is_store ∙ c.if-not-is_store.true)

pub returns-then-not-is_store-2 : goal.returns-then-not-is_store-2
returns-then-not-is_store-2 c =
    let k = goal.at.returns-then-not-is_store-2 c in
    no_second (first-tested k.After-is_store ∙ c.if-not-is_store.false) (second-tested k.After-is_store-2 ∙ c.if-not-is_store-2.true)

pub migrate-a-requires : goal.migrate-a-requires
migrate-a-requires c =
    let k = goal.at.migrate-a-requires c in
    (first-tested k.After-is_store ∙ c.if-not-is_store.false, second-tested k.After-is_store-2 ∙ c.if-not-is_store-2.false)

pub returns : goal.returns
returns c =
    let k = goal.at.returns c in
    migrate-code (first-tested k.After-is_store ∙ c.if-not-is_store.false) (second-tested k.After-is_store-2 ∙ c.if-not-is_store-2.false) c.migrate-a.ensures
    (read_back (omega arith) ∙ ap (λ (o : Coded). o.code) c.outcome.ensures ∙ ap done_code c.numbered.ensures)
