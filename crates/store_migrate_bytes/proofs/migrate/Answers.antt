-- `store_migrate_bytes::migrate` meets its contract. Assumes nothing.
use mathlib.Core.Path.{◌≡◌, refl, sym, ap, subst, ◌∙◌}
use mathlib.Core.Bool.{false}
use mathlib.Core.Option.{none}
use Prim.Native.Nat.{◌<◌, ◌^◌}
use native.Mathlib.Omega.{arith}
use lib.ListN.{replicate}
use Rattle.std.proofs.lemmas.Result.{err_from_is_err_and}
use Rattle.records.specs.declared.Edition.{Edition}
use Rattle.records.specs.Refusals.{refusal_of}
use Rattle.records.specs.Format.{edition1, edition2}
use Rattle.records.specs.Values.{roll_array}
use Rattle.held_state.specs.Held.{State, corrupt}
use Rattle.held_state.specs.Values.{Stands}
use Rattle.store.specs.State.{bare}
use Rattle.layout.specs.Layout.{StoreRead}
use Rattle.layout_put.proofs.Places.{length-zeros, bare-fits}
use Rattle.lent.specs.Lent.{state_in}
use Rattle.lent.proofs.Served.{places-fit, Listed, stands}
use Rattle.store_migrate_bytes.proofs.Migrated.{Old, migrate-corrupt, migrate-refuses, migrate-few, migrate-room, written, new-put, migrate-bare, migrate-plan}
use Rattle.store_migrate_bytes.proofs.migrate.Goals as goal
use Rattle.store_migrate_bytes.proofs.migrate.Goals.{After-is_corrupt, After-migrate_row, After-summary-known}

abbrev state : After-summary-known → State
state c = let a = c.args in state_in edition1 a.store.now a.table.now

-- what is read stands for the state
standing : (c : After-summary-known)
    → let p = c.store_in-h in
    Stands (state c) c.list_in-list.result c.summary-known.result p.new.groups p.new.shares
standing c =
    let a = c.args in
    let p = c.store_in-h in
    let f = c.edition1-e in
    let k = c.summary-known.ensures in
    subst (λ (e : Edition). Stands (state_in e a.store.now a.table.now) c.list_in-list.result c.summary-known.result p.new.groups p.new.shares)
    f.ensures (stands f.result a.store.now a.table.now p.ensures c.list_in-list.ensures k.0 k.1 k.2)

-- the answer of row 0 is the state's
told : (c : After-is_corrupt) → corrupt (state (goal.at.After-is_corrupt c).After-summary-known) ≡ c.is_corrupt.result
told c = let k = (goal.at.After-is_corrupt c).After-summary-known in sym (c.is_corrupt.ensures (state k) (standing k))

pub returns-then-is_corrupt : goal.returns-then-is_corrupt
returns-then-is_corrupt c =
    let a = c.args in
    migrate-corrupt a.store.now a.table.now a.store2.now a.table2.now (told (goal.at.returns-then-is_corrupt c).After-is_corrupt ∙ c.if-is_corrupt.true)

-- what is read where row 0 has passed
old : (c : After-migrate_row) → c.is_corrupt.result ≡ false
    → let a = c.args in
    let p = c.store_in-h in
    Old a.store.now a.table.now a.table2.now p.result p.new.groups p.new.shares c.list_in-list.result (refusal_of c.migrate_row.result)
old c sound =
    let a = c.args in
    let p = c.store_in-h in
    let f = c.edition1-e in
    let l = c.list_in-list in
    record {
      read =
          subst (λ (e : Edition). StoreRead e.share e.roll a.store.now (replicate 64 0) (replicate 512 0) p.result p.new.groups p.new.shares) f.ensures
          p.ensures;
      listed = subst (λ (e : Edition). Listed e a.table.now p.result.count p.result.roll l.result) f.ensures l.ensures;
      sound = told (goal.at.After-migrate_row c).After-is_corrupt ∙ sound;
      row = c.migrate_row.ensures;
    }

pub returns-in_err-migrate_row : goal.returns-in_err-migrate_row
returns-in_err-migrate_row c =
    let o = old (goal.at.returns-in_err-migrate_row c).After-migrate_row c.if-is_corrupt.false in
    let a = c.args in
    let p = err_from_is_err_and c.from_residual.result c.from_residual.ensures.1 in
    rw (p.1, p.2) (migrate-refuses a.store.now a.table.now a.store2.now a.table2.now o (ap refusal_of c.in_err-migrate_row.was))

pub put_sites-requires : goal.put_sites-requires
put_sites-requires c =
    let o = old (goal.at.put_sites-requires c).After-migrate_row c.if-is_corrupt.false in
    let a = c.args in (
      migrate-few a.store.now a.table.now a.store2.now a.table2.now o,
      places-fit edition2.litres _ a.table2.now (migrate-room a.store.now a.table.now a.store2.now a.table2.now o (ap refusal_of c.in_ok-migrate_row.was)),
    )

-- where a plan is held
pub returns-then-h : goal.returns-then-h
returns-then-h c =
    let o = old (goal.at.returns-then-h c).After-migrate_row c.if-is_corrupt.false in
    let k = c.store_in-h.auto in
    let a = c.args in
    let store = written a.store.now a.table.now a.store2.now a.table2.now o (ap refusal_of c.in_ok-migrate_row.was) c.if-h.true in
    let wrote = c.put_plan.ensures in
    let put = new-put a.store2.now store k.groups k.shares (wrote.1 (roll_array none)) c.requires.1 refl
    c.no_roll.ensures c.put_roll.ensures c.put_roll.auto.out (wrote.0 (roll_array none)) in
    migrate-plan a.store.now a.table.now a.store2.now a.table2.now o (ap refusal_of c.in_ok-migrate_row.was) c.if-h.true
    (λ i. (c.type_inv.store i).fits) (λ i. (c.type_inv.table i).fits) (λ i. (c.slice_known-2-1.given i).fits) put
    (c.put_plan.auto.out ∙ c.put_roll.auto.out) c.put_sites.ensures

-- where none is
pub returns-else-h : goal.returns-else-h
returns-else-h c =
    let o = old (goal.at.returns-else-h c).After-migrate_row c.if-is_corrupt.false in
    let n = c.store_in-h.result.count in
    let a = c.args in
    let few : n < 256 ^ 8 = omega (arith, migrate-few a.store.now a.table.now a.store2.now a.table2.now o) in
    let put = new-put a.store2.now (bare n (roll_array none)) (length-zeros 64) (length-zeros 512) (bare-fits edition2.share n (roll_array none) few) c.requires.1 refl
    c.no_roll.ensures c.put_roll.ensures c.put_roll.auto.out (c.put_bare.ensures (roll_array none)) in
    migrate-bare a.store.now a.table.now a.store2.now a.table2.now o (ap refusal_of c.in_ok-migrate_row.was) c.if-h.false
    (λ i. (c.type_inv.table i).fits) (λ i. (c.slice_known-2-1.given i).fits) put (c.put_bare.auto.out ∙ c.put_roll.auto.out) c.put_sites.ensures
