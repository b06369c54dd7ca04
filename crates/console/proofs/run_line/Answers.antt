-- `console::run_line` is safe and ends: the numbers of a command are within their bounds.
-- Assumes nothing.
use Prim.Native.Nat.{ℕ}
use mathlib.Core.Path.{refl, subst}
use lib.Dec.{lit≤}
use Rattle.store.specs.Widths.{Named}
use Rattle.commands.proofs.Reading.{within}
use Rattle.console.proofs.run_line.Goals as goal

pub run_table-requires : goal.run_table-requires
run_table-requires g c = within _ c.args.line.now c.parse-command.ensures c.in-Table.is

pub run_call-requires : goal.run_call-requires
run_call-requires g c =
    let named = within _ c.args.line.now c.parse-command.ensures c.in-Call.is in
    (lit≤ tt, subst (λ (b : ℕ). Named b c.in-Call.request) c.most_litres.ensures named)

pub run_call-requires-in-Written : goal.run_call-requires-in-Written
run_call-requires-in-Written g c =
    (within _ c.args.line.now c.parse-command.ensures c.in-Written.is, tt)

pub run_call-requires-in-ListWritten : goal.run_call-requires-in-ListWritten
run_call-requires-in-ListWritten g c =
    (within _ c.args.line.now c.parse-command.ensures c.in-ListWritten.is, tt)

pub run_table-requires-in-Table2 : goal.run_table-requires-in-Table2
run_table-requires-in-Table2 g c =
    within _ c.args.line.now c.parse-command.ensures c.in-Table2.is

pub run_migrate-requires : goal.run_migrate-requires
run_migrate-requires g c =
    within _ c.args.line.now c.parse-command.ensures c.in-Migrate.is

pub run_apart-requires : goal.run_apart-requires
run_apart-requires g c =
    (_, within _ c.args.line.now c.parse-command.ensures refl)
