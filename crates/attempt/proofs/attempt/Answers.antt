-- `attempt::attempt` meets its contract. Assumes nothing.
use mathlib.Core.Path.{refl}
use Rattle.attempt.proofs.Attempting.{attempt-heavy, attempt-lay, attempt-loaded, attempted, zero-total}
use Rattle.attempt.proofs.Laws.{zero-at}
use Rattle.attempt.proofs.attempt.Goals as goal

pub lay-w-requires-clause-laying : goal.lay-w-requires-clause-laying
lay-w-requires-clause-laying c = attempt-lay c.requires _ refl zero-total (zero-at 64)

pub aim-requires-clause-crews_len : goal.aim-requires-clause-crews_len
aim-requires-clause-crews_len c = (c.requires.crew, attempt-heavy c.requires c.lay-w.ensures)

pub relax-requires-clause-loaded : goal.relax-requires-clause-loaded
relax-requires-clause-loaded c = attempt-loaded c.requires c.lay-w.ensures

pub returns : goal.returns
returns c = attempted c.requires c.lay-w.ensures c.aim.ensures c.relax.ensures c.unreached.ensures
