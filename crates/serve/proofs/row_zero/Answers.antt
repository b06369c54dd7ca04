-- `serve::row_zero` meets its contract. Assumes nothing.
use Rattle.serve.proofs.ServeRules.{stands}
use Rattle.serve.proofs.row_zero.Goals as goal

pub returns : goal.returns
returns c = λ e table k h.
    let known = c.summary-known.ensures in
    c.is_corrupt.ensures _ (stands c.args.store c.args.sites c.args.places _ known.0 known.1 known.2 e table k h)
