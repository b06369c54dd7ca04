-- `layout_put::put_by` meets its contract. The invariant: the sites passed stand at the front. Assumes nothing.
use Rattle.std.proofs.Common.{◌≡◌, length, take, refl, ◌∙◌, arith}
use mathlib.Core.List.{flat_map}
use lib.Seq.{take-length}
use Rattle.density.specs.Network.{no_site}
use Rattle.records.proofs.Buffers.{run_step}
use Rattle.layout.specs.Layout.{place_size, place_bytes}
use Rattle.layout_put.proofs.RoundTrip.{length-place}
use Rattle.layout_put.proofs.put_by.Goals as goal

pub loop-i-init : goal.loop-i-init
unfolding flat_map
loop-i-init c = (refl, refl)

pub loop-i-preserved : goal.loop-i-preserved
loop-i-preserved c =
    let l = c.loop-i in
    let a = c.args in (
      c.put_site.auto.out ∙ l.invariant.0,
      c.put_site.ensures ∙ rw l.invariant.1 (run_step (place_bytes a.w) (place_size a.w) (length-place a.w) (take a.n a.sites) a.out.now l.i no_site c.loop-i-test.true),
    )

pub returns : goal.returns
returns c =
    let l = c.loop-i in
    let e : l.i ≡ length (take c.args.n c.args.sites) = omega arith in
    rw (e, take-length) at l.invariant.1
