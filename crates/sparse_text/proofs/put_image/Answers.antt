-- `sparse_text::put_image` meets its contract.
-- Assumes nothing.
use mathlib.Core.Path.{◌≡◌, sym}
use Prim.Native.Nat.{◌+◌, ◌-◌}
use native.Mathlib.Omega.{arith}
use Rattle.sparse_text.proofs.Chunks.{going_start, going_step, going_refused, going_done}
use Rattle.sparse_text.proofs.put_image.Goals as goal

pub loop-init : goal.loop-init
loop-init c =
    let all : c.read_header-header.result.chunks - 0 ≡ c.read_header-header.result.chunks = omega arith in
    rw all (going_start _ _ _ _ c.read_header-header.ensures)

pub returns-in-Err : goal.returns-in-Err
returns-in-Err c =
    λ ks e. absurd (going_refused _ _ _ _ _ _ _ c.loop.invariant _ _ (omega (arith, c.loop-test.true)) (sym c.in-Err.ensures) ks e)

pub loop-preserved : goal.loop-preserved
loop-preserved c =
    let left : c.read_header-header.result.chunks - c.loop.counter - 1 ≡ c.read_header-header.result.chunks - (c.loop.counter + 1) = omega arith in
    rw left at (going_step _ _ _ _ _ _ _ c.loop.invariant c.in-Ok.read.0 c.in-Ok.read.1 (omega (arith, c.loop-test.true)) (sym c.in-Ok.ensures) c.put_chunk.ensures)

pub returns : goal.returns
returns c =
    going_done _ _ _ _ _ _ _ c.loop.invariant c.read_header-header.ensures c.put_header.ensures (omega (arith, c.loop-test.false)) c.put_last.ensures
