-- `sparse_store::store_blocks` meets its contract. The loop's invariant: what is left to store, laid over what the partition
-- holds, gives the whole. The measure is what is left of the image. Assumes nothing.
use mathlib.Core.Path.{refl}
use Prim.Native.Nat.{◌*◌, ◌^◌, ◌<◌}
use native.Mathlib.Omega.{arith}
use Rattle.sparse_store.proofs.Turn.{turn_start, turn_done, not_refused, Here, passes, stretch, took_left, took_bytes, turned}
use Rattle.sparse_store.proofs.store_blocks.Goals as goal
use Rattle.sparse_store.proofs.store_blocks.Goals.{In_ok-chunk}

-- the chunk of this turn
here : (c : In_ok-chunk) → Here
    c.args.image.now
    c.read_header-header.result
    c.args.partition.now
    c.args.count
    c.loop-left.partition
    c.loop-left.cursor
    c.loop-left.left
    c.in_ok-chunk.chunk
    c.in_ok-chunk.next
here c =
    record {
      turn = c.loop-left.invariant;
      some_left = c.loop-left-test.true;
      read = c.in_ok-chunk.ensures;
    }

pub loop-left-init : goal.loop-left-init
loop-left-init c =
    turn_start _ _ _ _ c.read_header-header.ensures c.requires

pub returns-in_err-chunk : goal.returns-in_err-chunk
returns-in_err-chunk c =
    absurd (not_refused c.loop-left.invariant c.loop-left-test.true _ _ c.in_err-chunk.ensures)

pub overflow_mul-from : goal.overflow_mul-from
overflow_mul-from c =
    let fits : c.loop-left.cursor.first * c.read_header-header.result.block < 2 ^ 64 =
    omega (arith, c.well_formed, stretch (here (goal.at.overflow_mul-from c).In_ok-chunk)) in
    record { fits = fits }

pub overflow_mul-bytes : goal.overflow_mul-bytes
overflow_mul-bytes c =
    let fits : c.taken-take.result * c.read_header-header.result.block < 2 ^ 64 =
    omega (arith, c.well_formed, stretch (here (goal.at.overflow_mul-bytes c).In_ok-chunk), took_bytes (here (goal.at.overflow_mul-bytes c).In_ok-chunk) c.taken-take.ensures) in
    record { fits = fits }

pub overflow_sub-left : goal.overflow_sub-left
overflow_sub-left c = took_left (here (goal.at.overflow_sub-left c).In_ok-chunk) c.taken-take.ensures

pub loop-left-smaller : goal.loop-left-smaller
loop-left-smaller c = passes (here (goal.at.loop-left-smaller c).In_ok-chunk)

pub loop-left-preserved : goal.loop-left-preserved
loop-left-preserved c =
    turned (here (goal.at.loop-left-preserved c).In_ok-chunk) c.taken-take.ensures c.store_chunk.ensures

pub shape_of-partition : goal.shape_of-partition
shape_of-partition c = c.loop-left.invariant.size

pub returns : goal.returns
returns c = record { answer = refl; contents = turn_done c.loop-left.invariant c.loop-left-test.false }
