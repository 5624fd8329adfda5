-- `sparse_stream_bytes::pass_bytes` meets its contract: its parts one after the other, each with room for its numbers. Assumes nothing.
use Rattle.sparse_stream_bytes.proofs.Laying.{pass_put}
use Rattle.sparse_stream_bytes.proofs.Promises.{promises}
use Rattle.sparse_stream_bytes.proofs.pass_bytes.Goals as goal

pub returns : goal.returns
returns c =
    let bytes = pass_put c.args.x c.put_start-start.ensures.0 c.put_walk-numbers.ensures.0 c.put_kept.ensures.0 in (
      bytes,
      rw bytes
          (promises.written c.args.x (record { start = c.put_start-start.ensures.1; walk = c.put_walk-numbers.ensures.1; file = c.put_kept.ensures.1; chunk = c.put_kept.ensures.2; word = c.put_kept.ensures.3 })).again,
    )
