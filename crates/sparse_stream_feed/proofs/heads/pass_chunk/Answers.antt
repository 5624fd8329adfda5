-- `sparse_stream_feed::heads::pass_chunk` meets its contract. Assumes nothing.
use native.Mathlib.Omega.{arith}
use Rattle.sparse_stream_rules.proofs.StateLaws.{chunk_fits}
use Rattle.sparse_stream_feed.proofs.heads.pass_chunk.Goals as goal

pub overflow_add-next : goal.overflow_add-next
overflow_add-next c =
    let f = chunk_fits c.args.x c.requires.0 in omega (arith, f.0, c.size_now-size.ensures)

pub overflow_add-next-2 : goal.overflow_add-next-2
overflow_add-next-2 c =
    let f = chunk_fits c.args.x c.requires.0 in omega (arith, f.1, c.blocks_now-blocks.ensures, c.requires.1)

pub returns : goal.returns
returns c =
    rw (
      c.sum_head.ensures,
      c.count_on.ensures,
      c.saturating_sub.ensures,
      c.size_now-size.ensures,
      c.blocks_now-blocks.ensures,
      c.kind_now-kind.ensures,
    )
