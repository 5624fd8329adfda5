-- `sparse_stream_bytes::put_start` meets its contract: six fields, one after the other. Assumes nothing.
use Rattle.sparse_stream_bytes.proofs.Laying.{start_put}
use borrow.Author.Rules.{rules}
use Rattle.sparse_stream_bytes.proofs.put_start.Goals as goal

pub returns : goal.returns
returns c = (
  start_put c.args.told.length c.args.told.room c.args.refusal.number c.args.refusal.place c.args.come.bytes c.args.come.sum c.write64.ensures c.write64-2.ensures
      c.write32.ensures c.write64-3.ensures c.write64-4.ensures c.write32-2.ensures,
  search (rules, c.well_formed),
)
