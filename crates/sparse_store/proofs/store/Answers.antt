-- `sparse_store::store` meets its contract: a refusal stores nothing, and an accepted image is stored with all of its blocks.
-- Assumes nothing.
use mathlib.Core.Path.{◌∙◌}
use native.Mathlib.Omega.{arith}
use Rattle.std.proofs.lemmas.Result.{err_from_is_err_and}
use Rattle.sparse_store.proofs.Entries.{storable, stored_whole, refused_whole}
use Rattle.sparse_store.proofs.store.Goals as goal

pub returns-in_err-found : goal.returns-in_err-found
returns-in_err-found c =
    let p = err_from_is_err_and c.from_residual.result c.from_residual.ensures.1 in
    record {
      answer = rw (p.1, p.2) c.in_err-found.ensures;
      contents = refused_whole c.args.image.now c.args.partition.now _ _ c.in_err-found.ensures;
    }

pub store_blocks-requires : goal.store_blocks-requires
store_blocks-requires c =
    storable c.args.image.now c.args.partition.now c.in_ok-found.found c.in_ok-found.ensures c.in_ok-found.found.written (omega arith)

pub returns : goal.returns
returns c =
    let e = c.in_ok-found.ensures in
    record { answer = e; contents = c.store_blocks.ensures.contents ∙ stored_whole c.args.image.now c.args.partition.now c.in_ok-found.found e }
