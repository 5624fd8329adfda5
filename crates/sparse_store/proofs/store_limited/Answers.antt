-- `sparse_store::store_limited` meets its contract: a refusal stores nothing, and of an accepted image the lesser of the
-- limit and its blocks is stored and answered. Assumes nothing.
use mathlib.Core.Path.{ap, ◌∙◌}
use Prim.Native.Nat.{ℕ}
use native.Mathlib.Omega.{arith}
use Rattle.rules.specs.Answer.{accepted}
use Rattle.std.proofs.lemmas.Result.{err_from_is_err_and}
use Rattle.sparse_store_rules.specs.Store.{store_up_to}
use Rattle.sparse_store_rules.specs.Answers.{cut_answer_of}
use Rattle.sparse_store.proofs.Entries.{storable, stored_least, answered_least, refused_limited, answered_refused}
use Rattle.sparse_store.proofs.store_limited.Goals as goal

pub store_blocks-requires : goal.store_blocks-requires
store_blocks-requires c =
    storable c.args.image.now c.args.partition.now c.in_ok-counts.counts c.in_ok-counts.ensures c.min-count.result
    (omega (arith, c.min-count.ensures))

pub returns : goal.returns
returns c =
    let e = c.in_ok-counts.ensures in record {
      answer = ap cut_answer_of c.store_blocks.ensures.answer ∙ ap accepted c.min-count.ensures ∙ answered_least c.args.image.now c.args.partition.now c.in_ok-counts.counts e c.args.limit;
      contents = c.store_blocks.ensures.contents ∙ ap (λ (n : ℕ). store_up_to n c.args.image.now c.args.partition.now) c.min-count.ensures
          ∙ stored_least c.args.image.now c.args.partition.now c.in_ok-counts.counts e c.args.limit;
    }

pub returns-in_err-counts : goal.returns-in_err-counts
returns-in_err-counts c =
    let p = err_from_is_err_and c.from_residual.result c.from_residual.ensures.1 in
    record {
      answer = rw (p.1, p.2) (answered_refused c.args.image.now c.args.partition.now _ _ c.in_err-counts.ensures c.args.limit);
      contents = refused_limited c.args.image.now c.args.partition.now _ _ c.in_err-counts.ensures c.args.limit;
    }
