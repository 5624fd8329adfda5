-- `sparse_join::growing::settled` meets its contract, kind by kind.
-- Assumes nothing.
use mathlib.Core.Path.{refl, ap, ◌∙◌}
use mathlib.Core.List.{List}
use Prim.Native.Nat.{ℕ, ◌/◌}
use native.Mathlib.Omega.{arith}
use Rattle.std.specs.Prelude.{Some}
use Rattle.fields_rules.proofs.Laws.{bytes_low}
use Rattle.crc32_rules.specs.Crc.{crc_from}
use Rattle.crc32_rules.specs.Power.{repeated}
use Rattle.sparse_write_rules.specs.declared.Stored.{Stored}
use Rattle.sparse_join_rules.proofs.Waiting.{settle_kept, settle_raw, settle_fill}
use Rattle.sparse_join.proofs.growing.settled.Goals as goal

pub returns-in-None : goal.returns-in-None
returns-in-None c =
    settle_kept c.args.block c.args.g c.args.state c.bytes_of-len.ensures c.in-None.is c.update_zeros.ensures

pub returns-in-Some-Raw : goal.returns-in-Some-Raw
returns-in-Some-Raw c =
    settle_raw c.args.block c.args.g c.args.state (c.in-Some-Raw.is ∙ ap (λ (x : Stored). Some x) (rw c.in-Some-Raw.is at c.in-Some-Raw.field-0-is))

pub returns-in-Some-Fill : goal.returns-in-Some-Fill
returns-in-Some-Fill c =
    settle_fill c.args.block c.args.g c.args.state c.bytes_of-len.ensures
    (c.in-Some-Fill.is ∙ ap (λ (x : Stored). Some x) (rw c.in-Some-Fill.is at c.in-Some-Fill.field-0-is))
    (c.update_word.ensures
    ∙ ap (λ (word : List ℕ). crc_from c.args.state (repeated (c.bytes_of-len.result / 4) word)) (bytes_low 4 c.in-Some-Fill.word 4294967296 refl (omega arith)))
