-- The loop of `sparse_text::put_image`: the lines of the chunks that are left and the last line, put from here on, make the whole.
use Prim.Native.Nat.{◌-◌}
use Rattle.sparse_text.proofs.Chunks.{Going}
use Rattle.sparse_text.proofs.put_image.Given as goal

abbrev pub invariant-loop : goal.invariant-loop
invariant-loop l = Going l.input l.header l.counts l.initial.out l.out l.cursor (l.header.chunks - l.counter)
