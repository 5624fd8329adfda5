-- The checksum's state as the second walk carries it: zero bytes of skipped blocks wait, so that those of neighbouring
-- chunks are summed as one run. Assumes nothing.
use Rattle.std.specs.Prelude.{ℕ, replicate}
use Rattle.crc32_rules.specs.Crc.{crc_from}
use Rattle.sparse_judge.specs.declared.sum.Sum.{Sum}

-- the state once the zero bytes that wait are summed
abbrev pub state_of : Sum → ℕ
state_of x = crc_from x.state (replicate x.zeros 0)
