-- What the programs that read images take, what they judge for, and what is printed of longer input.
-- Assumes nothing.
use Rattle.std.specs.Prelude.{List, ℕ}
use Rattle.text_rules.specs.Words.{ascii}

-- "an image of at most 65,536 bytes"
abbrev pub longest : ℕ
longest = 65536

-- "a partition of 1,048,576 bytes": what the programs judge sparse images for
abbrev pub partition : ℕ
partition = 1048576

-- "Longer input prints `too long` alone"
unfoldable pub too_long : List ℕ
too_long = ascii "too long\n"
