-- Pages of a boot image.
-- Assumes nothing.
use Rattle.std.specs.Prelude.{Bool, ◌&&◌, ℕ, ◌+◌, ◌-◌, ◌*◌, ◌/◌, leb, eqb}
use Rattle.std.specs.Int.Count.{ones}

-- "a number with a single one bit, from 2,048 to 16,384"
abbrev pub is_page : ℕ → Bool
is_page x = leb 2048 x && leb x 16384 && eqb (ones x) 1

-- "rounded up to a page": the first multiple of the page that is not below a position
abbrev pub round_up : ℕ → ℕ → ℕ
round_up position page = (position + (page - 1)) / page * page
