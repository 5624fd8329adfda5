-- What a scan of blocks finds, where f gives a block's kind by its place.
-- Assumes nothing.
use Rattle.std.specs.Prelude.{cond, List, [], ◌∷◌, ℕ, zero, suc, ◌+◌, ◌-◌, ◌/◌}
use Rattle.sparse_rules.specs.Header.{block_size_right}
use Rattle.sparse_write_rules.specs.Kinds.{BlockKind, kept, same_kind}
use Rattle.sparse_write_rules.specs.Runs.{Run, runs}

-- how many whole blocks of b bytes stand from a place on in so many bytes: none past their end, and none of a size that no block has
abbrev pub whole_blocks : ℕ → ℕ → ℕ → ℕ
whole_blocks len b at = cond (block_size_right b) ((len - at) / b) 0

-- the kinds of n blocks of b bytes from a place on
unfoldable pub kinds_at : (ℕ → BlockKind) → ℕ → ℕ → ℕ → List BlockKind
kinds_at f b zero at = []
kinds_at f b (suc n) at = f at ∷ kinds_at f b n (at + b)

-- the longest runs of these blocks
abbrev pub runs_at : (ℕ → BlockKind) → ℕ → ℕ → ℕ → List (Run BlockKind)
runs_at f b n at = runs same_kind (kinds_at f b n at)

-- the kind of the first of these blocks; kept, as no flat block is, where there is none
abbrev pub first_kind : (ℕ → BlockKind) → ℕ → ℕ → BlockKind
first_kind f zero at = kept
first_kind f (suc n) at = f at

-- how many of these blocks are of a kind, up to the first that is not
unfoldable pub leading : (ℕ → BlockKind) → ℕ → BlockKind → ℕ → ℕ → ℕ
leading f b kind zero at = 0
leading f b kind (suc n) at = let rest : ℕ = suc (leading f b kind n (at + b)) in cond (same_kind (f at) kind) rest 0

-- the kind of that first one; kept where there is none
unfoldable pub following : (ℕ → BlockKind) → ℕ → BlockKind → ℕ → ℕ → BlockKind
following f b kind zero at = kept
following f b kind (suc n) at = let rest : BlockKind = following f b kind n (at + b) in cond (same_kind (f at) kind) rest (f at)

-- how many of these blocks the first run has, where the first of them counts as of this kind
abbrev pub run_blocks : (ℕ → BlockKind) → ℕ → BlockKind → ℕ → ℕ → ℕ
run_blocks f b kind zero at = 0
run_blocks f b kind (suc n) at = suc (leading f b kind n (at + b))

-- the kind of the block after that run; kept where there is none
abbrev pub after_run : (ℕ → BlockKind) → ℕ → BlockKind → ℕ → ℕ → BlockKind
after_run f b kind zero at = kept
after_run f b kind (suc n) at = following f b kind n (at + b)
