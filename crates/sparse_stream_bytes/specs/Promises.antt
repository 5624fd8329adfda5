-- What holds of the state as bytes: it is the state, and any 112 bytes at all are one.
-- Assumes nothing.
use Rattle.std.specs.Prelude.{◌≡◌, List, [], ◌∷◌, ℕ, ◌^◌, ◌<◌, length}
use Rattle.fields_rules.specs.Number.{Bytes}
use Rattle.sparse_stream_rules.specs.declared.Pass.{Pass}
use Rattle.sparse_stream_bytes.specs.Layout.{start_of, walk_by, pass_bytes, pass_of}

-- each number has room in its width
abbrev pub AllFit : List (ℕ × ℕ) → Type 0
AllFit [] = Unit {0}
AllFit (f ∷ fs) = (f.1 < 256 ^ f.0) × AllFit fs

-- a state of the code: its numbers have room, and so many bytes are kept
pub record Fits (x : Pass) : Type 0 where
  pub start : AllFit (start_of x)
  pub walk : AllFit (walk_by x)
  pub file : length x.kept.file ≡ 28
  pub chunk : length x.kept.chunk ≡ 12
  pub word : length x.kept.word ≡ 4

-- what is written of a state: 112 bytes that are read as the state again
pub record Written (x : Pass) : Type 0 where
  pub long : length (pass_bytes x) ≡ 112
  pub again : pass_of (pass_bytes x) ≡ x

-- writing and reading are a round trip both ways
pub record Promises : Type 0 where
  pub written : (x : Pass) → Fits x → Written x
  pub read : (s : List ℕ) → length s ≡ 112 → Bytes s → pass_bytes (pass_of s) ≡ s
