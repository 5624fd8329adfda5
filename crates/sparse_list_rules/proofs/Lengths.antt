-- How long the lines can be.
-- Assumes nothing.
use Prim.Native.Nat.{ℕ, ◌≤◌}
use native.Mathlib.Omega.{arith}
use lib.ListN.{length, length-append}
use Rattle.text_rules.specs.Words.{ascii}
use Rattle.text_rules.proofs.Digits.{decimal_most, labelled_most}
use Rattle.sparse_rules.specs.declared.Header.{Header}
use Rattle.sparse_rules.specs.declared.Kind.{Kind}
use Rattle.sparse_rules.specs.declared.Kind.TheVariants.{Raw, Fill, DontCare, Unknown}
use Rattle.sparse_rules.specs.declared.Chunk.{Chunk}
use Rattle.sparse_rules.specs.declared.Counts.{Counts}
use Rattle.sparse_list_rules.specs.Lines.{kind_word, refused_line, header_line, chunk_line, last_line}

-- what a chunk is called
kind_most : (k : Kind) → length (kind_word k) ≤ 9
unfolding kind_word
kind_most Raw = omega arith
kind_most Fill = omega arith
kind_most DontCare = omega arith
kind_most Unknown = omega arith

-- the line of a refusal
pub refused_most : (n place : ℕ) → length (refused_line n place) ≤ 64
unfolding refused_line
refused_most n place = simp length-append (omega (arith, labelled_most (ascii "refused ") n, labelled_most (ascii " at ") place))

-- the first line of an accepted image
pub header_most : (h : Header) → length (header_line h) ≤ 96
unfolding header_line
header_most h = simp length-append (omega (arith, labelled_most (ascii "block ") h.block, labelled_most (ascii " total ") h.total, labelled_most (ascii " chunks ") h.chunks))

-- the line of a chunk
pub chunk_most : (first : ℕ) (k : Chunk) → length (chunk_line first k) ≤ 60
unfolding chunk_line
chunk_most first k =
    simp length-append (omega (arith, decimal_most first, labelled_most (kind_word k.kind) k.blocks, kind_most k.kind))

-- the last line of an accepted image
pub last_most : (c : Counts) → length (last_line c) ≤ 96
unfolding last_line
last_most c =
    simp length-append
    (omega (arith, labelled_most (ascii "ok written ") c.written, labelled_most (ascii " skipped ") c.dont_care, labelled_most (ascii " unknown ") c.unknown))
