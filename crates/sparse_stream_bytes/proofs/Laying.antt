-- What the proofs of the state's bytes cite: parts put one after the other, and parts that are read.
-- Assumes nothing.
use mathlib.Core.Path.{◌≡◌, sym, ◌∙◌}
use mathlib.Core.List.{List, ◌++◌, append-nil}
use Prim.Native.Nat.{ℕ, ◌+◌, ◌≤◌}
use native.Mathlib.Omega.{arith}
use lib.ListN.{length, replicate, take, drop, length-append, length-take, length-drop, length-replicate}
use lib.Seq.{sets, sets-eq, drop-length}
use Rattle.fields_rules.specs.Number.{bytes, packed, placed}
use Rattle.fields_rules.proofs.Packed.{puts_packed}
use Rattle.fields_rules.proofs.Sets.{sets-append, sets_whole}
use Rattle.sparse_stream_rules.specs.declared.Kept.{Kept}
use Rattle.sparse_stream_rules.specs.declared.Pass.{Pass}
use Rattle.sparse_stream_bytes.specs.Layout.{start_numbers, walk_numbers, start_of, walk_by, pass_bytes, kept_of}

-- bytes in the place of as many
pub copied : (vs l : List ℕ) → length vs ≡ length l → sets l 0 vs ≡ vs
copied vs l h = sets_whole vs l (omega arith) ∙ rw (h, drop-length l, append-nil vs)

pub start_put : (len room number place came sum : ℕ) {a b c d e f : List ℕ}
    → a ≡ placed (replicate 112 0) 0 (bytes 8 len) → b ≡ placed a 8 (bytes 8 room) → c ≡ placed b 16 (bytes 4 number)
    → d ≡ placed c 20 (bytes 8 place) → e ≡ placed d 28 (bytes 8 came) → f ≡ placed e 36 (bytes 4 sum)
    → f ≡ sets (replicate 112 0) 0 (packed (start_numbers len room number place came sum))
unfolding packed
start_put len room number place came sum ea eb ec ed ee ef =
    rw (ef, ee, ed, ec, eb, ea) (puts_packed (replicate 112 0) 0 (start_numbers len room number place came sum) (omega arith))

pub walk_put : (l : List ℕ) (at first left written dont_care_of unknown : ℕ) {a b c d e f : List ℕ} → length l ≡ 112
    → a ≡ placed l 40 (bytes 8 at) → b ≡ placed a 48 (bytes 4 first) → c ≡ placed b 52 (bytes 4 left)
    → d ≡ placed c 56 (bytes 4 written) → e ≡ placed d 60 (bytes 4 dont_care_of) → f ≡ placed e 64 (bytes 4 unknown)
    → f ≡ sets l 40 (packed (walk_numbers at first left written dont_care_of unknown))
unfolding packed
walk_put l at first left written dont_care_of unknown h ea eb ec ed ee ef =
    rw (ef, ee, ed, ec, eb, ea) (puts_packed l 40 (walk_numbers at first left written dont_care_of unknown) (omega arith))

pub kept_put : (l file chunk word : List ℕ) {a b c : List ℕ} → length l ≡ 112 → length file ≡ 28 → length chunk ≡ 12 → length word ≡ 4
    → a ≡ sets l 68 file → b ≡ sets a 96 chunk → c ≡ sets b 108 word → c ≡ take 68 l ++ (file ++ (chunk ++ word))
kept_put l file chunk word hl hf hc hw ea eb ec =
    let kept = file ++ (chunk ++ word) in
    let long : length kept ≡ 44 = length-append file (chunk ++ word) ∙ rw (hf, length-append chunk word, hc, hw) in
    let all : sets l 68 kept ≡ sets (sets (sets l 68 file) 96 chunk) 108 word =
    sets-append file (chunk ++ word) l 68 ∙ rw hf (sets-append chunk word (sets l 68 file) 96 ∙ rw hc) in
    rw (ec, eb, ea)
    (sym all ∙ sets-eq kept l 68 (omega arith) ∙ rw (long, ← hl, drop-length l, append-nil (take 68 l ++ kept)))

pub pass_put : (x : Pass) {a b c : List ℕ}
    → a ≡ sets (replicate 112 0) 0 (packed (start_of x)) → b ≡ sets a 40 (packed (walk_by x))
    → c ≡ take 68 b ++ (x.kept.file ++ (x.kept.chunk ++ x.kept.word)) → c ≡ pass_bytes x
unfolding pass_bytes packed
pass_put x ea eb ec = rw (ec, eb, ea)

-- the parts that are kept, read from 112 bytes
pub kept_read : (s : List ℕ) {f c w : List ℕ} → length s ≡ 112
    → f ≡ sets (replicate 28 0) 0 (take 28 (drop 68 s)) → c ≡ sets (replicate 12 0) 0 (take 12 (drop 96 s)) → w ≡ sets (replicate 4 0) 0 (take 4 (drop 108 s))
    → ◌≡◌ {A = Kept} (record { file = f; chunk = c; word = w }) (kept_of s)
kept_read s h ef ec ew = rw (ef, ec, ew, fits 68 28 (omega arith), fits 96 12 (omega arith), fits 108 4 (omega arith))
  where
    fits : (at n : ℕ) → at + n ≤ length s → sets (replicate n 0) 0 (take n (drop at s)) ≡ take n (drop at s)
    fits at n l = copied (take n (drop at s)) (replicate n 0) (length-take n (drop at s) ∙ rw (length-drop at s, length-replicate {A = ℕ} n 0) (omega arith))
