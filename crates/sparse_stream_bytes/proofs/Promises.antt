-- The state as bytes: writing and reading are a round trip both ways.
-- Assumes nothing.
use mathlib.Core.Path.{◌≡◌, sym, ap, ◌∙◌}
use mathlib.Core.List.{List, [], ◌∷◌, ◌++◌}
use Prim.Native.Nat.{ℕ}
use native.Mathlib.Omega.{arith}
use lib.ListN.{length, take, drop, length-append, length-drop, take-append-drop}
use lib.Seq.{take_at, drop_at, take_all, drop-drop}
use Rattle.fields_rules.specs.Number.{number_at, packed, Bytes}
use Rattle.fields_rules.proofs.Laws.{number_bytes}
use Rattle.fields_rules.proofs.Packed.{fields_at, packed_again}
use Rattle.sparse_stream_rules.specs.declared.Kept.{Kept}
use Rattle.sparse_stream_rules.specs.declared.Pass.{Pass}
use Rattle.sparse_stream_bytes.specs.Layout.{kept_bytes, pass_bytes, kept_of, pass_of}
use Rattle.sparse_stream_bytes.specs.Promises.{Fits, Promises}

-- the parts of the bytes that are kept
kept_again : (k : Kept) → length k.file ≡ 28 → length k.chunk ≡ 12 → length k.word ≡ 4
    → ◌≡◌ {A = Kept} (record { file = take 28 (kept_bytes k); chunk = take 12 (drop 28 (kept_bytes k)); word = take 4 (drop 40 (kept_bytes k)) }) k
kept_again k hf hc hw =
    let one = drop_at k.file (k.chunk ++ k.word) 28 hf in
    let two : drop 40 (kept_bytes k) ≡ k.word = sym (drop-drop 12 28 (kept_bytes k)) ∙ rw one (drop_at k.chunk k.word 12 hc) in
    rw (take_at k.file (k.chunk ++ k.word) 28 hf, one, take_at k.chunk k.word 12 hc, two, take_all 4 k.word (omega arith))

again : (x : Pass) → Fits x → pass_of (pass_bytes x) ≡ x
unfolding pass_bytes pass_of packed number_at
again x h =
    let s = h.start in
    let w = h.walk in
    rw
    (number_bytes 8 x.told.length [] s.0, number_bytes 8 x.told.room [] s.1.0, number_bytes 4 x.refusal.number [] s.1.1.0, number_bytes 8 x.refusal.place [] s.1.1.1.0, number_bytes 8 x.come.bytes [] s.1.1.1.1.0, number_bytes 4 x.come.sum [] s.1.1.1.1.1.0, number_bytes 8 x.walk.next.at [] w.0, number_bytes 4 x.walk.next.first [] w.1.0, number_bytes 4 x.walk.left [] w.1.1.0, number_bytes 4 x.walk.counts.written [] w.1.1.1.0, number_bytes 4 x.walk.counts.dont_care [] w.1.1.1.1.0, number_bytes 4 x.walk.counts.unknown [] w.1.1.1.1.1.0, kept_again x.kept h.file h.chunk h.word)

long : (x : Pass) → Fits x → length (pass_bytes x) ≡ 112
unfolding pass_bytes packed
long x h =
    let kept : length (kept_bytes x.kept) ≡ 44 =
    length-append x.kept.file (x.kept.chunk ++ x.kept.word) ∙ rw (h.file, length-append x.kept.chunk x.kept.word, h.chunk, h.word) in
    rw kept

-- the parts that are kept are the last 44 bytes
kept_read : (s : List ℕ) → length s ≡ 112 → kept_bytes (kept_of s) ≡ drop 68 s
kept_read s l =
    let word : take 4 (drop 108 s) ≡ drop 108 s = take_all 4 (drop 108 s) (rw (length-drop 108 s) (omega arith)) in
    let chunk : take 12 (drop 96 s) ++ drop 108 s ≡ drop 96 s = rw (← drop-drop 12 96 s) (take-append-drop 12 (drop 96 s)) in
    let file : take 28 (drop 68 s) ++ drop 96 s ≡ drop 68 s = rw (← drop-drop 28 68 s) (take-append-drop 28 (drop 68 s)) in
    rw (word, chunk, file)

-- the numbers, then the bytes that are kept
read : (s : List ℕ) → length s ≡ 112 → Bytes s → pass_bytes (pass_of s) ≡ s
unfolding pass_bytes pass_of packed
read s l small =
    let widths : List ℕ = 8 ∷ 8 ∷ 4 ∷ 8 ∷ 8 ∷ 4 ∷ 8 ∷ 4 ∷ 4 ∷ 4 ∷ 4 ∷ 4 ∷ [] in
    ap (λ (r : List ℕ). packed (fields_at s 0 widths) ++ r) (kept_read s l) ∙ packed_again s small 0 widths (omega arith)

pub promises : Promises
promises = record { written = λ x h. record { long = long x h; again = again x h }; read = read }
