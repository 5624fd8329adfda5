-- The list of runs as it grows: what is put, what is not yet, and the blocks that are left come to the whole list.
-- Assumes nothing.
use mathlib.Core.Path.{◌≡◌, refl, sym, ap, ◌∙◌}
use mathlib.Core.List.{List, [], ◌∷◌, ◌++◌, append_assoc}
use Prim.Native.Nat.{ℕ, zero, suc, ◌+◌, ◌*◌, ◌≤◌, ◌<◌}
use native.Mathlib.Nat.{add-zero}
use native.Mathlib.Omega.{arith}
use lib.Dec.{eqb}
use lib.ListN.{length, replicate, length-append, replicate-append-replicate}
use Rattle.fields_rules.specs.Number.{placed}
use Rattle.sparse_rules.specs.Header.{total_blocks}
use Rattle.sparse_write_rules.specs.Runs.{Run, runs, closed}
use Rattle.sparse_write_rules.proofs.Runs.{tells_numbers, closed_last, closed_before, count_runs, counted}
use Rattle.sparse_blocks_rules.specs.declared.Reader.{Reader}
use Rattle.sparse_blocks_rules.specs.Reading.{passed_by, opened}
use Rattle.sparse_blocks_rules.specs.Beside.{remaining, Beside, InFront}
use Rattle.sparse_blocks_rules.specs.Pairs.{each, Matched}
use Rattle.sparse_blocks_rules.proofs.Passing.{opens}
use Rattle.sparse_blocks_rules.proofs.Giving.{gives}
use Rattle.sparse_blocks_rules.proofs.SideBySide.{takes, none_left, length_each, opens_beside, opens_all}
use Rattle.sparse_diff_rules.specs.declared.Change.{Change}
use Rattle.sparse_diff_rules.specs.declared.Change.TheVariants.{Neither, OnlyFirst, OnlySecond, Equal, Different}
use Rattle.sparse_diff_rules.specs.declared.Growing.{Growing}
use Rattle.sparse_diff_rules.specs.Diff.{change, kind_number, changes, diff, run_numbers}
use Rattle.sparse_diff_rules.specs.Laid.{laid, runs_with, space_with, count_with, Grown}

-- ---- a run is put

-- runs put after others
laid_append : (space : List ℕ) (n first : ℕ) (rs qs : List (Run ℕ))
    → laid space n first (rs ++ qs) ≡ laid (laid space n first rs) (n + length rs) (first + counted rs) qs
unfolding laid
laid_append space n first [] qs = rw (add-zero, add-zero)
laid_append space n first (r ∷ rs) qs =
    let p : suc n + length rs ≡ n + suc (length rs) = omega arith in
    let q : first + r.many + counted rs ≡ first + (r.many + counted rs) = omega arith in
    laid_append (placed space (3 * n) (run_numbers first r)) (suc n) (first + r.many) rs qs ∙ rw (p, q)

-- a run of no blocks is not put
pub put_none : (space : List ℕ) (n first kind blocks : ℕ) → blocks ≡ 0 → (space ≡ laid space n first (closed kind blocks)) × (n ≡ n + length (closed kind blocks))
unfolding laid
put_none space n first kind blocks e = rw e (refl, omega arith)

-- one of some blocks is
pub put_one : (space : List ℕ) (n first kind blocks : ℕ) → 0 < blocks
    → (placed space (3 * n) (first ∷ blocks ∷ kind ∷ []) ≡ laid space n first (closed kind blocks)) × (n + 1 ≡ n + length (closed kind blocks))
unfolding laid
put_one space n first kind zero h = absurd (omega arith)
put_one space n first kind (suc blocks) h = (refl, refl)

counted_closed : (kind blocks : ℕ) → counted (closed kind blocks) ≡ blocks
counted_closed kind zero = refl
counted_closed kind (suc blocks) = omega arith

-- ---- the list grows

-- the kind that a number names
abbrev named : ℕ → Change
named zero = Neither
named (suc zero) = OnlyFirst
named (suc (suc zero)) = OnlySecond
named (suc (suc (suc zero))) = Equal
named (suc (suc (suc (suc n)))) = Different

named_is : (k : Change) → named (kind_number k) ≡ k
named_is Neither = refl
named_is OnlyFirst = refl
named_is OnlySecond = refl
named_is Equal = refl
named_is Different = refl

-- kinds of one number are one kind
number_tells : (k l : Change) → kind_number k ≡ kind_number l → k ≡ l
number_tells k l e = sym (named_is k) ∙ ap named e ∙ named_is l

module _ (space : List ℕ) (g : Growing) where
  same_runs : (n : ℕ) (rest : List ℕ) → runs_with g (replicate n (kind_number g.kind) ++ rest) ≡ runs eqb (replicate (g.blocks + n) (kind_number g.kind) ++ rest)
  same_runs n rest =
      ap (runs eqb)
      (sym (append_assoc (replicate g.blocks (kind_number g.kind)) (replicate n (kind_number g.kind)) rest)
      ∙ ap (λ (r : List ℕ). r ++ rest) (replicate-append-replicate g.blocks n (kind_number g.kind)))

  -- of the same kind: the run grows
  pub grows_same : (kind : Change) (n : ℕ) → kind ≡ g.kind
      → Grown space g (kind_number kind) n space (record { runs = g.runs; first = g.first; blocks = g.blocks + n; kind = g.kind })
  grows_same kind n e =
      rw e
      record {
        puts = λ rest. ap (laid space g.runs g.first) (same_runs n rest);
        counts = λ rest. ap (λ (r : List (Run ℕ)). g.runs + length r) (same_runs n rest);
        blocks = omega arith;
      }

  -- of another: it is put, and they begin the next
  pub grows_other : (kind : Change) (n : ℕ) → 0 < n → (kind ≡ g.kind → ⊥) → {space' : List ℕ} {runs' : ℕ}
      → (space' ≡ laid space g.runs g.first (closed (kind_number g.kind) g.blocks)) → (runs' ≡ g.runs + length (closed (kind_number g.kind) g.blocks))
      → Grown space g (kind_number kind) n space' (record { runs = runs'; first = g.first + g.blocks; blocks = n; kind = kind })
  grows_other kind n h d e f =
      let apart : (rest : List ℕ) → runs_with g (replicate n (kind_number kind) ++ rest) ≡ closed (kind_number g.kind) g.blocks ++ runs eqb (replicate n (kind_number kind) ++ rest) =
      λ rest. closed_before eqb tells_numbers (kind_number g.kind) (kind_number kind) g.blocks n rest h (λ q. d (number_tells kind g.kind (sym q))) in
      record {
        puts = λ rest.
            let next : List (Run ℕ) = runs eqb (replicate n (kind_number kind) ++ rest) in
            ap (laid space g.runs g.first) (apart rest) ∙ laid_append space g.runs g.first (closed (kind_number g.kind) g.blocks) next
            ∙ rw (e, f, counted_closed (kind_number g.kind) g.blocks);
        counts = λ rest.
            let next : List (Run ℕ) = runs eqb (replicate n (kind_number kind) ++ rest) in
            ap (λ (r : List (Run ℕ)). g.runs + length r) (apart rest) ∙ omega (arith, length-append (closed (kind_number g.kind) g.blocks) next);
        blocks = refl;
      }

-- ---- over the blocks of two images

-- the kinds of the blocks that are left
abbrev pub left : List ℕ → List ℕ → Reader → Reader → List ℕ
left s t a b = each change (remaining s a) (remaining t b)

-- what was put into the space, what is not yet, and the blocks that are left
pub record Lists (s t space₀ space : List ℕ) (a b : Reader) (g : Growing) : Type 0 where
  pub beside : Beside s t a b
  pub sum : g.first + g.blocks + length (remaining s a) ≡ total_blocks s
  pub few : length (diff s t) ≤ total_blocks s
  pub puts : space_with space g (left s t a b) ≡ laid space₀ 0 0 (diff s t)
  pub counts : count_with g (left s t a b) ≡ length (diff s t)

-- nothing is listed
abbrev pub none_listed : Growing
none_listed = record { runs = 0; first = 0; blocks = 0; kind = Neither }

-- before the first block
pub lists_start : {s t : List ℕ} (space : List ℕ) → Matched s t → Lists s t space space (opened s) (opened t) none_listed
unfolding diff changes
lists_start {s} {t} space m =
    let w = opens_beside m in
    let all = opens_all m change in
    let long = ap length (opens m.first).1 ∙ (gives m.first).many in
    record {
      beside = w;
      sum = omega (arith, long);
      few = omega (arith, long, ap length all, count_runs eqb (left s t (opened s) (opened t)), length_each change (remaining s (opened s)) (remaining t (opened t)) w.long, ap (λ (r : List ℕ). length (runs eqb r)) all);
      puts = ap (λ (r : List ℕ). laid space 0 0 (runs eqb r)) all;
      counts = omega (arith, ap (λ (r : List ℕ). length (runs eqb r)) all);
    }

module _ {s t space₀ space : List ℕ} {a b : Reader} {g : Growing} (w : Lists s t space₀ space a b g) where
  -- no more runs than blocks
  pub lists_few : g.runs ≤ total_blocks s
  lists_few = omega (arith, w.counts, w.few)

  -- after the last block, once the run that grows is put
  pub lists_done : a.chunk.blocks ≡ 0 → {space' : List ℕ} {r : ℕ} → space' ≡ laid space g.runs g.first (closed (kind_number g.kind) g.blocks)
      → r ≡ g.runs + length (closed (kind_number g.kind) g.blocks) → (r ≡ length (diff s t)) × (space' ≡ laid space₀ 0 0 (diff s t))
  lists_done z e f =
      let last : runs_with g (left s t a b) ≡ closed (kind_number g.kind) g.blocks =
      ap (runs_with g) (none_left w.beside change z) ∙ closed_last eqb tells_numbers (kind_number g.kind) g.blocks in
      (f ∙ ap (λ (r : List (Run ℕ)). g.runs + length r) (sym last) ∙ w.counts, e ∙ ap (laid space g.runs g.first) (sym last) ∙ w.puts)

  module _ {kind n : ℕ} (p : InFront change s t a b kind n) where
    -- fewer blocks are left
    pub lists_less : length (remaining s (passed_by s a n)) < length (remaining s a)
    lists_less = omega (arith, (takes w.beside change kind n p).past.count, p.some)

    -- no sum passes the total
    pub lists_fits : g.first + g.blocks + n ≤ total_blocks s
    lists_fits = omega (arith, w.sum, (takes w.beside change kind n p).past.count)

    -- some blocks more
    pub lists_on : {space' : List ℕ} {g' : Growing} → Grown space g kind n space' g' → Lists s t space₀ space' (passed_by s a n) (passed_by t b n) g'
    lists_on v =
        let u = takes w.beside change kind n p in
        record {
          beside = u.past.after;
          sum = omega (arith, v.blocks, u.past.count, w.sum);
          few = w.few;
          puts = sym (v.puts (left s t (passed_by s a n) (passed_by t b n))) ∙ ap (space_with space g) (sym u.kinds) ∙ w.puts;
          counts = sym (v.counts (left s t (passed_by s a n) (passed_by t b n))) ∙ ap (count_with g) (sym u.kinds) ∙ w.counts;
        }
