-- The refusals of two images, one by one.
-- Assumes nothing.
use mathlib.Core.Path.{◌≡◌, refl, sym, subst}
use mathlib.Core.Bool.{Bool, true, false, not, ◌&&◌}
use mathlib.Core.List.{List, [], ◌∷◌}
use Prim.Native.Nat.{ℕ, ◌*◌, ◌≤◌}
use native.Mathlib.Omega.{arith}
use borrow.Author.Tests.{eqb-true, eq-eqb, le-ltb}
use lib.Dec.{eqb}
use lib.ListN.{length, drop}
use lib.Seq.{take-append_seam}
use Rattle.rules.specs.First.{first}
use Rattle.rules.specs.Answer.{Answer, accepted, refused, unless, onward}
use Rattle.rules.proofs.Answer.{unless_accepted, accepted_same}
use Rattle.rules.proofs.Tests.{both}
use Rattle.fields_rules.proofs.Sets.{past_front}
use Rattle.sparse_rules.specs.declared.Chunk.{Chunk}
use Rattle.sparse_rules.specs.declared.Counts.{Counts}
use Rattle.sparse_rules.specs.declared.Header.{Header}
use Rattle.sparse_rules.specs.Header.{header_of, block_size, total_blocks, header_tests}
use Rattle.sparse_rules.specs.Walk.{Finding}
use Rattle.sparse_rules.specs.Judge.{judged}
use Rattle.sparse_rules.specs.Answers as judge
use Rattle.sparse_rules.proofs.Image.{answer_accepted, answer_refused}
use Rattle.sparse_blocks_rules.specs.Blocks.{needed, found, blocks_found, blocks}
use Rattle.sparse_blocks_rules.specs.Pairs.{same_geometry, pair_answer, refused_image, Accepted, Matched}
use Rattle.sparse_blocks_rules.specs.Theorems.{Judged, Ordered, Leaves}
use Rattle.sparse_blocks_rules.proofs.Giving.{gives}
use Rattle.sparse_blocks_rules.proofs.Own.{Own, found_own}

-- ---- one image

module _ (s : List ℕ) where
  -- an image that is answered with a refusal is refused
  pub refuses : {n place : ℕ} → refused n place ≡ judge.answer s (length s) (needed s) → found s ≡ refused n place
  unfolding found
  refuses {n} {place} e = answer_refused s (length s) (needed s) n place e

  -- one that is answered with counts is accepted
  pub accepts : {c : Counts} → accepted c ≡ judge.answer s (length s) (needed s) → Accepted s
  unfolding found
  accepts {c} e = let a = answer_accepted s (length s) (needed s) c e in record { ks = a.ks; is = a.found }

  anywhere : (room : ℕ) → needed s ≤ room → judged s (length s) room ≡ found s
  unfolding found judged header_tests
  anywhere room h = rw (le-ltb room (needed s) h, le-ltb (needed s) (needed s) (omega arith))

none_refused : (s : List ℕ) (n place : ℕ) → found s ≡ refused n place → blocks s ≡ []
unfolding blocks blocks_found
none_refused s n place e = rw e

-- what is found of an image that is judged as if the partition had room
pub judged_so : Judged
judged_so = record { anywhere = anywhere; given = λ s a. gives a; none = none_refused; own = λ s n place e. subst Own e (found_own s) }

-- ---- two images

module _ (s t : List ℕ) where
  -- one geometry
  pub geometry_same : (block_size s ≡ block_size t) → (total_blocks s ≡ total_blocks t) → same_geometry s t ≡ true
  geometry_same p q = rw (eq-eqb (block_size s) (block_size t) p, eq-eqb (total_blocks s) (total_blocks t) q)

  geometry_is : same_geometry s t ≡ true → (block_size s ≡ block_size t) × (total_blocks s ≡ total_blocks t)
  geometry_is e =
      let g = both (eqb (block_size s) (block_size t)) (eqb (total_blocks s) (total_blocks t)) e in
      (eqb-true (block_size s) (block_size t) g.0, eqb-true (total_blocks s) (total_blocks t) g.1)

  geometry_differs : ((block_size s ≡ block_size t) × (total_blocks s ≡ total_blocks t) → ⊥) → same_geometry s t ≡ false
  geometry_differs d = go (same_geometry s t) refl
    where
      go : (x : Bool) → same_geometry s t ≡ x → x ≡ false
      go true e = absurd (d (geometry_is e))
      go false e = refl

  -- two images match
  pub matches : Accepted s → Accepted t → same_geometry s t ≡ true → Matched s t
  matches a b e = let g = geometry_is e in record { first = a; second = b; block = g.0; total = g.1 }

  module _ (tests : List (Bool × ℕ)) (m : ℕ) where
    -- the first image's own refusal comes first
    pub refuse_first : {n place : ℕ} → found s ≡ refused n place → (pair_answer s t tests m ≡ refused n place) × (refused_image s t ≡ 1)
    unfolding pair_answer refused_image
    refuse_first e = (rw e, rw e)

    -- then the second's own
    pub refuse_second : {n place : ℕ} → Accepted s → found t ≡ refused n place → (pair_answer s t tests m ≡ refused n place) × (refused_image s t ≡ 2)
    unfolding pair_answer refused_image
    refuse_second a e = (rw (a.is, e), rw (a.is, e))

    -- then 17
    pub refuse_17 : Accepted s → Accepted t → same_geometry s t ≡ false → (pair_answer s t tests m ≡ refused 17 0) × (refused_image s t ≡ 0)
    unfolding pair_answer refused_image
    refuse_17 a b e = (rw (a.is, b.is, e), rw (a.is, b.is))

    -- and then the other tests
    pub pair_passed : Matched s t → (pair_answer s t tests m ≡ unless (first tests) 0 (accepted m)) × (refused_image s t ≡ 0)
    unfolding pair_answer refused_image
    pair_passed w = (rw (w.first.is, w.second.is, geometry_same w.block w.total), rw (w.first.is, w.second.is))

-- what is found of two images, and whether they have one geometry, where an answer is accepted
by_findings : (f g : Finding) (x : Bool) (tests : List (Bool × ℕ)) (m n : ℕ)
    → onward f (λ ks. onward g (λ ls. unless (first ((not x, 17) ∷ tests)) 0 (accepted m))) ≡ accepted n
    → ((ks : List Chunk) × (f ≡ accepted ks)) × ((ls : List Chunk) × (g ≡ accepted ls)) × (x ≡ true) × (unless (first tests) 0 (accepted m) ≡ accepted n)
by_findings (refused k p) g x tests m n e = let z : ◌≡◌ {A = ℕ} 0 1 = cc in absurd (omega arith)
by_findings (accepted ks) (refused k p) x tests m n e = let z : ◌≡◌ {A = ℕ} 0 1 = cc in absurd (omega arith)
by_findings (accepted ks) (accepted ls) true tests m n e = ((ks, refl), (ls, refl), refl, e)
by_findings (accepted ks) (accepted ls) false tests m n e = let z : ◌≡◌ {A = ℕ} 0 1 = cc in absurd (omega arith)

refused-by : (f g : Finding) (x : Bool) (tests : List (Bool × ℕ)) (m n place : ℕ)
    → ◌≡◌ {A = Answer ℕ} (refused n place) (onward f (λ ks. onward g (λ ls. unless (first ((not x, 17) ∷ [])) 0 (accepted 0))))
    → refused n place ≡ onward f (λ ks. onward g (λ ls. unless (first ((not x, 17) ∷ tests)) 0 (accepted m)))
refused-by (refused k p) g x tests m n place e = e
refused-by (accepted ks) (refused k p) x tests m n place e = e
refused-by (accepted ks) (accepted ls) false tests m n place e = e
refused-by (accepted ks) (accepted ls) true tests m n place e = let z : ◌≡◌ {A = ℕ} 0 1 = cc in absurd (omega arith)

module _ (s t : List ℕ) (tests : List (Bool × ℕ)) (m : ℕ) where
  -- a refusal of the two images is the answer, whatever else is tested
  pub pair_refused : (n place : ℕ) → refused n place ≡ pair_answer s t [] 0 → refused n place ≡ pair_answer s t tests m
  unfolding pair_answer
  pair_refused n place e = refused-by (found s) (found t) (same_geometry s t) tests m n place e

  -- what is accepted is the number asked for, of two images that match
  pub pair_accepted : (n : ℕ) → pair_answer s t tests m ≡ accepted n → Matched s t × (n ≡ m)
  unfolding pair_answer
  pair_accepted n e =
      let r = by_findings (found s) (found t) (same_geometry s t) tests m n e in
      let u = unless_accepted (first tests) 0 (accepted m) n r.3 in
      (matches s t (record { ks = r.0.0; is = r.0.1 }) (record { ks = r.1.0; is = r.1.1 }) r.2, accepted_same (sym u.1))

-- images that are answered with a number match
pub found_matched : (s t : List ℕ) {n : ℕ} → accepted n ≡ pair_answer s t [] 0 → Matched s t
found_matched s t {n} e = (pair_accepted s t [] 0 n (sym e)).0

-- which refusal of two images comes
pub ordered : Ordered
ordered =
    record {
      one = λ s t tests m n place e. refuse_first s t tests m e;
      other = λ s t tests m n place a e. refuse_second s t tests m a e;
      differs = λ s t tests m a b d. refuse_17 s t tests m a b (geometry_differs s t d);
      same = λ s t tests m w. pair_passed s t tests m w;
      only = λ s t tests m n e. pair_accepted s t tests m n e;
    }

-- ---- what the code reads of the headers

-- the geometry
pub geometry_of : (s t : List ℕ) {g h : Header} → g ≡ header_of s → h ≡ header_of t
    → (eqb g.block h.block && eqb g.total h.total) ≡ same_geometry s t
geometry_of s t e f = rw (e, f)

-- the room that is needed
pub needed_is : (s : List ℕ) {h : Header} → h ≡ header_of s → h.total * h.block ≡ needed s
needed_is s e = rw e

-- ---- the space

-- what an answer leaves in lent space
pub leaves : Leaves
leaves =
    record {
      start = λ n put space. take-append_seam put (drop (length put) space);
      past = λ n put space i h. past_front put space i h;
      refusal = λ n place put space. refl;
    }
