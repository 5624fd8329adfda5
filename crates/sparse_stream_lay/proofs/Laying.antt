-- What a stretch of bytes stores, by what the code has found of the state.
-- Assumes nothing.
use mathlib.Core.Path.{◌≡◌, refl, sym, ap, ◌∙◌}
use mathlib.Core.Logic.{◌⊎◌, inl, inr}
use mathlib.Core.Bool.{Bool, true, false, ◌&&◌}
use mathlib.Core.Option.{some}
use mathlib.Core.List.{List, [], ◌∷◌, map, append-nil}
use Prim.Native.Nat.{ℕ, ◌+◌, ◌-◌, ◌≤◌}
use native.Mathlib.Omega.{arith}
use lib.Dec.{eqb}
use mir.Val.{Val}
use denote.Laws.{Is}
use denote.Struct.Laws as LL
use Rattle.sparse_stream_rules.specs.contracts.Pass as P
use Rattle.sparse_stream_rules.proofs.Pass.TheLaws as P'
use Rattle.sparse_stream_rules.specs.contracts.Kept as K
use Rattle.sparse_stream_rules.proofs.Kept.TheLaws as K'
use lib.ListN.{length, get_or, set, drop_of_length-le}
use lib.Seq.{take-length, sets, sets-eq}
use borrow.Author.Tests.{eqb-true, eq-eqb, ne_eqb}
use Rattle.rules.proofs.Tests.{both}
use Rattle.sparse_rules.specs.declared.Kind.{Kind}
use Rattle.sparse_rules.specs.declared.Kind.TheVariants.{Raw, Fill, DontCare, Unknown}
use Rattle.sparse_rules.specs.Cells.{cells_by}
use Rattle.sparse_rules.proofs.Cells.{cells_raw}
use Rattle.sparse_store_rules.specs.Store.{laid}
use Rattle.sparse_stream_rules.specs.declared.Pass.{Pass}
use Rattle.sparse_stream_rules.specs.State.{kind_now, span_now, end_now, gap, in_data}
use Rattle.sparse_stream_rules.specs.Steps.{word_kept}
use Rattle.sparse_stream_rules.specs.Laid.{fill_laid}
use Rattle.sparse_stream_lay.specs.Laid.{fill_by, stretch_by, stretch_laid}

-- a fill chunk by its word
pub fill-laid : (x : Pass) (word p : List ℕ) (span end from : ℕ) → span ≡ span_now x → end ≡ end_now x → from ≡ end - span
    → laid from (cells_by word Fill 0 span) p ≡ fill_by x word p
fill-laid x word p span end from es ee ef = rw (ef, ee, es)

-- the word of a fill chunk whose last byte comes
pub last_laid : (x : Pass) (b : ℕ) (p : List ℕ) → gap x ≡ 1 → fill_by x (set x.kept.word 3 b) p ≡ fill_laid (word_kept x b) p
unfolding fill_laid
last_laid x b p g = let e : 4 - gap x ≡ 3 = omega arith in rw e

-- the fill word of a state that a function is passed has four bytes
pub word_four : (x : Pass) (vs : List Val) → Is P.the_row x vs → length x.kept.word ≡ 4
word_four x vs is =
    (LL.owed K.the_type K'.the_laws x.kept _ (LL.owed P.the_type P'.the_laws x vs is).1.1.1.1.0).1.1.0.1.0.1

-- four bytes stored on a word of four are the word
whole_word : (word bs : List ℕ) → length word ≡ 4 → length bs ≡ 4 → sets word 0 bs ≡ bs
whole_word word bs w l =
    let d : length word ≤ 0 + length bs = omega arith in
    sets-eq bs word 0 (omega arith) ∙ rw (drop_of_length-le word d) (append-nil bs)

-- the cells of raw data that are all of a list
raw_all : (bs : List ℕ) → cells_by bs Raw 0 (length bs) ≡ map some bs
raw_all bs = cells_raw bs 0 (length bs) (omega arith) ∙ ap (map some) (take-length bs)

-- no bytes store nothing
pub lay_empty : (x : Pass) (bs p : List ℕ) → length bs ≡ 0 → p ≡ stretch_laid x bs p
unfolding stretch_laid
lay_empty x [] p e = refl
lay_empty x (b ∷ bs) p e = absurd (omega arith)

-- nor do bytes that are none of data
pub lay_outside : (x : Pass) (bs p : List ℕ) {r : Bool} → r ≡ in_data x → r ≡ false → p ≡ stretch_laid x bs p
unfolding stretch_laid
lay_outside x [] p e f = refl
lay_outside x (b ∷ bs) p e f = let g : in_data x ≡ false = sym e ∙ f in rw g

-- bytes of data, by their kind
inside : (x : Pass) (bs p q : List ℕ) → (length bs ≡ 0 → ⊥) → in_data x ≡ true
    → ((c : ℕ) (cs : List ℕ) → bs ≡ c ∷ cs → q ≡ stretch_by (kind_now x) x c cs p) → q ≡ stretch_laid x bs p
unfolding stretch_laid
inside x [] p q n w f = absurd (n refl)
inside x (b ∷ bs) p q n w f = f b bs refl ∙ rw w

module _ (x : Pass) (bs p : List ℕ) (n : length bs ≡ 0 → ⊥) {r : Bool} (er : r ≡ in_data x) (f : r ≡ true) {kind : Kind} (ek : kind ≡ kind_now x) {room : ℕ} (eg : room ≡ gap x) where
  w : in_data x ≡ true
  w = sym er ∙ f

  -- raw data
  pub lay_raw : (end from : ℕ) → kind ≡ Raw → end ≡ end_now x → from ≡ end - room → laid from (cells_by bs Raw 0 (length bs)) p ≡ stretch_laid x bs p
  lay_raw end from k ee ef =
      rw (raw_all bs) (inside x bs p (laid from (map some bs) p) n w (λ c cs e. rw (ef, ee, eg, ← ek, k, e)))

  module _ (k : kind ≡ Fill) where
    -- a fill word whole
    pub lay_whole : (q : List ℕ) → length x.kept.word ≡ 4 → (eqb (length bs) 4 && eqb room 4) ≡ true → q ≡ fill_by x bs p
        → q ≡ stretch_laid x bs p
    lay_whole q four f e =
        inside x bs p q n w
        (λ c cs h.
        let g : (eqb (length (c ∷ cs)) 4 && eqb (gap x) 4) ≡ true = rw (h, eg) at f in
        let l : length (c ∷ cs) ≡ 4 = eqb-true (length (c ∷ cs)) 4 (both (eqb (length (c ∷ cs)) 4) (eqb (gap x) 4) g).0 in
        e ∙ rw (← ek, k, g, whole_word x.kept.word (c ∷ cs) four l, h))

    module _ (few : (eqb (length bs) 4 && eqb room 4) ≡ false) where
      -- the last byte of one
      pub lay_word : (q : List ℕ) → room ≡ 1 → q ≡ fill_laid (word_kept x (get_or bs 0 0)) p → q ≡ stretch_laid x bs p
      lay_word q g e =
          inside x bs p q n w
          (λ c cs h.
          let o : (eqb (length (c ∷ cs)) 4 && eqb (gap x) 4) ≡ false = rw (h, eg) at few in
          e ∙ rw (← ek, k, o, eq-eqb (gap x) 1 (sym eg ∙ g), h))

      -- an earlier one
      pub lay_early : (room ≡ 1 → ⊥) → p ≡ stretch_laid x bs p
      lay_early g =
          inside x bs p p n w
          (λ c cs h.
          let o : (eqb (length (c ∷ cs)) 4 && eqb (gap x) 4) ≡ false = rw (h, eg) at few in
          rw (← ek, k, o, ne_eqb (gap x) 1 (λ z. g (eg ∙ z))))

  -- bytes of a chunk that is skipped
  pub lay_kept : (kind ≡ DontCare) ⊎ (kind ≡ Unknown) → p ≡ stretch_laid x bs p
  lay_kept (inl k) = inside x bs p p n w (λ c cs h. rw (← ek, k))
  lay_kept (inr k) = inside x bs p p n w (λ c cs h. rw (← ek, k))
