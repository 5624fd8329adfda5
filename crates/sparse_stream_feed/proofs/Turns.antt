-- One turn over a piece: the stretch that it takes, what it makes of the state, and what it stores.
-- Assumes nothing.
use mathlib.Core.Path.{◌≡◌, refl, sym, ap, ap₂, ◌∙◌}
use mathlib.Core.Logic.{◌⊎◌, inl, inr}
use mathlib.Core.Bool.{Bool, true, false, cond, ◌&&◌}
use mathlib.Core.List.{List, [], ◌∷◌}
use Prim.Native.Nat.{ℕ, suc, ◌-◌, min, ◌≤◌, ◌<◌}
use native.Mathlib.Omega.{arith}
use lib.Dec.{leb, ltb, eqb}
use lib.ListN.{length, get_or}
use lib.Seq.{sets}
use borrow.Author.Tests.{ltb-true, ltb-false, lt-ltb, le-ltb, le-leb, leb-true, eqb-true, eqb-false, eq-eqb}
use Rattle.sparse_rules.specs.declared.Kind.{Kind}
use Rattle.sparse_rules.specs.declared.Kind.TheVariants.{Raw, Fill, DontCare, Unknown}
use Rattle.sparse_stream_rules.specs.declared.Pass.{Pass}
use Rattle.sparse_stream_rules.specs.State.{head_of, kind_now, data_by, gap, in_data, moved, keeping}
use Rattle.sparse_stream_rules.specs.Steps.{sum_on, settled, headed, gathered, chunk_taken, worded, fed}
use Rattle.sparse_stream_rules.specs.Laid.{fill_laid, data_laid, laid_by, stores}
use Rattle.sparse_stream_lay.specs.Laid.{stretch_laid}
use Rattle.sparse_stream_lay.specs.Laid as laid
use Rattle.sparse_stream_feed.specs.Stretch.{at_once, stretch_by, head_stretch, stretch, word_taken, Turn}
use Rattle.sparse_stream_rules.proofs.Stretches.{free_number, step_head, step_data, step_chunk, carried_data, fed_one, fed_pass, fed_raw, fed_header, fed_word, data_after, data_before, data_there, stores_one, stores_pass, stores_raw, stores_word, stores_header}

-- ---- how many bytes a stretch takes

module _ (here : Bool) (n rest : ℕ) (several : 1 < n) where
  -- they are some, and no more than there are
  once_size : 0 < rest → (0 < at_once here n rest) × (at_once here n rest ≤ rest)
  once_size p = go here (leb n rest) refl
    where
      go : (y z : Bool) → leb n rest ≡ z → (0 < cond (y && z) n 1) × (cond (y && z) n 1 ≤ rest)
      go true true e = (omega arith, leb-true n rest e)
      go true false e = (omega arith, p)
      go false z e = (omega arith, p)

  -- those that are taken at once begin here
  once_here : (m : ℕ) → m ≡ at_once here n rest → m ≡ n → here ≡ true
  once_here m e f = go here refl
    where
      go : (y : Bool) → here ≡ y → here ≡ true
      go true h = h
      go false h = let o : m ≡ 1 = e ∙ rw h in absurd (omega arith)

  -- and any other is one
  once_one : (m : ℕ) → m ≡ at_once here n rest → (m ≡ n → ⊥) → m ≡ 1
  once_one m e f = go (here && leb n rest) refl
    where
      go : (y : Bool) → (here && leb n rest) ≡ y → m ≡ 1
      go true h = absurd (f (e ∙ rw h))
      go false h = e ∙ rw h

module _ (x : Pass) (rest : ℕ) where
  stretch_head : x.come.bytes < 28 → stretch x rest ≡ 1
  unfolding stretch
  stretch_head h = rw (lt-ltb _ _ h)

  module _ (known : 28 ≤ x.come.bytes) where
    stretch_chunk : x.walk.next.at ≤ x.come.bytes → stretch x rest ≡ head_stretch x rest
    unfolding stretch
    stretch_chunk h = rw (le-ltb _ _ known, le-ltb _ _ h)

    module _ (h : x.come.bytes < x.walk.next.at) where
      stretch_pass : data_by (kind_now x) x < gap x → stretch x rest ≡ min (gap x - data_by (kind_now x) x) rest
      unfolding stretch
      stretch_pass d = rw (le-ltb _ _ known, lt-ltb _ _ h, lt-ltb _ _ d)

      stretch_data : gap x ≤ data_by (kind_now x) x → stretch x rest ≡ stretch_by (kind_now x) x rest
      unfolding stretch
      stretch_data d = rw (le-ltb _ _ known, lt-ltb _ _ h, le-ltb _ _ d)

-- the same by what the code has
pub stretch_is_head : (x : Pass) (rest : ℕ) → x.come.bytes < 28 → 1 ≡ stretch x rest
stretch_is_head x rest h = sym (stretch_head x rest h)

-- a chunk header
pub stretch_is_chunk : (x : Pass) (rest r : ℕ) → 28 ≤ x.come.bytes → x.walk.next.at ≤ x.come.bytes → r ≡ head_stretch x rest
    → r ≡ stretch x rest
stretch_is_chunk x rest r k h e = e ∙ sym (stretch_chunk x rest k h)

module _ (x : Pass) (rest : ℕ) (kind : Kind) (dat : ℕ) (ek : kind ≡ kind_now x) (ed : dat ≡ data_by kind x) (known : 28 ≤ x.come.bytes) (h : x.come.bytes < x.walk.next.at) where
  data_now : dat ≡ data_by (kind_now x) x
  data_now = ed ∙ ap (λ (k : Kind). data_by k x) ek

  -- bytes that are passed over
  pub stretch_is_pass : (r : ℕ) → dat < gap x → r ≡ min (gap x - dat) rest → r ≡ stretch x rest
  stretch_is_pass r d e =
      let q : data_by (kind_now x) x < gap x = rw data_now at d in
      e ∙ rw data_now (sym (stretch_pass x rest known h q))

  -- data, by their kind
  pub stretch_is_data : (r : ℕ) (k : Kind) → gap x ≤ dat → kind ≡ k → r ≡ stretch_by k x rest → r ≡ stretch x rest
  stretch_is_data r k d o e =
      let q : gap x ≤ data_by (kind_now x) x = rw data_now at d in
      e ∙ ap (λ (j : Kind). stretch_by j x rest) (sym o ∙ ek) ∙ sym (stretch_data x rest known h q)

  -- and those of the other kinds one by one
  pub stretch_is_kept : gap x ≤ dat → (kind ≡ DontCare) ⊎ (kind ≡ Unknown) → 1 ≡ stretch x rest
  stretch_is_kept d (inl k) = stretch_is_data 1 DontCare d k refl
  stretch_is_kept d (inr k) = stretch_is_data 1 Unknown d k refl

-- a stretch is not empty, and no longer than what there is
pub sized : (x : Pass) (rest : ℕ) → 0 < rest → (0 < stretch x rest) × (stretch x rest ≤ rest)
sized x rest p = go (ltb x.come.bytes 28) refl
  where
    least_one : (a b : ℕ) → 0 < a → 0 < b → (0 < min a b) × (min a b ≤ b)
    least_one a b f g = (omega arith, omega arith)

    by : (k : Kind) → 0 < gap x → (0 < stretch_by k x rest) × (stretch_by k x rest ≤ rest)
    by Raw g = least_one (gap x) rest g p
    by Fill g = once_size (eqb (gap x) 4) 4 rest (omega arith) p
    by DontCare g = (omega arith, p)
    by Unknown g = (omega arith, p)

    dat : 28 ≤ x.come.bytes → x.come.bytes < x.walk.next.at → (y : Bool) → ltb (data_by (kind_now x) x) (gap x) ≡ y → (0 < stretch x rest) × (stretch x rest ≤ rest)
    dat k h true e = let d = ltb-true _ _ e in rw (stretch_pass x rest k h d) (least_one (gap x - data_by (kind_now x) x) rest (omega arith) p)
    dat k h false e = let d = ltb-false _ _ e in rw (stretch_data x rest k h d) (by (kind_now x) (omega arith))

    chunk : 28 ≤ x.come.bytes → (y : Bool) → ltb x.come.bytes x.walk.next.at ≡ y → (0 < stretch x rest) × (stretch x rest ≤ rest)
    chunk k true e = dat k (ltb-true _ _ e) (ltb (data_by (kind_now x) x) (gap x)) refl
    chunk k false e =
        rw (stretch_chunk x rest k (ltb-false _ _ e)) (once_size (eqb x.come.bytes x.walk.next.at) 12 rest (omega arith) p)

    go : (y : Bool) → ltb x.come.bytes 28 ≡ y → (0 < stretch x rest) × (stretch x rest ≤ rest)
    go true e = rw (stretch_head x rest (ltb-true _ _ e)) (omega arith, p)
    go false e = chunk (ltb-false _ _ e) (ltb x.come.bytes x.walk.next.at) refl

-- ---- a stretch alone

module _ (here : Bool) (n rest : ℕ) (several : 1 < n) where
  -- a single byte goes alone
  alone : (y w : Bool) → leb n 1 ≡ w → cond (y && w) n 1 ≡ 1
  alone true true e = let h = leb-true n 1 e in absurd (omega (arith, several))
  alone true false e = refl
  alone false w e = refl

  -- of the bytes that go together, all go together
  once_again : at_once here n (at_once here n rest) ≡ at_once here n rest
  once_again = go here (leb n rest) refl
    where
      go : (y z : Bool) → leb n rest ≡ z → at_once y n (cond (y && z) n 1) ≡ cond (y && z) n 1
      go true true e = rw (le-leb n n (omega arith))
      go true false e = alone true (leb n 1) refl
      go false z e = refl

-- so a stretch's own is the stretch itself
pub again : (x : Pass) (rest : ℕ) → 0 < rest → stretch x (stretch x rest) ≡ stretch x rest
again x rest p = go (ltb x.come.bytes 28) refl
  where
    by : (k : Kind) → stretch_by k x (stretch_by k x rest) ≡ stretch_by k x rest
    by Raw = omega arith
    by Fill = once_again (eqb (gap x) 4) 4 rest (omega arith)
    by DontCare = refl
    by Unknown = refl

    dat : 28 ≤ x.come.bytes → x.come.bytes < x.walk.next.at → (y : Bool) → ltb (data_by (kind_now x) x) (gap x) ≡ y
        → stretch x (stretch x rest) ≡ stretch x rest
    dat k h true e =
        let d = ltb-true _ _ e in
        rw (stretch_pass x rest k h d, stretch_pass x (min (gap x - data_by (kind_now x) x) rest) k h d) (omega arith)
    dat k h false e =
        let d = ltb-false _ _ e in
        rw (stretch_data x rest k h d, stretch_data x (stretch_by (kind_now x) x rest) k h d) (by (kind_now x))

    chunk : 28 ≤ x.come.bytes → (y : Bool) → ltb x.come.bytes x.walk.next.at ≡ y → stretch x (stretch x rest) ≡ stretch x rest
    chunk k true e = dat k (ltb-true _ _ e) (ltb (data_by (kind_now x) x) (gap x)) refl
    chunk k false e =
        let h = ltb-false _ _ e in
        rw (stretch_chunk x rest k h, stretch_chunk x (head_stretch x rest) k h)
        (once_again (eqb x.come.bytes x.walk.next.at) 12 rest (omega arith))

    go : (y : Bool) → ltb x.come.bytes 28 ≡ y → stretch x (stretch x rest) ≡ stretch x rest
    go true e = let h = ltb-true _ _ e in rw (stretch_head x rest h) (stretch_head x 1 h)
    go false e = chunk (ltb-false _ _ e) (ltb x.come.bytes x.walk.next.at) refl

-- ---- the bytes of a stretch

-- the first byte, and the others
record Part (bs : List ℕ) : Type 0 where
  others : List ℕ
  is : bs ≡ get_or bs 0 0 ∷ others
  size : suc (length others) ≡ length bs

-- all bytes that are some are such
part : (bs : List ℕ) → 0 < length bs → Part bs
part [] p = absurd (omega arith)
part (b ∷ bs) p = record { others = bs; is = refl; size = refl }

-- a single byte
one : (bs : List ℕ) → length bs ≡ 1 → bs ≡ get_or bs 0 0 ∷ []
one [] e = absurd (omega arith)
one (b ∷ []) e = refl
one (b ∷ (c ∷ bs)) e = absurd (omega arith)

-- ---- what a turn makes of the state

module _ (x : Pass) (bs : List ℕ) (t : Turn x bs) where
  pub turn_head : x.come.bytes < 28 → headed x (get_or bs 0 0) ≡ fed x bs
  turn_head h =
      let e : length bs ≡ 1 = t.size ∙ stretch_head x _ h in
      sym (ap (fed x) (one bs e) ∙ fed_one x (get_or bs 0 0) ∙ step_head x (get_or bs 0 0) t.free h)

  module _ (known : 28 ≤ x.come.bytes) where
    module _ (h : x.walk.next.at ≤ x.come.bytes) where
      -- how many bytes a chunk header's turn takes
      head_size : length bs ≡ head_stretch x (length bs)
      head_size = t.size ∙ stretch_chunk x _ known h

      -- a chunk header that is read at once begins where the state stands
      whole_at : length bs ≡ 12 → x.come.bytes ≡ x.walk.next.at
      whole_at e =
          eqb-true _ _ (once_here (eqb x.come.bytes x.walk.next.at) 12 (length bs) (omega arith) (length bs) head_size e)

      -- and any other is taken byte by byte
      late_one : (length bs ≡ 12 → ⊥) → length bs ≡ 1
      late_one = once_one (eqb x.come.bytes x.walk.next.at) 12 (length bs) (omega arith) (length bs) head_size

      pub turn_gather : (length bs ≡ 12 → ⊥) → gathered x (get_or bs 0 0) ≡ fed x bs
      turn_gather e =
          sym (ap (fed x) (one bs (late_one e)) ∙ fed_one x (get_or bs 0 0) ∙ step_chunk x (get_or bs 0 0) t.free known h)

      pub turn_whole : length bs ≡ 12
          → chunk_taken (moved (keeping x (record { file = x.kept.file; chunk = sets x.kept.chunk 0 bs; word = x.kept.word })) 12 x.come.sum)
          ≡ fed x bs
      turn_whole e =
          let z : x.come.bytes - x.walk.next.at ≡ 0 = omega (arith, whole_at e) in
          let f = fed_header x bs (free_number x t.free) known h (omega (arith, e, z)) (omega (arith, e)) in
          sym (f ∙ ap₂ (λ (j n : ℕ). chunk_taken (moved (keeping x (record { file = x.kept.file; chunk = sets x.kept.chunk j bs; word = x.kept.word })) n x.come.sum)) z e)

    module _ (h : x.come.bytes < x.walk.next.at) (k : kind_now x ≡ Fill) (d : gap x ≤ data_by (kind_now x) x) where
      -- how many bytes a fill word's turn takes
      word_size : length bs ≡ at_once (eqb (gap x) 4) 4 (length bs)
      word_size = t.size ∙ stretch_data x _ known h d ∙ rw k

      -- a fill word that is taken at once begins where the state stands
      word_at : length bs ≡ 4 → gap x ≡ 4
      word_at e = eqb-true _ _ (once_here (eqb (gap x) 4) 4 (length bs) (omega arith) (length bs) word_size e)

      -- and any other is taken byte by byte
      word_one : (length bs ≡ 4 → ⊥) → length bs ≡ 1
      word_one = once_one (eqb (gap x) 4) 4 (length bs) (omega arith) (length bs) word_size

    module _ (h : x.come.bytes < x.walk.next.at) (kind : Kind) (ek : kind ≡ kind_now x) (dat : ℕ) (ed : dat ≡ data_by kind x) where
      now : dat ≡ data_by (kind_now x) x
      now = ed ∙ ap (λ (k : Kind). data_by k x) ek

      pub turn_pass : dat < gap x → settled (moved x (length bs) x.come.sum) ≡ fed x bs
      turn_pass d =
          let q : data_by (kind_now x) x < gap x = rw now at d in
          let e : length bs ≡ min (gap x - data_by (kind_now x) x) (length bs) = t.size ∙ stretch_pass x _ known h q in
          let w = part bs t.some in
          ap (λ (n : ℕ). settled (moved x n x.come.sum)) (sym w.size)
          ∙ sym (ap (fed x) w.is ∙ fed_pass x (get_or bs 0 0) w.others t.free known (omega (arith, w.size)))

      module _ (d : gap x ≤ dat) where
        pub turn_raw : kind ≡ Raw → settled (moved x (length bs) (sum_on (head_of x) x.come.sum bs)) ≡ fed x bs
        turn_raw k =
            let q : gap x ≤ data_by (kind_now x) x = rw now at d in
            let o : kind_now x ≡ Raw = sym ek ∙ k in
            let e : length bs ≡ min (gap x) (length bs) = t.size ∙ stretch_data x _ known h q ∙ rw o in
            let w = part bs t.some in
            ap₂ (λ (n : ℕ) (r : List ℕ). settled (moved x n (sum_on (head_of x) x.come.sum r))) (sym w.size) w.is
            ∙ sym (ap (fed x) w.is ∙ fed_raw x (get_or bs 0 0) w.others t.free known o q (omega (arith, w.size)))

        module _ (k : kind ≡ Fill) where
          -- the chunk is a fill
          filling : kind_now x ≡ Fill
          filling = sym ek ∙ k

          -- and the next byte one of its word
          near : gap x ≤ data_by (kind_now x) x
          near = rw now at d

          -- which has four
          pub word_near : gap x ≤ 4
          word_near = rw filling at near

          -- the whole word
          pub turn_fill : length bs ≡ 4 → settled (word_taken x bs) ≡ fed x bs
          turn_fill e =
              let at : gap x ≡ 4 = word_at h filling near e in
              let f = fed_word x bs (free_number x t.free) known filling word_near (at ∙ sym e) (omega (arith, e)) in
              let z : 4 - gap x ≡ 0 = omega (arith, at) in
              sym (f ∙ rw (z, e))

          -- a byte of it
          pub turn_word : (length bs ≡ 4 → ⊥) → settled (worded x (get_or bs 0 0)) ≡ fed x bs
          turn_word e =
              sym
              (ap (fed x) (one bs (word_one h filling near e)) ∙ fed_one x (get_or bs 0 0) ∙ step_data x (get_or bs 0 0) t.free known h
              ∙ carried_data x (get_or bs 0 0) near ∙ rw filling)

        -- chunks of the other kinds have no data
        pub turn_kept : (kind ≡ DontCare) ⊎ (kind ≡ Unknown) → {A : Type 0} → A
        turn_kept (inl k) = let z : gap x ≤ 0 = rw (ed, k) at d in absurd (omega arith)
        turn_kept (inr k) = let z : gap x ≤ 0 = rw (ed, k) at d in absurd (omega arith)

-- ---- what a turn stores

-- a single byte
one_lays : (x : Pass) (b : ℕ) (p : List ℕ) → stretch_laid x (b ∷ []) p ≡ stores x (b ∷ []) p
unfolding stretch_laid laid_by
one_lays x b p = go (kind_now x) ∙ sym (stores_one x b p)
  where
    go : (k : Kind) → cond (in_data x) (laid.stretch_by k x b [] p) p ≡ cond (in_data x) (data_laid k x b p) p
    go Raw = refl
    go Fill = refl
    go DontCare = refl
    go Unknown = refl

-- a stretch that is none of data, which bytes one after the other store nothing of either
none_lays : (x : Pass) (bs p : List ℕ) → in_data x ≡ false → stores x bs p ≡ p → stretch_laid x bs p ≡ stores x bs p
unfolding stretch_laid
none_lays x [] p e f = sym f
none_lays x (b ∷ bs) p e f = rw e (sym f)

module _ (x : Pass) (bs : List ℕ) (t : Turn x bs) (p : List ℕ) where
  single : length bs ≡ 1 → stretch_laid x bs p ≡ stores x bs p
  single e = rw (one bs e) (one_lays x (get_or bs 0 0) p)

  module _ (known : 28 ≤ x.come.bytes) where
    lays_head : x.walk.next.at ≤ x.come.bytes → (y : Bool) → eqb (length bs) 12 ≡ y
        → stretch_laid x bs p ≡ stores x bs p
    lays_head h true e =
        let n : length bs ≡ 12 = eqb-true _ _ e in
        none_lays x bs p (data_after x h)
        (stores_header x bs p (free_number x t.free) known h
        (omega (arith, whole_at x bs t known h n, n)))
    lays_head h false e = single (late_one x bs t known h (eqb-false _ _ e))

    module _ (h : x.come.bytes < x.walk.next.at) where
      lays_pass : data_by (kind_now x) x < gap x → stretch_laid x bs p ≡ stores x bs p
      lays_pass d =
          let e : length bs ≡ min (gap x - data_by (kind_now x) x) (length bs) = t.size ∙ stretch_pass x _ known h d in
          let w = part bs t.some in
          none_lays x bs p (data_before x d)
          (rw w.is (stores_pass x (get_or bs 0 0) w.others p t.free known (omega (arith, w.size))))

      -- a fill word
      lays_word : kind_now x ≡ Fill → gap x ≤ data_by (kind_now x) x → (y : Bool) → eqb (length bs) 4 ≡ y
          → stretch_laid x bs p ≡ stores x bs p
      unfolding stretch_laid fill_laid
      lays_word k d true e =
          let w = part bs t.some in
          let l : suc (length w.others) ≡ 4 = w.size ∙ eqb-true _ _ e in
          let g : gap x ≡ 4 = word_at x bs t known h k d (eqb-true _ _ e) in
          let z : 4 - gap x ≡ 0 = omega arith in
          rw (w.is, data_there x t.free known h d, k, eq-eqb (suc (length w.others)) 4 l, eq-eqb (gap x) 4 g)
          (sym
          (stores_word x (get_or bs 0 0 ∷ w.others) p (free_number x t.free) known k (omega arith) (g ∙ sym l) (omega arith) ∙ rw z))
      lays_word k d false e = single (word_one x bs t known h k d (eqb-false _ _ e))

      lays_inside : (k : Kind) → kind_now x ≡ k → gap x ≤ data_by (kind_now x) x → stretch_laid x bs p ≡ stores x bs p
      unfolding stretch_laid
      lays_inside Raw k d =
          let e : length bs ≡ min (gap x) (length bs) = t.size ∙ stretch_data x _ known h d ∙ rw k in
          let w = part bs t.some in
          rw (w.is, data_there x t.free known h d, k)
          (sym (stores_raw x (get_or bs 0 0) w.others p t.free known k d (omega (arith, w.size))))
      lays_inside Fill k d = lays_word k d (eqb (length bs) 4) refl
      lays_inside DontCare k d = single (t.size ∙ stretch_data x _ known h d ∙ rw k)
      lays_inside Unknown k d = single (t.size ∙ stretch_data x _ known h d ∙ rw k)

  -- a stretch stores what its bytes do, one after the other
  pub turn_lays : stretch_laid x bs p ≡ stores x bs p
  turn_lays = go (ltb x.come.bytes 28) refl
    where
      dat : 28 ≤ x.come.bytes → x.come.bytes < x.walk.next.at → (y : Bool) → ltb (data_by (kind_now x) x) (gap x) ≡ y
          → stretch_laid x bs p ≡ stores x bs p
      dat k h true e = lays_pass k h (ltb-true _ _ e)
      dat k h false e = lays_inside k h (kind_now x) refl (ltb-false _ _ e)

      chunk : 28 ≤ x.come.bytes → (y : Bool) → ltb x.come.bytes x.walk.next.at ≡ y → stretch_laid x bs p ≡ stores x bs p
      chunk k true e = dat k (ltb-true _ _ e) (ltb (data_by (kind_now x) x) (gap x)) refl
      chunk k false e = lays_head k (ltb-false _ _ e) (eqb (length bs) 12) refl

      go : (y : Bool) → ltb x.come.bytes 28 ≡ y → stretch_laid x bs p ≡ stores x bs p
      go true e = single (t.size ∙ stretch_head x _ (ltb-true _ _ e))
      go false e = chunk (ltb-false _ _ e) (ltb x.come.bytes x.walk.next.at) refl
