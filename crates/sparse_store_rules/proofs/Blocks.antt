-- A cut state block by block: the view of bytes and the view of blocks agree.
-- Assumes nothing.
use mathlib.Core.Path.{◌≡◌, refl, sym, ap, ◌∙◌}
use mathlib.Core.Bool.{Bool, true, false, cond}
use mathlib.Core.Option
use mathlib.Core.Option.{Option, none, some}
use mathlib.Core.List.{List, [], ◌∷◌, ◌++◌, map}
use Prim.Native.Nat.{ℕ, zero, suc, ◌+◌, ◌-◌, ◌*◌, ◌/◌, ◌%◌, ◌≤◌, ◌<◌}
use native.Mathlib.Nat.{add-zero, zero-mul, suc-mul, mul-le-mul_right, add-mul, div-add-mod', mod-lt, not-suc-le-zero, le_of_suc-le-suc}
use native.Mathlib.Omega.{arith}
use borrow.Author.Tests.{ltb-true, ltb-false}
use lib.Dec.{ltb}
use lib.ListN.{length, get_or, take, drop, length-take, length-drop, length-map}
use lib.Seq.{ext_get_or, get_or-take, get_or-drop, take-take, take-add}
use Rattle.sparse_rules.specs.declared.Chunk.{Chunk}
use Rattle.sparse_rules.specs.Header.{block_size}
use Rattle.rules.specs.Answer.{accepted}
use Rattle.sparse_rules.specs.Cells.{count}
use Rattle.sparse_rules.specs.Judge.{judged, effect}
use Rattle.sparse_rules.proofs.Cells.{count_append}
use Rattle.sparse_rules.proofs.Facts.{accepted_facts}
use Rattle.sparse_rules.proofs.Theorems.{sums}
use Rattle.sparse_store_rules.specs.Store.{over, torn, store, cut_store, store_up_to}
use Rattle.sparse_store_rules.specs.Runs.{Cut, inside as inside-image}
use Rattle.sparse_store_rules.specs.Blocks.{is_stored, stores, stored_before, block_at, CutState}
use Rattle.sparse_store_rules.proofs.Over.{get_d_over}
use Rattle.sparse_store_rules.proofs.Torn.{torn_none, torn_new, torn_next, torn_held, torn_front}
use Rattle.sparse_store_rules.proofs.Restart.{length_store, store_at, length_cut}
use Rattle.sparse_rules.proofs.Image.{effect_accepted}
use Rattle.sparse_store_rules.proofs.Whole.{Whole, cells_whole, get_d_some, get_or_none, stored_block, kept_block, count_block}

-- ---- a block's bytes

length_block : (b k : ℕ) (p : List ℕ) → k * b + b ≤ length p → length (block_at b k p) ≡ b
length_block b k p h = simp (length-take, length-drop) (omega arith)

pub get_or_block : (b k : ℕ) (p : List ℕ) (j : ℕ) → j < b → get_or (block_at b k p) j 0 ≡ get_or p (k * b + j) 0
get_or_block b k p j h = get_or-take b (drop (k * b) p) j 0 h ∙ get_or-drop (k * b) p j 0

-- blocks with the same bytes
same_block : (b k : ℕ) (p q : List ℕ) → length p ≡ length q
    → ((j : ℕ) → j < b → k * b + j < length p → get_or p (k * b + j) 0 ≡ get_or q (k * b + j) 0) → block_at b k p ≡ block_at b k q
same_block b k p q l same =
    ext_get_or 0 (block_at b k p) (block_at b k q) (simp (length-take, length-drop, l))
    (λ j h.
    let long = simp (length-take, length-drop) at h in
    let inside : j < b = omega (arith, long) in
    get_or_block b k p j inside ∙ same j inside (omega (arith, long)) ∙ sym (get_or_block b k q j inside))

-- what a limit of n leaves is a cut state, whatever the next block holds
limit_held : (n : ℕ) (s p : List ℕ) → (js : List ℕ) × (length js ≡ block_size s) × (store_up_to n s p ≡ cut_store n js s p)
unfolding store_up_to cut_store
limit_held n s p = rw add-zero at (torn_held (n * block_size s) 0 (block_size s) (effect s (length p)) p (omega arith))

-- ---- the cells of an accepted image

count_take : (j : ℕ) (xs : List ℕ) → j ≤ length xs → count (take j (map some xs)) ≡ j
count_take zero xs h = refl
count_take (suc j) [] h = absurd (not-suc-le-zero h)
count_take (suc j) (x ∷ xs) h = ap suc (count_take j xs (le_of_suc-le-suc h))

module _ (s p : List ℕ) (ks : List Chunk) (e : judged s (length s) (length p) ≡ accepted ks) where
  whole : Whole (block_size s) (effect s (length p))
  whole = rw (effect_accepted s (length p) ks e) (cells_whole s (block_size s) ks)

  some_bytes : 0 < block_size s
  some_bytes = omega (arith, (accepted_facts s (length s) (length p) ks e).header.block_least)

  -- the cells end in the partition
  inside_room : length (effect s (length p)) ≤ length p
  inside_room =
      let all = sums s (length s) (length p) ks e in
      rw (effect_accepted s (length p) ks e, all.bytes) all.fits

  -- the stored cells before a block are those of the blocks stored before it
  count_before : (k : ℕ) → count (take (k * block_size s) (effect s (length p))) ≡ stored_before s (length p) k * block_size s
  unfolding stored_before stores
  count_before zero = rw zero-mul
  count_before (suc k) =
      let b : ℕ = block_size s in
      let cs : List (Option ℕ) = effect s (length p) in
      let n : suc k * b ≡ k * b + b = omega arith in
      let split : count (take (k * b + b) cs) ≡ count (take (k * b) cs) + count (take b (drop (k * b) cs)) =
      ap count (take-add (k * b) b cs) ∙ count_append (take (k * b) cs) (take b (drop (k * b) cs)) in
      ap (λ (m : ℕ). count (take m cs)) n ∙ split
      ∙ rw (count_before k, count_block b cs whole k some_bytes)
      (sym (add-mul (stored_before s (length p) k) (cond (is_stored (get_or cs (k * b) none)) 1 0) b))

  -- a stored block
  module _ (k : ℕ) (q : stores s (length p) k ≡ true) where
    bytes_of : (xs : List ℕ) × (length xs ≡ block_size s) × (take (block_size s) (drop (k * block_size s) (effect s (length p))) ≡ map some xs)
    unfolding stores
    bytes_of = stored_block (block_size s) (effect s (length p)) whole k some_bytes q

    -- lies in the partition
    in_room : k * block_size s + block_size s ≤ length p
    in_room =
        let b : ℕ = block_size s in
        let cs : List (Option ℕ) = effect s (length p) in
        let n : length (take b (drop (k * b) cs)) ≡ b = ap length bytes_of.2 ∙ length-map bytes_of.0 some ∙ bytes_of.1 in
        let m = simp (length-take, length-drop) at n in
        omega (arith, m, some_bytes, inside_room)

    -- each of its cells is stored
    cell_at : (j : ℕ) → j < block_size s → get_or (effect s (length p)) (k * block_size s + j) none ≡ some (get_or bytes_of.0 j 0)
    cell_at j h =
        let b : ℕ = block_size s in
        let cs : List (Option ℕ) = effect s (length p) in
        let n : j < length bytes_of.0 = omega (arith, bytes_of.1) in
        sym (get_or-take b (drop (k * b) cs) j none h ∙ get_or-drop (k * b) cs j none) ∙ rw bytes_of.2 (get_d_some bytes_of.0 j n)

    -- so none is kept
    pub none_kept : (j : ℕ) → j < block_size s → get_or (effect s (length p)) (k * block_size s + j) none ≡ none → ⊥
    none_kept j h e = let z : ◌≡◌ {A = ℕ} 0 1 = cc (cell_at j h) in omega arith

    -- after those of the blocks before it and those before it in the block
    count_at : (j : ℕ) → j < block_size s
        → count (take (k * block_size s + j) (effect s (length p))) ≡ stored_before s (length p) k * block_size s + j
    count_at j h =
        let b : ℕ = block_size s in
        let cs : List (Option ℕ) = effect s (length p) in
        let n : j ≤ length bytes_of.0 = omega (arith, bytes_of.1) in
        let m : j ≤ b = omega arith in
        let here : count (take j (drop (k * b) cs)) ≡ j =
        ap count (sym (take-take j b (drop (k * b) cs) m)) ∙ rw bytes_of.2 (count_take j bytes_of.0 n) in
        ap count (take-add (k * b) j cs) ∙ count_append (take (k * b) cs) (take j (drop (k * b) cs)) ∙ rw (count_before k, here)

  -- ---- each byte of a cut

  module _ (n : ℕ) (js : List ℕ) where
    -- the byte of a cell
    cut_byte : (i : ℕ) → i < length p
        → get_or (cut_store n js s p) i 0 ≡ Option.get_or (get_or (torn (n * block_size s) js (effect s (length p))) i none) (get_or p i 0)
    unfolding cut_store
    cut_byte i h = get_d_over (torn (n * block_size s) js (effect s (length p))) p i h

    module _ (k : ℕ) (q : stores s (length p) k ≡ true) (j : ℕ) (h : j < block_size s) where
      inside : k * block_size s + j < length p
      inside = omega (arith, in_room k q)

      -- new before the cut
      new_byte : stored_before s (length p) k < n → get_or (cut_store n js s p) (k * block_size s + j) 0 ≡ get_or (store s p) (k * block_size s + j) 0
      new_byte l =
          let b : ℕ = block_size s in
          let few : stored_before s (length p) k * b + b ≤ n * b =
          omega (arith, suc-mul (stored_before s (length p) k) b, mul-le-mul_right b l) in
          let new = torn_new (n * b) js (effect s (length p)) (k * b + j) (rw (count_at k q j h) (omega arith)) in
          cut_byte (k * b + j) inside ∙ rw new (sym (store_at s p (k * b + j) inside))

      -- what js has for it from the cut on
      next_byte : n ≤ stored_before s (length p) k
          → get_or (cut_store n js s p) (k * block_size s + j) 0
          ≡ Option.get_or (get_or (map some js) (stored_before s (length p) k * block_size s + j - n * block_size s) none) (get_or p (k * block_size s + j) 0)
      next_byte l =
          let b : ℕ = block_size s in
          let many : n * b ≤ stored_before s (length p) k * b = mul-le-mul_right b l in
          let next = torn_next (n * b) js (effect s (length p)) (k * b + j) (get_or (bytes_of k q).0 j 0) (rw (count_at k q j h) (omega arith)) (cell_at k q j h) in
          cut_byte (k * b + j) inside ∙ rw (next, count_at k q j h)

    -- as before where the image stores nothing
    kept_byte : (k : ℕ) → stores s (length p) k ≡ false → (j : ℕ) → j < block_size s → k * block_size s + j < length p
        → get_or (cut_store n js s p) (k * block_size s + j) 0 ≡ get_or p (k * block_size s + j) 0
    unfolding stores
    kept_byte k q j h i =
        let b : ℕ = block_size s in
        let cs : List (Option ℕ) = effect s (length p) in
        cut_byte (k * b + j) i ∙ rw (torn_none (n * b) js cs (k * b + j) (kept_block b cs whole k q j h))

  -- ---- the cut state, block by block

  pub cut_state : (n : ℕ) (js : List ℕ) → length js ≡ block_size s → CutState n js s p (cut_store n js s p)
  cut_state n js l =
      let b : ℕ = block_size s in
      let t : List ℕ = cut_store n js s p in
      record {
        new = λ k q h. same_block b k t (store s p) (length_cut n js s p ∙ sym (length_store s p)) (λ j g i. new_byte n js k q j g h);
        next = λ k q h.
            let m : length (block_at b k t) ≡ b = length_block b k t (rw length_cut (in_room k q)) in
            ext_get_or 0 (block_at b k t) js (m ∙ sym l)
            (λ j g.
            let g' : j < b = rw m at g in
            let r : stored_before s (length p) k * b + j - n * b ≡ j = rw h (omega arith) in
            get_or_block b k t j g' ∙ next_byte n js k q j g' (omega arith) ∙ rw (r, get_d_some js j (omega arith)));
        after = λ k q h. same_block b k t p (length_cut n js s p)
            (λ j g i.
            let far : n * b + b ≤ stored_before s (length p) k * b = omega (arith, suc-mul n b, mul-le-mul_right b h) in
            next_byte n js k q j g (omega arith) ∙ rw (get_or_none js (stored_before s (length p) k * b + j - n * b) (omega arith)));
        kept = λ k q. same_block b k t p (length_cut n js s p) (λ j g i. kept_byte n js k q j g (rw length_cut at i));
        same_length = length_cut n js s p;
      }

  -- and nothing else is: the blocks decide every byte
  pub cut_state_only : (n : ℕ) (js q : List ℕ) → length js ≡ block_size s → CutState n js s p q → q ≡ cut_store n js s p
  cut_state_only n js q l c =
      ext_get_or 0 q (cut_store n js s p) (c.same_length ∙ sym d.same_length)
      (λ i h.
      let k : ℕ = i / block_size s in
      let j : ℕ = i % block_size s in
      let at : k * block_size s + j ≡ i = div-add-mod' i (block_size s) in
      let inside : j < block_size s = mod-lt i some_bytes in
      ap (λ (x : ℕ). get_or q x 0) (sym at) ∙ sym (get_or_block (block_size s) k q j inside)
      ∙ ap (λ (x : List ℕ). get_or x j 0) (same k (stores s (length p) k) refl)
      ∙ get_or_block (block_size s) k (cut_store n js s p) j inside ∙ ap (λ (x : ℕ). get_or (cut_store n js s p) x 0) at)
    where
      d : CutState n js s p (cut_store n js s p)
      d = cut_state n js l

      ordered : (k : ℕ) → stores s (length p) k ≡ true → (x y : Bool) → ltb (stored_before s (length p) k) n ≡ x → ltb n (stored_before s (length p) k) ≡ y
          → block_at (block_size s) k q ≡ block_at (block_size s) k (cut_store n js s p)
      ordered k r true y f g = let h = ltb-true _ _ f in c.new k r h ∙ sym (d.new k r h)
      ordered k r false true f g = let h = ltb-true _ _ g in c.after k r h ∙ sym (d.after k r h)
      ordered k r false false f g =
          let h : stored_before s (length p) k ≡ n = omega (arith, ltb-false (stored_before s (length p) k) n f, ltb-false n (stored_before s (length p) k) g) in
          c.next k r h ∙ sym (d.next k r h)

      same : (k : ℕ) (x : Bool) → stores s (length p) k ≡ x → block_at (block_size s) k q ≡ block_at (block_size s) k (cut_store n js s p)
      same k true r = ordered k r (ltb (stored_before s (length p) k) n) (ltb n (stored_before s (length p) k)) refl refl
      same k false r = c.kept k r ∙ sym (d.kept k r)

  -- a limit of n leaves every block as before that has n stored ones before it
  pub limit_keeps : (n k : ℕ) → stores s (length p) k ≡ true → n ≤ stored_before s (length p) k
      → block_at (block_size s) k (store_up_to n s p) ≡ block_at (block_size s) k p
  unfolding store_up_to
  limit_keeps n k q h =
      same_block (block_size s) k (cut_store n [] s p) p (length_cut n [] s p) (λ j g i. next_byte n [] k q j g h)

  -- "what a limit of n leaves" is the cut state after n blocks whose next block is as before
  pub limit_cut : (n : ℕ) → (js : List ℕ) × (length js ≡ block_size s) × (store_up_to n s p ≡ cut_store n js s p)
      × ((k : ℕ) → stores s (length p) k ≡ true → stored_before s (length p) k ≡ n → js ≡ block_at (block_size s) k p)
  limit_cut n =
      let held = limit_held n s p in (
        held.0,
        held.1,
        held.2,
        λ k q h.
            sym ((cut_state n held.0 held.1).next k q h) ∙ ap (block_at (block_size s) k) (sym held.2)
            ∙ limit_keeps n k q (omega arith),
      )

  -- so a run can be cut there
  pub limit_reached : (ss : List (List ℕ)) (n : ℕ) → Cut (s ∷ ss) p (store_up_to n s p)
  limit_reached ss n = let c = limit_cut n in rw c.2 (inside-image ks e n c.0 c.1)

  -- and so it can wherever the bytes are stored in order and the storing stops after any of them
  pub cut_at : (ss : List (List ℕ)) (cs ds : List (Option ℕ)) → effect s (length p) ≡ cs ++ ds → Cut (s ∷ ss) p (over cs p)
  unfolding cut_store
  cut_at ss cs ds split =
      let b : ℕ = block_size s in
      let n : ℕ = count cs / b in
      let j : ℕ = count cs % b in
      let whole_and_part : n * b + j ≡ count cs = div-add-mod' (count cs) b in
      let held = torn_held (n * b) j b (cs ++ ds) p (omega (arith, mod-lt (count cs) some_bytes)) in
      let same : over cs p ≡ cut_store n held.0 s p =
      sym (torn_front cs ds p) ∙ ap (λ (m : ℕ). over (torn m [] (cs ++ ds)) p) (sym whole_and_part) ∙ held.2
      ∙ ap (λ (es : List (Option ℕ)). over (torn (n * b) held.0 es) p) (sym split) in
      rw same (inside-image ks e n held.0 held.1)
