-- What holds of joined images, and of what is answered about them.
-- Assumes nothing.
use mathlib.Core.Path.{◌≡◌, refl, sym, ap, ap₂, ◌∙◌}
use mathlib.Core.Bool.{Bool, true, false}
use mathlib.Core.Option.{Option, none, some}
use mathlib.Core.List.{List, [], ◌∷◌, ◌++◌}
use Prim.Native.Nat.{ℕ, zero, suc, ◌+◌, ◌*◌, ◌/◌, ◌≤◌, ◌<◌}
use native.Mathlib.Omega.{arith}
use borrow.Author.Tests.{leb-true, leb-false, ltb-false, eqb-true, eqb-false}
use lib.Dec.{leb, eqb}
use lib.ListN.{length, get_or, take, drop, replicate, length-append, length-drop, length-replicate}
use Rattle.rules.specs.First.{first}
use Rattle.rules.specs.Answer.{Answer, accepted, refused, number_of}
use Rattle.rules.proofs.Answer.{unless_accepted, unless_number, onward_number}
use Rattle.rules.proofs.Tests.{all_fail}
use Rattle.fields_rules.specs.Number.{Bytes}
use Rattle.sparse_rules.specs.Header.{block_size, total_blocks}
use Rattle.sparse_rules.specs.declared.Counts.{Counts}
use Rattle.sparse_rules.specs.Walk.{Finding}
use Rattle.sparse_rules.specs.Cells.{tab, raw_byte}
use Rattle.sparse_rules.specs.Judge.{effect}
use Rattle.sparse_rules.specs.Answers as judge
use Rattle.sparse_rules.proofs.Theorems as images
use Rattle.sparse_store_rules.specs.Store.{over, store}
use Rattle.sparse_store_rules.specs.Runs.{run, answers, later, last_given}
use Rattle.sparse_store_rules.proofs.Cut.{store_cells, no_room_gives_nothing, no_room_stores_nothing, effects_told}
use Rattle.sparse_store_rules.proofs.Over.{get_or_laters}
use Rattle.sparse_store_rules.proofs.Restart.{length_store, run-append, answers_append, answers_after, given_replaced, restart}
use Rattle.sparse_write_rules.specs.Blocks.{Block, block_cells, blocks_from, flat_blocks, Whole}
use Rattle.sparse_write_rules.specs.Encode.{encode}
use Rattle.sparse_write_rules.specs.Write.{flat_image}
use Rattle.sparse_write_rules.specs.Theorems.{ReadsAs}
use Rattle.sparse_write_rules.proofs.Encoded.{length-block_cells, size_read, total_read, encoded}
use Rattle.sparse_write_rules.proofs.Theorems.{unique, bounded, flat_whole}
use Rattle.sparse_blocks_rules.specs.Blocks.{needed, found, blocks}
use Rattle.sparse_blocks_rules.specs.Pairs.{pair_answer, pair_tests, each, Accepted, Matched}
use Rattle.sparse_blocks_rules.proofs.Giving.{gives, encoded_accepted, encoded_blocks}
use Rattle.sparse_blocks_rules.proofs.SideBySide.{same_room, as_many}
use Rattle.sparse_blocks_rules.proofs.Pairing.{judged_so, pair_accepted, pair_passed, ordered, leaves}
use Rattle.sparse_join_rules.specs.Join.{onto, joined_blocks, join, join_tests, answer, output, blocks_bound, bound}
use Rattle.sparse_join_rules.specs.Theorems.{Joinable, Joins, EqualEffect, Canonicals, Groupings, AsWriter, Replacements, Answered, Onlys, Written, Kept, Refusals, RefusalNumbers}
use Rattle.sparse_join_rules.proofs.Answering.{answer_pair, answer_large, answer_short, answer_joined, answer_image, output_refused, output_joined}
use Rattle.sparse_join_rules.proofs.Blocks.{group_onto, length_joined, joined_at, fit_joined, whole, cells_joined, cells_many, over_joined}
use Rattle.sparse_join_rules.proofs.Lengths.{join_bytes_most}

-- ---- the image

module _ {s t : List ℕ} (j : Joinable s t) where
  -- it is bytes
  pub join_bytes : Bytes (join s t)
  unfolding join
  join_bytes = encoded.bytes (block_size s) (joined_blocks s t) (whole j)

  -- it is accepted
  pub join_accepted : Accepted (join s t)
  unfolding join
  join_accepted = encoded_accepted (block_size s) (joined_blocks s t) (whole j)

  -- its blocks are the joined ones
  pub join_blocks : blocks (join s t) ≡ joined_blocks s t
  unfolding join
  join_blocks = encoded_blocks (block_size s) (joined_blocks s t) (whole j)

  -- it has their block size
  pub join_size : block_size (join s t) ≡ block_size s
  unfolding join
  join_size = size_read (block_size s) (joined_blocks s t) (whole j)

  -- and their total
  pub join_total : total_blocks (join s t) ≡ total_blocks s
  unfolding join
  join_total = total_read (block_size s) (joined_blocks s t) (whole j) ∙ length_joined j.matched

  -- so it needs the room that they need
  pub join_room : needed (join s t) ≡ needed s
  join_room = ap₂ (λ (m n : ℕ). m * n) join_total join_size

  -- and reads back as the joined blocks
  pub join_reads : (room : ℕ) → needed s ≤ room → ReadsAs (join s t) (block_size s) (joined_blocks s t) room
  unfolding join
  join_reads room h = encoded.reads (block_size s) (joined_blocks s t) room (whole j) (rw (length_joined j.matched) h)

  -- it is no longer than its blocks allow
  join_blocks_most : length (join s t) ≤ blocks_bound s
  unfolding join
  join_blocks_most = rw (length_joined j.matched) at (bounded.encoded (block_size s) (joined_blocks s t) (whole j))

  -- nor than the bytes of the two
  pub join_most : length (join s t) ≤ bound s t
  join_most = omega (arith, join_blocks_most, join_bytes_most j.matched)

  -- with room it leaves what the first and then the second leave
  leaves_room : (p : List ℕ) → needed s ≤ length p → store (join s t) p ≡ store t (store s p)
  leaves_room p h =
      let one : store s p ≡ over (block_cells (block_size s) (blocks s)) p =
      store_cells s p (block_cells (block_size s) (blocks s)) ((gives j.matched.first).effects (length p) h) in
      let room : needed t ≤ length (store s p) = omega (arith, same_room j.matched, length_store s p) in
      let other : store t (store s p) ≡ over (block_cells (block_size s) (blocks t)) (store s p) =
      store_cells t (store s p) (block_cells (block_size s) (blocks t)) (rw j.matched.block ((gives j.matched.second).effects (length (store s p)) room)) in
      store_cells (join s t) p (block_cells (block_size s) (joined_blocks s t)) (join_reads (length p) h).gives ∙ over_joined j p
      ∙ sym (other ∙ ap (over (block_cells (block_size s) (blocks t))) one)

  -- without room none of the three stores anything
  leaves_nothing : (p : List ℕ) → length p < needed s → store (join s t) p ≡ store t (store s p)
  leaves_nothing p h =
      no_room_stores_nothing (join s t) p (omega (arith, join_room))
      ∙ sym (ap (store t) (no_room_stores_nothing s p h) ∙ no_room_stores_nothing t p (omega (arith, same_room j.matched)))

  -- on every partition
  pub join_leaves : (p : List ℕ) → store (join s t) p ≡ store t (store s p)
  join_leaves p = go (leb (needed s) (length p)) refl
    where
      go : (x : Bool) → leb (needed s) (length p) ≡ x → store (join s t) p ≡ store t (store s p)
      go true e = leaves_room p (leb-true (needed s) (length p) e)
      go false e = leaves_nothing p (leb-false (needed s) (length p) e)

-- two images that can be joined
pub joins : Joins
joins s t j =
    record {
      bytes = join_bytes j;
      many = length_joined j.matched;
      block = joined_at j.matched;
      reads = join_reads j;
      room = join_room j;
      leaves = join_leaves j;
      most = join_most j;
    }

-- ---- equal effect, equal bytes

-- a partition of one byte all over
bytes_all : (n v : ℕ) → v < 256 → Bytes (replicate n v)
bytes_all zero v h i = omega arith
bytes_all (suc n) v h zero = h
bytes_all (suc n) v h (suc i) = bytes_all n v h i

-- a joined image gives every byte that it needs a cell
length_effect : {s t : List ℕ} → Joinable s t → (room : ℕ) → needed s ≤ room → length (effect (join s t) room) ≡ needed s
length_effect {s} {t} j room h =
    ap length (join_reads j room h).gives ∙ length-block_cells (block_size s) (joined_blocks s t) (fit_joined j)
    ∙ ap (λ (n : ℕ). n * block_size s) (length_joined j.matched)

module _ {s t u v : List ℕ} (j : Joinable s t) (k : Joinable u v) (size : block_size s ≡ block_size u) (total : total_blocks s ≡ total_blocks u) where
  rooms : needed u ≡ needed s
  rooms = ap₂ (λ (m n : ℕ). m * n) (sym total) (sym size)

  same_effect : EqualEffect (join s t) (join u v) (needed s) → effect (join s t) (needed s) ≡ effect (join u v) (needed s)
  same_effect h =
      effects_told (join s t) (join u v) (needed s) (length_effect j (needed s) (omega arith)) (length_effect k (needed s) (omega (arith, rooms)) ∙ rooms)
      (λ v f. h (replicate (needed s) v) (bytes_all (needed s) v (omega arith)) (rw length-replicate (omega arith)))

  same_bytes : EqualEffect (join s t) (join u v) (needed s) → join s t ≡ join u v
  unfolding join
  same_bytes h =
      let other : Whole (block_size s) (joined_blocks u v) = rw size (whole k) in
      let one : length (joined_blocks s t) * block_size s ≤ needed s = rw (length_joined j.matched) (omega arith) in
      let two : length (joined_blocks u v) * block_size s ≤ needed s = rw (length_joined k.matched, total) (omega arith) in
      ap₂ encode size
      (unique.effects (block_size s) (joined_blocks s t) (joined_blocks u v) (needed s) (whole j) other one two
      (same_effect h ∙ ap (λ (n : ℕ). effect (encode n (joined_blocks u v)) (needed s)) (sym size)))

-- two joined images of equal block size and total
pub canonicals : Canonicals
canonicals s t u v j k size total =
    record {
      bytes = same_bytes j k (sym (join_size j) ∙ size ∙ join_size k) (sym (join_total j) ∙ total ∙ join_total k);
      effect = λ e p f h. ap (λ (i : List ℕ). store i p) e;
    }

-- ---- three images

module _ {s t u : List ℕ} (j : Joinable s t) (k : Joinable t u) where
  joins_left : Joinable (join s t) u
  joins_left =
      record {
        matched =
            record {
              first = join_accepted j;
              second = k.matched.second;
              block = join_size j ∙ j.matched.block ∙ k.matched.block;
              total = join_total j ∙ j.matched.total ∙ k.matched.total;
            };
        first = join_bytes j;
        second = k.second;
        small = omega (arith, join_room j, j.small);
      }

  joins_right : Joinable s (join t u)
  joins_right =
      record {
        matched =
            record {
              first = j.matched.first;
              second = join_accepted k;
              block = j.matched.block ∙ sym (join_size k);
              total = j.matched.total ∙ sym (join_total k);
            };
        first = j.first;
        second = join_bytes k;
        small = j.small;
      }

  group_blocks : joined_blocks (join s t) u ≡ joined_blocks s (join t u)
  unfolding joined_blocks
  group_blocks =
      ap (λ (xs : List Block). each onto xs (blocks u)) (join_blocks j) ∙ group_onto (blocks s) (blocks t) (blocks u)
      ∙ ap (each onto (blocks s)) (sym (join_blocks k))

  group_bytes : join (join s t) u ≡ join s (join t u)
  unfolding join
  group_bytes = ap₂ encode (join_size j) group_blocks

-- grouping of three makes no difference
pub groupings : Groupings
groupings s t u j k = record { left = joins_left j k; right = joins_right j k; same = group_bytes j k }

-- ---- a list of images

module _ {s t : List ℕ} (j : Joinable s t) where
  -- each byte is given what the second image gives it, where it does, and else what the first gives it
  gives_byte : (room i : ℕ) → get_or (effect (join s t) room) i none ≡ later (get_or (effect t room) i none) (get_or (effect s room) i none)
  gives_byte room i = go (leb (needed s) room) refl
    where
      go : (x : Bool) → leb (needed s) room ≡ x → get_or (effect (join s t) room) i none ≡ later (get_or (effect t room) i none) (get_or (effect s room) i none)
      go true e =
          let h : needed s ≤ room = leb-true (needed s) room e in
          let one = (gives j.matched.first).effects room h in
          let other : effect t room ≡ block_cells (block_size s) (blocks t) = rw j.matched.block ((gives j.matched.second).effects room (omega (arith, same_room j.matched))) in
          ap (λ (cs : List (Option ℕ)). get_or cs i none) ((join_reads j room h).gives ∙ cells_joined j)
          ∙ get_or_laters (block_cells (block_size s) (blocks t)) (block_cells (block_size s) (blocks s)) i (cells_many j)
          ∙ sym (ap₂ (λ (ds cs : List (Option ℕ)). later (get_or ds i none) (get_or cs i none)) other one)
      go false e =
          let h : room < needed s = leb-false (needed s) room e in
          ap (λ (cs : List (Option ℕ)). get_or cs i none) (no_room_gives_nothing (join s t) room (omega (arith, join_room j)))
          ∙ sym
          (ap₂ (λ (ds cs : List (Option ℕ)). later (get_or ds i none) (get_or cs i none)) (no_room_gives_nothing t room (omega (arith, same_room j.matched)))
          (no_room_gives_nothing s room h))

-- two neighbours replaced by their joining
pub replacements : Replacements
replacements before after s t p j =
    let short : List (List ℕ) = before ++ join s t ∷ after in
    let long : List (List ℕ) = before ++ s ∷ t ∷ after in
    let same : (q : List ℕ) → run short q ≡ run long q =
    λ q. run-append before (join s t ∷ after) q ∙ ap (run after) (join_leaves j (run before q)) ∙ sym (run-append before (s ∷ t ∷ after) q) in
    let given : (i : ℕ) → last_given short (length p) i ≡ last_given long (length p) i =
    λ i. given_replaced before after (join s t) s t (length p) i (gives_byte j (length p) i) in
    record {
      same = same p;
      restarts = λ q r. (restart short p q r).1.same_bytes ∙ same p;
      goes_over = λ q r. same q ∙ (restart long p q r).1.same_bytes;
      given = given;
      moments = λ q r. let d = (restart short p q r).0 in record { same_length = d.same_length; kept = λ i h e. d.kept i h (given i ∙ e) };
      shorter = answers_append before (join s t ∷ after) p ∙ ap (λ (r : List (Answer Counts)). answers before p ++ r) (answers_after (join s t) after p);
      longer =
          answers_append before (s ∷ t ∷ after) p
          ∙ ap (λ (r : List (Answer Counts)). answers before p ++ r)
          (answers_after s (t ∷ after) p ∙ ap (λ (r : List (Answer Counts)). judge.answer s (length s) (length p) ∷ r) (answers_after t after p));
    }

-- ---- our writer's images

-- the second's blocks, where all are written
onto_flat : (xs : List Block) (d : List ℕ) (b n at : ℕ) → length (blocks_from d b n at) ≡ length xs → each onto xs (blocks_from d b n at) ≡ blocks_from d b n at
unfolding each blocks_from
onto_flat [] d b zero at e = refl
onto_flat [] d b (suc n) at e = absurd (omega arith)
onto_flat (x ∷ xs) d b zero at e = absurd (omega arith)
onto_flat (x ∷ xs) d b (suc n) at e = ap (λ (r : List Block). some (tab (raw_byte d at) 0 b) ∷ r) (onto_flat xs d b n (at + b) (omega arith))

-- an image that our writer makes, joined to any, is itself
pub as_writer : AsWriter
unfolding join joined_blocks flat_image flat_blocks
as_writer s d b small right fits j =
    let w = flat_whole d b small right fits in
    let xs = encoded_blocks b (flat_blocks d b) w in
    ap₂ encode (j.matched.block ∙ size_read b (flat_blocks d b) w)
    (ap (each onto (blocks s)) xs ∙ onto_flat (blocks s) d b (length d / b) 0 (sym (ap length xs) ∙ as_many j.matched))

-- ---- the answers

-- a refusal that is no image's own: both are accepted
both_accepted : (s t : List ℕ) (room n place : ℕ) → 11 < n → answer s t room ≡ refused n place → Accepted s × Accepted t
unfolding answer
both_accepted s t room n place h e = go (found s) refl (found t) refl
  where
    go : (f : Finding) → found s ≡ f → (g : Finding) → found t ≡ g → Accepted s × Accepted t
    go (refused m q) a g b =
        let i : n ≡ m = ap number_of (sym e ∙ (ordered.one s t (join_tests s t room) (length (join s t)) m q a).0) in
        absurd (omega (arith, (judged_so.own s m q a).0))
    go (accepted ks) a (refused m q) b =
        let i : n ≡ m = ap number_of (sym e ∙ (ordered.other s t (join_tests s t room) (length (join s t)) m q (record { ks = ks; is = a }) b).0) in
        absurd (omega (arith, (judged_so.own t m q b).0))
    go (accepted ks) a (accepted ls) b = (record { ks = ks; is = a }, record { ks = ls; is = b })

-- 17 of images that match: they are too large
large_only : (s t : List ℕ) (room place : ℕ) → Matched s t → answer s t room ≡ refused 17 place → 2147483648 < needed s
large_only s t room place m e = go (leb (needed s) 2147483648) refl (leb (length (join s t)) room) refl
  where
    go : (x : Bool) → leb (needed s) 2147483648 ≡ x → (y : Bool) → leb (length (join s t)) room ≡ y → 2147483648 < needed s
    go false a y b = leb-false (needed s) 2147483648 a
    go true a true b =
        absurd (omega (arith, ap number_of (sym e ∙ answer_joined s t room m (leb-true (needed s) 2147483648 a) (leb-true (length (join s t)) room b))))
    go true a false b =
        absurd (omega (arith, ap number_of (sym e ∙ answer_short s t room m (leb-true (needed s) 2147483648 a) (leb-false (length (join s t)) room b))))

-- 18 of them: the output is too short
short_only : (s t : List ℕ) (room place : ℕ) → Matched s t → answer s t room ≡ refused 18 place → (needed s ≤ 2147483648) × (room < length (join s t))
short_only s t room place m e = go (leb (needed s) 2147483648) refl (leb (length (join s t)) room) refl
  where
    go : (x : Bool) → leb (needed s) 2147483648 ≡ x → (y : Bool) → leb (length (join s t)) room ≡ y → (needed s ≤ 2147483648) × (room < length (join s t))
    go false a y b = absurd (omega (arith, ap number_of (sym e ∙ answer_large s t room m (leb-false (needed s) 2147483648 a))))
    go true a true b =
        absurd (omega (arith, ap number_of (sym e ∙ answer_joined s t room m (leb-true (needed s) 2147483648 a) (leb-true (length (join s t)) room b))))
    go true a false b = (leb-true (needed s) 2147483648 a, leb-false (length (join s t)) room b)

-- and they match
matched_18 : (s t : List ℕ) (room place : ℕ) → Accepted s → Accepted t → answer s t room ≡ refused 18 place → Matched s t
unfolding answer
matched_18 s t room place a b e = go (eqb (block_size s) (block_size t)) refl (eqb (total_blocks s) (total_blocks t)) refl
  where
    differ : ((block_size s ≡ block_size t) × (total_blocks s ≡ total_blocks t) → ⊥) → Matched s t
    differ d = absurd (omega (arith, ap number_of (sym e ∙ (ordered.differs s t (join_tests s t room) (length (join s t)) a b d).0)))

    go : (x : Bool) → eqb (block_size s) (block_size t) ≡ x → (y : Bool) → eqb (total_blocks s) (total_blocks t) ≡ y → Matched s t
    go false f y g = differ (λ h. eqb-false (block_size s) (block_size t) f h.0)
    go true f false g = differ (λ h. eqb-false (total_blocks s) (total_blocks t) g h.1)
    go true f true g = record { first = a; second = b; block = eqb-true (block_size s) (block_size t) f; total = eqb-true (total_blocks s) (total_blocks t) g }

-- images that match
pub answered : Answered
answered s t room m =
    record {
      large = answer_large s t room m;
      short = answer_short s t room m;
      fits = answer_joined s t room m;
      enough = λ f g small h.
          let j : Joinable s t = record { matched = m; first = f; second = g; small = small } in
          answer_joined s t room m small (omega (arith, join_most j));
      image = answer_image s t m;
    }

-- and what 17 and 18 say
pub onlys : Onlys
onlys s t room place =
    record {
      large = λ e.
          let a = both_accepted s t room 17 place (omega arith) e in (
            a.0,
            a.1,
            λ size total.
                let m : Matched s t = record { first = a.0; second = a.1; block = size; total = total } in
                large_only s t room place m e,
          );
      short = λ e.
          let a = both_accepted s t room 18 place (omega arith) e in
          let m = matched_18 s t room place a.0 a.1 e in
          let o = short_only s t room place m e in
          (m, o.0, o.1);
    }

-- a refusal of the two images comes whatever the output is
pub refusals : Refusals
refusals s t room n place e = answer_pair s t room n place (sym e)

-- no refusal has the number 0
pub refusal_numbers : RefusalNumbers
unfolding answer pair_answer found
refusal_numbers s t room =
    onward_number (found s) _ ((images.refusal_numbers).images s (length s) (needed s))
    (λ ks. onward_number (found t) _ ((images.refusal_numbers).images t (length t) (needed t))
    (λ ls. unless_number (first (pair_tests s t (join_tests s t room))) 0 (accepted (length (join s t))) tt))

-- ---- the output

-- where a length is answered, the images match and are not too large, and it is the image's, which has room
answered_so : (s t : List ℕ) (room n : ℕ) → answer s t room ≡ accepted n
    → Matched s t × (needed s ≤ 2147483648) × (n ≡ length (join s t)) × (length (join s t) ≤ room)
unfolding answer
answered_so s t room n e =
    let m = pair_accepted s t (join_tests s t room) (length (join s t)) n e in
    let p = pair_passed s t (join_tests s t room) (length (join s t)) m.0 in
    let u = unless_accepted (first (join_tests s t room)) 0 (accepted (length (join s t))) n (sym p.0 ∙ e) in
    let f = all_fail (join_tests s t room) (tt, (tt, tt)) u.0 in
    (m.0, ltb-false 2147483648 (needed s) f.0, m.1, ltb-false room (length (join s t)) f.1.0)

module _ (s t out : List ℕ) where
  kept_long : length (output s t out) ≡ length out
  kept_long = go (answer s t (length out)) refl
    where
      go : (a : Answer ℕ) → answer s t (length out) ≡ a → length (output s t out) ≡ length out
      go (refused n place) e = ap length (output_refused s t out n place e)
      go (accepted n) e =
          ap length (output_joined s t out n e) ∙ length-append (join s t) (drop (length (join s t)) out)
          ∙ omega (arith, (answered_so s t (length out) n e).3, length-drop (length (join s t)) out)

  kept_written : (n : ℕ) → answer s t (length out) ≡ accepted n → Written s t out n
  kept_written n e =
      let a = answered_so s t (length out) n e in
      let put = output_joined s t out n e in
      let start : take n (output s t out) ≡ join s t = rw (put, a.2) (leaves.start n (join s t) out) in
      record {
        matched = a.0;
        small = a.1;
        long = a.2;
        fits = omega (arith, a.2, a.3);
        start = start;
        past = λ i h. ap (λ (l : List ℕ). get_or l i 0) put ∙ leaves.past n (join s t) out i (omega (arith, a.2));
        leaves = λ f g p. ap (λ (i : List ℕ). store i p) start ∙ join_leaves (record { matched = a.0; first = f; second = g; small = a.1 }) p;
      }

-- the output
pub kept : Kept
kept = record { long = kept_long; refusal = output_refused; written = kept_written }
