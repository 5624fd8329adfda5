-- After any disturbance of the bytes that accepted images store, one full run leaves what it would have left at first; so it
-- does after any number of cut runs, which is demand 3.
-- Assumes nothing.
use mathlib.Core.Path.{◌≡◌, refl, sym, ap, ◌∙◌}
use mathlib.Core.Option
use mathlib.Core.Option.{Option, none, some}
use mathlib.Core.List.{List, [], ◌∷◌, ◌++◌}
use Prim.Native.Nat.{ℕ, ◌*◌, ◌<◌}
use lib.ListN.{length, get_or}
use lib.Seq.{ext_get_or}
use Rattle.rules.specs.Answer.{Answer}
use Rattle.sparse_rules.specs.declared.Counts.{Counts}
use Rattle.sparse_rules.specs.Header.{block_size}
use Rattle.sparse_rules.specs.Judge.{effect}
use Rattle.sparse_rules.specs.Answers.{answer}
use Rattle.sparse_store_rules.specs.Store.{torn, store, cut_store}
use Rattle.sparse_store_rules.specs.Runs.{run, answers, Cut, stop, inside, past, Reached, start, again, later, last_given, Disturbed, Restored, Restart}
use Rattle.sparse_store_rules.proofs.Over.{length_over, get_d_over, later_get_or}
use Rattle.sparse_store_rules.proofs.Torn.{torn_none}

-- ---- one storing, byte by byte

pub length_store : (s p : List ℕ) → length (store s p) ≡ length p
unfolding store
length_store s p = simp length_over

pub store_at : (s p : List ℕ) (i : ℕ) → i < length p
    → get_or (store s p) i 0 ≡ Option.get_or (get_or (effect s (length p)) i none) (get_or p i 0)
unfolding store
store_at s p i h = get_d_over (effect s (length p)) p i h

pub length_cut : (n : ℕ) (js s p : List ℕ) → length (cut_store n js s p) ≡ length p
unfolding cut_store
length_cut n js s p = simp length_over

-- a cut state leaves every byte that its image does not store
pub cut_keeps : (n : ℕ) (js s p : List ℕ) (i : ℕ) → i < length p → get_or (effect s (length p)) i none ≡ none
    → get_or (cut_store n js s p) i 0 ≡ get_or p i 0
unfolding cut_store
cut_keeps n js s p i h e =
    get_d_over (torn (n * block_size s) js (effect s (length p))) p i h
    ∙ ap (λ (c : Option ℕ). Option.get_or c (get_or p i 0)) (torn_none (n * block_size s) js (effect s (length p)) i e)

-- ---- one full run

pub later_none : (a b : Option ℕ) → later a b ≡ none → (a ≡ none) × (b ≡ none)
later_none none b e = (refl, e)
later_none (some x) b e = (e, cc)

length_run : (ss : List (List ℕ)) (p : List ℕ) → length (run ss p) ≡ length p
length_run [] p = refl
length_run (s ∷ ss) p = length_run ss (store s p) ∙ length_store s p

-- a run of images after others
pub run-append : (ss ts : List (List ℕ)) (p : List ℕ) → run (ss ++ ts) p ≡ run ts (run ss p)
run-append [] ts p = refl
run-append (s ∷ ss) ts p = run-append ss ts (store s p)

-- each byte is the one that the last accepted image to store it gives it, or the original
run_at : (ss : List (List ℕ)) (p : List ℕ) (i : ℕ) → i < length p
    → get_or (run ss p) i 0 ≡ Option.get_or (last_given ss (length p) i) (get_or p i 0)
run_at [] p i h = refl
run_at (s ∷ ss) p i h = rw later_get_or (simp (length_store, store_at) at (run_at ss (store s p) i (simp length_store h)))

-- the answers depend on the partition's length alone
answers_same : (ss : List (List ℕ)) (p q : List ℕ) → length q ≡ length p → answers ss q ≡ answers ss p
answers_same [] p q e = refl
answers_same (s ∷ ss) p q e =
    let rest : answers ss (store s q) ≡ answers ss (store s p) = answers_same ss (store s p) (store s q) (simp length_store e) in
    cc

-- those of images after others
pub answers_append : (ss ts : List (List ℕ)) (p : List ℕ) → answers (ss ++ ts) p ≡ answers ss p ++ answers ts p
answers_append [] ts p = refl
answers_append (s ∷ ss) ts p =
    ap (λ (r : List (Answer Counts)). answer s (length s) (length p) ∷ r)
    (answers_append ss ts (store s p) ∙ ap (λ (r : List (Answer Counts)). answers ss (store s p) ++ r) (answers_same ts p (store s p) (length_store s p)))

-- those after one image
pub answers_after : (s : List ℕ) (ss : List (List ℕ)) (p : List ℕ) → answers (s ∷ ss) p ≡ answer s (length s) (length p) ∷ answers ss p
answers_after s ss p = ap (λ (r : List (Answer Counts)). answer s (length s) (length p) ∷ r) (answers_same ss p (store s p) (length_store s p))

-- ---- two neighbours in a list, and one image that gives a byte what they give it

later_group : (a b c : Option ℕ) → later a (later b c) ≡ later (later a b) c
later_group none b c = refl
later_group (some x) b c = refl

pub given_replaced : (before after : List (List ℕ)) (i s t : List ℕ) (room k : ℕ)
    → get_or (effect i room) k none ≡ later (get_or (effect t room) k none) (get_or (effect s room) k none)
    → last_given (before ++ i ∷ after) room k ≡ last_given (before ++ s ∷ t ∷ after) room k
given_replaced [] after i s t room k e =
    ap (later (last_given after room k)) e ∙ later_group (last_given after room k) (get_or (effect t room) k none) (get_or (effect s room) k none)
given_replaced (x ∷ before) after i s t room k e =
    ap (λ (c : Option ℕ). later c (get_or (effect x room) k none)) (given_replaced before after i s t room k e)

-- ---- what a run, cut anywhere, leaves alone

pub undisturbed : (ss : List (List ℕ)) (p : List ℕ) → Disturbed ss p p
undisturbed ss p = record { same_length = refl; kept = λ i h e. refl }

pub disturbed_again : (ss : List (List ℕ)) (p q r : List ℕ) → Disturbed ss p q → Disturbed ss q r → Disturbed ss p r
disturbed_again ss p q r a b =
    record {
      same_length = b.same_length ∙ a.same_length;
      kept = λ i h e. b.kept i (rw a.same_length h) (rw a.same_length e) ∙ a.kept i h e;
    }

cut_disturbs : {ss : List (List ℕ)} {p q : List ℕ} → Cut ss p q → Disturbed ss p q
cut_disturbs {ss} {p} stop = undisturbed ss p
cut_disturbs (inside {s = s} {ss = ss} {p = p} ks a n js l) =
    record {
      same_length = length_cut n js s p;
      kept = λ i h e. cut_keeps n js s p i h (later_none (last_given ss (length p) i) (get_or (effect s (length p)) i none) e).1;
    }
cut_disturbs (past {s = s} {ss = ss} {p = p} c) =
    let rest = cut_disturbs c in
    record {
      same_length = rest.same_length ∙ length_store s p;
      kept = λ i h e.
          let both : (last_given ss (length p) i ≡ none) × (get_or (effect s (length p)) i none ≡ none)
          = later_none (last_given ss (length p) i) (get_or (effect s (length p)) i none) e in
          rest.kept i (simp length_store h) (simp length_store both.0) ∙ store_at s p i h ∙ rw both.1;
    }

-- however often runs are cut, no byte changes that no accepted image stores
pub cuts_disturb : (ss : List (List ℕ)) (p q : List ℕ) → Reached ss p q → Disturbed ss p q
cuts_disturb ss p q start = undisturbed ss p
cuts_disturb ss p q (again {q = r} before c) = disturbed_again ss p r q (cuts_disturb ss p r before) (cut_disturbs c)

-- ---- one full run undoes any disturbance

-- what stands under a byte matters only where no image stores it
under : (c : Option ℕ) {x y : ℕ} → (c ≡ none → x ≡ y) → Option.get_or c x ≡ Option.get_or c y
under none f = f refl
under (some b) f = refl

pub disturbed_restored : (ss : List (List ℕ)) (p q : List ℕ) → Disturbed ss p q → Restored ss p q
disturbed_restored ss p q d =
    let at : (i : ℕ) → i < length p → get_or (run ss q) i 0 ≡ Option.get_or (last_given ss (length p) i) (get_or p i 0)
    = λ i h. (rw d.same_length at (run_at ss q i (rw d.same_length h))) ∙ under (last_given ss (length p) i) (d.kept i h) in
    record {
      same_bytes = ext_get_or 0 (run ss q) (run ss p) (simp length_run d.same_length)
          (λ i h. let g : i < length p = simp (length_run, d.same_length) at h in at i g ∙ sym (run_at ss p i g));
      same_answers = answers_same ss p q d.same_length;
      last = at;
    }

-- ---- demand 3

pub restart : Restart
restart ss p q r = let d = cuts_disturb ss p q r in (d, disturbed_restored ss p q d)
