-- The theorems of the starter.
-- Assumes nothing.
use mathlib.Core.Path.{◌≡◌, refl, sym, ap, subst, ◌∙◌}
use mathlib.Core.Bool.{Bool, true, false, ◌||◌, or-true}
use mathlib.Core.List.{List, ◌++◌, append-nil}
use Prim.Native.Nat.{ℕ, ◌≤◌}
use native.Mathlib.Omega.{arith}
use lib.Dec.{ltb, eqb}
use lib.ListN.{length, get_or, take, drop, length-append, length-drop}
use lib.Seq.{take-append_seam}
use borrow.Author.Tests.{lt-ltb, ltb-false, eqb-true, eqb-false}
use Rattle.rules.specs.Answer.{Answer, accepted, refused, number_of, HasNumber}
use Rattle.rules.proofs.Tests.{or_left, or_right}
use Rattle.fields_rules.proofs.Sets.{past_front}
use Rattle.slot_rules.specs.declared.Record.{Record}
use Rattle.slot_rules.specs.Records.{valid}
use Rattle.slot_rules.specs.Answers as slots
use Rattle.slot_rules.specs.Operations.{start_of}
use Rattle.slot_rules.specs.declared.Op.TheVariants.{Start}
use Rattle.slot_rules.specs.Promises.{is_done}
use Rattle.slot_rules.proofs.Tests.{clash}
use Rattle.slot_rules.proofs.Promises.{promises}
use Rattle.boot_rules.specs.declared.Layout.{Layout}
use Rattle.boot_rules.specs.Table.{field, lacking}
use Rattle.boot_rules.specs.Sections.{version_in}
use Rattle.boot_rules.specs.Tests as boot
use Rattle.boot_rules.proofs.Answers.{refusal_numbers as boot-numbers}
use Rattle.boot_rules.proofs.Lines.{line_fields}
use Rattle.starter_rules.specs.Line.{text_in, asks_recovery}
use Rattle.starter_rules.specs.Starter.{Deed, starts, recovery, leaving, needs_more, booted, image_of, booted_from, Effect, starter}
use Rattle.starter_rules.specs.Theorems.{ImageLines, effect, line_of, EachOrdered, Starting, EachStarting, EachRecovery, RefusalNumbers}
use Rattle.starter_rules.proofs.Texts.{text_none}
use Rattle.starter_rules.proofs.Lines.{image-line}
use Rattle.starter_rules.proofs.Booting.{booted_refused, booted_accepted, line_long, line_fits, follows_starts, follows_recovery}
use Rattle.starter_rules.proofs.Starting.{invalid, out_31, out_51, out_after}

-- the image's line, version by version
pub image-lines : ImageLines
image-lines = record {
  early = λ s h. let f = line_fields.early (version_in s) h in sym (image-line s (field 64 512) (field 608 1024) (sym f.0) (sym f.1));
  late = λ s l h.
      let f = line_fields.late (version_in s) l h in
      sym (image-line s (field 44 1536) lacking (sym f.0) (sym f.1)) ∙ ap (◌++◌ (text_in s (field 44 1536))) (text_none s lacking refl) ∙ append-nil (text_in s (field 44 1536));
}

-- every case, in its order
module _ (r : Record) (images : List (List ℕ)) (misc loader space : List ℕ) where
  abbrev asked : Bool
  asked = asks_recovery misc

  module _ (v : valid r ≡ true) (h : length misc ≡ 32) where
    recovers : (start_of r).answer ≡ accepted slots.recovery → starter r images misc loader space ≡ effect (accepted recovery) (start_of r).after space
    recovers e = sym (out_after r images misc loader space v h (follows_recovery (start_of r).answer images asked loader space e))

    module _ (k : ℕ) (e : (start_of r).answer ≡ accepted (slots.starts k)) where
      -- a slot starts, and what follows is this
      boots : {a : Answer Deed} {s : List ℕ} → leaving a s ≡ booted_from images asked loader space k → starter r images misc loader space ≡ effect a (start_of r).after s
      boots p = sym (out_after r images misc loader space v h (p ∙ sym (follows_starts (start_of r).answer images asked loader space k e)))

      own : (n place : ℕ) → boot.answer (image_of images k) ≡ refused n place → starter r images misc loader space ≡ effect (refused n place) (start_of r).after space
      own n place b = boots (booted_refused k n place (boot.answer (image_of images k)) (line_of images misc loader k) space (sym b))

      module _ (l : Layout) (b : boot.answer (image_of images k) ≡ accepted l) where
        found : {a : Answer Deed} {s : List ℕ} → leaving a s ≡ booted k (accepted l) (line_of images misc loader k) space → starter r images misc loader space ≡ effect a (start_of r).after s
        found p = boots (p ∙ sym (booted_accepted k l (boot.answer (image_of images k)) (line_of images misc loader k) space (sym b)))

        long : needs_more (line_of images misc loader k) (length space) ≡ true → starter r images misc loader space ≡ effect (refused 52 0) (start_of r).after space
        long t = found (line_long k l (line_of images misc loader k) space t)

        written : length (line_of images misc loader k) ≤ length space → length (line_of images misc loader k) ≤ 4096
            → starter r images misc loader space ≡ effect (accepted (starts k l (length (line_of images misc loader k)))) (start_of r).after (line_of images misc loader k ++ drop (length (line_of images misc loader k)) space)
        written p q = found (line_fits k l (line_of images misc loader k) space p q)

pub each_ordered : EachOrdered
each_ordered r images misc loader space = record {
  invalid = λ v. sym (out_31 r images misc loader space v);
  misc_length = λ v h. sym (out_51 r images misc loader space v h);
  recovers = recovers r images misc loader space;
  own = own r images misc loader space;
  no_room = λ v h k e l b p. long r images misc loader space v h k e l b (ap (λ (t : Bool). t || ltb 4096 (length (line_of images misc loader k))) (lt-ltb (length space) (length (line_of images misc loader k)) p));
  too_long = λ v h k e l b p.
      long r images misc loader space v h k e l b
      (ap (◌||◌ (ltb (length space) (length (line_of images misc loader k)))) (lt-ltb 4096 (length (line_of images misc loader k)) p) ∙ or-true (ltb (length space) (length (line_of images misc loader k))));
  written = written r images misc loader space;
}

-- ---- what holds of every answer, case by case

module _ (r : Record) (images : List (List ℕ)) (misc loader space : List ℕ) where
  abbrev line_at : ℕ → List ℕ
  line_at k = line_of images misc loader k

  -- a claim about the answer, shown in each case
  module _ (P : Answer Deed → Type 0) (at-31 : P (refused 31 0)) (at-51 : P (refused 51 0)) (at-52 : P (refused 52 0))
      (at-recovery : (start_of r).answer ≡ accepted slots.recovery → P (accepted recovery))
      (at_own : (k n place : ℕ) → boot.answer (image_of images k) ≡ refused n place → P (refused n place))
      (at_start : valid r ≡ true → length misc ≡ 32 → (k : ℕ) → (start_of r).answer ≡ accepted (slots.starts k) → (l : Layout) → boot.answer (image_of images k) ≡ accepted l
      → length (line_at k) ≤ length space → length (line_at k) ≤ 4096 → P (accepted (starts k l (length (line_at k))))) where
    answers : {a : Answer Deed} {z : Record} {t : List ℕ} → starter r images misc loader space ≡ effect a z t → P a → P (starter r images misc loader space).answer
    answers p q = subst P (sym (ap (λ (x : Effect). x.answer) p)) q

    module _ (v : valid r ≡ true) (h : length misc ≡ 32) where
      by_line : (k : ℕ) → (start_of r).answer ≡ accepted (slots.starts k) → (l : Layout) → boot.answer (image_of images k) ≡ accepted l
          → (t : Bool) → needs_more (line_at k) (length space) ≡ t → P (starter r images misc loader space).answer
      by_line k s l b true t = answers (long r images misc loader space v h k s l b t) at-52
      by_line k s l b false t =
          let fits = ltb-false (length space) (length (line_at k)) (or_left (ltb (length space) (length (line_at k))) (ltb 4096 (length (line_at k))) t) in
          let short = ltb-false 4096 (length (line_at k)) (or_right (ltb (length space) (length (line_at k))) (ltb 4096 (length (line_at k))) t) in
          answers (written r images misc loader space v h k s l b fits short) (at_start v h k s l b fits short)

      by_image : (k : ℕ) → (start_of r).answer ≡ accepted (slots.starts k) → (b : Answer Layout) → boot.answer (image_of images k) ≡ b → P (starter r images misc loader space).answer
      by_image k s (accepted l) b = by_line k s l b (needs_more (line_at k) (length space)) refl
      by_image k s (refused n place) b = answers (own r images misc loader space v h k s n place b) (at_own k n place b)

      by_start : (a : Answer slots.Deed) → (start_of r).answer ≡ a → P (starter r images misc loader space).answer
      by_start (accepted (slots.starts k)) s = by_image k s (boot.answer (image_of images k)) refl
      by_start (accepted slots.recovery) s = answers (recovers r images misc loader space v h s) (at-recovery s)
      by_start (accepted slots.done) s = clash (ap is_done s) (promises.decides r)
      by_start (refused n place) s = clash v (invalid r n (sym (ap number_of s)) (subst HasNumber s (promises.refusal_numbers.operation Start r))).0

    each : P (starter r images misc loader space).answer
    each = by_misc (valid r) refl (eqb (length misc) 32) refl
      where
        by_misc : (v : Bool) → valid r ≡ v → (m : Bool) → eqb (length misc) 32 ≡ m → P (starter r images misc loader space).answer
        by_misc false v m h = answers (sym (out_31 r images misc loader space v)) at-31
        by_misc true v false h = answers (sym (out_51 r images misc loader space v (eqb-false (length misc) 32 h))) at-51
        by_misc true v true h = by_start v (eqb-true (length misc) 32 h) (start_of r).answer refl

-- a part of an answer that a slot starts, and another value for any other answer
abbrev part : {A : Type 0} → (ℕ → Layout → ℕ → A) → A → Answer Deed → A
part f d (accepted (starts k l n)) = f k l n
part f d (accepted recovery) = d
part f d (refused n place) = d

-- 1 where a slot starts, 0 for any other answer
abbrev started : Answer Deed → ℕ
started a = part (λ k l n. 1) 0 a

no_start : {A : Type 0} (a : Answer Deed) (k : ℕ) (l : Layout) (n : ℕ) → started a ≡ 0 → a ≡ accepted (starts k l n) → A
no_start a k l n z e = absurd (let q : started a ≡ 1 = ap started e in omega (arith, q, z))

module _ (r : Record) (images : List (List ℕ)) (misc loader space : List ℕ) where
  -- what is known of a slot that starts
  module _ (v : valid r ≡ true) (h : length misc ≡ 32) (k : ℕ) (s : (start_of r).answer ≡ accepted (slots.starts k)) (l : Layout) (b : boot.answer (image_of images k) ≡ accepted l)
      (fits : length (line_of images misc loader k) ≤ length space) (short : length (line_of images misc loader k) ≤ 4096) where
    abbrev text : List ℕ
    text = line_of images misc loader k

    whole : starter r images misc loader space ≡ effect (accepted (starts k l (length text))) (start_of r).after (text ++ drop (length text) space)
    whole = written r images misc loader space v h k s l b fits short

    starting : Starting r images misc loader space k l (length text)
    starting = record {
      slot = s;
      in_use = (promises.started r k s).in_use;
      left = ap (λ (x : Effect). x.after) whole;
      image = b;
      count = refl;
      most = short;
      there = ap (λ (x : Effect). take (length text) x.space) whole ∙ take-append_seam text (drop (length text) space);
      as_long = ap (λ (x : Effect). length x.space) whole ∙ (let q = length-append text (drop (length text) space) in omega (arith, q, length-drop (length text) space, fits));
      past = λ i m. ap (λ (x : Effect). get_or x.space i 0) whole ∙ past_front text space i m;
    }

  -- and so of the slot that is answered
  answered : (j : ℕ) (m : Layout) (c k : ℕ) (l : Layout) (n : ℕ) → Starting r images misc loader space j m c → ◌≡◌ {A = Answer Deed} (accepted (starts j m c)) (accepted (starts k l n)) → Starting r images misc loader space k l n
  answered j m c k l n s q =
      subst (λ (x : ℕ). Starting r images misc loader space k l x) (ap (part (λ a b d. d) c) q)
      (subst (λ (x : Layout). Starting r images misc loader space k x c) (ap (part (λ a b d. b) m) q)
      (subst (λ (x : ℕ). Starting r images misc loader space x m c) (ap (part (λ a b d. a) j) q) s))

pub each_starting : EachStarting
each_starting r images misc loader space k l n e =
    each r images misc loader space (λ (a : Answer Deed). a ≡ accepted (starts k l n) → Starting r images misc loader space k l n)
    (no_start (refused 31 0) k l n refl) (no_start (refused 51 0) k l n refl) (no_start (refused 52 0) k l n refl)
    (λ _. no_start (accepted recovery) k l n refl) (λ j i place _. no_start (refused i place) k l n refl)
    (λ v h j s m b fits short. answered r images misc loader space j m (length (line_of images misc loader j)) k l n (starting r images misc loader space v h j s m b fits short)) e

-- 1 for Recovery, 0 for any other answer
abbrev recovered : Answer Deed → ℕ
recovered (accepted (starts k l n)) = 0
recovered (accepted recovery) = 1
recovered (refused n place) = 0

no_recovery : {A : Type 0} (a : Answer Deed) → recovered a ≡ 0 → a ≡ accepted recovery → A
no_recovery a z e = absurd (let q : recovered a ≡ 1 = ap recovered e in omega (arith, q, z))

pub each_recovery : EachRecovery
each_recovery r images misc loader space e =
    each r images misc loader space (λ (a : Answer Deed). a ≡ accepted recovery → (start_of r).answer ≡ accepted slots.recovery)
    (no_recovery (refused 31 0) refl) (no_recovery (refused 51 0) refl) (no_recovery (refused 52 0) refl)
    (λ s _. s) (λ k n place _. no_recovery (refused n place) refl)
    (λ v h k s l b fits short. no_recovery (accepted (starts k l (length (line_of images misc loader k)))) refl) e

pub refusal_numbers : RefusalNumbers
refusal_numbers r images misc loader space =
    each r images misc loader space HasNumber (omega arith) (omega arith) (omega arith) (λ _. tt)
    (λ k n place b. subst HasNumber b (boot-numbers (image_of images k))) (λ v h k s l b fits short. tt)
