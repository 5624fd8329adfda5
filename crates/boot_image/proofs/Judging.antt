-- Laws of the answer for a boot image, one for each way out after the header's tests. Assumes nothing.
use mathlib.Core.Path.{◌≡◌, sym, ap, ◌∙◌}
use mathlib.Core.Bool.{Bool, true, false}
use mathlib.Core.List.{List}
use Prim.Native.Nat.{ℕ}
use lib.Dec.{lit<}
use lib.ListN.{length, get_or}
use Rattle.std.specs.Prelude.{Option}
use Rattle.boot_rules.specs.declared.Layout.{Layout}
use Rattle.boot_rules.specs.declared.Rooms.{Rooms}
use Rattle.boot_rules.specs.declared.Section.{Section}
use Rattle.boot_rules.specs.Sections.{version_in, offset_in, no_section, sections_of, rooms_in, any_of, layout_of}
use Rattle.boot_rules.specs.Tests.{misplaced, overruns, head_tests, answer}
use Rattle.boot_rules.proofs.Answers.{sections_refuse, sections_pass}
use Rattle.boot_rules.proofs.Tests.{sections_27, sections_26, sections_none}
use Rattle.rules.specs.Answer.{accepted, refused}
use Rattle.rules.specs.First.{first}

module _ (s : List ℕ) (l : Rooms) (h : first (head_tests s) ≡ 0) (e : rooms_in l ≡ sections_of s) (o : ℕ) (t : Bool) (oe : o ≡ offset_in s) (te : t ≡ misplaced o l.recovery) where
  recovery_said : (b : Bool) → t ≡ b → misplaced (offset_in s) (get_or (sections_of s) 3 no_section) ≡ b
  recovery_said b be =
      ap (λ (n : ℕ). misplaced n (get_or (sections_of s) 3 no_section)) (sym oe) ∙ ap (λ (xs : List (Option Section)). misplaced o (get_or xs 3 no_section)) (sym e) ∙ sym te ∙ be

  pub out_27 : t ≡ true → refused 27 0 ≡ answer s
  out_27 i = sections_refuse s h 27 (sections_27 s (recovery_said true i)) (lit< tt)

  module _ (i : t ≡ false) (u : Bool) (ue : u ≡ any_of (overruns (length s)) (rooms_in l)) where
    ends_said : (b : Bool) → u ≡ b → any_of (overruns (length s)) (sections_of s) ≡ b
    ends_said b be = ap (any_of (overruns (length s))) (sym e) ∙ sym ue ∙ be

    pub out_26 : u ≡ true → refused 26 0 ≡ answer s
    out_26 j = sections_refuse s h 26 (sections_26 s (recovery_said false i) (ends_said true j)) (lit< tt)

    module _ (j : u ≡ false) (v : ℕ) (y : Layout) (ve : v ≡ version_in s) (ye : y ≡ layout_of v (rooms_in l)) where
      pub out_accepted : accepted y ≡ answer s
      out_accepted =
          ap accepted (ye ∙ ap (λ (n : ℕ). layout_of n (rooms_in l)) ve ∙ ap (layout_of (version_in s)) e)
          ∙ sections_pass s h (sections_none s (recovery_said false i) (ends_said false j))
