-- The rooms of the sections of an accepted image do not overlap, lie inside the input, begin at multiples of the page and
-- stand in their order: one proof over the list of size fields. Those that are offered are these without the retired one,
-- so the same holds of them, and they share no byte with it. Assumes nothing.
use mathlib.Core.Path.{◌≡◌, refl, subst}
use mathlib.Core.Bool.{Bool, true, false}
use mathlib.Core.List.{List, [], ◌∷◌}
use Prim.Native.Nat.{ℕ, zero, suc, ◌+◌, ◌%◌, ◌≤◌, ◌<◌}
use native.Mathlib.Nat.{le_of_suc-le-suc, le_refl, zero-mod, mod_self}
use native.Mathlib.Omega.{arith}
use lib.Dec.{lit<}
use lib.ListN.{get_or, length}
use Rattle.std.specs.Prelude.{Option}
use borrow.Author.Tests.{ltb-false, ne_eqb}
use Rattle.boot_rules.specs.declared.Layout.{Layout}
use Rattle.boot_rules.specs.declared.Section.{Section}
use Rattle.boot_rules.specs.declared.Field.{Field}
use Rattle.boot_rules.specs.Pages.{round_up}
use Rattle.boot_rules.specs.Sections.{version_in, row_in, page_in, position_of, size_of, present, no_section, section_at, starts_of, sections_of, any_of, layout_of, retired_of, sections_in}
use Rattle.boot_rules.specs.Sound.{Holds, SoundSections, SoundLayout, Sound}
use Rattle.boot_rules.specs.Table.{has, number, size_fields}
use Rattle.boot_rules.specs.Tests.{overruns}
use Rattle.rules.proofs.Tests.{or_left, or_right}
use Rattle.boot_rules.proofs.Answers.{Passed, passed}
use Rattle.boot_rules.proofs.Placing.{laid}
use Rattle.boot_rules.proofs.Rounding.{page, round-up, round_whole}

present_there : (here : Bool) (p n : ℕ) → present (section_at here p n) ≡ true → p ≤ position_of (section_at here p n)
present_there true p n e = le_refl p
present_there false p n e = absurd (let z : ◌≡◌ {A = ℕ} 0 1 = cc in omega arith)

ends_there : (here : Bool) (p n : ℕ) → position_of (section_at here p n) + size_of (section_at here p n) ≤ p + n
ends_there true p n = le_refl (p + n)
ends_there false p n = omega arith

whole_there : (here : Bool) (p n x : ℕ) → p % x ≡ 0 → position_of (section_at here p n) % x ≡ 0
whole_there true p n x e = e
whole_there false p n x e = zero-mod x

never_present : present no_section ≡ true → ⊥
never_present e = let z : ◌≡◌ {A = ℕ} 0 1 = cc in omega arith

module _ (s : List ℕ) (x : ℕ) (h : 0 < x) where
  -- no section begins before the position from which they are placed
  begins_there : (fs : List Field) (p i : ℕ) → present (get_or (laid s x p fs) i no_section) ≡ true → p ≤ position_of (get_or (laid s x p fs) i no_section)
  begins_there [] p i e = absurd (never_present e)
  begins_there (f ∷ fs) p zero e = present_there (has f) p (number s f) e
  begins_there (f ∷ fs) p (suc i) e =
      let r = round-up (p + number s f) x h in
      let b = begins_there fs (round_up (p + number s f) x) i e in
      omega arith

  order_there : (fs : List Field) (p i j : ℕ) → i < j → present (get_or (laid s x p fs) j no_section) ≡ true → position_of (get_or (laid s x p fs) i no_section) + size_of (get_or (laid s x p fs) i no_section) ≤ position_of (get_or (laid s x p fs) j no_section)
  order_there [] p i j l e = absurd (never_present e)
  order_there (f ∷ fs) p i zero l e = absurd (omega arith)
  order_there (f ∷ fs) p zero (suc j) l e =
      let r = round-up (p + number s f) x h in
      let b = begins_there fs (round_up (p + number s f) x) j e in
      let d = ends_there (has f) p (number s f) in
      omega arith
  order_there (f ∷ fs) p (suc i) (suc j) l e = order_there fs (round_up (p + number s f) x) i j (le_of_suc-le-suc l) e

  whole_all : (fs : List Field) (p i : ℕ) → p % x ≡ 0 → position_of (get_or (laid s x p fs) i no_section) % x ≡ 0
  whole_all [] p i e = zero-mod x
  whole_all (f ∷ fs) p zero e = whole_there (has f) p (number s f) x e
  whole_all (f ∷ fs) p (suc i) e = whole_all fs (round_up (p + number s f) x) i (round_whole (p + number s f) x)

-- where no section overruns, each that is not empty ends inside
ends_inside : (n : ℕ) (y : Option Section) → overruns n y ≡ false → 0 < size_of y → position_of y + size_of y ≤ n
ends_inside n y e h = ltb-false n (position_of y + size_of y) (rw (ne_eqb (size_of y) 0 (λ q. omega arith)) at e)

inside_all : (n : ℕ) (xs : List (Option Section)) → any_of (overruns n) xs ≡ false → (i : ℕ) → 0 < size_of (get_or xs i no_section) → position_of (get_or xs i no_section) + size_of (get_or xs i no_section) ≤ n
inside_all n [] e i h = absurd (omega arith)
inside_all n (y ∷ ys) e zero h = ends_inside n y (or_left (overruns n y) (any_of (overruns n) ys) e) h
inside_all n (y ∷ ys) e (suc i) h = inside_all n ys (or_right (overruns n y) (any_of (overruns n) ys) e) i h

-- sections in order share no byte
apart_of : (y z : Option Section) (k : ℕ) → (present z ≡ true → position_of y + size_of y ≤ position_of z) → (present z ≡ false → size_of z ≡ 0) → Holds y k → Holds z k → ⊥
apart_of y z k o n a b = go (present z) refl
  where
    go : (t : Bool) → present z ≡ t → ⊥
    go true e = let q = o e in omega arith
    go false e = let q = n e in omega arith

absent_there : (here : Bool) (p n : ℕ) → present (section_at here p n) ≡ false → size_of (section_at here p n) ≡ 0
absent_there true p n e = absurd (let z : ◌≡◌ {A = ℕ} 0 1 = cc in omega arith)
absent_there false p n e = refl

absent_all : (s : List ℕ) (x : ℕ) (fs : List Field) (p i : ℕ) → present (get_or (laid s x p fs) i no_section) ≡ false → size_of (get_or (laid s x p fs) i no_section) ≡ 0
absent_all s x [] p i e = refl
absent_all s x (f ∷ fs) p zero e = absent_there (has f) p (number s f) e
absent_all s x (f ∷ fs) p (suc i) e = absent_all s x fs (round_up (p + number s f) x) i e

-- the sections of an image whose tests all fail
of_tests : (s : List ℕ) (l : Layout) → Passed s l → SoundSections (length s) (page_in s) (sections_of s)
unfolding starts_of sections_of
of_tests s l a =
    let n = page_in s in
    let g = page n a.page in
    let fs = size_fields (row_in s) in
    let h : 0 < n = omega arith in
    record {
      inside = inside_all (length s) (sections_of s) a.ends;
      whole = λ i. whole_all s n h fs n i (mod_self n);
      begins = λ i q. begins_there s n h fs n i q;
      order = λ i j o q. order_there s n h fs n i j o q;
      apart = λ i j k o. apart_of (get_or (sections_of s) i no_section) (get_or (sections_of s) j no_section) k (order_there s n h fs n i j o) (absent_all s n fs n j);
    }

-- where the room of an offered section stands among all rooms: the third is the retired one's
room : ℕ → ℕ
room zero = 0
room (suc zero) = 1
room (suc (suc i)) = suc (suc (suc i))

room_order : (i j : ℕ) → i < j → room i < room j
unfolding room
room_order i zero l = absurd (omega arith)
room_order zero (suc zero) l = omega arith
room_order (suc i) (suc zero) l = absurd (omega arith)
room_order zero (suc (suc j)) l = omega arith
room_order (suc zero) (suc (suc j)) l = omega arith
room_order (suc (suc i)) (suc (suc j)) l = omega arith

-- sections that are rooms in their order are sound as the rooms are
thinned : {n x : ℕ} (xs ys : List (Option Section)) → SoundSections n x xs → ((i : ℕ) → get_or xs (room i) no_section ≡ get_or ys i no_section) → SoundSections n x ys
thinned {n} {x} xs ys a h =
    record {
      inside = λ i. subst (λ (y : Option Section). 0 < size_of y → position_of y + size_of y ≤ n) (h i) (a.inside (room i));
      whole = λ i. subst (λ (y : Option Section). position_of y % x ≡ 0) (h i) (a.whole (room i));
      begins = λ i. subst (λ (y : Option Section). present y ≡ true → x ≤ position_of y) (h i) (a.begins (room i));
      order = λ i j o. subst (λ (y : Option Section). present (get_or ys j no_section) ≡ true → position_of y + size_of y ≤ position_of (get_or ys j no_section)) (h i)
          (subst (λ (z : Option Section). present z ≡ true → position_of (get_or xs (room i) no_section) + size_of (get_or xs (room i) no_section) ≤ position_of z) (h j) (a.order (room i) (room j) (room_order i j o)));
      apart = λ i j k o. subst (λ (y : Option Section). Holds y k → Holds (get_or ys j no_section) k → ⊥) (h i)
          (subst (λ (z : Option Section). Holds (get_or xs (room i) no_section) k → Holds z k → ⊥) (h j) (a.apart (room i) (room j) k (room_order i j o)));
    }

module _ {n x : ℕ} (a b c d e f : Option Section) (all : SoundSections n x (a ∷ b ∷ c ∷ d ∷ e ∷ f ∷ [])) where
  offered_rooms : (v i : ℕ) → get_or (a ∷ b ∷ c ∷ d ∷ e ∷ f ∷ []) (room i) no_section ≡ get_or (sections_in (layout_of v (a ∷ b ∷ c ∷ d ∷ e ∷ f ∷ []))) i no_section
  unfolding room
  offered_rooms v zero = refl
  offered_rooms v (suc zero) = refl
  offered_rooms v (suc (suc i)) = refl

  spared_there : (v i j k : ℕ) → Holds (get_or (sections_in (layout_of v (a ∷ b ∷ c ∷ d ∷ e ∷ f ∷ []))) i no_section) k → Holds (get_or (retired_of (a ∷ b ∷ c ∷ d ∷ e ∷ f ∷ [])) j no_section) k → ⊥
  spared_there v zero zero k p q = all.apart 0 2 k (lit< tt) p q
  spared_there v (suc zero) zero k p q = all.apart 1 2 k (lit< tt) p q
  spared_there v (suc (suc i)) zero k p q = all.apart 2 (suc (suc (suc i))) k (omega arith) q p
  spared_there v i (suc j) k p q = let t = q.to in omega arith

  sound_layout : (v : ℕ) → SoundLayout n x (a ∷ b ∷ c ∷ d ∷ e ∷ f ∷ []) (layout_of v (a ∷ b ∷ c ∷ d ∷ e ∷ f ∷ []))
  sound_layout v = record { all = all; chosen = refl; offered = thinned _ _ all (offered_rooms v); spared = spared_there v }

-- the layout of every accepted image is sound
pub sound : Sound
unfolding starts_of sections_of
sound s l e =
    let a = passed s l e in
    subst (SoundLayout (length s) (page_in s) (sections_of s)) a.layout (sound_layout _ _ _ _ _ _ (of_tests s l a) (version_in s))
