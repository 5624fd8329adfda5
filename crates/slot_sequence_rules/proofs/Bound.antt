-- At most three starts: a slot that is not successful pays for each start with a try, and has at most three.
-- Assumes nothing.
use mathlib.Core.Path.{◌≡◌, refl, ap, subst, ◌∙◌}
use mathlib.Core.Bool.{Bool, true, false, not, cond, ◌&&◌}
use mathlib.Core.List.{List, [], ◌∷◌}
use Prim.Native.Nat.{ℕ, ◌+◌, ◌-◌, ◌<◌, ◌≤◌, zero-le}
use native.Mathlib.Omega.{arith}
use lib.Dec.{ltb, leb}
use Rattle.slot_rules.specs.declared.Record.{Record}
use Rattle.slot_rules.specs.declared.Op.{Op}
use Rattle.slot_rules.specs.declared.Op.TheVariants.{Start}
use Rattle.slot_rules.specs.Records.{slot_at}
use Rattle.slot_rules.specs.Operations.{fresh_of, start_of}
use Rattle.slot_rules.specs.Promises.{after}
use Rattle.slot_sequence_rules.specs.Sequences.{run, how_many, starting, renewing, confirming}
use Rattle.slot_rules.proofs.Answers.{starts-slot}
use Rattle.slot_rules.proofs.Promises.{promises}
use Rattle.slot_rules.proofs.Tests.{clash, by_cond}

-- what holds of a record, and after every operation on a record of which it holds, holds after every sequence
pub along : (P : Record → Type 0) → ((o : Op) (r : Record) → P r → P (after o r)) → (os : List Op) (r : Record) → P r → P (run r os)
unfolding run
along P f [] r p = p
along P f (o ∷ os) r p = along P f os (after o r) (f o r p)

-- where none of some operations is such, the first is not, and none of the others is
module _ (P : Op → Record → Bool) (r : Record) (o : Op) (os : List Op) (e : how_many P r (o ∷ os) ≡ 0) where
  first_none : P o r ≡ false
  unfolding how_many
  first_none = go (P o r) refl where
    go : (b : Bool) → P o r ≡ b → b ≡ false
    go true p = absurd (let q : ◌≡◌ {A = ℕ} (cond (P o r) 1 0) 1 = ap (λ (b : Bool). cond b 1 0) p in omega (arith, e, q))
    go false p = refl

  others_none : how_many P (after o r) os ≡ 0
  unfolding how_many
  others_none = omega (arith, e)

-- one operation on a slot that is not successful: unless it confirms the slot, it stays so, and unless it renews the slot, its start is paid for with a try
module _ (o : Op) (r : Record) (i : ℕ) (u : (slot_at r i).successful ≡ false) where
  stays_unproven : confirming i o r ≡ false → (slot_at (after o r) i).successful ≡ false
  stays_unproven q = go (slot_at (after o r) i).successful refl where
    go : (b : Bool) → (slot_at (after o r) i).successful ≡ b → b ≡ false
    go true e = clash ((promises.lawful o r).successful_waits i u e) q
    go false e = refl

  has_try : starting i o r ≡ true → 0 < (slot_at r i).tries
  has_try e =
      let starts_it : starting i Start r ≡ true = subst (λ (x : Op). starting i x r ≡ true) ((promises.lawful o r).start_alone i e) e in
      (promises.started r i (starts-slot (start_of r).answer i starts_it)).has_try u

  pays : renewing i o r ≡ false → cond (starting i o r) 1 0 + (slot_at (after o r) i).tries ≤ (slot_at r i).tries
  pays q = go (starting i o r) refl where
    go : (b : Bool) → starting i o r ≡ b → cond b 1 0 + (slot_at (after o r) i).tries ≤ (slot_at r i).tries
    go true e = let goes : (slot_at (after o r) i).tries ≡ (slot_at r i).tries - 1 = (promises.lawful o r).tries_go i ∙ simp (q, e, u) in omega (arith, goes, has_try e)
    go false e = let goes : (slot_at (after o r) i).tries ≡ (slot_at r i).tries = (promises.lawful o r).tries_go i ∙ simp (q, e) in omega (arith, goes)

-- a slot that is not successful is started no more often than it has tries, until it is renewed or confirmed
pub bounded : (os : List Op) (r : Record) (i : ℕ) → (slot_at r i).successful ≡ false → how_many (renewing i) r os ≡ 0 → how_many (confirming i) r os ≡ 0 → how_many (starting i) r os ≤ (slot_at r i).tries
unfolding how_many
bounded [] r i u p q = zero-le
bounded (o ∷ os) r i u p q =
    let rest : how_many (starting i) (after o r) os ≤ (slot_at (after o r) i).tries = bounded os (after o r) i (stays_unproven o r i u (first_none (confirming i) r o os q)) (others_none (renewing i) r o os p) (others_none (confirming i) r o os q) in
    let one : cond (starting i o r) 1 0 + (slot_at (after o r) i).tries ≤ (slot_at r i).tries = pays o r i u (first_none (renewing i) r o os p) in
    omega (arith, rest, one)

-- no slot has more than three tries after an operation on a record in which none has
pub few_after : (o : Op) (r : Record) → ((i : ℕ) → (slot_at r i).tries ≤ 3) → (i : ℕ) → (slot_at (after o r) i).tries ≤ 3
few_after o r few i =
    rw ((promises.lawful o r).tries_go i)
    (by_cond (renewing i o r) (λ (n : ℕ). n ≤ 3) (λ _. omega arith) (λ _. by_cond (starting i o r && not (slot_at r i).successful) (λ (n : ℕ). n ≤ 3) (λ _. omega (arith, few i)) (λ _. few i)))

-- and none in a fresh record
pub few_fresh : (n i : ℕ) → (slot_at (fresh_of n).after i).tries ≤ 3
few_fresh n i = rw (promises.fresh_tries n i) (by_cond (leb 1 n && leb n 4 && ltb i 4) (λ (t : ℕ). t ≤ 3) (λ _. omega arith) (λ _. omega arith))
