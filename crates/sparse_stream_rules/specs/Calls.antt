-- What each call of a pass answers, and what it stores.
-- Assumes nothing.
use Rattle.std.specs.Prelude.{Bool, not, List, [], ◌∷◌, ◌++◌, ℕ, zero, suc, ◌+◌, ltb, eqb, length, drop}
use Rattle.rules.specs.First.{first}
use Rattle.sparse_rules.specs.Counts.{counts_of}
use Rattle.sparse_rules.specs.declared.Counts.{Counts}
use Rattle.rules.specs.Answer.{accepted, refused, Answer}
use Rattle.sparse_store_rules.specs.Store.{laid}
use Rattle.sparse_stream_rules.specs.Known.{Known, stopped, waiting, whole, known, passed, due}

-- a pass so far: the bytes taken; and a refusal with its place, once one was given
pub data Past : Type 0 where
  going : List ℕ → Past
  given : List ℕ → ℕ → ℕ → Past

-- the bytes taken
abbrev pub taken : Past → List ℕ
taken (going s) = s
taken (given s n place) = s

-- refused by a number that is not 0, with no byte taken and at place 0; else as given
abbrev pub unless_given : ℕ → List ℕ → Past → Past
unless_given zero s v = v
unless_given (suc n) s v = given s (suc n) 0

-- as what is known says: "only finishing accepts"
abbrev pub after_known : List ℕ → Known → Past
after_known s (stopped ks n place) = given s n place
after_known s (waiting ks) = going s
after_known s (whole ks) = going s

-- 16: the lent partition has another length than announced
abbrev pub lent_test : ℕ → ℕ → Bool × ℕ
lent_test room lent = (not (eqb lent room), 16)

-- 14: more bytes than announced
abbrev pub over_test : ℕ → List ℕ → List ℕ → Bool × ℕ
over_test len s piece = (ltb len (length s + length piece), 14)

-- 15: finished with fewer
abbrev pub short_test : ℕ → List ℕ → Bool × ℕ
short_test len s = (ltb (length s) len, 15)

-- told len and room: a call that brings a piece, with the tests that come before 01's; "A refusal already given is given again"
unfoldable pub bring : ℕ → ℕ → List (Bool × ℕ) → Past → List ℕ → Past
bring len room ts (given s n place) piece = given s n place
bring len room ts (going s) piece =
    let rest : Past = after_known (s ++ piece) (known (s ++ piece) len room) in
    unless_given (first ts) s rest

-- a call of the judging pass: "tested 16, 14, 15, before any of 01's"
abbrev pub judge_bring : ℕ → ℕ → Past → List ℕ → Past
judge_bring len room v piece = bring len room (over_test len (taken v) piece ∷ []) v piece

-- and one of the storing pass that is lent so many bytes
abbrev pub store_bring : ℕ → ℕ → ℕ → Past → List ℕ → Past
store_bring len room lent v piece = bring len room (lent_test room lent ∷ over_test len (taken v) piece ∷ []) v piece

-- a call that finishes the judging pass
abbrev pub judge_finish : ℕ → ℕ → Past → Past
judge_finish len room v = bring len room (short_test len (taken v) ∷ []) v []

-- of the storing pass
abbrev pub store_finish : ℕ → ℕ → ℕ → Past → Past
store_finish len room lent v = bring len room (lent_test room lent ∷ short_test len (taken v) ∷ []) v []

-- what a call that finishes answers
unfoldable pub finished : ℕ → ℕ → Past → Answer Counts
finished len room (given s n place) = refused n place
finished len room (going s) = accepted (counts_of (passed (known s len room)))

-- "Each call of the storing pass stores exactly the bytes that have come due since the last": from one past to the next
unfoldable pub lays : ℕ → ℕ → Past → Past → List ℕ → List ℕ
lays len room v w p =
    laid (length (due (taken v) len room)) (drop (length (due (taken v) len room)) (due (taken w) len room)) p
