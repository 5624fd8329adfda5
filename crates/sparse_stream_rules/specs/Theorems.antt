-- What holds of the passes, whatever they are fed and lent.
-- Assumes nothing.
use Rattle.std.specs.Prelude.{◌≡◌, ℕ, ◌≤◌, ◌<◌, length}
use mathlib.Core.List.{List, [], ◌∷◌, ◌++◌, flatten}
use Rattle.rules.specs.Answer.{Answer, accepted, HasNumber}
use Rattle.fields_rules.specs.Number.{Bytes}
use Rattle.sparse_rules.specs.declared.Chunk.{Chunk}
use Rattle.sparse_rules.specs.Judge.{judged}
use Rattle.sparse_rules.specs.declared.Counts.{Counts}
use Rattle.sparse_rules.specs.Answers.{answer}
use Rattle.sparse_store_rules.specs.Store.{store}
use Rattle.sparse_store_rules.specs.Runs.{run, answers, Cut, Disturbed, Restored}
use Rattle.sparse_stream_rules.specs.declared.Pass.{Pass}
use Rattle.sparse_stream_rules.specs.State.{head_of}
use Rattle.sparse_stream_rules.specs.Steps.{stepped, fed}
use Rattle.sparse_stream_rules.specs.States.{answer_now}
use Rattle.sparse_stream_rules.specs.Passes.{store_after, store_answer, Same, Due, EachStored, AllBytes, Asked, EachAnswer, AskedBytes}

-- "Where the pieces together are exactly the announced length and no call gets 14, 15 or 16, the judging pass's verdict,
-- place and counts equal the whole form's, and for an accepted image, each call lent the partition as the last left it, so do
-- the storing pass's answer and partition": however the image is cut into the pieces cs, empty ones included
abbrev pub AsWhole : Type 0
AsWhole = (room : ℕ) (p : List ℕ) (cs : List (List ℕ)) → Bytes (flatten cs) → Same room p cs

-- "fed an accepted image, each call lent the partition as the last left it, the partition is after every call in a cut
-- state of 01": after the first pieces cs of an image, t being still to come
abbrev pub CutAlways : Type 0
CutAlways = (ss : List (List ℕ)) (p : List ℕ) (cs : List (List ℕ)) (t : List ℕ) → Bytes (flatten cs ++ t)
    → (ks : List Chunk) → judged (flatten cs ++ t) (length (flatten cs ++ t)) (length p) ≡ accepted ks
    → Cut ((flatten cs ++ t) ∷ ss) p (store_after (length (flatten cs ++ t)) p cs)

-- PassCut ss p q: a run of the list ss begun on p, some of whose images passes store, can be cut, or end, with q
pub data PassCut : List (List ℕ) → List ℕ → List ℕ → Type 0 where
  -- as without passes
  plain : {ss : List (List ℕ)} {p q : List ℕ} → Cut ss p q → PassCut ss p q
  -- "left before that, as a cut": the next image by a pass that is left after any pieces
  left : {ss : List (List ℕ)} {p : List ℕ} (cs : List (List ℕ)) (t : List ℕ) (ks : List Chunk)
      → judged (flatten cs ++ t) (length (flatten cs ++ t)) (length p) ≡ accepted ks
      → PassCut ((flatten cs ++ t) ∷ ss) p (store_after (length (flatten cs ++ t)) p cs)
  -- an image in full, by the plain store
  past : {s : List ℕ} {ss : List (List ℕ)} {p q : List ℕ} → PassCut ss (store s p) q → PassCut (s ∷ ss) p q
  -- "once it accepts, it counts there as the plain store": an image in full, by a pass
  passed : {ss : List (List ℕ)} {p q : List ℕ} (cs : List (List ℕ)) (ks : List Chunk)
      → judged (flatten cs) (length (flatten cs)) (length p) ≡ accepted ks
      → PassCut ss (store_after (length (flatten cs)) p cs) q → PassCut (flatten cs ∷ ss) p q

-- PassReached ss p q: any number of such runs, each cut anywhere, can make q of p
pub data PassReached (ss : List (List ℕ)) (p : List ℕ) : List ℕ → Type 0 where
  start : PassReached ss p p
  again : {q r : List ℕ} → PassReached ss p q → PassCut ss q r → PassReached ss p r

-- PassRun ss p q vs: a full run of the list ss begun on p, some of whose images passes store, ends with q and answers vs
pub data PassRun : List (List ℕ) → List ℕ → List ℕ → List (Answer Counts) → Type 0 where
  ended : {p : List ℕ} → PassRun [] p p []
  -- an image by the plain store
  full : {s : List ℕ} {ss : List (List ℕ)} {p q : List ℕ} {vs : List (Answer Counts)}
      → PassRun ss (store s p) q vs → PassRun (s ∷ ss) p q (answer s (length s) (length p) ∷ vs)
  -- an accepted image by a pass
  full_pass : {ss : List (List ℕ)} {p q : List ℕ} {vs : List (Answer Counts)} (cs : List (List ℕ)) (ks : List Chunk)
      → judged (flatten cs) (length (flatten cs)) (length p) ≡ accepted ks
      → PassRun ss (store_after (length (flatten cs)) p cs) q vs → PassRun (flatten cs ∷ ss) p q (store_answer (length (flatten cs)) p cs ∷ vs)

-- every byte of every image is one
abbrev pub ImageBytes : List (List ℕ) → Type 0
ImageBytes [] = Unit {0}
ImageBytes (s ∷ ss) = Bytes s × ImageBytes ss

-- SameRun ss p q: every full run of the list ss on q, by passes or not, leaves and answers what one on p without passes would
abbrev pub SameRun : List (List ℕ) → List ℕ → List ℕ → Type 0
SameRun ss p q = (r : List ℕ) (vs : List (Answer Counts)) → PassRun ss q r vs → (r ≡ run ss p) × (vs ≡ answers ss p)

-- "Demand 3 covers a storing pass fed an accepted image": what `Restart` says, of lists whose images passes may store
abbrev pub PassRestart : Type 0
PassRestart = (ss : List (List ℕ)) (p q : List ℕ) → ImageBytes ss → PassReached ss p q
    → Disturbed ss p q × Restored ss p q × SameRun ss p q

-- fed any bytes, no more than announced, each call lent the partition as the last left it: "exactly the bytes due before the
-- refusal are stored", and where there is none, all that are due
abbrev pub OnlyDue : Type 0
OnlyDue = (len : ℕ) (p : List ℕ) (cs : List (List ℕ)) → Bytes (flatten cs) → length (flatten cs) ≤ len → Due len p cs

-- "Each call of the storing pass stores exactly the bytes that have come due since the last .. and touches no other": after any
-- calls cs whatever, each lent anything, refused or not
abbrev pub EachStores : Type 0
EachStores = (len room : ℕ) (cs : List (List ℕ × List ℕ)) → AllBytes cs → EachStored len room cs

-- "In both passes each of 01's tests runs, in order, as soon as the bytes it reads .. have come", "only finishing accepts", "A
-- refusal already given is given again to every later call, before any test": after any calls qs whatever, in any order
abbrev pub EachAnswers : Type 0
EachAnswers = (len room : ℕ) (qs : List Asked) → AskedBytes qs → EachAnswer len room qs

-- where the file header states 0, nothing is summed
pub record Unsummed : Type 0 where
  -- no byte of the file header is, whatever it states
  pub header : (x : Pass) (b : ℕ) → x.come.bytes < 28 → (stepped x b).come.sum ≡ x.come.sum
  -- and no byte after it where it states none
  pub none : (x : Pass) (bs : List ℕ) → 28 ≤ x.come.bytes → (head_of x).checksum ≡ 0 → (fed x bs).come.sum ≡ x.come.sum

-- no refusal of a pass that is finished has the number 0, which is returned where nothing is refused
abbrev pub RefusalNumbers : Type 0
RefusalNumbers = (x : Pass) → HasNumber (answer_now x)
