-- A pass as a whole: pieces one after the other, each call lent the partition as the last left it; and what is promised of it.
-- Assumes nothing.
use Rattle.std.specs.Prelude.{◌≡◌, ℕ, ◌<◌, length}
use mathlib.Core.List.{List, [], ◌∷◌, flatten}
use Rattle.fields_rules.specs.Number.{Bytes}
use Rattle.sparse_rules.specs.declared.Chunk.{Chunk}
use Rattle.rules.specs.Answer.{accepted, Answer}
use Rattle.sparse_rules.specs.Judge.{judged}
use Rattle.sparse_rules.specs.declared.Counts.{Counts}
use Rattle.sparse_rules.specs.Answers.{answer}
use Rattle.sparse_store_rules.specs.Store.{over, store}
use Rattle.sparse_stream_rules.specs.declared.Pass.{Pass}
use Rattle.sparse_stream_rules.specs.Known.{due}
use Rattle.sparse_stream_rules.specs.Calls.{Past, going, given, judge_bring, judge_finish, store_bring, store_finish, finished, lays}
use Rattle.sparse_stream_rules.specs.Steps.{opened, fed}
use Rattle.sparse_stream_rules.specs.Laid.{stores}
use Rattle.sparse_stream_rules.specs.States.{begun, called, leaves, piece_tests, lent_tests, finish_tests, lent_finish_tests, answer_now}

-- a call of the judging pass with a piece
abbrev pub judge_call : Pass → List ℕ → Pass
judge_call x c = called (piece_tests x (length c)) x (fed (opened x) c)

-- and one of the storing pass that is lent so many bytes
abbrev pub store_call : Pass → ℕ → List ℕ → Pass
store_call x lent c = called (lent_tests x lent (length c)) x (fed (opened x) c)

-- what the latter leaves of the partition
abbrev pub store_leaves : Pass → List ℕ → List ℕ → List ℕ
store_leaves x c p = leaves (lent_tests x (length p) (length c)) x p (stores (opened x) c p)

-- a call that finishes the judging pass
abbrev pub judge_at_end : Pass → Pass
judge_at_end x = called (finish_tests x) x (opened x)

-- and one that finishes the storing pass, where so many bytes are lent
abbrev pub store_at_end : Pass → ℕ → Pass
store_at_end x lent = called (lent_finish_tests x lent) x (opened x)

-- pieces one after the other
abbrev pub judge_calls : Pass → List (List ℕ) → Pass
judge_calls x [] = x
judge_calls x (c ∷ cs) = judge_calls (judge_call x c) cs

-- of a storing pass, each call lent what the last left
abbrev pub store_calls : Pass → List ℕ → List (List ℕ) → Pass
store_calls x p [] = x
store_calls x p (c ∷ cs) = store_calls (store_call x (length p) c) (store_leaves x c p) cs

-- what they leave of the partition
abbrev pub store_left : Pass → List ℕ → List (List ℕ) → List ℕ
store_left x p [] = p
store_left x p (c ∷ cs) = store_left (store_call x (length p) c) (store_leaves x c p) cs

-- what a pass answers when it is finished after some pieces
abbrev pub judge_answer : ℕ → ℕ → List (List ℕ) → Answer Counts
judge_answer len room cs = answer_now (judge_at_end (judge_calls (begun len room) cs))

-- and a storing pass
abbrev pub store_answer : ℕ → List ℕ → List (List ℕ) → Answer Counts
store_answer len p cs = answer_now (store_at_end (store_calls (begun len (length p)) p cs) (length p))

-- what a storing pass leaves after some pieces
abbrev pub store_after : ℕ → List ℕ → List (List ℕ) → List ℕ
store_after len p cs = store_left (begun len (length p)) p cs

-- pieces that together are exactly an image of the announced length
pub record Same (room : ℕ) (p : List ℕ) (cs : List (List ℕ)) : Type 0 where
  -- "the judging pass's verdict, place and counts equal the whole form's"
  pub judging : judge_answer (length (flatten cs)) room cs ≡ answer (flatten cs) (length (flatten cs)) room
  -- "and for an accepted image, each call lent the partition as the last left it, so do the storing pass's answer"
  pub storing : store_answer (length (flatten cs)) p cs ≡ answer (flatten cs) (length (flatten cs)) (length p)
  -- "and partition"
  pub contents : (ks : List Chunk) → judged (flatten cs) (length (flatten cs)) (length p) ≡ accepted ks → store_after (length (flatten cs)) p cs ≡ store (flatten cs) p

-- pieces that are no more than announced, of any bytes: "exactly the bytes due before the refusal are stored"
abbrev pub Due : ℕ → List ℕ → List (List ℕ) → Type 0
Due len p cs = store_after len p cs ≡ over (due (flatten cs) len (length p)) p

-- ---- call by call

-- a state agrees with a pass so far: not refused, or refused with the same number and place
pub data Agrees : Pass → Past → Type 0 where
  free : {x : Pass} {s : List ℕ} → x.refusal.number ≡ 0 → Agrees x (going s)
  same_refusal : {x : Pass} {s : List ℕ} {n place : ℕ} → 0 < x.refusal.number → x.refusal.number ≡ n → x.refusal.place ≡ place → Agrees x (given s n place)

-- calls of a storing pass, each with the bytes of the partition that it is lent and a piece
abbrev pub state_after : Pass → List (List ℕ × List ℕ) → Pass
state_after x [] = x
state_after x (c ∷ cs) = state_after (store_call x (length c.0) c.1) cs

-- the same, of a pass so far
abbrev pub past_after : ℕ → ℕ → Past → List (List ℕ × List ℕ) → Past
past_after len room v [] = v
past_after len room v (c ∷ cs) = past_after len room (store_bring len room (length c.0) v c.1) cs

-- after any calls, whatever they bring and are lent, refused or not: the next one stores exactly what has come due since the last,
-- finishing answers what is known, and the state agrees
pub record EachStored (len room : ℕ) (cs : List (List ℕ × List ℕ)) : Type 0 where
  pub agrees : Agrees (state_after (begun len room) cs) (past_after len room (going []) cs)
  pub leaves_due : (p c : List ℕ) → Bytes c
      → store_leaves (state_after (begun len room) cs) c p
      ≡ lays len room (past_after len room (going []) cs) (store_bring len room (length p) (past_after len room (going []) cs) c) p

-- every byte of the pieces is one
abbrev pub AllBytes : List (List ℕ × List ℕ) → Type 0
AllBytes [] = Unit {0}
AllBytes (c ∷ cs) = Bytes c.1 × AllBytes cs

-- a call: with a piece or finishing, of the judging pass, or of the storing pass that is lent so many bytes
pub data Asked : Type 0 where
  judge_piece : List ℕ → Asked
  judge_end : Asked
  store_piece : ℕ → List ℕ → Asked
  store_end : ℕ → Asked

-- what it makes of a state, and of a pass so far
abbrev pub state_by : Pass → Asked → Pass
state_by x (judge_piece c) = judge_call x c
state_by x judge_end = judge_at_end x
state_by x (store_piece lent c) = store_call x lent c
state_by x (store_end lent) = store_at_end x lent

-- and of a pass so far
abbrev pub past_by : ℕ → ℕ → Past → Asked → Past
past_by len room v (judge_piece c) = judge_bring len room v c
past_by len room v judge_end = judge_finish len room v
past_by len room v (store_piece lent c) = store_bring len room lent v c
past_by len room v (store_end lent) = store_finish len room lent v

-- calls one after the other
abbrev pub states_by : Pass → List Asked → Pass
states_by x [] = x
states_by x (a ∷ qs) = states_by (state_by x a) qs

-- of a pass so far
abbrev pub pasts_by : ℕ → ℕ → Past → List Asked → Past
pasts_by len room v [] = v
pasts_by len room v (a ∷ qs) = pasts_by len room (past_by len room v a) qs

-- every byte of a call is one
abbrev pub AskedBytes : List Asked → Type 0
AskedBytes [] = Unit {0}
AskedBytes (judge_piece c ∷ qs) = Bytes c × AskedBytes qs
AskedBytes (judge_end ∷ qs) = AskedBytes qs
AskedBytes (store_piece lent c ∷ qs) = Bytes c × AskedBytes qs
AskedBytes (store_end lent ∷ qs) = AskedBytes qs

-- after any calls in any order the state agrees with the pass so far, and a call that finishes answers as it must
pub record EachAnswer (len room : ℕ) (qs : List Asked) : Type 0 where
  pub agrees : Agrees (states_by (begun len room) qs) (pasts_by len room (going []) qs)
  pub judged_answer : answer_now (state_by (states_by (begun len room) qs) judge_end) ≡ finished len room (judge_finish len room (pasts_by len room (going []) qs))
  pub stored_answer : (lent : ℕ) → answer_now (state_by (states_by (begun len room) qs) (store_end lent)) ≡ finished len room (store_finish len room lent (pasts_by len room (going []) qs))
