-- What the cut form answers: for each case document 01's number, place and count.
-- Assumes nothing.
use Rattle.std.specs.Prelude.{List, ℕ, min, length, Result}
use Rattle.rules.specs.Answer.{Answer, accepted, onward}
use Rattle.sparse_rules.specs.declared.Refusal.{Refusal}
use Rattle.sparse_rules.specs.Answers.{answer_of}
use Rattle.sparse_rules.specs.Walk.{Finding}
use Rattle.sparse_rules.specs.Counts.{written}
use Rattle.sparse_rules.specs.Judge.{judged}

-- the answer that a finding asks for: "up to the limit or the image's number of written blocks, the lesser"
unfoldable pub cut_answer_for : ℕ → Finding → Answer ℕ
cut_answer_for limit f = onward f (λ ks. accepted (min limit (written ks)))

-- the answer to a limit and an image, for a partition with so much room: "It judges the whole image, then .. reports how many"
unfoldable pub cut_answer : ℕ → List ℕ → ℕ → Answer ℕ
cut_answer limit s room = cut_answer_for limit (judged s (length s) room)

-- the cut form's answer: how many blocks are stored, or a refusal's number and place
abbrev pub cut_answer_of : Result ℕ Refusal → Answer ℕ
cut_answer_of r = answer_of r
