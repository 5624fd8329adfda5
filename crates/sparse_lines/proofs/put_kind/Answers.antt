-- `sparse_lines::put_kind` meets its contract.
-- Assumes nothing.
use Rattle.sparse_list_rules.specs.Lines.{kind_word}
use Rattle.sparse_lines.proofs.put_kind.Goals as goal

pub returns-in-Raw : goal.returns-in-Raw
unfolding kind_word
returns-in-Raw c = rw c.in-Raw.is c.put_labelled.ensures

pub returns-in-Fill : goal.returns-in-Fill
unfolding kind_word
returns-in-Fill c = rw c.in-Fill.is c.put_labelled-in-Fill.ensures

pub returns-in-DontCare : goal.returns-in-DontCare
unfolding kind_word
returns-in-DontCare c = rw c.in-DontCare.is c.put_labelled-in-DontCare.ensures

pub returns-in-Unknown : goal.returns-in-Unknown
unfolding kind_word
returns-in-Unknown c = rw c.in-Unknown.is c.put_labelled-in-Unknown.ensures
