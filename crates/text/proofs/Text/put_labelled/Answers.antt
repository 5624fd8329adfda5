-- A word, and a number after it.
use Rattle.text_rules.specs.Words.{labelled}
use Rattle.text.proofs.Growing.{puts_then}
use Rattle.text.proofs.Text.put_labelled.Goals as goal

pub returns : goal.returns
unfolding labelled
returns c = puts_then (record { same = c.put.ensures.same; put = c.put.ensures.put }) c.put_number.ensures
