-- The loop of `report_text::put_refusals`: the lines of all numbers before this one are put.
use Rattle.text.specs.Texts.{Puts}
use Rattle.report_rules.specs.Text.{refused_lines}
use Rattle.report_text.proofs.put_refusals.Given as goal

abbrev pub invariant-loop-i : goal.invariant-loop-i
invariant-loop-i l = Puts l.initial.out (refused_lines l.counts 1 l.i) l.out
