-- `starter_texts::text_len` meets its contract.
-- Assumes nothing.
use Rattle.std.proofs.Common.{◌∙◌, rules}
use Rattle.starter_texts.proofs.Texts.{first_zero}
use Rattle.starter_texts.proofs.text_len.Goals as goal

pub returns : goal.returns
returns c = c.unwrap_or.ensures ∙ first_zero c.args.bytes.now c.position.result (search rules)
