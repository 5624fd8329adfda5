-- `starter_texts::put_field` meets its contract. Assumes nothing.
use native.Mathlib.Omega.{arith}
use Rattle.text.proofs.Growing.{puts_nothing}
use Rattle.starter_rules.proofs.Texts.{text_past, front_length, text_there}
use Rattle.starter_texts.proofs.put_field.Goals as goal

pub returns-then-image-start : goal.returns-then-image-start
returns-then-image-start c = rw (text_past c.args.image.now c.args.field (omega arith)) puts_nothing

pub slice_bounds-put-end : goal.slice_bounds-put-end
slice_bounds-put-end c = front_length _ _ c.text_len-len.ensures

pub returns : goal.returns
returns c =
    rw (text_there c.args.image.now c.args.field c.room.result c.text_len-len.result c.room.ensures c.text_len-len.ensures) at c.put.ensures
