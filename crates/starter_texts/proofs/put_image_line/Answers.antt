-- `starter_texts::put_image_line` meets its contract. Assumes nothing.
use Rattle.text.proofs.Growing.{puts_then}
use Rattle.starter_rules.proofs.Lines.{image-line}
use Rattle.starter_texts.proofs.put_image_line.Goals as goal

pub returns : goal.returns
returns c =
    rw (image-line c.args.image.now c.cmdline_in.result c.extra_in.result c.cmdline_in.ensures c.extra_in.ensures) at (puts_then c.put_field.ensures c.put_field-2.ensures)
