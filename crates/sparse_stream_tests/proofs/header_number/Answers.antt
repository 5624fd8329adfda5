-- `sparse_stream_tests::header_number` meets its contract. Assumes nothing.
use mathlib.Core.Path.{sym, ◌∙◌}
use Rattle.sparse_rules.proofs.Refusals.{sizes_is, block_is, bytes_are}
use Rattle.sparse_stream_rules.proofs.StateLaws.{number_short, number_none, number_magic, number_six, number_major, number_twelve, number_sizes, number_sixteen, number_block, number_twenty, number_last}
use Rattle.sparse_stream_tests.proofs.header_number.Goals as goal

pub returns-then-len-lt28 : goal.returns-then-len-lt28
returns-then-len-lt28 c =
    number_short c.args.file.now c.args.came c.args.len c.args.room c.if-len-lt28.true

pub returns-then-came-lt4 : goal.returns-then-came-lt4
returns-then-came-lt4 c =
    number_none c.args.file.now c.args.came c.args.len c.args.room c.if-len-lt28.false c.if-came-lt4.true

pub returns-then-read32-ne3978755898 : goal.returns-then-read32-ne3978755898
returns-then-read32-ne3978755898 c =
    number_magic c.args.file.now c.args.came c.args.len c.args.room c.if-len-lt28.false c.if-came-lt4.false
    (λ e. c.if-read32-ne3978755898.true (c.read32.ensures ∙ e))

pub returns-then-came-lt6 : goal.returns-then-came-lt6
returns-then-came-lt6 c =
    number_six c.args.file.now c.args.came c.args.len c.args.room c.if-len-lt28.false c.if-came-lt4.false
    (sym c.read32.ensures ∙ c.if-read32-ne3978755898.false) c.if-came-lt6.true

pub returns-then-read16-ne1 : goal.returns-then-read16-ne1
returns-then-read16-ne1 c =
    number_major c.args.file.now c.args.came c.args.len c.args.room c.if-len-lt28.false c.if-came-lt4.false (sym c.read32.ensures ∙ c.if-read32-ne3978755898.false)
    c.if-came-lt6.false (λ e. c.if-read16-ne1.true (c.read16.ensures ∙ e))

pub returns-then-came-lt12 : goal.returns-then-came-lt12
returns-then-came-lt12 c =
    number_twelve c.args.file.now c.args.came c.args.len c.args.room c.if-len-lt28.false c.if-came-lt4.false
    (sym c.read32.ensures ∙ c.if-read32-ne3978755898.false) c.if-came-lt6.false (sym c.read16.ensures ∙ c.if-read16-ne1.false)
    c.if-came-lt12.true

pub returns-then-came-lt16 : goal.returns-then-came-lt16
returns-then-came-lt16 c =
    number_sixteen c.args.file.now c.args.came c.args.len c.args.room c.if-len-lt28.false c.if-came-lt4.false
    (sym c.read32.ensures ∙ c.if-read32-ne3978755898.false) c.if-came-lt6.false (sym c.read16.ensures ∙ c.if-read16-ne1.false) c.if-came-lt12.false
    (sizes_is c.args.file.now c.args.len c.read_header-header.result c.read_header-header.ensures c.sizes_right.ensures c.if-sizes_right.true)
    c.if-came-lt16.true

pub returns-then-came-lt20 : goal.returns-then-came-lt20
returns-then-came-lt20 c =
    number_twenty c.args.file.now c.args.came c.args.len c.args.room c.if-len-lt28.false c.if-came-lt4.false
    (sym c.read32.ensures ∙ c.if-read32-ne3978755898.false) c.if-came-lt6.false (sym c.read16.ensures ∙ c.if-read16-ne1.false) c.if-came-lt12.false
    (sizes_is c.args.file.now c.args.len c.read_header-header.result c.read_header-header.ensures c.sizes_right.ensures c.if-sizes_right.true)
    c.if-came-lt16.false
    (block_is c.args.file.now c.read_header-header.result c.read_header-header.ensures c.block_right.ensures c.if-block_right.true)
    c.if-came-lt20.true

pub returns-then-block_right : goal.returns-then-block_right
returns-then-block_right c =
    c.number_if.ensures
    ∙ rw (bytes_are c.args.file.now c.read_header-header.result c.read_header-header.ensures c.bytes_of.ensures)
    (sym
    (number_last c.args.file.now c.args.came c.args.len c.args.room c.if-len-lt28.false c.if-came-lt4.false (sym c.read32.ensures ∙ c.if-read32-ne3978755898.false)
    c.if-came-lt6.false (sym c.read16.ensures ∙ c.if-read16-ne1.false) c.if-came-lt12.false
    (sizes_is c.args.file.now c.args.len c.read_header-header.result c.read_header-header.ensures c.sizes_right.ensures c.if-sizes_right.true)
    c.if-came-lt16.false
    (block_is c.args.file.now c.read_header-header.result c.read_header-header.ensures c.block_right.ensures c.if-block_right.true)
    c.if-came-lt20.false))

pub returns-then-sizes_right : goal.returns-then-sizes_right
returns-then-sizes_right c =
    number_block c.args.file.now c.args.came c.args.len c.args.room c.if-len-lt28.false c.if-came-lt4.false (sym c.read32.ensures ∙ c.if-read32-ne3978755898.false)
    c.if-came-lt6.false (sym c.read16.ensures ∙ c.if-read16-ne1.false) c.if-came-lt12.false
    (sizes_is c.args.file.now c.args.len c.read_header-header.result c.read_header-header.ensures c.sizes_right.ensures c.if-sizes_right.true)
    c.if-came-lt16.false
    (block_is c.args.file.now c.read_header-header.result c.read_header-header.ensures c.block_right.ensures c.if-block_right.false)

pub returns : goal.returns
returns c =
    number_sizes c.args.file.now c.args.came c.args.len c.args.room c.if-len-lt28.false c.if-came-lt4.false (sym c.read32.ensures ∙ c.if-read32-ne3978755898.false)
    c.if-came-lt6.false (sym c.read16.ensures ∙ c.if-read16-ne1.false) c.if-came-lt12.false
    (sizes_is c.args.file.now c.args.len c.read_header-header.result c.read_header-header.ensures c.sizes_right.ensures c.if-sizes_right.false)
