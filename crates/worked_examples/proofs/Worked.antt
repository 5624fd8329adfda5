-- The worked examples P1 to P14, those of requests 4 to 7 and 10 to 13, and the lister's texts, computed together: every call of the table gives back what its row says.
-- Assumes nothing.
use mathlib.Core.Path.{refl}
use mathlib.Core.List.{flatten}
use lib.Count.{ones, ones_in}
use Rattle.fields_rules.specs.Number.{number_at, packed}
use Rattle.crc32_rules.specs.Crc.{bit, steps, byte_step, crc_from, crc32}
use Rattle.slot_rules.specs.OneSlot.{count_of}
use Rattle.slot_rules.specs.Records.{slots_valid, startable_in, valid}
use Rattle.slot_rules.specs.Operations.{first_from, start_of, startable_of}
use Rattle.boot_rules.specs.Sections.{starts_of, sections_of}
use Rattle.boot_rules.specs.Table.{row_of}
use Rattle.boot_rules.specs.Tests as boot
use Rattle.boot_launch_rules.specs.Rules.{rule_of}
use Rattle.boot_launch_rules.specs.Tests as launch
use Rattle.boot_launch_rules.specs.Text as releases
use Rattle.starter_rules.specs.Line.{up_to_zero, text_in, image_line, suffix, mode, line, begins, asks_recovery}
use Rattle.starter_rules.specs.Starter as starter
use Rattle.sparse_rules.specs.Header.{header_tests}
use Rattle.sparse_rules.specs.Chunks.{kind_of, size_right, chunk_tests, chunk_at, reading}
use Rattle.sparse_rules.specs.Walk.{end_tests, walk}
use Rattle.sparse_rules.specs.Cells.{cells_by, cells_of, cells, zeroed, checksum_of}
use Rattle.sparse_rules.specs.Counts.{blocks_where}
use Rattle.sparse_rules.specs.Judge.{sum_tests, summed, structure, judged, effect_of, effect}
use Rattle.sparse_rules.specs.Answers as judge
use Rattle.sparse_store_rules.specs.Store.{store}
use Rattle.sparse_write_rules.specs.Blocks.{block_cells, blocks_from, flat_blocks}
use Rattle.sparse_write_rules.specs.Runs.{runs}
use Rattle.sparse_write_rules.specs.Kinds.{all_equal, stored_kind}
use Rattle.sparse_write_rules.specs.Encode.{chunk_header, chunk, chunks, version, header, image, encode}
use Rattle.sparse_write_rules.specs.Write as write
use Rattle.sparse_blocks_rules.specs.Blocks.{block_from, stretch, blocks_of, blocks_found, found, blocks}
use Rattle.sparse_blocks_rules.specs.Same.{alike}
use Rattle.sparse_blocks_rules.specs.Pairs.{each, pair_answer, refused_image}
use Rattle.sparse_diff_rules.specs.Diff as diff
use Rattle.sparse_join_rules.specs.Join as join
use Rattle.text_rules.specs.Words.{digits_up_to, decimal, labelled}
use Rattle.sparse_list_rules.specs.Lines.{refused_line, header_line, kind_word, chunk_line, last_line}
use Rattle.sparse_list_rules.specs.Listing.{chunk_lines, listing_of, listing}
use Rattle.report_rules.specs.Images.{answer_to, accepted_by, blocks_by, skipped_by, refused_by, bytes_by, extent_by}
use Rattle.report_rules.specs.Reports as report
use Rattle.report_rules.specs.Text as totals
use Rattle.report_rules.specs.Folder as folder
use Rattle.worked_examples.specs.Calls.{perform}
use Rattle.worked_examples.specs.Table.{Worked}

pub worked : Worked
unfolding perform number_at ones ones_in bit steps byte_step crc_from crc32 count_of slots_valid startable_in valid first_from start_of startable_of starts_of sections_of row_of boot.head_tests boot.section_tests boot.answer rule_of launch.launch_tests launch.answer flatten releases.pair_line releases.taken_line releases.refused_line releases.text_of releases.text up_to_zero text_in image_line suffix mode line begins asks_recovery starter.begun starter.booted starter.after_start starter.starter header_tests kind_of size_right chunk_tests chunk_at reading end_tests walk cells_by cells_of cells zeroed checksum_of blocks_where sum_tests summed structure judged effect_of effect judge.answer_for judge.answer store block_cells blocks_from flat_blocks runs all_equal stored_kind packed chunk_header chunk chunks version header image encode write.flat_image write.write_tests write.answer write.output block_from stretch blocks_of blocks_found found blocks alike each pair_answer refused_image diff.changes diff.diff diff.numbers diff.answer diff.listed join.joined_blocks join.join join.answer join.output listing listing_of labelled refused_line header_line chunk_line chunk_lines last_line digits_up_to decimal kind_word answer_to accepted_by blocks_by skipped_by refused_by bytes_by extent_by report.total report.greatest report.report_of report.sum report.all_small report.fits report.added report.counted totals.total_lines totals.refused_line totals.refused_lines totals.text folder.taken folder.printed
worked = refl
