-- `report_folder::put_name` meets its contract.
-- Assumes nothing.
use Rattle.std.proofs.Common.{rules}
use Rattle.text.proofs.Growing.{puts_then, put_whole}
use Rattle.report_rules.specs.Folder.{file_name}
use Rattle.report_folder.proofs.put_name.Goals as goal

pub returns : goal.returns
unfolding file_name
returns c =
    let whole = put_whole c.at-name.ensures (puts_then c.put_number.ensures c.put.ensures) in
    search rules
