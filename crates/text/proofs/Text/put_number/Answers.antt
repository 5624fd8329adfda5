-- The digits that `io::decimal` gives are the number's.
use Rattle.std.proofs.Common.{arith}
use Rattle.text.proofs.Digits.{number_put}
use Rattle.text.proofs.Text.put_number.Goals as goal

pub returns : goal.returns
returns c = record { same = c.put.ensures.same; put = number_put c.decimal-k.new.out c.decimal-k.result c.args.n (omega arith) c.put.ensures.put c.decimal-k.ensures.len c.decimal-k.ensures.digits }
