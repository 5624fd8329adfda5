-- `sparse_join::join` meets its contract.
-- Assumes nothing.
use mathlib.Core.Path.{◌≡◌, sym, ap, ◌∙◌}
use Prim.Native.Nat.{ℕ, ◌≤◌}
use native.Mathlib.Omega.{arith}
use lib.ListN.{length}
use lib.Bits.{bit_xor}
use Rattle.std.proofs.lemmas.Result.{err_from_is_err_and}
use Rattle.rules.specs.Answer.{accepted}
use Rattle.crc32_rules.specs.Crc.{all_ones}
use Rattle.sparse_blocks_rules.specs.Blocks.{needed}
use Rattle.sparse_blocks_rules.specs.Pairs.{Matched}
use Rattle.sparse_blocks_rules.proofs.Pairing.{found_matched, needed_is}
use Rattle.sparse_join_rules.specs.Join.{join}
use Rattle.sparse_join_rules.proofs.Answering.{answers_refusal, answers_large, answers_short, answers_joined}
use Rattle.sparse_join_rules.proofs.Joining.{join_put}
use Rattle.sparse_join.proofs.join.Goals as goal
use Rattle.sparse_join.proofs.join.Goals.{After-bytes_of, Else-bytes_of-gt2147483648}

-- the images match, and the product of the header's fields is the room that they need
pair : (c : After-bytes_of) → Matched c.args.first.now c.args.second.now
    × (c.bytes_of.result ≡ needed c.args.first.now)
pair c = (
  found_matched c.args.first.now c.args.second.now c.in_ok-matched.ensures.answer,
  c.bytes_of.ensures ∙ needed_is c.args.first.now c.read_header-header.ensures,
)

-- where it is not too large
small : (c : Else-bytes_of-gt2147483648) → needed c.args.first.now ≤ 2147483648
small c = omega (arith, c.bytes_of.ensures ∙ needed_is c.args.first.now c.read_header-header.ensures, c.if-bytes_of-gt2147483648.false)

pub returns-in_err-matched : goal.returns-in_err-matched
returns-in_err-matched c =
    let p = err_from_is_err_and c.from_residual.result c.from_residual.ensures.1 in
    let r = answers_refusal c.args.first.now c.args.second.now c.args.out.now c.in_err-matched.ensures.answer in
    record { answer = rw (p.1, p.2) r.0; image = rw (p.1, p.2) c.in_err-matched.ensures.image; contents = r.1 }

pub returns-then-bytes_of-gt2147483648 : goal.returns-then-bytes_of-gt2147483648
returns-then-bytes_of-gt2147483648 c =
    let r = answers_large c.args.first.now c.args.second.now c.args.out.now (pair (goal.at.returns-then-bytes_of-gt2147483648 c).After-bytes_of).0 (omega (arith, (pair (goal.at.returns-then-bytes_of-gt2147483648 c).After-bytes_of).1, c.if-bytes_of-gt2147483648.true)) in
    record { answer = r.0; image = r.1; contents = r.2 }

pub measure-m-requires : goal.measure-m-requires
measure-m-requires c = ((pair (goal.at.measure-m-requires c).After-bytes_of).0, small (goal.at.measure-m-requires c).Else-bytes_of-gt2147483648)

pub returns-then-out-m : goal.returns-then-out-m
returns-then-out-m c =
    let r = answers_short c.args.first.now c.args.second.now c.args.out.now (pair (goal.at.returns-then-out-m c).After-bytes_of).0 (small (goal.at.returns-then-out-m c).Else-bytes_of-gt2147483648) (omega (arith, c.measure-m.ensures.0, c.if-out-m.true)) in
    record { answer = r.0; image = r.1; contents = r.2 }

pub put_chunks-state-requires : goal.put_chunks-state-requires
put_chunks-state-requires c =
    ((pair (goal.at.put_chunks-state-requires c).After-bytes_of).0, small (goal.at.put_chunks-state-requires c).Else-bytes_of-gt2147483648, omega (arith, c.measure-m.ensures.0, c.if-out-m.false))

pub returns : goal.returns
returns c =
    let m = (pair (goal.at.returns c).After-bytes_of).0 in
    let fits : length (join c.args.first.now c.args.second.now) ≤ length c.args.out.now = omega (arith, c.measure-m.ensures.0, c.if-out-m.false) in
    let r = answers_joined c.args.first.now c.args.second.now c.args.out.now m (small (goal.at.returns c).Else-bytes_of-gt2147483648) fits in
    record {
      answer = ap accepted c.measure-m.ensures.0 ∙ r.0;
      image = r.1;
      contents =
          join_put m c.args.out.now fits c.measure-m.ensures.1 (c.finish-sum.ensures ∙ ap (λ (x : ℕ). bit_xor x all_ones) c.put_chunks-state.ensures.0)
          c.put_chunks-state.ensures.1 c.read_header-header.ensures c.put_header.ensures
          ∙ r.2;
    }
