-- `sparse_match::matched` meets its contract.
-- Assumes nothing.
use mathlib.Core.Path.{sym, ap, ◌∙◌}
use mathlib.Core.List.{[]}
use Rattle.std.proofs.lemmas.Result.{err_from_is_err_and}
use Rattle.sparse_rules.specs.Answers as judge
use Rattle.sparse_blocks_rules.specs.declared.PairRefusal.TheVariants.{First, Second}
use Rattle.sparse_blocks_rules.specs.Pairs.{Accepted}
use Rattle.sparse_blocks_rules.proofs.Pairing.{refuses, accepts, matches, refuse_first, refuse_second, refuse_17, pair_passed}
use Rattle.sparse_match.proofs.Mapped.{refused_first, accepted_so}
use Rattle.sparse_match.proofs.matched.Goals as goal
use Rattle.sparse_match.proofs.matched.Goals.{In_ok-map_err, In_ok-map_err-2}

-- the first image is accepted
one : (c : In_ok-map_err) → Accepted c.args.first.now
one c =
    let e = accepted_so First c.judged.result c.map_err.result c.in_ok-map_err.field-0 c.map_err.ensures.cases c.in_ok-map_err.was in
    accepts c.args.first.now (sym (ap judge.answer_of e.1) ∙ c.judged.ensures)

-- and so is the second
other : (c : In_ok-map_err-2) → Accepted c.args.second.now
other c =
    let e = accepted_so Second c.judged-2.result c.map_err-2.result c.in_ok-map_err-2.field-0 c.map_err-2.ensures.cases c.in_ok-map_err-2.was in
    accepts c.args.second.now (sym (ap judge.answer_of e.1) ∙ c.judged-2.ensures)

pub returns-in_err-map_err : goal.returns-in_err-map_err
returns-in_err-map_err c =
    let p = err_from_is_err_and c.from_residual.result c.from_residual.ensures.1 in
    let m = refused_first First c.judged.result c.map_err.result c.in_err-map_err.field-0.0 c.map_err.ensures.cases c.in_err-map_err.was in
    let r = refuse_first c.args.first.now c.args.second.now [] 0 (refuses c.args.first.now (sym (ap judge.answer_of m.1) ∙ c.judged.ensures)) in
    record { answer = rw (p.1, p.2, m.2) (sym r.0); image = rw (p.1, p.2, m.2) (sym r.1) }

pub returns-in_err-map_err-2 : goal.returns-in_err-map_err-2
returns-in_err-map_err-2 c =
    let p = err_from_is_err_and c.from_residual-in_err-map_err-2.result c.from_residual-in_err-map_err-2.ensures.1 in
    let m = refused_first Second c.judged-2.result c.map_err-2.result c.in_err-map_err-2.field-0.0 c.map_err-2.ensures.cases c.in_err-map_err-2.was in
    let a = one (goal.at.returns-in_err-map_err-2 c).In_ok-map_err in
    let r = refuse_second c.args.first.now c.args.second.now [] 0 a (refuses c.args.second.now (sym (ap judge.answer_of m.1) ∙ c.judged-2.ensures)) in
    record { answer = rw (p.1, p.2, m.2) (sym r.0); image = rw (p.1, p.2, m.2) (sym r.1) }

pub returns-then-same_geometry : goal.returns-then-same_geometry
returns-then-same_geometry c =
    let at = goal.at.returns-then-same_geometry c in
    let r = pair_passed c.args.first.now c.args.second.now [] 0 (matches c.args.first.now c.args.second.now (one at.In_ok-map_err) (other at.In_ok-map_err-2) (sym c.same_geometry.ensures ∙ c.if-same_geometry.true)) in
    record { answer = sym r.0; image = sym r.1 }

pub returns : goal.returns
returns c =
    let at = goal.at.returns c in
    let r = refuse_17 c.args.first.now c.args.second.now [] 0 (one at.In_ok-map_err) (other at.In_ok-map_err-2) (sym c.same_geometry.ensures ∙ c.if-same_geometry.false) in
    record { answer = sym r.0; image = sym r.1 }
