-- `fields_read::bytes_at` meets its contract: byte after byte those of the slice, counted from the place. Assumes nothing.
use mathlib.Core.Path.{◌≡◌, refl, sym, ap, ◌∙◌}
use mathlib.Core.List.{List}
use Prim.Native.Nat.{ℕ, ◌+◌, ◌-◌, ◌<◌}
use native.Mathlib.Nat.{add-zero, zero-add}
use native.Mathlib.Omega.{arith}
use lib.ListN.{get_or, take, drop}
use Rattle.std.proofs.Common.{rules, get_or-take}
use Rattle.fields_rules.specs.Number.{number_at}
use Rattle.fields_rules.proofs.Laws.{number_same, number_drop}
use Rattle.fields_read.proofs.Calls.{each_call}
use Rattle.fields_read.proofs.bytes_at.Goals as goal

-- what is left from a place on has the place's number at its start
at_start : (s left : List ℕ) (at w : ℕ) → left ≡ drop at s → number_at left 0 w ≡ number_at s at w
at_start s left at w e = ap (λ (xs : List ℕ). number_at xs 0 w) e ∙ sym (number_drop s at 0 w) ∙ rw add-zero

pub returns-in-Some : goal.returns-in-Some
returns-in-Some g c =
    let left = drop c.args.at c.args.s.now in
    let n = c.args.at + g.row.N - c.args.at in
    number_same c.in-Some.chunk.now left 0 0 g.row.N
    (λ i l. let within : i < n = omega (arith, l) in
    rw zero-add (ap (λ (xs : List ℕ). get_or xs i 0) c.in-Some.ensures.cases.same ∙ get_or-take g.row.N (take n left) i 0 l ∙ get_or-take n left i 0 within))
    ∙ at_start c.args.s.now left c.args.at g.row.N refl

pub returns : goal.returns
returns g c =
    number_same c.from_fn.result c.rest-left.result.now 0 0 g.row.N
    (each_call _ _ (λ (i : ℕ). get_or c.rest-left.result.now i 0) (λ i y q k. (search (rules, k.met), search (rules, k.met)))
    c.from_fn.result 0 g.row.N c.from_fn.ensures.items.each)
    ∙ at_start c.args.s.now c.rest-left.result.now c.args.at g.row.N c.rest-left.ensures
