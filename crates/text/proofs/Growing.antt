-- Texts that grow part by part.
-- Assumes nothing.
use mathlib.Core.Path.{refl, ◌∙◌}
use mathlib.Core.List.{List, [], ◌++◌}
use Prim.Native.Nat.{ℕ}
use native.Mathlib.Omega.{arith}
use Rattle.std.specs.Borrow.{MutBor}
use Rattle.text_rules.specs.Put.{Put}
use Rattle.text_rules.proofs.Putting.{put_nothing, put_then}
use Rattle.text.specs.declared.Text.{Text}
use Rattle.text.specs.Texts.{At, Puts}

-- nothing is put, and the text stays
pub puts_nothing : {a : Text} → Puts a [] a
puts_nothing {a} = record { same = refl; put = put_nothing (omega (arith, a.named.1)) }

-- one part after another
pub puts_then : {a b c : Text} {x y : List ℕ} → Puts a x b → Puts b y c → Puts a (x ++ y) c
puts_then {a} p q = record { same = q.same ∙ p.same; put = put_then (omega (arith, a.named.0)) p.put q.put }

-- what stands in the buffer, from the place where the text began
pub put_whole : {o : MutBor (List ℕ)} {at : ℕ} {a b : Text} {x : List ℕ} → At o at a → Puts a x b → Put o.now at x b.out.now b.len
put_whole s p = rw (s.same, s.long) at p.put
