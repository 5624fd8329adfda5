-- The text of an input in the buffer that is printed.
-- Assumes nothing.
use mathlib.Core.Path.{◌≡◌}
use mathlib.Core.List.{List}
use Prim.Native.Nat.{ℕ, ◌≤◌}
use native.Mathlib.Omega.{arith}
use lib.ListN.{length, take, drop}
use Rattle.std.proofs.Math.Seq.{take-append_seam}
use Rattle.std.proofs.lemmas.List.{take_all}
use Rattle.text_rules.specs.Put.{Put}
use Rattle.text_rules.proofs.Putting.{put_start}
use Rattle.boot_launch_rules.specs.Text.{text, most}
use Rattle.boot_launch_rules.proofs.Texts.{text_most}

-- a text that was put into a long buffer stands at its start
pub start_of : (s out b : List ℕ) (n : ℕ) → most ≤ length out → Put out 0 (text s) b n → take n b ≡ text s
start_of s out b n room p =
    let t = put_start (omega (arith, text_most s)) p in
    let all : take (length out) (text s) ≡ text s = take_all (length out) (text s) (omega (arith, text_most s, room)) in
    rw (t.1, t.0, all) (take-append_seam (text s) (drop (length (text s)) out))
