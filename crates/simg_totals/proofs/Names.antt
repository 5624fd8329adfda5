-- The name of a file is text.
-- Assumes nothing.
use Rattle.std.proofs.Common.{◌≡◌, refl, ℕ, zero, suc, ◌/◌, ◌≤◌, Bool, true, false, cond, ltb, List, [], ◌∷◌, length, take, arith}
use Rattle.std.proofs.Math.Seq.{take-append_seam}
use Rattle.std.specs.Prelude.{Result, Ok, Err}
use Rattle.std.specs.Str.{IsAscii, IsUtf8}
use Rattle.std.specs.Result.{IsOk, MatchResult}
use Rattle.std.proofs.lemmas.Str.{IsUtf8-from_ascii, IsAscii-append}
use Rattle.std.proofs.lemmas.Str.Ascii.{IsAscii-nil, IsAscii-push}
use Rattle.std.proofs.lemmas.List.{take_all}
use Rattle.text_rules.specs.Words.{ascii, digits_up_to, decimal}
use Rattle.text_rules.specs.Put.{Put}
use Rattle.text_rules.proofs.Putting.{put_start}
use Rattle.report_rules.specs.Folder.{file_name}
use Rattle.report_rules.proofs.Folders.{name_fits}

-- a number's digits are ASCII
digits_ascii : (k n : ℕ) → IsAscii (digits_up_to k n)
unfolding digits_up_to
digits_ascii zero n = IsAscii-nil
digits_ascii (suc k) n = IsAscii-push _ _ (front (ltb n 10) (digits_ascii k (n / 10))) (omega arith)
  where
    front : (x : Bool) → IsAscii (digits_up_to k (n / 10)) → IsAscii (cond x [] (digits_up_to k (n / 10)))
    front true h = IsAscii-nil
    front false h = h

-- and so is a file's name
name_ascii : (n : ℕ) → IsAscii (file_name n)
unfolding file_name decimal
name_ascii n =
    let end : IsAscii (ascii ".img") = IsAscii-push (46 ∷ 105 ∷ 109 ∷ []) 103 (IsAscii-push (46 ∷ 105 ∷ []) 109 (IsAscii-push (46 ∷ []) 105 (IsAscii-push [] 46 IsAscii-nil (omega arith)) (omega arith)) (omega arith)) (omega arith) in
    IsAscii-append (digits_up_to 20 n) (ascii ".img") (digits_ascii 20 n) end

-- a name that has been put from the start on is text where it stands
pub name_text : (n : ℕ) {a b : List ℕ} {k : ℕ} → length a ≡ 24 → Put a 0 (file_name n) b k → IsUtf8 (take k b)
name_text n {a} {b} {k} e p =
    let fits : k ≤ 24 = name_fits n p in
    let s = put_start (omega (arith, p.past)) p in
    let whole : take (length a) (file_name n) ≡ file_name n = take_all _ _ (omega (arith, s.0)) in
    rw (s.1, whole, s.0, take-append_seam) (IsUtf8-from_ascii (file_name n) (name_ascii n))

-- so it is read as text
pub text_read : {T E : Type 0} {s : List ℕ} (r : Result T E) (P : T → Type 0) (Q : E → Type 0) → IsUtf8 s → MatchResult r P (λ e. ¬ (IsUtf8 s) × Q e) → IsOk r
text_read (Ok x) P Q u m = refl
text_read (Err e) P Q u m = absurd (m.0 u)
