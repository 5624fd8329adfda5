-- Texts that are put into a lent buffer, part after part.
-- Assumes nothing.
use Rattle.std.specs.Prelude.{◌≡◌, List, ℕ}
use Rattle.std.specs.Borrow.{MutBor}
use Rattle.text_rules.specs.Put.{Put}
use Rattle.text.specs.declared.Text.{Text}

-- a text that goes on in a buffer from a place
pub record At (out : MutBor (List ℕ)) (place : ℕ) (text : Text) : Type 0 where
  pub same : text.out ≡ out
  pub long : text.len ≡ place

-- bytes put after a text
pub record Puts (before : Text) (bytes : List ℕ) (after : Text) : Type 0 where
  -- in the same buffer
  pub same : after.out.ghost_name ≡ before.out.ghost_name
  -- each byte that has room is stored, and the text is longer by all of them
  pub put : Put before.out.now before.len bytes after.out.now after.len
