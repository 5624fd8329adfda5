-- `sparse_header::checked_header` meets its contract: a law for each exit, and what the tests before it left.
-- Assumes nothing.
use mathlib.Core.List.{List}
use mathlib.Core.Bool.{Bool, ◌&&◌}
use mathlib.Core.Path.{◌≡◌, sym, ap, ◌∙◌}
use Rattle.rules.specs.Answer.{accepted}
use Prim.Native.Nat.{ℕ, ◌≤◌}
use lib.Dec.{leb}
use lib.ListN.{length}
use Rattle.sparse_rules.specs.Header.{magic, major, file_header_size, chunk_header_size, block_size, header_size_right, block_size_right}
use Rattle.sparse_rules.proofs.Refusals.{header_short, header_magic, header_major, header_sizes, header_block, header_room, header_passes, sizes_is, block_is, bytes_are}
use Rattle.sparse_header.proofs.checked_header.Goals as goal
use Rattle.sparse_header.proofs.checked_header.Goals.{After-block_right, After-read_header-header, After-sizes_right}

-- what the first three tests leave
record Read (s : List ℕ) : Type 0 where
  long : 28 ≤ length s
  magic : magic s ≡ 0xED26FF3A
  major : major s ≡ 1

read : (c : After-read_header-header) → Read c.args.image.now
read c =
    record {
      long = c.if-image-lt28.false;
      magic = sym c.read32.ensures ∙ c.if-read32-ne3978755898.false;
      major = sym c.read16.ensures ∙ c.if-read16-ne1.false;
    }

-- both header sizes that are tested are the image's
sized : (c : After-sizes_right) {x : Bool} → c.sizes_right.result ≡ x
    → (header_size_right 28 (file_header_size c.args.image.now) && header_size_right 12 (chunk_header_size c.args.image.now) && leb (file_header_size c.args.image.now) (length c.args.image.now)) ≡ x
sized c = sizes_is c.args.image.now (length c.args.image.now) c.read_header-header.result c.read_header-header.ensures c.sizes_right.ensures

-- and so is the block size
blocked : (c : After-block_right) {x : Bool} → c.block_right.result ≡ x → block_size_right (block_size c.args.image.now) ≡ x
blocked c = block_is c.args.image.now c.read_header-header.result c.read_header-header.ensures c.block_right.ensures

pub returns-then-image-lt28 : goal.returns-then-image-lt28
returns-then-image-lt28 c =
    rw (c.refusal.ensures, ← header_short c.args.image.now (length c.args.image.now) c.args.room c.if-image-lt28.true)

pub returns-then-read32-ne3978755898 : goal.returns-then-read32-ne3978755898
returns-then-read32-ne3978755898 c =
    rw (c.refusal-then-read32-ne3978755898.ensures, ← header_magic c.args.image.now (length c.args.image.now) c.args.room c.if-image-lt28.false (λ e. c.if-read32-ne3978755898.true (c.read32.ensures ∙ e)))

pub returns-then-read16-ne1 : goal.returns-then-read16-ne1
returns-then-read16-ne1 c =
    rw (
      c.refusal-then-read16-ne1.ensures,
      ← header_major c.args.image.now (length c.args.image.now) c.args.room c.if-image-lt28.false
          (sym c.read32.ensures ∙ c.if-read32-ne3978755898.false)
          (λ e. c.if-read16-ne1.true (c.read16.ensures ∙ e)),
    )

pub returns-then-not-sizes_right : goal.returns-then-not-sizes_right
returns-then-not-sizes_right c =
    let f = read (goal.at.returns-then-not-sizes_right c).After-read_header-header in
    rw (
      c.refusal-then-not-sizes_right.ensures,
      ← header_sizes c.args.image.now (length c.args.image.now) c.args.room f.long f.magic f.major
          (sized (goal.at.returns-then-not-sizes_right c).After-sizes_right c.if-not-sizes_right.true),
    )

pub returns-then-not-block_right : goal.returns-then-not-block_right
returns-then-not-block_right c =
    let f = read (goal.at.returns-then-not-block_right c).After-read_header-header in
    rw (
      c.refusal-then-not-block_right.ensures,
      ← header_block c.args.image.now (length c.args.image.now) c.args.room f.long f.magic f.major
          (sized (goal.at.returns-then-not-block_right c).After-sizes_right c.if-not-sizes_right.false)
          (blocked (goal.at.returns-then-not-block_right c).After-block_right c.if-not-block_right.true),
    )

pub returns-then-room-bytes_of : goal.returns-then-room-bytes_of
returns-then-room-bytes_of c =
    let f = read (goal.at.returns-then-room-bytes_of c).After-read_header-header in
    rw (
      c.refusal-then-room-bytes_of.ensures,
      ← header_room c.args.image.now (length c.args.image.now) c.args.room f.long f.magic f.major
          (sized (goal.at.returns-then-room-bytes_of c).After-sizes_right c.if-not-sizes_right.false)
          (blocked (goal.at.returns-then-room-bytes_of c).After-block_right c.if-not-block_right.false)
          (rw (bytes_are c.args.image.now c.read_header-header.result c.read_header-header.ensures c.bytes_of.ensures) at c.if-room-bytes_of.true),
    )

pub returns : goal.returns
returns c =
    let f = read (goal.at.returns c).After-read_header-header in
    rw (← header_passes c.args.image.now (length c.args.image.now) c.args.room f.long f.magic f.major
    (sized (goal.at.returns c).After-sizes_right c.if-not-sizes_right.false)
    (blocked (goal.at.returns c).After-block_right c.if-not-block_right.false)
    (rw (bytes_are c.args.image.now c.read_header-header.result c.read_header-header.ensures c.bytes_of.ensures) at c.if-room-bytes_of.false))
    (ap accepted c.read_header-header.ensures)
