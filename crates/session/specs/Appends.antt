-- What writing to a listing means.
use Rattle.std.specs.Prelude.{◌≡◌, ℕ, ◌+◌, ◌≤◌, List, length}
use Rattle.session.specs.declared.listing.Listing.{Listing}
use Rattle.session.specs.Text.{Puts}

-- a listing has room for some more bytes
abbrev pub Room : Listing → ℕ → Type 0
Room l n = l.at + n ≤ length l.buffer.now

-- a text was put behind what a listing held, in the same buffer
pub record Appends (before : Listing) (text : List ℕ) (after : Listing) : Type 0 where
  pub same : after.buffer.ghost_name ≡ before.buffer.ghost_name
  pub puts : Puts before.buffer.now before.at text after.buffer.now after.at
