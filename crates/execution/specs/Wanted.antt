-- Tests that ask for a bit or for its opposite.
use Rattle.std.specs.Prelude.{Bool, true, false, not}

-- the bit itself where 1 is wanted, and its opposite where 0 is
abbrev pub as_wanted : Bool → Bool → Bool
as_wanted true x = x
as_wanted false x = not x
