-- Text put into a lent buffer, and how numbers are written.
use Rattle.std.specs.Prelude.{◌≡◌, ℕ, ◌+◌, ◌/◌, ◌%◌, ◌≤◌, cond, List, [], ◌∷◌, ◌++◌, length, take, drop, nat_lt}

-- a text over a buffer's bytes from a position on
unfoldable pub over : List ℕ → ℕ → List ℕ → List ℕ
over old at text = take at old ++ text ++ drop (at + length text) old

-- a text was put at a position of a buffer, and `next` is the position behind it; all other bytes are as they were
pub record Puts (old : List ℕ) (at : ℕ) (text new : List ℕ) (next : ℕ) : Type 0 where
  pub after : new ≡ over old at text
  pub moves : next ≡ at + length text
  pub inside : next ≤ length old
  pub size : length new ≡ length old

-- an upper-case hexadecimal digit; a byte in two of them; a word in four
abbrev pub hex : ℕ → ℕ
hex d = cond (nat_lt d 10) (48 + d) (55 + d)

abbrev pub hex2 : ℕ → List ℕ
hex2 n = hex (n / 16) ∷ hex (n % 16) ∷ []

abbrev pub hex4 : ℕ → List ℕ
hex4 n = hex2 (n / 256) ++ hex2 (n % 256)
