-- A set of lines, as a function from a line's number to whether the line is in.
use Rattle.std.specs.Prelude.{ℕ, ◌/◌, ◌%◌, ◌^◌, Bool, false, cond, not, ◌&&◌, ◌||◌, Some, None, Option, ◌==◌, nat_lt}

-- no line
abbrev pub none : ℕ → Bool
none k = false

-- the lines of either set
abbrev pub joined : (ℕ → Bool) → (ℕ → Bool) → ℕ → Bool
joined a b k = a k || b k

-- one line more
abbrev pub with_line : (ℕ → Bool) → ℕ → ℕ → Bool
with_line a line k = a k || k == line

-- one line less
abbrev pub without : (ℕ → Bool) → ℕ → ℕ → Bool
without a line k = a k && not (k == line)

-- whether bit k of a number is 1
unfoldable pub bit : ℕ → ℕ → Bool
bit n k = n / 2 ^ k % 2 == 1

-- the lines whose bit of the mask is 0; line 0, NMI, has no mask
abbrev pub unmasked_by : ℕ → (ℕ → Bool) → ℕ → Bool
unmasked_by masks a k = a k && not (bit masks k && nat_lt 0 k)

-- the highest level with a line: line 0, then the pairs 1-2, 3-4, 5-6, 7-8 and 9-10
abbrev pub level_of : (ℕ → Bool) → Option ℕ
level_of a =
    cond (a 0) (Some 0) (cond (a 1 || a 2) (Some 1) (cond (a 3 || a 4) (Some 2)
    (cond (a 5 || a 6) (Some 3) (cond (a 7 || a 8) (Some 4) (cond (a 9 || a 10) (Some 5) None)))))
