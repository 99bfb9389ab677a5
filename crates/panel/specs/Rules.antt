-- The rules of a kind of panel, over its standing, and what several states in a row come to.
use Rattle.std.specs.Prelude.{◌≡◌, ℕ, zero, suc, ◌%◌, ◌≤◌, min, Bool, false, ◌||◌}

pub record Rules (S : Type 0) : Type 0 where
  -- the byte that a code shows
  pub shown : S → ℕ → ℕ
  -- what a byte put to a code makes
  pub putting : S → ℕ → ℕ → S
  -- what one state makes, and which lines rise in it
  pub state : S → S
  pub rising : S → ℕ → Bool
  -- what a reset makes
  pub clearing : S → S

-- a special register's code is taken modulo 64
abbrev pub code_of : ℕ → ℕ
code_of code = code % 64

-- a pass is of 59 states at most
abbrev pub states_of : ℕ → ℕ
states_of states = min states 59

-- the standing after n states
unfoldable pub passed : {S : Type 0} → Rules S → S → ℕ → S
passed rules s zero = s
passed rules s (suc n) = rules.state (passed rules s n)

-- the lines that rise in any of n states
unfoldable pub rose : {S : Type 0} → Rules S → S → ℕ → ℕ → Bool
rose rules s zero line = false
rose rules s (suc n) line = rose rules s n line || rules.rising (passed rules s n) line

-- only the lines 0 to 10 rise
abbrev pub OnlyLines : {S : Type 0} → Rules S → Type 0
OnlyLines {S} rules = (s : S) (line : ℕ) → 11 ≤ line → rules.rising s line ≡ false
