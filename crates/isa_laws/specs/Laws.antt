-- What the codes obey as a whole.
use Rattle.std.specs.Prelude.{◌≡◌, ℕ, zero, suc, ◌+◌, ◌<◌, Bool, true, false, cond, ◌&&◌, ◌||◌, Some, None, Ok, Err, Option, ◌==◌}
use Rattle.isa.specs.Decoding.{Decoded, decoded}
use Rattle.isa.specs.Encoding.{encoded}
use Rattle.isa.specs.declared.decoding.Undefined.TheVariants.{First, Second}
use Rattle.isa.specs.declared.encoding.Opcode.{Opcode}
use Rattle.isa.specs.declared.encoding.Opcode.TheVariants.{One, Two}
use Rattle.isa.specs.declared.instructions.Instruction.{Instruction}

-- the first bytes behind which the second byte is part of the opcode
abbrev pub prefix : ℕ → Bool
prefix first =
    (first == 0x48) || (first == 0x4c || (first == 0x4d || (first == 0x60 || (first == 0x64 || (first == 0x70 || first == 0x74)))))

-- behind any other first byte the second byte does not matter
abbrev pub Alone : Type 0
Alone = (first a b : ℕ) → first < 256 → prefix first ≡ false → decoded first a ≡ decoded first b

-- an undefined code is undefined by its first byte alone exactly if that is no prefix
abbrev pub Deciding : Type 0
Deciding =
    (first second : ℕ) → first < 256 → second < 256
    → (decoded first second ≡ Err First → prefix first ≡ false) × (decoded first second ≡ Err Second → prefix first ≡ true)

abbrev pub one_if_defined : Decoded → ℕ
one_if_defined (Ok _) = 1
one_if_defined (Err _) = 0

abbrev pub sum_below : (ℕ → ℕ) → ℕ → ℕ
sum_below f zero = 0
sum_below f (suc n) = f n + sum_below f n

-- how many codes are defined: first bytes alone, and second bytes behind the prefixes
unfoldable pub counted : ℕ
counted =
    sum_below (λ first. cond (prefix first) (sum_below (λ second. one_if_defined (decoded first second)) 256) (one_if_defined (decoded first 0))) 256

-- whether two bytes begin with an opcode
abbrev pub begins : Option Opcode → ℕ → ℕ → Bool
begins None first second = false
begins (Some (One a)) first second = a == first
begins (Some (Two a b)) first second = a == first && b == second

-- a code decodes to an instruction exactly if that instruction encodes to it
abbrev pub Inverse : Type 0
Inverse =
    (first second : ℕ) → first < 256 → second < 256 → (i : Instruction)
    → (begins (encoded i) first second ≡ true → decoded first second ≡ Ok i) × (decoded first second ≡ Ok i → begins (encoded i) first second ≡ true)
