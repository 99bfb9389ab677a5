-- The code that stands at an address.
use Rattle.std.specs.Prelude.{ℕ, true, List, ◌++◌, codes}
use Rattle.std.specs.Fmt.{digits}
use Rattle.board.specs.Cells.{Cells}
use Rattle.isa.specs.declared.decoding.Undefined.{Undefined}
use Rattle.isa.specs.declared.decoding.Undefined.TheVariants.{First, Second}
use Rattle.isa.specs.Decoding.{Decoded, decoded}
use Rattle.machine.specs.Words.{past}
use Rattle.machine.specs.Model.{Model}
use Rattle.cpu.specs.declared.codes.UndefinedCode.{UndefinedCode}

-- the instruction that stands at an address, or which byte makes it undefined
unfoldable pub code_at : Cells → ℕ → Decoded
code_at cells address = decoded (cells.at address) (cells.at (past address 1))

abbrev pub code_here : {S : Type 0} → Model S → Decoded
code_here m = code_at m.cells m.core.registers.pc

-- an undefined code: its address and two bytes, the second 0 if the first alone is undefined
abbrev pub undefined_at : Cells → ℕ → Undefined → UndefinedCode
undefined_at cells address First = record { address = address; first = cells.at address; second = 0 }
undefined_at cells address Second = record { address = address; first = cells.at address; second = cells.at (past address 1) }

-- what is said of an undefined code
abbrev pub undefined_text : UndefinedCode → List ℕ
undefined_text code =
    codes "the code " ++ (digits 16 true code.first ++ (codes "H " ++ (digits 16 true code.second
    ++ (codes "H at " ++ (digits 16 true code.address ++ codes "H is undefined")))))
