-- The lines of a listing.
use Rattle.std.specs.Prelude.{ℕ, List, ◌++◌, codes, decimal}
use Rattle.registers.specs.declared.bank.Bank.{Bank}
use Rattle.registers.specs.declared.file.Registers.{Registers}
use Rattle.registers.specs.Psw.{psw}
use Rattle.session.specs.Text.{hex2, hex4}

-- PC 0003 SP 0000 EA 0000 PSW 00
abbrev pub pointer_line : Registers → List ℕ
pointer_line r =
    codes "PC " ++ hex4 r.pc ++ (codes " SP " ++ hex4 r.sp) ++ (codes " EA " ++ hex4 r.ea) ++ (codes " PSW " ++ hex2 (psw r.flags)) ++ codes "\n"

-- V 00 A 00 B 00 C 00 D 00 E 00 H 00 L 00
abbrev pub bank_line : Bank → List ℕ
bank_line k =
    codes "V " ++ hex2 k.v ++ (codes " A " ++ hex2 k.a) ++ (codes " B " ++ hex2 k.b) ++ (codes " C " ++ hex2 k.c)
    ++ (codes " D " ++ hex2 k.d) ++ (codes " E " ++ hex2 k.e) ++ (codes " H " ++ hex2 k.h) ++ (codes " L " ++ hex2 k.l) ++ codes "\n"

-- M and the meter in decimal: granted, ahead, spent, forfeited
abbrev pub meter_line : ℕ → ℕ → ℕ → ℕ → List ℕ
meter_line granted ahead spent forfeited =
    codes "M " ++ decimal granted ++ (codes " " ++ decimal ahead) ++ (codes " " ++ decimal spent) ++ (codes " " ++ decimal forfeited) ++ codes "\n"

-- the sheet of a core that has not run: its meter is zero
abbrev pub sheet : Registers → List ℕ
sheet r = pointer_line r ++ bank_line r.main ++ meter_line 0 0 0 0

-- F and, in decimal, the fault's number, its record and the offset of that record's kind byte
abbrev pub fault_line : ℕ → ℕ → ℕ → List ℕ
fault_line number record_number offset = codes "F " ++ decimal number ++ (codes " " ++ decimal record_number) ++ (codes " " ++ decimal offset) ++ codes "\n"
