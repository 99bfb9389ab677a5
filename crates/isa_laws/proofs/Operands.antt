-- Two functions of an operand agree if they agree at each code, which antt computes.
use Rattle.std.proofs.Common.{◌≡◌, ℕ, ◌<◌, sym, ap, ◌∙◌, arith, rules}
use Rattle.alu.specs.Naming.{operation_code}
use Rattle.alu.specs.declared.operation.Operation.{Operation}
use Rattle.lines.specs.Numbers.{number_of}
use Rattle.lines.specs.declared.line.Line.{Line}
use Rattle.registers.specs.declared.bank.ByteRegister.{ByteRegister}
use Rattle.isa.specs.declared.operands.R1.{R1}
use Rattle.isa.specs.declared.operands.R2.{R2}
use Rattle.isa.specs.declared.operands.Rp.{Rp}
use Rattle.isa.specs.declared.operands.Rp1.{Rp1}
use Rattle.isa.specs.declared.operands.Rp2.{Rp2}
use Rattle.isa.specs.declared.operands.Rp3.{Rp3}
use Rattle.isa.specs.declared.operands.Rpa2.{Rpa2}
use Rattle.isa.specs.declared.operands.Rpa3.{Rpa3}
use Rattle.isa.specs.declared.operands.Flag.{Flag}
use Rattle.isa.specs.Codes.{register_at, r1_at, r2_at, rp_at, rp1_at, rp2_at, rp3_at, rpa2_at, rpa3_at, flag_at, operation_at, line_coded, register_code, r1_code, r2_code, rp_code, rp1_code, rp2_code, rp3_code, rpa2_code, rpa3_code, flag_code}
use Rattle.isa.specs.Again.{register_again, r1_again, r2_again, rp_again, rp1_again, rp2_again, rp3_again, rpa2_again, rpa3_again, flag_again, operation_again, line_again}
use Rattle.isa.proofs.Rows.{row, agree}

module _ {X : Type 0} {Y : Type 0} (at : ℕ → Y) (code : Y → ℕ) (m : ℕ) (again : (y : Y) → at (code y) ≡ y) (low : (y : Y) → code y < m) where
  pub at_codes : (f g : Y → X) → row (λ n. f (at n)) 0 m ≡ row (λ n. g (at n)) 0 m → (y : Y) → f y ≡ g y
  at_codes f g e y =
      let l = low y in
      sym (ap f (again y)) ∙ agree (λ n. f (at n)) (λ n. g (at n)) 0 m e (code y) (omega arith) (omega arith) ∙ ap g (again y)

pub by_register : {X : Type 0} (f g : ByteRegister → X) → row (λ n. f (register_at n)) 0 8 ≡ row (λ n. g (register_at n)) 0 8 → (y : ByteRegister) → f y ≡ g y
by_register f g = at_codes register_at register_code 8 register_again (search rules) f g

pub by_r1 : {X : Type 0} (f g : R1 → X) → row (λ n. f (r1_at n)) 0 8 ≡ row (λ n. g (r1_at n)) 0 8 → (y : R1) → f y ≡ g y
by_r1 f g = at_codes r1_at r1_code 8 r1_again (search rules) f g

pub by_r2 : {X : Type 0} (f g : R2 → X) → row (λ n. f (r2_at n)) 0 4 ≡ row (λ n. g (r2_at n)) 0 4 → (y : R2) → f y ≡ g y
by_r2 f g = at_codes r2_at r2_code 4 r2_again (search rules) f g

pub by_rp : {X : Type 0} (f g : Rp → X) → row (λ n. f (rp_at n)) 0 4 ≡ row (λ n. g (rp_at n)) 0 4 → (y : Rp) → f y ≡ g y
by_rp f g = at_codes rp_at rp_code 4 rp_again (search rules) f g

pub by_rp1 : {X : Type 0} (f g : Rp1 → X) → row (λ n. f (rp1_at n)) 0 8 ≡ row (λ n. g (rp1_at n)) 0 8 → (y : Rp1) → f y ≡ g y
by_rp1 f g = at_codes rp1_at rp1_code 8 rp1_again (search rules) f g

pub by_rp2 : {X : Type 0} (f g : Rp2 → X) → row (λ n. f (rp2_at n)) 0 8 ≡ row (λ n. g (rp2_at n)) 0 8 → (y : Rp2) → f y ≡ g y
by_rp2 f g = at_codes rp2_at rp2_code 8 rp2_again (search rules) f g

pub by_rp3 : {X : Type 0} (f g : Rp3 → X) → row (λ n. f (rp3_at n)) 0 4 ≡ row (λ n. g (rp3_at n)) 0 4 → (y : Rp3) → f y ≡ g y
by_rp3 f g = at_codes rp3_at rp3_code 4 rp3_again (search rules) f g

pub by_rpa2 : {X : Type 0} (f g : Rpa2 → X) → row (λ n. f (rpa2_at n)) 0 16 ≡ row (λ n. g (rpa2_at n)) 0 16 → (y : Rpa2) → f y ≡ g y
by_rpa2 f g = at_codes rpa2_at rpa2_code 16 rpa2_again (search rules) f g

pub by_rpa3 : {X : Type 0} (f g : Rpa3 → X) → row (λ n. f (rpa3_at n)) 0 16 ≡ row (λ n. g (rpa3_at n)) 0 16 → (y : Rpa3) → f y ≡ g y
by_rpa3 f g = at_codes rpa3_at rpa3_code 16 rpa3_again (search rules) f g

pub by_flag : {X : Type 0} (f g : Flag → X) → row (λ n. f (flag_at n)) 0 8 ≡ row (λ n. g (flag_at n)) 0 8 → (y : Flag) → f y ≡ g y
by_flag f g = at_codes flag_at flag_code 8 flag_again (search rules) f g

pub by_operation : {X : Type 0} (f g : Operation → X) → row (λ n. f (operation_at n)) 0 16 ≡ row (λ n. g (operation_at n)) 0 16 → (y : Operation) → f y ≡ g y
by_operation f g = at_codes operation_at operation_code 16 operation_again (search rules) f g

pub by_line : {X : Type 0} (f g : Line → X) → row (λ n. f (line_coded n)) 0 11 ≡ row (λ n. g (line_coded n)) 0 11 → (y : Line) → f y ≡ g y
by_line f g = at_codes line_coded number_of 11 line_again (search rules) f g
