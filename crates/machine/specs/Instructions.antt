-- What executing each instruction makes of a machine.
use Rattle.std.specs.Prelude.{true, false, not}
use Rattle.registers.specs.declared.bank.ByteRegister.TheVariants.{A}
use Rattle.registers.specs.declared.flags.Flags.{Flags}
use Rattle.board.specs.Cells.{Cells}
use Rattle.panel.specs.Rules.{Rules}
use Rattle.alu.specs.declared.operation.Operation.TheVariants.{Add, Sub}
use Rattle.alu.specs.declared.shifts.Shift.TheVariants.{Right, Left, RotateRight, RotateLeft}
use Rattle.alu.specs.Counting.{counted_up, counted_down}
use Rattle.isa.specs.Costs.{cost_of}
use Rattle.isa.specs.declared.instructions.Instruction.{Instruction}
use Rattle.isa.specs.declared.instructions.Instruction.TheVariants as family
use Rattle.isa.specs.declared.instructions.Transfer.{Transfer}
use Rattle.isa.specs.declared.instructions.Transfer.TheVariants.{MovToR1, MovFromR1, MovLoad, MovStore, Mvi, Mviw, Mvix, Staw, Ldaw, Stax, Ldax, Exx, Exa, Exh, Block, DmovFromEa, DmovToEa, StoreRp, LoadRp, Steax, Ldeax, Push, Pop, Lxi, Table}
use Rattle.isa.specs.declared.instructions.Arithmetic.{Arithmetic}
use Rattle.isa.specs.declared.instructions.Arithmetic.TheVariants.{OperateA, OperateR, OperateX, OperateByte, OperateRByte, OperateW, OperateWByte, OperateEa, Eadd, Esub, Mul, Div, Inr, Dcr, Inrw, Dcrw, Inx, Dcx, Daa, Stc, Clc, Nega, Rld, Rrd, Rll, Rlr, Sll, Slr, Sllc, Slrc, Drll, Drlr, Dsll, Dslr}
use Rattle.isa.specs.declared.instructions.Jump.{Jump}
use Rattle.isa.specs.declared.instructions.Jump.TheVariants.{Jmp, Jb, Jr, JreForward, JreBackward, Jea, Call, Calb, Calf, Calt, Softi, Ret, Rets, Reti}
use Rattle.isa.specs.declared.instructions.Special.{Special}
use Rattle.isa.specs.declared.instructions.Special.TheVariants.{MovToSr, MovFromSr1, MviSr2, OperateSr2}
use Rattle.isa.specs.declared.instructions.Control.{Control}
use Rattle.isa.specs.declared.instructions.Control.TheVariants.{Bit, Sk, Skn, Skit, Sknit, Nop, Ei, Di, Hlt}
use Rattle.machine.specs.declared.words.WordRegister.TheVariants.{Bc, Ea}
use Rattle.machine.specs.Registers.{with_carry}
use Rattle.isa.specs.Operands.{r2_register}
use Rattle.machine.specs.Operands.{rp_word, rp1_word, rp2_word, rp3_word}
use Rattle.machine.specs.Model.{Model, Reach, Ports, begun, within_registers, from_memory, to_memory, on_core, on_registers, on_reach, on_ports}
use Rattle.machine.specs.Transfer.{to_r1, from_r1, direct_loaded, direct_stored, immediate, word_immediate, working_immediate, indirect_immediate, working_loaded, working_stored, indirect_loaded, indirect_stored, b_to_l_exchanged, v_a_ea_exchanged, h_l_exchanged, block_step, from_ea, to_ea, word_loaded, word_saved, ea_loaded, ea_stored, word_pushed, word_popped, from_table, special_read, special_written, special_immediate}
use Rattle.machine.specs.Arithmetic.{operated_a, operated_r, operated_x, operated_byte, operated_w, operated_w_byte, operated_sr2, operated_ea, operated_ea_byte, multiplied, divided, register_counted, working_counted, word_incremented, word_decremented, decimal_adjusted, a_negated, register_shifted, register_shifted_skipping, ea_shifted, digits_left, digits_right}
use Rattle.machine.specs.Control.{jumped_to_word, jumped_by_register, jumped_by_six, jumped_by_nine, called_to_word, called_by_bc, called_fixed, called_by_table, soft_interrupted, returned, returned_skipping, returned_from_interrupt, bit_tested, skipped_on, skipped_off, line_tested, enabled, disabled, halted}

-- The operations, each with PC past the instruction already, and SK, L1 and L0 clear; `before` has the flags as they were before.

-- transfers, on registers and memory
abbrev pub transferred : Flags → Transfer → Reach → Reach
transferred before (MovToR1 r) q = within_registers (to_r1 r) q
transferred before (MovFromR1 r) q = within_registers (from_r1 r) q
transferred before (MovLoad r) q = from_memory (direct_loaded r) q
transferred before (MovStore r) q = to_memory (direct_stored r) q
transferred before (Mvi r) q = from_memory (immediate r before) q
transferred before Mviw q = to_memory working_immediate q
transferred before (Mvix p) q = to_memory (indirect_immediate (rp3_word p)) q
transferred before Staw q = to_memory working_stored q
transferred before Ldaw q = from_memory working_loaded q
transferred before (Stax a) q = indirect_stored a q
transferred before (Ldax a) q = from_memory (indirect_loaded a) q
transferred before Exx q = within_registers b_to_l_exchanged q
transferred before Exa q = within_registers v_a_ea_exchanged q
transferred before Exh q = within_registers h_l_exchanged q
transferred before Block q = block_step q
transferred before (DmovFromEa p) q = within_registers (from_ea (rp3_word p)) q
transferred before (DmovToEa p) q = within_registers (to_ea (rp3_word p)) q
transferred before (StoreRp p) q = to_memory (word_saved (rp_word p)) q
transferred before (LoadRp p) q = from_memory (word_loaded (rp_word p)) q
transferred before (Steax a) q = ea_stored a q
transferred before (Ldeax a) q = from_memory (ea_loaded a) q
transferred before (Push p) q = word_pushed (rp1_word p) q
transferred before (Pop p) q = from_memory (word_popped (rp1_word p)) q
transferred before (Lxi p) q = from_memory (word_immediate (rp2_word p) before) q
transferred before Table q = from_memory from_table q

-- arithmetic, on registers and memory
abbrev pub computed : Arithmetic → Reach → Reach
computed (OperateA o r) q = within_registers (operated_a o r) q
computed (OperateR o r) q = within_registers (operated_r o r) q
computed (OperateX o a) q = from_memory (operated_x o a) q
computed (OperateByte o) q = from_memory (operated_byte o A) q
computed (OperateRByte o r) q = from_memory (operated_byte o r) q
computed (OperateW o) q = from_memory (operated_w o) q
computed (OperateWByte o) q = operated_w_byte o q
computed (OperateEa o p) q = within_registers (operated_ea o (rp3_word p)) q
computed (Eadd r) q = within_registers (operated_ea_byte Add (r2_register r)) q
computed (Esub r) q = within_registers (operated_ea_byte Sub (r2_register r)) q
computed (Mul r) q = within_registers (multiplied (r2_register r)) q
computed (Div r) q = within_registers (divided (r2_register r)) q
computed (Inr r) q = within_registers (register_counted counted_up (r2_register r)) q
computed (Dcr r) q = within_registers (register_counted counted_down (r2_register r)) q
computed Inrw q = working_counted counted_up q
computed Dcrw q = working_counted counted_down q
computed (Inx p) q = within_registers (word_incremented (rp2_word p)) q
computed (Dcx p) q = within_registers (word_decremented (rp2_word p)) q
computed Daa q = within_registers decimal_adjusted q
computed Stc q = within_registers (with_carry true) q
computed Clc q = within_registers (with_carry false) q
computed Nega q = within_registers a_negated q
computed Rld q = digits_left q
computed Rrd q = digits_right q
computed (Rll r) q = within_registers (register_shifted RotateLeft (r2_register r)) q
computed (Rlr r) q = within_registers (register_shifted RotateRight (r2_register r)) q
computed (Sll r) q = within_registers (register_shifted Left (r2_register r)) q
computed (Slr r) q = within_registers (register_shifted Right (r2_register r)) q
computed (Sllc r) q = within_registers (register_shifted_skipping Left (r2_register r)) q
computed (Slrc r) q = within_registers (register_shifted_skipping Right (r2_register r)) q
computed Drll q = within_registers (ea_shifted RotateLeft) q
computed Drlr q = within_registers (ea_shifted RotateRight) q
computed Dsll q = within_registers (ea_shifted Left) q
computed Dslr q = within_registers (ea_shifted Right) q

-- jumps, calls and returns, on registers and memory
abbrev pub directed : Flags → Jump → Reach → Reach
directed before Jmp q = from_memory jumped_to_word q
directed before Jb q = within_registers (jumped_by_register Bc) q
directed before (Jr n) q = within_registers (jumped_by_six n) q
directed before JreForward q = from_memory (jumped_by_nine 0) q
directed before JreBackward q = from_memory (jumped_by_nine 1) q
directed before Jea q = within_registers (jumped_by_register Ea) q
directed before Call q = called_to_word q
directed before Calb q = called_by_bc q
directed before (Calf n) q = called_fixed n q
directed before (Calt n) q = called_by_table n q
directed before Softi q = soft_interrupted before q
directed before Ret q = from_memory returned q
directed before Rets q = from_memory returned_skipping q
directed before Reti q = from_memory returned_from_interrupt q

-- special registers, on the core and its panel
abbrev pub specially : {S : Type 0} → Rules S → Special → Cells → Ports S → Ports S
specially rules (MovToSr n) cells p = special_written rules n p
specially rules (MovFromSr1 n) cells p = special_read rules n p
specially rules (MviSr2 n) cells p = special_immediate rules n cells p
specially rules (OperateSr2 o n) cells p = operated_sr2 rules o n cells p

-- tests, and the modes of the core
abbrev pub controlled : {S : Type 0} → Control → Model S → Model S
controlled (Bit n) m = on_registers (bit_tested n m.cells) m
controlled (Sk f) m = on_registers (skipped_on f) m
controlled (Skn f) m = on_registers (skipped_off f) m
controlled (Skit l) m = line_tested (λ waits. waits) l m
controlled (Sknit l) m = line_tested not l m
controlled Nop m = m
controlled Ei m = on_core enabled m
controlled Di m = on_core disabled m
controlled Hlt m = on_core halted m

abbrev pub performed : {S : Type 0} → Rules S → Flags → Instruction → Model S → Model S
performed rules before (family.Transfer i) m = on_reach (transferred before i) m
performed rules before (family.Arithmetic i) m = on_reach (computed i) m
performed rules before (family.Jump i) m = on_reach (directed before i) m
performed rules before (family.Special i) m = on_ports (specially rules i m.cells) m
performed rules before (family.Control i) m = controlled i m

-- an instruction begins, and its operation is done
abbrev pub executed : {S : Type 0} → Rules S → Instruction → Model S → Model S
executed rules i m = performed rules m.core.registers.flags i (on_core (begun (cost_of i).bytes) m)
