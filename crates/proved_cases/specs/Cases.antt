-- Worked cases of a step, as statements about the rules, for any rules of a panel.
use Rattle.std.specs.Prelude.{◌≡◌, ℕ, ◌-◌, true, false, cond, List, [], ◌∷◌, Ok, Err, Result, ◌==◌, nat_lt, slice_index}
use Rattle.registers.specs.declared.bench.Core.{Core}
use Rattle.registers.specs.Bench.{bench_core, zero_registers}
use Rattle.board.specs.Cells.{Cells}
use Rattle.requests.specs.Request.{Request, quiet, signalled}
use Rattle.panel.specs.Rules.{Rules}
use Rattle.machine.specs.Registers.{with_a, with_pc, with_sp}
use Rattle.machine.specs.Model.{Model, core_with}
use Rattle.cpu.specs.declared.codes.UndefinedCode.{UndefinedCode}
use Rattle.cpu.specs.Step.{outcome, answer, stepped}

-- bytes from an address on, zeros elsewhere, nothing fixed
abbrev pub bytes_at : ℕ → List ℕ → Cells
bytes_at address bytes = record { at = λ k. cond (nat_lt k address) 0 (slice_index bytes (k - address)); fixed = λ k. false }

-- a bench core whose A, PC and SP are set
abbrev pub core_at : ℕ → ℕ → ℕ → Core
core_at a pc sp = core_with (with_a a (with_pc pc (with_sp sp zero_registers))) bench_core

-- no line waits, or NMI does
abbrev pub no_line : ℕ → Request
no_line k = quiet

abbrev pub nmi : ℕ → Request
nmi k = cond (k == 0) (signalled quiet) quiet

module _ {S : Type 0} (rules : Rules S) (standing : S) where
  abbrev pub machine_with : Core → Cells → (ℕ → Request) → Model S
  machine_with core cells requests = record { core = core; cells = cells; standing = standing; requests = requests }

  -- a program at an address, with A
  abbrev pub at_program : ℕ → ℕ → List ℕ → Model S
  at_program address a program = machine_with (core_at a address 0) (bytes_at address program) no_line

  abbrev pub next : Model S → Model S
  next m = stepped rules m

  abbrev pub answered : Model S → Result ℕ UndefinedCode
  answered m = answer (outcome rules m)

  -- LTI A,20H skips with A 1FH, and not with A 20H
  pub record Less : Type 0 where
    pub below : (next (at_program 0 0x1f (0x37 ∷ 0x20 ∷ []))).core.registers.flags.skip ≡ true
    pub equal : (next (at_program 0 0x20 (0x37 ∷ 0x20 ∷ []))).core.registers.flags.skip ≡ false

  -- GTI A,20H with A 21H skips and sets Z, with A 20H neither
  pub record Greater : Type 0 where
    pub above_skips : (next (at_program 0 0x21 (0x27 ∷ 0x20 ∷ []))).core.registers.flags.skip ≡ true
    pub above_zero : (next (at_program 0 0x21 (0x27 ∷ 0x20 ∷ []))).core.registers.flags.zero ≡ true
    pub equal_skips : (next (at_program 0 0x20 (0x27 ∷ 0x20 ∷ []))).core.registers.flags.skip ≡ false
    pub equal_zero : (next (at_program 0 0x20 (0x27 ∷ 0x20 ∷ []))).core.registers.flags.zero ≡ false

  -- JR E0H at 0100H goes to 00E1H, JR DFH to 0120H; JRE 4FH 00H at 0200H goes to 0102H
  pub record Jumps : Type 0 where
    pub backward : (next (at_program 0x100 0 (0xe0 ∷ []))).core.registers.pc ≡ 0xe1
    pub forward : (next (at_program 0x100 0 (0xdf ∷ []))).core.registers.pc ≡ 0x120
    pub extended : (next (at_program 0x200 0 (0x4f ∷ 0x00 ∷ []))).core.registers.pc ≡ 0x102

  -- an undefined code is answered with its address and its bytes, and changes nothing
  pub record Undefined (first second : ℕ) : Type 0 where
    pub told : answered (at_program 0 0 (first ∷ second ∷ [])) ≡ Err (record { address = 0; first = first; second = second })
    pub unchanged : next (at_program 0 0 (first ∷ second ∷ [])) ≡ at_program 0 0 (first ∷ second ∷ [])

  -- MVI A,1 and then MVI A,2
  abbrev pub overlay_program : Model S
  overlay_program = at_program 0 0 (0x69 ∷ 1 ∷ 0x69 ∷ 2 ∷ [])

  -- after the first of its steps, if no line has risen
  abbrev pub overlay_rest : Model S
  overlay_rest = record { core = (next overlay_program).core; cells = (next overlay_program).cells; standing = (next overlay_program).standing; requests = no_line }

  -- A is 1 after both, and each counts 7 states, so 14 in all
  pub record Overlay : Type 0 where
    pub a : (next overlay_rest).core.registers.main.a ≡ 1
    pub pc : (next overlay_rest).core.registers.pc ≡ 4
    pub first_states : answered overlay_program ≡ Ok 7
    pub second_states : answered overlay_rest ≡ Ok 7

  -- NMI's entry at SP 0002H, PC being 1234H: PSW at 0001H, PC high at 0000H, PC low at FFFFH
  abbrev pub at_entry : Model S
  at_entry = machine_with (core_at 0 0x1234 2) (bytes_at 0 []) nmi

  pub record Entry : Type 0 where
    pub low : (next at_entry).cells.at 0xffff ≡ 0x34
    pub high : (next at_entry).cells.at 0 ≡ 0x12
    pub pc : (next at_entry).core.registers.pc ≡ 4
    pub sp : (next at_entry).core.registers.sp ≡ 0xffff

-- all of them, whatever the panel and its standing
pub record Worked {S : Type 0} (rules : Rules S) : Type 0 where
  pub less : (s : S) → Less rules s
  pub greater : (s : S) → Greater rules s
  pub jumps : (s : S) → Jumps rules s
  pub undefined_on : (s : S) → Undefined rules s 0x60 0x48
  pub undefined_special : (s : S) → Undefined rules s 0x64 0x04
  pub undefined_zero : (s : S) → Undefined rules s 0x74 0x80
  pub overlay : (s : S) → Overlay rules s
  pub entry : (s : S) → Entry rules s
