-- The fifteen operations by their codes, and which of them store what they form.
use Rattle.std.specs.Prelude.{◌≡◌, ℕ, List, ◌++◌, Bool, true, false, cond, Some, None, Option, Result, IfOk, ◌==◌, codes}
use Rattle.std.specs.Fmt.{decimal}
use Rattle.std.specs.Option.{ok_or}
use Rattle.alu.specs.declared.operation.NoSuchOperation.{NoSuchOperation}
use Rattle.alu.specs.declared.operation.Operation.{Operation}
use Rattle.alu.specs.declared.operation.Operation.TheVariants.{And, Xor, Or, AddSkipNoCarry, Greater, SubSkipNoBorrow, Less, Add, On, AddWithCarry, Off, Sub, NotEqual, SubWithCarry, Equal}

abbrev pub named : ℕ → Option Operation
named k =
    cond (k == 1) (Some And)
    (cond (k == 2) (Some Xor)
    (cond (k == 3) (Some Or)
    (cond (k == 4) (Some AddSkipNoCarry)
    (cond (k == 5) (Some Greater)
    (cond (k == 6) (Some SubSkipNoBorrow)
    (cond (k == 7) (Some Less)
    (cond (k == 8) (Some Add)
    (cond (k == 9) (Some On)
    (cond (k == 10) (Some AddWithCarry)
    (cond (k == 11) (Some Off)
    (cond (k == 12) (Some Sub)
    (cond (k == 13) (Some NotEqual)
    (cond (k == 14) (Some SubWithCarry)
    (cond (k == 15) (Some Equal) None))))))))))))))

abbrev pub operation_code : Operation → ℕ
operation_code And = 1
operation_code Xor = 2
operation_code Or = 3
operation_code AddSkipNoCarry = 4
operation_code Greater = 5
operation_code SubSkipNoBorrow = 6
operation_code Less = 7
operation_code Add = 8
operation_code On = 9
operation_code AddWithCarry = 10
operation_code Off = 11
operation_code Sub = 12
operation_code NotEqual = 13
operation_code SubWithCarry = 14
operation_code Equal = 15

-- the operation named by a code and the code back, or else an error with the code
abbrev pub Decodes : ℕ → Result Operation NoSuchOperation → Type 0
Decodes k r = (r ≡ ok_or (named k) (record { 0 = k })) × IfOk r (λ o. operation_code o ≡ k)

-- what is said of a code that names none
abbrev pub refusal : ℕ → List ℕ
refusal k = codes "no operation has code " ++ decimal k

-- whether an operation stores the value that it forms
abbrev pub storing : Operation → Bool
storing And = true
storing Xor = true
storing Or = true
storing AddSkipNoCarry = true
storing Greater = false
storing SubSkipNoBorrow = true
storing Less = false
storing Add = true
storing On = false
storing AddWithCarry = true
storing Off = false
storing Sub = true
storing NotEqual = false
storing SubWithCarry = true
storing Equal = false
