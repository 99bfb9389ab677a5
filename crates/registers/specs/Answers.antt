-- What a call that may refuse answers and leaves, where a definition gives the state it makes or its fault.
use Rattle.std.specs.Prelude.{Ok, Err, Result}

-- the answer: the fault, or that there is none
abbrev pub answer_of : {S F : Type 0} → Result S F → Result (Unit {0}) F
answer_of (Ok made) = Ok tt
answer_of (Err fault) = Err fault

-- the state left: the one made, or after a fault the one before
abbrev pub left_by : {S F : Type 0} → Result S F → S → S
left_by (Ok made) before = made
left_by (Err fault) before = before
