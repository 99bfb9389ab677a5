-- What calls in a row make of a standing.
use Rattle.std.specs.Prelude.{List, [], ◌∷◌}
use Rattle.panel.specs.declared.calls.Call.{Call}
use Rattle.panel.specs.declared.calls.Call.TheVariants.{Put, Pass, Reset}
use Rattle.panel.specs.Rules.{Rules, code_of, states_of, passed}

-- after one call
abbrev pub called : {S : Type 0} → Rules S → S → Call → S
called rules s (Put code byte) = rules.putting s (code_of code) byte
called rules s (Pass states) = passed rules s (states_of states)
called rules s Reset = rules.clearing s

-- after calls in a row
abbrev pub driven : {S : Type 0} → Rules S → S → List Call → S
driven rules s [] = s
driven rules s (call ∷ calls) = driven rules (called rules s call) calls
