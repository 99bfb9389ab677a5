-- What playing a session makes: the memory, the fault, and the text at the start of the listing.
use Rattle.std.specs.Prelude.{ℕ, cond, List, [], length, replicate, Some, None, Ok, Err, Option, Result, nat_lt}
use Rattle.session.specs.declared.fault.SessionFault.{SessionFault}
use Rattle.session.specs.declared.fault.SessionFault.TheVariants.{ListingShort, SessionLong}
use Rattle.session.specs.Faults.{session_number, session_place}
use Rattle.session.specs.Load.{Loaded, fresh, Ending, load_all}
use Rattle.session.specs.Sheet.{sheet, fault_line}

abbrev pub fault_text : SessionFault → List ℕ
fault_text f = fault_line (session_number f) (session_place f).number (session_place f).offset

pub record Played : Type 0 where
  pub fault : Option SessionFault
  pub memory : List ℕ
  pub text : List ℕ

-- the sheet of what was loaded, or only the line of the fault
abbrev pub ending : Loaded → Result (Unit {0}) SessionFault → Played
ending s (Ok x) = record { fault = None; memory = s.memory; text = sheet s.core.registers }
ending s (Err f) = record { fault = Some f; memory = s.memory; text = fault_text f }

abbrev pub ended_by : Ending → Played
ended_by e = ending e.0 e.1

-- refused before anything is read or written
abbrev pub refused : SessionFault → List ℕ → Played
refused f memory = record { fault = Some f; memory = memory; text = [] }

-- a session played on a memory, with so many bytes for its listing; `long` is what a session that is too long makes
abbrev pub playing : Played → ℕ → List ℕ → List ℕ → Played
playing long room session memory =
    cond (nat_lt room 2048) (refused ListingShort memory) (cond (nat_lt 16384 (length session)) long (ended_by (load_all (fresh memory) session)))

-- a session that is too long is refused, and nothing is written
abbrev pub played : ℕ → List ℕ → List ℕ → Played
played room session memory = playing (refused SessionLong memory) room session memory

-- the same, with the line of that fault
abbrev pub listed : ℕ → List ℕ → List ℕ → Played
listed room session memory = playing (ending (fresh memory) (Err SessionLong)) room session memory

-- the memory that the program plays on: a zero byte for each address
unfoldable pub blank : List ℕ
blank = replicate 65536 0

-- what the program prints of a session, with room for any listing
abbrev pub printed : List ℕ → List ℕ
printed session = (listed 2048 session blank).text
