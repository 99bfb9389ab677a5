-- The numbers of a session's faults, and the records they came at.
use Rattle.std.specs.Prelude.{ℕ, List, ◌++◌, Some, None, Option, codes, decimal, unwrap_or}
use Rattle.record.specs.Wire as records
use Rattle.registers.specs.Numbering as registers
use Rattle.session.specs.declared.fault.Place.{Place}
use Rattle.session.specs.declared.fault.SessionFault.{SessionFault}
use Rattle.session.specs.declared.fault.SessionFault.TheVariants.{Register, Broken, OutOfPlace, ListingShort, SessionLong}

abbrev pub place : ℕ → ℕ → Place
place number offset = record { number = number; offset = offset }

abbrev pub session_number : SessionFault → ℕ
session_number (Register fault p) = registers.fault_number fault
session_number (Broken fault p) = records.fault_number fault
session_number (OutOfPlace p) = 10
session_number ListingShort = 11
session_number SessionLong = 12

-- the record that a fault came at
abbrev pub session_record : SessionFault → Option Place
session_record (Register fault p) = Some p
session_record (Broken fault p) = Some p
session_record (OutOfPlace p) = Some p
session_record ListingShort = None
session_record SessionLong = None

-- record 0 at offset 0 stands for none
abbrev pub session_place : SessionFault → Place
session_place fault = unwrap_or (session_record fault) (place 0 0)

-- how a place and a fault are printed
abbrev pub place_text : Place → List ℕ
place_text p = codes "record " ++ (decimal p.number ++ (codes " at offset " ++ decimal p.offset))

abbrev pub session_text : SessionFault → List ℕ
session_text (Register fault p) = place_text p ++ (codes ": " ++ registers.fault_text fault)
session_text (Broken fault p) = place_text p ++ (codes ": " ++ records.fault_text fault)
session_text (OutOfPlace p) = place_text p ++ codes ": no such record may stand here"
session_text ListingShort = codes "the listing buffer is too short"
session_text SessionLong = codes "the session is too long"
