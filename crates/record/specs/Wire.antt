-- The records of a session as bytes: one byte of kind, then a body whose length the kind fixes. Numbers have the low byte first.
use Rattle.std.specs.Prelude.{ℕ, ◌+◌, ◌*◌, ◌/◌, ◌%◌, Bool, true, cond, List, [], ◌∷◌, ◌++◌, length, take, drop, Some, None, Ok, Err, Option, Result, ◌==◌, nat_lt, find, slice_index, codes}
use Rattle.record.specs.declared.kind.Kind.{Kind}
use Rattle.record.specs.declared.kind.Kind.TheVariants.{Cell as CELL, Page as PAGE, Fix as FIX, Set as SET, Grant as GRANT, Signal as SIGNAL, Reset as RESET, End as END}
use Rattle.record.specs.declared.types.Record.{Record}
use Rattle.record.specs.declared.types.Record.TheVariants.{Cell, Page, Fix, Set, Grant, Signal, Reset, End}
use Rattle.record.specs.declared.types.Found.{Found}
use Rattle.record.specs.declared.fault.RecordFault.{RecordFault}
use Rattle.record.specs.declared.fault.RecordFault.TheVariants.{UnknownKind, CutShort, NoRoom}

-- the numbers of the refusals
abbrev pub fault_number : RecordFault → ℕ
fault_number UnknownKind = 8
fault_number CutShort = 9
fault_number NoRoom = 13

-- their texts
abbrev pub fault_text : RecordFault → List ℕ
fault_text UnknownKind = codes "no record has this kind"
fault_text CutShort = codes "the record is cut short"
fault_text NoRoom = codes "no room for the record"

-- the byte of a kind
abbrev pub code : Kind → ℕ
code CELL = 1
code PAGE = 2
code FIX = 3
code SET = 4
code GRANT = 5
code SIGNAL = 6
code RESET = 7
code END = 8

-- the kind of a byte
abbrev pub kind_of : ℕ → Option Kind
kind_of byte = find (λ kind. code kind == byte) (CELL ∷ PAGE ∷ FIX ∷ SET ∷ GRANT ∷ SIGNAL ∷ RESET ∷ END ∷ [])

-- how long its body is
abbrev pub body_length : Kind → ℕ
body_length CELL = 3
body_length PAGE = 257
body_length FIX = 2
body_length SET = 3
body_length GRANT = 4
body_length SIGNAL = 1
body_length RESET = 0
body_length END = 0

-- a record by its values: a page has its bytes
pub data Said : Type 0 where
  cell : ℕ → ℕ → Said
  page : ℕ → List ℕ → Said
  fix : ℕ → Said
  set : ℕ → ℕ → Said
  grant : ℕ → Said
  signal : ℕ → Said
  reset : Said
  end : Said

abbrev pub said : Record → Said
said (Cell address byte) = cell address byte
said (Page number bytes) = page number bytes.now
said (Fix below) = fix below
said (Set register value) = set register value
said (Grant states) = grant states
said (Signal line) = signal line
said Reset = reset
said End = end

-- a number, its low byte first
abbrev pub number : List ℕ → ℕ
number [] = 0
number (b ∷ bs) = b + 256 * number bs

-- the record of a kind whose whole body stands at the start of the bytes
abbrev pub meant : Kind → List ℕ → Said
meant CELL bs = cell (number (take 2 bs)) (slice_index bs 2)
meant PAGE bs = page (slice_index bs 0) (take 256 (drop 1 bs))
meant FIX bs = fix (number (take 2 bs))
meant SET bs = set (slice_index bs 0) (number (take 2 (drop 1 bs)))
meant GRANT bs = grant (number (take 4 bs))
meant SIGNAL bs = signal (slice_index bs 0)
meant RESET bs = reset
meant END bs = end

-- the record of a kind that a body says, if it is whole
abbrev pub body_of : Kind → List ℕ → Result Said RecordFault
body_of kind bs = cond (nat_lt (length bs) (body_length kind)) (Err CutShort) (Ok (meant kind bs))

-- the record whose kind is known, with its whole length
abbrev pub reading_as : Option Kind → List ℕ → Result (Said × ℕ) RecordFault
reading_as None bs = Err UnknownKind
reading_as (Some kind) bs = cond (nat_lt (length bs) (body_length kind)) (Err CutShort) (Ok (meant kind bs, 1 + body_length kind))

-- the record at the start of some bytes, with its whole length
abbrev pub reading : List ℕ → Result (Said × ℕ) RecordFault
reading [] = Err CutShort
reading (byte ∷ bs) = reading_as (kind_of byte) bs

-- where the 256 bytes of a page stand: behind its kind and its number
abbrev pub page_at : ℕ → Said → Option ℕ
page_at offset (cell address byte) = None
page_at offset (page number bytes) = Some (offset + 2)
page_at offset (fix below) = None
page_at offset (set register value) = None
page_at offset (grant states) = None
page_at offset (signal line) = None
page_at offset reset = None
page_at offset end = None

-- a record found at an offset: its values, where its body and a page's bytes stand, its whole length
abbrev pub Finding : Type 0
Finding = Said × ℕ × Option ℕ × ℕ

abbrev pub found_at : ℕ → Result (Said × ℕ) RecordFault → Result Finding RecordFault
found_at offset (Ok r) = Ok (r.0, offset + 1, page_at offset r.0, r.1)
found_at offset (Err fault) = Err fault

abbrev pub finding : List ℕ → ℕ → Result Finding RecordFault
finding session offset = found_at offset (reading (drop offset session))

-- an answer of the code by its values
abbrev pub told : Result Record RecordFault → Result Said RecordFault
told (Ok r) = Ok (said r)
told (Err fault) = Err fault

abbrev pub answered : Result (Record × ℕ) RecordFault → Result (Said × ℕ) RecordFault
answered (Ok r) = Ok (said r.0, r.1)
answered (Err fault) = Err fault

abbrev pub found : Result Found RecordFault → Result Finding RecordFault
found (Ok f) = Ok (said f.value, f.body, f.page, f.length)
found (Err fault) = Err fault

-- the bytes of a record: its kind and its body
abbrev pub wire : Said → List ℕ
wire (cell address byte) = 1 ∷ (address % 256) ∷ (address / 256) ∷ byte ∷ []
wire (page number bytes) = 2 ∷ number ∷ bytes
wire (fix below) = 3 ∷ (below % 256) ∷ (below / 256) ∷ []
wire (set register value) = 4 ∷ register ∷ (value % 256) ∷ (value / 256) ∷ []
wire (grant states) = 5 ∷ (states % 256) ∷ (states / 256 % 256) ∷ (states / 65536 % 256) ∷ (states / 16777216) ∷ []
wire (signal line) = 6 ∷ line ∷ []
wire reset = 7 ∷ []
wire end = 8 ∷ []

-- whether a record can be written at all: a page must have 256 bytes
abbrev pub whole : Said → Bool
whole (cell address byte) = true
whole (page number bytes) = length bytes == 256
whole (fix below) = true
whole (set register value) = true
whole (grant states) = true
whole (signal line) = true
whole reset = true
whole end = true

-- bytes put at the start of a buffer that has room for them; those behind them stay, and where there is no room all do
abbrev pub put_answer : List ℕ → List ℕ → Result ℕ RecordFault
put_answer bytes buffer = cond (nat_lt (length buffer) (length bytes)) (Err NoRoom) (Ok (length bytes))

abbrev pub put_over : List ℕ → List ℕ → List ℕ
put_over bytes buffer = cond (nat_lt (length buffer) (length bytes)) buffer (bytes ++ drop (length bytes) buffer)

-- a record written: its length or the refusal, and the buffer after it
abbrev pub write_answer : Said → List ℕ → Result ℕ RecordFault
write_answer r buffer = cond (whole r) (put_answer (wire r) buffer) (Err NoRoom)

abbrev pub write_over : Said → List ℕ → List ℕ
write_over r buffer = cond (whole r) (put_over (wire r) buffer) buffer
