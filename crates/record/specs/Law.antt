-- What is written is read again, and what is read is written again.
use Rattle.std.specs.Prelude.{◌≡◌, ℕ, ◌<◌, cond, List, ◌++◌, length, take, drop, Ok, Err, Result, nat_lt}
use Rattle.record.specs.declared.fault.RecordFault.{RecordFault}
use Rattle.record.specs.declared.fault.RecordFault.TheVariants.{NoRoom}
use Rattle.record.specs.Wire.{Said, cell, page, fix, set, grant, signal, reset, end, reading, write_answer, write_over}

-- a record's numbers fit their bytes
abbrev pub Fits : Said → Type 0
Fits (cell address byte) = address < 65536
Fits (page number bytes) = Unit {0}
Fits (fix below) = below < 65536
Fits (set register value) = value < 65536
Fits (grant states) = states < 4294967296
Fits (signal line) = Unit {0}
Fits reset = Unit {0}
Fits end = Unit {0}

-- what a buffer reads as after a write: the record written; after a refusal, what it read as before
abbrev pub reread : Result ℕ RecordFault → Said → List ℕ → Result (Said × ℕ) RecordFault
reread (Ok length) r before = Ok (r, length)
reread (Err fault) r before = reading before

-- a record that was read from the first n of some bytes: written anywhere, it is these very bytes again
abbrev pub Rewrites : List ℕ → Said → ℕ → Type 0
Rewrites bytes r n =
    (buffer : List ℕ)
    → (write_answer r buffer ≡ cond (nat_lt (length buffer) n) (Err NoRoom) (Ok n))
    × (write_over r buffer ≡ cond (nat_lt (length buffer) n) buffer (take n bytes ++ drop n buffer))
