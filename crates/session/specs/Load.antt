-- What the records of a session make, one after the other.
use Rattle.std.specs.Prelude.{ℕ, zero, suc, ◌+◌, ◌*◌, Bool, true, false, cond, List, [], ◌∷◌, length, Some, None, Ok, Err, Option, Result, nat_lt, slice_index}
use Rattle.std.proofs.Math.ListN as lists
use Rattle.record.specs.declared.fault.RecordFault.{RecordFault}
use Rattle.record.specs.declared.fault.RecordFault.TheVariants.{UnknownKind}
use Rattle.record.specs.declared.kind.Kind.{Kind}
use Rattle.record.specs.declared.kind.Kind.TheVariants.{Cell, Page, Fix, Set, Grant, Signal, Reset, End}
use Rattle.record.specs.Wire.{Said, cell, page, fix, set, grant, signal, reset, end, Finding, finding, kind_of}
use Rattle.registers.specs.declared.bench.Core.{Core}
use Rattle.registers.specs.declared.fault.RegisterFault.{RegisterFault}
use Rattle.registers.specs.Bench.{bench_core, setting}
use Rattle.session.specs.declared.fault.Place.{Place}
use Rattle.session.specs.declared.fault.SessionFault.{SessionFault}
use Rattle.session.specs.declared.fault.SessionFault.TheVariants.{Register, Broken, OutOfPlace}
use Rattle.session.specs.Faults.{place}

-- a bench core, the number F below which addresses will be fixed, a memory, and whether END was played
pub record Loaded : Type 0 where
  pub core : Core
  pub below : ℕ
  pub memory : List ℕ
  pub ended : Bool

abbrev pub loaded : Core → ℕ → List ℕ → Bool → Loaded
loaded core below memory ended = record { core = core; below = below; memory = memory; ended = ended }

-- a bench core over a memory, nothing fixed
abbrev pub fresh : List ℕ → Loaded
fresh memory = loaded bench_core 0 memory false

-- bytes put into a memory from an address up, as far as it reaches
unfoldable pub stored : List ℕ → ℕ → List ℕ → List ℕ
stored memory address [] = memory
stored memory address (b ∷ bs) = stored (lists.set memory address b) (address + 1) bs

abbrev pub with_core : Loaded → Result Core RegisterFault → Result Loaded RegisterFault
with_core s (Ok core) = Ok (loaded core s.below s.memory s.ended)
with_core s (Err fault) = Err fault

-- what one record makes; the kinds that run a core make nothing here, and `plays` keeps them out
abbrev pub load : Said → Loaded → Result Loaded RegisterFault
load (cell address byte) s = Ok (loaded s.core s.below (lists.set s.memory address byte) s.ended)
load (page number bytes) s = Ok (loaded s.core s.below (stored s.memory (256 * number) bytes) s.ended)
load (fix below) s = Ok (loaded s.core below s.memory s.ended)
load (set register value) s = with_core s (setting register value s.core)
load (grant states) s = Ok s
load (signal line) s = Ok s
load reset s = Ok s
load end s = Ok (loaded s.core s.below s.memory true)

-- whether a kind plays: those that run a core do not yet, and count as unknown
abbrev pub plays : Option Kind → Bool
plays None = false
plays (Some Cell) = true
plays (Some Page) = true
plays (Some Fix) = true
plays (Some Set) = true
plays (Some Grant) = false
plays (Some Signal) = false
plays (Some Reset) = false
plays (Some End) = true

-- a record that was read: what it makes with its length, or its own fault
abbrev pub with_length : Place → ℕ → Result Loaded RegisterFault → Result (Loaded × ℕ) SessionFault
with_length p n (Ok s) = Ok (s, n)
with_length p n (Err fault) = Err (Register fault p)

abbrev pub judged : Place → Loaded → Result Finding RecordFault → Result (Loaded × ℕ) SessionFault
judged p s (Ok f) = with_length p f.3 (load f.0 s)
judged p s (Err fault) = Err (Broken fault p)

-- the record at a place: its kind must be known, nothing may follow END, its body must be whole, and it must not be refused
abbrev pub turned : Loaded → List ℕ → Place → Result (Loaded × ℕ) SessionFault
turned s session p =
    cond (plays (kind_of (slice_index session p.offset)))
    (cond s.ended (Err (OutOfPlace p)) (judged p s (finding session p.offset)))
    (Err (Broken UnknownKind p))

-- the place behind a record that was played
abbrev pub turn_answer : Place → Result (Loaded × ℕ) SessionFault → Result Place SessionFault
turn_answer p (Ok r) = Ok (place (p.number + 1) (p.offset + r.1))
turn_answer p (Err fault) = Err fault

abbrev pub turn_after : Result (Loaded × ℕ) SessionFault → Loaded → Loaded
turn_after (Ok r) before = r.0
turn_after (Err fault) before = before

-- at the end of a session END must have been played
abbrev pub closed : Loaded → Place → Result (Unit {0}) SessionFault
closed s p = cond s.ended (Ok tt) (Err (OutOfPlace p))

-- what is loaded in the end, and the fault if one came
abbrev pub Ending : Type 0
Ending = Loaded × Result (Unit {0}) SessionFault

-- a fault ends the playing and keeps what was loaded before it; else it goes on behind the record
abbrev pub onward : Result (Loaded × ℕ) SessionFault → Loaded → (Loaded → ℕ → Ending) → Ending
onward (Ok r) s go = go r.0 r.1
onward (Err fault) s go = (s, Err fault)

-- a session from record n at offset o on. Each record has a byte at least, so as many turns as the session has bytes, and one more, suffice
unfoldable pub loads : ℕ → Loaded → List ℕ → ℕ → ℕ → Ending
loads zero s session n o = (s, closed s (place n o))
loads (suc turns) s session n o =
    cond (nat_lt o (length session)) (onward (turned s session (place n o)) s (λ t k. loads turns t session (n + 1) (o + k))) (s, closed s (place n o))

-- a whole session
abbrev pub load_all : Loaded → List ℕ → Ending
load_all s session = loads (1 + length session) s session 0 0
