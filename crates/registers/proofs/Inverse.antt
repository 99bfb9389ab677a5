-- The flags of a PSW's byte are those it was made of. Assumes nothing.
use Rattle.std.proofs.Common.{◌≡◌, ℕ, ◌/◌, ◌%◌, ◌^◌, ◌≤◌, Bool, true, false, eqb, ap, arith}
use Rattle.registers.specs.declared.flags.Flags.{Flags}
use Rattle.registers.specs.Psw.{one, bit, psw, flags_of}

one_le : (flag : Bool) → one flag ≤ 1
one_le true = omega arith
one_le false = omega arith

bit_one : (n byte : ℕ) (flag : Bool) → byte / 2 ^ n % 2 ≡ one flag → bit n byte ≡ flag
bit_one n byte true h = ap (λ (k : ℕ). eqb k 1) h
bit_one n byte false h = ap (λ (k : ℕ). eqb k 1) h

pub flags_again : (f : Flags) → flags_of (psw f) ≡ f
flags_again f =
    let z = one_le f.zero in
    let s = one_le f.skip in
    let h = one_le f.half in
    let m = one_le f.l1 in
    let l = one_le f.l0 in
    let c = one_le f.carry in
    let pz = bit_one 6 (psw f) f.zero (omega arith) in
    let ps = bit_one 5 (psw f) f.skip (omega arith) in
    let ph = bit_one 4 (psw f) f.half (omega arith) in
    let pm = bit_one 3 (psw f) f.l1 (omega arith) in
    let pl = bit_one 2 (psw f) f.l0 (omega arith) in
    let pc = bit_one 0 (psw f) f.carry (omega arith) in
    λ i. record { zero = pz i; skip = ps i; half = ph i; l1 = pm i; l0 = pl i; carry = pc i }
