use Rattle.std.proofs.Common.{◌≡◌, ℕ, ◌%◌, ◌<◌, Bool, cond, Ok, sym, refl, ap, ◌∙◌, rules}
use Rattle.std.proofs.lemmas.Bool.{lt-ltb}
use Rattle.isa.specs.declared.instructions.Instruction.TheVariants.{Transfer, Arithmetic, Jump, Control}
use Rattle.isa.specs.declared.instructions.Transfer.TheVariants.{MovToR1, MovFromR1, MovLoad, MovStore, Mvi, Mvix, Stax, Ldax, DmovFromEa, DmovToEa, Push, Pop}
use Rattle.isa.specs.declared.instructions.Arithmetic.TheVariants.{Eadd, Esub, Mul, Div, Inr, Dcr, Rll, Rlr}
use Rattle.isa.specs.declared.instructions.Jump.TheVariants.{Jr, Calf, Calt}
use Rattle.isa.specs.declared.instructions.Control.TheVariants.{Bit, Skit, Sknit}
use Rattle.isa.specs.Codes.{line_coded, r1_at, r2_at, register_at, rp1_at, rp3_at, rpa2_at}
use Rattle.isa.specs.Decoding.{Decoded, decoded, behind_48, table_48, behind_4c, table_4c, behind_4d, table_4d, behind_60, table_60, behind_64, table_64, behind_70, table_70, behind_74, table_74, low_70, high_70}
use Rattle.isa.proofs.Rows.{agree}
use Rattle.isa.proofs.decoding.decode.Goals as goal

-- behind a prefix it is enough to meet the prefix's own table
via_48 : (x : Decoded) (n s : ℕ) → n ≡ 72 → x ≡ table_48 s → x ≡ decoded n s
unfolding behind_48
via_48 x n s e h = h ∙ sym (ap (λ (k : ℕ). decoded k s) e)

via_4c : (x : Decoded) (n s : ℕ) → n ≡ 76 → x ≡ table_4c s → x ≡ decoded n s
unfolding behind_4c
via_4c x n s e h = h ∙ sym (ap (λ (k : ℕ). decoded k s) e)

via_4d : (x : Decoded) (n s : ℕ) → n ≡ 77 → x ≡ table_4d s → x ≡ decoded n s
unfolding behind_4d
via_4d x n s e h = h ∙ sym (ap (λ (k : ℕ). decoded k s) e)

via_60 : (x : Decoded) (n s : ℕ) → n ≡ 96 → x ≡ table_60 s → x ≡ decoded n s
unfolding behind_60
via_60 x n s e h = h ∙ sym (ap (λ (k : ℕ). decoded k s) e)

via_64 : (x : Decoded) (n s : ℕ) → n ≡ 100 → x ≡ table_64 s → x ≡ decoded n s
unfolding behind_64
via_64 x n s e h = h ∙ sym (ap (λ (k : ℕ). decoded k s) e)

via_70 : (x : Decoded) (n s : ℕ) → n ≡ 112 → x ≡ table_70 s → x ≡ decoded n s
unfolding behind_70
via_70 x n s e h = h ∙ sym (ap (λ (k : ℕ). decoded k s) e)

via_74 : (x : Decoded) (n s : ℕ) → n ≡ 116 → x ≡ table_74 s → x ≡ decoded n s
unfolding behind_74
via_74 x n s e h = h ∙ sym (ap (λ (k : ℕ). decoded k s) e)

via_70_low : (x : Decoded) (n s : ℕ) → n ≡ 112 → s < 128 → x ≡ low_70 s → x ≡ decoded n s
via_70_low x n s e l h = via_70 x n s e (h ∙ sym (ap (λ (b : Bool). cond b (low_70 s) (high_70 s)) (lt-ltb s 128 l)))

pub returns-in-8-to-15 : goal.returns-in-8-to-15
returns-in-8-to-15 c = let e = agree (λ n. Ok (Transfer (MovFromR1 (r1_at (n % 8))))) (λ n. decoded n c.args.second) 8 8 refl c.args.first (search rules) (search rules) in cc

pub returns-in-24-to-31 : goal.returns-in-24-to-31
returns-in-24-to-31 c = let e = agree (λ n. Ok (Transfer (MovToR1 (r1_at (n % 8))))) (λ n. decoded n c.args.second) 24 8 refl c.args.first (search rules) (search rules) in cc

pub returns-in-41-to-47 : goal.returns-in-41-to-47
returns-in-41-to-47 c = let e = agree (λ n. Ok (Transfer (Ldax (rpa2_at (n % 8))))) (λ n. decoded n c.args.second) 41 7 refl c.args.first (search rules) (search rules) in cc

pub returns-in-57-to-63 : goal.returns-in-57-to-63
returns-in-57-to-63 c = let e = agree (λ n. Ok (Transfer (Stax (rpa2_at (n % 8))))) (λ n. decoded n c.args.second) 57 7 refl c.args.first (search rules) (search rules) in cc

pub returns-in-65-to-67 : goal.returns-in-65-to-67
returns-in-65-to-67 c = let e = agree (λ n. Ok (Arithmetic (Inr (r2_at (n % 4))))) (λ n. decoded n c.args.second) 65 3 refl c.args.first (search rules) (search rules) in cc

pub returns-in-73-to-75 : goal.returns-in-73-to-75
returns-in-73-to-75 c = let e = agree (λ n. Ok (Transfer (Mvix (rp3_at (n % 4))))) (λ n. decoded n c.args.second) 73 3 refl c.args.first (search rules) (search rules) in cc

pub returns-in-81-to-83 : goal.returns-in-81-to-83
returns-in-81-to-83 c = let e = agree (λ n. Ok (Arithmetic (Dcr (r2_at (n % 4))))) (λ n. decoded n c.args.second) 81 3 refl c.args.first (search rules) (search rules) in cc

pub returns-in-88-to-95 : goal.returns-in-88-to-95
returns-in-88-to-95 c = let e = agree (λ n. Ok (Control (Bit (n % 8)))) (λ n. decoded n c.args.second) 88 8 refl c.args.first (search rules) (search rules) in cc

pub returns-in-104-to-111 : goal.returns-in-104-to-111
returns-in-104-to-111 c = let e = agree (λ n. Ok (Transfer (Mvi (register_at (n % 8))))) (λ n. decoded n c.args.second) 104 8 refl c.args.first (search rules) (search rules) in cc

pub returns-in-120-to-127 : goal.returns-in-120-to-127
returns-in-120-to-127 c = let e = agree (λ n. Ok (Jump (Calf (n % 8)))) (λ n. decoded n c.args.second) 120 8 refl c.args.first (search rules) (search rules) in cc

pub returns-in-128-to-159 : goal.returns-in-128-to-159
returns-in-128-to-159 c = let e = agree (λ n. Ok (Jump (Calt (n % 32)))) (λ n. decoded n c.args.second) 128 32 refl c.args.first (search rules) (search rules) in cc

pub returns-in-160-to-164 : goal.returns-in-160-to-164
returns-in-160-to-164 c = let e = agree (λ n. Ok (Transfer (Pop (rp1_at (n % 8))))) (λ n. decoded n c.args.second) 160 5 refl c.args.first (search rules) (search rules) in cc

pub returns-in-165-to-167 : goal.returns-in-165-to-167
returns-in-165-to-167 c = let e = agree (λ n. Ok (Transfer (DmovToEa (rp3_at (n % 4))))) (λ n. decoded n c.args.second) 165 3 refl c.args.first (search rules) (search rules) in cc

pub returns-in-171-to-175 : goal.returns-in-171-to-175
returns-in-171-to-175 c = let e = agree (λ n. Ok (Transfer (Ldax (rpa2_at (n % 16))))) (λ n. decoded n c.args.second) 171 5 refl c.args.first (search rules) (search rules) in cc

pub returns-in-176-to-180 : goal.returns-in-176-to-180
returns-in-176-to-180 c = let e = agree (λ n. Ok (Transfer (Push (rp1_at (n % 8))))) (λ n. decoded n c.args.second) 176 5 refl c.args.first (search rules) (search rules) in cc

pub returns-in-181-to-183 : goal.returns-in-181-to-183
returns-in-181-to-183 c = let e = agree (λ n. Ok (Transfer (DmovFromEa (rp3_at (n % 4))))) (λ n. decoded n c.args.second) 181 3 refl c.args.first (search rules) (search rules) in cc

pub returns-in-187-to-191 : goal.returns-in-187-to-191
returns-in-187-to-191 c = let e = agree (λ n. Ok (Transfer (Stax (rpa2_at (n % 16))))) (λ n. decoded n c.args.second) 187 5 refl c.args.first (search rules) (search rules) in cc

pub returns-in-192-to-255 : goal.returns-in-192-to-255
returns-in-192-to-255 c = let e = agree (λ n. Ok (Jump (Jr (n % 64)))) (λ n. decoded n c.args.second) 192 64 refl c.args.first (search rules) (search rules) in cc

pub returns-in-45-to-47 : goal.returns-in-45-to-47
returns-in-45-to-47 c = let e = agree (λ n. Ok (Arithmetic (Mul (r2_at (n % 4))))) table_48 45 3 refl c.args.second (search rules) (search rules) in via_48 _ c.args.first c.args.second (search rules) (cc)

pub returns-in-49-to-51 : goal.returns-in-49-to-51
returns-in-49-to-51 c = let e = agree (λ n. Ok (Arithmetic (Rlr (r2_at (n % 4))))) table_48 49 3 refl c.args.second (search rules) (search rules) in via_48 _ c.args.first c.args.second (search rules) (cc)

pub returns-in-53-to-55 : goal.returns-in-53-to-55
returns-in-53-to-55 c = let e = agree (λ n. Ok (Arithmetic (Rll (r2_at (n % 4))))) table_48 53 3 refl c.args.second (search rules) (search rules) in via_48 _ c.args.first c.args.second (search rules) (cc)

pub returns-in-61-to-63 : goal.returns-in-61-to-63
returns-in-61-to-63 c = let e = agree (λ n. Ok (Arithmetic (Div (r2_at (n % 4))))) table_48 61 3 refl c.args.second (search rules) (search rules) in via_48 _ c.args.first c.args.second (search rules) (cc)

pub returns-in-64-to-74 : goal.returns-in-64-to-74
returns-in-64-to-74 c = let e = agree (λ n. Ok (Control (Skit (line_coded (n % 16))))) table_48 64 11 refl c.args.second (search rules) (search rules) in via_48 _ c.args.first c.args.second (search rules) (cc)

pub returns-in-96-to-106 : goal.returns-in-96-to-106
returns-in-96-to-106 c = let e = agree (λ n. Ok (Control (Sknit (line_coded (n % 16))))) table_48 96 11 refl c.args.second (search rules) (search rules) in via_48 _ c.args.first c.args.second (search rules) (cc)

pub returns-in-130-to-133 : goal.returns-in-130-to-133
returns-in-130-to-133 c = via_48 _ c.args.first c.args.second (search rules) (search rules)

pub returns-in-146-to-149 : goal.returns-in-146-to-149
returns-in-146-to-149 c = via_48 _ c.args.first c.args.second (search rules) (search rules)

pub returns-in_default : goal.returns-in_default
returns-in_default c = via_48 _ c.args.first c.args.second (search rules) (search rules)

pub returns-in_default-2 : goal.returns-in_default-2
returns-in_default-2 c = via_48 _ c.args.first c.args.second (search rules) (search rules)

pub returns-in_default-3 : goal.returns-in_default-3
returns-in_default-3 c = via_48 _ c.args.first c.args.second (search rules) (search rules)

pub returns-in_default-4 : goal.returns-in_default-4
returns-in_default-4 c = via_48 _ c.args.first c.args.second (search rules) (search rules)

pub returns-in_default-5 : goal.returns-in_default-5
returns-in_default-5 c = via_48 _ c.args.first c.args.second (search rules) (search rules)

pub returns-in_default-6 : goal.returns-in_default-6
returns-in_default-6 c = via_48 _ c.args.first c.args.second (search rules) (search rules)

pub returns-in_default-7 : goal.returns-in_default-7
returns-in_default-7 c = via_48 _ c.args.first c.args.second (search rules) (search rules)

pub returns-in_default-8 : goal.returns-in_default-8
returns-in_default-8 c = via_48 _ c.args.first c.args.second (search rules) (search rules)

pub returns-in_default-9 : goal.returns-in_default-9
returns-in_default-9 c = via_48 _ c.args.first c.args.second (search rules) (search rules)

pub returns-in_default-10 : goal.returns-in_default-10
returns-in_default-10 c = via_48 _ c.args.first c.args.second (search rules) (search rules)

pub returns-in_default-11 : goal.returns-in_default-11
returns-in_default-11 c = via_48 _ c.args.first c.args.second (search rules) (search rules)

pub returns-in_default-12 : goal.returns-in_default-12
returns-in_default-12 c = via_48 _ c.args.first c.args.second (search rules) (search rules)

pub returns-in_default-13 : goal.returns-in_default-13
returns-in_default-13 c = via_48 _ c.args.first c.args.second (search rules) (search rules)

pub returns-in_default-14 : goal.returns-in_default-14
returns-in_default-14 c = via_48 _ c.args.first c.args.second (search rules) (search rules)

pub returns-in_default-15 : goal.returns-in_default-15
returns-in_default-15 c = via_48 _ c.args.first c.args.second (search rules) (search rules)

pub returns-in_default-16 : goal.returns-in_default-16
returns-in_default-16 c = via_48 _ c.args.first c.args.second (search rules) (search rules)

pub returns-in-76 : goal.returns-in-76
returns-in-76 c = via_4c _ c.args.first c.args.second (search rules) (search rules)

pub returns-in-76-2-2 : goal.returns-in-76-2-2
returns-in-76-2-2 c = via_4c _ c.args.first c.args.second (search rules) (search rules)

pub returns-in-77 : goal.returns-in-77
returns-in-77 c = via_4d _ c.args.first c.args.second (search rules) (search rules)

pub returns-in-77-2-2 : goal.returns-in-77-2-2
returns-in-77-2-2 c = via_4d _ c.args.first c.args.second (search rules) (search rules)

pub returns-in-96-2 : goal.returns-in-96-2
returns-in-96-2 c = via_60 _ c.args.first c.args.second (search rules) (search rules)

pub returns-in-96-3 : goal.returns-in-96-3
returns-in-96-3 c = via_60 _ c.args.first c.args.second (search rules) (search rules)

pub returns-in-96-4 : goal.returns-in-96-4
returns-in-96-4 c = via_60 _ c.args.first c.args.second (search rules) (search rules)

pub returns-in-100-3 : goal.returns-in-100-3
returns-in-100-3 c = via_64 _ c.args.first c.args.second (search rules) (search rules)

pub returns-in-112-2 : goal.returns-in-112-2
returns-in-112-2 c = via_70 _ c.args.first c.args.second (search rules) (search rules)

pub returns-in-112-3 : goal.returns-in-112-3
returns-in-112-3 c = via_70 _ c.args.first c.args.second (search rules) (search rules)

pub returns-in-116-2 : goal.returns-in-116-2
returns-in-116-2 c = via_74 _ c.args.first c.args.second (search rules) (search rules)

pub returns-in-116-3 : goal.returns-in-116-3
returns-in-116-3 c = via_74 _ c.args.first c.args.second (search rules) (search rules)

pub returns-in-116-4 : goal.returns-in-116-4
returns-in-116-4 c = via_74 _ c.args.first c.args.second (search rules) (search rules)

pub returns-in-116-5 : goal.returns-in-116-5
returns-in-116-5 c = via_74 _ c.args.first c.args.second (search rules) (search rules)

pub returns-in-65-to-67-second : goal.returns-in-65-to-67-second
returns-in-65-to-67-second c = let e = agree (λ n. Ok (Arithmetic (Eadd (r2_at (n % 4))))) low_70 65 3 refl c.args.second (search rules) (search rules) in via_70_low _ c.args.first c.args.second (search rules) (search rules) (cc)

pub returns-in-97-to-99 : goal.returns-in-97-to-99
returns-in-97-to-99 c = let e = agree (λ n. Ok (Arithmetic (Esub (r2_at (n % 4))))) low_70 97 3 refl c.args.second (search rules) (search rules) in via_70_low _ c.args.first c.args.second (search rules) (search rules) (cc)

pub returns-in-104-to-111-second : goal.returns-in-104-to-111-second
returns-in-104-to-111-second c = let e = agree (λ n. Ok (Transfer (MovLoad (register_at (n % 8))))) low_70 104 8 refl c.args.second (search rules) (search rules) in via_70_low _ c.args.first c.args.second (search rules) (search rules) (cc)

pub returns-in-120-to-127-second : goal.returns-in-120-to-127-second
returns-in-120-to-127-second c = let e = agree (λ n. Ok (Transfer (MovStore (register_at (n % 8))))) low_70 120 8 refl c.args.second (search rules) (search rules) in via_70_low _ c.args.first c.args.second (search rules) (search rules) (cc)

pub returns-in_default-second : goal.returns-in_default-second
returns-in_default-second c = via_70_low _ c.args.first c.args.second (search rules) (search rules) (search rules)

pub returns-in_default-second-2 : goal.returns-in_default-second-2
returns-in_default-second-2 c = via_70_low _ c.args.first c.args.second (search rules) (search rules) (search rules)

pub returns-in_default-second-3 : goal.returns-in_default-second-3
returns-in_default-second-3 c = via_70_low _ c.args.first c.args.second (search rules) (search rules) (search rules)

pub returns-in_default-second-4 : goal.returns-in_default-second-4
returns-in_default-second-4 c = via_70_low _ c.args.first c.args.second (search rules) (search rules) (search rules)
