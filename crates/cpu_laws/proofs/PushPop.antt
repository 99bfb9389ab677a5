-- POP behind PUSH restores the pair, of any machine whose registers are of their widths.
use Rattle.std.proofs.Common.{◌≡◌, ◌<◌, refl, ◌∙◌, arith}
use Rattle.panel.specs.Rules.{Rules}
use Rattle.isa.specs.declared.operands.Rp1.{Rp1}
use Rattle.isa.specs.declared.operands.Rp1.TheVariants as rp1
use Rattle.registers.specs.declared.file.Registers.{Registers}
use Rattle.machine.specs.declared.words.WordRegister.{WordRegister}
use Rattle.machine.specs.declared.words.WordRegister.TheVariants.{Va, Bc, De, Hl, Ea, Sp}
use Rattle.machine.specs.Words.{past, back, word_at, pushed}
use Rattle.machine.specs.Registers.{with_pc, with_sp}
use Rattle.machine.specs.Operands.{word_in, with_word}
use Rattle.machine.specs.Model.{Model}
use Rattle.cpu_laws.specs.Widths.{Bytes, Fitting}
use Rattle.cpu_laws.specs.Runs.{pushed_and_popped}
use Rattle.cpu_laws.specs.Laws.{gone_on, Open, PopRestores}
use Rattle.cpu_laws.proofs.Stack.{pushed_word}

-- a word register holds a word
word_fits : (p : WordRegister) (s : Registers) → Fitting s → word_in p s < 65536
word_fits Va s x = omega (arith, x.main.v, x.main.a)
word_fits Bc s x = omega (arith, x.main.b, x.main.c)
word_fits De s x = omega (arith, x.main.d, x.main.e)
word_fits Hl s x = omega (arith, x.main.h, x.main.l)
word_fits Ea s x = x.ea
word_fits Sp s x = x.sp

-- a word put back where it came from
put_back : (p : WordRegister) (s : Registers) → Bytes s.main → with_word p (word_in p s) s ≡ s
put_back Va s x = grind arith
put_back Bc s x = grind arith
put_back De s x = grind arith
put_back Hl s x = grind arith
put_back Ea s x = refl
put_back Sp s x = refl

-- the registers behind PUSH and POP
popped : {S : Type 0} (p : WordRegister) (m : Model S) → Fitting m.core.registers → Open 1 m → Open 2 m
    → with_word p (word_at (pushed m.core.registers.sp (word_in p m.core.registers) m.cells) (back m.core.registers.sp 2))
    (with_sp (past (back m.core.registers.sp 2) 2) (gone_on 1 (gone_on 1 m.core.registers)))
    ≡ with_word p (word_in p m.core.registers) (gone_on 2 m.core.registers)
popped p m fits first second =
    let s = m.core.registers in
    let value = pushed_word m.cells s.sp (word_in p s) (word_fits p s fits) first second in
    let sp : past (back s.sp 2) 2 ≡ s.sp = omega (arith, fits.sp) in
    let pc : past (past s.pc 1) 1 ≡ past s.pc 2 = omega arith in
    λ i. with_word p (value i) (with_sp (sp i) (with_pc (pc i) (gone_on 2 s)))

pub pop_restores : {S : Type 0} (rules : Rules S) (pair : Rp1) (m : Model S)
    → Fitting m.core.registers → PopRestores m (pushed_and_popped rules pair m)
pop_restores rules rp1.Va m fits first second = popped Va m fits first second ∙ put_back Va (gone_on 2 m.core.registers) fits.main
pop_restores rules rp1.Bc m fits first second = popped Bc m fits first second ∙ put_back Bc (gone_on 2 m.core.registers) fits.main
pop_restores rules rp1.De m fits first second = popped De m fits first second ∙ put_back De (gone_on 2 m.core.registers) fits.main
pop_restores rules rp1.Hl m fits first second = popped Hl m fits first second ∙ put_back Hl (gone_on 2 m.core.registers) fits.main
pop_restores rules rp1.Ea m fits first second = popped Ea m fits first second
