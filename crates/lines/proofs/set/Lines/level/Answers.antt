use Rattle.std.proofs.Common.{sym, ap, arith}
use Rattle.lines.specs.Levels.{named_level}
use Rattle.lines.specs.Of.{lines_of}
use Rattle.lines.proofs.Digits.{levelled, no_level}
use Rattle.lines.proofs.set.Lines.level.Goals as goal

pub returns-in-0 : goal.returns-in-0
unfolding lines_of
returns-in-0 c =
    let is = levelled c.args.self.bits c.args.self.ok 0 (omega arith) (omega arith) in
    record { value = sym (ap named_level is); number = sym is }

pub returns-in-1 : goal.returns-in-1
unfolding lines_of
returns-in-1 c =
    let is = levelled c.args.self.bits c.args.self.ok 1 (omega arith) (omega arith) in
    record { value = sym (ap named_level is); number = sym is }

pub returns-in-3 : goal.returns-in-3
unfolding lines_of
returns-in-3 c =
    let is = levelled c.args.self.bits c.args.self.ok 2 (omega arith) (omega arith) in
    record { value = sym (ap named_level is); number = sym is }

pub returns-in-5 : goal.returns-in-5
unfolding lines_of
returns-in-5 c =
    let is = levelled c.args.self.bits c.args.self.ok 3 (omega arith) (omega arith) in
    record { value = sym (ap named_level is); number = sym is }

pub returns-in-7 : goal.returns-in-7
unfolding lines_of
returns-in-7 c =
    let is = levelled c.args.self.bits c.args.self.ok 4 (omega arith) (omega arith) in
    record { value = sym (ap named_level is); number = sym is }

pub returns-in-9 : goal.returns-in-9
unfolding lines_of
returns-in-9 c =
    let is = levelled c.args.self.bits c.args.self.ok 5 (omega arith) (omega arith) in
    record { value = sym (ap named_level is); number = sym is }

pub returns-in_default : goal.returns-in_default
unfolding lines_of
returns-in_default c =
    let is = no_level c.args.self.bits c.args.self.ok (omega arith) in
    record { value = sym (ap named_level is); number = sym is }
