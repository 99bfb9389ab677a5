-- n states of the timers at once are the one-state rule n times. Assumes nothing.
use Rattle.std.proofs.Common.{◌≡◌, ℕ, zero, suc, ◌+◌, ◌/◌, ◌%◌, ◌<◌, Bool, true, false, cond, ◌&&◌, ◌||◌, eqb, ltb, sym, refl, ap, ◌∙◌, add-one, arith}
use mathlib.Core.Path.{fun_ext}
use Rattle.std.proofs.lemmas.Bool.{eqb-true, eqb-false}
use Rattle.std.proofs.lemmas.Bool.Decides.{nat_tests}
use Rattle.panel.specs.Rules.{passed, rose}
use Rattle.timers.specs.Timing.{Count, Timing, timer_steps, timer_matches, timer_after, timing_rules, timing_state, timing_rising, stops0, stops1, choice0, choice1, match0, match1, stepped, turned}
use Rattle.timers.specs.Counting.{counted, matches, steps_in, ran, matched, steps0, steps1, matches0, matches1, timing_after, timing_rose}

-- one more where a test holds
abbrev more : Bool → ℕ → ℕ
more true k = suc k
more false k = k

by_cases : (b : Bool) (x k : ℕ) → (b ≡ true → x ≡ suc k) → (b ≡ false → x ≡ k) → x ≡ more b k
by_cases true x k h g = h refl
by_cases false x k h g = g refl

-- one state more brings one more multiple of 4 or of 128, or as many
fours : (p n q : ℕ) → q ≡ (p + suc n) % 128 → (p % 4 + suc n) / 4 ≡ more (eqb (q % 4) 0) ((p % 4 + n) / 4)
fours p n q e = by_cases (eqb (q % 4) 0) ((p % 4 + suc n) / 4) ((p % 4 + n) / 4)
    (λ h. let z = eqb-true (q % 4) 0 h in omega arith) (λ h. let z = eqb-false (q % 4) 0 h in omega arith)

wholes : (p n q : ℕ) → q ≡ (p + suc n) % 128 → (p % 128 + suc n) / 128 ≡ more (eqb q 0) ((p % 128 + n) / 128)
wholes p n q e = by_cases (eqb q 0) ((p % 128 + suc n) / 128) ((p % 128 + n) / 128)
    (λ h. let z = eqb-true q 0 h in omega arith) (λ h. let z = eqb-false q 0 h in omega arith)

choose : (a b d carried f w : Bool) (m x y x' y' : ℕ) → x' ≡ more f x → y' ≡ more w y
    → cond a x' (cond b y' (cond d (more carried m) 0)) ≡ more (cond a f (cond b w (d && carried))) (cond a x (cond b y (cond d m 0)))
choose true b d carried f w m x y x' y' e g = e
choose false true d carried f w m x y x' y' e g = g
choose false false true carried f w m x y x' y' e g = refl
choose false false false carried f w m x y x' y' e g = refl

-- one state more, in which the counter steps or does not
counts : (byte c k : ℕ) (steps : Bool)
    → cond (steps && eqb (stepped (counted byte c k)) byte) 0 (cond steps (stepped (counted byte c k)) (counted byte c k)) ≡ counted byte c (more steps k)
unfolding counted
counts byte c k true = refl
counts byte c k false = refl

found : (byte c k : ℕ) (steps : Bool) → matches byte c (more steps k) ≡ more (steps && eqb (stepped (counted byte c k)) byte) (matches byte c k)
unfolding counted matches
found byte c k true = by_test (eqb (stepped (counted byte c k)) byte) (matches byte c k)
  where
    by_test : (b : Bool) (m : ℕ) → cond b (m + 1) m ≡ more b m
    by_test true m = add-one m
    by_test false m = refl
found byte c k false = refl

-- a timer after n states and then one more; `m` matches of timer 0 were carried over to it, and now one more or none
module _ (choice byte : ℕ) (carried : Bool) (m n : ℕ) (t : Count) where
  abbrev k : ℕ
  k = steps_in choice m t.prescaler n

  next : turned ((t.prescaler + n) % 128) ≡ (t.prescaler + suc n) % 128
  next = omega arith

  steps_next : steps_in choice (more carried m) t.prescaler (suc n) ≡ more (timer_steps false choice carried (ran false k n byte t)) k
  steps_next =
      let p = t.prescaler in
      let q : ℕ = turned ((p + n) % 128) in
      choose (eqb choice 0) (eqb choice 1) (eqb choice 3) carried (eqb (q % 4) 0) (eqb q 0) m _ _ _ _ (fours p n q next) (wholes p n q next)

  pub timer_next : (stopped : Bool)
      → timer_after stopped choice carried byte (ran stopped k n byte t) ≡ ran stopped (steps_in choice (more carried m) t.prescaler (suc n)) (suc n) byte t
  unfolding timer_after timer_matches
  timer_next true = refl
  timer_next false =
      (λ i. record { prescaler = next i; counter = counts byte t.counter k (timer_steps false choice carried (ran false k n byte t)) i })
      ∙ ap (λ j. ran false j (suc n) byte t) (sym steps_next)

  pub matches_next : (stopped : Bool)
      → matched stopped (steps_in choice (more carried m) t.prescaler (suc n)) byte t
      ≡ more (timer_matches stopped choice carried byte (ran stopped k n byte t)) (matched stopped k byte t)
  unfolding timer_matches
  matches_next true = refl
  matches_next false = ap (matches byte t.counter) steps_next ∙ found byte t.counter k (timer_steps false choice carried (ran false k n byte t))

-- no state
no_steps : (choice p : ℕ) → steps_in choice 0 p 0 ≡ 0
no_steps choice p =
    let four : (p % 4 + 0) / 4 ≡ 0 = omega arith in
    let whole : (p % 128 + 0) / 128 ≡ 0 = omega arith in
    grind (arith, nat_tests)

stands : (stopped : Bool) (k byte : ℕ) (t : Count) → t.prescaler < 128 → k ≡ 0 → ran stopped k 0 byte t ≡ t
unfolding counted
stands true k byte t h e = refl
stands false k byte t h e =
    let same : (t.prescaler + 0) % 128 ≡ t.prescaler = omega arith in
    λ i. record { prescaler = same i; counter = counted byte t.counter (e i) }

no_matches : (stopped : Bool) (k byte : ℕ) (t : Count) → k ≡ 0 → matched stopped k byte t ≡ 0
unfolding matches
no_matches true k byte t e = refl
no_matches false k byte t e = ap (matches byte t.counter) e

module _ (s : Timing) where
  still0 : steps0 s 0 ≡ 0
  still0 = no_steps (choice0 s.tmm) s.timer0.prescaler

  none0 : matches0 s 0 ≡ 0
  none0 = no_matches (stops0 s.tmm) (steps0 s 0) s.tm0 s.timer0 still0

  still1 : steps1 s 0 ≡ 0
  still1 = ap (λ m. steps_in (choice1 s.tmm) m s.timer1.prescaler 0) none0 ∙ no_steps (choice1 s.tmm) s.timer1.prescaler

  none1 : matches1 s 0 ≡ 0
  none1 = no_matches (stops1 s.tmm) (steps1 s 0) s.tm1 s.timer1 still1

  module _ (n : ℕ) where
    now0 : matches0 s (suc n) ≡ more (match0 (timing_after s n)) (matches0 s n)
    now0 = matches_next (choice0 s.tmm) s.tm0 false 0 n s.timer0 (stops0 s.tmm)

    now1 : matches1 s (suc n) ≡ more (match1 (timing_after s n)) (matches1 s n)
    now1 = ap (λ m. matched (stops1 s.tmm) (steps_in (choice1 s.tmm) m s.timer1.prescaler (suc n)) s.tm1 s.timer1) now0
        ∙ matches_next (choice1 s.tmm) s.tm1 (match0 (timing_after s n)) (matches0 s n) n s.timer1 (stops1 s.tmm)

    goes : timing_state (timing_after s n) ≡ timing_after s (suc n)
    goes = λ i. record {
      tmm = s.tmm;
      tm0 = s.tm0;
      tm1 = s.tm1;
      timer0 = timer_next (choice0 s.tmm) s.tm0 false 0 n s.timer0 (stops0 s.tmm) i;
      timer1 = (timer_next (choice1 s.tmm) s.tm1 (match0 (timing_after s n)) (matches0 s n) n s.timer1 (stops1 s.tmm)
          ∙ ap (λ m. ran (stops1 s.tmm) (steps_in (choice1 s.tmm) m s.timer1.prescaler (suc n)) (suc n) s.tm1 s.timer1) (sym now0)) i;
    }

  module _ (low0 : s.timer0.prescaler < 128) (low1 : s.timer1.prescaler < 128) where
    pub passed_by : (n : ℕ) → passed timing_rules s n ≡ timing_after s n
    unfolding passed
    passed_by zero = sym (λ i. record {
      tmm = s.tmm;
      tm0 = s.tm0;
      tm1 = s.tm1;
      timer0 = stands (stops0 s.tmm) (steps0 s 0) s.tm0 s.timer0 low0 still0 i;
      timer1 = stands (stops1 s.tmm) (steps1 s 0) s.tm1 s.timer1 low1 still1 i;
    })
    passed_by (suc n) = ap timing_state (passed_by n) ∙ goes n

    pub rose_by : (n : ℕ) → rose timing_rules s n ≡ timing_rose s n
    unfolding rose
    rose_by zero = fun_ext (λ line. quiet (eqb line 1) (eqb line 2) ∙ sym (λ i. (eqb line 1 && ltb 0 (none0 i)) || (eqb line 2 && ltb 0 (none1 i))))
      where
        quiet : (x y : Bool) → false ≡ ((x && false) || (y && false))
        quiet true true = refl
        quiet true false = refl
        quiet false true = refl
        quiet false false = refl
    rose_by (suc n) = fun_ext (λ line.
        (λ i. rose_by n i line || timing_rising (passed_by n i) line)
        ∙ joined (eqb line 1) (eqb line 2) (matches0 s n) (matches1 s n) (match0 (timing_after s n)) (match1 (timing_after s n))
        ∙ sym (λ i. (eqb line 1 && ltb 0 (now0 n i)) || (eqb line 2 && ltb 0 (now1 n i))))
      where
        joined : (x y : Bool) (a c : ℕ) (b d : Bool)
            → (((x && ltb 0 a) || (y && ltb 0 c)) || ((x && b) || (y && d))) ≡ ((x && ltb 0 (more b a)) || (y && ltb 0 (more d c)))
        joined x y a c true true = grind (arith, nat_tests)
        joined x y a c true false = grind (arith, nat_tests)
        joined x y a c false true = grind (arith, nat_tests)
        joined x y a c false false = grind (arith, nat_tests)
