-- Playing a session record by record. Assumes nothing.
use Rattle.std.proofs.Common.{◌≡◌, ℕ, zero, suc, ◌+◌, ◌-◌, ◌<◌, ◌≤◌, true, ltb, List, length, get_or, drop, set, Ok, Err, Result, sym, refl, ap, ◌∙◌, arith}
use Rattle.std.proofs.lemmas.List.{at_drop_more, at_drop_all}
use Rattle.std.proofs.lemmas.Bool.{lt-ltb, le-ltb}
use Rattle.session.specs.declared.fault.SessionFault.{SessionFault}
use Rattle.session.specs.declared.fault.Place.{Place}
use Rattle.session.specs.Load.{Loaded, Ending, stored, turned, turn_answer, turn_after, closed, onward, loads}

-- a session that is at a place, in a state s
module _ (session : List ℕ) (s : Loaded) (p : Place) (fewer : p.number ≤ p.offset) where
  -- all that is left from here on
  abbrev left : Ending
  left = loads (1 + length session - p.number) s session p.number p.offset

  module _ (t : Loaded) (inside : p.offset < length session) (after : t ≡ turn_after (turned s session p) s) where
    -- the turn at this record
    this : left ≡ onward (turned s session p) s (λ u k. loads (1 + length session - (p.number + 1)) u session (p.number + 1) (p.offset + k))
    unfolding loads
    this =
        let spare : 1 + length session - p.number ≡ suc (1 + length session - (p.number + 1)) = omega arith in
        let more : ltb p.offset (length session) ≡ true = lt-ltb p.offset (length session) inside in
        rw (spare, more)

    pub loads_more : (q : Place) → turn_answer p (turned s session p) ≡ Ok q → loads (1 + length session - q.number) t session q.number q.offset ≡ left
    loads_more q a = sym (this ∙ on (turned s session p) a after)
      where
        on : (res : Result (Loaded × ℕ) SessionFault) → turn_answer p res ≡ Ok q → t ≡ turn_after res s
            → onward res s (λ u k. loads (1 + length session - (p.number + 1)) u session (p.number + 1) (p.offset + k)) ≡ loads (1 + length session - q.number) t session q.number q.offset
        on (Ok r) e f = cc
        on (Err g) e f = absurd (grind arith)

    pub loads_fault : (f : SessionFault) → turn_answer p (turned s session p) ≡ Err f → left ≡ (t, Err f)
    loads_fault f a = this ∙ stop (turned s session p) a after
      where
        stop : (res : Result (Loaded × ℕ) SessionFault) → turn_answer p res ≡ Err f → t ≡ turn_after res s
            → onward res s (λ u k. loads (1 + length session - (p.number + 1)) u session (p.number + 1) (p.offset + k)) ≡ (t, Err f)
        stop (Ok r) e f = absurd (grind arith)
        stop (Err g) e f = cc

  -- at the session's end
  at_end : (turns : ℕ) → length session ≤ p.offset → loads turns s session p.number p.offset ≡ (s, closed s p)
  unfolding loads
  at_end zero h = refl
  at_end (suc turns) h = rw (le-ltb p.offset (length session) h)

  pub loads_end : length session ≤ p.offset → left ≡ (s, closed s p)
  loads_end = at_end (1 + length session - p.number)

-- one more byte of a page, and none left
pub stored_more : (m : List ℕ) (a i : ℕ) (bs : List ℕ) → i < length bs → stored (set m (a + i) (get_or bs i 0)) (a + (i + 1)) (drop (i + 1) bs) ≡ stored m (a + i) (drop i bs)
unfolding stored
stored_more m a i bs h =
    let e : a + (i + 1) ≡ a + i + 1 = omega arith in
    ap (λ n. stored (set m (a + i) (get_or bs i 0)) n (drop (i + 1) bs)) e ∙ sym (at_drop_more (stored m (a + i)) bs i 0 h)

pub stored_all : (m : List ℕ) (a i : ℕ) (bs : List ℕ) → length bs ≤ i → stored m a (drop i bs) ≡ m
unfolding stored
stored_all m a i bs h = at_drop_all (stored m a) bs i h
