-- A signal that is counted, and a change of each line in turn. Assumes nothing.
use Rattle.std.proofs.Common.{◌≡◌, ℕ, ◌+◌, ◌<◌, ◌≤◌, Bool, true, false, ltb, sym, ap, ◌∙◌, inl, inr, arith}
use mathlib.Core.Path.{fun_ext}
use Rattle.std.proofs.lemmas.Bool.{cases_eq, cases_lt, lt-ltb, le-ltb}
use Rattle.requests.specs.declared.tally.Tally.{Tally}
use Rattle.requests.specs.declared.tally.Cause.{Cause}
use Rattle.requests.specs.declared.tally.Cause.TheVariants.{Entry, Test, Reset}
use Rattle.requests.specs.Request.{Request, tally_of, request_of, one, Whole, last, when, counted, signalled, cleared_by, cleared_in}
use Rattle.requests.specs.All.{at_line}
use Rattle.requests.proofs.Places.{at_here, at_other, left_alone}

pub counts : (r : Request) (t : Tally) (n : ℕ) → t ≡ tally_of r → n ≡ one r.waiting → t.signals < last → request_of true (record { signals = t.signals + 1; merged = t.merged + n; entered = t.entered; tested = t.tested; dropped = t.dropped }) ≡ signalled r
counts r t n same waits h =
    let room : ltb r.signals last ≡ true = lt-ltb r.signals last (omega (arith, ap (λ x. x.signals) same)) in
    (λ i. request_of true (record { signals = (same i).signals + 1; merged = (same i).merged + waits i; entered = (same i).entered; tested = (same i).tested; dropped = (same i).dropped }))
    ∙ sym (ap (λ b. when b counted r) room)

-- the lines below a number changed
unfoldable pub up_to : (ℕ → Request → Request) → ℕ → (ℕ → Request) → ℕ → Request
up_to f n rs k = when (ltb k n) (f k) (rs k)

module _ (f : ℕ → Request → Request) (rs : ℕ → Request) where
  below : (n k : ℕ) → k < n → up_to f n rs k ≡ f k (rs k)
  unfolding up_to
  below n k h = ap (λ b. when b (f k) (rs k)) (lt-ltb k n h)

  above : (n k : ℕ) → n ≤ k → up_to f n rs k ≡ rs k
  unfolding up_to
  above n k h = ap (λ b. when b (f k) (rs k)) (le-ltb k n h)

  pub none_yet : rs ≡ up_to f 0 rs
  none_yet = fun_ext (λ k. sym (above 0 k (omega arith)))

  one_more : (n : ℕ) → at_line n (f n) (up_to f n rs) ≡ up_to f (n + 1) rs
  one_more n = fun_ext (λ k. elim (cases_eq k n) [
    | inl e ↦
        at_here n k (f n) (up_to f n rs) e ∙ ap (f n) (above n k (omega arith)) ∙ sym (ap (λ m. f m (rs k)) e)
        ∙ sym (below (n + 1) k (omega arith))
    | inr ne ↦ at_other n k (f n) (up_to f n rs) ne ∙ elim (cases_lt k n) [
      | inl h ↦ below n k h ∙ sym (below (n + 1) k (omega arith))
      | inr h ↦ above n k h ∙ sym (above (n + 1) k (omega arith))
    ]
  ])

  pub next : (n m : ℕ) (now after : ℕ → Request) → after ≡ at_line m (f n) now → m ≡ n → now ≡ up_to f n rs → after ≡ up_to f (n + 1) rs
  next n m now after e same so_far = e ∙ (λ i. at_line (same i) (f n) (so_far i)) ∙ one_more n

  pub all_done : (n : ℕ) → ((k : ℕ) → n ≤ k → f k (rs k) ≡ rs k) → up_to f n rs ≡ (λ k. f k (rs k))
  all_done n past = fun_ext (λ k. elim (cases_lt k n) [ inl h ↦ below n k h | inr h ↦ above n k h ∙ sym (past k h) ])

-- the next line changed where it is in a set, and left where it is not
module _ (rising : ℕ → Bool) (f : Request → Request) (rs : ℕ → Request) (n m : ℕ) (now after : ℕ → Request) (same : m ≡ n)
    (so_far : now ≡ up_to (λ k. when (rising k) f) n rs) where
  pub taken : after ≡ at_line m f now → rising m ≡ true → after ≡ up_to (λ k. when (rising k) f) (n + 1) rs
  taken e on = next (λ k. when (rising k) f) rs n m now after (e ∙ (λ i. at_line m (when (sym (ap rising (sym same) ∙ on) i) f) now)) same so_far

  pub skipped : after ≡ now → rising m ≡ false → after ≡ up_to (λ k. when (rising k) f) (n + 1) rs
  skipped e off = next (λ k. when (rising k) f) rs n m now after
      (e ∙ left_alone (when (rising n) f) m now (ap (λ b. when b f (now m)) (ap rising (sym same) ∙ off))) same so_far

-- a mark that is set and cleared, counted by its cause
pub clears : (cause : Cause) (r : Request) (t : Tally) → t ≡ tally_of r → r.waiting ≡ true → request_of false (cleared_in cause t) ≡ cleared_by cause r
clears Entry r t e on =
    λ i. record { waiting = false; signals = (e i).signals; merged = (e i).merged; entered = (e i).entered + one (sym on i); tested = (e i).tested; dropped = (e i).dropped }
clears Test r t e on =
    λ i. record { waiting = false; signals = (e i).signals; merged = (e i).merged; entered = (e i).entered; tested = (e i).tested + one (sym on i); dropped = (e i).dropped }
clears Reset r t e on =
    λ i. record { waiting = false; signals = (e i).signals; merged = (e i).merged; entered = (e i).entered; tested = (e i).tested; dropped = (e i).dropped + one (sym on i) }

pub clears_whole : (cause : Cause) (r : Request) → Whole r → Whole (cleared_by cause r)
clears_whole Entry r h = omega arith
clears_whole Test r h = omega arith
clears_whole Reset r h = omega arith

-- a line that does not wait is left
pub no_clear : (cause : Cause) (r : Request) → r.waiting ≡ false → cleared_by cause r ≡ r
no_clear Entry r e =
    let none : r.entered + one r.waiting ≡ r.entered = ap (λ b. r.entered + one b) e ∙ omega arith in
    λ i. record { waiting = sym e i; signals = r.signals; merged = r.merged; entered = none i; tested = r.tested; dropped = r.dropped }
no_clear Test r e =
    let none : r.tested + one r.waiting ≡ r.tested = ap (λ b. r.tested + one b) e ∙ omega arith in
    λ i. record { waiting = sym e i; signals = r.signals; merged = r.merged; entered = r.entered; tested = none i; dropped = r.dropped }
no_clear Reset r e =
    let none : r.dropped + one r.waiting ≡ r.dropped = ap (λ b. r.dropped + one b) e ∙ omega arith in
    λ i. record { waiting = sym e i; signals = r.signals; merged = r.merged; entered = r.entered; tested = r.tested; dropped = none i }
