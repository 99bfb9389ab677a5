-- What a write of one line's mark and tally makes of the lines. Assumes nothing.
use Rattle.std.proofs.Common.{◌≡◌, ℕ, ◌<◌, Bool, true, false, List, length, get_or, set, replicate, sym, refl, ap, ◌∙◌, subst, inl, inr, arith}
use mathlib.Core.Path.{fun_ext}
use mir.Val.{bool_byte}
use Rattle.std.proofs.lemmas.List.{get_or-set_same, get_or-set_other, get_or_past}
use lib.ListN.{get_or-replicate, length-replicate}
use Rattle.std.proofs.lemmas.Bool.Decides.{nat_tests}
use Rattle.std.proofs.lemmas.Bool.{cases_eq, cases_lt, eq-eqb, ne_eqb}
use Rattle.lines.specs.declared.set.Lines.{Lines}
use Rattle.lines.specs.Of.{lines_of}
use Rattle.lines.specs.Sets.{with_line, without}
use Rattle.requests.specs.declared.tally.Tally.{Tally}
use Rattle.requests.specs.Request.{Request, quiet, tally_of, request_of, Whole, one, when}
use Rattle.requests.specs.All.{at_line}
use Rattle.requests.specs.At.{request_at}

-- a set in which one line is as w says, and the others as they were
pub record Marked (before after : ℕ → Bool) (n : ℕ) (w : Bool) : Type 0 where
  pub here : after n ≡ w
  pub others : (k : ℕ) → (k ≡ n → ⊥) → after k ≡ before k

pub inserted : (before after : ℕ → Bool) (n : ℕ) (w : Bool) → after ≡ with_line before n → w ≡ true → Marked before after n w
inserted before after n w e on = record {
  here = let at = ap (λ f. f n) e in grind (arith, nat_tests);
  others = λ k ne. let at = ap (λ f. f k) e in grind (arith, nat_tests);
}

pub removed : (before after : ℕ → Bool) (n : ℕ) (w : Bool) → after ≡ without before n → w ≡ false → Marked before after n w
removed before after n w e off = record {
  here = let at = ap (λ f. f n) e in grind (arith, nat_tests);
  others = λ k ne. let at = ap (λ f. f k) e in grind (arith, nat_tests);
}

pub at_here : (n k : ℕ) (f : Request → Request) (rs : ℕ → Request) → k ≡ n → at_line n f rs k ≡ f (rs k)
at_here n k f rs e = ap (λ b. when b f (rs k)) (eq-eqb k n e)

pub at_other : (n k : ℕ) (f : Request → Request) (rs : ℕ → Request) → (k ≡ n → ⊥) → at_line n f rs k ≡ rs k
at_other n k f rs ne = ap (λ b. when b f (rs k)) (ne_eqb k n ne)

module _ (before after : Lines) (tallies : List Tally) (n : ℕ) (w : Bool) (t : Tally) (at : ℕ) (same : at ≡ n) (inside : at < length tallies)
    (marked : Marked (lines_of before) (lines_of after) n w) where
  pub placed : request_at after (set tallies at t) ≡ at_line n (λ _. request_of w t) (request_at before tallies)
  placed = fun_ext (λ k. elim (cases_eq k n) [
    | inl e ↦
        (λ i. request_of (lines_of after (e i)) (get_or (set tallies at t) ((e ∙ sym same) i) (tally_of quiet)))
        ∙ (λ i. request_of (marked.here i) (get_or-set_same tallies at t (tally_of quiet) inside i))
        ∙ sym (at_here n k (λ _. request_of w t) (request_at before tallies) e)
    | inr ne ↦
        (λ i. request_of (marked.others k ne i) (get_or-set_other tallies at k t (tally_of quiet) (λ e. ne (e ∙ same)) i))
        ∙ sym (at_other n k (λ _. request_of w t) (request_at before tallies) ne)
  ])

  pub placed_whole : ((k : ℕ) → Whole (request_at before tallies k)) → Whole (request_of w t) → (k : ℕ) → Whole (request_at after (set tallies at t) k)
  placed_whole all here k = subst (λ (r : Request). Whole r) (sym (ap (λ f. f k) placed)) (elim (cases_eq k n) [
    | inl e ↦ subst (λ (r : Request). Whole r) (sym (at_here n k (λ _. request_of w t) (request_at before tallies) e)) here
    | inr ne ↦ subst (λ (r : Request). Whole r) (sym (at_other n k (λ _. request_of w t) (request_at before tallies) ne)) (all k)
  ])

-- a line that is changed and put back
pub put_back : (f : Request → Request) (n : ℕ) (rs after : ℕ → Request) (r : Request) → after ≡ at_line n (λ _. r) rs → r ≡ f (rs n) → after ≡ at_line n f rs
put_back f n rs after r e here = e ∙ fun_ext (λ k. elim (cases_eq k n) [
  | inl same ↦ at_here n k (λ _. r) rs same ∙ here ∙ sym (ap (λ m. f (rs m)) same) ∙ sym (at_here n k f rs same)
  | inr ne ↦ at_other n k (λ _. r) rs ne ∙ sym (at_other n k f rs ne)
])

-- a line that stays as it is
pub left_alone : (f : Request → Request) (n : ℕ) (rs : ℕ → Request) → f (rs n) ≡ rs n → rs ≡ at_line n f rs
left_alone f n rs e = fun_ext (λ k. elim (cases_eq k n) [
  | inl same ↦ ap rs same ∙ sym e ∙ sym (ap (λ m. f (rs m)) same) ∙ sym (at_here n k f rs same)
  | inr ne ↦ sym (at_other n k f rs ne)
])

-- tallies that are all the same
pub alike : (n k : ℕ) (t : Tally) → get_or (replicate n t) k t ≡ t
alike n k t = elim (cases_lt k n) [
  | inl h ↦ get_or-replicate n k t t h
  | inr h ↦ let size = length-replicate n t in get_or_past (replicate n t) k t (omega arith)
]

pub read_whole : (marks : Lines) (tallies : List Tally) (at n : ℕ) → at ≡ n → Whole (request_at marks tallies n) → Whole (request_of (lines_of marks n) (get_or tallies at (tally_of quiet)))
read_whole marks tallies at n same h = subst (λ (k : ℕ). Whole (request_of (lines_of marks n) (get_or tallies k (tally_of quiet)))) (sym same) h

pub byte_one : (b : Bool) → bool_byte b ≡ one b
byte_one true = refl
byte_one false = refl
