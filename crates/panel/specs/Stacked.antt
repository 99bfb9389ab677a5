-- One panel before another: the front has some codes, the panel behind the others, and states and resets go to both.
use Rattle.std.specs.Prelude.{ℕ, Bool, cond, ◌||◌}
use Rattle.panel.specs.Rules.{Rules}

-- the standing of both
pub record Stacked (A B : Type 0) : Type 0 where
  pub front : A
  pub behind : B

-- two standings as one
abbrev pub stacked : {A B : Type 0} → A → B → Stacked A B
stacked a b = record { front = a; behind = b }

-- the rules of both, where the front has the codes that it owns
abbrev pub before : {A B : Type 0} → (ℕ → Bool) → Rules A → Rules B → Rules (Stacked A B)
before owns a b = record {
  shown = λ s code. cond (owns code) (a.shown s.front code) (b.shown s.behind code);
  putting = λ s code byte. cond (owns code) (stacked (a.putting s.front code byte) s.behind) (stacked s.front (b.putting s.behind code byte));
  state = λ s. stacked (a.state s.front) (b.state s.behind);
  rising = λ s line. a.rising s.front line || b.rising s.behind line;
  clearing = λ s. stacked (a.clearing s.front) (b.clearing s.behind);
}
