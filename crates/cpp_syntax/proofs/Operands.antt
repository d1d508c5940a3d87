-- Where the operand of a cast begins.
use Rattle.std.proofs.Common.{◌≡◌, ℕ, ◌+◌, Bool, true, false, refl, sym as back, ◌∙◌, subst, ap, true≢false}
use Rattle.cpp_syntax.specs.declared.terminal.Terminal.{Terminal}
use Rattle.cpp_syntax.specs.declared.terminal.Terminal.TheVariants as terminal
use Rattle.cpp_syntax.specs.Source.{Source, terminal_at}
use Rattle.cpp_syntax.specs.Terminals.{begins_operand, open_paren, close_paren, is_step}
use Rattle.cpp_syntax.specs.Lookahead.{BeginsOperand, at_token, at_parenthesis, at_step}
use Rattle.cpp_syntax.proofs.TerminalTables.{passes, at_each, implies, implied}
use Rattle.cpp_syntax.proofs.DeclaratorForms.{differ}

-- an operand begins at one index exactly where one does at the other
pub record SameOperand (s : Source) (a b : ℕ) : Type 0 where
  pub back_from : BeginsOperand s b → BeginsOperand s a
  pub on_to : BeginsOperand s a → BeginsOperand s b

pub same_operand : (s : Source) (a : ℕ) → SameOperand s a a
same_operand s a = record { back_from = λ x. x; on_to = λ x. x }

past_step : (s : Source) {a : ℕ} → is_step (terminal_at s a) ≡ true → BeginsOperand s a → BeginsOperand s (a + 1)
past_step s {a = a} t (at_token u) = absurd (differ is_step begins_operand refl (terminal_at s a) t u)
past_step s {a = a} t (at_parenthesis u v) = absurd (differ is_step open_paren refl (terminal_at s a) t u)
past_step s t (at_step u x) = x

pub operand_behind : (s : Source) (a b : ℕ) → SameOperand s a b → is_step (terminal_at s b) ≡ true → SameOperand s a (b + 1)
operand_behind s a b x t = record { back_from = λ y. x.back_from (at_step t y); on_to = λ y. past_step s t (x.on_to y) }

-- no operand begins with ( and )
pub no_operand : (s : Source) (a b : ℕ) → SameOperand s a b → open_paren (terminal_at s b) ≡ true → close_paren (terminal_at s (b + 1)) ≡ true
    → BeginsOperand s a → ⊥
no_operand s a b x t u y = by b t u (x.on_to y)
  where
    by : (b : ℕ) → open_paren (terminal_at s b) ≡ true → close_paren (terminal_at s (b + 1)) ≡ true → BeginsOperand s b → ⊥
    by b t u (at_token v) = differ open_paren begins_operand refl (terminal_at s b) t v
    by b t u (at_parenthesis v w) = true≢false (back u ∙ w)
    by b t u (at_step v w) = differ open_paren is_step refl (terminal_at s b) t v

-- nor with a token that begins none
pub no_operand_at : (s : Source) (a b : ℕ) → SameOperand s a b → is_step (terminal_at s b) ≡ false → open_paren (terminal_at s b) ≡ false
    → begins_operand (terminal_at s b) ≡ false → BeginsOperand s a → ⊥
no_operand_at s a b x t u v y = by b t u v (x.on_to y)
  where
    by : (b : ℕ) → is_step (terminal_at s b) ≡ false → open_paren (terminal_at s b) ≡ false → begins_operand (terminal_at s b) ≡ false → BeginsOperand s b → ⊥
    by b t u v (at_token w) = true≢false (back w ∙ v)
    by b t u v (at_parenthesis w z) = true≢false (back w ∙ u)
    by b t u v (at_step w z) = true≢false (back w ∙ t)
