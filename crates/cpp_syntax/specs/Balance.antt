-- Tokens in whose brackets each is closed by its own kind.
use Rattle.std.specs.Prelude.{◌≡◌, ◌↔◌, ℕ, ◌+◌, ◌≤◌, nat_lt, if◌then◌else◌, Bool, true, false, List, length, get_or, slice_index_or, Option, Some, None}
use Rattle.cpp_syntax.specs.declared.terminal.Terminal.{Terminal}
use Rattle.cpp_syntax.specs.declared.terminal.Terminal.TheVariants as terminal
use Rattle.cpp_syntax.specs.declared.limits.TheConstants.{MAX_TOKENS}
use Rattle.cpp_syntax.specs.Terminals.{is_unbracketed}

-- the terminal at an index
abbrev pub terminal_in : List Terminal → ℕ → Terminal
terminal_in terminals a = slice_index_or terminals a terminal.End

-- an opening bracket, and one that closes it
abbrev pub closes : Terminal → Terminal → Bool
closes terminal.OpenParen terminal.CloseParen = true
closes terminal.OpenBracket terminal.CloseBracket = true
closes terminal.OpenBrace terminal.CloseBrace = true
closes _ _ = false

-- The tokens between two indices are balanced.
pub data Balanced (terminals : List Terminal) : ℕ → ℕ → Type 0 where
  is_empty : {a b : ℕ} → b ≡ a → Balanced terminals a b
  is_token : {a b : ℕ} → is_unbracketed (terminal_in terminals a) ≡ true → Balanced terminals (a + 1) b → Balanced terminals a b
  is_bracket : {a m b : ℕ} → Balanced terminals (a + 1) m → closes (terminal_in terminals a) (terminal_in terminals m) ≡ true
      → Balanced terminals (m + 1) b → Balanced terminals a b

-- The bracket at one index is closed by that at another, with balanced tokens between.
pub record Partners (terminals : List Terminal) (a b : ℕ) : Type 0 where
  pub closes : closes (terminal_in terminals a) (terminal_in terminals b) ≡ true
  pub between : Balanced terminals (a + 1) b

-- It is closed by that, or by none.
abbrev pub IsPartner : List Terminal → ℕ → Option ℕ → Type 0
IsPartner terminals a partner = (b : ℕ) → (partner ≡ Some b) ↔ Partners terminals a b

-- the partner that a table has for an index, which is behind it
abbrev pub partner_in : List ℕ → ℕ → Option ℕ
partner_in partners a = if nat_lt a (get_or partners a 0) then Some (get_or partners a 0) else None

-- A table has the partner of each index.
pub record IsTable (terminals : List Terminal) (begins : List ℕ) (partners : List ℕ) : Type 0 where
  pub few : length terminals ≤ MAX_TOKENS
  pub begin : length begins ≡ length terminals
  pub each : (a : ℕ) → IsPartner terminals a (partner_in partners a)
