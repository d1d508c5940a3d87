-- What statements leave as it is, of what is known round them and of what was made before.
use Rattle.std.specs.Prelude.{◌≡◌, ℕ, List, length, take, drop, Result, Ok, Err}
use Rattle.elab_rules.specs.cpp_lex.Tokens.{Lexeme}
use Rattle.elab_rules.specs.cpp_ast.Trees as syntax
use Rattle.elab_rules.specs.cpp_names.Names.{Names}
use Rattle.elab_rules.specs.cpp_types.Class.{Class}
use Rattle.elab_rules.specs.cpp_tree.Units.{Global, SlotFunc}
use Rattle.elab_rules.specs.cpp_tree.declared.faults.ElabFault.{ElabFault}
use Rattle.elab_rules.specs.elab_ctx.Ctx.{Traits, Default, Func, Enumerator, Variable}
use Rattle.elab_rules.specs.elab_ctx.Types.{Named}
use Rattle.elab_rules.specs.Statements.{Body, State, Lambdas}

-- the second list begins with the first
pub record Begins {A : Type 0} (xs ys : List A) : Type 0 where
  pub is : take (length xs) ys ≡ xs

-- the part of a state that statements leave, or add to at the end
pub record Kept : Type 0 where
  pub source : ℕ
  -- the scopes round the innermost
  pub round : List Names
  pub types : List Named
  pub defaults : List Default
  pub enumerators : List Enumerator
  pub variables : List Variable
  pub classes : List Class
  pub traits : List Traits
  pub slots : List (List SlotFunc)
  pub funcs : List Func
  pub globals : List Global
  pub bodies : List Body

abbrev pub kept_in : State → Kept
kept_in st = record {
  source = st.ctx.source;
  round = drop 1 st.ctx.scopes;
  types = st.ctx.types;
  defaults = st.ctx.defaults;
  enumerators = st.ctx.enumerators;
  variables = st.ctx.variables;
  classes = st.ctx.classes;
  traits = st.ctx.traits;
  slots = st.ctx.slots;
  funcs = st.ctx.funcs;
  globals = st.work.globals;
  bodies = st.bodies;
}

-- types, initialisers, enumerators and outer scopes are the same; the rest grows at the end
pub record Keeps (old new : Kept) : Type 0 where
  pub source : new.source ≡ old.source
  pub round : new.round ≡ old.round
  pub types : new.types ≡ old.types
  pub defaults : new.defaults ≡ old.defaults
  pub enumerators : new.enumerators ≡ old.enumerators
  pub variables : Begins old.variables new.variables
  pub classes : Begins old.classes new.classes
  pub traits : Begins old.traits new.traits
  pub slots : Begins old.slots new.slots
  pub funcs : Begins old.funcs new.funcs
  pub globals : Begins old.globals new.globals
  pub bodies : Begins old.bodies new.bodies

abbrev pub Leaves : State → State → Type 0
Leaves old new = Keeps (kept_in old) (kept_in new)

-- what holds of an answer that is no fault
abbrev pub On : {A : Type 0} → (A → Type 0) → Result A ElabFault → Type 0
On P (Ok a) = P a
On P (Err e) = Unit {0}

-- whatever makes the lambdas of a full-expression leaves the same
pub record Lawful (lams : Lambdas) : Type 0 where
  pub each : (s : List Lexeme) (st : State) (t : syntax.Tree) → On (Leaves st) (lams s st t)

-- a state inside a function, with what was known round that
pub record Inside (before st : State) : Type 0 where
  pub source : st.ctx.source ≡ before.ctx.source
  pub scopes : drop 1 st.ctx.scopes ≡ before.ctx.scopes
  pub types : st.ctx.types ≡ before.ctx.types
  pub defaults : st.ctx.defaults ≡ before.ctx.defaults
  pub enumerators : st.ctx.enumerators ≡ before.ctx.enumerators
