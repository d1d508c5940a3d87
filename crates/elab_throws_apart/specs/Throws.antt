-- No operand is a `throw` of an object: around each `throw` stands what says that it has no value (C++14 15.1 p1).
use Rattle.std.specs.Prelude.{◌≡◌, Bool, true, false, not, ◌&&◌, List, [], ◌∷◌, Ok}
use Rattle.elab_rules.specs.cpp_types.Typ.{Typ, typ, tx_ex}
use Rattle.elab_rules.specs.cpp_types.declared.classes.At.{At}
use Rattle.elab_rules.specs.cpp_types.declared.ranks.Cat.{Cat}
use Rattle.elab_rules.specs.cpp_types.declared.ranks.Cat.TheVariants.{Prvalue}
use Rattle.elab_rules.specs.cpp_lex.Tokens.{Lexeme}
use Rattle.elab_rules.specs.cpp_ast.Trees as syntax
use Rattle.elab_rules.specs.cpp_tree.declared.kinds.TKind.{TKind}
use Rattle.elab_rules.specs.cpp_tree.declared.kinds.TKind.TheVariants.{Retype}
use Rattle.elab_rules.specs.cpp_tree.Trees.{Tree, node, Trees, none, more}
use Rattle.elab_rules.specs.cpp_tree.Typing.{is_class_typ}
use Rattle.elab_rules.specs.elab_ctx.Ctx.{Ctx, Work, Closure}
use Rattle.elab_rules.specs.elab_ctx.Steps.{and_then, Operand, Made, Typed, TypedAll}
use Rattle.elab_rules.specs.Values.{builder}
use Rattle.elab_rules.specs.Operators.{is_throw}
use Rattle.elab_rules.specs.Expressions.{expression_with, operands_with, expression_of, operands_of, chosen_operand}
use Rattle.elab_rules.specs.Statements.{throws_object, copy_initialised, directly_initialised, default_object}
use Rattle.elab_fits.specs.Standing.{On}

-- What a statement asks of an operand

-- no `throw` of an object stands for an operand, which has no value
pub record IsNoThrow (o : Operand) : Type 0 where
  pub tree : throws_object o.tree ≡ false
  pub built : throws_object (builder o.tree) ≡ false

abbrev pub AreNoThrows : List Operand → Type 0
AreNoThrows [] = Unit {0}
AreNoThrows (o ∷ os) = IsNoThrow o × AreNoThrows os

pub record ThrowsApart (s : List Lexeme) : Type 0 where
  -- an expression that elaborates is no `throw` of an object but behind what says that it has no value
  pub read : (c : Ctx) (w : Work) (e : syntax.Tree) (x : Typed) → and_then (expression_of s c w e) (chosen_operand c) ≡ Ok x → IsNoThrow x.operand
  pub read_all : (c : Ctx) (w : Work) (es : syntax.Trees) (x : TypedAll) → operands_of s c w es ≡ Ok x → AreNoThrows x.operands

-- What forms keep

abbrev mutual
  -- no `throw` of an object; nor is one the value with which a `std::tx_exception` is written, however often that is said
  pub is_apart : Tree → Bool
  is_apart (node kind t cat at kids) = not (is_throw kind && is_class_typ t) && is_built_apart kind t cat kids

  pub is_built_apart : TKind → Typ → Cat → Trees → Bool
  is_built_apart Retype (typ (tx_ex u) c v) Prvalue (more e none) = is_apart e
  is_built_apart kind t cat kids = true

abbrev pub AreApart : List Operand → Type 0
AreApart [] = Unit {0}
AreApart (o ∷ os) = is_apart o.tree ≡ true × AreApart os

-- The laws

-- such an operand is what a statement asks for
abbrev pub ApartIsNoThrow : Type 0
ApartIsNoThrow = (o : Operand) → is_apart o.tree ≡ true → IsNoThrow o

-- each expression is, in each context, whatever lambdas are at hand
abbrev pub ExpressionsAreApart : Type 0
ExpressionsAreApart = (s : List Lexeme) (c : Ctx) (l : List Closure) (w : Work) (e : syntax.Tree) (x : Typed) → expression_with s c l w e ≡ Ok x
    → is_apart x.operand.tree ≡ true

-- so is it where it names one function at most
abbrev pub ChosenAreApart : Type 0
ChosenAreApart = (s : List Lexeme) (c : Ctx) (l : List Closure) (w : Work) (e : syntax.Tree) (x : Typed)
    → and_then (expression_with s c l w e) (chosen_operand c) ≡ Ok x → is_apart x.operand.tree ≡ true

-- so are operands
abbrev pub OperandsAreApart : Type 0
OperandsAreApart = (s : List Lexeme) (c : Ctx) (l : List Closure) (w : Work) (es : syntax.Trees) (x : TypedAll) → operands_with s c l w es ≡ Ok x
    → AreApart x.operands

-- each text
abbrev pub TextsThrowApart : Type 0
TextsThrowApart = (s : List Lexeme) → ThrowsApart s

-- what initialises an object of any type, from operands that are
pub record InitialisersApart : Type 0 where
  -- `= e`
  pub copied : (c : Ctx) (w : Work) (t : Typ) (o : Operand) → is_apart o.tree ≡ true
      → On (λ (m : Made). is_apart m.tree ≡ true) (copy_initialised c w t o)
  -- `(e, ..)`
  pub direct : (c : Ctx) (w : Work) (t : Typ) (at : At) (os : List Operand) → AreApart os
      → On (λ (m : Made). is_apart m.tree ≡ true) (directly_initialised c w t at os)
  -- nothing
  pub default : (c : Ctx) (t : Typ) (at : At) → On (λ (e : Tree). is_apart e ≡ true) (default_object c t at)
