-- Places of the frame that trees have: those of the items that were added while the trees were made, each at most once.
use Rattle.std.specs.Prelude.{◌≡◌, ℕ, ◌≤◌, nat_le, nat_lt, Bool, true, false, ◌&&◌, ◌||◌, List, [], ◌∷◌, ◌++◌, length, Ok}
use Rattle.std.specs.List.{list_all}
use Rattle.elab_rules.specs.cpp_types.Typ.{Typ, Typs}
use Rattle.elab_rules.specs.cpp_types.declared.classes.At.{At}
use Rattle.elab_rules.specs.cpp_lex.Tokens.{Lexeme}
use Rattle.elab_rules.specs.cpp_ast.Trees as syntax
use Rattle.elab_rules.specs.cpp_tree.declared.kinds.TKind.{TKind}
use Rattle.elab_rules.specs.cpp_tree.declared.kinds.TKind.TheVariants.{Init, Handler}
use Rattle.elab_rules.specs.cpp_tree.Trees.{Tree, node, Trees, none, more}
use Rattle.elab_rules.specs.cpp_tree.WellFormed.{places_of, all_places, times}
use Rattle.elab_rules.specs.elab_ctx.Ctx.{Ctx, Work, Closure}
use Rattle.elab_rules.specs.elab_ctx.Steps.{Operand, Made, MadeAll, Typed, TypedAll}
use Rattle.elab_rules.specs.Initialising.{initial, class_from, from_values, words}
use Rattle.elab_rules.specs.Expressions.{expression_with, operands_with}

abbrev pub is_between : ℕ → ℕ → ℕ → Bool
is_between before now place = nat_le before place && nat_lt place now

-- the places of trees that were made while the frame grew from one length to another
pub record Owned (before now : ℕ) (places : List ℕ) : Type 0 where
  pub grows : before ≤ now
  pub within : list_all (is_between before now) places ≡ true
  pub once : (place : ℕ) → times place places ≤ 1

abbrev pub Owns : Work → Work → Tree → Type 0
Owns before now e = Owned (length before.frame) (length now.frame) (places_of e)

abbrev pub AllOwn : Work → Work → Trees → Type 0
AllOwn before now es = Owned (length before.frame) (length now.frame) (all_places es)

abbrev pub operand_places : List Operand → List ℕ
operand_places [] = []
operand_places (o ∷ os) = places_of o.tree ++ operand_places os

-- nodes that are no part of an expression, but have a place: an initialised variable and a handler
abbrev pub is_declaring : TKind → Bool
is_declaring Init = true
is_declaring (Handler place) = true
is_declaring kind = false

abbrev mutual
  pub declares : Tree → Bool
  declares (node kind t cat at kids) = is_declaring kind || any_declares kids

  pub any_declares : Trees → Bool
  any_declares none = false
  any_declares (more t ts) = declares t || any_declares ts

-- Expressions

-- an expression owns what was added for it, and declares nothing
pub record OwnsExpression (before now : Work) (e : Tree) : Type 0 where
  pub owns : Owns before now e
  pub plain : declares e ≡ false

abbrev pub ExpressionsOwn : Type 0
ExpressionsOwn = (s : List Lexeme) (c : Ctx) (l : List Closure) (w : Work) (e : syntax.Tree) (x : Typed) → expression_with s c l w e ≡ Ok x
    → OwnsExpression w x.work x.operand.tree

-- several operands own together what was added for them
abbrev pub OperandsOwn : Type 0
OperandsOwn = (s : List Lexeme) (c : Ctx) (l : List Closure) (w : Work) (es : syntax.Trees) (x : TypedAll) → operands_with s c l w es ≡ Ok x
    → Owned (length w.frame) (length x.work.frame) (operand_places x.operands)

-- What is made of operands: with operands that own what was added from a length on, so does it

abbrev pub InitialsOwn : Type 0
InitialsOwn = (c : Ctx) (n : ℕ) (w : Work) (t : Typ) (o : Operand) (m : Made) → Owned n (length w.frame) (places_of o.tree)
    → initial c w t o ≡ Ok m → Owned n (length m.work.frame) (places_of m.tree)

abbrev pub ClassObjectsOwn : Type 0
ClassObjectsOwn = (c : Ctx) (n : ℕ) (w : Work) (t : Typ) (at : At) (o : Operand) (m : Made) → Owned n (length w.frame) (places_of o.tree)
    → class_from c w t at o ≡ Ok m → Owned n (length m.work.frame) (places_of m.tree)

abbrev pub ValuesOwn : Type 0
ValuesOwn = (c : Ctx) (n : ℕ) (w : Work) (t : Typ) (at : At) (os : List Operand) (m : Made) → Owned n (length w.frame) (operand_places os)
    → from_values c w t at os ≡ Ok m → Owned n (length m.work.frame) (places_of m.tree)

abbrev pub WordsOwn : Type 0
WordsOwn = (c : Ctx) (n : ℕ) (w : Work) (ps : Typs) (os : List Operand) (m : MadeAll) → Owned n (length w.frame) (operand_places os)
    → words c w ps os ≡ Ok m → Owned n (length m.work.frame) (all_places m.trees)
