-- How the laws speak of expressions: of each one that elaborates, of its operands, and of types and categories.
use Rattle.std.specs.Prelude.{◌≡◌, ℕ, Bool, true, false, ◌||◌, List, [], ◌∷◌, Some, Result, Ok, Err}
use Rattle.std.specs.Str.{bytes_eq}
use Rattle.elab_rules.specs.cpp_types.Typ.{Typ, Form}
use Rattle.elab_rules.specs.cpp_types.Conversion.{decayed}
use Rattle.elab_rules.specs.cpp_types.declared.ranks.Cat.TheVariants.{Lvalue, Prvalue}
use Rattle.elab_rules.specs.cpp_lex.Tokens.{Lexeme}
use Rattle.elab_rules.specs.cpp_ast.Trees as syntax
use Rattle.elab_rules.specs.cpp_ast.declared.arena.At.{At as SyntaxAt}
use Rattle.elab_rules.specs.cpp_ast.declared.kinds.NodeKind.{NodeKind}
use Rattle.elab_rules.specs.cpp_tree.declared.faults.ElabFault.{ElabFault}
use Rattle.elab_rules.specs.cpp_tree.Trees.{Tree, typ_in, cat_of}
use Rattle.elab_rules.specs.elab_ctx.Ctx.{Ctx, Work}
use Rattle.elab_rules.specs.elab_ctx.Steps.{and_then, Operand, Typed, spelling}
use Rattle.elab_rules.specs.Expressions.{expression_of, chosen_operand}

-- what holds of an answer that is no fault
abbrev pub On : {A : Type 0} → (A → Type 0) → Result A ElabFault → Type 0
On P (Ok a) = P a
On P (Err e) = Unit {0}

-- the name is one of these words
abbrev pub is_among : List ℕ → List (List ℕ) → Bool
is_among name [] = false
is_among name (word ∷ words) = bytes_eq name word || is_among name words

-- Types and categories (C++14 3.10)

pub record IsPrvalue (t : Typ) (e : Tree) : Type 0 where
  pub has_type : typ_in e ≡ t
  pub category : cat_of e ≡ Prvalue

pub record IsLvalue (t : Typ) (e : Tree) : Type 0 where
  pub has_type : typ_in e ≡ t
  pub category : cat_of e ≡ Lvalue

-- the form of the value of an operand: a pointer for an array or a function (C++14 4.1 to 4.3)
abbrev pub value_type : Operand → Form
value_type x = decayed (typ_in x.tree)

-- Operands, from left to right. Where one names functions, it is the one function that is meant (C++14 13.4)

abbrev pub operand_of : List Lexeme → Ctx → Work → syntax.Tree → Result Typed ElabFault
operand_of s c w e = and_then (expression_of s c w e) (chosen_operand c)

pub record OfOne (s : List Lexeme) (c : Ctx) (w : Work) (a : syntax.Tree) (rule : Operand → Tree → Type 0) (r : Typed) : Type 0 where
  pub operand : Typed
  pub operand_is : operand_of s c w a ≡ Ok operand
  pub holds : rule operand.operand r.operand.tree

pub record OfTwo (s : List Lexeme) (c : Ctx) (w : Work) (a b : syntax.Tree) (rule : Operand → Operand → Tree → Type 0) (r : Typed) : Type 0 where
  pub left : Typed
  pub left_is : operand_of s c w a ≡ Ok left
  pub right : Typed
  pub right_is : operand_of s c left.work b ≡ Ok right
  pub holds : rule left.operand right.operand r.operand.tree

pub record OfThree (s : List Lexeme) (c : Ctx) (w : Work) (a b d : syntax.Tree) (rule : Operand → Operand → Operand → Tree → Type 0) (r : Typed) : Type 0 where
  pub first : Typed
  pub first_is : operand_of s c w a ≡ Ok first
  pub second : Typed
  pub second_is : operand_of s c first.work b ≡ Ok second
  pub third : Typed
  pub third_is : operand_of s c second.work d ≡ Ok third
  pub holds : rule first.operand second.operand third.operand r.operand.tree

-- a rule holds of each form of a kind with one operand, or two, that elaborates and is spelled by one of these words
abbrev pub EachOne : NodeKind → List (List ℕ) → (Ctx → Operand → Tree → Type 0) → Type 0
EachOne kind words rule = (s : List Lexeme) (c : Ctx) (w : Work) (p : SyntaxAt) (t : ℕ) (a : syntax.Tree) → is_among (spelling s t) words ≡ true →
    On (OfOne s c w a (rule c)) (expression_of s c w (syntax.node kind p (Some t) (syntax.more a syntax.none)))

abbrev pub EachTwo : NodeKind → List (List ℕ) → (Ctx → Operand → Operand → Tree → Type 0) → Type 0
EachTwo kind words rule = (s : List Lexeme) (c : Ctx) (w : Work) (p : SyntaxAt) (t : ℕ) (a b : syntax.Tree) → is_among (spelling s t) words ≡ true →
    On (OfTwo s c w a b (rule c)) (expression_of s c w (syntax.node kind p (Some t) (syntax.more a (syntax.more b syntax.none))))

-- and of each, however it is spelled
abbrev pub AnyOne : NodeKind → (Ctx → Operand → Tree → Type 0) → Type 0
AnyOne kind rule = (s : List Lexeme) (c : Ctx) (w : Work) (p : SyntaxAt) (t : ℕ) (a : syntax.Tree) →
    On (OfOne s c w a (rule c)) (expression_of s c w (syntax.node kind p (Some t) (syntax.more a syntax.none)))

abbrev pub AnyTwo : NodeKind → (Ctx → Operand → Operand → Tree → Type 0) → Type 0
AnyTwo kind rule = (s : List Lexeme) (c : Ctx) (w : Work) (p : SyntaxAt) (t : ℕ) (a b : syntax.Tree) →
    On (OfTwo s c w a b (rule c)) (expression_of s c w (syntax.node kind p (Some t) (syntax.more a (syntax.more b syntax.none))))

abbrev pub AnyThree : NodeKind → (Ctx → Operand → Operand → Operand → Tree → Type 0) → Type 0
AnyThree kind rule = (s : List Lexeme) (c : Ctx) (w : Work) (p : SyntaxAt) (t : ℕ) (a b d : syntax.Tree) →
    On (OfThree s c w a b d (rule c)) (expression_of s c w (syntax.node kind p (Some t) (syntax.more a (syntax.more b (syntax.more d syntax.none)))))
