-- What statements ask of the states of elaboration and of expressions: a discipline, with which they fit.
use Rattle.std.specs.Prelude.{◌≡◌, ℕ, Bool, true, false, List, Option, None, is_some, Ok}
use Rattle.elab_rules.specs.cpp_types.Typ.{Typ, ptr}
use Rattle.elab_rules.specs.cpp_types.Class.{InOrder}
use Rattle.elab_rules.specs.cpp_types.declared.classes.At.{At}
use Rattle.elab_rules.specs.cpp_types.declared.ranks.Cat.TheVariants.{Lvalue}
use Rattle.elab_rules.specs.cpp_lex.Tokens.{Lexeme}
use Rattle.elab_rules.specs.cpp_ast.declared.arena.At.{At as SyntaxAt}
use Rattle.elab_rules.specs.cpp_ast.declared.kinds.NodeKind.{NodeKind}
use Rattle.elab_rules.specs.cpp_ast.declared.kinds.NodeKind.TheVariants as k
use Rattle.elab_rules.specs.cpp_ast.Trees as syntax
use Rattle.elab_rules.specs.cpp_tree.declared.roles.Position.{Position}
use Rattle.elab_rules.specs.cpp_tree.declared.roles.Role.{Role}
use Rattle.elab_rules.specs.cpp_tree.declared.roles.Role.TheVariants.{Value}
use Rattle.elab_rules.specs.cpp_tree.Trees.{Tree, Trees, typ_in, cat_of}
use Rattle.elab_rules.specs.cpp_tree.Notation.{plain}
use Rattle.elab_rules.specs.cpp_tree.Typing.{is_class_typ}
use Rattle.elab_rules.specs.cpp_tree.Parts.{size_in}
use Rattle.elab_rules.specs.cpp_tree.Rows.{Setting, result_of, has_value}
use Rattle.elab_rules.specs.cpp_tree.WellFormed.{fits}
use Rattle.elab_rules.specs.elab_ctx.declared.env.Label.{Label}
use Rattle.elab_rules.specs.elab_ctx.Ctx.{Labels, known, opened, next_place}
use Rattle.elab_rules.specs.elab_ctx.Steps.{and_then, Operand, Made, Typed, TypedAll}
use Rattle.elab_rules.specs.Braces.{item_of, string_object, is_char_array}
use Rattle.elab_rules.specs.Expressions.{expression_of, operands_of, chosen_operand, type_of_specifiers, declared_by}
use Rattle.elab_rules.specs.Initialising.{class_from, initial}
use Rattle.elab_rules.specs.Objects.{destroys}
use Rattle.elab_rules.specs.Operators.{dropped, within_if_sized}
use Rattle.elab_rules.specs.Sizes.{typ_sized}
use Rattle.elab_rules.specs.Types.{Declared, has_auto, is_bounded}
use Rattle.elab_rules.specs.Statements.{State, Lambdas, Full, with_work, full_operand, declared_variable, placed_variable, auto_placed, with_labels, outer}
use Rattle.elab_rules.specs.Statements.{all_lambdas, copy_initialised, directly_initialised, default_object, declarable, bound_by_initialiser, deduced_type}
use Rattle.elab_rules.specs.Statements.{replaced, caught_type}
use Rattle.elab_fits.specs.Standing.{FitsAs}
use Rattle.elab_fits.specs.Scalars.{Initialises, IsOperand}
use Rattle.elab_fits.specs.Objects.{is_ready, DestroysOne}
use Rattle.elab_fits_statements.specs.Anywhere.{FitsAnywhere}
use Rattle.elab_fits_statements.specs.Variables.{HasItem, BuildsWhole}

-- States

-- a later state stands where an earlier one does, and knows of each declaration that no label may jump past
pub record StandsAs (a b : State) : Type 0 where
  pub label : b.ctx.label ≡ a.ctx.label
  pub breaks : b.ctx.breaks ≡ a.ctx.breaks
  pub continues : b.ctx.continues ≡ a.ctx.continues
  pub typ : b.ctx.labels.typ ≡ a.ctx.labels.typ
  pub past : a.ctx.labels.is_past ≡ true → b.ctx.labels.is_past ≡ true

-- in a statement in another, with a scope of its own
abbrev pub within : State → Label → Labels → (b c : Bool) → State
within st l ls b c = record st { ctx = record (opened st.ctx) { label = l; labels = ls; breaks = b; continues = c } }

-- an operand of a constant expression stands in some setting
pub record StandsSomewhere (o : Operand) : Type 0 where
  pub setting : Setting
  pub operand : IsOperand setting o

-- What is good in a state: `Good` says what holds of one, `Leads` that one came of another, `Reads` what holds of an operand that was read in one, `Written`
-- of a type that was, and `Object` of one whose objects can be variables. `at` is the setting of a state, and `Text` and `Texts` hold of the syntax.
pub record Words : Type 1 where
  pub Good : State → Type 0
  pub Leads : State → State → Type 0
  pub Reads : State → Operand → Type 0
  pub Written : State → Typ → Type 0
  pub Object : State → Typ → Type 0
  pub Text : syntax.Tree → Type 0
  pub Texts : syntax.Trees → Type 0
  pub at : State → Setting

-- a good state that came of another, in the same place
pub record Goes (w : Words) (a b : State) : Type 0 where
  pub good : w.Good b
  pub leads : w.Leads a b
  pub stands : StandsAs a b

pub record HasRead (w : Words) (a : State) (f : Full) : Type 0 where
  pub goes : Goes w a f.state
  pub operand : w.Reads f.state f.operand

-- what was made of an operand fits in a good state
pub record Gains (w : Words) (a b : State) (P : Setting → Type 0) : Type 0 where
  pub goes : Goes w a b
  pub fits : P (w.at b)

-- an object of a type, with its destructions
pub record BuildsAll (w : Words) (a b : State) (t : Typ) (e : Tree) (ds : Trees) : Type 0 where
  pub goes : Goes w a b
  pub builds : BuildsWhole (w.at b) t e
  pub destroys : DestroysOne (w.at b) t ds

-- a variable with its item of the frame
pub record Places (w : Words) (a b : State) (place : ℕ) (t : Typ) : Type 0 where
  pub good : w.Good b
  pub leads : w.Leads a b
  pub item : HasItem (w.at b) place t

-- the type of what a handler catches
pub record CanBeCaught (w : Words) (a : State) (t : Typ) : Type 0 where
  pub object : w.Object a t
  pub sized : is_some (size_in a.ctx.classes t) ≡ true
  pub ready : is_ready a.ctx.classes true t ≡ true

pub record Discipline (w : Words) (lams : Lambdas) (s : List Lexeme) : Type 0 where
  -- the syntax
  pub kids : (kind : NodeKind) (p : SyntaxAt) (token : Option ℕ) (ts : syntax.Trees) → w.Text (syntax.node kind p token ts) → w.Texts ts
  pub first : (t : syntax.Tree) (ts : syntax.Trees) → w.Texts (syntax.more t ts) → w.Text t
  pub rest : (t : syntax.Tree) (ts : syntax.Trees) → w.Texts (syntax.more t ts) → w.Texts ts
  -- a `try` has a handler
  pub handled : (p : SyntaxAt) (token : Option ℕ) (t : syntax.Tree) → w.Text (syntax.node k.TryBlock p token (syntax.more t syntax.none)) → ⊥
  -- states that come of others
  pub stays : (a : State) → w.Leads a a
  pub goes_on : (a b c : State) → w.Leads a b → w.Leads b c → w.Leads a c
  pub still : (a b : State) → w.Good a → w.Leads a b → (p : Position) (role : Role) (e : Tree) → fits (w.at a) p role e ≡ true → fits (w.at b) p role e ≡ true
  pub classes : (a : State) → w.Good a → (w.at a).classes ≡ a.ctx.classes
  pub ordered : (a : State) → w.Good a → InOrder a.ctx.classes
  pub written_still : (a b : State) (t : Typ) → w.Leads a b → w.Written a t → w.Written b t
  pub object_still : (a b : State) (t : Typ) → w.Leads a b → w.Object a t → w.Object b t
  -- behind a full-expression no lambdas of it are at hand
  pub settles : (a : State) → w.Good a → w.Good (with_work a a.work)
  pub settles_leads : (a : State) → w.Leads a (with_work a a.work)
  -- places of statements
  pub opens : (a : State) (l : Label) (ls : Labels) (b c : Bool) → w.Good a → w.Good (within a l ls b c)
  pub opens_leads : (a : State) (l : Label) (ls : Labels) (b c : Bool) → w.Leads a (within a l ls b c)
  pub closes : (a b : State) → w.Good a → w.Good b → w.Leads a b → w.Good (outer a b)
  pub closes_leads : (a b : State) → w.Leads b (outer a b)
  pub relabels : (a : State) (ls : Labels) → w.Good a → w.Good (with_labels a ls)
  pub relabels_leads : (a : State) (ls : Labels) → w.Leads a (with_labels a ls)
  -- the function at hand: its result is known, and of a class its address is the first item of the frame
  pub returns : (a : State) → w.Good a → a.ctx.returns ≡ known (result_of (w.at a).function)
  pub result : (a : State) (t : Typ) → w.Good a → result_of (w.at a).function ≡ t → is_class_typ t ≡ true → HasItem (w.at a) 0 (plain (ptr t))
  -- expressions
  pub reads : (a : State) (e : syntax.Tree) (f : Full) → w.Good a → w.Text e → full_operand lams s a e ≡ Ok f → HasRead w a f
  pub operand : (a : State) (o : Operand) → w.Reads a o → IsOperand (w.at a) o
  pub constant : (a : State) (e : syntax.Tree) (o : Typed) → w.Good a → w.Text e → and_then (expression_of s a.ctx a.work e) (chosen_operand a.ctx) ≡ Ok o
      → StandsSomewhere o.operand
  pub drops : (a : State) (o : Operand) → w.Good a → w.Reads a o
      → Gains w a (with_work a (dropped a.ctx a.work o).work) (λ (x : Setting). FitsAs x Value (dropped a.ctx a.work o).tree)
  pub gives : (a : State) (t : Typ) (o : Operand) (m : Made) → w.Good a → w.Reads a o → result_of (w.at a).function ≡ t → has_value t ≡ true
      → initial a.ctx a.work t o ≡ Ok m → Gains w a (with_work a m.work) (λ (x : Setting). Initialises x t m.tree)
  pub builds : (a : State) (t : Typ) (o : Operand) (m : Made) → w.Good a → w.Reads a o → result_of (w.at a).function ≡ t → is_class_typ t ≡ true
      → class_from a.ctx a.work t o.at o ≡ Ok m → Gains w a (with_work a m.work) (λ (x : Setting). BuildsWhole x t m.tree)
  -- what initialises a variable
  pub leaves : (a b : State) (t : Typ) (p : At) → w.Good a → w.Object a t → w.Good b → w.Leads a b → DestroysOne (w.at b) t (destroys a.ctx p t)
  pub copies : (a : State) (t : Typ) (o : Operand) (m : Made) → w.Good a → w.Object a t → w.Reads a o → copy_initialised a.ctx a.work t o ≡ Ok m
      → Gains w a (with_work a m.work) (λ (x : Setting). BuildsWhole x t m.tree)
  pub defaults : (a : State) (t : Typ) (p : At) (e : Tree) → w.Good a → w.Object a t → default_object a.ctx t p ≡ Ok e → BuildsWhole (w.at a) t e
  pub strings : (a : State) (t : Typ) (p : At) (bytes : List ℕ) (e : Tree) → w.Good a → w.Object a t → is_char_array t ≡ true
      → string_object a.ctx t p bytes ≡ Ok e → BuildsWhole (w.at a) t e
  pub values : (a x : State) (t : Typ) (p q : At) (es : syntax.Trees) (xs : TypedAll) (m : Made) → w.Good a → w.Object a t → w.Texts es
      → all_lambdas lams s a es ≡ Ok x → operands_of s x.ctx x.work es ≡ Ok xs → directly_initialised x.ctx xs.work t p xs.operands ≡ Ok m
      → BuildsAll w a (with_work x m.work) t m.tree (destroys x.ctx q t)
  pub braces : (a x : State) (t : Typ) (q : At) (variable : Tree) (p : SyntaxAt) (token : Option ℕ) (es : syntax.Trees) (m : Made) → w.Good a → w.Object a t
      → w.Texts es → FitsAnywhere (w.at a) Value variable → typ_in variable ≡ t → cat_of variable ≡ Lvalue → all_lambdas lams s a es ≡ Ok x
      → item_of s x.ctx x.work variable t (syntax.node k.BracedInitList p token es) ≡ Ok m
      → BuildsAll w a (with_work x m.work) t m.tree (destroys x.ctx q t)
  -- types
  pub specifiers : (a : State) (e : syntax.Tree) (t : Typ) → w.Good a → w.Text e → type_of_specifiers s a.ctx a.work e ≡ Ok t → w.Written a t
  pub declares : (a : State) (p : At) (t : Typ) (d : syntax.Tree) (r : Declared) → w.Good a → w.Text d → w.Written a t
      → declared_by s a.ctx a.work p t d ≡ Ok r → w.Written a r.typ
  pub objects : (a : State) (p : At) (t : Typ) (init : syntax.Trees) (x y z : Bool) → w.Good a → w.Written a t → has_auto t ≡ false
      → declarable a.ctx p (bound_by_initialiser s t init) ≡ Ok x → is_bounded (bound_by_initialiser s t init) ≡ true
      → typ_sized a.ctx.classes p (bound_by_initialiser s t init) ≡ Ok y → within_if_sized a.ctx p (bound_by_initialiser s t init) ≡ Ok z
      → w.Object a (bound_by_initialiser s t init)
  pub deduces : (a : State) (p : At) (t u : Typ) (o : Operand) (m : Made) → w.Good a → w.Written a t → has_auto t ≡ true → w.Reads a o
      → deduced_type p t o ≡ Ok u → copy_initialised a.ctx a.work (replaced u t) o ≡ Ok m → w.Object a (replaced u t)
  -- variables
  pub places : (a : State) (name : List ℕ) (t : Typ) → w.Good a → w.Object a t → Places w a (placed_variable a name t) (next_place a.work) t
  pub names : (a : State) (name : List ℕ) → w.Good a → w.Good (declared_variable a name None)
  pub names_leads : (a : State) (name : List ℕ) → w.Leads a (declared_variable a name None)
  pub autos : (a : State) (i : ℕ) (t : Typ) → w.Good a → w.Object a t → Places w a (auto_placed a i t) (next_place a.work) t
  -- exceptions
  pub caught : (a : State) (p : At) (t u : Typ) → w.Good a → w.Written a t → caught_type a.ctx p t ≡ Ok u → CanBeCaught w a u
