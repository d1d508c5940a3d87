-- Good states whose items are whole.
use Rattle.std.specs.Prelude.{◌≡◌, true, List, Ok}
use Rattle.elab_rules.specs.cpp_types.Typ.{Typ}
use Rattle.elab_rules.specs.cpp_lex.Tokens.{Lexeme}
use Rattle.elab_rules.specs.cpp_ast.Trees as syntax
use Rattle.elab_rules.specs.cpp_tree.WellFormed.{is_item}
use Rattle.elab_rules.specs.elab_ctx.Ctx.{Work}
use Rattle.elab_rules.specs.elab_ctx.Steps.{Operand}
use Rattle.elab_rules.specs.Statements.{State, Lambdas, all_lambdas, inner, outer}
use Rattle.elab_frame_items.specs.Frames.{IsWholeState}
use Rattle.elab_frame_items.specs.Items.{IsWhole}
use Rattle.elab_frame_items.specs.Supplies.{SuppliesItems, Reads}
use Rattle.elab_fits_statements.specs.Discipline.{Words}

-- the same words, where states are good if their items are whole too
abbrev pub with_items : Words → Words
with_items w = record {
  Good = λ (st : State). w.Good st × IsWholeState st;
  Leads = w.Leads;
  Reads = w.Reads;
  Written = w.Written;
  Object = w.Object;
  Text = w.Text;
  Texts = w.Texts;
  at = w.at;
}

-- What is asked of a discipline beside

-- a state in which items of braces are read
pub record ReadsItems (P : State → Work → Type 0) (T : syntax.Tree → Type 0) (Ts : syntax.Trees → Type 0) (s : List Lexeme) (x : State) : Type 0 where
  pub reads : Reads P T Ts s x
  pub items : SuppliesItems (P x) T s x.ctx

pub record GivesItems (w : Words) (lams : Lambdas) (P : State → Work → Type 0) (s : List Lexeme) : Type 0 where
  -- behind the lambdas of an expression, and of several: all items are whole still
  pub left : (a x : State) (e : syntax.Tree) → w.Good a → w.Text e → lams s a e ≡ Ok x → IsWholeState a → IsWholeState x
  pub left_all : (a x : State) (es : syntax.Trees) → w.Good a → w.Texts es → all_lambdas lams s a es ≡ Ok x → IsWholeState a → IsWholeState x
  -- and how expressions are read there
  pub behind : (a x : State) (e : syntax.Tree) → w.Good a → w.Text e → lams s a e ≡ Ok x → Reads P w.Text w.Texts s x
  pub behind_all : (a x : State) (es : syntax.Trees) → w.Good a → w.Texts es → all_lambdas lams s a es ≡ Ok x → ReadsItems P w.Text w.Texts s x
  -- an operand that was read, and a type of which objects can be variables
  pub whole : (a : State) (o : Operand) → w.Good a → w.Reads a o → IsWhole a.ctx.classes o.tree
  pub object : (a : State) (t : Typ) → w.Good a → w.Object a t → is_item a.ctx.classes t ≡ true

-- Places of statements: behind them the work is the same, and so are the classes and what is kept
abbrev pub StaysWhole : Type 0
StaysWhole = (before st : State) → IsWholeState st → IsWholeState (inner st) × IsWholeState (outer before st)
