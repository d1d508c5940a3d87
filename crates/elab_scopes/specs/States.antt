-- The state as the code keeps it, and what stays of it.
use Rattle.std.specs.Prelude.{◌≡◌, ◌++◌, ℕ, List, map, length, take}
use Rattle.elab_expr.specs.cpp_types.Typ.{typ_of}
use Rattle.elab_expr.specs.cpp_tree.Trees.{Tree}
use Rattle.elab_expr.specs.cpp_tree.Arena.{trees_of, tree_at, Grows}
use Rattle.elab_expr.specs.elab_ctx.Ctx.{Ctx, Labels, ctx_of, work_of, closed}
use Rattle.elab_expr.specs.elab_ctx.Operands.{operand_in}
use Rattle.elab_expr.specs.elab_ctx.declared.operand.Operand.{Operand as OperandRec}
use Rattle.elab_expr.specs.elab_rules.Statements.{Body, State, Full}
use Rattle.elab_scopes.specs.declared.state.Body.{Body as BodyRec}
use Rattle.elab_scopes.specs.declared.state.State.{State as StateRec}
use Rattle.elab_scopes.specs.declared.state.Mark.{Mark}

abbrev pub body_of : BodyRec → Body
body_of b = record { func = b.func; tree = tree_at (trees_of b.nodes.items) b.tree; frame = map typ_of b.frame.items }

abbrev pub state_of : StateRec → State
state_of st = record { ctx = ctx_of st.env; work = work_of st.work; bodies = map body_of st.bodies.items }

-- the trees that were made
abbrev pub made : StateRec → List Tree
made st = trees_of st.work.nodes.items

-- the labels of the `switch` at hand stay, and further ones may stand behind them
pub record KeepsLabels (old new : Labels) : Type 0 where
  pub typ : new.typ ≡ old.typ
  pub extra : List ℕ
  pub words : new.words ≡ old.words ++ extra

-- trees and labels stay
pub record Grown (old new : StateRec) : Type 0 where
  pub trees : Grows (made old) (made new)
  pub labels : KeepsLabels (ctx_of old.env).labels (ctx_of new.env).labels

-- Where a statement stands, to come back to it

abbrev pub mark_in : Ctx → Mark
mark_in c = record {
  label = c.label;
  words = length c.labels.words;
  has_default = c.labels.has_default;
  is_past = c.labels.is_past;
  breaks = c.breaks;
  continues = c.continues;
}

abbrev pub labels_at : Mark → Labels → Labels
labels_at m l = record { typ = l.typ; words = take m.words l.words; has_default = m.has_default; is_past = m.is_past }

-- behind a statement that has a scope of its own
abbrev pub left_at : Mark → Ctx → Ctx
left_at m c = record (closed c) { label = m.label; labels = labels_at m c.labels; breaks = m.breaks; continues = m.continues }

-- a full-expression that was made, with the state behind it
abbrev pub full_in : StateRec → OperandRec → Full
full_in st o = record { operand = operand_in (made st) o; state = state_of st }
