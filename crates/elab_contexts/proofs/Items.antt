-- Steps that add items to the frame, and globals, say nothing of classes and functions.
use Rattle.std.proofs.Common.{refl, ℕ, List}
use Rattle.elab_rules.specs.cpp_types.Typ.{Typ}
use Rattle.elab_rules.specs.cpp_lex.Tokens.{Lexeme}
use Rattle.elab_rules.specs.cpp_ast.Trees as syntax
use Rattle.elab_rules.specs.elab_ctx.Ctx.{Work, with_item}
use Rattle.elab_rules.specs.Statements.{State, Lambdas, with_work, placed_variable, inner, outer}
use Rattle.elab_fits.specs.Standing.{On}
use Rattle.elab_contexts.specs.Steps.{none_yet}
use Rattle.elab_contexts.proofs.Walking.{Leaves}
use Rattle.elab_contexts.proofs.Works.{Grows}

-- whatever makes the lambdas of a full-expression goes on by steps
pub record Lawful (lams : Lambdas) : Type 0 where
  pub each : (s : List Lexeme) (st : State) (t : syntax.Tree) → On (Leaves st) (lams s st t)

pub work_kept : (st : State) (w : Work) → Grows st.work w → Leaves st (with_work st w)
work_kept st w g = record { walk = none_yet; same = refl; overrides = λ w h. h }

pub item_kept : (st : State) (t : Typ) → Leaves st (record st { work = with_item st.work t })
item_kept st t = work_kept st (with_item st.work t) tt

pub placed_kept : (st : State) (name : List ℕ) (t : Typ) → Leaves st (placed_variable st name t)
placed_kept st name t = record { walk = none_yet; same = refl; overrides = λ w h. h }

-- behind a statement with a scope of its own
pub out : (st b x : State) → Leaves (inner st) x → Leaves st (outer b x)
out st b x h = record { walk = h.walk; same = h.same; overrides = h.overrides }
