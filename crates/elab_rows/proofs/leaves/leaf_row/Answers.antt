use Rattle.std.proofs.Common.{◌≡◌, ◌≢◌, ℕ, List, Result, refl, sym, subst}
use Rattle.elab_casts.specs.cpp_lex.Tokens.{Lexeme, lexemes_of}
use Rattle.elab_casts.specs.cpp_types.declared.classes.At.{At}
use Rattle.elab_casts.specs.cpp_ast.declared.kinds.NodeKind.{NodeKind}
use Rattle.elab_casts.specs.cpp_ast.declared.kinds.NodeKind.TheVariants as k
use Rattle.elab_casts.specs.cpp_tree.Arena.{trees_of}
use Rattle.elab_casts.specs.cpp_tree.declared.faults.ElabFault.{ElabFault}
use Rattle.elab_casts.specs.elab_ctx.Ctx.{Ctx, Work, ctx_of, work_of}
use Rattle.elab_casts.specs.elab_ctx.Steps.{Typed}
use Rattle.elab_casts.specs.elab_rules.Expressions.{leaf_or_row, leaf_of}
use Rattle.elab_rows.specs.Typed.{Types}
use Rattle.elab_rows.proofs.leaves.leaf_row.Goals as goal

leaf_alone : (s : List Lexeme) (c : Ctx) (w : Work) (kind : NodeKind) (at : At) (t : ℕ) → kind ≢ k.ThrowExpression
    → leaf_or_row s c w kind at t ≡ leaf_of s c w kind at t
leaf_alone s c w k.ThrowExpression at t h = absurd (h refl)
leaf_alone s c w kind at t h = refl

pub returns-in-ThrowExpression : goal.returns-in-ThrowExpression
returns-in-ThrowExpression c = rw c.in-ThrowExpression.is (c.throw_row.ensures (lexemes_of c.args.tokens.now) c.args.token)

pub returns-in_default : goal.returns-in_default
returns-in_default c = subst (λ (z : Result Typed ElabFault). Types (trees_of c.args.work.now.nodes.items) (trees_of c.leaf.new.work.nodes.items)
    (work_of c.leaf.new.work) c.leaf.result z) (sym (leaf_alone (lexemes_of c.args.tokens.now) (ctx_of c.args.env.now)
    (work_of c.args.work.now) c.args.kind c.args.at c.args.token c.in_default.not-ThrowExpression)) c.leaf.ensures
