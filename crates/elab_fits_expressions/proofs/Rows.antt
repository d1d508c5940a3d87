-- The rows of expressions, of all operands that stand.
use Rattle.std.proofs.Common.{◌≡◌, ℕ, false, List}
use Rattle.elab_rules.specs.cpp_types.declared.classes.At.{At}
use Rattle.elab_rules.specs.cpp_lex.Tokens.{Lexeme}
use Rattle.elab_rules.specs.cpp_ast.declared.kinds.NodeKind.{NodeKind}
use Rattle.elab_rules.specs.cpp_ast.declared.kinds.NodeKind.TheVariants as k
use Rattle.elab_rules.specs.cpp_tree.Rows.{Setting}
use Rattle.elab_rules.specs.elab_ctx.Ctx.{Ctx, Work}
use Rattle.elab_rules.specs.elab_ctx.Steps.{Operand, spelling}
use Rattle.elab_rules.specs.Casts.{throw}
use Rattle.elab_rules.specs.Expressions.{row_of}
use Rattle.elab_fits.specs.Standing.{On}
use Rattle.elab_fits_forms.specs.Types.{is_empty}
use Rattle.elab_fits_forms.specs.Context.{Holds}
use Rattle.elab_fits_forms.specs.Names.{TypedMeans}
use Rattle.elab_fits_forms.specs.Forms.{ProperOperands}
use Rattle.elab_fits_forms.proofs.Forms.{made_typed, rows_mean}
use Rattle.elab_fits_forms.proofs.ObjectThrows.{throws_stand}
use Rattle.elab_fits_expressions.proofs.Fields.{fields_agree}

pub all_rows : (lexemes : List Lexeme) (s : Setting) (c : Ctx) (w : Work) (kind : NodeKind) (at : At) (t : ℕ) (os : List Operand) → Holds s c w
    → is_empty (spelling lexemes t) ≡ false → ProperOperands s c os → On (TypedMeans s c) (row_of lexemes c w kind at t os)
all_rows l s c w k.ThrowExpression at t os h n x = made_typed s c at (throw c w at os) (throws_stand fields_agree s c w at os h x)
all_rows l s c w kind at t os h n x = rows_mean l s c w kind at t os h n x tt
