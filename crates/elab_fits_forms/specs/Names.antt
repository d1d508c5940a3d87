-- Laws of names, members and `this`.
use Rattle.std.specs.Prelude.{◌≡◌, ℕ, false, List}
use Rattle.elab_rules.specs.cpp_types.declared.classes.At.{At}
use Rattle.elab_rules.specs.cpp_names.declared.entity.EntityKind.{EntityKind}
use Rattle.elab_rules.specs.cpp_lex.Tokens.{Lexeme}
use Rattle.elab_rules.specs.cpp_ast.declared.kinds.NodeKind.{NodeKind}
use Rattle.elab_rules.specs.cpp_tree.Trees.{Tree}
use Rattle.elab_rules.specs.cpp_tree.Rows.{Setting}
use Rattle.elab_rules.specs.elab_ctx.Ctx.{Ctx, Work}
use Rattle.elab_rules.specs.elab_ctx.Steps.{Operand, Made, Typed, spelling}
use Rattle.elab_rules.specs.Names.{variable_in, is_outer, this_tree, member_access, of_entity, named, resolved}
use Rattle.elab_rules.specs.Expressions.{leaf_of}
use Rattle.elab_fits.specs.Standing.{Reaches, On}
use Rattle.elab_fits_forms.specs.Types.{is_empty}
use Rattle.elab_fits_forms.specs.Meaning.{Proper, Means, ProperOperand, MeansOperand}
use Rattle.elab_fits_forms.specs.Context.{Holds}

-- what a form makes means something where all that is made has its place
abbrev pub MadeMeans : Setting → Ctx → Made → Type 0
MadeMeans s c m = Reaches s m.work → Means s c m.tree

abbrev pub TypedMeans : Setting → Ctx → Typed → Type 0
TypedMeans s c x = Reaches s x.work → MeansOperand s c x.operand

-- a variable stands, captured or not
abbrev pub VariablesStand : Type 0
VariablesStand = (s : Setting) (c : Ctx) (w : Work) (at : At) (i : ℕ) → Holds s c w → Reaches s w
    → On (Proper s c) (variable_in c w at i (is_outer i c.lambda))

-- and so does `this`
abbrev pub ThisStands : Type 0
ThisStands = (s : Setting) (c : Ctx) (w : Work) (at : At) → Holds s c w → Reaches s w → On (Proper s c) (this_tree c at)

abbrev pub EntitiesMean : Type 0
EntitiesMean = (s : Setting) (c : Ctx) (w : Work) (at : At) (kind : EntityKind) (i : ℕ) → Holds s c w → Reaches s w → On (Means s c) (of_entity c w at kind i)

-- `a.name`; names are not empty, and members without a name are those of lambdas
abbrev pub MembersMean : Type 0
MembersMean = (s : Setting) (c : Ctx) (w : Work) (at dot : At) (name : List ℕ) (o : Operand) → Holds s c w → is_empty name ≡ false → ProperOperand s c o
    → On (MadeMeans s c) (member_access c w at dot name o)

abbrev pub NamesMean : Type 0
NamesMean = (s : Setting) (c : Ctx) (w : Work) (at : At) (name : List ℕ) → Holds s c w → Reaches s w → is_empty name ≡ false → On (Means s c) (named c w at name)

-- one function for those that are named: what means something stands
abbrev pub ResolvedStand : Type 0
ResolvedStand = (s : Setting) (c : Ctx) (w : Work) (e : Tree) → Holds s c w → Means s c e → On (Proper s c) (resolved c e)

-- literals, names and `this`
abbrev pub LeavesMean : Type 0
LeavesMean = (lexemes : List Lexeme) (s : Setting) (c : Ctx) (w : Work) (kind : NodeKind) (at : At) (t : ℕ) → Holds s c w
    → is_empty (spelling lexemes t) ≡ false → On (TypedMeans s c) (leaf_of lexemes c w kind at t)
