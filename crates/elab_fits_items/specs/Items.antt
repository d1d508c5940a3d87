-- Objects that braces initialise, and their parts (C++14 8.5.1, 8.5.4).
use Rattle.std.specs.Prelude.{◌≡◌, ℕ, true, false, List, Option, Some, is_some, slice_get}
use Rattle.elab_rules.specs.cpp_types.Typ.{Typ}
use Rattle.elab_rules.specs.cpp_types.Class.{Class, Member}
use Rattle.elab_rules.specs.cpp_types.declared.ranks.Cat.TheVariants.{Lvalue}
use Rattle.elab_rules.specs.cpp_lex.Tokens.{Lexeme}
use Rattle.elab_rules.specs.cpp_ast.declared.arena.At.{At as SyntaxAt}
use Rattle.elab_rules.specs.cpp_ast.declared.kinds.NodeKind.TheVariants as k
use Rattle.elab_rules.specs.cpp_ast.Trees as syntax
use Rattle.elab_rules.specs.cpp_tree.declared.roles.Role.TheVariants.{Value}
use Rattle.elab_rules.specs.cpp_tree.Trees.{Tree, cat_of}
use Rattle.elab_rules.specs.cpp_tree.Parts.{size_in}
use Rattle.elab_rules.specs.cpp_tree.Rows.{Setting}
use Rattle.elab_rules.specs.elab_ctx.Ctx.{Ctx, Work}
use Rattle.elab_rules.specs.elab_ctx.Steps.{Made}
use Rattle.elab_rules.specs.Braces.{item_of}
use Rattle.elab_fits.specs.Standing.{FitsAs, BuildsOne, Reaches, On}
use Rattle.elab_fits.specs.Objects.{is_ready, has_lambdas}
use Rattle.elab_fits_forms.specs.Types.{is_lambda, is_declared, is_target}
use Rattle.elab_fits_forms.specs.Context.{Holds}
use Rattle.elab_fits_forms.specs.Expressions.{is_spelled, are_spelled, ClosuresHold}
use Rattle.elab_fits_statements.specs.Variables.{BuildsWhole}
use Rattle.elab_fits_expressions.specs.Growing.{Behind}
use Rattle.elab_fits_braces.specs.Defaults.{AllDefaultsFit}

-- no member of a class that has a name is an array of lambdas' objects
abbrev pub MembersSingle : Ctx → Type 0
MembersSingle c = (n i : ℕ) (k : Class) (m : Member) → slice_get c.classes n ≡ Some k → slice_get k.members i ≡ Some m → is_lambda c.classes n ≡ false
    → has_lambdas m.typ ≡ false

-- what the law asks of the context in which the braces stand
pub record ItemsHold (s : Setting) (c : Ctx) : Type 0 where
  pub closures : ClosuresHold c c.closures
  pub defaults : AllDefaultsFit s c.defaults
  pub single : MembersSingle c

-- objects of the type can be variables
pub record IsBraced (c : Ctx) (t : Typ) : Type 0 where
  pub declared : is_declared c.classes t ≡ true
  pub sized : is_some (size_in c.classes t) ≡ true
  pub ready : is_ready c.classes true t ≡ true
  pub single : has_lambdas t ≡ false

-- what is made stands behind what was made before, and builds the object where it has its place
pub record Whole (s : Setting) (w : Work) (t : Typ) (m : Made) : Type 0 where
  pub behind : Behind w m.work
  pub builds : Reaches s m.work → BuildsWhole s t m.tree

-- braces build an object, which stands where an expression says
abbrev pub BracesBuild : Type 0
BracesBuild = (lexemes : List Lexeme) (s : Setting) (c : Ctx) (w : Work) (object : Tree) (t : Typ) (p : SyntaxAt) (token : Option ℕ) (items : syntax.Trees)
    → Holds s c w → ItemsHold s c → IsBraced c t → FitsAs s Value object → cat_of object ≡ Lvalue
    → are_spelled lexemes items ≡ true
    → On (Whole s w t) (item_of lexemes c w object t (syntax.node k.BracedInitList p token items))

-- an item builds its part, in braces or not
pub record PartBuilt (s : Setting) (w : Work) (t : Typ) (m : Made) : Type 0 where
  pub behind : Behind w m.work
  pub builds : Reaches s m.work → BuildsOne s t m.tree

abbrev pub PartsBuild : Type 0
PartsBuild = (lexemes : List Lexeme) (s : Setting) (c : Ctx) (w : Work) (object : Tree) (t : Typ) (x : syntax.Tree) → Holds s c w → ItemsHold s c
    → IsBraced c t → is_target c.classes t ≡ true → FitsAs s Value object → cat_of object ≡ Lvalue → is_spelled lexemes x ≡ true
    → On (PartBuilt s w t) (item_of lexemes c w object t x)
