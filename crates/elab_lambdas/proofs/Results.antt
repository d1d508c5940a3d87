-- Result types that are written.
use Rattle.std.proofs.Common.{◌≡◌, ◌∙◌, List, Option, Some, None, Result, refl, sym, ap, subst}
use Rattle.elab_entry.specs.cpp_lex.Tokens.{Lexeme}
use Rattle.elab_entry.specs.cpp_ast.Trees.{Tree, node, Trees, none, more}
use Rattle.elab_entry.specs.cpp_ast.declared.kinds.NodeKind.TheVariants as k
use Rattle.std.specs.Prelude.{option_map}
use Rattle.elab_entry.specs.cpp_types.Typ.{Typ, typ_of}
use Rattle.elab_entry.specs.cpp_types.declared.types.Ty.{Ty}
use Rattle.elab_entry.specs.elab_types.Shown.{Says}
use Rattle.elab_entry.specs.cpp_tree.declared.faults.ElabFault.{ElabFault}
use Rattle.elab_entry.specs.elab_ctx.Ctx.{Ctx, Work}
use Rattle.elab_entry.specs.elab_rules.Expressions.{type_id_of}
use Rattle.elab_entry.specs.elab_rules.Lambdas.{result_among, an_option}
use Rattle.elab_lambdas.specs.Steps.{trailing_in, tree_or, trailing, result_written}

-- one tree, and those behind it
abbrev first_or : List Lexeme → Ctx → Work → Option Tree → Trees → Result (Option Typ) ElabFault
first_or s c w (Some t) ts = an_option (type_id_of s c w t)
first_or s c w None ts = result_among s c w ts

among_is : (s : List Lexeme) (c : Ctx) (w : Work) (t : Tree) (ts : Trees) → result_among s c w (more t ts) ≡ first_or s c w (trailing_in t) ts
among_is s c w (node k.TrailingReturnType p token (more t none)) ts = refl
among_is s c w (node k.TrailingReturnType p token none) ts = refl
among_is s c w (node k.TrailingReturnType p token (more t (more u us))) ts = refl
among_is s c w (node kind p token kids) ts = refl

first_is : (s : List Lexeme) (c : Ctx) (w : Work) (o : Option Tree) (ts : Trees) → result_among s c w ts ≡ result_written s c w (trailing ts)
    → first_or s c w o ts ≡ result_written s c w (tree_or o (trailing ts))
first_is s c w (Some t) ts e = refl
first_is s c w None ts e = e

pub result_is : (s : List Lexeme) (c : Ctx) (w : Work) (ts : Trees) → result_among s c w ts ≡ result_written s c w (trailing ts)
result_is s c w none = refl
result_is s c w (more t ts) = among_is s c w t ts ∙ first_is s c w (trailing_in t) ts (result_is s c w ts)

pub result_says : (s : List Lexeme) (c : Ctx) (w : Work) (ts : Trees) (o : Option Tree) (r : Result (Option Ty) ElabFault) → trailing ts ≡ o
    → Says (option_map typ_of) r (result_written s c w o) → Says (option_map typ_of) r (result_among s c w ts)
result_says s c w ts o r e m = subst (λ (z : Result (Option Typ) ElabFault). Says (option_map typ_of) r z)
    (sym (result_is s c w ts ∙ ap (result_written s c w) e)) m
