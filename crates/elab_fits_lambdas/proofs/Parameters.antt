-- Parameters change nothing but the names and the variables of the function at hand.
use Rattle.std.proofs.Common.{◌≡◌, refl, ap, ◌∙◌, ℕ, List, [], ◌∷◌, Option, Some, None}
use Rattle.elab_rules.specs.cpp_types.Class.{held}
use Rattle.elab_rules.specs.cpp_lex.Tokens.{Lexeme}
use Rattle.elab_rules.specs.cpp_names.Names.{Names}
use Rattle.elab_rules.specs.cpp_tree.declared.faults.IllRule.TheVariants.{Incomplete, Redeclared}
use Rattle.elab_rules.specs.elab_ctx.Ctx.{Ctx, Variable}
use Rattle.elab_rules.specs.elab_ctx.Steps.{check, spelling}
use Rattle.elab_rules.specs.Operators.{is_complete}
use Rattle.elab_rules.specs.Types.{Parameter}
use Rattle.elab_rules.specs.Statements.{State, is_fresh}
use Rattle.elab_rules.specs.Functions.{with_parameters, parameter_named}
use Rattle.elab_fits.specs.Standing.{On}
use Rattle.elab_fits.proofs.Steps.{bind, skip}
use Rattle.elab_fits_statements.proofs.States.{mapped}

-- with other names and variables
abbrev pub renamed : Ctx → List Names → List Variable → Ctx
renamed c names variables = record c { scopes = names; variables = variables }

pub record OnlyNames (a b : State) : Type 0 where
  pub ctx : b.ctx ≡ renamed a.ctx b.ctx.scopes b.ctx.variables
  pub bodies : b.bodies ≡ a.bodies

same : (a : State) → OnlyNames a a
same a = record { ctx = refl; bodies = refl }

joined : (a b c : State) → OnlyNames a b → OnlyNames b c → OnlyNames a c
joined a b c g h = record {
  ctx = h.ctx ∙ ap (λ (z : Ctx). renamed z c.ctx.scopes c.ctx.variables) g.ctx;
  bodies = h.bodies ∙ g.bodies;
}

one_parameter : (s : List Lexeme) (st : State) (p : Parameter) (o : Option ℕ) → On (OnlyNames st) (parameter_named s st p o)
one_parameter s st p (Some n) = skip (OnlyNames st) (check p.at Redeclared (is_fresh st.ctx (spelling s n))) _ (λ y. record { ctx = refl; bodies = refl })
one_parameter s st p None = record { ctx = refl; bodies = refl }

pub only_names : (s : List Lexeme) (st : State) (ps : List Parameter) → On (OnlyNames st) (with_parameters s st ps)
only_names s st [] = same st
only_names s st (p ∷ ps) = skip (OnlyNames st) (check p.at Incomplete (is_complete st.ctx (held p.typ))) _
    (λ y. bind (OnlyNames st) (OnlyNames st) (parameter_named s st p p.name) _ (one_parameter s st p p.name)
    (λ x h. mapped (OnlyNames x) (OnlyNames st) (with_parameters s x ps) (only_names s x ps) (λ z i. joined st x z h i)))
