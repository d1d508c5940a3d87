-- The function that a definition is for.
use Rattle.std.specs.Prelude.{◌≡◌, ℕ, Bool, true, List, map, Some, Ok, slice_get}
use Rattle.elab_rules.specs.cpp_lex.Tokens.{Lexeme}
use Rattle.elab_rules.specs.elab_ctx.Ctx.{Ctx, Func}
use Rattle.elab_rules.specs.elab_ctx.Steps.{expect}
use Rattle.elab_rules.specs.cpp_tree.declared.faults.IllRule.{IllRule}
use Rattle.elab_rules.specs.Initialising.{signature_result, func_at}
use Rattle.elab_rules.specs.Functions.{Header, Placed, param_of, is_same_function, first_from, function_declared, with_definition}
use Rattle.elab_rules.specs.Members.{place_of_header, late_kept, outside_agrees, outside_defined}

-- it stands in this place with the result, the kind, the class and the parameters of the header, and is defined
pub record IsDefinition (c : Ctx) (h : Header) (place : ℕ) : Type 0 where
  pub func : Func
  pub at : slice_get c.funcs place ≡ Some func
  pub result : signature_result func.declared.signature ≡ signature_result h.signature
  pub kind : func.kind ≡ h.kind
  pub class : func.class ≡ h.class
  pub params : func.params ≡ map param_of h.params
  pub defined : func.is_defined ≡ true

-- at file scope, declared before or not
abbrev pub DeclaredAreDefined : Type 0
DeclaredAreDefined = (c : Ctx) (h : Header) (text : List ℕ) (closed : ℕ) (p : Placed) → function_declared c h true ≡ Ok p
    → IsDefinition (with_definition p.ctx p.place h text closed) h p.place

-- in a class, behind its brace
abbrev pub MethodsAreDefined : Type 0
MethodsAreDefined = (c d : Ctx) (h : Header) (place closed : ℕ) → place_of_header c h ≡ Ok place → late_kept c place h closed ≡ Ok d → IsDefinition d h place

-- outside of its class
abbrev pub OutsideAreDefined : Type 0
OutsideAreDefined = (s : List Lexeme) (c : Ctx) (h : Header) (rule : IllRule) (place first last : ℕ)
    → expect h.at rule (first_from (is_same_function h) 0 c.funcs) ≡ Ok place → (x : Bool) → outside_agrees h (func_at c.funcs place) ≡ Ok x
    → IsDefinition (outside_defined s c place h first last) h place
