-- Declarations of functions, as steps.
use Rattle.std.proofs.Common.{◌≡◌, ◌∙◌, ℕ, Bool, true, false, not, ◌||◌, List, [], ◌∷◌, ◌++◌, length, Option, Some, None, Result, Ok, Err, refl, sym, ap}
use Rattle.cpp_types.specs.declared.classes.At.{At}
use Rattle.elab_expr.specs.cpp_tree.declared.faults.ElabFault.{ElabFault}
use Rattle.elab_expr.specs.cpp_tree.declared.faults.IllRule.TheVariants.{Redeclared, BadDeclaration, OutOfProfile}
use Rattle.elab_expr.specs.cpp_names.Names.{innermost_of}
use Rattle.elab_expr.specs.cpp_names.declared.entity.Entity.{Entity}
use Rattle.elab_expr.specs.elab_ctx.Ctx.{Ctx, Func}
use Rattle.elab_expr.specs.elab_ctx.Steps.{and_then, check}
use Rattle.elab_expr.specs.elab_rules.Functions.{Header, Placed, main_fits, dynamic_fits, may_be_c, header_sized, is_same_function, first_from}
use Rattle.elab_expr.specs.elab_rules.Functions.{is_function_entity, function_named, name_declared, declared_in, function_declared, new_function}
use Rattle.elab_decls.specs.Says.{words_fit, newly_declared}

five : {A : Type 0} (m a d e z : Result Bool ElabFault) (r : Result A ElabFault) (x y w : Bool) → m ≡ Ok x → and_then a (λ _. and_then d (λ _. e)) ≡ Ok y
    → z ≡ Ok w → and_then m (λ _. and_then a (λ _. and_then d (λ _. and_then e (λ _. and_then z (λ _. r))))) ≡ r
five (Ok _) (Ok _) (Ok _) (Ok _) (Ok _) r x y w h g k = refl
five (Ok _) (Ok _) (Ok _) (Ok _) (Err f) r x y w h g k = absurd cc
five (Ok _) (Ok _) (Ok _) (Err f) z r x y w h g k = absurd cc
five (Ok _) (Ok _) (Err f) e z r x y w h g k = absurd cc
five (Ok _) (Err f) d e z r x y w h g k = absurd cc
five (Err f) a d e z r x y w h g k = absurd cc

-- a declaration whose words fit
pub declared_is : (c : Ctx) (h : Header) (defines x y w : Bool) (o : Option ℕ) → main_fits h ≡ Ok x → words_fit h ≡ Ok y → header_sized c h ≡ Ok w
    → first_from (is_same_function h) 0 c.funcs ≡ o → function_declared c h defines ≡ declared_in c h defines o
declared_is c h defines x y w o m f z e =
    five (main_fits h) (check h.at BadDeclaration (not h.qualifiers.is_const)) (dynamic_fits h) (check h.at OutOfProfile (not h.storage.is_c || may_be_c h))
    (header_sized c h) (declared_in c h defines (first_from (is_same_function h) 0 c.funcs)) x y w m f z
    ∙ ap (declared_in c h defines) e

-- Functions stay where only a name is declared

abbrev funcs_in : Result Ctx ElabFault → List Func
funcs_in (Ok c) = c.funcs
funcs_in (Err e) = []

abbrev placed : Ctx → ℕ → Result Placed ElabFault
placed c n = Ok (record { ctx = c; place = n })

kept_if : (c d : Ctx) (at : At) (b : Bool) → and_then (check at Redeclared b) (λ _. Ok c) ≡ Ok d → d.funcs ≡ c.funcs
kept_if c d at true h = let e : c ≡ d = cc in ap (λ (z : Ctx). z.funcs) (sym e)
kept_if c d at false h = absurd cc

kept_named : (c d : Ctx) (at : At) (name : List ℕ) (o : Option Entity) → function_named c at name o ≡ Ok d → d.funcs ≡ c.funcs
kept_named c d at name None h = ap (λ (z : Result Ctx ElabFault). funcs_in z) (sym h)
kept_named c d at name (Some e) h = kept_if c d at (is_function_entity e.kind) h

pub functions_kept : (c d : Ctx) (h : Header) (o : Option ℕ) → name_declared c h o ≡ Ok d → d.funcs ≡ c.funcs
functions_kept c d h (Some n) e = ap (λ (z : Result Ctx ElabFault). funcs_in z) (sym e)
functions_kept c d h None e = kept_named c d h.at h.name (innermost_of c.scopes h.name) e

-- a function that was not declared before
pub newly_is : (c d e : Ctx) (h : Header) (n : ℕ) → n ≡ length c.funcs → name_declared c h h.class ≡ Ok d
    → e ≡ record d { funcs = d.funcs ++ new_function h ∷ [] } → newly_declared c h ≡ Ok (record { ctx = e; place = n })
newly_is c d e h n p q g =
    let k : length d.funcs ≡ n = ap (λ (z : List Func). length z) (functions_kept c d h h.class q) ∙ sym p in
    ap (λ (z : Result Ctx ElabFault). and_then z (λ (x : Ctx). placed (record x { funcs = x.funcs ++ new_function h ∷ [] }) (length x.funcs))) q
    ∙ ap (placed (record d { funcs = d.funcs ++ new_function h ∷ [] })) k
    ∙ ap (λ (z : Ctx). placed z n) (sym g)
