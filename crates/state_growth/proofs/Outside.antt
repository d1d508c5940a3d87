-- Functions that are declared and defined, in their class or outside: what stood before stands behind them.
use Rattle.std.proofs.Common.{refl, ℕ, Bool, true, false, List, [], ◌∷◌, ◌++◌, Option, Some, None}
use Rattle.std.specs.Prelude.{slice_get, not, ◌||◌, if◌then◌else◌}
use Rattle.std.specs.List.{list_any}
use Rattle.elab_rules.specs.cpp_types.declared.classes.At.{At}
use Rattle.elab_rules.specs.cpp_lex.Tokens.{Lexeme}
use Rattle.elab_rules.specs.cpp_ast.Trees as syntax
use Rattle.elab_rules.specs.cpp_names.Names.{innermost_of}
use Rattle.elab_rules.specs.cpp_names.declared.entity.Entity.{Entity}
use Rattle.elab_rules.specs.cpp_tree.declared.faults.IllRule.TheVariants.{BadDeclaration, NoMember, OutOfProfile, Redeclared, TypeDiffers}
use Rattle.elab_rules.specs.cpp_tree.declared.program.FuncKind.{FuncKind}
use Rattle.elab_rules.specs.elab_ctx.Ctx.{Ctx, Func}
use Rattle.elab_rules.specs.elab_ctx.Steps.{check, expect}
use Rattle.elab_rules.specs.Initialising.{func_at}
use Rattle.elab_rules.specs.Statements.{State, Lambdas}
use Rattle.elab_rules.specs.Functions.{Storage, Header, Placed, new_function, is_same_function, first_from, agrees, is_function_entity, function_named}
use Rattle.elab_rules.specs.Functions.{name_declared, declared_in, main_fits, may_be_c, dynamic_fits, header_sized, text_sized, function_declared}
use Rattle.elab_rules.specs.Functions.{with_definition}
use Rattle.elab_rules.specs.Classes.{Method, Started, started_from, body_in, last_token, token_end}
use Rattle.elab_rules.specs.Members.{outside_linkage, outside_text, linked_definition, outside_defined, outside_body, outside_words, is_member_named}
use Rattle.elab_rules.specs.Members.{outside_agrees, outside_method, outside_with, member_defined, method_body}
use Rattle.elab_fits.specs.Standing.{On}
use Rattle.state_growth.specs.Settings.{SameDeclared}
use Rattle.state_growth.proofs.Steps.{Leaves, funcs_stay, funcs_go_on, bind, skip, behind}
use Rattle.state_growth.proofs.Items.{Lawful}
use Rattle.state_growth.proofs.Bodies.{funcs_added}
use Rattle.state_growth.proofs.Members.{method_kept}
use Rattle.state_growth.proofs.Changing.{Further, no_further, further_on, further_leaves, set_further, definition_further}

-- A definition

linkage_same : (b : Bool) (f g : Func) → SameDeclared f f → SameDeclared f g → SameDeclared f (if b then g else f)
linkage_same true f g s t = t
linkage_same false f g s t = s

linked_further : (c : Ctx) (i : ℕ) (x : Storage) → Further c (linked_definition c i x)
linked_further c i x = set_further c i (outside_linkage x (func_at c.funcs i)) (linkage_same x.is_inline (func_at c.funcs i) _
    (record { declared = refl; kind = refl; class = refl }) (record { declared = refl; kind = refl; class = refl }))

pub outside_further : (s : List Lexeme) (c : Ctx) (i : ℕ) (h : Header) (first last : ℕ) → Further c (outside_defined s c i h first last)
outside_further s c i h first last =
    let text : List ℕ = outside_text s h.storage first last in
    let closed : ℕ = token_end (slice_get s last) in
    let d : Ctx = with_definition c i h text closed in
    further_on c d (linked_definition d i h.storage) (definition_further c i h text closed) (linked_further d i h.storage)

-- A declaration

named_further : (c : Ctx) (at : At) (name : List ℕ) (o : Option Entity) → On (Further c) (function_named c at name o)
named_further c at name None = record { classes = refl; slots = refl; funcs = funcs_stay c.funcs }
named_further c at name (Some x) = skip (Further c) (check at Redeclared (is_function_entity x.kind)) _ (λ y. no_further c)

name_further : (c : Ctx) (h : Header) (o : Option ℕ) → On (Further c) (name_declared c h o)
name_further c h (Some n) = no_further c
name_further c h None = named_further c h.at h.name (innermost_of c.scopes h.name)

abbrev pub Placing : Ctx → Placed → Type 0
Placing c p = Further c p.ctx

added_further : (c d : Ctx) (f : Func) → Further c d → Further c (record d { funcs = d.funcs ++ f ∷ [] })
added_further c d f g = record { classes = g.classes; slots = g.slots; funcs = funcs_go_on c.funcs d.funcs (d.funcs ++ f ∷ []) g.funcs (funcs_added d.funcs f) }

in_further : (c : Ctx) (h : Header) (defines : Bool) (o : Option ℕ) → On (Placing c) (declared_in c h defines o)
in_further c h defines (Some i) = skip (Placing c) (agrees h (func_at c.funcs i) defines) _ (λ y. no_further c)
in_further c h defines None = bind (Further c) (Placing c) (name_declared c h h.class) _ (name_further c h h.class)
    (λ d i. added_further c d (new_function h) i)

pub function_further : (c : Ctx) (h : Header) (defines : Bool) → On (Placing c) (function_declared c h defines)
function_further c h defines = skip (Placing c) (main_fits h) _
    (λ a. skip (Placing c) (check h.at BadDeclaration (not h.qualifiers.is_const)) _
    (λ b. skip (Placing c) (dynamic_fits h) _ (λ d. skip (Placing c) (check h.at OutOfProfile (not h.storage.is_c || may_be_c h)) _
    (λ e. skip (Placing c) (header_sized c h) _ (λ z. in_further c h defines (first_from (is_same_function h) 0 c.funcs))))))

-- Members that are defined outside their class

pub body_kept : (lams : Lambdas) → Lawful lams → (s : List Lexeme) (st : State) (n : ℕ) (kind : FuncKind) (first : ℕ) (m : Method) (body : syntax.Tree)
    → On (Leaves st) (outside_body lams s st n kind first m body)
body_kept lams q s st n kind first m body = skip (Leaves st) (text_sized m.header.at (outside_text s m.header.storage first (last_token (Some body)))) _
    (λ v. skip (Leaves st) (outside_words m.header) _ (λ w. skip (Leaves st)
    (check m.header.at NoMember (list_any (is_member_named n m.header.name) st.ctx.funcs)) _
    (λ x. skip (Leaves st) (expect m.header.at TypeDiffers (first_from (is_same_function m.header) 0 st.ctx.funcs)) _
    (λ place. skip (Leaves st) (outside_agrees m.header (func_at st.ctx.funcs place)) _ (λ y.
    let c : Ctx = outside_defined s st.ctx place m.header first (last_token (Some body)) in
    behind st (record st { ctx = c }) (λ (z : State). z) (method_body lams s (record st { ctx = c }) n place kind m body)
    (further_leaves st c (outside_further s st.ctx place m.header first (last_token (Some body))))
    (method_kept lams q s (record st { ctx = c }) n place kind m body))))))

with_kept : (lams : Lambdas) → Lawful lams → (s : List Lexeme) (st : State) (at : At) (kind : FuncKind) (first : ℕ) (m : Method) (body : Option syntax.Tree)
    → On (Leaves st) (outside_with lams s st at kind first m body)
with_kept lams q s st at kind first m (Some body) =
    skip (Leaves st) (expect at BadDeclaration m.header.class) _ (λ n. body_kept lams q s st n kind first m body)
with_kept lams q s st at kind first m None = tt

pub outside_kept : (lams : Lambdas) → Lawful lams → (s : List Lexeme) (x : Storage) (st : State) (at : At) (kind : FuncKind) (first : ℕ) (kids : syntax.Trees)
    → On (Leaves st) (member_defined lams s x st at kind first kids)
outside_kept lams q s x st at kind first kids = let z : Started = started_from s x kids in
    skip (Leaves st) (outside_method s st at z.storage kind z.rest) _ (λ m. with_kept lams q s st at kind first m (body_in kids))
