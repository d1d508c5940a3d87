-- Functions that are declared, and members that are defined outside their class, are steps.
use Rattle.std.proofs.Common.{◌≡◌, refl, ap, ◌∙◌, ℕ, Bool, true, false, List, [], ◌∷◌, ◌++◌, Option, Some, None}
use Rattle.std.specs.Prelude.{slice_get, not, ◌||◌, if◌then◌else◌}
use Rattle.std.specs.List.{list_any}
use Rattle.elab_rules.specs.cpp_types.declared.classes.At.{At}
use Rattle.elab_rules.specs.cpp_lex.Tokens.{Lexeme}
use Rattle.elab_rules.specs.cpp_ast.Trees as syntax
use Rattle.elab_rules.specs.cpp_names.Names.{innermost_of}
use Rattle.elab_rules.specs.cpp_names.declared.entity.Entity.{Entity}
use Rattle.elab_rules.specs.cpp_tree.declared.faults.IllRule.TheVariants.{BadDeclaration, NoMember, OutOfProfile, Redeclared, TypeDiffers}
use Rattle.elab_rules.specs.cpp_tree.declared.program.FuncKind.{FuncKind}
use Rattle.elab_rules.specs.elab_ctx.Ctx.{Ctx, Func}
use Rattle.elab_rules.specs.elab_ctx.Steps.{check, expect}
use Rattle.elab_rules.specs.Initialising.{func_at}
use Rattle.elab_rules.specs.Statements.{State, Lambdas}
use Rattle.elab_rules.specs.Functions.{Storage, Header, Placed, new_function, is_same_function, first_from, agrees, is_function_entity, function_named}
use Rattle.elab_rules.specs.Functions.{name_declared, declared_in, main_fits, may_be_c, dynamic_fits, header_sized, text_sized, function_declared}
use Rattle.elab_rules.specs.Functions.{with_definition}
use Rattle.elab_rules.specs.Classes.{Method, Started, started_from, body_in, last_token, token_end}
use Rattle.elab_rules.specs.Members.{outside_linkage, outside_text, linked_definition, outside_defined, outside_body, outside_words, is_member_named}
use Rattle.elab_rules.specs.Members.{outside_agrees, outside_method, outside_with, member_defined, method_body}
use Rattle.elab_fits.specs.Standing.{On}
use Rattle.elab_fits.proofs.Steps.{bind, skip}
use Rattle.elab_contexts.proofs.Walking.{Leaves, behind, one_step}
use Rattle.elab_contexts.proofs.Items.{Lawful}
use Rattle.elab_contexts.proofs.Members.{method_kept}
use Rattle.elab_rules.specs.cpp_tree.declared.program.FuncKind.TheVariants.{Plain}
use Rattle.elab_contexts.specs.Overriders.{is_overrider_by}
use Rattle.elab_contexts.proofs.Owned.{overriders_added}
use Rattle.elab_contexts.specs.Steps.{none_yet, function_added, SameFunction, IsOpen, is_same_declared}
use Rattle.elab_contexts.proofs.Defined.{Further, no_further, further_on, further_leaves, set_further, definition_further}

-- A definition

linkage_same : (b : Bool) (f g : Func) → SameFunction f f → SameFunction f g → SameFunction f (if b then g else f)
linkage_same true f g s t = t
linkage_same false f g s t = s

linked_further : (c : Ctx) (i : ℕ) (x : Storage) → Further c (linked_definition c i x)
linked_further c i x = set_further c i (outside_linkage x (func_at c.funcs i)) (linkage_same x.is_inline (func_at c.funcs i) _
    (record { declared = refl; kind = refl; class = refl; builtin = refl; implicit = refl }) (record { declared = refl; kind = refl; class = refl; builtin = refl; implicit = refl }))

pub outside_further : (s : List Lexeme) (c : Ctx) (i : ℕ) (h : Header) (first last : ℕ) → Further c (outside_defined s c i h first last)
outside_further s c i h first last =
    let text : List ℕ = outside_text s h.storage first last in
    let closed : ℕ = token_end (slice_get s last) in
    let d : Ctx = with_definition c i h text closed in
    further_on c d (linked_definition d i h.storage) (definition_further c i h text closed) (linked_further d i h.storage)

-- A declaration

abbrev pub Placing : Ctx → Placed → Type 0
Placing c p = Further c p.ctx

pub added_further : (c : Ctx) (f : Func) → f.builtin ≡ None → f.implicit ≡ false → (f.class ≡ None → f.kind ≡ Plain)
    → ((n : ℕ) → f.class ≡ Some n → IsOpen c.classes n) → ((w : List ℕ → Bool) (n : ℕ) → f.class ≡ Some n → is_overrider_by w f ≡ true)
    → first_from (is_same_declared f) 0 c.funcs ≡ None
    → Further c (record c { funcs = c.funcs ++ f ∷ [] })
added_further c f b i k o v n = record {
  walk = one_step (function_added (record { func = f; is = refl; unknown = b; written = i; free = k; unclosed = o; fresh = n }));
  same = refl;
  overrides = λ w h. overriders_added w c.funcs f h (v w);
}

-- at file scope
abbrev pub IsFree : Header → Type 0
IsFree h = (h.class ≡ None) × (h.kind ≡ Plain)

of_no_class : (o : Option ℕ) (n : ℕ) (A : Type 0) → o ≡ None → o ≡ Some n → A
of_no_class None n A e f = absurd cc
of_no_class (Some m) n A e f = absurd cc

-- a context in which only a name is more
record Named (c d : Ctx) : Type 0 where
  walk : Further c d
  funcs : d.funcs ≡ c.funcs

named_only : (c : Ctx) (at : At) (name : List ℕ) (o : Option Entity) → On (Named c) (function_named c at name o)
named_only c at name None = record { walk = record { walk = none_yet; same = refl; overrides = λ w h. h }; funcs = refl }
named_only c at name (Some x) = skip (Named c) (check at Redeclared (is_function_entity x.kind)) _ (λ y. record { walk = no_further c; funcs = refl })

name_only : (c : Ctx) (h : Header) (o : Option ℕ) → On (Named c) (name_declared c h o)
name_only c h (Some n) = record { walk = no_further c; funcs = refl }
name_only c h None = named_only c h.at h.name (innermost_of c.scopes h.name)

in_further : (c : Ctx) (h : Header) (defines : Bool) (o : Option ℕ) → first_from (is_same_function h) 0 c.funcs ≡ o → IsFree h
    → On (Placing c) (declared_in c h defines o)
in_further c h defines (Some i) q k = skip (Placing c) (agrees h (func_at c.funcs i) defines) _ (λ y. no_further c)
in_further c h defines None q k = bind (Named c) (Placing c) (name_declared c h h.class) _ (name_only c h h.class)
    (λ d x. further_on c d (record d { funcs = d.funcs ++ new_function h ∷ [] }) x.walk
    (added_further d (new_function h) refl refl (λ e. k.1) (λ n e. of_no_class h.class n _ k.0 e) (λ w n e. of_no_class h.class n _ k.0 e)
    (ap (λ (fs : List Func). first_from (is_same_declared (new_function h)) 0 fs) x.funcs ∙ q)))

pub function_further : (c : Ctx) (h : Header) (defines : Bool) → IsFree h → On (Placing c) (function_declared c h defines)
function_further c h defines k = skip (Placing c) (main_fits h) _
    (λ a. skip (Placing c) (check h.at BadDeclaration (not h.qualifiers.is_const)) _
    (λ b. skip (Placing c) (dynamic_fits h) _ (λ d. skip (Placing c) (check h.at OutOfProfile (not h.storage.is_c || may_be_c h)) _
    (λ e. skip (Placing c) (header_sized c h) _ (λ z. in_further c h defines (first_from (is_same_function h) 0 c.funcs) refl k)))))

-- Members that are defined outside their class

pub body_kept : (lams : Lambdas) → Lawful lams → (s : List Lexeme) (st : State) (n : ℕ) (kind : FuncKind) (first : ℕ) (m : Method) (body : syntax.Tree)
    → On (Leaves st) (outside_body lams s st n kind first m body)
body_kept lams q s st n kind first m body = skip (Leaves st) (text_sized m.header.at (outside_text s m.header.storage first (last_token (Some body)))) _
    (λ v. skip (Leaves st) (outside_words m.header) _ (λ w. skip (Leaves st)
    (check m.header.at NoMember (list_any (is_member_named n m.header.name) st.ctx.funcs)) _
    (λ x. skip (Leaves st) (expect m.header.at TypeDiffers (first_from (is_same_function m.header) 0 st.ctx.funcs)) _
    (λ place. skip (Leaves st) (outside_agrees m.header (func_at st.ctx.funcs place)) _ (λ y.
    let c : Ctx = outside_defined s st.ctx place m.header first (last_token (Some body)) in
    behind st (record st { ctx = c }) (λ (z : State). z) (method_body lams s (record st { ctx = c }) n place kind m body)
    (further_leaves st c (outside_further s st.ctx place m.header first (last_token (Some body))))
    (method_kept lams q s (record st { ctx = c }) n place kind m body))))))

with_kept : (lams : Lambdas) → Lawful lams → (s : List Lexeme) (st : State) (at : At) (kind : FuncKind) (first : ℕ) (m : Method) (body : Option syntax.Tree)
    → On (Leaves st) (outside_with lams s st at kind first m body)
with_kept lams q s st at kind first m (Some body) =
    skip (Leaves st) (expect at BadDeclaration m.header.class) _ (λ n. body_kept lams q s st n kind first m body)
with_kept lams q s st at kind first m None = tt

pub outside_kept : (lams : Lambdas) → Lawful lams → (s : List Lexeme) (x : Storage) (st : State) (at : At) (kind : FuncKind) (first : ℕ) (kids : syntax.Trees)
    → On (Leaves st) (member_defined lams s x st at kind first kids)
outside_kept lams q s x st at kind first kids = let z : Started = started_from s x kids in
    skip (Leaves st) (outside_method s st at z.storage kind z.rest) _ (λ m. with_kept lams q s st at kind first m (body_in kids))
