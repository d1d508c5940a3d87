-- Members that are defined outside their class, as the code makes them, are those of the definitions.
use Rattle.std.proofs.Common.{◌≡◌, ℕ, List, refl, ◌∙◌, Option, Some, None}
use Rattle.elab_rules.specs.cpp_types.declared.classes.At.{At}
use Rattle.elab_rules.specs.cpp_lex.Tokens.{Lexeme}
use Rattle.elab_rules.specs.cpp_ast.Trees as syntax
use Rattle.elab_rules.specs.cpp_tree.declared.program.FuncKind.{FuncKind}
use Rattle.elab_rules.specs.cpp_tree.declared.faults.IllRule.TheVariants.{TypeDiffers, BadDeclaration, NoMember}
use Rattle.elab_rules.specs.elab_ctx.Steps.{expect, check}
use Rattle.elab_rules.specs.Initialising.{func_at}
use Rattle.elab_rules.specs.Statements.{State, Lambdas}
use Rattle.elab_rules.specs.Functions.{Storage, Header, first_from, is_same_function, text_sized}
use Rattle.elab_rules.specs.Classes.{Method, Started, has_function, body_in, last_token, started_from}
use Rattle.elab_rules.specs.Members as rules
use Rattle.elab_rules.specs.Members.{outside_words, outside_agrees, outside_text, outside_defined, outside_method, is_member_named}
use Rattle.elab_members.specs.Outside as code
use Rattle.elab_leaving.specs.Kept.{On, Lawful}
use Rattle.elab_leaving.proofs.Keeping.{skip}
use Rattle.elab_leaving.proofs.Answers.{same_behind, nest}
use Rattle.elab_leaving.proofs.Objects.{method_same}
use Rattle.elab_leaving.proofs.Defaults.{Settled}
use Rattle.elab_leaving.proofs.Classes.{method_settled}
use Rattle.std.specs.List.{list_any}

body_same : (lams : Lambdas) → Lawful lams → (s : List Lexeme) (st : State) (n : ℕ) (kind : FuncKind) (first : ℕ) (m : Method) (body : syntax.Tree) → Settled st
    → code.outside_body lams s st n kind first (last_token (Some body)) m.header m.rest body ≡ rules.outside_body lams s st n kind first m body
body_same lams q s st n kind first m body e =
    let h : Header = m.header in
    let last : ℕ = last_token (Some body) in
    nest (text_sized h.at (outside_text s h.storage first last)) _ _ ∙ same_behind (text_sized h.at (outside_text s h.storage first last)) _ _ (λ v.
    nest (code.outside_place st.ctx n h) _ _ ∙ nest (outside_words h) _ _ ∙ same_behind (outside_words h) _ _ (λ w.
    nest (check h.at NoMember (has_function n h.name st.ctx.funcs)) _ _ ∙ same_behind (check h.at NoMember (has_function n h.name st.ctx.funcs)) _ _ (λ x.
    nest (expect h.at TypeDiffers (first_from (is_same_function h) 0 st.ctx.funcs)) _ _
    ∙ same_behind (expect h.at TypeDiffers (first_from (is_same_function h) 0 st.ctx.funcs)) _ _ (λ place.
    nest (outside_agrees h (func_at st.ctx.funcs place)) _ _
    ∙ same_behind (outside_agrees h (func_at st.ctx.funcs place)) _ _
    (λ y. method_same lams q s (record st { ctx = outside_defined s st.ctx place h first last }) n place kind m body e)))))

with_same : (lams : Lambdas) → Lawful lams → (s : List Lexeme) (st : State) (at : At) (kind : FuncKind) (first : ℕ) (m : Method) (body : Option syntax.Tree)
    → Settled st → code.outside_with lams s st at kind first m body ≡ rules.outside_with lams s st at kind first m body
with_same lams q s st at kind first m (Some body) e =
    same_behind (expect at BadDeclaration m.header.class) _ _ (λ n. body_same lams q s st n kind first m body e)
with_same lams q s st at kind first m None e = refl

pub outside_same : (lams : Lambdas) → Lawful lams → (s : List Lexeme) (x : Storage) (st : State) (at : At) (kind : FuncKind) (first : ℕ) (kids : syntax.Trees)
    → Settled st → code.member_defined lams s x st at kind first kids ≡ rules.member_defined lams s x st at kind first kids
outside_same lams q s x st at kind first kids e =
    let z : Started = started_from s x kids in
    same_behind (outside_method s st at z.storage kind z.rest) _ _ (λ m. with_same lams q s st at kind first m (body_in kids) e)

-- no lambdas are at hand behind it

body_settled : (lams : Lambdas) (s : List Lexeme) (st : State) (n : ℕ) (kind : FuncKind) (first : ℕ) (m : Method) (body : syntax.Tree) → Settled st
    → On Settled (rules.outside_body lams s st n kind first m body)
body_settled lams s st n kind first m body e = skip Settled (text_sized m.header.at (outside_text s m.header.storage first (last_token (Some body)))) _
    (λ v. skip Settled (outside_words m.header) _ (λ w. skip Settled (check m.header.at NoMember (list_any (is_member_named n m.header.name) st.ctx.funcs)) _
    (λ x. skip Settled (expect m.header.at TypeDiffers (first_from (is_same_function m.header) 0 st.ctx.funcs)) _
    (λ place. skip Settled (outside_agrees m.header (func_at st.ctx.funcs place)) _
    (λ y. method_settled lams s (record st { ctx = outside_defined s st.ctx place m.header first (last_token (Some body)) }) n place kind m body e)))))

with_settled : (lams : Lambdas) (s : List Lexeme) (st : State) (at : At) (kind : FuncKind) (first : ℕ) (m : Method) (body : Option syntax.Tree) → Settled st
    → On Settled (rules.outside_with lams s st at kind first m body)
with_settled lams s st at kind first m (Some body) e =
    skip Settled (expect at BadDeclaration m.header.class) _ (λ n. body_settled lams s st n kind first m body e)
with_settled lams s st at kind first m None e = tt

pub outside_settled : (lams : Lambdas) (s : List Lexeme) (x : Storage) (st : State) (at : At) (kind : FuncKind) (first : ℕ) (kids : syntax.Trees) → Settled st
    → On Settled (rules.member_defined lams s x st at kind first kids)
outside_settled lams s x st at kind first kids e =
    let z : Started = started_from s x kids in
    skip Settled (outside_method s st at z.storage kind z.rest) _ (λ m. with_settled lams s st at kind first m (body_in kids) e)
