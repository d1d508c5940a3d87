-- A class is read, and then what stands in its members: the two make up its definition.
use Rattle.std.proofs.Common.{◌≡◌, ◌∙◌, ℕ, Bool, true, List, [], Option, Result, Ok, Err, refl, sym, ap}
use Rattle.elab_expr.specs.cpp_lex.Tokens.{Lexeme}
use Rattle.elab_expr.specs.cpp_ast.Trees.{Trees}
use Rattle.elab_expr.specs.cpp_types.declared.classes.At.{At}
use Rattle.elab_expr.specs.cpp_tree.declared.faults.ElabFault.{ElabFault}
use Rattle.elab_expr.specs.elab_ctx.Ctx.{Ctx}
use Rattle.elab_expr.specs.elab_ctx.Steps.{and_then}
use Rattle.elab_expr.specs.elab_rules.Statements.{State, Lambdas}
use Rattle.elab_expr.specs.elab_rules.Functions.{text_sized}
use Rattle.elab_expr.specs.elab_rules.Classes.{Home, Members, Begun, begun, members_of, completed, closed_class, class_text}
use Rattle.elab_expr.specs.elab_rules.Members.{base_named, has_final, members_among, all_defaults, all_late, class_defined, class_with, class_closed}
use Rattle.class_table.specs.Written.{ClassRead, class_read, read_members, read_closed, class_stood}

pub both_steps : {A B C : Type 0} (x : Result A ElabFault) (f : A → Result B ElabFault) (g : B → Result C ElabFault)
    → and_then (and_then x f) g ≡ and_then x (λ a. and_then (f a) g)
both_steps (Ok a) f g = refl
both_steps (Err e) f g = refl

pub same_then : {A B : Type 0} (x : Result A ElabFault) (f g : A → Result B ElabFault) → ((a : A) → f a ≡ g a) → and_then x f ≡ and_then x g
same_then (Ok a) f g h = h a
same_then (Err e) f g h = refl

-- the initialisers of its members, and then their bodies
abbrev pub behind_brace : Lambdas → List Lexeme → Trees → ClassRead → Result State ElabFault
behind_brace lams s members x = and_then (all_defaults lams s x.home.number x.state members)
    (λ (st : State). all_late lams s x.home.number x.home.name st members)

closed_is : (lams : Lambdas) (s : List Lexeme) (home : Home) (at : At) (r : Members) (members : Trees)
    → class_closed lams s home at r members ≡ and_then (read_closed at home r) (behind_brace lams s members)
closed_is lams s home at r members = sym (both_steps (closed_class at home.number (completed r.state.ctx home at r.members r.initialised))
    (λ (c : Ctx). Ok (class_stood (record r.state { ctx = c }) home)) (behind_brace lams s members))

with_is : (lams : Lambdas) (s : List Lexeme) (st : State) (at : At) (home : Home) (members : Trees)
    → class_with lams s st at home members ≡ and_then (read_members s st at home members) (behind_brace lams s members)
with_is lams s st at home members =
    let all : Result Members ElabFault = members_of s home (record { state = st; members = []; initialised = [] }) members in
    same_then all (λ (r : Members). class_closed lams s home at r members) (λ (r : Members). and_then (read_closed at home r) (behind_brace lams s members))
    (λ r. closed_is lams s home at r members)
    ∙ sym (both_steps all (λ (r : Members). read_closed at home r) (behind_brace lams s members))

pub class_defined_is : (lams : Lambdas) (s : List Lexeme) (st : State) (at : At) (name : List ℕ) (kids : Trees)
    → class_defined lams s st at name kids ≡ and_then (class_read s st at name kids) (behind_brace lams s (members_among kids))
class_defined_is lams s st at name kids =
    let home : ℕ → Option ℕ → Home = λ (n : ℕ) (base : Option ℕ). record { number = n; name = name; base = base; is_final = has_final kids } in
    let behind : ClassRead → Result State ElabFault = behind_brace lams s (members_among kids) in
    let based : Begun → Option ℕ → Result ClassRead ElabFault =
    λ (b : Begun) (base : Option ℕ). read_members s (record st { ctx = b.ctx }) at (home b.number base) (members_among kids) in
    let read : Begun → Result ClassRead ElabFault = λ (b : Begun). and_then (base_named s b.ctx kids) (based b) in
    let whole : Bool → Result ClassRead ElabFault = λ (z : Bool). and_then (begun st.ctx at name true) read in
    let inner : (b : Begun) → and_then (base_named s b.ctx kids)
    (λ (base : Option ℕ). class_with lams s (record st { ctx = b.ctx }) at (home b.number base) (members_among kids)) ≡ and_then (read b) behind =
    λ b. same_then (base_named s b.ctx kids) (λ (base : Option ℕ). class_with lams s (record st { ctx = b.ctx }) at (home b.number base) (members_among kids))
    (λ (base : Option ℕ). and_then (based b base) behind) (λ base. with_is lams s (record st { ctx = b.ctx }) at (home b.number base) (members_among kids))
    ∙ sym (both_steps (base_named s b.ctx kids) (based b) behind) in
    let outer : (z : Bool) → and_then (begun st.ctx at name true)
    (λ (b : Begun). and_then (base_named s b.ctx kids)
    (λ (base : Option ℕ). class_with lams s (record st { ctx = b.ctx }) at (home b.number base) (members_among kids))) ≡ and_then (whole z) behind =
    λ z. same_then (begun st.ctx at name true) (λ (b : Begun). and_then (base_named s b.ctx kids)
    (λ (base : Option ℕ). class_with lams s (record st { ctx = b.ctx }) at (home b.number base) (members_among kids)))
    (λ (b : Begun). and_then (read b) behind) inner ∙ sym (both_steps (begun st.ctx at name true) read behind) in
    same_then (text_sized at (class_text s kids)) (λ (z : Bool). and_then (begun st.ctx at name true)
    (λ (b : Begun). and_then (base_named s b.ctx kids)
    (λ (base : Option ℕ). class_with lams s (record st { ctx = b.ctx }) at (home b.number base) (members_among kids))))
    (λ (z : Bool). and_then (whole z) behind) outer
    ∙ sym (both_steps (text_sized at (class_text s kids)) whole behind)
