-- What comes first in the frame of a body: the words of the call, which stay there while more is added.
use Rattle.std.proofs.Common.{◌≡◌, refl, sym, ap, ◌∙◌, ℕ, suc, Bool, true, false, List, [], ◌∷◌, ◌++◌, append_assoc, append-nil, map, slice_get, Option}
use Rattle.std.proofs.Common.{Some, None}
use Rattle.std.specs.Prelude.{is_none, not, ◌||◌, cond, if◌then◌else◌}
use Rattle.elab_rules.specs.cpp_types.Typ.{Typ, typ, void, class, Signature, signature}
use Rattle.elab_rules.specs.cpp_types.Class.{Member}
use Rattle.elab_rules.specs.cpp_types.Class.{held as held_class}
use Rattle.elab_rules.specs.cpp_types.declared.classes.At.{At}
use Rattle.elab_rules.specs.cpp_lex.Tokens.{Lexeme}
use Rattle.elab_rules.specs.cpp_ast.declared.kinds.NodeKind.TheVariants as k
use Rattle.elab_rules.specs.cpp_ast.Trees as syntax
use Rattle.elab_rules.specs.cpp_tree.declared.kinds.TKind.TheVariants as forms
use Rattle.elab_rules.specs.cpp_tree.declared.program.FuncKind.{FuncKind}
use Rattle.elab_rules.specs.cpp_tree.declared.faults.IllRule.TheVariants.{Incomplete, NoMember, OutOfProfile, Redeclared, UnknownName}
use Rattle.elab_rules.specs.cpp_tree.Notation.{plain}
use Rattle.elab_rules.specs.cpp_tree.Trees.{Tree, Trees, none, more, one, two, kind_of}
use Rattle.elab_rules.specs.cpp_tree.Typing.{unqualified, is_class_typ, is_void}
use Rattle.elab_rules.specs.cpp_tree.Rows.{result_in, is_special, is_constructor, is_destructor}
use Rattle.elab_rules.specs.cpp_tree.WellFormed.{is_return, last_is_return}
use Rattle.elab_rules.specs.elab_ctx.Ctx.{Ctx, Func}
use Rattle.elab_rules.specs.elab_ctx.Steps.{check, expect, at_of, spelling, Operand}
use Rattle.elab_rules.specs.Objects.{followed_by, is_array}
use Rattle.elab_rules.specs.Initialising.{as_source, class_from, signature_result}
use Rattle.elab_rules.specs.Operators.{is_complete}
use Rattle.elab_rules.specs.Names.{members_in}
use Rattle.elab_rules.specs.Calls.{base_of_class}
use Rattle.elab_rules.specs.Types.{Parameter, type_named}
use Rattle.elab_rules.specs.Expressions.{operands_of}
use Rattle.elab_rules.specs.Statements.{State, Lambdas, with_work, all_lambdas, directly_initialised, is_fresh}
use Rattle.elab_rules.specs.Functions.{with_parameters, parameter_named, param_of, word_item, end_of, result_zeroed, void_at, zero_result}
use Rattle.elab_rules.specs.Members.{Giving, given_part, given_base, given_by, all_given, given_for, for_part, is_named_class, is_base_type, member_index, member_type}
use Rattle.elab_rules.specs.Members.{as_base_of}
use Rattle.elab_rules.specs.Implicit.{own_operand, part_copied, part_of_source, members_copied, base_copied, parts_copied}
use Rattle.elab_fits.specs.Standing.{On}
use Rattle.elab_growth.proofs.Growth.{same}
use Rattle.state_growth.proofs.Steps.{Leaves, stays, after, bind, skip, either, weaken, behind, follow, of_done, Ends}
use Rattle.state_growth.proofs.Items.{Lawful, work_kept}
use Rattle.state_growth.proofs.Works.{Mades, TypesAll, grown, operands_grow, directly_grows, class_grows}
use Rattle.state_growth.proofs.Statements.{all_lambdas_kept}
use Rattle.state_growth.proofs.Members.{each_holds}
use Rattle.elab_bodies.specs.Bodies.{result_of, is_object_of, param_items, call_items, Begin, BeginsWithCall}

-- Parameters add their words

abbrev pub WithItems : State → List Typ → State → Type 0
WithItems st items x = x.work.frame ≡ st.work.frame ++ items

one_parameter : (s : List Lexeme) (st : State) (p : Parameter) (o : Option ℕ) → On (WithItems st (word_item p.typ ∷ [])) (parameter_named s st p o)
one_parameter s st p (Some n) = skip (WithItems st (word_item p.typ ∷ [])) (check p.at Redeclared (is_fresh st.ctx (spelling s n))) _ (λ y. refl)
one_parameter s st p None = refl

pub parameters_added : (s : List Lexeme) (st : State) (ps : List Parameter) → On (WithItems st (param_items (map param_of ps))) (with_parameters s st ps)
parameters_added s st [] = sym (append-nil st.work.frame)
parameters_added s st (p ∷ ps) = skip (WithItems st items) (check p.at Incomplete (is_complete st.ctx (held_class p.typ))) _
    (λ y. bind (WithItems st (word_item p.typ ∷ [])) (WithItems st items) (parameter_named s st p p.name) _ (one_parameter s st p p.name)
    (λ x h. weaken (WithItems x (param_items (map param_of ps))) (WithItems st items) (with_parameters s x ps)
    (λ z i. i ∙ ap (λ (ts : List Typ). ts ++ param_items (map param_of ps)) h
    ∙ append_assoc st.work.frame (word_item p.typ ∷ []) (param_items (map param_of ps))) (parameters_added s x ps)))
  where
    items : List Typ
    items = param_items (map param_of (p ∷ ps))

-- a frame that begins with these words, where more was added to them
pub words_by : (f : Func) (this : Option Typ) (r : Typ) (items words frame : List Typ) → is_object_of f.class this ≡ true → result_of f ≡ r
    → param_items f.params ≡ items → words ≡ call_items r this items → Begin words frame → BeginsWithCall f frame
words_by f this r items words frame o e g h b = record {
  this = this;
  object = o;
  words = λ i t q. b i t (ap (λ (z : List Typ). slice_get z i) h
      ∙ ap (λ (z : Typ). slice_get (call_items z this items) i) (sym e)
      ∙ ap (λ (z : List Typ). slice_get (call_items (result_of f) this z) i) (sym g) ∙ q);
}

-- What a function gives

or_left : (a b : Bool) → (a || b) ≡ false → a ≡ false
or_left true b h = h
or_left false b h = refl

pub no_constructor : (kind : FuncKind) → is_special kind ≡ false → is_constructor kind ≡ false
no_constructor kind h = or_left (is_constructor kind) (is_destructor kind) h

pub result_kept : (kind : FuncKind) (g : Signature) → is_special kind ≡ false → result_in kind g ≡ signature_result g
result_kept kind (signature ps r safe) h = ap (λ (b : Bool). cond b (typ void false false) r) h

pub no_result : (kind : FuncKind) (g : Signature) → is_special kind ≡ true → result_in kind g ≡ plain void
no_result kind (signature ps r safe) h = ap (λ (b : Bool). cond b (typ void false false) r) h

-- the end of a body

ends_in : (b : Bool) (ts us : Trees) → ((x : Bool) → last_is_return x us ≡ true) → last_is_return b (followed_by ts us) ≡ true
ends_in b none us h = h b
ends_in b (more t ts) us h = ends_in (is_return (kind_of t)) ts us h

end_returns : (c : Ctx) (t : Typ) (at : At) (a b x : Bool) → a ≡ false
    → last_is_return x (if a then none else (if b then two (result_zeroed c t at) (void_at forms.Return at none) else one
    (void_at forms.Return at (one (zero_result t at))))) ≡ true
end_returns c t at true b x e = absurd cc
end_returns c t at false true x e = refl
end_returns c t at false false x e = refl

ends_by : (c : Ctx) (r : Typ) (at : At) (ts : Trees) (b : Bool) → is_void r ≡ b → (b || last_is_return false (followed_by ts (end_of c r at))) ≡ true
ends_by c r at ts true e = refl
ends_by c r at ts false e = ends_in false ts (end_of c r at) (λ x. end_returns c r at (is_void r) (is_class_typ r) x e)

pub ends : (c : Ctx) (r : Typ) (at : At) (ts : Trees) → (is_void r || last_is_return false (followed_by ts (end_of c r at))) ≡ true
ends c r at ts = ends_by c r at ts (is_void r) refl

-- What is written for parts adds to the frame

abbrev Gives : Giving → Giving → Type 0
Gives g x = Leaves g.state x.state

part_kept : (lams : Lambdas) → Lawful lams → (s : List Lexeme) (n : ℕ) (g : Giving) (i : Option ℕ) (at : At) (t : Typ) (es : syntax.Trees)
    → On (Gives g) (given_part lams s n g i at t es)
part_kept lams q s n g i at t es = skip (Gives g) (check at Redeclared (is_none (given_for i g.given))) _
    (λ y. bind (Leaves g.state) (Gives g) (all_lambdas lams s g.state es) _ (all_lambdas_kept lams q s g.state es)
    (λ st h. bind (TypesAll st.work) (Gives g) (operands_of s st.ctx st.work es) _ (operands_grow s st.ctx st.work es)
    (λ xs a. bind (Mades xs.work) (Gives g) (directly_initialised (for_part st.ctx n i) xs.work t at xs.operands) _
    (directly_grows (for_part st.ctx n i) xs.work t at xs.operands)
    (λ m b. after g.state st (with_work st m.work) h (work_kept st m.work (grown st.work xs.work m.work a b))))))

base_kept : (lams : Lambdas) → Lawful lams → (s : List Lexeme) (n : ℕ) (g : Giving) (at : At) (t : Typ) (es : syntax.Trees)
    → On (Gives g) (given_base lams s n g at t es)
base_kept lams q s n g at t es = skip (Gives g) (check at OutOfProfile (not (is_named_class n t))) _
    (λ x. skip (Gives g) (check at NoMember (is_base_type (base_of_class (slice_get g.state.ctx.classes n)) t)) _
    (λ y. part_kept lams q s n g None at (unqualified t) es))

by_kept : (lams : Lambdas) → Lawful lams → (s : List Lexeme) (n : ℕ) (g : Giving) (t : syntax.Tree) → On (Gives g) (given_by lams s n g t)
by_kept lams q s n g (syntax.node k.MemberInitializer p (Some t) es) =
    skip (Gives g) (expect (at_of p) NoMember (member_index 0 (spelling s t) (members_in (slice_get g.state.ctx.classes n)))) _
    (λ i. part_kept lams q s n g (Some i) (at_of p) (member_type (slice_get (members_in (slice_get g.state.ctx.classes n)) i)) es)
by_kept lams q s n g (syntax.node k.BaseInitializer p (Some t) es) =
    skip (Gives g) (expect (at_of p) UnknownName (type_named (spelling s t) g.state.ctx.types)) _ (λ u. base_kept lams q s n g (at_of p) u es)
by_kept lams q s n g t = stays g.state

pub given_kept : (lams : Lambdas) → Lawful lams → (s : List Lexeme) (n : ℕ) (g : Giving) (ts : syntax.Trees)
    → On (λ (x : Giving). Leaves g.state x.state) (all_given lams s n g ts)
given_kept lams q s n g ts = each_holds (Gives g) (given_by lams s n) g ts (stays g.state)
    (λ x t h. behind g.state x.state (λ (y : Giving). y.state) (given_by lams s n x t) h (by_kept lams q s n x t))

-- So does a copy, part by part

one_copied : (st : State) (at : At) (t : Typ) (e : Tree) → On (Mades st.work) (part_copied st at t e)
one_copied st at t e = either (Mades st.work) (is_array t) _ _ (same st.work)
    (either (Mades st.work) (is_class_typ t) _ _ (class_grows st.ctx st.work t at (own_operand at e)) (same st.work))

members_kept : (at : At) (n : ℕ) (source : Tree) (is_const : Bool) (st : State) (i : ℕ) (ms : List Member)
    → On (Ends st) (members_copied at n source is_const st i ms)
members_kept at n source is_const st i [] = stays st
members_kept at n source is_const st i (m ∷ ms) =
    let e : Tree = part_of_source st.ctx n at source is_const i m.typ in
    bind (Mades st.work) (Ends st) (part_copied st at m.typ e) _ (one_copied st at m.typ e)
    (λ x g. bind (Ends (with_work st x.work)) (Ends st) (members_copied at n source is_const (with_work st x.work) (suc i) ms) _
    (members_kept at n source is_const (with_work st x.work) (suc i) ms) (λ d h. after st (with_work st x.work) d.state (work_kept st x.work g) h))

base_added : (st : State) (at : At) (n : ℕ) (source : Tree) (o : Option ℕ) → On (Ends st) (base_copied st at n source o)
base_added st at n source None = stays st
base_added st at n source (Some b) = bind (Mades st.work) (Ends st) (class_from (as_base_of st.ctx b) st.work (plain (class b)) at o) _
    (class_grows (as_base_of st.ctx b) st.work (plain (class b)) at o) (λ m g. work_kept st m.work g)
  where
    o : Operand
    o = own_operand at (as_source at b source)

pub copied_kept : (st : State) (at : At) (n : ℕ) (source : Tree) (is_const : Bool) → On (Ends st) (parts_copied st at n source is_const)
copied_kept st at n source is_const = follow of_done of_done st (base_copied st at n source (base_of_class (slice_get st.ctx.classes n))) _
    (base_added st at n source (base_of_class (slice_get st.ctx.classes n)))
    (λ b. bind (Ends b.state) (Ends b.state) (members_copied at n source is_const b.state 0 (members_in (slice_get st.ctx.classes n))) _
    (members_kept at n source is_const b.state 0 (members_in (slice_get st.ctx.classes n))) (λ d h. h))
