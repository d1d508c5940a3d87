-- Members that are tested first and then put to the others.
use Rattle.std.proofs.Common.{◌≡◌, ◌∙◌, ℕ, Bool, List, [], ◌∷◌, ◌++◌, length, map, Option, is_some, is_none, not, ◌&&◌, ◌||◌, Result, Ok, Err, refl, sym, ap}
use Rattle.std.proofs.Common.{subst}
use Rattle.std.proofs.lemmas.List.{length-map}
use Rattle.cpp_types.specs.Typ.{Typ}
use Rattle.cpp_types.specs.Class.{member_of, held}
use Rattle.cpp_types.specs.declared.classes.At.{At}
use Rattle.elab_init.specs.cpp_tree.declared.faults.ElabFault.{ElabFault}
use Rattle.elab_init.specs.cpp_tree.declared.faults.ElabFault.TheVariants.{Ill, Override, JumpIntoBlock, Limit, Memory}
use Rattle.elab_init.specs.elab_ctx.Ctx.{Ctx, Work, Func}
use Rattle.elab_init.specs.cpp_tree.declared.faults.IllRule.TheVariants.{Incomplete, Redeclared, OutOfProfile, BadDeclaration, AbstractObject}
use Rattle.elab_init.specs.cpp_tree.Typing.{form_in}
use Rattle.elab_init.specs.elab_ctx.Steps.{and_then, check}
use Rattle.elab_init.specs.elab_rules.Objects.{element_of}
use Rattle.elab_init.specs.elab_rules.Operators.{is_complete}
use Rattle.elab_init.specs.elab_rules.Types.{has_auto, is_abstract_type, is_bounded}
use Rattle.elab_init.specs.elab_rules.Sizes.{typ_sized}
use Rattle.elab_init.specs.elab_ctx.Says.{Faults}
use Rattle.elab_init.specs.elab_rules.Statements.{Body}
use Rattle.elab_init.specs.elab_rules.Functions.{Header, function_record, is_same_function, first_from, header_sized}
use Rattle.elab_init.specs.elab_rules.Classes.{Home, Members, Marks, Definition, index_if, with_member, with_function, data_member, member_function}
use Rattle.elab_init.specs.elab_rules.Classes.{member_form, has_member, has_function, overridden, overrides_well, marks_fit, definition_sized, as_written}
use Rattle.class_members.specs.declared.records.Members.{Members as MembersRec}
use Rattle.class_members.specs.Shown.{reading, Answers}
use Rattle.class_members.specs.Parts.{fits_member, member_made, method_by, taken_over_of}

seven : {A : Type 0} (a b d e f h g : Result Bool ElabFault) (x : Result A ElabFault) →
    and_then a (λ _. and_then b (λ _. and_then d (λ _. and_then e (λ _. and_then f (λ _. and_then h (λ _. and_then g (λ _. x)))))))
    ≡ and_then (and_then a (λ _. and_then b (λ _. and_then d (λ _. and_then e (λ _. and_then f (λ _. and_then h (λ _. g))))))) (λ _. x)
seven (Err y) b d e f h g x = refl
seven (Ok _) (Err y) d e f h g x = refl
seven (Ok _) (Ok _) (Err y) e f h g x = refl
seven (Ok _) (Ok _) (Ok _) (Err y) f h g x = refl
seven (Ok _) (Ok _) (Ok _) (Ok _) (Err y) h g x = refl
seven (Ok _) (Ok _) (Ok _) (Ok _) (Ok _) (Err y) g x = refl
seven (Ok _) (Ok _) (Ok _) (Ok _) (Ok _) (Ok _) g x = refl

five : {A B : Type 0} (a b d e f : Result Bool ElabFault) (x : A) (k : A → B) →
    and_then a (λ _. and_then b (λ _. and_then d (λ _. and_then e (λ _. and_then f (λ _. Ok (k x))))))
    ≡ and_then (and_then a (λ _. and_then b (λ _. and_then d (λ _. and_then e (λ _. and_then f (λ _. Ok x)))))) (λ z. Ok (k z))
five (Err y) b d e f x k = refl
five (Ok _) (Err y) d e f x k = refl
five (Ok _) (Ok _) (Err y) e f x k = refl
five (Ok _) (Ok _) (Ok _) (Err y) f x k = refl
five (Ok _) (Ok _) (Ok _) (Ok _) (Err y) x k = refl
five (Ok _) (Ok _) (Ok _) (Ok _) (Ok _) x k = refl

pub data_member_is : (n : ℕ) (r : Members) (at : At) (name : List ℕ) (t : Typ) (b : Bool)
    → data_member n r at name t b ≡ and_then (fits_member r.state.ctx n r.members at name t) (λ _. Ok (with_member r name t b))
data_member_is n r at name t b = seven (member_form at (form_in t)) (check at OutOfProfile (not (has_auto t))) (check at BadDeclaration (is_bounded t))
    (check at Incomplete (is_complete r.state.ctx (held t))) (check at AbstractObject (not (is_abstract_type r.state.ctx (element_of t))))
    (typ_sized r.state.ctx.classes at t) (check at Redeclared (not (has_member name r.members) && not (has_function n name r.state.ctx.funcs)))
    (Ok (with_member r name t b))

pub member_function_is : (h : Home) (r : Members) (f : Header) (m : Marks) (d : Option Definition)
    → member_function h r f m d ≡ and_then (member_made r.state.ctx h r.members f m d) (λ x. Ok (with_function r x))
member_function_is h r f m d = let o = overridden r.state.ctx h.base (function_record f) in
    five (check f.at Redeclared (is_none (first_from (is_same_function f) 0 r.state.ctx.funcs) && not (has_member f.name r.members))) (overrides_well f o)
    (marks_fit f m (is_some o) (f.storage.is_virtual || is_some o))
    (header_sized r.state.ctx f) (definition_sized f.at d) (as_written d (method_by f m (taken_over_of o))) (with_function r)

-- A fault of the tests is that of the whole

faults_then : {A B : Type 0} (e : ElabFault) (x : Result A ElabFault) (f : A → Result B ElabFault) → Faults e x → Faults e (and_then x f)
faults_then (Ill at rule) x f h = ap (λ z. and_then z f) h
faults_then (Override at rule) x f h = ap (λ z. and_then z f) h
faults_then (JumpIntoBlock at) x f h = ap (λ z. and_then z f) h
faults_then (Limit at which) x f h = ap (λ z. and_then z f) h
faults_then Memory x f h = tt

pub data_member_fails : (e : ElabFault) (n : ℕ) (r : Members) (at : At) (name : List ℕ) (t : Typ) (b : Bool)
    → Faults e (fits_member r.state.ctx n r.members at name t) → Faults e (data_member n r at name t b)
data_member_fails e n r at name t b h = subst (Faults e) (sym (data_member_is n r at name t b)) (faults_then e _ _ h)

pub member_function_fails : (e : ElabFault) (h : Home) (r : Members) (f : Header) (m : Marks) (d : Option Definition)
    → Faults e (member_made r.state.ctx h r.members f m d) → Faults e (member_function h r f m d)
member_function_fails e h r f m d g = subst (Faults e) (sym (member_function_is h r f m d)) (faults_then e _ _ g)

-- What is put to the others

pub data_member_done : (c : Ctx) (w : Work) (bodies : List Body) (old new : MembersRec) (n : ℕ) (at : At) (name : List ℕ) (t : Typ) (b x : Bool) →
    fits_member c n (map member_of old.members.items) at name t ≡ Ok x
    → map member_of new.members.items ≡ map member_of old.members.items ++ record { name = name; typ = t } ∷ []
    → new.initialised.items ≡ old.initialised.items ++ index_if b (length old.members.items) →
    data_member n (reading c w bodies old) at name t b ≡ Ok (reading c w bodies new)
data_member_done c w bodies old new n at name t b x e em ei =
    data_member_is n (reading c w bodies old) at name t b
    ∙ ap (λ z. and_then z (λ _. Ok (with_member (reading c w bodies old) name t b))) e
    ∙ rw (em, ei, length-map old.members.items member_of) refl

pub member_function_done : (c new : Ctx) (w : Work) (bodies : List Body) (members : MembersRec) (h : Home) (f : Header) (m : Marks) (d : Option Definition)
    (x : Func) →
    member_made c h (map member_of members.members.items) f m d ≡ Ok x → new ≡ record c { funcs = c.funcs ++ x ∷ [] } →
    member_function h (reading c w bodies members) f m d ≡ Ok (reading new w bodies members)
member_function_done c new w bodies members h f m d x e g =
    member_function_is h (reading c w bodies members) f m d
    ∙ ap (λ z. and_then z (λ y. Ok (with_function (reading c w bodies members) y))) e
    ∙ ap (λ z. Ok (reading z w bodies members)) (sym g)

-- The answers of the calls

pub data_member_refused : (r : Result (Unit {0}) ElabFault) (e : ElabFault) (c : Ctx) (w : Work) (bodies : List Body) (old new : MembersRec) (n : ℕ) (at : At)
    (name : List ℕ) (t : Typ) (b : Bool) →
    r ≡ Err e → Faults e (fits_member c n (map member_of old.members.items) at name t)
    → Answers (reading c w bodies new) r (data_member n (reading c w bodies old) at name t b)
data_member_refused r e c w bodies old new n at name t b h g =
    subst (λ z. Answers (reading c w bodies new) z (data_member n (reading c w bodies old) at name t b)) (sym h)
    (data_member_fails e n (reading c w bodies old) at name t b g)

pub member_function_refused : (r : Result (Unit {0}) ElabFault) (e : ElabFault) (c new : Ctx) (w : Work) (bodies : List Body) (members : MembersRec) (h : Home)
    (f : Header) (m : Marks) (d : Option Definition) →
    r ≡ Err e → Faults e (member_made c h (map member_of members.members.items) f m d)
    → Answers (reading new w bodies members) r (member_function h (reading c w bodies members) f m d)
member_function_refused r e c new w bodies members h f m d q g =
    subst (λ z. Answers (reading new w bodies members) z (member_function h (reading c w bodies members) f m d)) (sym q)
    (member_function_fails e h (reading c w bodies members) f m d g)
