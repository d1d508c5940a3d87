-- What is written for the parts of an object, one part behind the other.
use Rattle.std.proofs.Common.{◌≡◌, ◌∙◌, ◌<◌, ◌≤◌, ◌+◌, ◌++◌, ◌∷◌, ◌&&◌, ℕ, nat_lt, lt-ltb, Bool, true, false, not, List, [], length, map, drop, get_or}
use Rattle.std.proofs.Common.{slice_get, Vec, Global, Option, Some, None, is_none, option_map, Result, Ok, Err, refl, sym, ap, subst}
use Rattle.std.proofs.lemmas.List.{map_push}
use Rattle.std.proofs.lemmas.Bool.{and_parts}
use Rattle.elab_entry.specs.cpp_types.Typ.{Typ}
use Rattle.elab_entry.specs.cpp_types.Class.{Member}
use Rattle.elab_entry.specs.cpp_types.declared.classes.At.{At}
use Rattle.elab_entry.specs.cpp_lex.Tokens.{Lexeme}
use Rattle.elab_entry.specs.cpp_ast.Trees as syntax
use Rattle.elab_entry.specs.cpp_ast.declared.arena.NodeId.{NodeId}
use Rattle.elab_entry.specs.cpp_ast.declared.arena.At.{At as SyntaxAt}
use Rattle.elab_entry.specs.cpp_ast.declared.kinds.NodeKind.{NodeKind}
use Rattle.elab_entry.specs.cpp_ast.declared.kinds.NodeKind.TheVariants as k
use Rattle.elab_entry.specs.cpp_tree.declared.faults.ElabFault.{ElabFault}
use Rattle.elab_entry.specs.cpp_tree.declared.faults.ElabFault.TheVariants.{Ill}
use Rattle.elab_entry.specs.cpp_tree.declared.faults.IllRule.TheVariants.{UnknownName, Redeclared, NoMember, OutOfProfile}
use Rattle.elab_entry.specs.cpp_tree.Trees.{Tree, one}
use Rattle.elab_entry.specs.cpp_tree.Typing.{unqualified}
use Rattle.elab_entry.specs.cpp_tree.Arena.{tree_at}
use Rattle.elab_entry.specs.elab_ctx.Steps.{and_then, expect, check, each_of, at_of, spelling, Made, TypedAll}
use Rattle.elab_entry.specs.elab_ctx.Says.{Faults}
use Rattle.elab_entry.proofs.elab_ctx.Making.{faults_in, faults_same}
use Rattle.elab_entry.proofs.elab_init.Listing.{drop_step, drop_past}
use Rattle.elab_entry.specs.elab_rules.Names.{members_in}
use Rattle.elab_entry.specs.elab_rules.Calls.{base_of_class}
use Rattle.elab_entry.specs.elab_rules.Types.{type_named}
use Rattle.elab_entry.specs.elab_rules.Expressions.{operands_of}
use Rattle.elab_entry.specs.elab_rules.Statements.{State, Done, done, Lambdas, full, with_work, all_lambdas, directly_initialised, values_place}
use Rattle.elab_entry.specs.elab_rules.Members.{Given, Giving, given_for, giving_more, for_part, given_values, given_part, given_base, given_member, given_by}
use Rattle.elab_entry.specs.elab_rules.Members.{member_index, member_type, is_named_class, is_base_type}
use Rattle.elab_entry.specs.elab_types.Syntax.{tree_at as syntax_at, trees_at as syntaxes_at}
use Rattle.elab_entry.specs.elab_scopes.declared.state.State.{State as StateRec}
use Rattle.elab_entry.specs.elab_scopes.States.{state_of, made, Grown}
use Rattle.elab_entry.specs.elab_scopes.Says.{OneDone}
use Rattle.elab_entry.proofs.elab_scopes.Standing.{grown_refl, grown_trans}
use Rattle.elab_implicit.specs.declared.given.Given.{Given as GivenRec}
use Rattle.elab_implicit.specs.Written.{given_in, found_for, are_there}
use Rattle.elab_implicit.proofs.GivenParts.{given_is, given_grown, there_grown}
use Rattle.class_table.proofs.Reading.{both_steps, same_then}
use Rattle.elab_members.specs.Giving.{part_made, part_values, part_given, given_with, part_more, member_found, member_by, base_type, base_found, base_by}
use Rattle.elab_members.specs.Giving.{giving_in, Gathered, Gathers, GathersAll}

-- The steps are those of elab_rules

module _ (lams : Lambdas) (s : List Lexeme) (n : ℕ) (g : Giving) (i : Option ℕ) (at : At) (t : Typ) (es : syntax.Trees) where
  values_is : (st : State) → and_then (part_values s st n i t at es) (λ (d : Done). Ok (given_with g i at d)) ≡ given_values lams s n g st i at t es
  values_is st =
      let keep : Done → Result Giving ElabFault = λ (d : Done). Ok (given_with g i at d) in
      let whole : TypedAll → Made → Result Done ElabFault =
      λ (xs : TypedAll) (m : Made). done (one (full (values_place t at xs.operands) m.tree)) (with_work st m.work) in
      both_steps (operands_of s st.ctx st.work es) (λ (xs : TypedAll). part_made (record st { work = xs.work }) n i t at xs.operands) keep
      ∙ same_then (operands_of s st.ctx st.work es) (λ (xs : TypedAll). and_then (part_made (record st { work = xs.work }) n i t at xs.operands) keep)
      (λ (xs : TypedAll). and_then (directly_initialised (for_part st.ctx n i) xs.work t at xs.operands)
      (λ (m : Made). Ok (giving_more g st i at (values_place t at xs.operands) m)))
      (λ xs. both_steps (directly_initialised (for_part st.ctx n i) xs.work t at xs.operands) (whole xs) keep)

  pub part_is : part_more lams s n g i at t es ≡ given_part lams s n g i at t es
  part_is =
      let keep : Done → Result Giving ElabFault = λ (d : Done). Ok (given_with g i at d) in
      same_then (check at Redeclared (is_none (given_for i g.given))) (λ (y : Bool). and_then (part_given lams s g.state n i t at es) keep)
      (λ (y : Bool). and_then (all_lambdas lams s g.state es) (λ (st : State). given_values lams s n g st i at t es))
      (λ y. both_steps (all_lambdas lams s g.state es) (λ (x : State). part_values s x n i t at es) keep
      ∙ same_then (all_lambdas lams s g.state es) (λ (x : State). and_then (part_values s x n i t at es) keep)
      (λ (st : State). given_values lams s n g st i at t es) values_is)

pub member_is : (lams : Lambdas) (s : List Lexeme) (n : ℕ) (g : Giving) (p : SyntaxAt) (t : ℕ) (es : syntax.Trees)
    → member_by lams s n g (at_of p) t es ≡ given_by lams s n g (syntax.node k.MemberInitializer p (Some t) es)
member_is lams s n g p t es =
    let ms : List Member = members_in (slice_get g.state.ctx.classes n) in
    same_then (expect (at_of p) NoMember (member_index 0 (spelling s t) ms))
    (λ (i : ℕ). part_more lams s n g (Some i) (at_of p) (member_type (slice_get ms i)) es) (λ (i : ℕ). given_member lams s n g (at_of p) ms i es)
    (λ i. part_is lams s n g (Some i) (at_of p) (member_type (slice_get ms i)) es)

pub base_is : (lams : Lambdas) (s : List Lexeme) (n : ℕ) (g : Giving) (p : SyntaxAt) (t : ℕ) (es : syntax.Trees)
    → base_by lams s n g (at_of p) t es ≡ given_by lams s n g (syntax.node k.BaseInitializer p (Some t) es)
base_is lams s n g p t es =
    let at : At = at_of p in
    let more : Typ → Result Giving ElabFault = λ (u : Typ). part_more lams s n g None at u es in
    let second : Typ → Result Typ ElabFault = λ (u : Typ). and_then (check at NoMember (is_base_type (base_of_class (slice_get g.state.ctx.classes n)) u))
    (λ (y : Bool). Ok (unqualified u)) in
    let rest : Typ → Result Giving ElabFault = λ (u : Typ). and_then (check at NoMember (is_base_type (base_of_class (slice_get g.state.ctx.classes n)) u))
    (λ (y : Bool). given_part lams s n g None at (unqualified u) es) in
    let behind : (u : Typ) → and_then (second u) more ≡ rest u = λ u.
    both_steps (check at NoMember (is_base_type (base_of_class (slice_get g.state.ctx.classes n)) u)) (λ (y : Bool). Ok (unqualified u)) more
    ∙ same_then (check at NoMember (is_base_type (base_of_class (slice_get g.state.ctx.classes n)) u)) (λ (y : Bool). more (unqualified u))
    (λ (y : Bool). given_part lams s n g None at (unqualified u) es) (λ y. part_is lams s n g None at (unqualified u) es) in
    let typed : (u : Typ) → and_then (base_type g.state.ctx n at u) more ≡ given_base lams s n g at u es = λ u.
    both_steps (check at OutOfProfile (not (is_named_class n u))) (λ (x : Bool). second u) more
    ∙ same_then (check at OutOfProfile (not (is_named_class n u))) (λ (x : Bool). and_then (second u) more) (λ (x : Bool). rest u) (λ x. behind u) in
    both_steps (expect at UnknownName (type_named (spelling s t) g.state.ctx.types)) (base_type g.state.ctx n at) more
    ∙ same_then (expect at UnknownName (type_named (spelling s t) g.state.ctx.types)) (λ (u : Typ). and_then (base_type g.state.ctx n at u) more)
    (λ (u : Typ). given_base lams s n g at u es) typed

pub no_token_is : (lams : Lambdas) (s : List Lexeme) (n : ℕ) (g : Giving) (kind : NodeKind) (p : SyntaxAt) (es : syntax.Trees)
    → given_by lams s n g (syntax.node kind p None es) ≡ Ok g
no_token_is lams s n g k.MemberInitializer p es = refl
no_token_is lams s n g k.BaseInitializer p es = refl
no_token_is lams s n g kind p es = refl

-- One part more

is_none_shown : (trees : List Tree) (o : Option GivenRec) → is_none (option_map (given_in trees) o) ≡ is_none o
is_none_shown trees (Some g) = refl
is_none_shown trees None = refl

pub open_is : (trees : List Tree) (i : Option ℕ) (gs : List GivenRec) → is_none (given_for i (map (given_in trees) gs)) ≡ is_none (found_for i gs)
open_is trees i gs = ap is_none (given_is trees i gs) ∙ is_none_shown trees (found_for i gs)

both_hold : (a b : Bool) → a ≡ true → b ≡ true → (a && b) ≡ true
both_hold a b e f = rw (e, f) refl

there_more : (n : ℕ) (gs : List GivenRec) (g : GivenRec) → are_there n gs ≡ true → g.init.0 < n → are_there n (gs ++ g ∷ []) ≡ true
there_more n [] g h l = both_hold (nat_lt g.init.0 n) true (lt-ltb g.init.0 n l) refl
there_more n (x ∷ xs) g h l =
    let p = and_parts (nat_lt x.init.0 n) (are_there n xs) h in
    both_hold (nat_lt x.init.0 n) (are_there n (xs ++ g ∷ [])) p.0 (there_more n xs g p.1 l)

pub part_closed : (lams : Lambdas) (s : List Lexeme) (a : StateRec) (n : ℕ) (gs : List GivenRec) (i : Option ℕ) (at : At) (t : Typ) (es : syntax.Trees)
    → is_none (found_for i gs) ≡ false → part_more lams s n (giving_in a gs) i at t es ≡ Err (Ill at Redeclared)
part_closed lams s a n gs i at t es h = ap (λ (z : Bool). and_then (check at Redeclared z)
    (λ (y : Bool). and_then (part_given lams s (state_of a) n i t at es) (λ (d : Done). Ok (given_with (giving_in a gs) i at d)))) (open_is (made a) i gs ∙ h)

part_opened : (lams : Lambdas) (s : List Lexeme) (a : StateRec) (n : ℕ) (gs : List GivenRec) (i : Option ℕ) (at : At) (t : Typ) (es : syntax.Trees)
    → is_none (found_for i gs) ≡ true → part_more lams s n (giving_in a gs) i at t es
    ≡ and_then (part_given lams s (state_of a) n i t at es) (λ (d : Done). Ok (given_with (giving_in a gs) i at d))
part_opened lams s a n gs i at t es h = ap (λ (z : Bool). and_then (check at Redeclared z)
    (λ (y : Bool). and_then (part_given lams s (state_of a) n i t at es) (λ (d : Done). Ok (given_with (giving_in a gs) i at d)))) (open_is (made a) i gs ∙ h)

pub part_refused : (lams : Lambdas) (s : List Lexeme) (a : StateRec) (n : ℕ) (gs : List GivenRec) (i : Option ℕ) (at : At) (t : Typ) (es : syntax.Trees)
    (e : ElabFault) → is_none (found_for i gs) ≡ true → Faults e (part_given lams s (state_of a) n i t at es)
    → Faults e (part_more lams s n (giving_in a gs) i at t es)
part_refused lams s a n gs i at t es e h f = faults_same e _ _ (part_opened lams s a n gs i at t es h)
    (faults_in (λ (z : Result Done ElabFault). and_then z (λ (d : Done). Ok (given_with (giving_in a gs) i at d))) e
    (part_given lams s (state_of a) n i t at es) (λ d. refl) f)

pub part_gathered : (lams : Lambdas) (s : List Lexeme) (a b : StateRec) (n : ℕ) (gs next : List GivenRec) (i : Option ℕ) (at : At) (t : Typ) (es : syntax.Trees)
    (g : GivenRec) → is_none (found_for i gs) ≡ true → are_there (length (made a)) gs ≡ true → OneDone a b g.init (part_given lams s (state_of a) n i t at es)
    → g.member ≡ i → g.at ≡ at → next ≡ gs ++ g ∷ [] → Gathered a b next (part_more lams s n (giving_in a gs) i at t es)
part_gathered lams s a b n gs next i at t es g o w m p q e =
    let old : map (given_in (made b)) gs ≡ map (given_in (made a)) gs = given_grown (made a) (made b) gs m.grown.trees w in
    let shown : map (given_in (made b)) next ≡ map (given_in (made a)) gs ++ given_in (made b) g ∷ [] = ap (map (given_in (made b))) e
    ∙ map_push (given_in (made b)) gs g ∙ ap (λ (z : List Given). z ++ given_in (made b) g ∷ []) old in
    let last : Option ℕ → At → Giving = λ (j : Option ℕ) (p : At).
    record { state = state_of b; given = map (given_in (made a)) gs ++ record { member = j; at = p; tree = tree_at (made b) g.init } ∷ [] } in
    record {
      grown = m.grown;
      there = subst (λ (z : List GivenRec). are_there (length (made b)) z ≡ true) (sym e)
          (there_more (length (made b)) gs g (there_grown (made a) (made b) gs m.grown.trees w) m.within);
      is = part_opened lams s a n gs i at t es o ∙ ap (λ (z : Result Done ElabFault). and_then z (λ (d : Done). Ok (given_with (giving_in a gs) i at d))) m.is
          ∙ ap (λ (z : Option ℕ). Ok (last z at)) (sym p) ∙ ap (λ (z : At). Ok (last g.member z)) (sym q)
          ∙ ap (λ (z : List Given). Ok (record { state = state_of b; given = z })) (sym shown);
    }

-- By a token

pub gathers_same : (a b : StateRec) (next : List GivenRec) (r : Result (Unit {0}) ElabFault) (x y : Result Giving ElabFault) → y ≡ x → Gathers a b next r x
    → Gathers a b next r y
gathers_same a b next r x y e m = subst (λ (z : Result Giving ElabFault). Gathers a b next r z) (sym e) m

pub gathers_fail : (a b : StateRec) (next : List GivenRec) (r : Result (Unit {0}) ElabFault) (e : ElabFault) (x : Result Giving ElabFault) → r ≡ Err e
    → Faults e x → Gathers a b next r x
gathers_fail a b next r e x h f = subst (λ (z : Result (Unit {0}) ElabFault). Gathers a b next z x) (sym h) f

pub member_gathered : (lams : Lambdas) (s : List Lexeme) (a b : StateRec) (n : ℕ) (gs next : List GivenRec) (at : At) (token i : ℕ) (name : List ℕ) (u : Typ)
    (es : syntax.Trees) (r : Result (Unit {0}) ElabFault) → name ≡ spelling s token → member_found (state_of a).ctx n at name ≡ Ok i
    → u ≡ member_type (slice_get (members_in (slice_get (state_of a).ctx.classes n)) i)
    → Gathers a b next r (part_more lams s n (giving_in a gs) (Some i) at u es) → Gathers a b next r (member_by lams s n (giving_in a gs) at token es)
member_gathered lams s a b n gs next at token i name u es r e f q m =
    let found : member_found (state_of a).ctx n at (spelling s token) ≡ Ok i = ap (member_found (state_of a).ctx n at) (sym e) ∙ f in
    let typed : ℕ → Result Giving ElabFault = λ (j : ℕ). part_more lams s n (giving_in a gs) (Some j) at
    (member_type (slice_get (members_in (slice_get (state_of a).ctx.classes n)) j)) es in
    gathers_same a b next r _ _ (ap (λ (z : Result ℕ ElabFault). and_then z typed) found ∙ ap
    (λ (z : Typ). part_more lams s n (giving_in a gs) (Some i) at z es) (sym q)) m

pub member_unknown : (lams : Lambdas) (s : List Lexeme) (g : Giving) (n : ℕ) (at : At) (token : ℕ) (name : List ℕ) (es : syntax.Trees) (e : ElabFault)
    → name ≡ spelling s token → Faults e (member_found g.state.ctx n at name) → Faults e (member_by lams s n g at token es)
member_unknown lams s g n at token name es e q f = faults_in
    (λ (z : Result ℕ ElabFault). and_then z (λ (i : ℕ). part_more lams s n g (Some i) at
    (member_type (slice_get (members_in (slice_get g.state.ctx.classes n)) i)) es)) e (member_found g.state.ctx n at (spelling s token)) (λ d. refl)
    (subst (λ (z : List ℕ). Faults e (member_found g.state.ctx n at z)) q f)

pub base_gathered : (lams : Lambdas) (s : List Lexeme) (a b : StateRec) (n : ℕ) (gs next : List GivenRec) (at : At) (token : ℕ) (name : List ℕ) (u : Typ)
    (es : syntax.Trees) (r : Result (Unit {0}) ElabFault) → name ≡ spelling s token → base_found (state_of a).ctx n at name ≡ Ok u
    → Gathers a b next r (part_more lams s n (giving_in a gs) None at u es) → Gathers a b next r (base_by lams s n (giving_in a gs) at token es)
base_gathered lams s a b n gs next at token name u es r e f m =
    let found : base_found (state_of a).ctx n at (spelling s token) ≡ Ok u = ap (base_found (state_of a).ctx n at) (sym e) ∙ f in
    gathers_same a b next r _ _ (ap (λ (z : Result Typ ElabFault). and_then z (λ (v : Typ). part_more lams s n (giving_in a gs) None at v es)) found) m

pub base_unknown : (lams : Lambdas) (s : List Lexeme) (g : Giving) (n : ℕ) (at : At) (token : ℕ) (name : List ℕ) (es : syntax.Trees) (e : ElabFault)
    → name ≡ spelling s token → Faults e (base_found g.state.ctx n at name) → Faults e (base_by lams s n g at token es)
base_unknown lams s g n at token name es e q f = faults_in (λ (z : Result Typ ElabFault). and_then z (λ (v : Typ). part_more lams s n g None at v es)) e
    (base_found g.state.ctx n at (spelling s token)) (λ d. refl) (subst (λ (z : List ℕ). Faults e (base_found g.state.ctx n at z)) q f)

-- By a node

pub member_node : (lams : Lambdas) (s : List Lexeme) (a b : StateRec) (n : ℕ) (gs next : List GivenRec) (tree : syntax.Tree) (kind : NodeKind) (p : SyntaxAt)
    (token : Option ℕ) (t : ℕ) (kids those : syntax.Trees) (at : At) (r : Result (Unit {0}) ElabFault) → tree ≡ syntax.node kind p token kids
    → kind ≡ k.MemberInitializer → token ≡ Some t → at ≡ at_of p → those ≡ kids → Gathers a b next r (member_by lams s n (giving_in a gs) at t those)
    → Gathers a b next r (given_by lams s n (giving_in a gs) tree)
member_node lams s a b n gs next tree kind p token t kids those at r e f g h q m =
    let node : tree ≡ syntax.node k.MemberInitializer p (Some t) kids = e ∙ ap (λ (z : NodeKind). syntax.node z p token kids) f
    ∙ ap (λ (z : Option ℕ). syntax.node k.MemberInitializer p z kids) g in
    gathers_same a b next r _ _ (ap (given_by lams s n (giving_in a gs)) node ∙ sym (member_is lams s n (giving_in a gs) p t kids) ∙ ap
    (λ (z : At). member_by lams s n (giving_in a gs) z t kids) (sym h) ∙ ap (member_by lams s n (giving_in a gs) at t) (sym q)) m

pub base_node : (lams : Lambdas) (s : List Lexeme) (a b : StateRec) (n : ℕ) (gs next : List GivenRec) (tree : syntax.Tree) (kind : NodeKind) (p : SyntaxAt)
    (token : Option ℕ) (t : ℕ) (kids those : syntax.Trees) (at : At) (r : Result (Unit {0}) ElabFault) → tree ≡ syntax.node kind p token kids
    → kind ≡ k.BaseInitializer → token ≡ Some t → at ≡ at_of p → those ≡ kids → Gathers a b next r (base_by lams s n (giving_in a gs) at t those)
    → Gathers a b next r (given_by lams s n (giving_in a gs) tree)
base_node lams s a b n gs next tree kind p token t kids those at r e f g h q m =
    let node : tree ≡ syntax.node k.BaseInitializer p (Some t) kids = e ∙ ap (λ (z : NodeKind). syntax.node z p token kids) f
    ∙ ap (λ (z : Option ℕ). syntax.node k.BaseInitializer p z kids) g in
    gathers_same a b next r _ _ (ap (given_by lams s n (giving_in a gs)) node ∙ sym (base_is lams s n (giving_in a gs) p t kids) ∙ ap
    (λ (z : At). base_by lams s n (giving_in a gs) z t kids) (sym h) ∙ ap (base_by lams s n (giving_in a gs) at t) (sym q)) m

pub gathered_same : (lams : Lambdas) (s : List Lexeme) (a : StateRec) (n : ℕ) (gs : List GivenRec) (x : Result Giving ElabFault)
    → are_there (length (made a)) gs ≡ true → x ≡ Ok (giving_in a gs) → Gathered a a gs x
gathered_same lams s a n gs x w e = record { grown = grown_refl a; there = w; is = e }

pub no_token : (lams : Lambdas) (s : List Lexeme) (a : StateRec) (n : ℕ) (gs : List GivenRec) (tree : syntax.Tree) (kind : NodeKind) (p : SyntaxAt)
    (token : Option ℕ) (kids : syntax.Trees) → are_there (length (made a)) gs ≡ true → tree ≡ syntax.node kind p token kids → token ≡ None
    → Gathered a a gs (given_by lams s n (giving_in a gs) tree)
no_token lams s a n gs tree kind p token kids w e f =
    gathered_same lams s a n gs _ w (ap (given_by lams s n (giving_in a gs)) (e ∙ ap (λ (z : Option ℕ). syntax.node kind p z kids) f) ∙ no_token_is lams s n
    (giving_in a gs) kind p kids)

-- One node behind the other

pub record Gathering (a b : StateRec) (gs : List GivenRec) (rest x : Result Giving ElabFault) : Type 0 where
  pub grown : Grown a b
  pub there : are_there (length (made b)) gs ≡ true
  pub is : x ≡ rest

pub each_first : {R : Type 0} (f : R → syntax.Tree → Result R ElabFault) (r : R) (ts : List syntax.Tree) (ids : List NodeId) (i : ℕ) (d : NodeId)
    → i < length ids → each_of f r (syntaxes_at ts (drop i ids))
    ≡ and_then (f r (syntax_at ts (get_or ids i d))) (λ (x : R). each_of f x (syntaxes_at ts (drop (i + 1) ids)))
each_first {R} f r ts ids i d h = ap (λ (z : List NodeId). each_of f r (syntaxes_at ts z)) (drop_step ids i d h)

pub each_none : {R : Type 0} (f : R → syntax.Tree → Result R ElabFault) (r : R) (ts : List syntax.Tree) (ids : List NodeId) (i : ℕ) → length ids ≤ i
    → each_of f r (syntaxes_at ts (drop i ids)) ≡ Ok r
each_none {R} f r ts ids i h = ap (λ (z : List NodeId). each_of f r (syntaxes_at ts z)) (drop_past ids i h)

pub gathering_next : (a b c : StateRec) (gs next : List GivenRec) (rest x y : Result Giving ElabFault) (f : Giving → Result Giving ElabFault)
    → Gathering a b gs rest x → rest ≡ and_then y f → Gathered b c next y → Gathering a c next (f (giving_in c next)) x
gathering_next a b c gs next rest x y f m e n = record {
  grown = grown_trans a b c m.grown n.grown;
  there = n.there;
  is = m.is ∙ e ∙ ap
      (λ (z : Result Giving ElabFault). and_then z f) n.is;
}

pub gathering_done : (a b : StateRec) (gs : List GivenRec) (rest x : Result Giving ElabFault) → Gathering a b gs rest x → rest ≡ Ok (giving_in b gs)
    → Gathered a b gs x
gathering_done a b gs rest x m e = record { grown = m.grown; there = m.there; is = m.is ∙ e }

pub gathering_fault : (a b : StateRec) (gs : List GivenRec) (rest x y : Result Giving ElabFault) (f : Giving → Result Giving ElabFault) (e : ElabFault)
    → Gathering a b gs rest x → rest ≡ and_then y f → Faults e y → Faults e x
gathering_fault a b gs rest x y f e m h g = faults_same e (and_then y f) x (m.is ∙ h)
    (faults_in (λ (z : Result Giving ElabFault). and_then z f) e y (λ d. refl) g)

pub all_fail : (a c : StateRec) (r : Result (Vec GivenRec Global) ElabFault) (e : ElabFault) (x : Result Giving ElabFault) → r ≡ Err e → Faults e x
    → GathersAll a c r x
all_fail a c r e x h f = subst (λ (z : Result (Vec GivenRec Global) ElabFault). GathersAll a c z x) (sym h) f
