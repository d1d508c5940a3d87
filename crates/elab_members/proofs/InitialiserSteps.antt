-- Initialisers of members in the class, step by step.
use Rattle.std.proofs.Common.{◌≡◌, ◌∙◌, ◌++◌, ◌∷◌, ℕ, nat_lt, Bool, true, false, List, [], length, map, drop, slice_get, Option, Some, None, Result, Ok, Err}
use Rattle.std.proofs.Common.{IfOk, refl, sym, ap, subst}
use Rattle.std.proofs.lemmas.List.{map_push}
use Rattle.std.proofs.lemmas.Bool.{and_parts, ltb-true}
use Rattle.std.specs.declared.alloc.AllocError.{AllocError}
use Rattle.elab_entry.specs.cpp_types.Typ.{Typ}
use Rattle.elab_entry.specs.cpp_types.declared.classes.At.{At}
use Rattle.elab_entry.specs.cpp_lex.Tokens.{Lexeme}
use Rattle.elab_entry.specs.cpp_ast.Trees as syntax
use Rattle.elab_entry.specs.cpp_ast.declared.arena.At.{At as SyntaxAt}
use Rattle.elab_entry.specs.cpp_ast.declared.kinds.NodeKind.{NodeKind}
use Rattle.elab_entry.specs.cpp_tree.declared.faults.ElabFault.{ElabFault}
use Rattle.elab_entry.specs.cpp_tree.declared.arena.TNodeId.{TNodeId}
use Rattle.elab_entry.specs.cpp_tree.Trees.{Tree, one}
use Rattle.elab_entry.specs.cpp_tree.Arena.{tree_at, Grows, Adds}
use Rattle.elab_entry.specs.elab_ctx.Ctx.{Ctx, Default, default_of as shown_default}
use Rattle.elab_entry.specs.elab_ctx.declared.env.DefaultInit.{DefaultInit}
use Rattle.elab_entry.specs.elab_ctx.declared.operand.Operand.{Operand as OperandRec}
use Rattle.elab_entry.specs.elab_ctx.Steps.{and_then, spelling}
use Rattle.elab_entry.specs.elab_ctx.Says.{Faults, Gives}
use Rattle.elab_entry.proofs.elab_ctx.Looks.{at_grown}
use Rattle.elab_entry.proofs.elab_ctx.Making.{faults_in}
use Rattle.elab_entry.specs.elab_rules.Names.{members_in}
use Rattle.elab_entry.specs.elab_rules.Lambdas.{kids_of}
use Rattle.elab_entry.specs.elab_rules.Braces.{is_char_array, string_token, string_object, syntax_place}
use Rattle.elab_entry.specs.elab_rules.Strings.{string_bytes}
use Rattle.elab_entry.specs.elab_rules.Statements.{State, Done, done, Lambdas, full_operand}
use Rattle.elab_entry.specs.elab_rules.Members.{default_value, first_tree, initialiser_in, member_index, member_type}
use Rattle.elab_entry.specs.elab_scopes.declared.state.State.{State as StateRec}
use Rattle.elab_entry.specs.elab_scopes.States.{state_of, made, full_in, Grown}
use Rattle.elab_entry.specs.elab_scopes.Says.{Changed, Changes, OneDone, Does, FullAt}
use Rattle.elab_entry.proofs.elab_scopes.Standing.{grown_by, grown_refl, grown_trans, does_after}
use Rattle.elab_entry.specs.Round.{Round, round_function, left_by}
use Rattle.elab_implicit.specs.Implied.{in_object}
use Rattle.elab_members.specs.Initialisers.{value_made, value_by, default_from, default_added, default_kept, default_made, default_for, default_of}
use Rattle.elab_members.specs.Initialisers.{member_by_token, member_declared, are_known}
use Rattle.elab_members.proofs.ObjectBodies.{left_grown, same_trees, state_fails}

-- One value

pub value_whole : (lams : Lambdas) (s : List Lexeme) (a b c : StateRec) (t : Typ) (e : syntax.Tree) (o : OperandRec) (r : Result TNodeId ElabFault)
    → FullAt a b o (full_operand lams s (state_of a) e) → Does b c r (value_made t (full_in b o)) → Does a c r (value_by lams s (state_of a) t e)
value_whole lams s a b c t e o r m k = does_after a b c (full_operand lams s (state_of a) e) (full_in b o) (value_made t) r m.grown m.is k

pub does_so : (a c : StateRec) (r : Result TNodeId ElabFault) (x y : Result Done ElabFault) → y ≡ x → Does a c r x → Does a c r y
does_so a c r x y e m = subst (λ (z : Result Done ElabFault). Does a c r z) (sym e) m

-- a value that is no array of characters, or that no string is written for
pub value_plain : (lams : Lambdas) (s : List Lexeme) (st : State) (t : Typ) (e : syntax.Tree) (b : Bool) → b ≡ is_char_array t → b ≡ false
    → default_from lams s st t e ≡ value_by lams s st t e
value_plain lams s st t e b f g = ap (λ (z : Bool). default_value lams s st t e z (string_token e)) (sym f ∙ g)

pub value_untold : (lams : Lambdas) (s : List Lexeme) (st : State) (t : Typ) (e : syntax.Tree) (b : Bool) (o : Option ℕ) → b ≡ is_char_array t → b ≡ true
    → o ≡ string_token e → o ≡ None → default_from lams s st t e ≡ value_by lams s st t e
value_untold lams s st t e b o f g h q = ap (λ (z : Bool). default_value lams s st t e z (string_token e)) (sym f ∙ g)
    ∙ ap (default_value lams s st t e true) (sym h ∙ q)

value_string : (lams : Lambdas) (s : List Lexeme) (st : State) (t : Typ) (e : syntax.Tree) (b : Bool) (o : Option ℕ) (i : ℕ) → b ≡ is_char_array t → b ≡ true
    → o ≡ string_token e → o ≡ Some i → default_from lams s st t e
    ≡ and_then (string_object st.ctx t (syntax_place e) (string_bytes (spelling s i))) (λ (x : Tree). done (one x) st)
value_string lams s st t e b o i f g h q = ap (λ (z : Bool). default_value lams s st t e z (string_token e)) (sym f ∙ g)
    ∙ ap (default_value lams s st t e true) (sym h ∙ q)

string_does : (a c : StateRec) (r : Result TNodeId ElabFault) (x : Result Tree ElabFault) → Gives (made a) (made c) r x → state_of c ≡ state_of a
    → Does a c r (and_then x (λ (t : Tree). done (one t) (state_of a)))
string_does a c (Ok r) x m e = record {
  grown = grown_by a c m.grows (ap (λ (z : State). z.ctx.labels) e);
  within = m.within;
  is = ap (λ (z : Result Tree ElabFault). and_then z (λ (t : Tree). done (one t) (state_of a))) m.is ∙ ap (done (one (tree_at (made c) r))) (sym e);
}
string_does a c (Err f) x m e = faults_in (λ (z : Result Tree ElabFault). and_then z (λ (t : Tree). done (one t) (state_of a))) f x (λ d. refl) m

pub value_spelled : (lams : Lambdas) (s : List Lexeme) (a c : StateRec) (t : Typ) (e : syntax.Tree) (b : Bool) (o : Option ℕ) (i : ℕ) (at : At)
    (r : Result TNodeId ElabFault) → b ≡ is_char_array t → b ≡ true → o ≡ string_token e → o ≡ Some i → at ≡ syntax_place e
    → Gives (made a) (made c) r (string_object (state_of a).ctx t at (string_bytes (spelling s i))) → state_of c ≡ state_of a
    → Does a c r (default_from lams s (state_of a) t e)
value_spelled lams s a c t e b o i at r f g h q p m k =
    let here : Gives (made a) (made c) r (string_object (state_of a).ctx t (syntax_place e) (string_bytes (spelling s i))) =
    subst (λ (z : At). Gives (made a) (made c) r (string_object (state_of a).ctx t z (string_bytes (spelling s i)))) p m in
    does_so a c r _ _ (value_string lams s (state_of a) t e b o i f g h q)
    (string_does a c r (string_object (state_of a).ctx t (syntax_place e) (string_bytes (spelling s i))) here k)

-- One initialiser more

pub known_grown : (old new : List Tree) (ds : List DefaultInit) → Grows old new → are_known (length old) ds ≡ true
    → map (shown_default new) ds ≡ map (shown_default old) ds
known_grown old new [] g h = refl
known_grown old new (d ∷ ds) g h =
    let p = and_parts (nat_lt d.init.0 (length old)) (are_known (length old) ds) h in
    let first : shown_default new d ≡ shown_default old d =
    ap (λ (z : Tree). record (shown_default old d) { init = z }) (at_grown old new d.init g (ltb-true d.init.0 (length old) p.0)) in
    ap (λ (z : Default). z ∷ map (shown_default new) ds) first ∙ ap (λ (z : List Default). shown_default old d ∷ z) (known_grown old new ds g p.1)

pub more_known : (c : Ctx) (old new : List Tree) (ds next : List DefaultInit) (d : DefaultInit) (n i : ℕ) (count : ℕ) (t : Tree) (frame : List Typ)
    → Adds old new d.init t → are_known count ds ≡ true → count ≡ length old → next ≡ ds ++ d ∷ []
    → shown_default new d ≡ record { class = n; member = i; init = tree_at new d.init; frame = frame }
    → record c { defaults = map (shown_default new) next }
    ≡ record c { defaults = map (shown_default old) ds ++ record { class = n; member = i; init = t; frame = frame } ∷ [] }
more_known c old new ds next d n i count t frame m w q e f =
    let known : are_known (length old) ds ≡ true = subst (λ (z : ℕ). are_known z ds ≡ true) q w in
    let all : map (shown_default new) next ≡ map (shown_default old) ds ++ record { class = n; member = i; init = t; frame = frame } ∷ [] =
    ap (map (shown_default new)) e ∙ map_push (shown_default new) ds d
    ∙ ap (λ (z : List Default). z ++ shown_default new d ∷ []) (known_grown old new ds m.grows known)
    ∙ ap (λ (z : Default). map (shown_default old) ds ++ z ∷ []) (f ∙ ap (λ (z : Tree). record { class = n; member = i; init = z; frame = frame }) m.is) in
    ap (λ (z : List Default). record c { defaults = z }) all

pub default_done : (lams : Lambdas) (s : List Lexeme) (a b c d e : StateRec) (n i : ℕ) (t : Typ) (tree : syntax.Tree) (around : Round) (id : TNodeId) (x : Tree)
    (frame : List Typ) → state_of b ≡ in_object (state_of a) n → around ≡ round_function (state_of a) → OneDone b c id (default_from lams s (state_of b) t tree)
    → state_of d ≡ left_by around (state_of c) → made d ≡ made a → x ≡ tree_at (made c) id → frame ≡ (state_of c).work.frame → made e ≡ made d
    → state_of e ≡ record (state_of d) { ctx = default_added (state_of d).ctx n i x (drop 1 frame) } → Changed a e (default_made lams s (state_of a) n i t tree)
default_done lams s a b c d e n i t tree around id x frame h ro m l q f g k w =
    let add : State → Tree → List Typ → Result State ElabFault =
    λ (z : State) (y : Tree) (u : List Typ). Ok (record z { ctx = default_added z.ctx n i y (drop 1 u) }) in
    let left : left_by (round_function (state_of a)) (state_of c) ≡ state_of d = ap (λ (z : Round). left_by z (state_of c)) (sym ro) ∙ sym l in
    let g1 : Grown a d = left_grown a d (state_of c) around ro l q in
    record {
      grown = grown_trans a d e g1 (grown_by d e (same_trees (made d) (made e) k) (ap (λ (z : State). z.ctx.labels) w));
      is =
          ap (λ (z : State). and_then (default_from lams s z t tree)
          (λ (y : Done). Ok (default_kept (state_of a) n i (first_tree (syntax_place tree) y.trees) y.state))) (sym h)
          ∙ ap (λ (z : Result Done ElabFault). and_then z
          (λ (y : Done). Ok (default_kept (state_of a) n i (first_tree (syntax_place tree) y.trees) y.state))) m.is
          ∙ ap (λ (z : State). add z (tree_at (made c) id) (state_of c).work.frame) left
          ∙ ap (λ (z : Tree). add (state_of d) z (state_of c).work.frame) (sym f)
          ∙ ap (add (state_of d) x) (sym g)
          ∙ ap (λ (z : State). Ok z) (sym w);
    }

pub default_refused : (lams : Lambdas) (s : List Lexeme) (st in_it : State) (n i : ℕ) (t : Typ) (tree : syntax.Tree) (e : ElabFault) → in_it ≡ in_object st n
    → Faults e (default_from lams s in_it t tree) → Faults e (default_made lams s st n i t tree)
default_refused lams s st in_it n i t tree e h m = state_fails e (default_from lams s (in_object st n) t tree)
    (λ (y : Done). Ok (default_kept st n i (first_tree (syntax_place tree) y.trees) y.state))
    (subst (λ (z : State). Faults e (default_from lams s z t tree)) h m)

-- Whose initialiser it is

pub declared_so : (s : List Lexeme) (c : Ctx) (n : ℕ) (tree : syntax.Tree) (kind : NodeKind) (p : SyntaxAt) (token o : Option ℕ) (kids : syntax.Trees) (t : ℕ)
    (name : List ℕ) (r : Result (Option ℕ) AllocError) → tree ≡ syntax.node kind p token kids
    → member_declared s c n (syntax.node kind p token kids) ≡ member_by_token s c n o → o ≡ Some t → name ≡ spelling s t
    → IfOk r (λ (x : Option ℕ). x ≡ member_index 0 name (members_in (slice_get c.classes n))) → IfOk r (λ (x : Option ℕ). x ≡ member_declared s c n tree)
declared_so s c n tree kind p token o kids t name r e f g h m =
    let is : member_index 0 name (members_in (slice_get c.classes n)) ≡ member_declared s c n tree =
    ap (λ (z : List ℕ). member_index 0 z (members_in (slice_get c.classes n))) h ∙ sym (ap (member_declared s c n) e ∙ f ∙ ap (member_by_token s c n) g) in
    subst (λ (z : Option ℕ). IfOk r (λ (x : Option ℕ). x ≡ z)) is m

pub undeclared : (s : List Lexeme) (c : Ctx) (n : ℕ) (tree : syntax.Tree) (kind : NodeKind) (p : SyntaxAt) (token o : Option ℕ) (kids : syntax.Trees)
    → tree ≡ syntax.node kind p token kids → member_declared s c n (syntax.node kind p token kids) ≡ member_by_token s c n o → o ≡ None
    → None ≡ member_declared s c n tree
undeclared s c n tree kind p token o kids e f g = sym (ap (member_declared s c n) e ∙ f ∙ ap (member_by_token s c n) g)

pub no_member : (lams : Lambdas) (s : List Lexeme) (a : StateRec) (n : ℕ) (tree : syntax.Tree) (o : Option ℕ) → o ≡ member_declared s (state_of a).ctx n tree
    → o ≡ None → Changed a a (default_of lams s n (state_of a) tree)
no_member lams s a n tree o e f = record {
  grown = grown_refl a;
  is = ap (λ (z : Option ℕ). default_for lams s (state_of a) n z (initialiser_in (kids_of tree)))
      (sym e ∙ f);
}

none_for : (lams : Lambdas) (s : List Lexeme) (st : State) (n : ℕ) (o : Option ℕ) → default_for lams s st n o None ≡ Ok st
none_for lams s st n (Some i) = refl
none_for lams s st n None = refl

pub no_initialiser : (lams : Lambdas) (s : List Lexeme) (a : StateRec) (n : ℕ) (tree : syntax.Tree) (v : Option syntax.Tree) → v ≡ initialiser_in (kids_of tree)
    → v ≡ None → Changed a a (default_of lams s n (state_of a) tree)
no_initialiser lams s a n tree v e f = record {
  grown = grown_refl a;
  is = ap (default_for lams s (state_of a) n (member_declared s (state_of a).ctx n tree))
      (sym e ∙ f) ∙ none_for lams s (state_of a) n (member_declared s (state_of a).ctx n tree);
}

pub of_member : (lams : Lambdas) (s : List Lexeme) (a c : StateRec) (n i : ℕ) (tree x : syntax.Tree) (o : Option ℕ) (v : Option syntax.Tree) (u : Typ)
    (r : Result (Unit {0}) ElabFault) → o ≡ member_declared s (state_of a).ctx n tree → o ≡ Some i → v ≡ initialiser_in (kids_of tree) → v ≡ Some x
    → u ≡ member_type (slice_get (members_in (slice_get (state_of a).ctx.classes n)) i) → Changes a c r (default_made lams s (state_of a) n i u x)
    → Changes a c r (default_of lams s n (state_of a) tree)
of_member lams s a c n i tree x o v u r e f g h q m =
    let is : default_of lams s n (state_of a) tree ≡ default_made lams s (state_of a) n i u x =
    ap (λ (z : Option ℕ). default_for lams s (state_of a) n z (initialiser_in (kids_of tree))) (sym e ∙ f)
    ∙ ap (default_for lams s (state_of a) n (Some i)) (sym g ∙ h)
    ∙ ap (λ (z : Typ). default_made lams s (state_of a) n i z x) (sym q) in
    subst (λ (z : Result State ElabFault). Changes a c r z) (sym is) m
