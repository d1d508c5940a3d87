-- Members that are defined outside their class, step by step.
use Rattle.std.proofs.Common.{◌≡◌, ◌∙◌, ◌+◌, ℕ, zero, suc, Bool, true, false, List, [], ◌∷◌, drop, slice_get, slice_set, unwrap_or, Option, Some, None, Result}
use Rattle.std.proofs.Common.{Ok, Err, refl, sym, ap, subst, arith, if◌then◌else◌}
use Rattle.elab_entry.specs.cpp_types.Typ.{Typ, void}
use Rattle.elab_entry.specs.cpp_types.declared.classes.At.{At}
use Rattle.elab_entry.specs.cpp_lex.Tokens.{Lexeme}
use Rattle.elab_entry.specs.cpp_ast.declared.arena.NodeId.{NodeId}
use Rattle.elab_entry.specs.cpp_ast.Trees.{Tree, Trees, more, none}
use Rattle.elab_entry.specs.cpp_tree.Notation.{plain}
use Rattle.elab_entry.specs.cpp_tree.Typing.{form_in}
use Rattle.elab_entry.specs.cpp_tree.declared.program.FuncKind.{FuncKind}
use Rattle.elab_entry.specs.cpp_tree.declared.program.FuncKind.TheVariants.{Plain, Constructor, Destructor, ClosureCall}
use Rattle.elab_entry.specs.cpp_tree.declared.faults.ElabFault.{ElabFault}
use Rattle.elab_entry.specs.cpp_tree.declared.faults.ElabFault.TheVariants.{Ill}
use Rattle.elab_entry.specs.cpp_tree.declared.faults.IllRule.TheVariants.{BadDeclaration, OutOfProfile}
use Rattle.elab_entry.specs.elab_ctx.Ctx.{Ctx, Work, Func}
use Rattle.elab_entry.specs.cpp_tree.declared.program.Linkage.TheVariants.{Inline}
use Rattle.elab_entry.specs.elab_ctx.Steps.{and_then, expect}
use Rattle.elab_entry.specs.elab_ctx.Says.{Faults}
use Rattle.elab_entry.specs.elab_rules.Initialising.{func_at, no_function}
use Rattle.elab_entry.specs.elab_rules.Types.{Declared}
use Rattle.elab_entry.specs.elab_rules.Expressions.{type_of_specifiers, declared_by}
use Rattle.elab_entry.specs.elab_rules.Statements.{State, Body, Lambdas, name_of}
use Rattle.elab_entry.specs.elab_rules.Functions.{Storage, Header, Placed}
use Rattle.elab_entry.specs.elab_rules.Classes.{Method, Started, header_in, special_header, started_from, body_in, last_token}
use Rattle.elab_entry.specs.elab_rules.Members.{owner_named, name_of_class, outside_method, outside_linkage, linked_definition}
use Rattle.elab_entry.specs.elab_types.Shown.{Says}
use Rattle.elab_entry.specs.elab_types.Syntax.{tree_at, trees_at}
use Rattle.elab_entry.specs.elab_scopes.declared.state.State.{State as StateRec}
use Rattle.elab_entry.specs.elab_scopes.States.{state_of, made}
use Rattle.elab_entry.specs.elab_scopes.Says.{Changes}
use Rattle.elab_entry.proofs.elab_scopes.Standing.{grown_by, changes_after}
use Rattle.class_members.specs.Shown.{header_of}
use Rattle.class_members.specs.declared.records.Header.{Header as HeaderRec}
use Rattle.class_table.specs.Written.{method_shown, method_with, at_hand, is_plain_kind}
use Rattle.class_table.specs.declared.methods.Method.{Method as MethodRec}
use Rattle.class_table.proofs.Reading.{both_steps, same_then}
use Rattle.elab_members.specs.Bodies.{method_body}
use Rattle.elab_members.specs.Outside.{inline_at, outside_plain, outside_special, outside_declared, outside_body, outside_with, outside_started, member_defined}
use Rattle.elab_members.proofs.ObjectBodies.{then_fails, same_trees, state_fails}
use Rattle.elab_members.proofs.DeclarationSteps.{changes_so}

pub says_refused : {A B : Type 0} (show : A → B) (r : Result A ElabFault) (e : ElabFault) (x : Result B ElabFault) → r ≡ Err e → Faults e x → Says show r x
says_refused show r e x h f = subst (λ z. Says show z x) (sym h) f

-- The header, where what is read for the type leaves the work at hand as it was

abbrev plain_owned : List Lexeme → Ctx → At → Storage → Declared → Result Header ElabFault
plain_owned s c at x r = and_then (owner_named s c at r.owner) (λ n. header_in n x Plain at (name_of s r.name) r (form_in r.typ))

module _ (s : List Lexeme) (c : Ctx) (v w : Work) (at : At) (x : Storage) (base d : Tree) (t : Typ) (typed : type_of_specifiers s c v base ≡ Ok t)
    (same : w ≡ v) where
  plain_then : outside_plain s c v at x base d ≡ and_then (declared_by s c w at t d) (λ (r : Declared). plain_owned s c at x r)
  plain_then = ap (λ (z : Result Typ ElabFault). and_then z (λ (u : Typ). and_then (declared_by s c v at u d) (λ (r : Declared). plain_owned s c at x r))) typed
      ∙ ap (λ (z : Work). and_then (declared_by s c z at t d) (λ (r : Declared). plain_owned s c at x r)) (sym same)

  pub plain_undeclared : (e : ElabFault) → Faults e (declared_by s c w at t d) → Faults e (outside_plain s c v at x base d)
  plain_undeclared e f = subst (Faults e) (sym plain_then) (then_fails e (declared_by s c w at t d) (λ (r : Declared). plain_owned s c at x r) f)

  plain_declared : (y : Declared) → declared_by s c w at t d ≡ Ok y → outside_plain s c v at x base d ≡ plain_owned s c at x y
  plain_declared y e = plain_then ∙ ap (λ (z : Result Declared ElabFault). and_then z (λ (r : Declared). plain_owned s c at x r)) e

  pub plain_unowned : (y : Declared) (e : ElabFault) → declared_by s c w at t d ≡ Ok y → Faults e (owner_named s c at y.owner)
      → Faults e (outside_plain s c v at x base d)
  plain_unowned y e q f = subst (Faults e) (sym (plain_declared y q))
      (then_fails e (owner_named s c at y.owner) (λ (n : ℕ). header_in n x Plain at (name_of s y.name) y (form_in y.typ)) f)

  pub plain_says : (y : Declared) (n : ℕ) (name : List ℕ) (r : Result HeaderRec ElabFault) → declared_by s c w at t d ≡ Ok y
      → owner_named s c at y.owner ≡ Ok n → name ≡ name_of s y.name → Says header_of r (header_in n x Plain at name y (form_in y.typ))
      → Says header_of r (outside_plain s c v at x base d)
  plain_says y n name r e o q h = subst (Says header_of r) (sym (plain_declared y e
      ∙ ap (λ (z : Result ℕ ElabFault). and_then z (λ (m : ℕ). header_in m x Plain at (name_of s y.name) y (form_in y.typ))) o
      ∙ ap (λ (z : List ℕ). header_in n x Plain at z y (form_in y.typ)) (sym q))) h

-- A function by its kids

module _ (s : List Lexeme) (c : Ctx) (w : Work) (bodies : List Body) (at : At) (x : Storage) where
  plain_is : (base d : Tree) (rest : Trees) → outside_method s (at_hand c w bodies) at x Plain (more base (more d rest))
      ≡ and_then (outside_plain s c w at x base d) (λ (h : Header). Ok (method_with h rest))
  plain_is base d rest =
      let last : Header → Result Method ElabFault = λ (h : Header). Ok (method_with h rest) in
      let head : Declared → ℕ → Result Header ElabFault = λ (r : Declared) (n : ℕ). header_in n x Plain at (name_of s r.name) r (form_in r.typ) in
      let owned : Declared → Result Header ElabFault = λ (r : Declared). and_then (owner_named s c at r.owner) (head r) in
      let found : Typ → Result Header ElabFault = λ (t : Typ). and_then (declared_by s c w at t d) owned in
      let owned_is : (r : Declared) → and_then (owned r) last ≡ and_then (owner_named s c at r.owner) (λ n. and_then (head r n) last) =
      λ r. both_steps (owner_named s c at r.owner) (head r) last in
      sym (both_steps (type_of_specifiers s c w base) found last
      ∙ same_then (type_of_specifiers s c w base) (λ (t : Typ). and_then (found t) last)
      (λ (t : Typ). and_then (declared_by s c w at t d) (λ (r : Declared). and_then (owner_named s c at r.owner) (λ n. and_then (head r n) last)))
      (λ t. both_steps (declared_by s c w at t d) owned last
      ∙ same_then (declared_by s c w at t d) (λ (r : Declared). and_then (owned r) last)
      (λ (r : Declared). and_then (owner_named s c at r.owner) (λ n. and_then (head r n) last)) owned_is))

  special_steps : (kind : FuncKind) (d : Tree) (rest : Trees)
      → and_then (declared_by s c w at (plain void) d)
      (λ (r : Declared). and_then (owner_named s c at r.owner)
      (λ n. and_then (special_header n (name_of_class (slice_get c.classes n)) at x kind r (name_of s r.name)) (λ (h : Header). Ok (method_with h rest))))
      ≡ and_then (outside_special s c w at x kind d) (λ (h : Header). Ok (method_with h rest))
  special_steps kind d rest =
      let last : Header → Result Method ElabFault = λ (h : Header). Ok (method_with h rest) in
      let head : Declared → ℕ → Result Header ElabFault =
      λ (r : Declared) (n : ℕ). special_header n (name_of_class (slice_get c.classes n)) at x kind r (name_of s r.name) in
      let owned : Declared → Result Header ElabFault = λ (r : Declared). and_then (owner_named s c at r.owner) (head r) in
      sym (both_steps (declared_by s c w at (plain void) d) owned last
      ∙ same_then (declared_by s c w at (plain void) d) (λ (r : Declared). and_then (owned r) last)
      (λ (r : Declared). and_then (owner_named s c at r.owner) (λ n. and_then (head r n) last))
      (λ r. both_steps (owner_named s c at r.owner) (head r) last))

  special_is : (kind : FuncKind) (d : Tree) (rest : Trees) → is_plain_kind kind ≡ false
      → outside_method s (at_hand c w bodies) at x kind (more d rest) ≡ and_then (outside_special s c w at x kind d) (λ (h : Header). Ok (method_with h rest))
  special_is Plain d rest h = absurd cc
  special_is Constructor d rest h = special_steps Constructor d rest
  special_is Destructor d rest h = special_steps Destructor d rest
  special_is ClosureCall d rest h = special_steps ClosureCall d rest

-- the trees of kids that are known
two_trees : (trees : List Tree) (xs ys zs : List NodeId) (a b : NodeId) → xs ≡ a ∷ ys → ys ≡ b ∷ zs
    → trees_at trees xs ≡ more (tree_at trees a) (more (tree_at trees b) (trees_at trees zs))
two_trees trees xs ys zs a b e f = ap (trees_at trees) e ∙ ap (λ z. more (tree_at trees a) (trees_at trees z)) f

module _ (s : List Lexeme) (c : Ctx) (w : Work) (bodies : List Body) (at : At) (x : Storage) (trees : List Tree) (ids : List NodeId) (i : ℕ) where
  pub plain_made : (a b : NodeId) (m : MethodRec) (h : HeaderRec) → drop i ids ≡ a ∷ drop (i + 1) ids → drop (i + 1) ids ≡ b ∷ drop (i + 1 + 1) ids →
      outside_plain s c w at x (tree_at trees a) (tree_at trees b) ≡ Ok (header_of h) → m.header ≡ h → m.count ≡ i + 2 →
      outside_method s (at_hand c w bodies) at x Plain (trees_at trees (drop i ids)) ≡ Ok (method_shown trees ids m)
  plain_made a b m h e f g p q =
      let count : i + 1 + 1 ≡ m.count = omega (arith, q) in
      ap (outside_method s (at_hand c w bodies) at x Plain) (two_trees trees (drop i ids) (drop (i + 1) ids) (drop (i + 1 + 1) ids) a b e f)
      ∙ plain_is s c w bodies at x (tree_at trees a) (tree_at trees b) (trees_at trees (drop (i + 1 + 1) ids))
      ∙ ap (λ z. and_then z (λ (y : Header). Ok (method_with y (trees_at trees (drop (i + 1 + 1) ids))))) g
      ∙ ap (λ (z : HeaderRec). Ok (method_with (header_of z) (trees_at trees (drop (i + 1 + 1) ids)))) (sym p)
      ∙ ap (λ z. Ok (method_with (header_of m.header) (trees_at trees (drop z ids)))) count

  pub plain_fails : (a b : NodeId) (e : ElabFault) → drop i ids ≡ a ∷ drop (i + 1) ids → drop (i + 1) ids ≡ b ∷ drop (i + 1 + 1) ids →
      Faults e (outside_plain s c w at x (tree_at trees a) (tree_at trees b))
      → Faults e (outside_method s (at_hand c w bodies) at x Plain (trees_at trees (drop i ids)))
  plain_fails a b e p q f =
      subst (Faults e) (sym (ap (outside_method s (at_hand c w bodies) at x Plain)
      (two_trees trees (drop i ids) (drop (i + 1) ids) (drop (i + 1 + 1) ids) a b p q)
      ∙ plain_is s c w bodies at x (tree_at trees a) (tree_at trees b) (trees_at trees (drop (i + 1 + 1) ids))))
      (then_fails e (outside_plain s c w at x (tree_at trees a) (tree_at trees b))
      (λ (y : Header). Ok (method_with y (trees_at trees (drop (i + 1 + 1) ids)))) f)

  pub special_made : (kind : FuncKind) (a : NodeId) (m : MethodRec) (h : HeaderRec) → is_plain_kind kind ≡ false → drop i ids ≡ a ∷ drop (i + 1) ids →
      outside_special s c w at x kind (tree_at trees a) ≡ Ok (header_of h) → m.header ≡ h → m.count ≡ i + 1 →
      outside_method s (at_hand c w bodies) at x kind (trees_at trees (drop i ids)) ≡ Ok (method_shown trees ids m)
  special_made kind a m h k e g p q =
      ap (λ z. outside_method s (at_hand c w bodies) at x kind (trees_at trees z)) e
      ∙ special_is s c w bodies at x kind (tree_at trees a) (trees_at trees (drop (i + 1) ids)) k
      ∙ ap (λ z. and_then z (λ (y : Header). Ok (method_with y (trees_at trees (drop (i + 1) ids))))) g
      ∙ ap (λ (z : HeaderRec). Ok (method_with (header_of z) (trees_at trees (drop (i + 1) ids)))) (sym p)
      ∙ ap (λ z. Ok (method_with (header_of m.header) (trees_at trees (drop z ids)))) (sym q)

  pub special_fails : (kind : FuncKind) (a : NodeId) (e : ElabFault) → is_plain_kind kind ≡ false → drop i ids ≡ a ∷ drop (i + 1) ids →
      Faults e (outside_special s c w at x kind (tree_at trees a)) → Faults e (outside_method s (at_hand c w bodies) at x kind (trees_at trees (drop i ids)))
  special_fails kind a e k p f =
      subst (Faults e) (sym (ap (λ z. outside_method s (at_hand c w bodies) at x kind (trees_at trees z)) p
      ∙ special_is s c w bodies at x kind (tree_at trees a) (trees_at trees (drop (i + 1) ids)) k))
      (then_fails e (outside_special s c w at x kind (tree_at trees a)) (λ (y : Header). Ok (method_with y (trees_at trees (drop (i + 1) ids)))) f)

no_kid_special : (s : List Lexeme) (st : State) (at : At) (x : Storage) (kind : FuncKind) → is_plain_kind kind ≡ false
    → outside_method s st at x kind none ≡ Err (Ill at OutOfProfile)
no_kid_special s st at x Plain h = absurd cc
no_kid_special s st at x Constructor h = refl
no_kid_special s st at x Destructor h = refl
no_kid_special s st at x ClosureCall h = refl

pub none_special : (s : List Lexeme) (st : State) (at : At) (x : Storage) (kind : FuncKind) (trees : List Tree) (ids : List NodeId) → is_plain_kind kind ≡ false
    → ids ≡ [] → outside_method s st at x kind (trees_at trees ids) ≡ Err (Ill at OutOfProfile)
none_special s st at x kind trees ids h e = ap (λ z. outside_method s st at x kind (trees_at trees z)) e ∙ no_kid_special s st at x kind h

-- by its kind
pub says_kind : (show : MethodRec → Method) (r : Result MethodRec ElabFault) (s : List Lexeme) (st : State) (at : At) (x : Storage) (kind : FuncKind)
    (ts : Trees) → is_plain_kind kind ≡ true → Says show r (outside_method s st at x Plain ts) → Says show r (outside_method s st at x kind ts)
says_kind show r s st at x Plain ts h m = m
says_kind show r s st at x Constructor ts h m = absurd cc
says_kind show r s st at x Destructor ts h m = absurd cc
says_kind show r s st at x ClosureCall ts h m = absurd cc

-- A function whose definition says that it is inline

set_same : {A : Type 0} (xs : List A) (i : ℕ) (d : A) → slice_set xs i (unwrap_or (slice_get xs i) d) ≡ xs
set_same [] i d = refl
set_same (x ∷ xs) zero d = refl
set_same (x ∷ xs) (suc i) d = ap (λ z. x ∷ z) (set_same xs i d)

pub inline_linked : (c : Ctx) (i : ℕ) (x : Storage) (fs : List Func) → x.is_inline ≡ true → fs ≡ slice_set c.funcs i (inline_at c.funcs i)
    → record c { funcs = fs } ≡ linked_definition c i x
inline_linked c i x fs h e = ap (λ (z : List Func). record c { funcs = z }) e
    ∙ sym (ap (λ (b : Bool). record c { funcs = slice_set c.funcs i (if b then record (func_at c.funcs i) { linkage = Inline } else func_at c.funcs i) }) h)

pub not_inline : (c : Ctx) (i : ℕ) (x : Storage) → x.is_inline ≡ false → c ≡ linked_definition c i x
not_inline c i x h = sym (ap (λ (z : Func). record c { funcs = slice_set c.funcs i z })
    (ap (λ (b : Bool). if b then outside_linkage (record x { is_inline = true }) (func_at c.funcs i) else func_at c.funcs i) h)
    ∙ ap (λ (z : List Func). record c { funcs = z }) (set_same c.funcs i no_function))

-- A member with its body

pub body_behind : (lams : Lambdas) (s : List Lexeme) (a b d : StateRec) (n : ℕ) (kind : FuncKind) (first last : ℕ) (h : Header) (rest : Trees) (body : Tree)
    (place : ℕ) (r : Result (Unit {0}) ElabFault) → outside_declared s (state_of a).ctx n first last h ≡ Ok (record { ctx = (state_of b).ctx; place = place })
    → state_of b ≡ record (state_of a) { ctx = (state_of b).ctx } → made b ≡ made a → (state_of b).ctx.labels ≡ (state_of a).ctx.labels
    → Changes b d r (method_body lams s (state_of b) n place kind h rest body) → Changes a d r (outside_body lams s (state_of a) n kind first last h rest body)
body_behind lams s a b d n kind first last h rest body place r m e t l k =
    let next : Changes b d r (method_body lams s (record (state_of a) { ctx = (state_of b).ctx }) n place kind h rest body) =
    subst (λ (z : State). Changes b d r (method_body lams s z n place kind h rest body)) e k in
    changes_after a b d (outside_declared s (state_of a).ctx n first last h) (record { ctx = (state_of b).ctx; place = place })
    (λ (p : Placed). method_body lams s (record (state_of a) { ctx = p.ctx }) n p.place kind h rest body) r
    (grown_by a b (same_trees (made a) (made b) t) l) m next

pub member_started : (lams : Lambdas) (s : List Lexeme) (st : State) (at : At) (kind : FuncKind) (first : ℕ) (known : Storage) (kids : Trees) (x : Started)
    → started_from s known kids ≡ x → member_defined lams s known st at kind first kids ≡ outside_started lams s st at kind first (body_in kids) x
member_started lams s st at kind first known kids x e = ap (outside_started lams s st at kind first (body_in kids)) e

pub member_so : (lams : Lambdas) (s : List Lexeme) (a c : StateRec) (at : At) (kind : FuncKind) (first last n : ℕ) (known storage : Storage)
    (kids rest those : Trees) (m : Method) (body : Tree) (r : Result (Unit {0}) ElabFault)
    → started_from s known kids ≡ record { storage = storage; rest = rest } → outside_method s (state_of a) at storage kind rest ≡ Ok m
    → body_in kids ≡ Some body → m.header.class ≡ Some n → last ≡ last_token (body_in kids) → those ≡ m.rest
    → Changes a c r (outside_body lams s (state_of a) n kind first last m.header those body)
    → Changes a c r (member_defined lams s known (state_of a) at kind first kids)
member_so lams s a c at kind first last n known storage kids rest those m body r e f g h l q k =
    let end : last ≡ last_token (Some body) = l ∙ ap last_token g in
    changes_so a c r _ _
    (member_started lams s (state_of a) at kind first known kids (record { storage = storage; rest = rest }) e
    ∙ ap (λ (z : Result Method ElabFault). and_then z (λ (y : Method). outside_with lams s (state_of a) at kind first y (body_in kids))) f
    ∙ ap (outside_with lams s (state_of a) at kind first m) g
    ∙ ap (λ (z : Option ℕ). and_then (expect at BadDeclaration z)
    (λ (y : ℕ). outside_body lams s (state_of a) y kind first (last_token (Some body)) m.header m.rest body)) h
    ∙ ap (λ (z : ℕ). outside_body lams s (state_of a) n kind first z m.header m.rest body) (sym end)
    ∙ ap (λ (z : Trees). outside_body lams s (state_of a) n kind first last m.header z body) (sym q)) k

pub member_bodiless : (lams : Lambdas) (s : List Lexeme) (st : State) (at : At) (kind : FuncKind) (first : ℕ) (known storage : Storage) (kids rest : Trees)
    (m : Method) → started_from s known kids ≡ record { storage = storage; rest = rest } → outside_method s st at storage kind rest ≡ Ok m → body_in kids ≡ None
    → member_defined lams s known st at kind first kids ≡ Err (Ill at BadDeclaration)
member_bodiless lams s st at kind first known storage kids rest m e f g =
    member_started lams s st at kind first known kids (record { storage = storage; rest = rest }) e
    ∙ ap (λ (z : Result Method ElabFault). and_then z (λ (y : Method). outside_with lams s st at kind first y (body_in kids))) f
    ∙ ap (outside_with lams s st at kind first m) g

pub member_classless : (lams : Lambdas) (s : List Lexeme) (st : State) (at : At) (kind : FuncKind) (first : ℕ) (known storage : Storage) (kids rest : Trees)
    (m : Method) (body : Tree) → started_from s known kids ≡ record { storage = storage; rest = rest } → outside_method s st at storage kind rest ≡ Ok m
    → body_in kids ≡ Some body → m.header.class ≡ None → member_defined lams s known st at kind first kids ≡ Err (Ill at BadDeclaration)
member_classless lams s st at kind first known storage kids rest m body e f g h =
    member_started lams s st at kind first known kids (record { storage = storage; rest = rest }) e
    ∙ ap (λ (z : Result Method ElabFault). and_then z (λ (y : Method). outside_with lams s st at kind first y (body_in kids))) f
    ∙ ap (outside_with lams s st at kind first m) g
    ∙ ap (λ (z : Option ℕ). and_then (expect at BadDeclaration z)
    (λ (y : ℕ). outside_body lams s st y kind first (last_token (Some body)) m.header m.rest body)) h

pub member_unread : (lams : Lambdas) (s : List Lexeme) (st : State) (at : At) (kind : FuncKind) (first : ℕ) (known storage : Storage) (kids rest : Trees)
    (e : ElabFault) → started_from s known kids ≡ record { storage = storage; rest = rest } → Faults e (outside_method s st at storage kind rest)
    → Faults e (member_defined lams s known st at kind first kids)
member_unread lams s st at kind first known storage kids rest e f g =
    subst (Faults e) (sym (member_started lams s st at kind first known kids (record { storage = storage; rest = rest }) f))
    (state_fails e (outside_method s st at storage kind rest) (λ (y : Method). outside_with lams s st at kind first y (body_in kids)) g)
