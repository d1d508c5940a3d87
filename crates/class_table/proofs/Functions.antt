-- Functions of a class from the kids of their nodes.
use Rattle.std.proofs.Common.{◌≡◌, ◌∙◌, ℕ, ◌+◌, true, false, List, [], ◌∷◌, drop, Result, Ok, Err, refl, sym, ap, subst, arith}
use Rattle.elab_expr.specs.cpp_lex.Tokens.{Lexeme}
use Rattle.elab_expr.specs.cpp_ast.declared.arena.NodeId.{NodeId}
use Rattle.elab_expr.specs.cpp_ast.Trees.{Tree, Trees, more, none}
use Rattle.elab_expr.specs.cpp_types.Typ.{Typ, void}
use Rattle.elab_expr.specs.cpp_types.declared.classes.At.{At}
use Rattle.elab_expr.specs.cpp_tree.Notation.{plain}
use Rattle.elab_expr.specs.cpp_tree.Typing.{form_in}
use Rattle.elab_expr.specs.cpp_tree.declared.program.FuncKind.{FuncKind}
use Rattle.elab_expr.specs.cpp_tree.declared.program.FuncKind.TheVariants.{Plain, Constructor, Destructor, ClosureCall}
use Rattle.elab_expr.specs.cpp_tree.declared.faults.ElabFault.{ElabFault}
use Rattle.elab_expr.specs.cpp_tree.declared.faults.ElabFault.TheVariants.{Ill}
use Rattle.elab_expr.specs.cpp_tree.declared.faults.IllRule.TheVariants.{OutOfProfile}
use Rattle.elab_expr.specs.elab_ctx.Ctx.{Ctx, Work}
use Rattle.elab_expr.specs.elab_ctx.Says.{Faults}
use Rattle.elab_expr.specs.elab_ctx.Steps.{and_then}
use Rattle.elab_expr.specs.elab_types.Shown.{Says}
use Rattle.elab_expr.specs.elab_types.Syntax.{tree_at, trees_at}
use Rattle.elab_expr.specs.elab_rules.Types.{Declared}
use Rattle.elab_expr.specs.elab_rules.Expressions.{type_of_specifiers, declared_by}
use Rattle.elab_expr.specs.elab_rules.Statements.{Body, State, name_of}
use Rattle.elab_expr.specs.elab_rules.Functions.{Storage, no_storage, Header}
use Rattle.elab_expr.specs.elab_rules.Classes.{Method, method_of, method_started, started_from, plain_method, special_method, header_in, special_header}
use Rattle.class_members.specs.Shown.{header_of}
use Rattle.class_members.specs.declared.records.Header.{Header as HeaderRec}
use Rattle.class_table.specs.Written.{plain_header, special_declared, method_shown, method_with, at_hand, is_plain_kind}
use Rattle.class_table.specs.declared.methods.Method.{Method as MethodRec}
use Rattle.class_table.proofs.Walking.{faults_then}
use Rattle.class_table.proofs.Reading.{both_steps, same_then}

pub says_refused : {A B : Type 0} (show : A → B) (r : Result A ElabFault) (e : ElabFault) (x y : Result B ElabFault) → r ≡ Err e → y ≡ x → Faults e x
    → Says show r y
says_refused show r e x y h q f = subst (λ z. Says show z y) (sym h) (subst (Faults e) (sym q) f)

module _ (s : List Lexeme) (c : Ctx) (w : Work) (bodies : List Body) (n : ℕ) (at : At) (x : Storage) where
  -- from a type and a declarator
  pub plain_is : (base d : Tree) (rest : Trees) → plain_method s (at_hand c w bodies) n at x (more base (more d rest))
      ≡ and_then (plain_header s c w n at x base d) (λ (h : Header). Ok (method_with h rest))
  plain_is base d rest =
      let last : Header → Result Method ElabFault = λ (h : Header). Ok (method_with h rest) in
      let head : Declared → Result Header ElabFault = λ (r : Declared). header_in n x Plain at (name_of s r.name) r (form_in r.typ) in
      let found : Typ → Result Header ElabFault = λ (t : Typ). and_then (declared_by s c w at t d) head in
      same_then (type_of_specifiers s c w base) (λ (t : Typ). and_then (declared_by s c w at t d) (λ (r : Declared). and_then (head r) last))
      (λ (t : Typ). and_then (found t) last) (λ t. sym (both_steps (declared_by s c w at t d) head last))
      ∙ sym (both_steps (type_of_specifiers s c w base) found last)

  pub special_is : (class_name : List ℕ) (kind : FuncKind) (d : Tree) (rest : Trees)
      → special_method s (at_hand c w bodies) n class_name at x kind (more d rest)
      ≡ and_then (special_declared s c w n class_name at x kind d) (λ (h : Header). Ok (method_with h rest))
  special_is class_name kind d rest =
      sym (both_steps (declared_by s c w at (plain void) d) (λ (r : Declared). special_header n class_name at x kind r (name_of s r.name))
      (λ (h : Header). Ok (method_with h rest)))

-- the trees of kids that are known
two_trees : (trees : List Tree) (xs ys zs : List NodeId) (a b : NodeId) → xs ≡ a ∷ ys → ys ≡ b ∷ zs
    → trees_at trees xs ≡ more (tree_at trees a) (more (tree_at trees b) (trees_at trees zs))
two_trees trees xs ys zs a b e f = ap (trees_at trees) e ∙ ap (λ z. more (tree_at trees a) (trees_at trees z)) f

module _ (s : List Lexeme) (c : Ctx) (w : Work) (bodies : List Body) (n : ℕ) (at : At) (x : Storage) (trees : List Tree) (ids : List NodeId) (i : ℕ) where
  pub plain_made : (a b : NodeId) (m : MethodRec) (h : HeaderRec) → drop i ids ≡ a ∷ drop (i + 1) ids → drop (i + 1) ids ≡ b ∷ drop (i + 1 + 1) ids →
      plain_header s c w n at x (tree_at trees a) (tree_at trees b) ≡ Ok (header_of h) → m.header ≡ h → m.count ≡ i + 2 →
      plain_method s (at_hand c w bodies) n at x (trees_at trees (drop i ids)) ≡ Ok (method_shown trees ids m)
  plain_made a b m h e f g p q =
      let count : i + 1 + 1 ≡ m.count = omega (arith, q) in
      ap (plain_method s (at_hand c w bodies) n at x) (two_trees trees (drop i ids) (drop (i + 1) ids) (drop (i + 1 + 1) ids) a b e f)
      ∙ plain_is s c w bodies n at x (tree_at trees a) (tree_at trees b) (trees_at trees (drop (i + 1 + 1) ids))
      ∙ ap (λ z. and_then z (λ (y : Header). Ok (method_with y (trees_at trees (drop (i + 1 + 1) ids))))) g
      ∙ ap (λ (z : HeaderRec). Ok (method_with (header_of z) (trees_at trees (drop (i + 1 + 1) ids)))) (sym p)
      ∙ ap (λ z. Ok (method_with (header_of m.header) (trees_at trees (drop z ids)))) count

  pub plain_fails : (a b : NodeId) (e : ElabFault) → drop i ids ≡ a ∷ drop (i + 1) ids → drop (i + 1) ids ≡ b ∷ drop (i + 1 + 1) ids →
      Faults e (plain_header s c w n at x (tree_at trees a) (tree_at trees b))
      → Faults e (plain_method s (at_hand c w bodies) n at x (trees_at trees (drop i ids)))
  plain_fails a b e p q f =
      subst (Faults e) (sym (ap (plain_method s (at_hand c w bodies) n at x) (two_trees trees (drop i ids) (drop (i + 1) ids) (drop (i + 1 + 1) ids) a b p q)
      ∙ plain_is s c w bodies n at x (tree_at trees a) (tree_at trees b) (trees_at trees (drop (i + 1 + 1) ids))))
      (faults_then e (plain_header s c w n at x (tree_at trees a) (tree_at trees b)) _ f)

  pub special_made : (class_name : List ℕ) (kind : FuncKind) (a : NodeId) (m : MethodRec) (h : HeaderRec) → drop i ids ≡ a ∷ drop (i + 1) ids →
      special_declared s c w n class_name at x kind (tree_at trees a) ≡ Ok (header_of h) → m.header ≡ h → m.count ≡ i + 1 →
      special_method s (at_hand c w bodies) n class_name at x kind (trees_at trees (drop i ids)) ≡ Ok (method_shown trees ids m)
  special_made class_name kind a m h e g p q =
      ap (λ z. special_method s (at_hand c w bodies) n class_name at x kind (trees_at trees z)) e
      ∙ special_is s c w bodies n at x class_name kind (tree_at trees a) (trees_at trees (drop (i + 1) ids))
      ∙ ap (λ z. and_then z (λ (y : Header). Ok (method_with y (trees_at trees (drop (i + 1) ids))))) g
      ∙ ap (λ (z : HeaderRec). Ok (method_with (header_of z) (trees_at trees (drop (i + 1) ids)))) (sym p)
      ∙ ap (λ z. Ok (method_with (header_of m.header) (trees_at trees (drop z ids)))) (sym q)

  pub special_fails : (class_name : List ℕ) (kind : FuncKind) (a : NodeId) (e : ElabFault) → drop i ids ≡ a ∷ drop (i + 1) ids →
      Faults e (special_declared s c w n class_name at x kind (tree_at trees a))
      → Faults e (special_method s (at_hand c w bodies) n class_name at x kind (trees_at trees (drop i ids)))
  special_fails class_name kind a e p f =
      subst (Faults e) (sym (ap (λ z. special_method s (at_hand c w bodies) n class_name at x kind (trees_at trees z)) p
      ∙ special_is s c w bodies n at x class_name kind (tree_at trees a) (trees_at trees (drop (i + 1) ids))))
      (faults_then e (special_declared s c w n class_name at x kind (tree_at trees a)) _ f)

-- By the kind of the function, behind the words before it

pub says_same : {A B : Type 0} (show : A → B) (r : Result A ElabFault) (x y : Result B ElabFault) → y ≡ x → Says show r x → Says show r y
says_same show r x y q h = subst (Says show r) (sym q) h

module _ (s : List Lexeme) (st : State) (n : ℕ) (class_name : List ℕ) (at : At) (kids : Trees) (storage : Storage) (ts : Trees)
    (e : started_from s no_storage kids ≡ record { storage = storage; rest = ts }) where
  pub method_plain : (kind : FuncKind) → is_plain_kind kind ≡ true → method_of s st n class_name at kind kids ≡ plain_method s st n at storage ts
  method_plain Plain h = ap (method_started s st n class_name at Plain) e
  method_plain Constructor h = absurd cc
  method_plain Destructor h = absurd cc
  method_plain ClosureCall h = absurd cc

  pub method_special : (kind : FuncKind) → is_plain_kind kind ≡ false
      → method_of s st n class_name at kind kids ≡ special_method s st n class_name at storage kind ts
  method_special Plain h = absurd cc
  method_special Constructor h = ap (method_started s st n class_name at Constructor) e
  method_special Destructor h = ap (method_started s st n class_name at Destructor) e
  method_special ClosureCall h = ap (method_started s st n class_name at ClosureCall) e

-- From a type and a declarator, of which the first leaves the work at hand as it was

module _ (s : List Lexeme) (c : Ctx) (v w : Work) (n : ℕ) (at : At) (x : Storage) (base d : Tree) (t : Typ) (typed : type_of_specifiers s c v base ≡ Ok t)
    (same : w ≡ v) where
  header_then : plain_header s c v n at x base d
      ≡ and_then (declared_by s c w at t d) (λ (r : Declared). header_in n x Plain at (name_of s r.name) r (form_in r.typ))
  header_then =
      let head : Declared → Result Header ElabFault = λ (r : Declared). header_in n x Plain at (name_of s r.name) r (form_in r.typ) in
      ap (λ (z : Result Typ ElabFault). and_then z (λ (u : Typ). and_then (declared_by s c v at u d) head)) typed
      ∙ ap (λ (z : Work). and_then (declared_by s c z at t d) head) (sym same)

  pub header_undeclared : (e : ElabFault) → Faults e (declared_by s c w at t d) → Faults e (plain_header s c v n at x base d)
  header_undeclared e f = subst (Faults e) (sym header_then) (faults_then e (declared_by s c w at t d) _ f)

  pub header_says : (y : Declared) (name : List ℕ) (r : Result HeaderRec ElabFault) → declared_by s c w at t d ≡ Ok y → name ≡ name_of s y.name
      → Says header_of r (header_in n x Plain at name y (form_in y.typ)) → Says header_of r (plain_header s c v n at x base d)
  header_says y name r e q h = says_same header_of r (header_in n x Plain at name y (form_in y.typ)) (plain_header s c v n at x base d)
      (header_then ∙ ap (λ (z : Result Declared ElabFault). and_then z (λ (u : Declared). header_in n x Plain at (name_of s u.name) u (form_in u.typ))) e
      ∙ ap (λ (z : List ℕ). header_in n x Plain at z y (form_in y.typ)) (sym q)) h
