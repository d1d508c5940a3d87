-- The declarations of a unit, step by step.
use Rattle.std.proofs.Common.{◌≡◌, refl, subst, ℕ, zero, suc, Bool, true, false, List, [], length, Option, Some, None, Result, Ok, Err}
use Rattle.std.specs.Prelude.{slice_get}
use Rattle.std.proofs.lemmas.Option.{same_Some}
use Rattle.elab_rules.specs.cpp_types.Typ.{Typ}
use Rattle.elab_rules.specs.cpp_types.declared.classes.At.{At}
use Rattle.elab_rules.specs.cpp_lex.Tokens.{Lexeme}
use Rattle.elab_rules.specs.cpp_ast.declared.kinds.NodeKind.TheVariants as k
use Rattle.elab_rules.specs.cpp_ast.Trees as syntax
use Rattle.elab_rules.specs.cpp_tree.declared.faults.ElabFault.{ElabFault}
use Rattle.elab_rules.specs.cpp_tree.declared.faults.IllRule.TheVariants.{OutOfProfile, BadDeclaration}
use Rattle.elab_rules.specs.cpp_tree.declared.program.FuncKind.{FuncKind}
use Rattle.elab_rules.specs.cpp_tree.declared.program.FuncKind.TheVariants.{Plain, Constructor, Destructor}
use Rattle.elab_rules.specs.elab_ctx.Steps.{and_then, check, expect, each_of, at_of, spelling}
use Rattle.elab_rules.specs.Types.{Declared, is_nothing}
use Rattle.elab_rules.specs.Strings.{string_bytes}
use Rattle.elab_rules.specs.Expressions.{type_of_specifiers, declared_by}
use Rattle.elab_rules.specs.Names.{members_in}
use Rattle.elab_rules.specs.Statements.{State}
use Rattle.elab_rules.specs.Functions.{Storage, no_storage, with_specifier, text_sized}
use Rattle.elab_rules.specs.Classes.{Home, Method, Started, begun, members_of, completed, closed_class, method_of, started_from, body_in, class_text}
use Rattle.elab_rules.specs.Members.{base_named, has_final, members_among, member_index, initialiser_in, default_for, default_of, defaults_of}
use Rattle.elab_rules.specs.Members.{all_defaults, late_method, late_function, late_of, all_late, outside_method, outside_body, outside_with, member_defined}
use Rattle.elab_rules.specs.Members.{class_defined}
use Rattle.elab_rules.specs.Implicit.{implied, implied_below}
use Rattle.elab_rules.specs.Lambdas.{lambdas_of}
use Rattle.elab_rules.specs.Units.{is_qualified, defined_by, function_defined, is_c, declaration_of, declarations_of, unit_from}
use Rattle.elab_fits.specs.Standing.{On}
use Rattle.elab_fits.proofs.Steps.{told, bind}
use Rattle.elab_fits_units.specs.Steps.{NoCall, Words, Follows, Steps}

-- Answers

pub each_holds : {R : Type 0} (P : R → Type 0) (T : syntax.Trees → Type 0) (f : R → syntax.Tree → Result R ElabFault) (r : R) (ts : syntax.Trees) → P r → T ts
    → ((x : R) (t : syntax.Tree) (us : syntax.Trees) → P x → T (syntax.more t us) → On P (f x t) × T us) → On P (each_of f r ts)
each_holds P T f r syntax.none h q g = h
each_holds P T f r (syntax.more t ts) h q g = let i = g r t ts h q in bind P P (f r t) _ i.0 (λ x j. each_holds P T f x ts j i.1 g)

module _ (w : Words) (s : List Lexeme) (q : Steps w s) where
  -- Texts

  -- what stands behind the words before a type
  started_texts : (x : Storage) (ts : syntax.Trees) → w.Texts ts → w.Texts (started_from s x ts).rest
  started_texts x (syntax.more (syntax.node k.Attribute p token kids) ts) h = started_texts x ts (q.rest _ ts h)
  started_texts x (syntax.more (syntax.node k.DeclSpecifier p (Some t) kids) ts) h = started_texts (with_specifier x (spelling s t)) ts (q.rest _ ts h)
  started_texts x ts h = h

  some_text : (t u : syntax.Tree) → Some t ≡ Some u → w.Text t → w.Text u
  some_text t u e h = subst w.Text (same_Some t u e) h

  body_text : (ts : syntax.Trees) (body : syntax.Tree) → w.Texts ts → body_in ts ≡ Some body → w.Text body
  body_text syntax.none body h e = absurd cc
  body_text (syntax.more t syntax.none) body h e = some_text t body e (q.first t syntax.none h)
  body_text (syntax.more t (syntax.more u ts)) body h e = body_text (syntax.more u ts) body (q.rest t (syntax.more u ts) h) e

  -- Members that are defined outside their class

  outside_by : (st : State) (x : Storage) (at : At) (kind : FuncKind) (first : ℕ) (ts : syntax.Trees) (m : Method) (o : Option syntax.Tree) → w.Good st
      → NoCall kind → w.Texts ts → ((body : syntax.Tree) → o ≡ Some body → w.Text body) → outside_method s st at x kind ts ≡ Ok m
      → On w.Good (outside_with lambdas_of s st at kind first m o)
  outside_by st x at kind first ts m (Some body) g c h i e = named m.header.class refl
    where
      named : (d : Option ℕ) → m.header.class ≡ d → On w.Good (and_then (expect at BadDeclaration d) (λ n. outside_body lambdas_of s st n kind first m body))
      named (Some n) f = q.outside st x at kind first n ts m body g c h (i body refl) e f
      named None f = tt
  outside_by st x at kind first ts m None g c h i e = tt

  member_good : (x : Storage) (st : State) (at : At) (kind : FuncKind) (first : ℕ) (kids : syntax.Trees) → w.Good st → NoCall kind → w.Texts kids
      → On w.Good (member_defined lambdas_of s x st at kind first kids)
  member_good x st at kind first kids g c h = let z : Started = started_from s x kids in
      told w.Good (outside_method s st at z.storage kind z.rest) _
      (λ m e. outside_by st z.storage at kind first z.rest m (body_in kids) g c (started_texts x kids h) (λ body f. body_text kids body h f) e)

  -- Functions at file scope

  by_good : (st : State) (whole : syntax.Trees) (x : Storage) (at : At) (first : ℕ) (base d body : syntax.Tree) (t : Typ) (r : Declared) (b : Bool)
      → w.Good st → w.Texts whole → w.Text base → w.Text d → w.Text body → type_of_specifiers s st.ctx st.work base ≡ Ok t
      → declared_by s st.ctx st.work at t d ≡ Ok r → On w.Good (defined_by s st whole x at first r body b)
  by_good st whole x at first base d body t r true g h i j l e f = member_good x st at Plain first whole g (λ v. absurd cc) h
  by_good st whole x at first base d body t r false g h i j l e f = q.functions st x at first base d body t r g i j l e f

  three_good : (st : State) (whole : syntax.Trees) (x : Storage) (at : At) (first : ℕ) (base d body : syntax.Tree) → w.Good st → w.Texts whole
      → w.Texts (syntax.more base (syntax.more d (syntax.more body syntax.none)))
      → On w.Good (and_then (type_of_specifiers s st.ctx st.work base)
      (λ (t : Typ). and_then (declared_by s st.ctx st.work at t d) (λ (r : Declared). defined_by s st whole x at first r body (is_qualified r))))
  three_good st whole x at first base d body g h l = told w.Good (type_of_specifiers s st.ctx st.work base) _
      (λ t e. told w.Good (declared_by s st.ctx st.work at t d) _
      (λ r f. by_good st whole x at first base d body t r (is_qualified r) g h (q.first base _ l) (q.first d _ (q.rest base _ l))
      (q.first body _ (q.rest d _ (q.rest base _ l))) e f))

  function_good : (st : State) (whole : syntax.Trees) (x : Storage) (at : At) (first : ℕ) (ts : syntax.Trees) → w.Good st → w.Texts whole → w.Texts ts
      → On w.Good (function_defined s st whole x at first ts)
  function_good st whole x at first (syntax.more (syntax.node k.Attribute p token kids) ts) g h l = function_good st whole x at first ts g h (q.rest _ ts l)
  function_good st whole x at first (syntax.more (syntax.node k.DeclSpecifier p (Some t) kids) ts) g h l =
      function_good st whole (with_specifier x (spelling s t)) at first ts g h (q.rest _ ts l)
  function_good st whole x at first (syntax.more base (syntax.more d (syntax.more body syntax.none))) g h l = three_good st whole x at first base d body g h l
  function_good st whole x at first ts g h l = tt

  -- Classes

  abbrev pub Inside : ℕ → State → Type 0
  Inside n st = w.Good st × w.Home st n

  kept_inside : (n : ℕ) (st : State) (r : Result State ElabFault) → w.Home st n → On (Follows w st) r → On (Inside n) r
  kept_inside n st (Ok y) h f = (f.good, f.homes n h)
  kept_inside n st (Err e) h f = tt

  initialiser_text : (ts : syntax.Trees) (e : syntax.Tree) → w.Texts ts → initialiser_in ts ≡ Some e → w.Text e
  initialiser_text syntax.none e h f = absurd cc
  initialiser_text (syntax.more (syntax.node k.EqualInitializer p token (syntax.more u syntax.none)) ts) e h f =
      some_text u e f (q.first u syntax.none (q.kids _ p token (syntax.more u syntax.none) (q.first _ ts h)))
  initialiser_text (syntax.more (syntax.node k.PureSpecifier p token (syntax.more u syntax.none)) ts) e h f =
      some_text u e f (q.first u syntax.none (q.kids _ p token (syntax.more u syntax.none) (q.first _ ts h)))
  initialiser_text (syntax.more t ts) e h f = initialiser_text ts e (q.rest t ts h) f

  default_good : (st : State) (n : ℕ) (name : List ℕ) (i : Option ℕ) (e : Option syntax.Tree) → Inside n st
      → ((x : syntax.Tree) → e ≡ Some x → w.Text x) → member_index 0 name (members_in (slice_get st.ctx.classes n)) ≡ i
      → On (Inside n) (default_for lambdas_of s st n i e)
  default_good st n name (Some i) (Some e) g h f = kept_inside n st _ g.1 (q.defaults st n i name e g.0 g.1 (h e refl) f)
  default_good st n name i e g h f = g

  default_of_good : (n : ℕ) (st : State) (t : syntax.Tree) → Inside n st → w.Text t → On (Inside n) (default_of lambdas_of s n st t)
  default_of_good n st (syntax.node k.MemberDeclarator p (Some t) kids) g h = default_good st n (spelling s t) (member_index 0 (spelling s t) (members_in (slice_get st.ctx.classes n)))
      (initialiser_in kids) g (λ x e. initialiser_text kids x (q.kids k.MemberDeclarator p (Some t) kids h) e) refl
  default_of_good n st t g h = g

  defaults_of_good : (n : ℕ) (st : State) (t : syntax.Tree) → Inside n st → w.Text t → On (Inside n) (defaults_of lambdas_of s n st t)
  defaults_of_good n st (syntax.node k.MemberDeclaration p token kids) g h = each_holds (Inside n) w.Texts (default_of lambdas_of s n) st kids g
      (q.kids k.MemberDeclaration p token kids h) (λ x t us i l. (default_of_good n x t i (q.first t us l), q.rest t us l))
  defaults_of_good n st t g h = g

  late_by : (st : State) (n : ℕ) (name : List ℕ) (at : At) (kind : FuncKind) (ts : syntax.Trees) (m : Method) (o : Option syntax.Tree) → Inside n st → NoCall kind → w.Texts ts
      → ((body : syntax.Tree) → o ≡ Some body → w.Text body) → method_of s st n name at kind ts ≡ Ok m → On (Inside n) (late_method lambdas_of s st n kind m o)
  late_by st n name at kind ts m (Some body) g c h i e = kept_inside n st _ g.1 (q.methods st n name at kind ts m body g.0 c g.1 h (i body refl) e)
  late_by st n name at kind ts m None g c h i e = g

  late_function_good : (st : State) (n : ℕ) (name : List ℕ) (at : At) (kind : FuncKind) (kids : syntax.Trees) → Inside n st → NoCall kind → w.Texts kids
      → On (Inside n) (late_function lambdas_of s st n name at kind kids)
  late_function_good st n name at kind kids g c h = told (Inside n) (method_of s st n name at kind kids) _
      (λ m e. late_by st n name at kind kids m (body_in kids) g c h (λ body f. body_text kids body h f) e)

  late_good : (n : ℕ) (name : List ℕ) (st : State) (t : syntax.Tree) → Inside n st → w.Text t → On (Inside n) (late_of lambdas_of s n name st t)
  late_good n name st (syntax.node k.FunctionDefinition p token kids) g h = late_function_good st n name (at_of p) Plain kids g (λ v. absurd cc) (q.kids _ p token kids h)
  late_good n name st (syntax.node k.ConstructorDefinition p token kids) g h = late_function_good st n name (at_of p) Constructor kids g (λ v. absurd cc) (q.kids _ p token kids h)
  late_good n name st (syntax.node k.DestructorDefinition p token kids) g h = late_function_good st n name (at_of p) Destructor kids g (λ v. absurd cc) (q.kids _ p token kids h)
  late_good n name st t g h = g

  behind_brace : (n : ℕ) (name : List ℕ) (st : State) (members : syntax.Trees) → Inside n st → w.Texts members
      → On w.Good (and_then (all_defaults lambdas_of s n st members) (λ (y : State). all_late lambdas_of s n name y members))
  behind_brace n name st members g h = bind (Inside n) w.Good (all_defaults lambdas_of s n st members) _
      (each_holds (Inside n) w.Texts (defaults_of lambdas_of s n) st members g h (λ x t us i l. (defaults_of_good n x t i (q.first t us l), q.rest t us l)))
      (λ y i. outer n (all_late lambdas_of s n name y members)
      (each_holds (Inside n) w.Texts (late_of lambdas_of s n name) y members i h (λ x t us j l. (late_good n name x t j (q.first t us l), q.rest t us l))))
    where
      outer : (n : ℕ) (r : Result State ElabFault) → On (Inside n) r → On w.Good r
      outer n (Ok y) i = i.0
      outer n (Err e) i = tt

  among_texts : (ts : syntax.Trees) → w.Texts ts → w.Texts (members_among ts)
  among_texts syntax.none h = h
  among_texts (syntax.more (syntax.node k.MemberSpecification p token members) ts) h = q.kids _ p token members (q.first _ ts h)
  among_texts (syntax.more t ts) h = among_texts ts (q.rest t ts h)

  class_good : (st : State) (at : At) (name : List ℕ) (kids : syntax.Trees) → w.Good st → is_nothing name ≡ false → w.Title name
      → w.Texts kids → On w.Good (class_defined lambdas_of s st at name kids)
  class_good st at name kids g v i h = told w.Good (text_sized at (class_text s kids)) _
      (λ y o. told w.Good (begun st.ctx at name true) _ (λ b z. told w.Good (base_named s b.ctx kids) _ (λ base j.
      let home : Home = record { number = b.number; name = name; base = base; is_final = has_final kids } in
      told w.Good (members_of s home (record { state = record st { ctx = b.ctx }; members = []; initialised = [] }) (members_among kids)) _
      (λ r l. told w.Good (closed_class at home.number (completed r.state.ctx home at r.members r.initialised)) _
      (λ c m. behind_brace home.number name (record r.state { ctx = c }) (members_among kids)
      (q.classes st at name kids home r c g v i h (record { start = b; begins = z; based = j; number = refl; named = refl; read = l; closed = m }))
      (among_texts kids h))))))

  -- Declarations

  mutual
    declaration_good : (x : Storage) (st : State) (t : syntax.Tree) → w.Good st → w.Text t → On w.Good (declaration_of s x st t)
    declaration_good x st (syntax.node k.EmptyDeclaration p token kids) g h = g
    declaration_good x st (syntax.node k.AliasDeclaration p (Some t) kids) g h = q.aliases st (at_of p) (spelling s t) kids g (q.kids _ p (Some t) kids h)
    declaration_good x st (syntax.node k.EnumSpecifier p (Some t) kids) g h = q.enums st (at_of p) (spelling s t) kids g (q.kids _ p (Some t) kids h)
    declaration_good x st (syntax.node k.SimpleDeclaration p token kids) g h = q.variables st x (at_of p) kids g (q.kids _ p token kids h)
    declaration_good x st (syntax.node k.FunctionDefinition p (Some t) kids) g h = let l = q.kids _ p (Some t) kids h in function_good st kids x (at_of p) t kids g l l
    declaration_good x st (syntax.node k.LinkageSpecification p (Some t) kids) g h =
        told w.Good (check (at_of p) OutOfProfile (is_c (string_bytes (spelling s t)))) _
        (λ y e. declarations_good (record x { is_c = true; is_extern = true }) st kids g (q.kids _ p (Some t) kids h))
    declaration_good x st (syntax.node k.LinkageBlock p (Some t) kids) g h =
        told w.Good (check (at_of p) OutOfProfile (is_c (string_bytes (spelling s t)))) _
        (λ y e. declarations_good (record x { is_c = true }) st kids g (q.kids _ p (Some t) kids h))
    declaration_good x st (syntax.node k.ClassDeclaration p (Some t) kids) g h = q.names st (at_of p) (spelling s t) g (q.spelled _ p t kids h)
    declaration_good x st (syntax.node k.ClassSpecifier p (Some t) kids) g h = class_good st (at_of p) (spelling s t) kids g (q.spelled _ p t kids h) (q.titled p t kids h)
        (q.kids _ p (Some t) kids h)
    declaration_good x st (syntax.node k.ConstructorDefinition p (Some t) kids) g h =
        member_good x st (at_of p) Constructor t kids g (λ v. absurd cc) (q.kids _ p (Some t) kids h)
    declaration_good x st (syntax.node k.DestructorDefinition p (Some t) kids) g h =
        member_good x st (at_of p) Destructor t kids g (λ v. absurd cc) (q.kids _ p (Some t) kids h)
    declaration_good x st t g h = tt

    pub declarations_good : (x : Storage) (st : State) (ts : syntax.Trees) → w.Good st → w.Texts ts → On w.Good (declarations_of s x st ts)
    declarations_good x st syntax.none g h = g
    declarations_good x st (syntax.more t ts) g h = bind w.Good w.Good (declaration_of s x st t) _ (declaration_good x st t g (q.first t ts h))
        (λ y i. declarations_good x y ts i (q.rest t ts h))

  -- Implicit members, and the whole unit

  below_good : (st : State) (n : ℕ) → w.Good st → On w.Good (implied_below st n)
  below_good st zero g = g
  below_good st (suc n) g = bind w.Good w.Good (implied st n) _ (q.implicits st n g) (λ x i. below_good x n i)

  pub unit_good : (st : State) (decls : syntax.Trees) → w.Good st → w.Texts decls → On w.Good (unit_from s st decls)
  unit_good st decls g h = bind w.Good w.Good (declarations_of s no_storage st decls) _ (declarations_good no_storage st decls g h)
      (λ y i. below_good y (length y.ctx.funcs) i)
