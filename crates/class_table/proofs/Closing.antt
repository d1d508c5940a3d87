-- A class is read step by step, up to its closing brace.
use Rattle.std.proofs.Common.{◌≡◌, ◌∙◌, ℕ, ◌+◌, Bool, true, List, [], ◌∷◌, drop, map, Option, Result, Ok, Err, refl, sym, ap, subst}
use Rattle.elab_expr.specs.cpp_lex.Tokens.{Lexeme}
use Rattle.elab_expr.specs.cpp_ast.Trees.{Tree, Trees, more, none}
use Rattle.elab_expr.specs.cpp_ast.declared.arena.NodeId.{NodeId}
use Rattle.elab_expr.specs.elab_types.Syntax.{tree_at, trees_at}
use Rattle.elab_expr.specs.cpp_types.Typ.{Typ}
use Rattle.elab_expr.specs.cpp_types.Class.{Member, member_of}
use Rattle.elab_expr.specs.cpp_types.declared.classes.At.{At}
use Rattle.elab_expr.specs.cpp_tree.declared.faults.ElabFault.{ElabFault}
use Rattle.elab_expr.specs.cpp_tree.declared.faults.ElabFault.TheVariants.{Ill}
use Rattle.elab_expr.specs.cpp_tree.declared.faults.IllRule.TheVariants.{OutOfProfile}
use Rattle.elab_expr.specs.elab_ctx.Ctx.{Ctx, Work}
use Rattle.elab_expr.specs.elab_ctx.Says.{Faults}
use Rattle.elab_expr.specs.elab_ctx.Steps.{and_then, each_of}
use Rattle.elab_expr.specs.elab_rules.Expressions.{type_of_specifiers}
use Rattle.elab_expr.specs.elab_rules.Statements.{Body, State}
use Rattle.elab_expr.specs.elab_rules.Functions.{Storage, text_sized}
use Rattle.elab_expr.specs.elab_rules.Classes.{Home, Members, Started, Begun, begun, completed, closed_class, members_of, class_text, member_declaration}
use Rattle.elab_expr.specs.elab_rules.Classes.{member_declarator}
use Rattle.elab_expr.specs.elab_rules.Members.{base_named, has_final, members_among}
use Rattle.class_members.specs.Shown.{reading, Answers, home_of}
use Rattle.class_members.specs.declared.records.Members.{Members as MembersRec}
use Rattle.class_members.specs.declared.records.Home.{Home as HomeRec}
use Rattle.class_table.specs.Written.{ClassRead, class_read, read_members, read_closed, class_stood, at_hand, StandsRead, Reads}
use Rattle.class_table.proofs.Walking.{faults_then}

-- A declaration of members

module _ (s : List Lexeme) (home : Home) (r : Members) (at : At) (x : Started) (storage : Storage) where
  pub declaration_is : (base : Tree) (ds : Trees) → x ≡ record { storage = storage; rest = more base ds }
      → member_declaration s home r at x ≡ and_then (type_of_specifiers s r.state.ctx r.state.work base)
      (λ (t : Typ). each_of (member_declarator s home storage t) r ds)
  declaration_is base ds e = ap (member_declaration s home r at) e

  pub declaration_none : x ≡ record { storage = storage; rest = none } → member_declaration s home r at x ≡ Err (Ill at OutOfProfile)
  declaration_none e = ap (member_declaration s home r at) e

  pub declaration_fails : (base : Tree) (ds : Trees) (e : ElabFault) → x ≡ record { storage = storage; rest = more base ds }
      → Faults e (type_of_specifiers s r.state.ctx r.state.work base) → Faults e (member_declaration s home r at x)
  declaration_fails base ds e p f = subst (Faults e) (sym (declaration_is base ds p)) (faults_then e (type_of_specifiers s r.state.ctx r.state.work base) _ f)

  pub declaration_by : (base : Tree) (ds : Trees) (t : Typ) → x ≡ record { storage = storage; rest = more base ds }
      → type_of_specifiers s r.state.ctx r.state.work base ≡ Ok t → member_declaration s home r at x ≡ each_of (member_declarator s home storage t) r ds
  declaration_by base ds t p f = declaration_is base ds p ∙ ap (λ z. and_then z (λ (u : Typ). each_of (member_declarator s home storage u) r ds)) f

-- The members, and the closing brace

module _ (w : Work) (bodies : List Body) where
  pub stands_by : (home : Home) (c : Ctx) (r : Result (Unit {0}) ElabFault) (x : Result Ctx ElabFault) → Answers c r x
      → StandsRead (at_hand c w bodies) home r (and_then x (λ (z : Ctx). Ok (class_stood (at_hand z w bodies) home)))
  stands_by home c (Ok u) x e = ap (λ z. and_then z (λ (y : Ctx). Ok (class_stood (at_hand y w bodies) home))) e
  stands_by home c (Err f) x e = faults_then f x _ e

  pub members_closed : (s : List Lexeme) (old c d : Ctx) (at : At) (home : Home) (members : Trees) (read : MembersRec) →
      members_of s home (record { state = at_hand old w bodies; members = []; initialised = [] }) members ≡ Ok (reading c w bodies read)
      → d ≡ completed c home at (map member_of read.members.items) read.initialised.items →
      read_members s (at_hand old w bodies) at home members ≡ and_then (closed_class at home.number d) (λ (z : Ctx). Ok (class_stood (at_hand z w bodies) home))
  members_closed s old c d at home members read e f =
      ap (λ z. and_then z (λ (r : Members). read_closed at home r)) e
      ∙ ap (λ z. and_then (closed_class at home.number z) (λ (y : Ctx). Ok (class_stood (at_hand y w bodies) home))) (sym f)

  pub members_stand : (s : List Lexeme) (old c d : Ctx) (at : At) (home : Home) (members : Trees) (read : MembersRec) (r : Result (Unit {0}) ElabFault) →
      members_of s home (record { state = at_hand old w bodies; members = []; initialised = [] }) members ≡ Ok (reading c w bodies read)
      → d ≡ completed c home at (map member_of read.members.items) read.initialised.items → Answers d r (closed_class at home.number d) →
      StandsRead (at_hand d w bodies) home r (read_members s (at_hand old w bodies) at home members)
  members_stand s old c d at home members read r e f g =
      subst (StandsRead (at_hand d w bodies) home r) (sym (members_closed s old c d at home members read e f))
      (stands_by home d r (closed_class at home.number d) g)

  pub members_fail : (s : List Lexeme) (old new : Ctx) (at : At) (home : Home) (members : Trees) (r : Result (Unit {0}) ElabFault) (e : ElabFault) → r ≡ Err e →
      Faults e (members_of s home (record { state = at_hand old w bodies; members = []; initialised = [] }) members)
      → StandsRead (at_hand new w bodies) home r (read_members s (at_hand old w bodies) at home members)
  members_fail s old new at home members r e h f =
      subst (λ z. StandsRead (at_hand new w bodies) home z (read_members s (at_hand old w bodies) at home members)) (sym h)
      (faults_then e (members_of s home (record { state = at_hand old w bodies; members = []; initialised = [] }) members) _ f)

  -- The whole

  module _ (s : List Lexeme) (old : Ctx) (at : At) (name : List ℕ) (kids : Trees) where
    pub text_fails : (e : ElabFault) → Faults e (text_sized at (class_text s kids)) → Faults e (class_read s (at_hand old w bodies) at name kids)
    text_fails e f = faults_then e (text_sized at (class_text s kids)) _ f

    pub name_fails : (b : Bool) (e : ElabFault) → text_sized at (class_text s kids) ≡ Ok b → Faults e (begun old at name true)
        → Faults e (class_read s (at_hand old w bodies) at name kids)
    name_fails b e p f =
        subst (Faults e) (sym (ap (λ z. and_then z (λ y. and_then (begun old at name true)
        (λ (b : Begun). and_then (base_named s b.ctx kids) (λ (base : Option ℕ).
        read_members s (at_hand b.ctx w bodies) at (record { number = b.number; name = name; base = base; is_final = has_final kids })
        (members_among kids))))) p))
        (faults_then e (begun old at name true) _ f)

    name_then : (b : Bool) (c : Ctx) (n : ℕ) → text_sized at (class_text s kids) ≡ Ok b → begun old at name true ≡ Ok (record { ctx = c; number = n }) →
        class_read s (at_hand old w bodies) at name kids
        ≡ and_then (base_named s c kids) (λ (base : Option ℕ). read_members s (at_hand c w bodies) at
        (record { number = n; name = name; base = base; is_final = has_final kids }) (members_among kids))
    name_then b c n p q =
        ap (λ z. and_then z (λ y. and_then (begun old at name true) (λ (b : Begun). and_then (base_named s b.ctx kids) (λ (base : Option ℕ).
        read_members s (at_hand b.ctx w bodies) at (record { number = b.number; name = name; base = base; is_final = has_final kids })
        (members_among kids))))) p
        ∙ ap (λ z. and_then z (λ (b : Begun). and_then (base_named s b.ctx kids) (λ (base : Option ℕ).
        read_members s (at_hand b.ctx w bodies) at (record { number = b.number; name = name; base = base; is_final = has_final kids }) (members_among kids)))) q

    pub base_fails : (b : Bool) (c : Ctx) (n : ℕ) (e : ElabFault) → text_sized at (class_text s kids) ≡ Ok b
        → begun old at name true ≡ Ok (record { ctx = c; number = n }) → Faults e (base_named s c kids)
        → Faults e (class_read s (at_hand old w bodies) at name kids)
    base_fails b c n e p q f = subst (Faults e) (sym (name_then b c n p q)) (faults_then e (base_named s c kids) _ f)

    pub head_is : (b : Bool) (c : Ctx) (n : ℕ) (base : Option ℕ) (home : Home) → text_sized at (class_text s kids) ≡ Ok b
        → begun old at name true ≡ Ok (record { ctx = c; number = n }) → base_named s c kids ≡ Ok base →
        home ≡ record { number = n; name = name; base = base; is_final = has_final kids }
        → class_read s (at_hand old w bodies) at name kids ≡ read_members s (at_hand c w bodies) at home (members_among kids)
    head_is b c n base home p q f g =
        name_then b c n p q
        ∙ ap (λ z. and_then z (λ (x : Option ℕ). read_members s (at_hand c w bodies) at
        (record { number = n; name = name; base = x; is_final = has_final kids }) (members_among kids))) f
        ∙ ap (λ z. read_members s (at_hand c w bodies) at z (members_among kids)) (sym g)

-- what stands before a declaration's type, and the type itself

abbrev pub started_with : Storage → Trees → Started
started_with storage ts = record { storage = storage; rest = ts }

pub started_more : (x : Started) (storage : Storage) (trees : List Tree) (ids : List NodeId) (i : ℕ) (id : NodeId)
    → x ≡ record { storage = storage; rest = trees_at trees (drop i ids) } → drop i ids ≡ id ∷ drop (i + 1) ids →
    x ≡ record { storage = storage; rest = more (tree_at trees id) (trees_at trees (drop (i + 1) ids)) }
started_more x storage trees ids i id e f = e ∙ ap (started_with storage) (ap (trees_at trees) f)

-- a class of which no member is read

abbrev pub read_so_far : State → List Member → List ℕ → Members
read_so_far st ms is = record { state = st; members = ms; initialised = is }

pub from_nothing : (w : Work) (bodies : List Body) (s : List Lexeme) (home : Home) (members : Trees) (c : Ctx) (m : MembersRec)
    → map member_of m.members.items ≡ [] → m.initialised.items ≡ [] →
    members_of s home (record { state = at_hand c w bodies; members = []; initialised = [] }) members ≡ members_of s home (reading c w bodies m) members
from_nothing w bodies s home members c m e f = ap (λ z. members_of s home z members)
    (ap (λ (z : List Member). read_so_far (at_hand c w bodies) z []) (sym e) ∙ ap (read_so_far (at_hand c w bodies) (map member_of m.members.items)) (sym f))

pub reads_refused : (st : State) (r : Result HomeRec ElabFault) (e : ElabFault) (x : Result ClassRead ElabFault) → r ≡ Err e → Faults e x → Reads st r x
reads_refused st r e x h f = subst (λ z. Reads st z x) (sym h) f

abbrev pub head_with : ℕ → List ℕ → Option ℕ → Bool → Home
head_with n name base is_final = record { number = n; name = name; base = base; is_final = is_final }
