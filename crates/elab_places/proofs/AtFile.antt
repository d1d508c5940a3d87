-- Declarations at file scope keep what a walk carries.
use Rattle.std.proofs.Common.{◌≡◌, refl, ℕ, Bool, true, false, not, ◌||◌, List, Option, Some, None, is_none, slice_get, Result, ℤ, pos}
use Rattle.std.specs.Prelude.{if◌then◌else◌}
use Rattle.elab_rules.specs.tx_ints.declared.kinds.IntKind.TheVariants.{Int}
use Rattle.elab_rules.specs.tx_ints.Integers.{is_in_range}
use Rattle.elab_rules.specs.tx_ints.Words.{word_of}
use Rattle.elab_rules.specs.cpp_types.Typ.{Typ, Form, enum, func}
use Rattle.elab_rules.specs.cpp_types.Class.{held}
use Rattle.elab_rules.specs.cpp_types.declared.classes.At.{At}
use Rattle.elab_rules.specs.cpp_lex.Tokens.{Lexeme}
use Rattle.elab_rules.specs.cpp_names.Names.{innermost_of}
use Rattle.elab_rules.specs.cpp_names.declared.entity.Entity.{Entity}
use Rattle.elab_rules.specs.cpp_names.declared.entity.EntityKind.{EntityKind}
use Rattle.elab_rules.specs.cpp_names.declared.entity.EntityKind.TheVariants as entities
use Rattle.elab_rules.specs.cpp_ast.declared.kinds.NodeKind.TheVariants as k
use Rattle.elab_rules.specs.cpp_ast.Trees as syntax
use Rattle.elab_rules.specs.cpp_tree.declared.program.FuncKind.TheVariants.{Plain}
use Rattle.elab_rules.specs.cpp_tree.declared.faults.ElabFault.{ElabFault}
use Rattle.elab_rules.specs.cpp_tree.declared.faults.IllRule.TheVariants.{Redeclared, BadDeclaration, OutOfProfile, Incomplete, NotConstant, Narrowing}
use Rattle.elab_rules.specs.cpp_tree.Notation.{plain}
use Rattle.elab_rules.specs.cpp_tree.Typing.{form_in}
use Rattle.elab_rules.specs.elab_ctx.Ctx.{Ctx}
use Rattle.elab_rules.specs.elab_ctx.Steps.{and_then, expect, check, each_of, at_of, spelling}
use Rattle.elab_rules.specs.Objects.{element_of}
use Rattle.elab_rules.specs.Initialising.{func_at, class_number}
use Rattle.elab_rules.specs.Operators.{is_complete}
use Rattle.elab_rules.specs.Sizes.{typ_sized}
use Rattle.elab_rules.specs.Types.{Declared, has_auto, type_named}
use Rattle.elab_rules.specs.Expressions.{expression_of, chosen_operand, type_of_specifiers, type_id_of, declared_by, scope_name}
use Rattle.elab_rules.specs.Statements.{State, Body, name_of, bound_by_initialiser, is_own_name}
use Rattle.elab_rules.specs.Functions
use Rattle.elab_rules.specs.Functions.{Storage, Header, Placed}
use Rattle.elab_rules.specs.Globals
use Rattle.elab_rules.specs.Globals.{PlacedGlobal, Enumerating}
use Rattle.elab_rules.specs.Units
use Rattle.elab_places.specs.Round.{Round}
use Rattle.elab_places.proofs.Steps.{On, bind, skip}
use Rattle.elab_places.proofs.Walks.{round_with, Held, Walks}

-- a step for each of some trees
pub each_keeps : {R : Type 0} (P : R → Type 0) (step : R → syntax.Tree → Result R ElabFault) → ((r : R) (t : syntax.Tree) → P r → On P (step r t))
    → (r : R) (ts : syntax.Trees) → P r → On P (each_of step r ts)
each_keeps P step h r syntax.none i = i
each_keeps P step h r (syntax.more t ts) i = bind P P (step r t) _ (h r t i) (λ x j. each_keeps P step h x ts j)

module _ (K : Round → Type 0) (w : Walks K) where
  -- Functions

  abbrev Sound : State → Type 0
  Sound st = Held K st

  abbrev Known : List Body → Ctx → Type 0
  Known bodies c = K (round_with bodies c)

  abbrev PlacedKnown : List Body → Placed → Type 0
  PlacedKnown bodies p = K (round_with bodies p.ctx)

  function_named : (bodies : List Body) (c : Ctx) (at : At) (name : List ℕ) (o : Option Entity) → Known bodies c
      → On (Known bodies) (Functions.function_named c at name o)
  function_named bodies c at name None own = own
  function_named bodies c at name (Some e) own = skip (Known bodies) (check at Redeclared (Functions.is_function_entity e.kind)) _ (λ y. own)

  name_declared : (bodies : List Body) (c : Ctx) (h : Header) (o : Option ℕ) → Known bodies c → On (Known bodies) (Functions.name_declared c h o)
  name_declared bodies c h (Some n) own = own
  name_declared bodies c h None own = function_named bodies c h.at h.name (innermost_of c.scopes h.name) own

  declared_in : (bodies : List Body) (c : Ctx) (h : Header) (b : Bool) (o : Option ℕ) → h.kind ≡ Plain → h.class ≡ None → Known bodies c
      → On (PlacedKnown bodies) (Functions.declared_in c h b o)
  declared_in bodies c h b (Some i) e f own = skip (PlacedKnown bodies) (Functions.agrees h (func_at c.funcs i) b) _ (λ y. own)
  declared_in bodies c h b None e f own = bind (Known bodies) (PlacedKnown bodies) (Functions.name_declared c h h.class) _
      (name_declared bodies c h h.class own) (λ d i. w.declared (round_with bodies d) h e f i)

  pub function_declared : (bodies : List Body) (c : Ctx) (h : Header) (b : Bool) → h.kind ≡ Plain → h.class ≡ None → Known bodies c
      → On (PlacedKnown bodies) (Functions.function_declared c h b)
  function_declared bodies c h b e f own = skip (PlacedKnown bodies) (Functions.main_fits h) _
      (λ z1. skip (PlacedKnown bodies) (check h.at BadDeclaration (not h.qualifiers.is_const)) _ (λ z2. skip (PlacedKnown bodies) (Functions.dynamic_fits h) _
      (λ z3. skip (PlacedKnown bodies) (check h.at OutOfProfile (not h.storage.is_c || Functions.may_be_c h)) _
      (λ z4. skip (PlacedKnown bodies) (Functions.header_sized c h) _
      (λ z5. declared_in bodies c h b (Functions.first_from (Functions.is_same_function h) 0 c.funcs) e f own)))))

  -- Globals and types

  abbrev GlobalSound : PlacedGlobal → Type 0
  GlobalSound p = Held K p.state

  global_again : (st : State) (at : At) (x : Storage) (t : Typ) (b : Bool) (kind : EntityKind) (i : ℕ) → Sound st
      → On GlobalSound (Globals.global_again st at x t b kind i)
  global_again st at x t b entities.Global i own = skip GlobalSound (expect at Redeclared (slice_get st.work.globals i)) _ (λ old. skip GlobalSound (Globals.global_agrees at x t b old) _ (λ y. own))
  global_again st at x t b kind i own = tt

  global_named : (st : State) (at : At) (name : List ℕ) (x : Storage) (t : Typ) (b : Bool) (o : Option Entity) → Sound st
      → On GlobalSound (Globals.global_named st at name x t b o)
  global_named st at name x t b (Some e) own = global_again st at x t b e.kind e.id own
  global_named st at name x t b None own = own

  global_declared_as : (s : List Lexeme) (b : Bool) (at : At) (t : Typ) (init : syntax.Trees) (p : PlacedGlobal) → GlobalSound p
      → On Sound (Globals.global_declared_as s b at t init p)
  global_declared_as s true at t init p own = skip Sound (check at Incomplete (is_complete p.state.ctx (held t))) _
      (λ x. skip Sound (check at NotConstant (Globals.is_trivial_class p.state.ctx (class_number (element_of t)))) _ (λ y.
      skip Sound (Globals.global_from s p.state t at p.place init) _
      (λ m. skip Sound (Globals.cells_of p.state.ctx m.work m.tree) _ (λ cells. own))))
  global_declared_as s false at t init p own = own

  global_declared : (s : List Lexeme) (st : State) (x : Storage) (at : At) (name : List ℕ) (t : Typ) (init : syntax.Trees) → Sound st
      → On Sound (Globals.global_declared s st x at name t init)
  global_declared s st x at name t init own = skip Sound (Globals.global_declarable st at name t) _
      (λ y. bind GlobalSound Sound (Globals.global_named st at name x t (Globals.is_definition x init) (innermost_of st.ctx.scopes name)) _
      (global_named st at name x t (Globals.is_definition x init) (innermost_of st.ctx.scopes name) own)
      (λ p h. global_declared_as s (Globals.is_definition x init) at t init p h))

  pub alias_of : (s : List Lexeme) (st : State) (at : At) (name : List ℕ) (ts : syntax.Trees) → Sound st → On Sound (Units.alias_of s st at name ts)
  alias_of s st at name (syntax.more t ts) own = skip Sound (type_id_of s st.ctx st.work t) _ (λ u. skip Sound (check at OutOfProfile (not (has_auto u))) _
      (λ x. skip Sound (typ_sized st.ctx.classes at u) _ (λ z. skip Sound (Globals.type_agrees at u (type_named name st.ctx.types)) _ (λ y. own))))
  alias_of s st at name syntax.none own = tt

  abbrev EnumSound : Enumerating → Type 0
  EnumSound x = Held K x.state

  named_enumerator : (b : Bool) (st : State) (e name : List ℕ) (w : ℕ) → Sound st → Sound (Globals.named_enumerator b st e name w)
  named_enumerator true st e name w own = own
  named_enumerator false st e name w own = own

  enumerator_made : (b : Bool) (e : List ℕ) (st : State) (at p : At) (name : List ℕ) (v : ℤ) → Sound st → On EnumSound (Globals.enumerator_made b e st at p name v)
  enumerator_made b e st at p name v own = skip EnumSound (check p Narrowing (is_in_range Int v)) _
      (λ y. skip EnumSound (check at Redeclared (is_none (innermost_of st.ctx.scopes (if b then scope_name e name else name)))) _
      (λ z. named_enumerator b st e name (word_of v) own))

  enumerator_declared : (s : List Lexeme) (b : Bool) (e : List ℕ) (x : Enumerating) (t : syntax.Tree) → EnumSound x
      → On EnumSound (Globals.enumerator_declared s b e x t)
  enumerator_declared s b e x (syntax.node kind p (Some t) syntax.none) own = enumerator_made b e x.state (at_of p) (at_of p) (spelling s t) x.next own
  enumerator_declared s b e x (syntax.node kind p (Some t) (syntax.more v ts)) own =
      skip EnumSound (and_then (expression_of s x.state.ctx x.state.work v) (chosen_operand x.state.ctx)) _
      (λ o. skip EnumSound (Globals.enumerator_value (at_of p) x.state.work o.operand) _ (λ n. enumerator_made b e x.state (at_of p) o.operand.at (spelling s t) n own))
  enumerator_declared s b e x (syntax.node kind p None kids) own = tt

  enumerators_declared : (s : List Lexeme) (b : Bool) (e : List ℕ) (x : Enumerating) (ts : syntax.Trees) → EnumSound x
      → On EnumSound (Globals.enumerators_declared s b e x ts)
  enumerators_declared s b e x syntax.none own = own
  enumerators_declared s b e x (syntax.more t ts) own = bind EnumSound EnumSound (Globals.enumerator_declared s b e x t) _ (enumerator_declared s b e x t own)
      (λ y h. enumerators_declared s b e y ts h)

  enum_with : (s : List Lexeme) (st : State) (at : At) (name : List ℕ) (b : Bool) (ts : syntax.Trees) → Sound st → On Sound (Globals.enum_with s st at name b ts)
  enum_with s st at name b ts own = skip Sound (check at Redeclared (is_none (type_named name st.ctx.types))) _
      (λ y. bind EnumSound Sound (Globals.enumerators_declared s b name within ts) _ (enumerators_declared s b name within ts own) (λ x h. h))
    where
      within : Enumerating
      within = record { state = record st { ctx = Globals.with_type st.ctx name (plain (enum name b)) }; next = pos 0 }

  pub enum_declared : (s : List Lexeme) (st : State) (at : At) (name : List ℕ) (ts : syntax.Trees) → Sound st → On Sound (Globals.enum_declared s st at name ts)
  enum_declared s st at name (syntax.more (syntax.node k.ClassKey p token kids) ts) own = enum_with s st at name true ts own
  enum_declared s st at name ts own = enum_with s st at name false ts own

  -- Declarations at file scope

  declared_of_type : (s : List Lexeme) (st : State) (x : Storage) (at : At) (d : Declared) (init : syntax.Trees) (f : Form) → Sound st
      → On Sound (Units.declared_of_type s st x at d init f)
  declared_of_type s st x at d syntax.none (func sig) own = bind (PlacedKnown st.bodies) Sound (Functions.function_declared st.ctx (Units.header_of s at x d sig) false) _
      (function_declared st.bodies st.ctx (Units.header_of s at x d sig) false refl refl own) (λ p h. h)
  declared_of_type s st x at d (syntax.more t ts) (func sig) own = tt
  declared_of_type s st x at d init f own = global_declared s st x at (name_of s d.name) (bound_by_initialiser s d.typ init) init own

  file_declarator : (s : List Lexeme) (x : Storage) (t : Typ) (st : State) (d : syntax.Tree) → Sound st → On Sound (Units.file_declarator s x t st d)
  file_declarator s x t st (syntax.node k.InitDeclarator p token (syntax.more d init)) own =
      skip Sound (declared_by s st.ctx st.work (at_of p) t d) _ (λ r. skip Sound (check (at_of p) BadDeclaration (is_own_name r)) _ (λ z. declared_of_type s st x (at_of p) r init (form_in r.typ) own))
  file_declarator s x t st d own = tt

  pub file_declaration : (s : List Lexeme) (st : State) (x : Storage) (at : At) (ts : syntax.Trees) → Sound st → On Sound (Units.file_declaration s st x at ts)
  file_declaration s st x at (syntax.more (syntax.node k.Attribute p token kids) ts) own = file_declaration s st x at ts own
  file_declaration s st x at (syntax.more (syntax.node k.DeclSpecifier p (Some t) kids) ts) own =
      file_declaration s st (Functions.with_specifier x (spelling s t)) at ts own
  file_declaration s st x at (syntax.more (syntax.node k.TypeSpecifierSeq p token kids) ts) own =
      skip Sound (type_of_specifiers s st.ctx st.work (syntax.node k.TypeSpecifierSeq p token kids)) _ (λ t. each_keeps Sound (Units.file_declarator s x t) (λ r d h. file_declarator s x t r d h) st ts own)
  file_declaration s st x at ts own = tt
