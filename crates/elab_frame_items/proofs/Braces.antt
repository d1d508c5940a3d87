-- What braces initialise adds whole items alone, where the initialisers that are kept for members have such.
use Rattle.std.proofs.Common.{◌≡◌, ℕ, zero, suc, Bool, true, false, ◌&&◌, not, List, [], ◌∷◌, ◌++◌, drop, Option, Some, None, is_some, Result}
use Rattle.std.specs.Prelude.{if◌then◌else◌, ◌==◌, slice_get, ◌-◌}
use Rattle.std.specs.List.{list_all}
use Rattle.std.proofs.lemmas.Bool.{and_parts, and_from}
use Rattle.elab_rules.specs.cpp_types.Typ.{Typ, Form, array, class}
use Rattle.elab_rules.specs.cpp_types.Class.{Class, Member}
use Rattle.elab_rules.specs.cpp_types.declared.classes.At.{At}
use Rattle.elab_rules.specs.cpp_lex.Tokens.{Lexeme}
use Rattle.elab_rules.specs.cpp_ast.declared.arena.At.{At as SyntaxAt}
use Rattle.elab_rules.specs.cpp_ast.declared.kinds.NodeKind.TheVariants as k
use Rattle.elab_rules.specs.cpp_ast.Trees as syntax
use Rattle.elab_rules.specs.cpp_tree.declared.faults.ElabFault.{ElabFault}
use Rattle.elab_rules.specs.cpp_tree.declared.faults.IllRule.TheVariants.{BadInit, Narrowing}
use Rattle.elab_rules.specs.cpp_tree.Notation.{plain}
use Rattle.elab_rules.specs.Objects.{Part}
use Rattle.elab_rules.specs.cpp_tree.Trees.{Tree}
use Rattle.elab_rules.specs.cpp_tree.Typing.{is_class_typ, form_in, qualified}
use Rattle.elab_rules.specs.cpp_tree.WellFormed.{is_item}
use Rattle.elab_rules.specs.elab_ctx.Ctx.{Ctx, Work, Default}
use Rattle.elab_rules.specs.elab_ctx.Steps.{and_then, expect, check, Operand, Made, MadeAll, Typed, at_of, spelling}
use Rattle.elab_rules.specs.Values.{part_at}
use Rattle.elab_rules.specs.Initialising
use Rattle.elab_rules.specs.Names.{members_in, offset_at, is_const_typ, is_volatile_object}
use Rattle.elab_rules.specs.Strings.{string_bytes}
use Rattle.elab_rules.specs.Expressions.{expression_of, chosen_operand}
use Rattle.elab_rules.specs.Braces
use Rattle.elab_rules.specs.Braces.{ThisAt, default_at, string_token, syntax_place, tree_place}
use Rattle.elab_places.proofs.Steps.{On, bind, skip, either}
use Rattle.elab_frame_items.specs.Items.{IsWhole, FunctionsWhole, DefaultsWhole}
use Rattle.elab_frame_items.proofs.Objects.{Adds, same, after, Mades, AllMades, later, class_from, scalar_from, both}
use Rattle.elab_frame_items.specs.Supplies.{Supplies, SuppliesItems}
use Rattle.elab_frame_items.proofs.Expressions.{Types, expression, chosen_adds}

-- Initialisers of members

pub all_more : (test : Typ → Bool) (ts us : List Typ) → list_all test ts ≡ true → list_all test us ≡ true → list_all test (ts ++ us) ≡ true
all_more test [] us h i = i
all_more test (t ∷ ts) us h i = let p = and_parts (test t) (list_all test ts) h in and_from (test t) (list_all test (ts ++ us)) p.0 (all_more test ts us p.1 i)

abbrev pub Fine : List Class → Option Default → Type 0
Fine classes None = Unit {0}
Fine classes (Some d) = list_all (is_item classes) d.frame ≡ true

one_of : (classes : List Class) (b : Bool) (x y : Option Default) → Fine classes x → Fine classes y → Fine classes (if b then x else y)
one_of classes true x y h i = h
one_of classes false x y h i = i

pub default_fine : (classes : List Class) (n i : ℕ) (ds : List Default) → DefaultsWhole classes ds → Fine classes (default_at n i ds)
default_fine classes n i [] h = tt
default_fine classes n i (d ∷ ds) h = one_of classes (d.class == n && d.member == i) (Some d) (default_at n i ds) h.0 (default_fine classes n i ds h.1)

pub default_adds : (classes : List Class) (w : Work) (d : Default) → list_all (is_item classes) d.frame ≡ true
    → Adds classes w (record w { frame = w.frame ++ d.frame })
default_adds classes w d h = record { whole = λ a. all_more (is_item classes) w.frame d.frame a h }

default_member : (c : Ctx) (w : Work) (q v : Bool) (this : ThisAt) (t : Typ) (at : At) (o : Option Default) → Fine c.classes o
    → On (Mades c.classes w) (Braces.default_member c w q v this t at o)
default_member c w q v this t at (Some d) h = default_adds c.classes w d h
default_member c w q v this t at None h = skip (Mades c.classes w) (Initialising.from_nothing c t at) _ (λ e. same c.classes w)

-- Parts

with_piece : (c : Ctx) (w : Work) (offset : ℕ) (t : Typ) (at : At) (m : Made) (rest : Result MadeAll ElabFault) → Adds c.classes w m.work → On (AllMades c.classes m.work) rest
    → On (AllMades c.classes w) (Braces.with_piece c offset t at m rest)
with_piece c w offset t at m rest g h = bind (AllMades c.classes m.work) (AllMades c.classes w) rest _ h (λ r i. after c.classes w m.work r.work g i)

rest_piece : (c : Ctx) (w : Work) (e : Typ) (i n : ℕ) (at : At) → On (AllMades c.classes w) (Braces.rest_piece c w e i n at)
rest_piece c w e i zero at = same c.classes w
rest_piece c w e i (suc n) at = skip (AllMades c.classes w) (Initialising.from_nothing c (plain (array e (suc n))) at) _ (λ t. same c.classes w)

rest_members : (c : Ctx) (w : Work) (at : At) (object : Tree) (t : Typ) (n i : ℕ) (ms : List Member) → DefaultsWhole c.classes c.defaults
    → On (AllMades c.classes w) (Braces.rest_members c w at object t n i ms)
rest_members c w at object t n i [] h = same c.classes w
rest_members c w at object t n i (m ∷ ms) h = bind (Mades c.classes w) (AllMades c.classes w) (Braces.default_member c w (is_const_typ t) (is_volatile_object t)
    (Braces.this_of t object) (qualified (is_const_typ t) (is_volatile_object t) m.typ) at (default_at n i c.defaults)) _
    (default_member c w (is_const_typ t) (is_volatile_object t) (Braces.this_of t object) (qualified (is_const_typ t) (is_volatile_object t) m.typ) at
    (default_at n i c.defaults) (default_fine c.classes n i c.defaults h))
    (λ x g. with_piece c w (offset_at c.classes n i) (qualified (is_const_typ t) (is_volatile_object t) m.typ)
    (if is_some (default_at n i c.defaults) then tree_place x.tree else at) x (Braces.rest_members c x.work at object t n (suc i) ms) g
    (rest_members c x.work at object t n (suc i) ms h))

rest_in : (c : Ctx) (w : Work) (at : At) (object : Tree) (t : Typ) (f : Form) (i : ℕ) → DefaultsWhole c.classes c.defaults
    → On (AllMades c.classes w) (Braces.rest_in c w at object t f i)
rest_in c w at object t (array e n) i h = rest_piece c w (qualified (is_const_typ t) (is_volatile_object t) e) i (n - i) at
rest_in c w at object t (class n) i h = rest_members c w at object t n i (drop i (members_in (slice_get c.classes n))) h
rest_in c w at object t f i h = same c.classes w

-- Items

plain_item : (c : Ctx) (w : Work) (t : Typ) (o : Operand) → IsWhole c.classes o.tree
    → On (Mades c.classes w) (if is_class_typ t then Initialising.class_from c w t o.at o else and_then (Initialising.scalar_from c w t o) (Braces.not_narrowed w t o))
plain_item c w t o h = either (Mades c.classes w) (is_class_typ t) _ _ (class_from c w t o.at o h)
    (bind (Mades c.classes w) (Mades c.classes w) (Initialising.scalar_from c w t o) _ (scalar_from c w t o h)
    (λ m g. skip (Mades c.classes w) (check o.at Narrowing (Braces.is_not_narrowed w t o)) _ (λ y. g)))

item_in : (c : Ctx) (w : Work) (t : Typ) (f : Form) (o : Operand) → IsWhole c.classes o.tree → On (Mades c.classes w) (Braces.item_in c w t f o)
item_in c w t (array e n) o h = tt
item_in c w t (class n) o h = either (Mades c.classes w) (Braces.is_aggregate_class c n && not (Braces.is_object_of c n o)) _ _ tt (class_from c w t o.at o h)
item_in c w t f o h = plain_item c w t o h

module _ (P : Work → Type 0) (T : syntax.Tree → Type 0) (Ts : syntax.Trees → Type 0) (s : List Lexeme) (c : Ctx) (supplies : Supplies P T Ts s c)
    (leaves : SuppliesItems P T s c) (functions : FunctionsWhole c.classes c.funcs) (defaults : DefaultsWhole c.classes c.defaults) where
  abbrev Given : Work → Typed → Type 0
  Given w x = Types c.classes w x × (IsWhole c.classes x.operand.tree × P x.work)

  given_item : (w : Work) (t : Typ) (r : Result Typed ElabFault) → On (Given w) r
      → On (Mades c.classes w) (and_then r (λ (o : Typed). Braces.item_in c o.work t (form_in t) o.operand))
  given_item w t r h = bind (Given w) (Mades c.classes w) r _ h
      (λ o g. later c.classes w o.work (Braces.item_in c o.work t (form_in t) o.operand) g.0 (item_in c o.work t (form_in t) o.operand g.1.0))

  item_expression : (w : Work) (t : Typ) (o : Option ℕ) (at : At) (r : Result Typed ElabFault) → On (Given w) r
      → On (Mades c.classes w) (Braces.item_expression s c w t o at r)
  item_expression w t (Some n) at r h = either (Mades c.classes w) (Braces.is_char_array t) _ _
      (skip (Mades c.classes w) (Braces.string_object c t at (string_bytes (spelling s n))) _ (λ x. same c.classes w)) (given_item w t r h)
  item_expression w t None at r h = given_item w t r h

  read : (w : Work) (e : syntax.Tree) → P w → T e → On (Given w) (and_then (expression_of s c w e) (chosen_operand c))
  read w e z y = both (Types c.classes w) (λ (x : Typed). IsWhole c.classes x.operand.tree × P x.work) (and_then (expression_of s c w e) (chosen_operand c))
      (chosen_adds P T Ts s c supplies functions w (expression_of s c w e) (expression P T Ts s c supplies functions w e z y)) (supplies.operand w e z y)

  mutual
    pub item : (w : Work) (object : Tree) (t : Typ) (x : syntax.Tree) → P w → T x → On (Mades c.classes w) (Braces.item_of s c w object t x)
    item w object t (syntax.node k.BracedInitList p token xs) z u = skip (Mades c.classes w) (Braces.braceable c (at_of p) (form_in t)) _
        (λ y. bind (AllMades c.classes w) (Mades c.classes w) (Braces.items_of s c w object t 0 (at_of p) xs) _ (items w object t 0 (at_of p) xs z (supplies.kids k.BracedInitList p token xs u)) (λ r g. g))
    item w object t (syntax.node kind p token kids) z u = item_expression w t (string_token (syntax.node kind p token kids)) (at_of p)
        (and_then (expression_of s c w (syntax.node kind p token kids)) (chosen_operand c)) (read w (syntax.node kind p token kids) z u)

    pub items : (w : Work) (object : Tree) (t : Typ) (i : ℕ) (at : At) (xs : syntax.Trees) → P w → Ts xs → On (AllMades c.classes w) (Braces.items_of s c w object t i at xs)
    items w object t i at syntax.none z u = rest_in c w at object t (form_in t) i defaults
    items w object t i at (syntax.more x ts) z u = skip (AllMades c.classes w) (expect (syntax_place x) BadInit (Braces.part_in c t (form_in t) i)) _
        (λ (p : Part). bind (λ (m : Made). Mades c.classes w m × P m.work) (AllMades c.classes w) (Braces.item_of s c w (part_at p.offset p.typ at object) p.typ x) _
        (both (Mades c.classes w) (λ (m : Made). P m.work) (Braces.item_of s c w (part_at p.offset p.typ at object) p.typ x)
        (item w (part_at p.offset p.typ at object) p.typ x z (supplies.first x ts u))
        (leaves.item w (part_at p.offset p.typ at object) p.typ x z (supplies.first x ts u)))
        (λ m g. with_piece c w p.offset p.typ (tree_place m.tree) m (Braces.items_of s c m.work object t (suc i) at ts) g.0
        (items m.work object t (suc i) at ts g.1 (supplies.rest x ts u))))

  -- a list in braces, whose items are such texts
  pub braced : (w : Work) (object : Tree) (t : Typ) (p : SyntaxAt) (token : Option ℕ) (xs : syntax.Trees) → P w → Ts xs
      → On (Mades c.classes w) (Braces.item_of s c w object t (syntax.node k.BracedInitList p token xs))
  braced w object t p token xs z u = skip (Mades c.classes w) (Braces.braceable c (at_of p) (form_in t)) _
      (λ y. bind (AllMades c.classes w) (Mades c.classes w) (Braces.items_of s c w object t 0 (at_of p) xs) _ (items w object t 0 (at_of p) xs z u) (λ r g. g))
