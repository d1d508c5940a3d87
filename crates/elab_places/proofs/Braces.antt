-- What braces make owns what was added for it.
use Rattle.std.proofs.Common.{◌≡◌, refl, ℕ, zero, suc, ◌+◌, ◌-◌, Bool, true, false, not, ◌&&◌, List, [], ◌∷◌, length, Option, Some, None}
use Rattle.std.proofs.Common.{is_some, Result, arith, slice_get, drop, nat_lt}
use Rattle.std.specs.Prelude.{if◌then◌else◌, ◌==◌}
use Rattle.elab_rules.specs.cpp_types.Typ.{Typ, typ, Form, array, class}
use Rattle.elab_rules.specs.cpp_types.Class.{Member}
use Rattle.elab_rules.specs.cpp_types.declared.classes.At.{At}
use Rattle.elab_rules.specs.cpp_types.declared.ranks.Cat.TheVariants.{Prvalue}
use Rattle.elab_rules.specs.cpp_lex.Tokens.{Lexeme}
use Rattle.elab_rules.specs.cpp_ast.declared.kinds.NodeKind.TheVariants as k
use Rattle.elab_rules.specs.cpp_ast.Trees as syntax
use Rattle.elab_rules.specs.cpp_tree.declared.kinds.TKind.TheVariants.{Literal}
use Rattle.elab_rules.specs.cpp_tree.declared.faults.ElabFault.{ElabFault}
use Rattle.elab_rules.specs.cpp_tree.declared.faults.IllRule.TheVariants.{BadInit, Narrowing}
use Rattle.elab_rules.specs.cpp_tree.Trees.{Tree, node, Trees, none, more}
use Rattle.elab_rules.specs.cpp_tree.Notation.{plain}
use Rattle.elab_rules.specs.cpp_tree.Typing.{form_in, qualified, unqualified, is_class_typ, kind_in}
use Rattle.elab_rules.specs.elab_ctx.Ctx.{Ctx, Work, Default}
use Rattle.elab_rules.specs.elab_ctx.Steps.{and_then, expect, check, at_of, spelling, Operand, Made, MadeAll, Typed}
use Rattle.elab_rules.specs.Objects.{Part}
use Rattle.elab_rules.specs.Values.{part_at}
use Rattle.elab_rules.specs.Initialising
use Rattle.elab_rules.specs.Names.{members_in, offset_at, is_const_typ, is_volatile_object}
use Rattle.elab_rules.specs.Strings.{string_bytes}
use Rattle.elab_rules.specs.Expressions.{expression_of, chosen_operand}
use Rattle.elab_rules.specs.Braces
use Rattle.elab_rules.specs.Braces.{ThisAt}
use Rattle.elab_places.specs.Bodies.{DefaultOwns, DefaultsOwn}
use Rattle.elab_places.proofs.Counting.{Sought, held, all_held, used, Gives, GiveAll, same}
use Rattle.elab_places.proofs.Steps.{On, bind, skip, either}
use Rattle.elab_places.proofs.Parts as parts
use Rattle.elab_places.proofs.Initials as initials
use Rattle.elab_places.proofs.Names as names
use Rattle.elab_places.proofs.Expressions as expressions
use Rattle.elab_places.proofs.Relocated as relocated

-- a default member initialiser that is found owns its places
abbrev pub FoundOwns : Option Default → Type 0
FoundOwns (Some d) = DefaultOwns d
FoundOwns None = Unit {0}

found_if : (b : Bool) (d : Default) (o : Option Default) → DefaultOwns d → FoundOwns o → FoundOwns (if b then Some d else o)
found_if true d o h i = h
found_if false d o h i = i

pub default_found : (n i : ℕ) (ds : List Default) → DefaultsOwn ds → FoundOwns (Braces.default_at n i ds)
default_found n i [] h = tt
default_found n i (d ∷ ds) h = found_if (d.class == n && d.member == i) d (Braces.default_at n i ds) h.0 (default_found n i ds h.1)

module _ (g : Sought) where
  -- Strings

  byte_pieces : (t : Typ) (at : At) (i : ℕ) (bs : List ℕ) → all_held g (Braces.byte_pieces t at i bs) ≡ 0
  byte_pieces t at i [] = refl
  byte_pieces t at i (b ∷ bs) = omega (
    arith,
    byte_pieces t at (suc i) bs,
    parts.stored g at t (node (Literal (Braces.byte_word (kind_in (form_in t)) b)) (unqualified t) Prvalue at none),
  )

  zero_rest : (c : Ctx) (t : Typ) (at : At) (i n : ℕ) → all_held g (Braces.zero_rest c t at i n) ≡ 0
  zero_rest c t at i zero = refl
  zero_rest c t at i (suc n) = omega (arith, parts.zeros g c.classes at (plain (array t (suc n))))

  followed : (ts us : Trees) → all_held g (Braces.followed ts us) ≡ all_held g ts + all_held g us
  followed none us = omega arith
  followed (more t ts) us = omega (arith, followed ts us)

  pub string_object : (c : Ctx) (t : Typ) (at : At) (bytes : List ℕ) → On (names.Bare g) (Braces.string_object c t at bytes)
  string_object c (typ (array e n) d v) at bytes = skip (names.Bare g) (check at BadInit (nat_lt (length bytes) n)) _
      (λ y. omega (
        arith,
        followed (Braces.byte_pieces e at 0 bytes) (Braces.zero_rest c e at (length bytes) (n - length bytes)),
        byte_pieces e at 0 bytes,
        zero_rest c e at (length bytes) (n - length bytes),
      ))
  string_object c t at bytes = tt

  -- Pieces

  with_piece : (c : Ctx) (offset : ℕ) (t : Typ) (at : At) (w : Work) (m : Made) (r : Result MadeAll ElabFault) → Gives g 0 w m → On (GiveAll g 0 m.work) r
      → On (GiveAll g 0 w) (Braces.with_piece c offset t at m r)
  with_piece c offset t at w m r h i = bind (GiveAll g 0 m.work) (GiveAll g 0 w) r _ i (λ x j. omega (arith, parts.destroys g c at t))

  rest_piece : (c : Ctx) (w : Work) (e : Typ) (i n : ℕ) (at : At) → On (GiveAll g 0 w) (Braces.rest_piece c w e i n at)
  rest_piece c w e i zero at = same (0 + used g w)
  rest_piece c w e i (suc n) at = bind (names.Bare g) (GiveAll g 0 w) (Initialising.from_nothing c (plain (array e (suc n))) at) _
      (parts.from_nothing g c (plain (array e (suc n))) at) (λ t h. omega (arith, parts.destroys g c at (plain (array e (suc n)))))

  -- Items that are expressions

  not_narrowed : (b : ℕ) (v w : Work) (t : Typ) (o : Operand) (m : Made) → Gives g b w m → On (Gives g b w) (Braces.not_narrowed v t o m)
  not_narrowed b v w t o m h = skip (Gives g b w) (check o.at Narrowing (Braces.is_not_narrowed v t o)) _ (λ y. h)

  scalar_item : (c : Ctx) (w : Work) (t : Typ) (o : Operand)
      → On (Gives g (held g o.tree) w) (if is_class_typ t then Initialising.class_from c w t o.at o else
      and_then (Initialising.scalar_from c w t o) (Braces.not_narrowed w t o))
  scalar_item c w t o = either (Gives g (held g o.tree) w) (is_class_typ t) _ _ (initials.class_from g c w t o.at o)
      (bind (Gives g (held g o.tree) w) (Gives g (held g o.tree) w) (Initialising.scalar_from c w t o) (Braces.not_narrowed w t o)
      (initials.scalar_from g c w t o) (λ m h. not_narrowed (held g o.tree) w w t o m h))

  item_in : (c : Ctx) (w : Work) (t : Typ) (f : Form) (o : Operand) → On (Gives g (held g o.tree) w) (Braces.item_in c w t f o)
  item_in c w t (array e n) o = tt
  item_in c w t (class n) o = either (Gives g (held g o.tree) w) (Braces.is_aggregate_class c n && not (Braces.is_object_of c n o)) _ _ tt
      (initials.class_from g c w t o.at o)
  item_in c w t f o = scalar_item c w t o

  item_operand : (c : Ctx) (w : Work) (t : Typ) (r : Result Typed ElabFault) → On (expressions.GivesTyped g 0 w) r
      → On (Gives g 0 w) (and_then r (λ (o : Typed). Braces.item_in c o.work t (form_in t) o.operand))
  item_operand c w t r h = bind (expressions.GivesTyped g 0 w) (Gives g 0 w) r _ h
      (λ o i. initials.later g (held g o.operand.tree) 0 w o.work (Braces.item_in c o.work t (form_in t) o.operand) (omega arith)
      (item_in c o.work t (form_in t) o.operand))

  item_expression : (s : List Lexeme) (c : Ctx) (w : Work) (t : Typ) (o : Option ℕ) (at : At) (r : Result Typed ElabFault)
      → On (expressions.GivesTyped g 0 w) r → On (Gives g 0 w) (Braces.item_expression s c w t o at r)
  item_expression s c w t (Some n) at r h = either (Gives g 0 w) (Braces.is_char_array t) _ _
      (bind (names.Bare g) (Gives g 0 w) (Braces.string_object c t at (string_bytes (spelling s n))) _ (string_object c t at (string_bytes (spelling s n)))
      (λ x i. omega arith))
      (item_operand c w t r h)
  item_expression s c w t None at r h = item_operand c w t r h

  -- Members behind the last item

  default_member : (c : Ctx) (w : Work) (q v : Bool) (this : ThisAt) (t : Typ) (at : At) (o : Option Default) → FoundOwns o
      → ((p : At) → held g (this p) ≡ 0) → On (Gives g 0 w) (Braces.default_member c w q v this t at o)
  default_member c w q v this t at (Some d) h i =
      omega (arith, relocated.default_made g w this d h i, relocated.requalified g q v (Braces.default_made w this d).tree)
  default_member c w q v this t at None h i =
      bind (names.Bare g) (Gives g 0 w) (Initialising.from_nothing c t at) _ (parts.from_nothing g c t at) (λ e j. omega arith)

  this_bare : (t : Typ) (object : Tree) (p : At) → held g object ≡ 0 → held g (Braces.this_of t object p) ≡ 0
  this_bare t object p h = omega arith

  rest_members : (c : Ctx) (w : Work) (at : At) (object : Tree) (t : Typ) (n i : ℕ) (ms : List Member) → DefaultsOwn c.defaults → held g object ≡ 0
      → On (GiveAll g 0 w) (Braces.rest_members c w at object t n i ms)
  rest_members c w at object t n i [] h b = same (0 + used g w)
  rest_members c w at object t n i (m ∷ ms) h b = bind (Gives g 0 w) (GiveAll g 0 w)
      (Braces.default_member c w (is_const_typ t) (is_volatile_object t) (Braces.this_of t object)
      (qualified (is_const_typ t) (is_volatile_object t) m.typ) at (Braces.default_at n i c.defaults)) _
      (default_member c w (is_const_typ t) (is_volatile_object t) (Braces.this_of t object)
      (qualified (is_const_typ t) (is_volatile_object t) m.typ) at (Braces.default_at n i c.defaults) (default_found n i c.defaults h)
      (λ p. this_bare t object p b))
      (λ x j. with_piece c (offset_at c.classes n i) (qualified (is_const_typ t) (is_volatile_object t) m.typ)
      (if is_some (Braces.default_at n i c.defaults) then Braces.tree_place x.tree else at) w x
      (Braces.rest_members c x.work at object t n (suc i) ms) j (rest_members c x.work at object t n (suc i) ms h b))

  rest_in : (c : Ctx) (w : Work) (at : At) (object : Tree) (t : Typ) (f : Form) (i : ℕ) → DefaultsOwn c.defaults → held g object ≡ 0
      → On (GiveAll g 0 w) (Braces.rest_in c w at object t f i)
  rest_in c w at object t (array e n) i h b = rest_piece c w (qualified (is_const_typ t) (is_volatile_object t) e) i (n - i) at
  rest_in c w at object t (class n) i h b = rest_members c w at object t n i (drop i (members_in (slice_get c.classes n))) h b
  rest_in c w at object t f i h b = same (0 + used g w)

  -- Items

  inner_bare : (offset : ℕ) (t : Typ) (at : At) (object : Tree) → held g object ≡ 0 → held g (part_at offset t at object) ≡ 0
  inner_bare offset t at object h = omega arith

  module _ (s : List Lexeme) (c : Ctx) (own : DefaultsOwn c.defaults) where
    mutual
      pub item : (w : Work) (object : Tree) (t : Typ) (x : syntax.Tree) → held g object ≡ 0 → On (Gives g 0 w) (Braces.item_of s c w object t x)
      item w object t (syntax.node k.BracedInitList p token items) b = skip (Gives g 0 w) (Braces.braceable c (at_of p) (form_in t)) _
          (λ y. bind (GiveAll g 0 w) (Gives g 0 w) (Braces.items_of s c w object t 0 (at_of p) items) _ (items_own w object t 0 (at_of p) items b)
          (λ r i. omega arith))
      item w object t (syntax.node kind p token kids) b = item_expression s c w t (Braces.string_token (syntax.node kind p token kids)) (at_of p)
          (and_then (expression_of s c w (syntax.node kind p token kids)) (chosen_operand c))
          (expressions.chosen g 0 c w (expression_of s c w (syntax.node kind p token kids))
          (expressions.expression g s c c.closures w (syntax.node kind p token kids)))

      items_own : (w : Work) (object : Tree) (t : Typ) (i : ℕ) (at : At) (xs : syntax.Trees) → held g object ≡ 0
          → On (GiveAll g 0 w) (Braces.items_of s c w object t i at xs)
      items_own w object t i at syntax.none b = rest_in c w at object t (form_in t) i own b
      items_own w object t i at (syntax.more x ts) b =
          skip (GiveAll g 0 w) (expect (Braces.syntax_place x) BadInit (Braces.part_in c t (form_in t) i)) _
          (λ (p : Part). bind (Gives g 0 w) (GiveAll g 0 w) (Braces.item_of s c w (part_at p.offset p.typ at object) p.typ x) _
          (item w (part_at p.offset p.typ at object) p.typ x (inner_bare p.offset p.typ at object b))
          (λ m h. with_piece c p.offset p.typ (Braces.tree_place m.tree) w m (Braces.items_of s c m.work object t (suc i) at ts) h
          (items_own m.work object t (suc i) at ts b)))
