-- Braces: aggregates, arrays and strings (C++14 8.5.1, 8.5.2, 8.5.4).
use Rattle.std.specs.Prelude.{ℕ, zero, suc, ◌+◌, ◌-◌, ◌*◌, ◌==◌, nat_lt, Bool, true, false, not, ◌&&◌, ◌||◌, List, [], ◌∷◌, ◌++◌, length, Option, Some}
use Rattle.std.specs.Prelude.{None, is_some, is_none, Result, Ok, Err, if◌then◌else◌, slice_get, drop, option_map}
use Rattle.std.specs.Ordering.{int_eq}
use Rattle.elab_ctx.specs.tx_ints.declared.kinds.IntKind.{IntKind}
use Rattle.elab_ctx.specs.tx_ints.declared.kinds.IntKind.TheVariants.{Char, SChar, UChar}
use Rattle.elab_ctx.specs.tx_ints.Integers.{represents, convert_of}
use Rattle.elab_ctx.specs.tx_ints.Words.{value_of_word}
use Rattle.elab_ctx.specs.cpp_types.Typ.{Typ, typ, Form, int, ptr, array, class}
use Rattle.elab_ctx.specs.cpp_types.Class.{Class, Member, completion_of}
use Rattle.elab_ctx.specs.cpp_types.declared.classes.At.{At}
use Rattle.elab_ctx.specs.cpp_types.declared.ranks.Cat.TheVariants.{Prvalue}
use Rattle.elab_ctx.specs.cpp_lex.Tokens.{Lexeme}
use Rattle.elab_ctx.specs.cpp_ast.declared.kinds.NodeKind.TheVariants as k
use Rattle.elab_ctx.specs.cpp_ast.Trees as syntax
use Rattle.elab_ctx.specs.cpp_tree.declared.kinds.TKind.TheVariants.{Literal, Local, Load, Materialize, Pieces, Piece, Elements, Store, FullExpression, Construct, CopyConstruct, CopyScalar, CopyFrom}
use Rattle.elab_ctx.specs.cpp_tree.declared.faults.ElabFault.{ElabFault}
use Rattle.elab_ctx.specs.cpp_tree.declared.faults.ElabFault.TheVariants.{Ill}
use Rattle.elab_ctx.specs.cpp_tree.declared.faults.IllRule.TheVariants.{BadInit, Narrowing, OutOfProfile, Incomplete}
use Rattle.elab_ctx.specs.cpp_tree.Trees.{Tree, node, Trees, none, more, one, typ_in}
use Rattle.elab_ctx.specs.cpp_tree.Notation.{plain}
use Rattle.elab_ctx.specs.cpp_tree.Typing.{form_in, qualified, unqualified, is_class_typ, kind_in}
use Rattle.elab_ctx.specs.Ctx.{Ctx, Work, Func, Default}
use Rattle.elab_ctx.specs.Steps.{and_then, expect, check, Operand, Made, MadeAll, Typed, at_of, spelling}
use Rattle.elab_rules.specs.Values.{stored, part_at, retyped}
use Rattle.elab_rules.specs.Objects.{Part, size_of, destroys, zeros}
use Rattle.elab_rules.specs.Initialising.{class_from, with_tree, from_nothing, scalar_from, is_constructor, places_from, same_number, class_number}
use Rattle.elab_rules.specs.Initialising.{is_same_or_base}
use Rattle.elab_rules.specs.Constants.{constant, word_in}
use Rattle.elab_rules.specs.Operators.{arithmetic, value}
use Rattle.elab_rules.specs.Names.{members_in, offset_at, is_const_typ, is_volatile_object}
use Rattle.elab_rules.specs.Strings.{string_bytes}
use Rattle.elab_rules.specs.Expressions.{expression_of, chosen_operand}

-- Narrowing (8.5.4 p7): a kind that does not hold all values of another, unless the value is a constant that fits

abbrev pub fits : IntKind → IntKind → Option ℕ → Bool
fits j k (Some w) = int_eq (convert_of k (value_of_word j w)) (value_of_word j w)
fits j k None = false

abbrev pub keeps_values : Option IntKind → Option IntKind → Option ℕ → Bool
keeps_values (Some j) (Some k) w = represents k j || fits j k w
keeps_values _ _ w = true

abbrev pub is_not_narrowed : Work → Typ → Operand → Bool
is_not_narrowed w t o = keeps_values (arithmetic (form_in (typ_in (value o)))) (arithmetic (form_in t)) (constant w.globals (value o))

abbrev pub not_narrowed : Work → Typ → Operand → Made → Result Made ElabFault
not_narrowed w t o m = and_then (check o.at Narrowing (is_not_narrowed w t o)) (λ y. Ok m)

-- Strings (8.5.2): a Store for each byte, and zeros behind them

abbrev pub is_char : Form → Bool
is_char (int Char) = true
is_char (int SChar) = true
is_char (int UChar) = true
is_char f = false

abbrev pub is_char_array : Typ → Bool
is_char_array (typ (array t n) d w) = is_char (form_in t)
is_char_array t = false

abbrev pub string_token : syntax.Tree → Option ℕ
string_token (syntax.node k.StringLiteral p token kids) = token
string_token (syntax.node k.ParenthesizedExpression p token (syntax.more e syntax.none)) = string_token e
string_token t = None

-- a byte as a value of the kind
abbrev pub byte_word : Option IntKind → ℕ → ℕ
byte_word (Some kind) b = word_in kind b
byte_word None b = b

abbrev pub byte_pieces : Typ → At → ℕ → List ℕ → Trees
byte_pieces t at i [] = none
byte_pieces t at i (b ∷ bs) = more (node (Piece i) t Prvalue at
    (one (stored at t (node (Literal (byte_word (kind_in (form_in t)) b)) (unqualified t) Prvalue at none)))) (byte_pieces t at (suc i) bs)

abbrev pub zero_rest : Ctx → Typ → At → ℕ → ℕ → Trees
zero_rest c t at i zero = none
zero_rest c t at i (suc n) = one (node (Piece i) (plain (array t (suc n))) Prvalue at (one (zeros c.classes at (plain (array t (suc n))))))

abbrev pub followed : Trees → Trees → Trees
followed none us = us
followed (more t ts) us = more t (followed ts us)

abbrev pub string_object : Ctx → Typ → At → List ℕ → Result Tree ElabFault
string_object c (typ (array e n) d v) at bytes = and_then (check at BadInit (nat_lt (length bytes) n))
    (λ y. Ok (node Pieces (typ (array e n) d v) Prvalue at (followed (byte_pieces e at 0 bytes) (zero_rest c e at (length bytes) (n - length bytes)))))
string_object c t at bytes = Err (Ill at BadInit)

-- Default member initialisers, whose temporaries get places of the frame at hand, and whose `this` is the object that is built

abbrev pub moved_place : ℕ → ℕ → ℕ
moved_place by place = place + by - 1

-- the pointer `this` at a place
abbrev pub ThisAt : Type 0
ThisAt = At → Tree

abbrev mutual
  pub relocated : ℕ → ThisAt → Tree → Tree
  relocated by this (node (Load kind false) t Prvalue at (more (node (Local zero) u cat p kids) none)) = this at
  relocated by this (node (Materialize place argument) t cat at kids) = node (Materialize (moved_place by place) argument) t cat at (all_relocated by this kids)
  relocated by this (node kind t cat at kids) = node kind t cat at (all_relocated by this kids)

  pub all_relocated : ℕ → ThisAt → Trees → Trees
  all_relocated by this none = none
  all_relocated by this (more t ts) = more (relocated by this t) (all_relocated by this ts)

abbrev pub default_at : ℕ → ℕ → List Default → Option Default
default_at n i [] = None
default_at n i (d ∷ ds) = if d.class == n && d.member == i then Some d else default_at n i ds

-- the initialiser as a whole, and as a part of one
abbrev pub default_whole : Work → ThisAt → Default → Made
default_whole w this d = record { tree = relocated (length w.frame) this d.init; work = record w { frame = w.frame ++ d.frame } }

abbrev pub as_part : Tree → Tree
as_part (node FullExpression t cat at (more e none)) = e
as_part e = e

abbrev pub default_made : Work → ThisAt → Default → Made
default_made w this d = record { tree = as_part (default_whole w this d).tree; work = (default_whole w this d).work }

-- an initialiser that was made for a member, in an object with these qualifiers
abbrev mutual
  pub requalified : Bool → Bool → Tree → Tree
  requalified q v (node (Store kind marked) t cat at kids) = node (Store kind (marked || v)) (qualified q v t) cat at kids
  requalified q v (node (CopyScalar kind marked) t cat at kids) = node (CopyScalar kind (marked || v)) (qualified q v t) cat at kids
  requalified q v (node (Construct k) t cat at kids) = node (Construct k) (qualified q v t) cat at kids
  requalified q v (node (CopyConstruct k) t cat at kids) = node (CopyConstruct k) (qualified q v t) cat at kids
  requalified q v (node CopyFrom t cat at (more source kids)) = node CopyFrom (qualified q v t) cat at (more source (all_requalified q v kids))
  requalified q v (node Pieces t cat at kids) = node Pieces (qualified q v t) cat at (all_requalified q v kids)
  requalified q v (node (Piece offset) t cat at (more e destroys)) = node (Piece offset) (qualified q v t) cat at (more (requalified q v e) destroys)
  requalified q v (node (Elements n stride) t cat at (more e destroys)) =
      node (Elements n stride) (qualified q v t) cat at (more (requalified q v e) destroys)
  requalified q v e = e

  pub all_requalified : Bool → Bool → Trees → Trees
  all_requalified q v none = none
  all_requalified q v (more t ts) = more (requalified q v t) (all_requalified q v ts)

-- Aggregates (8.5.1): a class without base, virtual functions and written constructors

abbrev pub is_virtual_member : ℕ → Func → Bool
is_virtual_member n f = same_number n f.class && f.declared.is_virtual

abbrev pub is_written_constructor : ℕ → Func → Bool
is_written_constructor n f = is_constructor n f && not f.implicit

abbrev pub is_empty : {A : Type 0} → List A → Bool
is_empty [] = true
is_empty (x ∷ xs) = false

abbrev pub has_no_base : Option Class → Bool
has_no_base (Some k) = is_none k.base
has_no_base None = false

abbrev pub is_aggregate_class : Ctx → ℕ → Bool
is_aggregate_class c n = has_no_base (slice_get c.classes n) && is_empty (places_from (is_virtual_member n) 0 c.funcs)
    && is_empty (places_from (is_written_constructor n) 0 c.funcs)

-- the object that the braces initialise: where `this` points in default member initialisers, as to an object without qualifiers (9.3.2 p1)
abbrev pub this_of : Typ → Tree → ThisAt
this_of t object at = retyped at (plain (ptr (unqualified t))) Prvalue object

-- a piece of an object with its destructions
abbrev pub piece : Ctx → ℕ → Typ → At → Tree → Tree
piece c offset t at init = node (Piece offset) t Prvalue at (more init (destroys c at t))

abbrev pub with_piece : Ctx → ℕ → Typ → At → Made → Result MadeAll ElabFault → Result MadeAll ElabFault
with_piece c offset t at m rest = and_then rest (λ (r : MadeAll). Ok (record { trees = more (piece c offset t at m.tree) r.trees; work = r.work }))

abbrev pub rest_piece : Ctx → Work → Typ → ℕ → ℕ → At → Result MadeAll ElabFault
rest_piece c w e i zero at = Ok (record { trees = none; work = w })
rest_piece c w e i (suc n) at = and_then (from_nothing c (plain (array e (suc n))) at)
    (λ (t : Tree). Ok (record { trees = one (piece c (i * size_of c.classes e) (plain (array e (suc n))) at t); work = w }))

abbrev pub is_object_of : Ctx → ℕ → Operand → Bool
is_object_of c n o = is_same_or_base c.classes (class_number (typ_in o.tree)) (Some n)

-- an item that is an expression; one for an array or an aggregate would leave its braces out (profile)
abbrev pub item_in : Ctx → Work → Typ → Form → Operand → Result Made ElabFault
item_in c w t (array e n) o = Err (Ill o.at OutOfProfile)
item_in c w t (class n) o = if is_aggregate_class c n && not (is_object_of c n o) then Err (Ill o.at OutOfProfile) else class_from c w t o.at o
item_in c w t f o = if is_class_typ t then class_from c w t o.at o else and_then (scalar_from c w t o) (not_narrowed w t o)

abbrev pub default_member : Ctx → Work → Bool → Bool → ThisAt → Typ → At → Option Default → Result Made ElabFault
default_member c w q v this t at (Some d) = Ok (with_tree (requalified q v) (default_made w this d))
default_member c w q v this t at None = and_then (from_nothing c t at) (λ (e : Tree). Ok (record { tree = e; work = w }))

abbrev pub tree_place : Tree → At
tree_place (node kind t cat at kids) = at

-- members behind the last item: by their default member initialisers, or from nothing
abbrev pub rest_members : Ctx → Work → At → Tree → Typ → ℕ → ℕ → List Member → Result MadeAll ElabFault
rest_members c w at object t n i [] = Ok (record { trees = none; work = w })
rest_members c w at object t n i (m ∷ ms) = and_then (default_member c w (is_const_typ t) (is_volatile_object t) (this_of t object)
    (qualified (is_const_typ t) (is_volatile_object t) m.typ) at (default_at n i c.defaults)) (λ (x : Made).
    with_piece c (offset_at c.classes n i) (qualified (is_const_typ t) (is_volatile_object t) m.typ)
    (if is_some (default_at n i c.defaults) then tree_place x.tree else at) x (rest_members c x.work at object t n (suc i) ms))

abbrev pub item_expression : List Lexeme → Ctx → Work → Typ → Option ℕ → At → Result Typed ElabFault → Result Made ElabFault
item_expression s c w t (Some n) at r = if is_char_array t then and_then (string_object c t at (string_bytes (spelling s n)))
    (λ (x : Tree). Ok (record { tree = x; work = w })) else and_then r (λ (o : Typed). item_in c o.work t (form_in t) o.operand)
item_expression s c w t None at r = and_then r (λ (o : Typed). item_in c o.work t (form_in t) o.operand)

-- the part of an object that the item of an index initialises
abbrev pub part_in : Ctx → Typ → Form → ℕ → Option Part
part_in c t (array e n) i = if nat_lt i n then Some (record {
  offset = i * size_of c.classes e;
  typ = qualified (is_const_typ t)
      (is_volatile_object t) e;
}) else None
part_in c t (class n) i = option_map (λ (m : Member).
    record { offset = offset_at c.classes n i; typ = qualified (is_const_typ t) (is_volatile_object t) m.typ })
    (slice_get (members_in (slice_get c.classes n)) i)
part_in c t f i = None

-- the parts behind the last item
abbrev pub rest_in : Ctx → Work → At → Tree → Typ → Form → ℕ → Result MadeAll ElabFault
rest_in c w at object t (array e n) i = rest_piece c w (qualified (is_const_typ t) (is_volatile_object t) e) i (n - i) at
rest_in c w at object t (class n) i = rest_members c w at object t n i (drop i (members_in (slice_get c.classes n)))
rest_in c w at object t f i = Ok (record { trees = none; work = w })

-- types that braces initialise (profile: arrays and aggregates)
abbrev pub braceable : Ctx → At → Form → Result Bool ElabFault
braceable c at (array e n) = Ok true
braceable c at (class n) = and_then (check at Incomplete (is_some (completion_of c.classes n))) (λ x. check at OutOfProfile (is_aggregate_class c n))
braceable c at f = Err (Ill at OutOfProfile)

abbrev pub pieces_made : Typ → At → MadeAll → Made
pieces_made t at r = record { tree = node Pieces t Prvalue at r.trees; work = r.work }

abbrev pub syntax_place : syntax.Tree → At
syntax_place (syntax.node kind p token kids) = at_of p

abbrev mutual
  -- what an item, in braces or not, makes of an object of a type, which stands where the expression says
  pub item_of : List Lexeme → Ctx → Work → Tree → Typ → syntax.Tree → Result Made ElabFault
  item_of s c w object t (syntax.node k.BracedInitList p token items) =
      and_then (braceable c (at_of p) (form_in t)) (λ y. and_then (items_of s c w object t 0 (at_of p) items) (λ (r : MadeAll). Ok (pieces_made t (at_of p) r)))
  item_of s c w object t (syntax.node kind p token kids) =
      item_expression s c w t (string_token (syntax.node kind p token kids)) (at_of p)
      (and_then (expression_of s c w (syntax.node kind p token kids)) (chosen_operand c))

  pub items_of : List Lexeme → Ctx → Work → Tree → Typ → ℕ → At → syntax.Trees → Result MadeAll ElabFault
  items_of s c w object t i at syntax.none = rest_in c w at object t (form_in t) i
  items_of s c w object t i at (syntax.more x ts) = and_then (expect (syntax_place x) BadInit (part_in c t (form_in t) i))
      (λ (p : Part). and_then (item_of s c w (part_at p.offset p.typ at object) p.typ x) (λ (m : Made).
      with_piece c p.offset p.typ (tree_place m.tree) m (items_of s c m.work object t (suc i) at ts)))
