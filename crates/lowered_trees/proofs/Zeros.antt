-- Zeros are built.
use Rattle.std.proofs.Common.{◌≡◌, ℕ, suc, Bool, true, false, not, ◌&&◌, ◌||◌, ◌==◌, List, [], ◌∷◌, Option, Some, refl, sym, ap, ◌∙◌, subst, arith, eqb-true}
use Rattle.std.proofs.lemmas.Bool.{and_parts}
use Rattle.std.specs.Prelude.{slice_get, unwrap_or}
use Rattle.cpp_tree.specs.tx_ints.declared.kinds.IntKind.{IntKind}
use Rattle.cpp_tree.specs.cpp_types.Typ.{Typ, Form, void, ref}
use Rattle.cpp_tree.specs.cpp_types.Class.{Class}
use Rattle.cpp_tree.specs.cpp_types.Equal.{typ_eq, flag_eq}
use Rattle.cpp_tree.specs.cpp_types.declared.classes.At.{At}
use Rattle.cpp_tree.specs.cpp_types.declared.ranks.Cat.{Cat}
use Rattle.cpp_tree.specs.declared.arena.TNode.{TNode}
use Rattle.cpp_tree.specs.declared.arena.TNodeId.{TNodeId}
use Rattle.cpp_tree.specs.declared.kinds.TKind.{TKind}
use Rattle.cpp_tree.specs.declared.kinds.TKind.TheVariants.{Literal, Store, Pieces, Piece, Elements}
use Rattle.cpp_tree.specs.declared.roles.Position.{Position}
use Rattle.cpp_tree.specs.Trees.{Tree, node, Trees, none, more}
use Rattle.cpp_tree.specs.Arena.{NodeAt, Shows, ShowsAll}
use Rattle.cpp_tree.specs.Parts.{Part, part_of}
use Rattle.cpp_tree.specs.Typing.{is_statement_typ, is_kind, kind_in, is_prvalue}
use Rattle.cpp_tree.specs.WellFormed.{heads_of, zeroes, zero_parts, zero_part, zero_scalar, is_zero_of, zero_typ, form_to_zero, volatile_to_zero, class_in, is_sized_class}
use Rattle.cpp_tree.specs.WellFormed.{has_elements, element_in, starts_at, part_typ}
use Rattle.low_code.specs.Nodes.{Node, node_of, node_or}
use Rattle.low_code.specs.Types.{is_void}
use Rattle.unwind_lower.specs.declared.items.Way.TheVariants.{Value, Into}
use Rattle.unwind_lower.specs.Settings.{Setting, node_in}
use Rattle.lowered_trees.specs.Shapes.{Stands, HasWord, is_load, valued, built, Parts, no_parts, part, no_destroys}
use Rattle.lowered_trees.specs.Suiting.{told, counts, kids_suit, is_init, suits, all_suit}
use Rattle.lowered_trees.specs.Running.{Runs, literal, store, pieces, piece, elements, AllRun, none_run, then}
use Rattle.lowered_trees.proofs.Facts.{void_alike}
use Rattle.lowered_trees.proofs.Objects.{element_counts}

zero_void : (f : Form) (k : IntKind) → is_kind k (kind_in f) ≡ true → is_void (zero_typ f) ≡ false
zero_void void k i = absurd cc
zero_void (ref u) k i = refl
zero_void f k i = refl

zero_typed : (f : Form) (k : IntKind) (t : Typ) → is_kind k (kind_in f) ≡ true → typ_eq (zero_typ f) t ≡ true → is_void t ≡ false
zero_typed f k t i e = void_alike (zero_typ f) t e ∙ zero_void f k i

module _ (g : Setting) where
  abbrev Nodes : List TNode
  Nodes = g.unit.nodes.items

  node_is : (id : TNodeId) (n : TNode) → slice_get Nodes id.0 ≡ Some n → node_in g id ≡ node_of n
  unfolding node_in
  node_is id n e = ap node_or e

  stands_shown : (id : TNodeId) (kind : TKind) (t : Typ) (cat : Cat) (at : At) (n : NodeAt Nodes id.0 kind t cat at) (ids : List TNodeId)
      → n.found.kids.items ≡ ids → Stands g id kind ids
  stands_shown id kind t cat at n ids e = record {
    kind_is = ap (λ (m : Node). m.kind) (node_is id n.found n.stands) ∙ n.kind_is;
    kids_are = ap (λ (m : Node). m.kids) (node_is id n.found n.stands) ∙ e;
  }

  typ_shown : (id : TNodeId) (kind : TKind) (t : Typ) (cat : Cat) (at : At) (n : NodeAt Nodes id.0 kind t cat at) → (node_in g id).typ ≡ t
  typ_shown id kind t cat at n = ap (λ (m : Node). m.typ) (node_is id n.found n.stands) ∙ n.typ_is

  suits_counts : (a : Bool) (kind : TKind) (t : Typ) (cat : Cat) (at : At) (kids : Trees) → suits a (node kind t cat at kids) ≡ true
      → (counts kind ≡ true) × (all_suit (is_init kind) kids ≡ true)
  suits_counts a kind t cat at kids u =
      let v = and_parts (told a kind t cat && counts kind && kids_suit kind (heads_of kids)) (all_suit (is_init kind) kids) u in
      let x = and_parts (told a kind t cat && counts kind) (kids_suit kind (heads_of kids)) v.0 in
      let y = and_parts (told a kind t cat) (counts kind) x.0 in
      (y.1, v.1)

  -- a zero is a word
  zero_word : (p : Position) (id : TNodeId) (f : Form) (k : IntKind) (word : Tree) → is_kind k (kind_in f) ≡ true → Shows Nodes id.0 word → is_zero_of f word ≡ true → suits false word ≡ true
      → (Runs g p id Value) × HasWord g id
  zero_word p id f k (node (Literal w) t cat at none) i s e u =
      let z = and_parts (w == 0 && is_prvalue cat) (typ_eq (zero_typ f) t) e in
      let y = and_parts (w == 0) (is_prvalue cat) z.0 in
      let n : w ≡ 0 = eqb-true w 0 y.0 in
      let v : is_void (node_in g id).typ ≡ false = ap is_void (typ_shown id (Literal w) t cat at s.0)
      ∙ zero_typed f k t i z.1 in
      let st = stands_shown id (Literal w) t cat at s.0 [] s.1 in
      (literal w st valued v (omega (arith, n)), ap (λ k. is_load k || not (is_void (node_in g id).typ)) st.kind_is ∙ ap not v)
  zero_word p id f k (node kind t cat at kids) i s e u = absurd cc

  mutual
    zero_runs : (classes : List Class) (v : Bool) (t : Typ) (p : Position) (id : TNodeId) (tree : Tree) → Shows Nodes id.0 tree
        → zeroes classes v t tree ≡ true → suits false tree ≡ true → Runs g p id Into
    zero_runs classes v t p id (node Pieces ty cat at kids) s e u =
        let c = suits_counts false Pieces ty cat at kids u in
        let z = and_parts (is_statement_typ ty cat && is_sized_class classes (class_in (form_to_zero t)))
        (zero_parts classes (volatile_to_zero v t) (unwrap_or (class_in (form_to_zero t)) 0) 0 kids) e in
        let r = all_zero classes (volatile_to_zero v t) (unwrap_or (class_in (form_to_zero t)) 0) 0 p (s.0).found.kids.items kids s.1 z.1 c.1 in
        pieces (s.0).found.kids.items (stands_shown id Pieces ty cat at s.0 (s.0).found.kids.items refl) built r.0 r.1
    zero_runs classes v t p id (node (Elements count stride) ty cat at (more kid none)) s e u =
        let c = suits_counts false (Elements count stride) ty cat at (more kid none) u in
        let z = and_parts (is_statement_typ ty cat && has_elements classes count stride (form_to_zero t))
        (zeroes classes (volatile_to_zero v t) (element_in (form_to_zero t)) kid) e in
        let k = s.1 in
        let n = element_counts count stride c.0 in
        elements count stride k.0 [] (stands_shown id (Elements count stride) ty cat at s.0 (k.0 ∷ []) (k.2 ∙ ap (λ (js : List TNodeId). k.0 ∷ js) k.4)) built n.0 n.1
        (zero_runs classes (volatile_to_zero v t) (element_in (form_to_zero t)) p k.0 kid k.3 z.1 (and_parts (suits false kid) true c.1).0) no_destroys
    zero_runs classes v t p id (node (Store kind marked) ty cat at (more word none)) s e u =
        let c = suits_counts false (Store kind marked) ty cat at (more word none) u in
        let z = and_parts (is_statement_typ ty cat) (zero_scalar (volatile_to_zero v t) (form_to_zero t) kind marked word) e in
        let y = and_parts (is_kind kind (kind_in (form_to_zero t)) && flag_eq marked (volatile_to_zero v t)) (is_zero_of (form_to_zero t) word) z.1 in
        let k = s.1 in
        let w = zero_word p k.0 (form_to_zero t) kind word (and_parts (is_kind kind (kind_in (form_to_zero t))) (flag_eq marked (volatile_to_zero v t)) y.0).0 k.3 y.1 (and_parts (suits false word) true c.1).0 in
        store kind marked k.0 (stands_shown id (Store kind marked) ty cat at s.0 (k.0 ∷ []) (k.2 ∙ ap (λ (js : List TNodeId). k.0 ∷ js) k.4)) w.0 w.1
    zero_runs classes v t p id tree s e u = absurd cc

    all_zero : (classes : List Class) (v : Bool) (n i : ℕ) (p : Position) (ids : List TNodeId) (ts : Trees) → ShowsAll Nodes ids ts
        → zero_parts classes v n i ts ≡ true → all_suit false ts ≡ true → AllRun g p ids Into × Parts g ids
    all_zero classes v n i p ids none s e u = subst (λ js. AllRun g p js Into × Parts g js) (sym s) (none_run, no_parts)
    all_zero classes v n i p ids (more t ts) s e u =
        let z = and_parts (zero_part classes v (part_of classes n i) t) (zero_parts classes v n (suc i) ts) e in
        let w = and_parts (suits false t) (all_suit false ts) u in
        let a = one_zero classes v (part_of classes n i) p s.0 t s.3 z.0 w.0 in
        let b = all_zero classes v n (suc i) p s.1 ts s.4 z.1 w.1 in
        subst (λ js. AllRun g p js Into × Parts g js) (sym s.2) (then a.0 b.0, part a.1 a.2 b.1)

    one_zero : (classes : List Class) (v : Bool) (o : Option Part) (p : Position) (id : TNodeId) (t : Tree) → Shows Nodes id.0 t
        → zero_part classes v o t ≡ true → suits false t ≡ true → Runs g p id Into × (offset : ℕ) × ((node_in g id).kind ≡ Piece offset)
    one_zero classes v o p id (node (Piece offset) ty cat at (more kid none)) s e u =
        let c = suits_counts false (Piece offset) ty cat at (more kid none) u in
        let z = and_parts (is_statement_typ ty cat && starts_at offset o) (zeroes classes v (part_typ o) kid) e in
        let k = s.1 in
        let st = stands_shown id (Piece offset) ty cat at s.0 (k.0 ∷ []) (k.2 ∙ ap (λ (js : List TNodeId). k.0 ∷ js) k.4) in
        (piece offset k.0 [] st built (zero_runs classes v (part_typ o) p k.0 kid k.3 z.1 (and_parts (suits false kid) true c.1).0) no_destroys, offset, st.kind_is)
    one_zero classes v o p id tree s e u = absurd cc

  pub zeros_run : (classes : List Class) (v : Bool) (t : Typ) (p : Position) (id : TNodeId) (tree : Tree) → Shows Nodes id.0 tree
      → zeroes classes v t tree ≡ true → suits false tree ≡ true → Runs g p id Into
  zeros_run classes v t p id tree s e u = zero_runs classes v t p id tree s e u
