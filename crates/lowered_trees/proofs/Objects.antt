-- Objects: initialisers, parts, and what waits for its destruction.
use Rattle.std.proofs.Common.{◌≡◌, ℕ, suc, ◌<◌, ◌^◌, Bool, true, false, ◌&&◌, ◌||◌, ◌==◌, List, [], ◌∷◌, length, refl, sym, ap, ◌∙◌, subst, arith, ltb-true, eqb-true}
use Rattle.std.proofs.lemmas.Bool.{and_parts}
use Rattle.std.specs.Prelude.{nat_lt, map, slice_get}
use Rattle.std.specs.List.{list_all}
use Rattle.cpp_tree.specs.tx_ints.declared.kinds.IntKind.{IntKind}
use Rattle.cpp_tree.specs.cpp_types.Typ.{Typ}
use Rattle.cpp_tree.specs.cpp_types.declared.ranks.Cat.{Cat}
use Rattle.cpp_tree.specs.declared.arena.TNodeId.{TNodeId}
use Rattle.cpp_tree.specs.declared.kinds.TKind.{TKind}
use Rattle.cpp_tree.specs.declared.kinds.TKind.TheVariants.{Materialize, Store, CopyScalar, CopyFrom, Pieces, Piece, Elements, Destroy}
use Rattle.cpp_tree.specs.declared.roles.Position.{Position}
use Rattle.cpp_tree.specs.declared.roles.Role.{Role}
use Rattle.cpp_tree.specs.declared.roles.Role.TheVariants.{Value, Initialiser, CopyInit, Part, CopiedPart, Destruction}
use Rattle.cpp_tree.specs.Typing.{Head, passes, builds, is_prvalue}
use Rattle.cpp_tree.specs.cpp_types.Conversion.{is_lvalue}
use Rattle.cpp_tree.specs.Arena.{trees_of}
use Rattle.cpp_tree.specs.Parts.{are_destroyed, are_elements}
use Rattle.cpp_tree.specs.Units.{Func, func_of}
use Rattle.cpp_tree.specs.Rows.{is_destructor, is_destruction, are_destructions, offsets_fall, at_place}
use Rattle.cpp_tree.specs.WellFormed.{setting_of, may_stand}
use Rattle.cpp_tree.specs.Roles.{is_destroy}
use Rattle.unwind_lower.specs.declared.items.Way.{Way}
use Rattle.unwind_lower.specs.declared.items.Way.TheVariants.{Value as ForValue, Into, Copying}
use Rattle.unwind_lower.specs.Settings.{Setting, node_in, callee_in, gives_of}
use Rattle.lowered_trees.specs.Shapes.{built, copied, Destroys, no_destroys, destroy}
use Rattle.lowered_trees.specs.Suiting.{has_word, have_words, counts}
use Rattle.lowered_trees.specs.Running.{Runs, temporary, argument, store, copy_scalar, copy_from, pieces, piece, elements}
use Rattle.lowered_trees.proofs.Known.{Serves, Holds, is_leaf, for_value, copies, part, copied_part}
use Rattle.lowered_trees.proofs.Known.{builds as builds_there, dropped as drops, of_result, word, statement, block_item, switch_item, step, caught}
use Rattle.lowered_trees.proofs.Kids.{AllKids, none_kid, one_kid, two_kids, any_kids, one_and_any, all_run, parts, copied_parts, word_of}
use Rattle.lowered_trees.proofs.Facts.{worded, stands_as, not_void, words_as, row_as}
use Rattle.lowered_trees.proofs.Callees.{found_in, gives_found, destructor_gives}
use Rattle.lowered_trees.proofs.Tests.{passed}
use Rattle.lowered_trees.proofs.Ways.{gives, builds_it, copies_it, argument_way}

destructor_found : (g : Setting) (f : ℕ) (test : Func → Bool) → ((h : Func) → test h ≡ true → is_destructor h.kind ≡ true)
    → passes test (slice_get (map (func_of (trees_of g.unit.nodes.items)) g.unit.funcs.items) f) ≡ true → gives_of (callee_in g f) ≡ 0
destructor_found g f test d e =
    let x = passed test (slice_get (map (func_of (trees_of g.unit.nodes.items)) g.unit.funcs.items) f) e in
    let y = found_in (func_of (trees_of g.unit.nodes.items)) g.unit.funcs.items f x.0 x.1 in
    let k : is_destructor (y.0).kind ≡ true = ap (λ (h : Func). is_destructor h.kind) y.2 ∙ d x.0 x.2 in
    gives_found g f y.0 y.1 ∙ destructor_gives (y.0).kind _ k

one_destroyed : (g : Setting) (t : Typ) (kind : TKind) → is_destruction (setting_of g.program g.unit g.func) t kind ≡ true → (id : TNodeId)
    → (node_in g id).kind ≡ kind → (node_in g id).kids ≡ [] → counts kind ≡ true → (ids : List TNodeId) → Destroys g ids → Destroys g (id ∷ ids)
one_destroyed g t (Destroy f offset count stride) e id k n c ids ds =
    let p = and_parts (nat_lt 0 count) (nat_lt count (2 ^ 64)) c in
    destroy f offset count stride (record { kind_is = k; kids_are = n })
    (destructor_found g f (λ (h : Func). is_destructor h.kind && passes (λ (m : ℕ). are_destroyed (setting_of g.program g.unit g.func).classes
    (record { class = m; count = count; stride = stride }) offset t) h.class) (λ h x. (and_parts (is_destructor h.kind) _ x).0) e)
    (ltb-true 0 count p.0) (ltb-true count (2 ^ 64) p.1) ds
one_destroyed g t kind e id k n c ids ds = absurd cc

leaf_destroy : (kind : TKind) → is_destroy kind ≡ true → is_leaf kind ≡ true
leaf_destroy (Destroy f offset count stride) e = refl
leaf_destroy kind e = absurd cc

all_destroyed : (g : Setting) (t : Typ) (p : Position) (ids : List TNodeId) (hs : List Head) → AllKids g p Destruction ids hs
    → list_all (λ (h : Head). is_destruction (setting_of g.program g.unit g.func) t h.kind) hs ≡ true → Destroys g ids
all_destroyed g t p [] [] k e = no_destroys
all_destroyed g t p [] (h ∷ hs) k e = absurd k
all_destroyed g t p (id ∷ ids) [] k e = absurd k
all_destroyed g t p (id ∷ ids) (h ∷ hs) k e =
    let d = and_parts (is_destruction (setting_of g.program g.unit g.func) t h.kind)
    (list_all (λ (x : Head). is_destruction (setting_of g.program g.unit g.func) t x.kind) hs) e in
    one_destroyed g t h.kind d.0 id (k.0).kind_is ((k.0).leaf (leaf_destroy h.kind (k.0).serves)) (k.0).counts ids (all_destroyed g t p ids hs k.1 d.1)

-- the destructions of an object are destructions
pub destroys : (g : Setting) (t : Typ) (p : Position) (ids : List TNodeId) (hs : List Head) → AllKids g p Destruction ids hs
    → are_destructions (setting_of g.program g.unit g.func) t hs ≡ true → Destroys g ids
destroys g t p ids hs k e = all_destroyed g t p ids hs k
    (and_parts (list_all (λ (h : Head). is_destruction (setting_of g.program g.unit g.func) t h.kind) hs) (offsets_fall hs) e).0

-- as many kids as heads
pub same_length : (g : Setting) (p : Position) (r : Role) (ids : List TNodeId) (hs : List Head) → AllKids g p r ids hs → length ids ≡ length hs
same_length g p r [] [] k = refl
same_length g p r [] (h ∷ hs) k = absurd k
same_length g p r (id ∷ ids) [] k = absurd k
same_length g p r (id ∷ ids) (h ∷ hs) k = ap suc (same_length g p r ids hs k.1)

-- an object that waits at the end of the full-expression has one around it
kept_full : (many : ℕ) (f : Bool) → ((false || suc many == 1) || f) ≡ true → 0 < many → f ≡ true
kept_full many f e l = by_test (suc many == 1) refl e where
  by_test : (b : Bool) → suc many == 1 ≡ b → (b || f) ≡ true → f ≡ true
  by_test true c d = let one : suc many ≡ 1 = eqb-true (suc many) 1 c in let no : ⊥ = omega (arith, one, l) in absurd no
  by_test false c d = d

pub same_way : (g : Setting) (p : Position) (id : TNodeId) (v way : Way) → way ≡ v → Runs g p id v → Runs g p id way
same_way g p id v way e r = subst (λ x. Runs g p id x) (sym e) r

-- the numbers of elements
pub element_counts : (count stride : ℕ) → counts (Elements count stride) ≡ true → (0 < count) × (count < 2 ^ 64)
element_counts count stride c =
    let p = and_parts (nat_lt 0 count) (nat_lt count (2 ^ 64)) c in (ltb-true 0 count p.0, ltb-true count (2 ^ 64) p.1)

pieces_by : (g : Setting) {p : Position} {role : Role} {a : Bool} {way : Way} {id : TNodeId} {t : Typ} {cat : Cat} {ids : List TNodeId} {hs : List Head} →
    Serves a role way → Holds g p role a id Pieces t cat ids hs → Runs g p id way
pieces_by g {p = p} {ids = ids} {hs = hs} builds_there h =
    let k = any_kids g p Part 0 ids hs h.kids in
    pieces ids (stands_as g ids h refl) built (all_run g p Part Into (λ j x y. y.comes part) ids hs k) (parts g p ids hs k)
pieces_by g {p = p} {ids = ids} {hs = hs} copies h =
    let k = any_kids g p CopiedPart 0 ids hs h.kids in
    pieces ids (stands_as g ids h refl) copied (all_run g p CopiedPart Copying (λ j x y. y.comes copied_part) ids hs k) (copied_parts g p ids hs k)
pieces_by g for_value h = absurd (let e : false ≡ true = h.fit.serves in cc)
pieces_by g drops h = absurd (let e : false ≡ true = h.fit.serves in cc)
pieces_by g of_result h = absurd (let e : false ≡ true = h.fit.serves in cc)
pieces_by g word h = absurd (let e : false ≡ true = h.fit.serves in cc)
pieces_by g statement h = absurd (let e : false ≡ true = h.fit.serves in cc)
pieces_by g block_item h = absurd (let e : false ≡ true = h.fit.serves in cc)
pieces_by g switch_item h = absurd (let e : false ≡ true = h.fit.serves in cc)
pieces_by g step h = absurd (let e : false ≡ true = h.fit.serves in cc)
pieces_by g caught h = absurd (let e : false ≡ true = h.fit.serves in cc)
pieces_by g part h = absurd (let e : false ≡ true = h.fit.serves in cc)
pieces_by g copied_part h = absurd (let e : false ≡ true = h.fit.serves in cc)

elements_by : (g : Setting) {p : Position} {role : Role} {a : Bool} {way : Way} {id : TNodeId} {t : Typ} {cat : Cat} {ids : List TNodeId} {hs : List Head} →
    (count stride : ℕ) → Serves a role way → Holds g p role a id (Elements count stride) t cat ids hs → Runs g p id way
elements_by g {p = p} {t = t} {ids = ids} {hs = hs} count stride builds_there h =
    let s = setting_of g.program g.unit g.func in
    let o = one_and_any g p Initialiser Destruction false ids hs h.kids h.fit.many in
    let r = and_parts (is_prvalue _ && nat_lt 0 count) (are_elements s.classes count stride 1 t o.head && are_destructions s o.head.typ o.other_heads)
    (row_as g (Elements count stride) (o.head ∷ o.other_heads) h o.hs_are) in
    let d = and_parts (are_elements s.classes count stride 1 t o.head) (are_destructions s o.head.typ o.other_heads) r.1 in
    let n = element_counts count stride h.counts in
    elements count stride o.id o.others (stands_as g (o.id ∷ o.others) h o.ids_are) built n.0 n.1 (o.kid.comes builds_there)
    (destroys g o.head.typ p o.others o.other_heads o.other_kids d.1)
elements_by g {p = p} {t = t} {ids = ids} {hs = hs} count stride copies h =
    let s = setting_of g.program g.unit g.func in
    let o = one_and_any g p CopyInit Destruction false ids hs h.kids h.fit.many in
    let r = and_parts (is_prvalue _ && nat_lt 0 count) (are_elements s.classes count stride 1 t o.head && are_destructions s o.head.typ o.other_heads)
    (row_as g (Elements count stride) (o.head ∷ o.other_heads) h o.hs_are) in
    let d = and_parts (are_elements s.classes count stride 1 t o.head) (are_destructions s o.head.typ o.other_heads) r.1 in
    let n = element_counts count stride h.counts in
    elements count stride o.id o.others (stands_as g (o.id ∷ o.others) h o.ids_are) copied n.0 n.1 (o.kid.comes copies)
    (destroys g o.head.typ p o.others o.other_heads o.other_kids d.1)
elements_by g count stride for_value h = absurd (let e : false ≡ true = h.fit.serves in cc)
elements_by g count stride drops h = absurd (let e : false ≡ true = h.fit.serves in cc)
elements_by g count stride of_result h = absurd (let e : false ≡ true = h.fit.serves in cc)
elements_by g count stride word h = absurd (let e : false ≡ true = h.fit.serves in cc)
elements_by g count stride statement h = absurd (let e : false ≡ true = h.fit.serves in cc)
elements_by g count stride block_item h = absurd (let e : false ≡ true = h.fit.serves in cc)
elements_by g count stride switch_item h = absurd (let e : false ≡ true = h.fit.serves in cc)
elements_by g count stride step h = absurd (let e : false ≡ true = h.fit.serves in cc)
elements_by g count stride caught h = absurd (let e : false ≡ true = h.fit.serves in cc)
elements_by g count stride part h = absurd (let e : false ≡ true = h.fit.serves in cc)
elements_by g count stride copied_part h = absurd (let e : false ≡ true = h.fit.serves in cc)

piece_by : (g : Setting) {p : Position} {role : Role} {a : Bool} {way : Way} {id : TNodeId} {t : Typ} {cat : Cat} {ids : List TNodeId} {hs : List Head} →
    (offset : ℕ) → Serves a role way → Holds g p role a id (Piece offset) t cat ids hs → Runs g p id way
piece_by g {p = p} {t = t} {ids = ids} {hs = hs} offset part h =
    let s = setting_of g.program g.unit g.func in
    let o = one_and_any g p Initialiser Destruction false ids hs h.kids h.fit.many in
    let r = and_parts (is_prvalue _ && builds t o.head) (are_destructions s t o.other_heads) (row_as g (Piece offset) (o.head ∷ o.other_heads) h o.hs_are) in
    piece offset o.id o.others (stands_as g (o.id ∷ o.others) h o.ids_are) built (o.kid.comes builds_there)
    (destroys g t p o.others o.other_heads o.other_kids r.1)
piece_by g {p = p} {t = t} {ids = ids} {hs = hs} offset copied_part h =
    let s = setting_of g.program g.unit g.func in
    let o = one_and_any g p CopyInit Destruction false ids hs h.kids h.fit.many in
    let r = and_parts (is_prvalue _ && builds t o.head) (are_destructions s t o.other_heads) (row_as g (Piece offset) (o.head ∷ o.other_heads) h o.hs_are) in
    piece offset o.id o.others (stands_as g (o.id ∷ o.others) h o.ids_are) copied (o.kid.comes copies)
    (destroys g t p o.others o.other_heads o.other_kids r.1)
piece_by g offset for_value h = absurd (let e : false ≡ true = h.fit.serves in cc)
piece_by g offset drops h = absurd (let e : false ≡ true = h.fit.serves in cc)
piece_by g offset of_result h = absurd (let e : false ≡ true = h.fit.serves in cc)
piece_by g offset word h = absurd (let e : false ≡ true = h.fit.serves in cc)
piece_by g offset statement h = absurd (let e : false ≡ true = h.fit.serves in cc)
piece_by g offset block_item h = absurd (let e : false ≡ true = h.fit.serves in cc)
piece_by g offset switch_item h = absurd (let e : false ≡ true = h.fit.serves in cc)
piece_by g offset step h = absurd (let e : false ≡ true = h.fit.serves in cc)
piece_by g offset caught h = absurd (let e : false ≡ true = h.fit.serves in cc)
piece_by g offset builds_there h = absurd (let e : false ≡ true = h.fit.serves in cc)
piece_by g offset copies h = absurd (let e : false ≡ true = h.fit.serves in cc)

module _ (g : Setting) {p : Position} {role : Role} {a : Bool} {way : Way} {id : TNodeId} {t : Typ} {cat : Cat} {ids : List TNodeId} {hs : List Head} where
  pub temporary_runs : (u : ℕ) → Serves a role way → Holds g p role a id (Materialize u false) t cat ids hs → Runs g p id way
  temporary_runs u w h =
      let s = setting_of g.program g.unit g.func in
      let o = one_and_any g p Initialiser Destruction false ids hs h.kids h.fit.many in
      let r = and_parts (is_lvalue cat && at_place s.function.frame u t && builds t o.head) (are_destructions s t o.other_heads)
      (row_as g (Materialize u false) (o.head ∷ o.other_heads) h o.hs_are) in
      let m = subst (λ xs. may_stand s.function.kind p (Materialize u false) (length xs) ≡ true) o.hs_are h.fit.place in
      temporary u o.id o.others (stands_as g (o.id ∷ o.others) h o.ids_are) (gives w (Materialize u false) h.fit.serves refl refl refl refl)
      (not_void g (Materialize u false) h (worded a (Materialize u false) cat refl refl)) (o.kid.comes builds_there)
      (destroys g t p o.others o.other_heads o.other_kids r.1)
      (λ l. kept_full (length o.other_heads) p.full m (subst (λ n. 0 < n) (same_length g p Destruction o.others o.other_heads o.other_kids) l))

  pub argument_runs : (u : ℕ) → Serves a role way → Holds g p role a id (Materialize u true) t cat ids hs → Runs g p id way
  argument_runs u w h =
      let s = setting_of g.program g.unit g.func in
      let o = one_and_any g p Initialiser Destruction false ids hs h.kids h.fit.many in
      let r = and_parts (is_lvalue cat && at_place s.function.frame u t && builds t o.head) (are_destructions s t o.other_heads)
      (row_as g (Materialize u true) (o.head ∷ o.other_heads) h o.hs_are) in
      same_way g p id ForValue way (argument_way w u h.fit.serves)
      (argument u o.id o.others (stands_as g (o.id ∷ o.others) h o.ids_are) (not_void g (Materialize u true) h (worded a (Materialize u true) cat refl refl))
      (o.kid.comes builds_there) (destroys g t p o.others o.other_heads o.other_kids r.1))

  pub store_runs : (k : IntKind) (v : Bool) → Serves a role way → Holds g p role a id (Store k v) t cat ids hs → Runs g p id way
  store_runs k v w h =
      let o = one_kid g p Value false ids hs h.kids h.fit.many in
      let e = and_parts (has_word o.head) (have_words []) (words_as g (Store k v) (o.head ∷ []) h o.hs_are) in
      same_way g p id Into way (builds_it w (Store k v) h.fit.serves refl refl refl refl refl refl refl refl refl)
      (store k v o.id (stands_as g (o.id ∷ []) h o.ids_are) (o.kid.comes for_value) (word_of g o.kid e.0))

  pub copy_scalar_runs : (k : IntKind) (v : Bool) → Serves a role way → Holds g p role a id (CopyScalar k v) t cat ids hs → Runs g p id way
  copy_scalar_runs k v w h = same_way g p id Copying way (copies_it w (CopyScalar k v) refl h.fit.serves)
      (copy_scalar k v (stands_as g [] h (none_kid g p false ids hs h.kids).0))

  pub copy_from_runs : Serves a role way → Holds g p role a id CopyFrom t cat ids hs → Runs g p id way
  copy_from_runs w h =
      let o = two_kids g p Value CopyInit false ids hs h.kids h.fit.many in
      let e = and_parts (has_word o.head) (have_words []) (words_as g CopyFrom (o.head ∷ o.other_head ∷ []) h o.hs_are) in
      same_way g p id Into way (builds_it w CopyFrom h.fit.serves refl refl refl refl refl refl refl refl refl)
      (copy_from o.id o.other (stands_as g (o.id ∷ o.other ∷ []) h o.ids_are) (o.kid.comes for_value) (word_of g o.kid e.0)
      (o.other_kid.comes copies))

  -- parts: pieces and elements are built, or copied, as the whole is
  pub pieces_runs : Serves a role way → Holds g p role a id Pieces t cat ids hs → Runs g p id way
  pieces_runs w h = pieces_by g w h

  pub elements_runs : (count stride : ℕ) → Serves a role way → Holds g p role a id (Elements count stride) t cat ids hs → Runs g p id way
  elements_runs count stride w h = elements_by g count stride w h

  pub piece_runs : (offset : ℕ) → Serves a role way → Holds g p role a id (Piece offset) t cat ids hs → Runs g p id way
  piece_runs offset w h = piece_by g offset w h
