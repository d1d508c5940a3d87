-- Initialisations, what is put off, `return`, labels and handlers.
use Rattle.std.proofs.Common.{◌≡◌, ℕ, suc, ◌<◌, ◌^◌, Bool, true, false, not, ◌&&◌, ◌||◌, ◌==◌, cond, List, [], ◌∷◌, length, Option, Some, None, refl, ap, ◌∙◌, arith, ltb-true, eqb-true}
use Rattle.std.proofs.lemmas.Bool.{and_parts}
use Rattle.cpp_tree.specs.cpp_types.Typ.{Typ, typ, void, class, closure, tx_ex, signature_of}
use Rattle.cpp_tree.specs.cpp_types.Class.{Class}
use Rattle.cpp_tree.specs.cpp_types.Conversion.{is_lvalue}
use Rattle.cpp_tree.specs.cpp_types.declared.ranks.Cat.{Cat}
use Rattle.cpp_tree.specs.declared.arena.TNodeId.{TNodeId}
use Rattle.cpp_tree.specs.declared.kinds.TKind.{TKind}
use Rattle.cpp_tree.specs.declared.kinds.TKind.TheVariants.{Local, Init, Defer, Return, Case, Handler}
use Rattle.cpp_tree.specs.declared.roles.Position.{Position}
use Rattle.cpp_tree.specs.declared.roles.Role.{Role}
use Rattle.cpp_tree.specs.declared.roles.Role.TheVariants.{Value, Zero, Initialiser, Statement, Destruction, Scalar}
use Rattle.cpp_tree.specs.Typing.{Head, is_prvalue, is_statement_typ, builds}
use Rattle.cpp_tree.specs.Typing as typing
use Rattle.cpp_tree.specs.Rows.{is_return, has_value, is_returned, result_of, are_destructions, is_loaded, is_handler_of}
use Rattle.cpp_tree.specs.WellFormed.{setting_of, no_object}
use Rattle.low_code.specs.Types.{is_void, word_count}
use Rattle.unwind_lower.specs.declared.items.Way.{Way}
use Rattle.unwind_lower.specs.declared.items.Way.TheVariants.{Value as ForValue, Dropped, Into}
use Rattle.unwind_lower.specs.Objects.{is_local}
use Rattle.unwind_lower.specs.Settings.{Setting, node_in, words_back, gives_of}
use Rattle.lowered_trees.specs.Shapes.{Stands, HasWord, Destroys}
use Rattle.lowered_trees.specs.Suiting.{has_word, have_words}
use Rattle.lowered_trees.specs.Running.{Runs, init_plain, init_variable, init_member, defer, return_none, return_word, case}
use Rattle.lowered_trees.proofs.Known.{Serves, Holds, Kid, KidAt, IsHandler, is_leaf, for_value, of_result, statement}
use Rattle.lowered_trees.proofs.Known.{builds as builds_there}
use Rattle.lowered_trees.proofs.Kids.{AllKids, none_kid, any_kids, one_and_any, two_and_any, fields, word_of}
use Rattle.lowered_trees.proofs.Facts.{stands_as, words_as, row_as, suit_as, no_typ}
use Rattle.lowered_trees.proofs.Callees.{result_gives}
use Rattle.lowered_trees.proofs.Objects.{destroys, same_length, same_way}
use Rattle.lowered_trees.proofs.Ways.{drops_it}

-- what is built, or filled with zeros
built_kid : (g : Setting) (p : Position) (b : Bool) (j : TNodeId) (x : Head) → KidAt g p (Some (cond b Zero Initialiser)) false j x → Runs g p j Into
built_kid g p true j x k = k
built_kid g p false j x k = k.comes builds_there

or_first : (a b : Bool) → (a || b) ≡ true → b ≡ false → a ≡ true
or_first true b e f = refl
or_first false true e f = absurd cc
or_first false false e f = absurd cc

not_two : (n : ℕ) → suc (suc (suc n)) == 2 ≡ false
not_two n = by_test (suc (suc (suc n)) == 2) refl where
  by_test : (b : Bool) → suc (suc (suc n)) == 2 ≡ b → suc (suc (suc n)) == 2 ≡ false
  by_test false e = e
  by_test true e = let two : suc (suc (suc n)) ≡ 2 = eqb-true (suc (suc (suc n))) 2 e in let never : ⊥ = omega (arith, two) in absurd never

and_false : (a b : Bool) → b ≡ false → (a && b) ≡ false
and_false true b e = e
and_false false b e = refl

-- an object with destructions: a variable, or a part of an object under construction
waits : (g : Setting) (p : Position) (id a b : TNodeId) (ids : List TNodeId) → Stands g id Init (a ∷ b ∷ ids) → is_void (node_in g id).typ ≡ true
    → (kind : TKind) → (node_in g a).kind ≡ kind → (is_leaf kind ≡ true → (node_in g a).kids ≡ []) → Runs g p a ForValue → HasWord g a → Runs g p b Into
    → Destroys g ids → 0 < length ids → Runs g p id Dropped
waits g p id a b ids s v (Local place) e l r w i d n = init_variable place a b ids s v (record { kind_is = e; kids_are = l refl }) r w i d n
waits g p id a b ids s v kind e l r w i d n = init_member a b ids s v (ap is_local e) r w i d n

-- a word is handed back where there is a value
value_count : (r : Typ) → has_value r ≡ true → word_count r ≡ 1
value_count (typ void c v) e = absurd cc
value_count (typ (class n) c v) e = absurd cc
value_count (typ (closure n) c v) e = absurd cc
value_count (typ (tx_ex u) c v) e = absurd cc
value_count (typ f c v) e = refl

none_count : (r : Typ) → not (has_value r) ≡ true → word_count r ≡ 0
none_count (typ void c v) e = refl
none_count (typ (class n) c v) e = refl
none_count (typ (closure n) c v) e = refl
none_count (typ (tx_ex u) c v) e = refl
none_count (typ f c v) e = absurd cc

back : (g : Setting) → words_back g ≡ word_count (result_of (setting_of g.program g.unit g.func).function)
unfolding words_back gives_of
back g = result_gives g.func.kind (signature_of g.func.rec.ty)

returned : (g : Setting) (p : Position) (id : TNodeId) (ids : List TNodeId) (hs : List Head) → AllKids g p Value ids hs
    → Stands g id Return ids → is_void (node_in g id).typ ≡ true → is_return (result_of (setting_of g.program g.unit g.func).function) hs ≡ true
    → have_words hs ≡ true → Runs g p id Dropped
returned g p id [] [] k s v e w = return_none s v (back g ∙ none_count _ e)
returned g p id (a ∷ []) (h ∷ []) k s v e w =
    let r = result_of (setting_of g.program g.unit g.func).function in
    return_word a s v (back g ∙ value_count r (and_parts (has_value r) (is_returned r h) e).0) ((k.0).comes for_value)
    (word_of g k.0 (and_parts (has_word h) (have_words []) w).0)
returned g p id [] (h ∷ hs) k s v e w = absurd k
returned g p id (a ∷ ids) [] k s v e w = absurd k
returned g p id (a ∷ []) (h ∷ i ∷ hs) k s v e w = absurd k.1
returned g p id (a ∷ b ∷ ids) (h ∷ []) k s v e w = absurd k.1
returned g p id (a ∷ b ∷ ids) (h ∷ i ∷ hs) k s v e w = absurd cc

-- a handler without a name has no fields
unnamed_fields : (g : Setting) (p : Position) (classes : List Class) (frame : List Typ) (place : Option ℕ) (t : Typ) (ids : List TNodeId) (hs : List Head)
    → AllKids g p Scalar ids hs → is_handler_of classes frame place t hs ≡ true → place ≡ None → ids ≡ []
unnamed_fields g p classes frame (Some n) t ids hs k e i = absurd cc
unnamed_fields g p classes frame None t [] [] k e i = refl
unnamed_fields g p classes frame None t [] (h ∷ hs) k e i = absurd k
unnamed_fields g p classes frame None t (id ∷ ids) [] k e i = absurd k
unnamed_fields g p classes frame None t (id ∷ ids) (h ∷ hs) k e i = let z : suc (length hs) ≡ 0 = eqb-true (suc (length hs)) 0 e in let never : ⊥ = omega (arith, z) in absurd never

module _ (g : Setting) {p : Position} {role : Role} {a : Bool} {way : Way} {id : TNodeId} {t : Typ} {cat : Cat} {ids : List TNodeId} {hs : List Head} where
  pub init_runs : Serves a role way → Holds g p role a id Init t cat ids hs → Runs g p id way
  init_runs w h =
      let o = two_and_any g p Value (cond (no_object hs) Zero Initialiser) Destruction true ids hs h.kids h.fit.many in
      let e = and_parts (has_word o.head) (have_words []) (words_as g Init (o.head ∷ o.other_head ∷ o.other_heads) h o.hs_are) in
      let built = built_kid g p (no_object hs) o.other o.other_head o.other_kid in
      same_way g p id Dropped way (drops_it w Init h.fit.serves refl refl refl refl refl refl)
      (inits h o.id o.other o.others o.head o.other_head o.other_heads o.ids_are o.hs_are o.kid o.other_kids e.0 built)
    where
      inits : Holds g p role a id Init t cat ids hs → (i j : TNodeId) (js : List TNodeId) (x y : Head) (ys : List Head) → ids ≡ i ∷ j ∷ js → hs ≡ x ∷ y ∷ ys
          → Kid g p Value true i x → AllKids g p Destruction js ys → has_word x ≡ true → Runs g p j Into → Runs g p id Dropped
      inits h i j [] x y [] is ss k ks u b =
          let s = setting_of g.program g.unit g.func in
          let r = and_parts (is_statement_typ t cat) _ (row_as g Init (x ∷ y ∷ []) h ss) in
          init_plain i j (stands_as g (i ∷ j ∷ []) h is) (no_typ g Init h r.0) (k.comes of_result) (word_of g k u) b
      inits h i j [] x y (z ∷ ys) is ss k ks u b = absurd ks
      inits h i j (l ∷ js) x y [] is ss k ks u b = absurd ks
      inits h i j (l ∷ js) x y (z ∷ ys) is ss k ks u b =
          let s = setting_of g.program g.unit g.func in
          let object = is_lvalue x.cat && builds x.typ y && are_destructions s x.typ (z ∷ ys) in
          let result = is_prvalue x.cat && typing.is_void x.typ && is_loaded x.kind && length (x ∷ y ∷ z ∷ ys) == 2 in
          let r = and_parts (is_statement_typ t cat) (object || result) (row_as g Init (x ∷ y ∷ z ∷ ys) h ss) in
          let d = or_first object result r.1 (and_false (is_prvalue x.cat && typing.is_void x.typ && is_loaded x.kind) (length (x ∷ y ∷ z ∷ ys) == 2) (not_two (length ys))) in
          let q = and_parts (is_lvalue x.cat && builds x.typ y) (are_destructions s x.typ (z ∷ ys)) d in
          waits g p id i j (l ∷ js) (stands_as g (i ∷ j ∷ l ∷ js) h is) (no_typ g Init h r.0) x.kind k.kind_is k.leaf (k.comes of_result) (word_of g k u) b
          (destroys g x.typ p (l ∷ js) (z ∷ ys) ks q.1) (omega arith)

  pub defer_runs : Serves a role way → Holds g p role a id Defer t cat ids hs → Runs g p id way
  defer_runs w h =
      let s = setting_of g.program g.unit g.func in
      let o = one_and_any g p Value Destruction false ids hs h.kids h.fit.many in
      let r = and_parts (is_statement_typ t cat) (is_lvalue o.head.cat && are_destructions s o.head.typ o.other_heads)
      (row_as g Defer (o.head ∷ o.other_heads) h o.hs_are) in
      let q = and_parts (is_lvalue o.head.cat) (are_destructions s o.head.typ o.other_heads) r.1 in
      let e = and_parts (has_word o.head) (have_words []) (words_as g Defer (o.head ∷ o.other_heads) h o.hs_are) in
      let n : 1 < suc (length o.other_heads) = ltb-true 1 (suc (length o.other_heads)) (suit_as g Defer (o.head ∷ o.other_heads) h o.hs_are) in
      let same = same_length g p Destruction o.others o.other_heads o.other_kids in
      same_way g p id Dropped way (drops_it w Defer h.fit.serves refl refl refl refl refl refl)
      (defer o.id o.others (stands_as g (o.id ∷ o.others) h o.ids_are) (no_typ g Defer h r.0) (o.kid.comes for_value) (word_of g o.kid e.0)
      (destroys g o.head.typ p o.others o.other_heads o.other_kids q.1) (omega (arith, n, same)))

  pub return_runs : Serves a role way → Holds g p role a id Return t cat ids hs → Runs g p id way
  return_runs w h =
      let r = and_parts (is_statement_typ t cat) (is_return (result_of (setting_of g.program g.unit g.func).function) hs) h.fit.row in
      same_way g p id Dropped way (drops_it w Return h.fit.serves refl refl refl refl refl refl)
      (returned g p id ids hs (any_kids g p Value 0 ids hs h.kids) (stands_as g ids h refl) (no_typ g Return h r.0) r.1 h.words)

  pub case_runs : (u : ℕ) → Serves a role way → Holds g p role a id (Case u) t cat ids hs → Runs g p id way
  case_runs u w h = same_way g p id Dropped way (drops_it w (Case u) h.fit.serves refl refl refl refl refl refl)
      (case u (stands_as g [] h (none_kid g p false ids hs h.kids).0) (no_typ g (Case u) h h.fit.row) (ltb-true u (2 ^ 64) h.counts))

module _ (g : Setting) {p : Position} {role : Role} {a : Bool} {id : TNodeId} {t : Typ} {cat : Cat} {ids : List TNodeId} {hs : List Head} where
  pub is_handler_there : (place : Option ℕ) → Holds g p role a id (Handler place) t cat ids hs → IsHandler g p id
  is_handler_there place h =
      let s = setting_of g.program g.unit g.func in
      let o = one_and_any g p Statement Scalar false ids hs h.kids h.fit.many in
      let r = and_parts (is_prvalue cat) (is_handler_of s.classes s.function.frame place t o.other_heads) (row_as g (Handler place) (o.head ∷ o.other_heads) h o.hs_are) in
      record {
        place = place;
        body = o.id;
        fields = o.others;
        stands = stands_as g (o.id ∷ o.others) h o.ids_are;
        runs = o.kid.comes statement;
        are_fields = fields g p o.others o.other_heads o.other_kids;
        unnamed = unnamed_fields g p s.classes s.function.frame place t o.others o.other_heads o.other_kids r.1;
      }
