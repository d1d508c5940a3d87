-- Expressions without objects, calls and conditionals.
use Rattle.std.proofs.Common.{◌≡◌, ℕ, Bool, true, false, not, ◌&&◌, cond, List, [], ◌∷◌, refl, sym, ap, ◌∙◌, subst}
use Rattle.std.proofs.lemmas.Bool.{and_parts}
use Rattle.cpp_tree.specs.tx_ints.declared.kinds.IntKind.{IntKind}
use Rattle.cpp_tree.specs.tx_ints.declared.kinds.BinOp.{BinOp}
use Rattle.cpp_tree.specs.cpp_types.Typ.{Typ}
use Rattle.cpp_tree.specs.cpp_types.declared.ranks.Cat.{Cat}
use Rattle.cpp_tree.specs.cpp_types.declared.ranks.Cat.TheVariants.{Lvalue, Prvalue}
use Rattle.cpp_tree.specs.declared.arena.TNodeId.{TNodeId}
use Rattle.cpp_tree.specs.declared.kinds.TKind.TheVariants.{Literal, Local, Global, Function, ClassTable, Load, Convert, Retype, Binary, Assign, Update, CopyAssign}
use Rattle.cpp_tree.specs.declared.roles.Position.{Position}
use Rattle.cpp_tree.specs.declared.roles.Role.{Role}
use Rattle.cpp_tree.specs.declared.roles.Role.TheVariants.{Value, CopyInit}
use Rattle.cpp_tree.specs.Typing.{Head, is_prvalue, is_scalar_value, passes, kind_in, form_in, is_word_of}
use Rattle.low_code.specs.Types.{is_void}
use Rattle.unwind_lower.specs.declared.items.Way.{Way}
use Rattle.unwind_lower.specs.declared.items.Way.TheVariants.{Value as ForValue, Dropped}
use Rattle.unwind_lower.specs.Expressions.{way_of}
use Rattle.unwind_lower.specs.Settings.{Setting, node_in}
use Rattle.lowered_trees.specs.Suiting.{has_word, have_words}
use Rattle.lowered_trees.specs.Words.{gives_word}
use Rattle.lowered_trees.specs.Running.{Runs, literal, local, global, function, class_table, load, convert, retype, binary, assign, update, copy_assign}
use Rattle.lowered_trees.proofs.Known.{Serves, Holds, Kid, for_value, dropped, of_result, copies}
use Rattle.lowered_trees.proofs.Kids.{none_kid, one_kid, two_kids, three_kids, word_of}
use Rattle.lowered_trees.proofs.Facts.{worded, stands_as, not_void, words_as}
use Rattle.lowered_trees.proofs.Ways.{gives}
use Rattle.lowered_trees.proofs.Tests.{passed, is_word, or_second}

-- what is dropped is no address of a result
no_address : {a : Bool} {role : Role} {way : Way} → Serves a role way → way ≡ Dropped → a ≡ false
no_address of_result e = absurd cc
no_address w e = refl

loaded : (a : Bool) (k : IntKind) (v : Bool) (c : Cat) → a ≡ false → gives_word a (Load k v) c ≡ true
loaded a k v Lvalue e = refl
loaded a k v Prvalue e = ap (λ b. not (b && true) && true) e

-- an operand whose value is that of the whole, or nothing
by_way_of : (g : Setting) (p : Position) (id j : TNodeId) (x : Head) → Kid g p Value false j x → (v : Bool) → is_void (node_in g id).typ ≡ v
    → Runs g p j (way_of (node_in g id))
by_way_of g p id j x k true e = subst (λ b. Runs g p j (cond b Dropped ForValue)) (sym e) (k.comes dropped)
by_way_of g p id j x k false e = subst (λ b. Runs g p j (cond b Dropped ForValue)) (sym e) (k.comes for_value)

module _ (g : Setting) {p : Position} {role : Role} {a : Bool} {way : Way} {id : TNodeId} {t : Typ} {cat : Cat} {ids : List TNodeId} {hs : List Head} where
  pub literal_runs : (u : ℕ) → Serves a role way → Holds g p role a id (Literal u) t cat ids hs → Runs g p id way
  literal_runs u w h =
      let n = none_kid g p false ids hs h.kids in
      let r = and_parts (is_prvalue cat && is_scalar_value t) (passes (λ (k : IntKind). is_word_of k u) (kind_in (form_in t))) h.fit.row in
      let k = passed (λ (k : IntKind). is_word_of k u) (kind_in (form_in t)) r.1 in
      literal u (stands_as g [] h n.0) (gives w (Literal u) h.fit.serves refl refl refl refl) (not_void g (Literal u) h (worded a (Literal u) cat refl refl))
      (is_word k.0 u k.2)

  pub local_runs : (u : ℕ) → Serves a role way → Holds g p role a id (Local u) t cat ids hs → Runs g p id way
  local_runs u w h = local u (stands_as g [] h (none_kid g p false ids hs h.kids).0) (gives w (Local u) h.fit.serves refl refl refl refl)
      (not_void g (Local u) h (worded a (Local u) cat refl refl))

  pub global_runs : (u : ℕ) → Serves a role way → Holds g p role a id (Global u) t cat ids hs → Runs g p id way
  global_runs u w h = global u (stands_as g [] h (none_kid g p false ids hs h.kids).0) (gives w (Global u) h.fit.serves refl refl refl refl)
      (not_void g (Global u) h (worded a (Global u) cat refl refl))

  pub function_runs : (u : ℕ) → Serves a role way → Holds g p role a id (Function u) t cat ids hs → Runs g p id way
  function_runs u w h = function u (stands_as g [] h (none_kid g p false ids hs h.kids).0) (gives w (Function u) h.fit.serves refl refl refl refl)
      (not_void g (Function u) h (worded a (Function u) cat refl refl))

  pub class_table_runs : (u : ℕ) → Serves a role way → Holds g p role a id (ClassTable u) t cat ids hs → Runs g p id way
  class_table_runs u w h = class_table u (stands_as g [] h (none_kid g p false ids hs h.kids).0) (gives w (ClassTable u) h.fit.serves refl refl refl refl)
      (not_void g (ClassTable u) h (worded a (ClassTable u) cat refl refl))

  pub load_runs : (k : IntKind) (v : Bool) → Serves a role way → Holds g p role a id (Load k v) t cat ids hs → Runs g p id way
  load_runs k v w h =
      let o = one_kid g p Value false ids hs h.kids h.fit.many in
      let e = and_parts (has_word o.head) (have_words []) (words_as g (Load k v) (o.head ∷ []) h o.hs_are) in
      load k v o.id (stands_as g (o.id ∷ []) h o.ids_are) (gives w (Load k v) h.fit.serves refl refl refl refl)
      (λ d. not_void g (Load k v) h (loaded a k v cat (no_address w d))) (o.kid.comes for_value) (word_of g o.kid e.0)

  pub convert_runs : (k : IntKind) → Serves a role way → Holds g p role a id (Convert k) t cat ids hs → Runs g p id way
  convert_runs k w h =
      let o = one_kid g p Value false ids hs h.kids h.fit.many in
      let e = and_parts (has_word o.head) (have_words []) (words_as g (Convert k) (o.head ∷ []) h o.hs_are) in
      convert k o.id (stands_as g (o.id ∷ []) h o.ids_are) (gives w (Convert k) h.fit.serves refl refl refl refl)
      (not_void g (Convert k) h (worded a (Convert k) cat refl refl)) (o.kid.comes for_value) (word_of g o.kid e.0)

  pub retype_runs : Serves a role way → Holds g p role a id Retype t cat ids hs → Runs g p id way
  retype_runs w h =
      let o = one_kid g p Value false ids hs h.kids h.fit.many in
      let e = words_as g Retype (o.head ∷ []) h o.hs_are in
      retype o.id (stands_as g (o.id ∷ []) h o.ids_are) (gives w Retype h.fit.serves refl refl refl refl)
      (λ n. word_of g o.kid (and_parts (has_word o.head) (have_words []) (or_second (is_void t) (have_words (o.head ∷ [])) (sym (ap is_void h.typ_is) ∙ n) e)).0)
      (by_way_of g p id o.id o.head o.kid (is_void (node_in g id).typ) refl)

  pub binary_runs : (op : BinOp) (k : IntKind) → Serves a role way → Holds g p role a id (Binary op k) t cat ids hs → Runs g p id way
  binary_runs op k w h =
      let o = two_kids g p Value Value false ids hs h.kids h.fit.many in
      let e = and_parts (has_word o.head) (have_words (o.other_head ∷ [])) (words_as g (Binary op k) (o.head ∷ o.other_head ∷ []) h o.hs_are) in
      let f = and_parts (has_word o.other_head) (have_words []) e.1 in
      binary op k o.id o.other (stands_as g (o.id ∷ o.other ∷ []) h o.ids_are) (gives w (Binary op k) h.fit.serves refl refl refl refl)
      (not_void g (Binary op k) h (worded a (Binary op k) cat refl refl)) (o.kid.comes for_value) (word_of g o.kid e.0)
      (o.other_kid.comes for_value) (word_of g o.other_kid f.0)

  pub assign_runs : (k : IntKind) (v : Bool) → Serves a role way → Holds g p role a id (Assign k v) t cat ids hs → Runs g p id way
  assign_runs k v w h =
      let o = two_kids g p Value Value false ids hs h.kids h.fit.many in
      let e = and_parts (has_word o.head) (have_words (o.other_head ∷ [])) (words_as g (Assign k v) (o.head ∷ o.other_head ∷ []) h o.hs_are) in
      let f = and_parts (has_word o.other_head) (have_words []) e.1 in
      assign k v o.id o.other (stands_as g (o.id ∷ o.other ∷ []) h o.ids_are) (gives w (Assign k v) h.fit.serves refl refl refl refl)
      (not_void g (Assign k v) h (worded a (Assign k v) cat refl refl)) (o.kid.comes for_value) (word_of g o.kid e.0)
      (o.other_kid.comes for_value) (word_of g o.other_kid f.0)

  pub update_runs : (op : BinOp) (j k : IntKind) (v old : Bool) → Serves a role way → Holds g p role a id (Update op j k v old) t cat ids hs → Runs g p id way
  update_runs op j k v old w h =
      let o = two_kids g p Value Value false ids hs h.kids h.fit.many in
      let e = and_parts (has_word o.head) (have_words (o.other_head ∷ [])) (words_as g (Update op j k v old) (o.head ∷ o.other_head ∷ []) h o.hs_are) in
      let f = and_parts (has_word o.other_head) (have_words []) e.1 in
      update op j k v old o.id o.other (stands_as g (o.id ∷ o.other ∷ []) h o.ids_are) (gives w (Update op j k v old) h.fit.serves refl refl refl refl)
      (not_void g (Update op j k v old) h (worded a (Update op j k v old) cat refl refl)) (o.kid.comes for_value) (word_of g o.kid e.0)
      (o.other_kid.comes for_value) (word_of g o.other_kid f.0)

  pub copy_assign_runs : Serves a role way → Holds g p role a id CopyAssign t cat ids hs → Runs g p id way
  copy_assign_runs w h =
      let o = three_kids g p Value Value CopyInit false ids hs h.kids h.fit.many in
      let e = and_parts (has_word o.head) (have_words (o.other_head ∷ [])) (words_as g CopyAssign (o.head ∷ o.other_head ∷ o.last_head ∷ []) h o.hs_are) in
      let f = and_parts (has_word o.other_head) (have_words []) e.1 in
      copy_assign o.id o.other o.last (stands_as g (o.id ∷ o.other ∷ o.last ∷ []) h o.ids_are) (gives w CopyAssign h.fit.serves refl refl refl refl)
      (not_void g CopyAssign h (worded a CopyAssign cat refl refl)) (o.kid.comes for_value) (word_of g o.kid e.0)
      (o.other_kid.comes for_value) (word_of g o.other_kid f.0) (o.last_kid.comes copies)
