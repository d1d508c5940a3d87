-- Calls.
use Rattle.std.proofs.Common.{◌≡◌, ℕ, suc, Bool, true, false, not, ◌&&◌, List, [], ◌∷◌, length, Some, None, refl, sym, ap, ◌∙◌}
use Rattle.std.proofs.lemmas.Bool.{and_parts}
use Rattle.std.specs.Prelude.{map, slice_get}
use Rattle.cpp_tree.specs.cpp_types.Typ.{Typ, typ, Form, ptr, func, Signature, signature, signature_of}
use Rattle.cpp_tree.specs.cpp_types.Equal.{typ_eq}
use Rattle.cpp_tree.specs.cpp_types.Trivial.{takes_itself}
use Rattle.cpp_tree.specs.cpp_types.declared.ranks.Cat.{Cat}
use Rattle.cpp_tree.specs.declared.arena.TNodeId.{TNodeId}
use Rattle.cpp_tree.specs.declared.kinds.Builtin.{Builtin}
use Rattle.cpp_tree.specs.declared.kinds.Builtin.TheVariants.{PutChar, GetChar, Spawn, Join, Abort}
use Rattle.cpp_tree.specs.declared.kinds.TKind.TheVariants.{Call, VirtualCall, PointerCall, Builtin as CallBuiltin, Construct, CopyConstruct}
use Rattle.cpp_tree.specs.declared.program.FuncKind.TheVariants.{Plain}
use Rattle.cpp_tree.specs.declared.roles.Position.{Position}
use Rattle.cpp_tree.specs.declared.roles.Role.{Role}
use Rattle.cpp_tree.specs.declared.roles.Role.TheVariants.{Value, Word}
use Rattle.cpp_tree.specs.Arena.{trees_of}
use Rattle.cpp_tree.specs.Units.{Func, func_of}
use Rattle.cpp_tree.specs.Parts.{has_pointer_at}
use Rattle.cpp_tree.specs.Typing.{Head, Word as WordOf, is_word, are_words, passes, form_in, is_result, is_prvalue, is_class}
use Rattle.cpp_tree.specs.Rows.{called_in, result_in, result_of, words_of, signature_words, is_special, is_virtual_call, is_constructor, is_constructor_of}
use Rattle.cpp_tree.specs.Rows.{builtin_words, builtin_result, is_member_of, has_slot}
use Rattle.cpp_tree.specs.WellFormed.{setting_of}
use Rattle.low_code.specs.Types.{is_void, called_type, pointed_form, word_count}
use Rattle.low_code.specs.Types as low
use Rattle.unwind_lower.specs.declared.items.Way.{Way}
use Rattle.unwind_lower.specs.declared.items.Way.TheVariants.{Value as ForValue, Into, Copying}
use Rattle.unwind_lower.specs.Settings.{Setting, node_in, callee_in, gives_of}
use Rattle.lowered_trees.specs.Shapes.{words_taken, gives_none}
use Rattle.lowered_trees.specs.Suiting.{has_word, have_words}
use Rattle.lowered_trees.specs.Running.{Runs, call, virtual_call, pointer_call, built_in, construct, copy_construct}
use Rattle.lowered_trees.proofs.Known.{Serves, Holds, for_value, word}
use Rattle.lowered_trees.proofs.Kids.{none_kid, any_kids, one_and_any, all_run, words, word_of}
use Rattle.lowered_trees.proofs.Facts.{stands_as, words_as, row_as, void_alike}
use Rattle.lowered_trees.proofs.Callees.{found_in, gives_found, result_gives, constructor_gives}
use Rattle.lowered_trees.proofs.Objects.{same_length, same_way}
use Rattle.lowered_trees.proofs.Both.{either, hands_back, lvalue_told}
use Rattle.lowered_trees.proofs.Tests.{passed}
use Rattle.lowered_trees.proofs.Ways.{gives, builds_it, copies_it}

-- what a function of the unit hands back is a word for its result
pub result_found : (g : Setting) (f : ℕ) (test : Func → Bool) → passes test (slice_get (map (func_of (trees_of g.unit.nodes.items)) g.unit.funcs.items) f) ≡ true
    → (h : Func) × (test h ≡ true) × (gives_of (callee_in g f) ≡ word_count (result_of h))
result_found g f test e =
    let x = passed test (slice_get (map (func_of (trees_of g.unit.nodes.items)) g.unit.funcs.items) f) e in
    let y = found_in (func_of (trees_of g.unit.nodes.items)) g.unit.funcs.items f x.0 x.1 in
    (x.0, x.2, gives_found g f y.0 y.1 ∙ result_gives (y.0).kind (signature_of (y.0).rec.ty) ∙ ap (λ (h : Func). word_count (result_of h)) y.2)

constructor_found : (g : Setting) (f : ℕ) (test : Func → Bool) → ((h : Func) → test h ≡ true → is_constructor h.kind ≡ true)
    → passes test (slice_get (map (func_of (trees_of g.unit.nodes.items)) g.unit.funcs.items) f) ≡ true → gives_of (callee_in g f) ≡ 0
constructor_found g f test d e =
    let x = passed test (slice_get (map (func_of (trees_of g.unit.nodes.items)) g.unit.funcs.items) f) e in
    let y = found_in (func_of (trees_of g.unit.nodes.items)) g.unit.funcs.items f x.0 x.1 in
    let k : is_constructor (y.0).kind ≡ true = ap (λ (h : Func). is_constructor h.kind) y.2 ∙ d x.0 x.2 in
    gives_found g f y.0 y.1 ∙ constructor_gives (y.0).kind _ k

-- as many words as are asked
words_many : (ws : List WordOf) (hs : List Head) → are_words ws hs ≡ true → length hs ≡ length ws
words_many [] [] e = refl
words_many [] (h ∷ hs) e = absurd cc
words_many (w ∷ ws) [] e = absurd cc
words_many (w ∷ ws) (h ∷ hs) e = ap suc (words_many ws hs (and_parts (is_word w h) (are_words ws hs) e).1)

words_of_builtin : (b : Builtin) → length (builtin_words b) ≡ words_taken b
words_of_builtin PutChar = refl
words_of_builtin GetChar = refl
words_of_builtin Spawn = refl
words_of_builtin Join = refl
words_of_builtin Abort = refl

void_builtin : (b : Builtin) → is_void (typ (builtin_result b) false false) ≡ gives_none b
void_builtin PutChar = refl
void_builtin GetChar = refl
void_builtin Spawn = refl
void_builtin Join = refl
void_builtin Abort = refl

-- what a pointer points to
pointed : (f : Form) (s : Signature) → called_in f ≡ Some s → pointed_form f ≡ s
pointed (ptr (typ (func r) c v)) s e = cc
pointed (ptr (typ f c v)) s e = absurd cc
pointed f s e = absurd cc

plain_result : (s : Signature) → low.result_of s ≡ result_in Plain s
plain_result (signature ps r s) = refl

called : (t : Typ) (s : Signature) → called_in (form_in t) ≡ Some s → called_type t ≡ s
called (typ f c v) s e = pointed f s e

module _ (g : Setting) {p : Position} {role : Role} {a : Bool} {way : Way} {id : TNodeId} {t : Typ} {cat : Cat} {ids : List TNodeId} {hs : List Head} where
  pub call_runs : (f : ℕ) → Serves a role way → Holds g p role a id (Call f) t cat ids hs → Runs g p id way
  call_runs f w h =
      let k = any_kids g p Word 0 ids hs h.kids in
      let r = result_found g f (λ (x : Func). not (is_special x.kind) && is_result (result_of x) t cat && are_words (words_of x) hs) h.fit.row in
      let i = and_parts (not (is_special (r.0).kind) && is_result (result_of r.0) t cat) (are_words (words_of r.0) hs) r.1 in
      let j = and_parts (not (is_special (r.0).kind)) (is_result (result_of r.0) t cat) i.0 in
      call f ids (stands_as g ids h refl) (all_run g p Word ForValue (λ x y z. z.comes word) ids hs k) (words g p Word (λ x y z. z) ids hs k h.words)
      (hands_back g id way (Call f) t cat (result_of r.0) (gives_of (callee_in g f)) r.2 j.1 h.typ_is (lvalue_told a (Call f) t cat h.tells) (λ e. e) (λ e. e)
      (either w (Call f) t cat h.fit.serves h.fit.way refl refl refl))

  pub virtual_call_runs : (f n slot pointer : ℕ) → Serves a role way → Holds g p role a id (VirtualCall f n slot pointer) t cat ids hs → Runs g p id way
  virtual_call_runs f n slot pointer w h =
      let s = setting_of g.program g.unit g.func in
      let o = one_and_any g p Value Word false ids hs h.kids h.fit.many in
      let c = and_parts (passes (λ (x : Func). is_virtual_call s n slot t cat x && are_words (words_of x) hs) (slice_get s.funcs f))
      (has_pointer_at s.classes pointer n) h.fit.row in
      let r = result_found g f (λ (x : Func). is_virtual_call s n slot t cat x && are_words (words_of x) hs) c.0 in
      let i = and_parts (is_virtual_call s n slot t cat r.0) (are_words (words_of r.0) hs) r.1 in
      let j = and_parts (is_member_of n (r.0).class && (r.0).declared.is_virtual && has_slot s.slots n slot (r.0).declared) (is_result (result_of r.0) t cat) i.0 in
      let e = and_parts (has_word o.head) (have_words o.other_heads) (words_as g (VirtualCall f n slot pointer) (o.head ∷ o.other_heads) h o.hs_are) in
      virtual_call f n slot pointer o.id o.others (stands_as g (o.id ∷ o.others) h o.ids_are) (o.kid.comes for_value) (word_of g o.kid e.0)
      (all_run g p Word ForValue (λ x y z. z.comes word) o.others o.other_heads o.other_kids)
      (words g p Word (λ x y z. z) o.others o.other_heads o.other_kids e.1)
      (hands_back g id way (VirtualCall f n slot pointer) t cat (result_of r.0) (gives_of (callee_in g f)) r.2 j.1 h.typ_is
      (lvalue_told a (VirtualCall f n slot pointer) t cat h.tells) (λ e. e) (λ e. e)
      (either w (VirtualCall f n slot pointer) t cat h.fit.serves h.fit.way refl refl refl))

  pub pointer_call_runs : Serves a role way → Holds g p role a id PointerCall t cat ids hs → Runs g p id way
  pointer_call_runs w h =
      let o = one_and_any g p Value Word false ids hs h.kids h.fit.many in
      let test = λ (x : Signature). is_result (result_in Plain x) t cat && are_words (signature_words None x) o.other_heads in
      let c = and_parts (is_prvalue o.head.cat) (passes test (called_in (form_in o.head.typ))) (row_as g PointerCall (o.head ∷ o.other_heads) h o.hs_are) in
      let r = passed test (called_in (form_in o.head.typ)) c.1 in
      let i = and_parts (is_result (result_in Plain r.0) t cat) (are_words (signature_words None r.0) o.other_heads) r.2 in
      let e = and_parts (has_word o.head) (have_words o.other_heads) (words_as g PointerCall (o.head ∷ o.other_heads) h o.hs_are) in
      let s : called_type (node_in g o.id).typ ≡ r.0 = ap called_type o.kid.typ_is ∙ called o.head.typ r.0 r.1 in
      pointer_call o.id o.others (stands_as g (o.id ∷ o.others) h o.ids_are) (o.kid.comes for_value) (word_of g o.kid e.0)
      (all_run g p Word ForValue (λ x y z. z.comes word) o.others o.other_heads o.other_kids)
      (words g p Word (λ x y z. z) o.others o.other_heads o.other_kids e.1)
      (hands_back g id way PointerCall t cat (result_in Plain r.0) (word_count (low.result_of (called_type (node_in g o.id).typ)))
      (ap (λ x. word_count (low.result_of x)) s ∙ ap word_count (plain_result r.0)) i.0 h.typ_is
      (lvalue_told a PointerCall t cat h.tells) (λ e. e) (λ e. e) (either w PointerCall t cat h.fit.serves h.fit.way refl refl refl))

  pub built_in_runs : (b : Builtin) → Serves a role way → Holds g p role a id (CallBuiltin b) t cat ids hs → Runs g p id way
  built_in_runs b w h =
      let k = any_kids g p Value 0 ids hs h.kids in
      let r = and_parts (is_prvalue cat && typ_eq t (typ (builtin_result b) false false)) (are_words (builtin_words b) hs) h.fit.row in
      let q = and_parts (is_prvalue cat) (typ_eq t (typ (builtin_result b) false false)) r.0 in
      built_in b ids (stands_as g ids h refl) (gives w (CallBuiltin b) h.fit.serves refl refl refl refl)
      (all_run g p Value ForValue (λ x y z. z.comes for_value) ids hs k) (words g p Value (λ x y z. z) ids hs k h.words)
      (same_length g p Value ids hs k ∙ words_many (builtin_words b) hs r.1 ∙ words_of_builtin b)
      (ap is_void h.typ_is ∙ sym (void_alike t (typ (builtin_result b) false false) q.1) ∙ void_builtin b)

  pub construct_runs : (f : ℕ) → Serves a role way → Holds g p role a id (Construct f) t cat ids hs → Runs g p id way
  construct_runs f w h =
      let k = any_kids g p Word 0 ids hs h.kids in
      let test = λ (x : Func). is_constructor_of t x.kind x.class && are_words (signature_words None x.declared.signature) hs in
      let r = and_parts (is_prvalue cat) (passes test (slice_get (setting_of g.program g.unit g.func).funcs f)) h.fit.row in
      same_way g p id Into way (builds_it w (Construct f) h.fit.serves refl refl refl refl refl refl refl refl refl)
      (construct f ids (stands_as g ids h refl) (all_run g p Word ForValue (λ x y z. z.comes word) ids hs k) (words g p Word (λ x y z. z) ids hs k h.words)
      (constructor_found g f test (λ x e. (and_parts (is_constructor x.kind) (passes (λ (n : ℕ). is_class n (form_in t)) x.class)
      (and_parts (is_constructor_of t x.kind x.class) (are_words (signature_words None x.declared.signature) hs) e).0).0) r.1))

  pub copy_construct_runs : (f : ℕ) → Serves a role way → Holds g p role a id (CopyConstruct f) t cat ids hs → Runs g p id way
  copy_construct_runs f w h =
      let test = λ (x : Func). is_constructor x.kind && passes (λ (n : ℕ). is_class n (form_in t) && takes_itself n x.declared.signature) x.class in
      let r = and_parts (is_prvalue cat) (passes test (slice_get (setting_of g.program g.unit g.func).funcs f)) h.fit.row in
      same_way g p id Copying way (copies_it w (CopyConstruct f) refl h.fit.serves)
      (copy_construct f (stands_as g [] h (none_kid g p false ids hs h.kids).0)
      (constructor_found g f test (λ x e. (and_parts (is_constructor x.kind) (passes (λ (n : ℕ). is_class n (form_in t)
      && takes_itself n x.declared.signature) x.class) e).0) r.1))
