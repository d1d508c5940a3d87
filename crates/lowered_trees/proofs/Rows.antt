-- Kids that are run for their words have them, kind by kind.
use Rattle.std.proofs.Common.{◌≡◌, Bool, true, false, not, ◌&&◌, ◌||◌, ◌==◌, cond, List, [], ◌∷◌, length, Some, refl, sym, ap, ◌∙◌, subst}
use Rattle.std.proofs.lemmas.Bool.{and_parts, and_from, or_right}
use Rattle.std.specs.Prelude.{is_some}
use Rattle.cpp_tree.specs.tx_ints.declared.kinds.IntKind.{IntKind}
use Rattle.cpp_tree.specs.tx_ints.declared.kinds.IntKind.TheVariants.{ULong}
use Rattle.cpp_tree.specs.tx_ints.declared.kinds.BinOp.{BinOp}
use Rattle.cpp_tree.specs.cpp_types.Typ.{Typ, typ, void, int}
use Rattle.cpp_tree.specs.cpp_types.Equal.{typ_eq, kind_eq, form_eq}
use Rattle.cpp_tree.specs.cpp_types.Conversion.{is_lvalue}
use Rattle.cpp_tree.specs.cpp_types.declared.ranks.Cat.{Cat}
use Rattle.cpp_tree.specs.cpp_types.declared.ranks.Cat.TheVariants.{Lvalue, Prvalue}
use Rattle.cpp_tree.specs.declared.kinds.TKind.{TKind}
use Rattle.cpp_tree.specs.declared.kinds.TKind.TheVariants.{Load, Convert, Retype, Binary, Conditional, Assign, Update, CopyAssign, Call, VirtualCall}
use Rattle.cpp_tree.specs.declared.kinds.TKind.TheVariants.{PointerCall, Throw, Builtin, Store, Construct, CopyFrom, Init, Defer, Loop, Switch, Return}
use Rattle.cpp_tree.specs.declared.arena.TNodeId.{TNodeId}
use Rattle.cpp_tree.specs.declared.roles.Position.{Position}
use Rattle.cpp_tree.specs.declared.roles.Role.{Role}
use Rattle.cpp_tree.specs.declared.roles.Role.TheVariants.{Value, Zero, Initialiser, CopyInit, Statement, Step, SwitchItem, Scalar, Destruction}
use Rattle.cpp_tree.specs.Roles.{branch_role}
use Rattle.cpp_tree.specs.Rows as rows
use Rattle.cpp_tree.specs.Rows.{row_fits, kid, is_binary, is_update, is_copied_from, result_of, has_value, is_returned, is_return, are_cases}
use Rattle.cpp_tree.specs.WellFormed.{inside, kids_in, enough, no_object, setting_of}
use Rattle.cpp_tree.specs.Typing as typing
use Rattle.unwind_lower.specs.Settings.{Setting}
use Rattle.lowered_trees.specs.Suiting.{kids_suit, is_init}
use Rattle.lowered_trees.specs.Words.{words_suit}
use Rattle.lowered_trees.proofs.Known.{AreKids}
use Rattle.lowered_trees.proofs.Kids.{AllKids, one_kid, two_kids, three_kids, any_kids, one_and_any, two_and_any}
use Rattle.lowered_trees.proofs.Worded.{Tells, lvalue, alike, of_kind, some_promoted, given, right_word, bool_word, or_either, load_word, retype_by, initial_word}
use Rattle.cpp_tree.specs.Typing.{Head, is_prvalue, is_scalar_value, is_kind, kind_in, form_in, word_kind, is_bool, is_class_typ, unqualified, gives, gives_promoted}
use Rattle.cpp_tree.specs.Typing.{same_kind, is_bound, initialises, is_lvalue_of, is_prvalue_of, without_exception}
use Rattle.cpp_tree.specs.Rows.{is_access, is_right, is_load, is_read, is_slot, is_result_address, is_first_place, is_loaded, is_retyped, is_zero_literal, is_thrown}
use Rattle.low_code.specs.Types.{is_void}
use Rattle.lowered_trees.specs.Shapes as shapes
use Rattle.lowered_trees.specs.Suiting.{told, has_word, have_words}
use Rattle.lowered_trees.proofs.Words.{scalar_typed, access_typed, unqualified_void}

one_word : (b : Bool) → b ≡ true → (b && true) ≡ true
one_word b e = and_from b true e refl

two_words : (b c : Bool) → b ≡ true → c ≡ true → (b && (c && true)) ≡ true
two_words b c e f = and_from b (c && true) e (one_word c f)

retype_word : (t : Typ) (cat : Cat) (h : Head) → Tells false h → told false Retype t cat ≡ true → is_retyped t cat h ≡ true → (v : Bool) → is_void t ≡ v
    → (is_void t || (has_word h && true)) ≡ true
retype_word t cat h e u r true i = ap (λ b. b || (has_word h && true)) i
retype_word (typ void c v) Lvalue h e u r false i = absurd cc
retype_word t Lvalue h e u r false i = or_right (is_void t) (has_word h && true) (one_word (has_word h) (retype_by (Some ULong) h e refl r))
retype_word (typ void c v) Prvalue h e u r false i = absurd cc
retype_word t Prvalue h e u r false i =
    or_right (is_void t) (has_word h && true) (one_word (has_word h) (retype_by (word_kind t Prvalue) h e (or_either (is_void t) (is_some (word_kind t Prvalue)) (λ x. absurd (let y = i in cc)) (λ x. x) u) r))

thrown_word : (t : Typ) (h : Head) → Tells false h → is_thrown t h ≡ true → has_word h ≡ true
thrown_word t h e i = by_class (is_class_typ t) i where
  by_class : (b : Bool) → cond b (is_lvalue h.cat && form_eq (form_in t) (form_in h.typ)) (is_scalar_value t && is_prvalue_of t h) ≡ true → has_word h ≡ true
  by_class true j = lvalue false h e (and_parts (is_lvalue h.cat) _ j).0
  by_class false j =
      let p = and_parts (is_scalar_value t) (is_prvalue_of t h) j in
      alike t h (and_parts (is_prvalue h.cat) (typ_eq t h.typ) p.1).1 (scalar_typed t p.0)

valued_typ : (r : Typ) → has_value r ≡ true → is_void r ≡ false
valued_typ (typ void c v) e = absurd cc
valued_typ (typ f c v) e = refl

returned_word : (r : Typ) (h : Head) → Tells false h → has_value r ≡ true → is_returned r h ≡ true → has_word h ≡ true
returned_word r h e v i = or_either (initialises r h) (typing.is_reference r && is_zero_literal h.kind && is_prvalue_of (typ (int ULong) false false) h)
    (λ x. initial_word r h e (valued_typ r v) x)
    (λ x. let p = and_parts (typing.is_reference r && is_zero_literal h.kind) (is_prvalue_of (typ (int ULong) false false) h) x in
    alike (typ (int ULong) false false) h (and_parts (is_prvalue h.cat) (typ_eq (typ (int ULong) false false) h.typ) p.1).1 refl) i

return_words : (g : Setting) (p : Position) (r : Typ) (ids : List TNodeId) (hs : List Head) → AllKids g p Value ids hs → is_return r hs ≡ true → have_words hs ≡ true
return_words g p r [] [] k e = refl
return_words g p r (a ∷ []) (h ∷ []) k e = let q = and_parts (has_value r) (is_returned r h) e in one_word (has_word h) (returned_word r h (k.0).tells q.0 q.1)
return_words g p r [] (h ∷ hs) k e = absurd k
return_words g p r (a ∷ ids) [] k e = absurd k
return_words g p r (a ∷ []) (h ∷ i ∷ hs) k e = absurd k.1
return_words g p r (a ∷ b ∷ ids) (h ∷ []) k e = absurd k.1
return_words g p r (a ∷ b ∷ ids) (h ∷ i ∷ hs) k e = absurd cc

binary_words : (op : BinOp) (k : IntKind) (t : Typ) (cat : Cat) (x y : Head) → Tells false x → Tells false y → is_binary op k t cat x y ≡ true
    → have_words (x ∷ y ∷ []) ≡ true
binary_words op k t Lvalue x y e f i =
    let p = and_parts (rows.is_add op && kind_eq k ULong && gives ULong x && gives ULong y) (rows.is_literal y.kind) i in
    let q = and_parts (rows.is_add op && kind_eq k ULong && gives ULong x) (gives ULong y) p.0 in
    let r = and_parts (rows.is_add op && kind_eq k ULong) (gives ULong x) q.0 in
    two_words (has_word x) (has_word y) (given false ULong x e r.1) (given false ULong y f q.1)
binary_words op k t Prvalue x y e f i =
    let p = and_parts (typing.is_promoted k && gives k x && is_right op k y) _ i in
    let q = and_parts (typing.is_promoted k && gives k x) (is_right op k y) p.0 in
    let r = and_parts (typing.is_promoted k) (gives k x) q.0 in
    two_words (has_word x) (has_word y) (given false k x e r.1) (right_word false op k y f q.1)

assign_words : (k : IntKind) (v : Bool) (t : Typ) (cat : Cat) (x y : Head) → Tells false x
    → (is_lvalue cat && is_access k v t && is_lvalue_of t x && is_prvalue_of (unqualified t) y) ≡ true → have_words (x ∷ y ∷ []) ≡ true
assign_words k v t cat x y e i =
    let p = and_parts (is_lvalue cat && is_access k v t && is_lvalue_of t x) (is_prvalue_of (unqualified t) y) i in
    let q = and_parts (is_lvalue cat && is_access k v t) (is_lvalue_of t x) p.0 in
    let r = and_parts (is_lvalue cat) (is_access k v t) q.0 in
    two_words (has_word x) (has_word y) (lvalue false x e (and_parts (is_lvalue x.cat) (typ_eq t x.typ) q.1).0)
    (alike (unqualified t) y (and_parts (is_prvalue y.cat) (typ_eq (unqualified t) y.typ) p.1).1 (unqualified_void t ∙ access_typed k v t r.1))

update_words : (op : BinOp) (j k : IntKind) (v old : Bool) (t : Typ) (cat : Cat) (x y : Head) → Tells false x → Tells false y
    → is_update op j k v old t cat x y ≡ true → have_words (x ∷ y ∷ []) ≡ true
update_words op j k v old t cat x y e f i =
    let p = and_parts (is_lvalue x.cat && is_access j v x.typ && typing.is_promoted k && is_right op k y) (rows.is_updated old t cat x) i in
    let q = and_parts (is_lvalue x.cat && is_access j v x.typ && typing.is_promoted k) (is_right op k y) p.0 in
    let r = and_parts (is_lvalue x.cat && is_access j v x.typ) (typing.is_promoted k) q.0 in
    two_words (has_word x) (has_word y) (lvalue false x e (and_parts (is_lvalue x.cat) (is_access j v x.typ) r.0).0) (right_word false op k y f q.1)

copy_words : (t : Typ) (cat : Cat) (x y z : Head) → Tells false x → Tells false y
    → (is_lvalue cat && is_class_typ t && is_lvalue_of t x && (is_lvalue y.cat && form_eq (form_in t) (form_in y.typ)) && typing.builds t z) ≡ true
    → have_words (x ∷ y ∷ []) ≡ true
copy_words t cat x y z e f i =
    let p = and_parts (is_lvalue cat && is_class_typ t && is_lvalue_of t x && (is_lvalue y.cat && form_eq (form_in t) (form_in y.typ))) (typing.builds t z) i in
    let q = and_parts (is_lvalue cat && is_class_typ t && is_lvalue_of t x) (is_lvalue y.cat && form_eq (form_in t) (form_in y.typ)) p.0 in
    let r = and_parts (is_lvalue cat && is_class_typ t) (is_lvalue_of t x) q.0 in
    two_words (has_word x) (has_word y) (lvalue false x e (and_parts (is_lvalue x.cat) (typ_eq t x.typ) r.1).0)
    (lvalue false y f (and_parts (is_lvalue y.cat) _ q.1).0)

loaded : (kind : TKind) → is_loaded kind ≡ true → shapes.is_load kind ≡ true
loaded (Load k v) e = refl
loaded kind e = absurd cc

init_word : (s : rows.Setting) (t : Typ) (cat : Cat) (x y : Head) (hs : List Head) → Tells true x
    → row_fits s Init t cat (x ∷ y ∷ hs) ≡ true → has_word x ≡ true
init_word s t cat x y hs e i =
    let object = is_lvalue x.cat && typing.builds x.typ y && rows.are_destructions s x.typ hs in
    let result = is_prvalue x.cat && typing.is_void x.typ && is_loaded x.kind && length (x ∷ y ∷ hs) == 2 in
    let q = and_parts (typing.is_statement_typ t cat) (object || result) i in
    or_either object result
    (λ j. lvalue true x e (and_parts (is_lvalue x.cat) (typing.builds x.typ y) (and_parts (is_lvalue x.cat && typing.builds x.typ y) _ j).0).0)
    (λ j. let r = and_parts (is_prvalue x.cat && typing.is_void x.typ && is_loaded x.kind) (length (x ∷ y ∷ hs) == 2) j in
    ap (λ b. b || not (is_void x.typ)) (loaded x.kind (and_parts (is_prvalue x.cat && typing.is_void x.typ) (is_loaded x.kind) r.0).1)) q.1

told_any : (a : Bool) (t : Typ) (cat : Cat) → told a Retype t cat ≡ true → told false Retype t cat ≡ true
told_any a t Lvalue u = u
told_any a t Prvalue u = u

module _ (g : Setting) (p : Position) (role : Role) (a : Bool) (t : Typ) (cat : Cat) (ids : List TNodeId) (hs : List Head) where
  abbrev Row : TKind → List Head → Type 0
  Row kind js = row_fits (setting_of g.program g.unit g.func) kind t cat js ≡ true

  abbrev Below : TKind → Type 0
  Below kind = AreKids g (inside kind p) (kids_in role kind t hs) 0 (is_init kind) ids hs

  abbrev Many : TKind → Type 0
  Many kind = enough (kids_in role kind t hs) (length hs) ≡ true

  at : (kind : TKind) (js : List Head) → hs ≡ js → Row kind hs → Row kind js
  at kind js e r = subst (λ xs. Row kind xs) e r

  back : (kind : TKind) (js : List Head) → hs ≡ js → words_suit kind t js ≡ true → words_suit kind t hs ≡ true
  back kind js e w = subst (λ xs. words_suit kind t xs ≡ true) (sym e) w

  pub words_from : (kind : TKind) → Row kind hs → told a kind t cat ≡ true → kids_suit kind hs ≡ true → Many kind → Below kind → words_suit kind t hs ≡ true
  words_from (Load k v) r u s m b =
      let o = one_kid g p Value false ids hs b m in
      back (Load k v) (o.head ∷ []) o.hs_are (one_word (has_word o.head)
      (load_word (result_of (setting_of g.program g.unit g.func).function) k v t cat o.head o.kid.tells (at (Load k v) (o.head ∷ []) o.hs_are r)))
  words_from (Convert k) r u s m b =
      let o = one_kid g p Value false ids hs b m in
      let q = and_parts (is_prvalue cat && is_scalar_value t && typing.scalar_of k t) (is_prvalue o.head.cat && is_some (kind_in (form_in o.head.typ)))
      (at (Convert k) (o.head ∷ []) o.hs_are r) in
      back (Convert k) (o.head ∷ []) o.hs_are (one_word (has_word o.head)
      (of_kind o.head (and_parts (is_prvalue o.head.cat) (is_some (kind_in (form_in o.head.typ))) q.1).1))
  words_from (Binary op k) r u s m b =
      let o = two_kids g p Value Value false ids hs b m in
      back (Binary op k) (o.head ∷ o.other_head ∷ []) o.hs_are (binary_words op k t cat o.head o.other_head o.kid.tells o.other_kid.tells
      (at (Binary op k) (o.head ∷ o.other_head ∷ []) o.hs_are r))
  words_from Conditional r u s m b =
      let o = three_kids g p Value (branch_role role (typing.is_void t)) (branch_role role (typing.is_void t)) false ids hs b m in
      let q = and_parts (is_bool o.head && rows.is_branch t cat o.other_head) (rows.is_branch t cat o.last_head)
      (at Conditional (o.head ∷ o.other_head ∷ o.last_head ∷ []) o.hs_are r) in
      back Conditional (o.head ∷ o.other_head ∷ o.last_head ∷ []) o.hs_are (one_word (has_word o.head)
      (bool_word o.head (and_parts (is_bool o.head) (rows.is_branch t cat o.other_head) q.0).0))
  words_from (Loop f) r u s m b =
      let o = three_kids g (inside (Loop f) p) Value Statement Step false ids hs b m in
      back (Loop f) (o.head ∷ o.other_head ∷ o.last_head ∷ []) o.hs_are (one_word (has_word o.head)
      (bool_word o.head (and_parts (typing.is_statement_typ t cat) (is_bool o.head) (at (Loop f) (o.head ∷ o.other_head ∷ o.last_head ∷ []) o.hs_are r)).1))
  words_from (Call f) r u s m b = s
  words_from (VirtualCall f n slot pointer) r u s m b = s
  words_from PointerCall r u s m b = s
  words_from (Builtin f) r u s m b = s
  words_from (Construct f) r u s m b = s
  words_from Return r u s m b =
      return_words g p (result_of (setting_of g.program g.unit g.func).function) ids hs (any_kids g p Value 0 ids hs b)
      (and_parts (typing.is_statement_typ t cat) (is_return (result_of (setting_of g.program g.unit g.func).function) hs) r).1
  words_from Throw r u s m b =
      let o = one_and_any g p Value Scalar false ids hs b m in
      let q = and_parts (is_prvalue cat && typ_eq t (unqualified t) && is_thrown t o.head) _ (at Throw (o.head ∷ o.other_heads) o.hs_are r) in
      back Throw (o.head ∷ o.other_heads) o.hs_are (one_word (has_word o.head)
      (thrown_word t o.head o.kid.tells (and_parts (is_prvalue cat && typ_eq t (unqualified t)) (is_thrown t o.head) q.0).1))
  words_from (Store k v) r u s m b =
      let o = one_kid g p Value false ids hs b m in
      let q = and_parts (is_prvalue cat && is_access k v t) (initialises t o.head) (at (Store k v) (o.head ∷ []) o.hs_are r) in
      back (Store k v) (o.head ∷ []) o.hs_are (one_word (has_word o.head)
      (initial_word t o.head o.kid.tells (access_typed k v t (and_parts (is_prvalue cat) (is_access k v t) q.0).1) q.1))
  words_from CopyFrom r u s m b =
      let o = two_kids g p Value CopyInit false ids hs b m in
      let q = and_parts (is_prvalue cat && is_copied_from t o.head) (typing.builds t o.other_head) (at CopyFrom (o.head ∷ o.other_head ∷ []) o.hs_are r) in
      let i = and_parts (is_prvalue cat) (is_copied_from t o.head) q.0 in
      back CopyFrom (o.head ∷ o.other_head ∷ []) o.hs_are (one_word (has_word o.head) (lvalue false o.head o.kid.tells (and_parts (is_lvalue o.head.cat) _ i.1).0))
  words_from Defer r u s m b =
      let o = one_and_any g p Value Destruction false ids hs b m in
      let q = and_parts (typing.is_statement_typ t cat) (is_lvalue o.head.cat && rows.are_destructions (setting_of g.program g.unit g.func) o.head.typ o.other_heads)
      (at Defer (o.head ∷ o.other_heads) o.hs_are r) in
      back Defer (o.head ∷ o.other_heads) o.hs_are (one_word (has_word o.head) (lvalue false o.head o.kid.tells (and_parts (is_lvalue o.head.cat) _ q.1).0))
  words_from Switch r u s m b =
      let o = one_and_any g (inside Switch p) Value SwitchItem false ids hs b m in
      let q = and_parts (typing.is_statement_typ t cat) (is_prvalue o.head.cat && gives_promoted (kind_in (form_in o.head.typ))
      && are_cases (kind_in (form_in o.head.typ)) o.other_heads) (at Switch (o.head ∷ o.other_heads) o.hs_are r) in
      let i = and_parts (is_prvalue o.head.cat && gives_promoted (kind_in (form_in o.head.typ))) (are_cases (kind_in (form_in o.head.typ)) o.other_heads) q.1 in
      let j = and_parts (is_prvalue o.head.cat) (gives_promoted (kind_in (form_in o.head.typ))) i.0 in
      back Switch (o.head ∷ o.other_heads) o.hs_are (one_word (has_word o.head) (of_kind o.head (some_promoted (kind_in (form_in o.head.typ)) j.1)))
  words_from Retype r u s m b =
      let o = one_kid g p Value false ids hs b m in
      back Retype (o.head ∷ []) o.hs_are (retype_word t cat o.head o.kid.tells (told_any a t cat u) (at Retype (o.head ∷ []) o.hs_are r) (is_void t) refl)
  words_from (Assign k v) r u s m b =
      let o = two_kids g p Value Value false ids hs b m in
      back (Assign k v) (o.head ∷ o.other_head ∷ []) o.hs_are (assign_words k v t cat o.head o.other_head o.kid.tells (at (Assign k v) (o.head ∷ o.other_head ∷ []) o.hs_are r))
  words_from (Update op j k v old) r u s m b =
      let o = two_kids g p Value Value false ids hs b m in
      back (Update op j k v old) (o.head ∷ o.other_head ∷ []) o.hs_are (update_words op j k v old t cat o.head o.other_head o.kid.tells o.other_kid.tells
      (at (Update op j k v old) (o.head ∷ o.other_head ∷ []) o.hs_are r))
  words_from CopyAssign r u s m b =
      let o = three_kids g p Value Value CopyInit false ids hs b m in
      back CopyAssign (o.head ∷ o.other_head ∷ o.last_head ∷ []) o.hs_are (copy_words t cat o.head o.other_head o.last_head o.kid.tells o.other_kid.tells
      (at CopyAssign (o.head ∷ o.other_head ∷ o.last_head ∷ []) o.hs_are r))
  words_from Init r u s m b =
      let o = two_and_any g p Value (cond (no_object hs) Zero Initialiser) Destruction true ids hs b m in
      back Init (o.head ∷ o.other_head ∷ o.other_heads) o.hs_are (one_word (has_word o.head)
      (init_word (setting_of g.program g.unit g.func) t cat o.head o.other_head o.other_heads o.kid.tells (at Init (o.head ∷ o.other_head ∷ o.other_heads) o.hs_are r)))
  words_from kind r u s m b = refl
