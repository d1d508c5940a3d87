-- Which nodes that fit have words: what their rows say, and what is told of their types.
use Rattle.std.proofs.Common.{◌≡◌, Bool, true, false, not, ◌&&◌, cond, List, [], ◌∷◌, refl, sym, ap, ◌∙◌}
use Rattle.std.proofs.lemmas.Bool.{and_parts, or_right}
use Rattle.cpp_tree.specs.tx_ints.declared.kinds.IntKind.{IntKind}
use Rattle.cpp_tree.specs.tx_ints.declared.kinds.IntKind.TheVariants.{ULong, Bool as BoolKind}
use Rattle.cpp_tree.specs.tx_ints.declared.kinds.BinOp.{BinOp}
use Rattle.cpp_tree.specs.cpp_types.Typ.{Typ, typ, void, int}
use Rattle.cpp_tree.specs.cpp_types.Equal.{typ_eq, flag_eq}
use Rattle.cpp_tree.specs.cpp_types.Conversion.{is_lvalue}
use Rattle.cpp_tree.specs.cpp_types.declared.ranks.Cat.{Cat}
use Rattle.cpp_tree.specs.cpp_types.declared.ranks.Cat.TheVariants.{Lvalue, Prvalue}
use Rattle.cpp_tree.specs.declared.kinds.TKind.{TKind}
use Rattle.cpp_tree.specs.declared.kinds.TKind.TheVariants.{Literal, Local, Global, Function, ClassTable, Load, Convert, Binary, Assign, Update}
use Rattle.cpp_tree.specs.declared.kinds.TKind.TheVariants.{CopyAssign, Materialize}
use Rattle.cpp_tree.specs.Typing.{Head, is_prvalue, is_scalar_value, scalar_of, is_kind, kind_in, form_in, word_kind, passes, is_word_of, is_bool, is_class_typ}
use Rattle.cpp_tree.specs.Typing as typing
use Rattle.cpp_tree.specs.Rows.{row_fits, is_access, is_comparison, is_updated}
use Rattle.cpp_tree.specs.Rows as rows
use Rattle.low_code.specs.Types.{is_void}
use Rattle.lowered_trees.specs.Suiting.{told}
use Rattle.lowered_trees.specs.Words.{tells, gives_word}
use Rattle.lowered_trees.proofs.Facts.{void_alike}

pub scalar_typed : (t : Typ) → is_scalar_value t ≡ true → is_void t ≡ false
scalar_typed (typ void false false) e = absurd cc
scalar_typed (typ void c v) e = absurd cc
scalar_typed (typ f c v) e = refl

kind_typed : (k : IntKind) (t : Typ) → scalar_of k t ≡ true → is_void t ≡ false
kind_typed k (typ void c v) e = absurd cc
kind_typed k (typ f c v) e = refl

pub unqualified_void : (t : Typ) → is_void (typing.unqualified t) ≡ is_void t
unqualified_void (typ f c v) = refl

not_from : (b : Bool) → b ≡ false → not b ≡ true
not_from b e = ap not e

-- a node with a type tells so
by_type : (a : Bool) (kind : TKind) (t : Typ) (cat : Cat) → is_void t ≡ false → tells a kind t cat ≡ true
by_type a kind t cat e = or_right (not (gives_word a kind cat)) (not (is_void t)) (ap not e)

flip : (c : Bool) → not c ≡ true → c ≡ false
flip true e = absurd cc
flip false e = refl

told_lvalue : (a : Bool) (kind : TKind) (t : Typ) (cat : Cat) → told a kind t cat ≡ true → is_lvalue cat ≡ true → is_void t ≡ false
told_lvalue a kind t Prvalue e l = absurd cc
told_lvalue a kind t Lvalue e l = flip (is_void t) e

pub bool_typed : (h : Head) → is_bool h ≡ true → is_void h.typ ≡ false
bool_typed h e = void_typed h.typ (typ (int BoolKind) false false) (and_parts (is_prvalue h.cat) (typ_eq h.typ (typ (int BoolKind) false false)) e).1 refl where
  void_typed : (u v : Typ) → typ_eq u v ≡ true → is_void v ≡ false → is_void u ≡ false
  void_typed u v e f = sym (void_alike u v e) ∙ f

either_typed : (b c : Bool) {x y : Bool} (t : Typ) → (x ≡ true → is_void t ≡ false) → (y ≡ true → is_void t ≡ false) → cond b x y ≡ true → is_void t ≡ false
either_typed true c t f g e = f e
either_typed false c t f g e = g e

binary_typed : (op : BinOp) (k : IntKind) (t : Typ) (x y : Head) → rows.is_binary op k t Prvalue x y ≡ true → is_void t ≡ false
binary_typed op k t x y e =
    let h : Head = record { kind = x.kind; typ = t; cat = Prvalue } in
    let p = and_parts (typing.is_promoted k && typing.gives k x && rows.is_right op k y) (cond (is_comparison op) (is_bool h) (is_scalar_value t && scalar_of k t)) e in
    either_typed (is_comparison op) true t (bool_typed h) (λ f. scalar_typed t (and_parts (is_scalar_value t) (scalar_of k t) f).0) p.1

pub access_typed : (k : IntKind) (v : Bool) (t : Typ) → is_access k v t ≡ true → is_void t ≡ false
access_typed k v t e = kind_typed k t (and_parts (scalar_of k t) (flag_eq v (typing.is_volatile_typ t)) e).0

update_typed : (op : BinOp) (j k : IntKind) (v old : Bool) (t : Typ) (x y : Head) → rows.is_update op j k v old t Prvalue x y ≡ true → is_void t ≡ false
update_typed op j k v false t x y e = absurd (let p = and_parts (is_lvalue x.cat && is_access j v x.typ && typing.is_promoted k && rows.is_right op k y) false e in let z : false ≡ true = p.1 in cc)
update_typed op j k v true t x y e =
    let p = and_parts (is_lvalue x.cat && is_access j v x.typ && typing.is_promoted k && rows.is_right op k y) (typ_eq t (typing.unqualified x.typ)) e in
    let q = and_parts (is_lvalue x.cat && is_access j v x.typ && typing.is_promoted k) (rows.is_right op k y) p.0 in
    let r = and_parts (is_lvalue x.cat && is_access j v x.typ) (typing.is_promoted k) q.0 in
    let i = and_parts (is_lvalue x.cat) (is_access j v x.typ) r.0 in
    sym (void_alike t (typing.unqualified x.typ) p.1) ∙ unqualified_void x.typ ∙ access_typed j v x.typ i.1

-- the row of a node and what is told of it say whether it gives a word
pub tells_from : (s : rows.Setting) (a : Bool) (kind : TKind) (t : Typ) (cat : Cat) (hs : List Head) → row_fits s kind t cat hs ≡ true
    → told a kind t cat ≡ true → tells a kind t cat ≡ true
tells_from s a kind t Lvalue hs r u = by_type a kind t Lvalue (told_lvalue a kind t Lvalue u refl)
tells_from s a (Literal w) t Prvalue hs r u = by_type a (Literal w) t Prvalue (scalar_typed t (and_parts (is_scalar_value t) (passes (λ (k : IntKind). is_word_of k w) (kind_in (form_in t))) r).0)
tells_from s a (Local n) t Prvalue hs r u = absurd cc
tells_from s a (Global n) t Prvalue hs r u = absurd cc
tells_from s a (Function n) t Prvalue hs r u = absurd cc
tells_from s a (ClassTable n) t Prvalue hs r u = by_type a (ClassTable n) t Prvalue
    (sym (void_alike t (typ (int ULong) false false) (and_parts (typ_eq t (typ (int ULong) false false)) _ r).0))
tells_from s true (Load k v) t Prvalue hs r u = refl
tells_from s false (Load k v) t Prvalue hs r u = by_type false (Load k v) t Prvalue (flip (is_void t) u)
tells_from s a (Convert k) t Prvalue hs r u = by_type a (Convert k) t Prvalue
    (scalar_typed t (and_parts (is_scalar_value t) (scalar_of k t) (and_parts (is_scalar_value t && scalar_of k t) _ r).0).0)
tells_from s a (Binary op k) t Prvalue (x ∷ y ∷ hs) r u = by_type a (Binary op k) t Prvalue (binary_typed op k t x y r)
tells_from s a (Binary op k) t Prvalue (x ∷ []) r u = absurd cc
tells_from s a (Binary op k) t Prvalue [] r u = absurd cc
tells_from s a (Assign k v) t Prvalue hs r u = absurd cc
tells_from s a (Update op j k v old) t Prvalue (x ∷ y ∷ hs) r u = by_type a (Update op j k v old) t Prvalue (update_typed op j k v old t x y r)
tells_from s a (Update op j k v old) t Prvalue (x ∷ []) r u = absurd cc
tells_from s a (Update op j k v old) t Prvalue [] r u = absurd cc
tells_from s a CopyAssign t Prvalue hs r u = absurd cc
tells_from s a (Materialize n b) t Prvalue hs r u = absurd cc
tells_from s true kind t Prvalue hs r u = refl
tells_from s false kind t Prvalue hs r u = refl
