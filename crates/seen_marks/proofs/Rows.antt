-- What builds an object in a node at which the check finds nothing, is seen by itself or has no volatile part.
use Rattle.std.proofs.Common.{◌≡◌, ◌∙◌, sym, ap, refl, ℕ, zero, suc, Bool, true, false, not, ◌&&◌, ◌||◌, cond, List, [], ◌∷◌, slice_get, Option, Some}
use Rattle.std.proofs.Common.{None, length}
use Rattle.std.specs.Prelude.{unwrap_or, ◌==◌}
use Rattle.std.specs.List.{list_all}
use Rattle.std.specs.Option.{option_or}
use Rattle.std.proofs.lemmas.Bool.{false≢true, and_parts, and_from}
use Rattle.cpp_types.specs.Typ.{Typ, typ, class, closure, tx_ex}
use Rattle.cpp_types.specs.Conversion.{is_object_form}
use Rattle.cpp_types.specs.Equal.{typ_eq}
use Rattle.cpp_types.specs.declared.ranks.Cat.{Cat}
use Rattle.cpp_types.specs.declared.ranks.Cat.TheVariants.{Lvalue, Prvalue}
use Rattle.cpp_tree.specs.declared.kinds.TKind.{TKind}
use Rattle.cpp_tree.specs.declared.kinds.TKind.TheVariants.{Conditional, Comma, CopyAssign, Materialize, FullExpression, Call, VirtualCall, PointerCall}
use Rattle.cpp_tree.specs.declared.kinds.TKind.TheVariants.{Store, CopyScalar, Construct, CopyFrom, Pieces, Piece, Elements, Init}
use Rattle.cpp_tree.specs.declared.roles.Role.{Role}
use Rattle.cpp_tree.specs.declared.roles.Role.TheVariants.{Value, Word, Initialiser, CopyInit, Zero, Step, Part, CopiedPart}
use Rattle.cpp_tree.specs.declared.roles.Role.TheVariants.{Destruction}
use Rattle.cpp_tree.specs.Trees.{node, Trees, none, more}
use Rattle.cpp_tree.specs.Typing.{Head, head_of, passes, form_in, is_void, is_class_typ, builds, is_class_prvalue, is_argument, is_prvalue, is_lvalue_of}
use Rattle.cpp_tree.specs.Typing.{is_result}
use Rattle.cpp_tree.specs.Typing.{Word as WordOf, object, passed, is_word, are_words, initialises, is_statement_typ}
use Rattle.cpp_types.specs.Conversion.{is_lvalue}
use Rattle.cpp_types.specs.Typ.{Signature}
use Rattle.cpp_tree.specs.declared.program.FuncKind.TheVariants.{Plain}
use Rattle.cpp_tree.specs.Roles.{is_throw, Kids, only, and_any, role_at, serves, way_fits, may_build, branch_role, result_role, part_role}
use Rattle.cpp_tree.specs.Roles.{object_role}
use Rattle.cpp_tree.specs.Rows.{Setting, row_fits, words_of, signature_words, result_in, called_in, is_loaded, are_destructions}
use Rattle.cpp_tree.specs.Units.{Func}
use Rattle.cpp_tree.specs.WellFormed.{heads_of, kids_in}
use Rattle.tx_unsafe.specs.Volatile.{is_volatile_object, is_class_object}
use Rattle.tx_unsafe.specs.Unsafe.{first_of, is_local, builds_object, is_made}
use Rattle.seen_marks.specs.Marks.{is_marked_store}
use Rattle.seen_marks.proofs.Types.{Marks, Dull, AllDull, IsClosed, is_calm, class_object, calm_class, built, built_class}
use Rattle.seen_marks.proofs.Types.{branch_calm, value_equal}
use Rattle.seen_marks.proofs.Types.{equal_class, equal_object, same_volatile, pieces_dull, elements_calm, plain_mark, seen_or_dull, not_false}
use Rattle.seen_marks.proofs.Findings.{Unfound}

-- What a role asks of a node that serves in it

abbrev pub asks : Marks → Role → Head → Bool
asks v Initialiser h = is_calm v h
asks v CopyInit h = is_calm v h
asks v Part h = not (is_volatile_object v h.typ)
asks v CopiedPart h = not (is_volatile_object v h.typ)
asks v Word h = not (is_argument h.kind) || is_class_typ h.typ
asks v role h = true

abbrev pub role_of : Kids → ℕ → Role
role_of ks i = unwrap_or (role_at ks i) Value

abbrev pub all_asked : Marks → Kids → ℕ → List Head → Bool
all_asked v ks i [] = true
all_asked v ks i (h ∷ hs) = asks v (role_of ks i) h && all_asked v ks (suc i) hs

-- Roles that ask for nothing

abbrev is_plain : Role → Bool
is_plain Initialiser = false
is_plain CopyInit = false
is_plain Part = false
is_plain CopiedPart = false
is_plain Word = false
is_plain role = true

plain_asks : (v : Marks) (role : Role) (h : Head) → is_plain role ≡ true → asks v role h ≡ true
plain_asks v Initialiser h p = absurd (false≢true p)
plain_asks v CopyInit h p = absurd (false≢true p)
plain_asks v Part h p = absurd (false≢true p)
plain_asks v CopiedPart h p = absurd (false≢true p)
plain_asks v Word h p = absurd (false≢true p)
plain_asks v role h p = refl

abbrev is_plain_other : Option Role → Bool
is_plain_other None = true
is_plain_other (Some r) = is_plain r

role_plain : (rs : List Role) (others : Option Role) (i : ℕ) → list_all is_plain rs ≡ true → is_plain_other others ≡ true
    → is_plain (unwrap_or (option_or (slice_get rs i) others) Value) ≡ true
role_plain [] None i h g = refl
role_plain [] (Some r) i h g = g
role_plain (r ∷ rs) others zero h g = (and_parts (is_plain r) (list_all is_plain rs) h).0
role_plain (r ∷ rs) others (suc i) h g = role_plain rs others i (and_parts (is_plain r) (list_all is_plain rs) h).1 g

pub plain_kids : (v : Marks) (ks : Kids) (i : ℕ) (hs : List Head) → list_all is_plain ks.fixed ≡ true → is_plain_other ks.others ≡ true
    → all_asked v ks i hs ≡ true
plain_kids v ks i [] p q = refl
plain_kids v ks i (h ∷ hs) p q = and_from _ _ (plain_asks v (role_of ks i) h (role_plain ks.fixed ks.others i p q)) (plain_kids v ks (suc i) hs p q)

-- behind fixed kids

behind_one : (v : Marks) (r : Role) (i : ℕ) (hs : List Head) → all_asked v (and_any (r ∷ []) Destruction) (suc i) hs ≡ true
behind_one v r i [] = refl
behind_one v r i (h ∷ hs) = behind_one v r (suc i) hs

behind_two : (v : Marks) (r q : Role) (i : ℕ) (hs : List Head) → all_asked v (and_any (r ∷ q ∷ []) Destruction) (suc (suc i)) hs ≡ true
behind_two v r q i [] = refl
behind_two v r q i (h ∷ hs) = behind_two v r q (suc i) hs

only_one : (v : Marks) (r : Role) (i : ℕ) (hs : List Head) → all_asked v (only (r ∷ [])) (suc i) hs ≡ true
only_one v r i [] = refl
only_one v r i (h ∷ hs) = only_one v r (suc i) hs

only_two : (v : Marks) (r q : Role) (i : ℕ) (hs : List Head) → all_asked v (only (r ∷ q ∷ [])) (suc (suc i)) hs ≡ true
only_two v r q i [] = refl
only_two v r q i (h ∷ hs) = only_two v r q (suc i) hs

only_three : (v : Marks) (r q p : Role) (i : ℕ) (hs : List Head) → all_asked v (only (r ∷ q ∷ p ∷ [])) (suc (suc (suc i))) hs ≡ true
only_three v r q p i [] = refl
only_three v r q p i (h ∷ hs) = only_three v r q p (suc i) hs

-- Words of calls

abbrev all_words : List Head → Bool
all_words hs = list_all (λ (h : Head). not (is_argument h.kind) || is_class_typ h.typ) hs

word_class : (w : WordOf) (h : Head) → is_word w h ≡ true → (not (is_argument h.kind) || is_class_typ h.typ) ≡ true
word_class (object n) h e = no_argument (is_argument h.kind) (is_class_typ h.typ) (and_parts _ _ e).1
  where
    no_argument : (a b : Bool) → not a ≡ true → (not a || b) ≡ true
    no_argument a b x = ap (λ z. z || b) x
word_class (passed (typ f c p)) h e = by_form (is_object_form f) refl e
  where
    no_argument : (a b : Bool) → not a ≡ true → (not a || b) ≡ true
    no_argument a b x = ap (λ z. z || b) x

    right : (a b : Bool) → b ≡ true → (a || b) ≡ true
    right true b x = refl
    right false b x = x

    by_form : (b : Bool) → is_object_form f ≡ b
        → cond b (is_argument h.kind && is_lvalue_of (typ f false false) h) (not (is_argument h.kind) && initialises (typ f c p) h) ≡ true
        → (not (is_argument h.kind) || is_class_typ h.typ) ≡ true
    by_form true o x = right (not (is_argument h.kind)) (is_class_typ h.typ)
        (equal_class (typ f false false) h.typ (and_parts _ _ (and_parts (is_argument h.kind) _ x).1).1 o)
    by_form false o x = no_argument (is_argument h.kind) (is_class_typ h.typ) (and_parts _ _ x).0

words_class : (ws : List WordOf) (hs : List Head) → are_words ws hs ≡ true → all_words hs ≡ true
words_class [] [] e = refl
words_class (w ∷ ws) (h ∷ hs) e = let a = and_parts (is_word w h) (are_words ws hs) e in and_from _ _ (word_class w h a.0) (words_class ws hs a.1)
words_class [] (h ∷ hs) e = absurd (false≢true e)
words_class (w ∷ ws) [] e = absurd (false≢true e)

words_asked : (v : Marks) (i : ℕ) (hs : List Head) → all_words hs ≡ true → all_asked v (and_any [] Word) i hs ≡ true
words_asked v i [] e = refl
words_asked v i (h ∷ hs) e = let a = and_parts (not (is_argument h.kind) || is_class_typ h.typ) (all_words hs) e in
    and_from _ _ a.0 (words_asked v (suc i) hs a.1)

later_words : (v : Marks) (i : ℕ) (hs : List Head) → all_words hs ≡ true → all_asked v (and_any (Value ∷ []) Word) (suc i) hs ≡ true
later_words v i [] e = refl
later_words v i (h ∷ hs) e = let a = and_parts (not (is_argument h.kind) || is_class_typ h.typ) (all_words hs) e in
    and_from _ _ a.0 (later_words v (suc i) hs a.1)

passed_by : {A : Type 0} (test : A → Bool) (o : Option A) (R : Type 0) → ((a : A) → test a ≡ true → R) → passes test o ≡ true → R
passed_by test None R f h = absurd (false≢true h)
passed_by test (Some a) R f h = f a h

-- Roles that build

abbrev takes : Role → Bool
takes Initialiser = true
takes CopyInit = true
takes Part = true
takes CopiedPart = true
takes role = false

right_not : (a b c : Bool) → c ≡ true → (a || b || c) ≡ true
right_not true b c h = refl
right_not false true c h = refl
right_not false false c h = h

calm_by : (v : Marks) (role : Role) (h : Head) → takes role ≡ true → asks v role h ≡ true → is_calm v h ≡ true
calm_by v Initialiser h k a = a
calm_by v CopyInit h k a = a
calm_by v Part h k a = right_not (is_throw h.kind) (is_class_object h.typ) _ a
calm_by v CopiedPart h k a = right_not (is_throw h.kind) (is_class_object h.typ) _ a
calm_by v role h k a = absurd (false≢true k)

store_role : (role : Role) (k : _) (b : Bool) → serves role (Store k b) ≡ true → takes role ≡ true
store_role Initialiser k b s = refl
store_role role k b s = absurd (false≢true s)

copy_role : (role : Role) (k : _) (b : Bool) → serves role (CopyScalar k b) ≡ true → takes role ≡ true
copy_role CopyInit k b s = refl
copy_role role k b s = absurd (false≢true s)

from_role : (role : Role) → serves role CopyFrom ≡ true → takes role ≡ true
from_role Initialiser s = refl
from_role role s = absurd (false≢true s)

pieces_role : (role : Role) → serves role Pieces ≡ true → takes role ≡ true
pieces_role Initialiser s = refl
pieces_role CopyInit s = refl
pieces_role role s = absurd (false≢true s)

elements_role : (role : Role) (n m : ℕ) → serves role (Elements n m) ≡ true → takes role ≡ true
elements_role Initialiser n m s = refl
elements_role CopyInit n m s = refl
elements_role role n m s = absurd (false≢true s)

piece_role : (role : Role) (n : ℕ) → serves role (Piece n) ≡ true → takes role ≡ true
piece_role Part n s = refl
piece_role CopiedPart n s = refl
piece_role role n s = absurd (false≢true s)

argument_role : (v : Marks) (role : Role) (n : ℕ) (t : Typ) (cat : Cat) → serves role (Materialize n true) ≡ true
    → asks v role (record { kind = Materialize n true; typ = t; cat = cat }) ≡ true → is_class_typ t ≡ true
argument_role v Word n t cat s a = a
argument_role v role n t cat s a = absurd (false≢true s)

object_asks : (v : Marks) (role : Role) (h : Head) → is_calm v h ≡ true → asks v (object_role role) h ≡ true
object_asks v CopiedPart h c = c
object_asks v CopyInit h c = c
object_asks v role h c = c

abbrev is_building : Role → Bool
is_building Initialiser = true
is_building role = false

branch_asks : (v : Marks) (role : Role) (b : Bool) (h : Head) → (is_building role ≡ true → is_calm v h ≡ true) → asks v (branch_role role b) h ≡ true
branch_asks v Initialiser b h f = f refl
branch_asks v Value b h f = refl
branch_asks v Step b h f = refl
branch_asks v role true h f = refl
branch_asks v role false h f = refl

result_asks : (v : Marks) (role : Role) (h : Head) → (is_building role ≡ true → is_calm v h ≡ true) → asks v (result_role role) h ≡ true
result_asks v Initialiser h f = f refl
result_asks v role h f = refl

build_way : (role : Role) (kind : TKind) (t : Typ) (cat : Cat) → is_building role ≡ true → way_fits role kind t cat ≡ true → may_build kind t cat ≡ true
build_way Initialiser kind t cat b w = w
build_way role kind t cat b w = absurd (false≢true b)

building_takes : (role : Role) → is_building role ≡ true → takes role ≡ true
building_takes Initialiser h = refl
building_takes role h = absurd (false≢true h)

part_asks : (v : Marks) (role : Role) (i : ℕ) (hs : List Head) → AllDull v hs → all_asked v (and_any [] (part_role role)) i hs ≡ true
part_asks v role i [] d = refl
part_asks v role i (h ∷ hs) d = and_from _ _ (one role) (part_asks v role (suc i) hs d.1)
  where
    one : (role : Role) → asks v (part_role role) h ≡ true
    one CopyInit = not_false (is_volatile_object v h.typ) d.0
    one role = not_false (is_volatile_object v h.typ) d.0

-- What is known of a node

pub record Known (v : Marks) (s : Setting) (role : Role) (kind : TKind) (t : Typ) (cat : Cat) (kids : Trees) : Type 0 where
  pub serves : serves role kind ≡ true
  pub way : way_fits role kind t cat ≡ true
  pub row : row_fits s kind t cat (heads_of kids) ≡ true
  pub unfound : Unfound v kind t cat (first_of kids)
  pub asked : asks v role (record { kind = kind; typ = t; cat = cat }) ≡ true

-- Marks

mark_of : (v : Marks) (role : Role) (kind : TKind) (t : Typ) (cat : Cat) → takes role ≡ true → is_throw kind ≡ false
    → asks v role (record { kind = kind; typ = t; cat = cat }) ≡ true → (is_class_object t || not (is_volatile_object v t)) ≡ true
mark_of v role kind t cat k n a = less (is_throw kind) (is_class_object t) (not (is_volatile_object v t)) n
    (calm_by v role (record { kind = kind; typ = t; cat = cat }) k a)
  where
    less : (x y z : Bool) → x ≡ false → (x || y || z) ≡ true → (y || z) ≡ true
    less true y z e h = absurd cc
    less false true z e h = refl
    less false false z e h = h

pub unmarked_kind : (v : Marks) (s : Setting) (role : Role) (kind : TKind) (t : Typ) (cat : Cat) (kids : Trees) → Known v s role kind t cat kids
    → not (is_marked_store kind) ≡ true
unmarked_kind v s role (Store k b) t cat kids x = plain_mark v k b t (and_parts _ _ (and_parts _ _ x.row).0).1
    (mark_of v role (Store k b) t cat (store_role role k b x.serves) refl x.asked)
unmarked_kind v s role (CopyScalar k b) t cat kids x = plain_mark v k b t (and_parts _ _ x.row).1
    (mark_of v role (CopyScalar k b) t cat (copy_role role k b x.serves) refl x.asked)
unmarked_kind v s role kind t cat kids x = refl

-- Kids of each kind

dull_object : (v : Marks) (s : Setting) (role : Role) (kind : TKind) (t : Typ) (cat : Cat) (kids : Trees) → Known v s role kind t cat kids
    → takes role ≡ true → is_throw kind ≡ false → builds_object kind cat ≡ true → Dull v t
dull_object v s role kind t cat kids x k n b = seen_or_dull v (builds_object kind cat) (record { kind = kind; typ = t; cat = cat }) b n x.unfound.builds
    (calm_by v role (record { kind = kind; typ = t; cat = cat }) k x.asked)

class_dull : (c m : Bool) → c ≡ true → (c && m) ≡ false → m ≡ false
class_dull true m h g = g
class_dull false m h g = absurd cc

class_of : (t : Typ) (cat : Cat) → is_class_prvalue t cat ≡ true → is_class_typ t ≡ true
class_of t Prvalue h = h
class_of t Lvalue h = absurd (false≢true h)

argument_calm : (v : Marks) (n : ℕ) (t : Typ) (h : Head) → is_class_typ t ≡ true → (is_made (Materialize n true) t && is_volatile_object v t) ≡ false
    → builds t h ≡ true
    → is_calm v h ≡ true
argument_calm v n (typ (class m) c p) h k d b = built_class v (typ (class m) c p) h refl b
argument_calm v n (typ (closure m) c p) h k d b = built_class v (typ (closure m) c p) h refl b
argument_calm v n (typ (tx_ex u) c p) h k d b = built v (typ (tx_ex u) c p) h b d
argument_calm v n (typ f c p) h k d b = absurd (false≢true k)

calm_equal : (v : Marks) (t : Typ) (h : Head) → (is_class_object t || not (is_volatile_object v t)) ≡ true → typ_eq t h.typ ≡ true → is_calm v h ≡ true
calm_equal v t h m e = more (is_throw h.kind) (is_class_object h.typ) (not (is_volatile_object v h.typ))
    (sym (same (is_class_object t) (is_class_object h.typ) (is_volatile_object v t) (is_volatile_object v h.typ)
    (equal_object t h.typ e) (same_volatile v t h.typ e)) ∙ m)
  where
    more : (a b c : Bool) → (b || c) ≡ true → (a || b || c) ≡ true
    more true b c x = refl
    more false true c x = refl
    more false false c x = x

    same : (a b c d : Bool) → a ≡ b → c ≡ d → (a || not c) ≡ (b || not d)
    same a b c d x y = ap (λ z. z || not c) x ∙ ap (λ z. b || not z) y

-- the object of a declaration
declared_dull : (l c m : Bool) → ((l || not c) && m) ≡ false → (c && m) ≡ false → m ≡ false
declared_dull l c false h g = refl
declared_dull l true true h g = absurd cc
declared_dull true false true h g = absurd cc
declared_dull false false true h g = absurd cc

zero_asks : (v : Marks) (b : Bool) (h : Head) → (b ≡ false → is_calm v h ≡ true) → asks v (cond b Zero Initialiser) h ≡ true
zero_asks v true h f = refl
zero_asks v false h f = f refl

pointer_words : (t : Typ) (cat : Cat) (h : Head) (hs : List Head)
    → (is_prvalue h.cat && passes (λ (g : Signature). is_result (result_in Plain g) t cat && are_words (signature_words None g) hs)
    (called_in (form_in h.typ))) ≡ true
    → all_words hs ≡ true
pointer_words t cat h hs e = passed_by (λ (g : Signature). is_result (result_in Plain g) t cat && are_words (signature_words None g) hs)
    (called_in (form_in h.typ)) (all_words hs ≡ true) (λ g q. words_class (signature_words None g) hs (and_parts _ _ q).1) (and_parts (is_prvalue h.cat) _ e).1

init_builds : (a l b d q y z n : Bool) → (a && (l && b && d || q && y && z && n)) ≡ true → q ≡ false → b ≡ true
init_builds a l true d q y z n h e = refl
init_builds true true false d false y z n h e = absurd cc
init_builds true false false d false y z n h e = absurd cc
init_builds false l false d false y z n h e = absurd cc
init_builds a l false d true y z n h e = absurd cc

pub kids_asked : (v : Marks) (s : Setting) → IsClosed v s.classes → (role : Role) (kind : TKind) (t : Typ) (cat : Cat) (kids : Trees)
    → Known v s role kind t cat kids → all_asked v (kids_in role kind t (heads_of kids)) 0 (heads_of kids) ≡ true
kids_asked v s c role (Call f) t cat kids x = words_asked v 0 (heads_of kids)
    (passed_by _ (slice_get s.funcs f) (all_words (heads_of kids) ≡ true) (λ (g : Func) e. words_class (words_of g) (heads_of kids) (and_parts _ _ e).1) x.row)
kids_asked v s c role (Construct f) t cat kids x = words_asked v 0 (heads_of kids)
    (passed_by _ (slice_get s.funcs f) (all_words (heads_of kids) ≡ true)
    (λ (g : Func) e. words_class (signature_words None g.declared.signature) (heads_of kids) (and_parts _ _ e).1) (and_parts _ _ x.row).1)
kids_asked v s c role (VirtualCall f n slot p) t cat none x = refl
kids_asked v s c role (VirtualCall f n slot p) t cat (more a ts) x = later_words v 0 (heads_of ts)
    (passed_by _ (slice_get s.funcs f) (all_words (heads_of ts) ≡ true)
    (λ (g : Func) e. (and_parts _ _ (words_class (words_of g) (heads_of (more a ts)) (and_parts _ _ e).1)).1) (and_parts _ _ x.row).0)
kids_asked v s c role PointerCall t cat none x = refl
kids_asked v s c role PointerCall t cat (more a ts) x = later_words v 0 (heads_of ts) (pointer_words t cat (head_of a) (heads_of ts) x.row)
kids_asked v s c role (Materialize n b) t cat none x = refl
kids_asked v s c role (Materialize n false) t cat (more a ts) x =
    and_from _ _ (built v t (head_of a) (and_parts _ _ (and_parts _ _ x.row).0).1 x.unfound.made) (behind_one v Initialiser 0 (heads_of ts))
kids_asked v s c role (Materialize n true) t cat (more a ts) x =
    and_from _ _ (argument_calm v n t (head_of a) (argument_role v role n t cat x.serves x.asked) x.unfound.made (and_parts _ _ (and_parts _ _ x.row).0).1)
    (behind_one v Initialiser 0 (heads_of ts))
kids_asked v s c role CopyAssign t cat none x = refl
kids_asked v s c role CopyAssign t cat (more a none) x = refl
kids_asked v s c role CopyAssign t cat (more a (more b none)) x = refl
kids_asked v s c role CopyAssign t cat (more a (more b (more d ts))) x =
    and_from _ _ (built v t (head_of d) (and_parts _ _ x.row).1 (class_dull (is_class_object t) (is_volatile_object v t)
    (class_object t (and_parts _ _ (and_parts _ _ (and_parts _ _ (and_parts _ _ x.row).0).0).0).1) x.unfound.builds))
    (only_three v Value Value CopyInit 0 (heads_of ts))
kids_asked v s c role CopyFrom t cat none x = refl
kids_asked v s c role CopyFrom t cat (more a none) x = refl
kids_asked v s c role CopyFrom t cat (more a (more b ts)) x =
    and_from _ _ (built v t (head_of b) (and_parts _ _ x.row).1
    (dull_object v s role CopyFrom t cat (more a (more b ts)) x (from_role role x.serves) refl refl)) (only_two v Value CopyInit 0 (heads_of ts))
kids_asked v s c role Pieces t cat kids x = part_asks v role 0 (heads_of kids) (pieces_dull v s.classes t (heads_of kids) c
    (dull_object v s role Pieces t cat kids x (pieces_role role x.serves) refl refl) (and_parts _ _ x.row).1)
kids_asked v s c role (Piece n) t cat none x = refl
kids_asked v s c role (Piece n) t cat (more a ts) x =
    and_from _ _ (object_asks v role (head_of a) (built v t (head_of a) (and_parts _ _ (and_parts _ _ x.row).0).1
    (dull_object v s role (Piece n) t cat (more a ts) x (piece_role role n x.serves) refl refl))) (behind_one v (object_role role) 0 (heads_of ts))
kids_asked v s c role (Elements n m) t cat none x = refl
kids_asked v s c role (Elements n m) t cat (more a ts) x =
    and_from _ _ (object_asks v role (head_of a) (elements_calm v s.classes n m 1 t (head_of a)
    (dull_object v s role (Elements n m) t cat (more a ts) x (elements_role role n m x.serves) refl refl) (and_parts _ _ (and_parts _ _ x.row).1).0))
    (behind_one v (object_role role) 0 (heads_of ts))
kids_asked v s c role Conditional t cat none x = refl
kids_asked v s c role Conditional t cat (more a none) x = refl
kids_asked v s c role Conditional t cat (more a (more b none)) x = absurd (false≢true (and_parts _ _ x.row).1)
kids_asked v s c role Conditional t cat (more a (more b (more d ts))) x =
    and_from _ _ (branch_asks v role (is_void t) (head_of b)
    (λ q. branch_calm v t cat (head_of b) (build_way role Conditional t cat q x.way) (and_parts _ _ (and_parts _ _ x.row).0).1))
    (and_from _ _ (branch_asks v role (is_void t) (head_of d)
    (λ q. branch_calm v t cat (head_of d) (build_way role Conditional t cat q x.way) (and_parts _ _ x.row).1))
    (only_three v Value (branch_role role (is_void t)) (branch_role role (is_void t)) 0 (heads_of ts)))
kids_asked v s c role Comma t cat none x = refl
kids_asked v s c role Comma t cat (more a none) x = refl
kids_asked v s c role Comma t cat (more a (more b ts)) x =
    and_from _ _ (result_asks v role (head_of b) (λ q. calm_class v (head_of b) (equal_class t (head_of b).typ (value_equal t cat (head_of b) x.row)
    (class_of t cat (build_way role Comma t cat q x.way))))) (only_two v Value (result_role role) 0 (heads_of ts))
kids_asked v s c role FullExpression t cat none x = refl
kids_asked v s c role FullExpression t cat (more a ts) x =
    and_from _ _ (result_asks v role (head_of a) (λ q. calm_equal v t (head_of a)
    (mark_of v role FullExpression t cat (building_takes role q) refl x.asked) (value_equal t cat (head_of a) x.row)))
    (only_one v (result_role role) 0 (heads_of ts))
kids_asked v s c role Init t cat none x = refl
kids_asked v s c role Init t cat (more a none) x = refl
kids_asked v s c role Init t cat (more (node k u w p ks) (more b ts)) x =
    and_from _ _ (zero_asks v (is_prvalue w) (head_of b) (λ q. built v u (head_of b)
    (init_builds (is_statement_typ t cat) (is_lvalue w) (builds u (head_of b)) (are_destructions s u (heads_of ts)) (is_prvalue w) (is_void u) (is_loaded k)
    (length (heads_of (more (node k u w p ks) (more b ts))) == 2) x.row q)
    (declared_dull (is_local k) (is_class_object u) (is_volatile_object v u) x.unfound.declares x.unfound.initialises)))
    (behind_two v Value (cond (is_prvalue w) Zero Initialiser) 0 (heads_of ts))
kids_asked v s c role kind t cat kids x = plain_kids v (kids_in role kind t (heads_of kids)) 0 (heads_of kids) refl refl
