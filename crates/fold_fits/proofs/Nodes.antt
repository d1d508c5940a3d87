-- A node that fits is folded to one that fits in its place.
use Rattle.std.proofs.Common.{◌≡◌, inl, inr, refl, ap, sym, subst, ◌∙◌, ℕ, suc, ◌==◌, Bool, true, false, ◌&&◌, ◌||◌, not, List, [], ◌∷◌, length}
use Rattle.std.proofs.Common.{Option, Some, None, cond}
use Rattle.std.specs.Prelude.{unwrap_or, is_some, option_map}
use Rattle.std.proofs.lemmas.Bool.{and_parts, and_from}
use Rattle.std.proofs.lemmas.Option.{cond_some}
use Rattle.cpp_tree.specs.tx_ints.declared.kinds.IntKind.{IntKind}
use Rattle.cpp_tree.specs.tx_ints.declared.kinds.BinOp.{BinOp}
use Rattle.cpp_tree.specs.cpp_types.Typ.{Typ, typ, Form, void, int}
use Rattle.cpp_tree.specs.cpp_types.Conversion.{is_lvalue, is_object_form}
use Rattle.cpp_tree.specs.cpp_types.Equal.{typ_eq}
use Rattle.cpp_tree.specs.cpp_types.declared.classes.At.{At}
use Rattle.cpp_tree.specs.cpp_types.declared.ranks.Cat.{Cat}
use Rattle.cpp_tree.specs.cpp_types.declared.ranks.Cat.TheVariants.{Lvalue, Prvalue}
use Rattle.cpp_tree.specs.declared.kinds.TKind.{TKind}
use Rattle.cpp_tree.specs.declared.kinds.TKind.TheVariants.{Literal, Convert, Binary, Conditional, Comma, FullExpression, Pieces, Piece, Elements}
use Rattle.cpp_tree.specs.declared.kinds.TKind.TheVariants.{Block, Loop, Switch, Break, Continue, Return, Try, Atomic, Synchronized, Init, Defer}
use Rattle.cpp_tree.specs.declared.roles.Position.{Position}
use Rattle.cpp_tree.specs.declared.roles.Role.{Role}
use Rattle.cpp_tree.specs.declared.roles.Role.TheVariants.{Value, Word, Initialiser, Statement, BlockItem, SwitchItem, Step}
use Rattle.cpp_tree.specs.Trees.{Tree, node, Trees, none, more, kind_of, typ_in, cat_of}
use Rattle.cpp_tree.specs.Typing.{Head, head_of, is_void, is_prvalue, is_class_prvalue, goes_both_ways, is_class_typ, is_word_of}
use Rattle.cpp_tree.specs.Typing.{is_scalar_value, scalar_of, passes, kind_in, form_in, is_bool, is_promoted, gives}
use Rattle.cpp_tree.specs.Roles.{Kids, only, kids_for, role_at, serves, way_fits, branch_role, result_role, is_throw, is_expression}
use Rattle.cpp_tree.specs.Roles.{is_initialiser, is_statement, is_block_item}
use Rattle.cpp_tree.specs.Rows.{Setting, row_fits, is_branch, same_value, kid, is_binary, is_comparison, result_of, is_right}
use Rattle.cpp_tree.specs.WellFormed.{heads_of, kids_in, stands, enough, is_switch, labels_fit, is_kid, is_zero_role, inside, fits, kids_fit, zeroes, may_stand}
use Rattle.cpp_tree.specs.WellFormed.{branches_fit, no_object}
use Rattle.src_mean.specs.Source.{converted, applied}
use Rattle.tree_fold.specs.Bare.{is_bare}
use Rattle.tree_fold.specs.Constants.{is_integer, is_none, integer_word, one_word, both_words, value_word, operator_word, comma_word}
use Rattle.tree_fold.specs.Constants.{constant}
use Rattle.tree_fold.specs.Folding.{is_folded_form, stands_for, only_taken, taken_by, taken, literal_or, folded_node}
use Rattle.setting_growth.proofs.Still.{same}
use Rattle.fold_fits.proofs.Heads.{is_folded_kind, head, Alike}
use Rattle.tree_fold.proofs.Tests.{first_true, last_true}
use Rattle.tree_fold.proofs.Types.{typ_same}
use Rattle.fold_fits.proofs.Words.{IsWord, prvalue_is, integer_known, operator_known, converted_word, applied_word, compared_word, word_typ}
use Rattle.fold_fits.proofs.Words.{literal_typ, bool_typ}

-- What is known of a node that fits

pub record Fits (s : Setting) (p : Position) (role : Role) (kind : TKind) (t : Typ) (cat : Cat) (kids : Trees) : Type 0 where
  pub serves : serves role kind ≡ true
  pub way : way_fits role kind t cat ≡ true
  pub place : may_stand s.function.kind p kind (length (heads_of kids)) ≡ true
  pub branches : branches_fit role kind t (heads_of kids) ≡ true
  pub row : row_fits s kind t cat (heads_of kids) ≡ true
  pub many : enough (kids_in role kind t (heads_of kids)) (length (heads_of kids)) ≡ true
  pub labels : (not (is_switch kind) || labels_fit false kids) ≡ true
  pub below : kids_fit s (inside kind p) (kids_in role kind t (heads_of kids)) 0 kids ≡ true

pub fits_known : (s : Setting) (p : Position) (role : Role) (kind : TKind) (t : Typ) (cat : Cat) (at : At) (kids : Trees)
    → fits s p role (node kind t cat at kids) ≡ true → Fits s p role kind t cat kids
fits_known s p role kind t cat at kids e =
    let hs = heads_of kids in
    let a = serves role kind in
    let b = way_fits role kind t cat in
    let c = may_stand s.function.kind p kind (length hs) in
    let d = branches_fit role kind t hs in
    let r = row_fits s kind t cat hs in
    let n = enough (kids_in role kind t hs) (length hs) in
    let l = not (is_switch kind) || labels_fit false kids in
    let k = kids_fit s (inside kind p) (kids_in role kind t hs) 0 kids in
    let all = and_parts (a && b && c && d && r && n && l) k e in
    let labels = and_parts (a && b && c && d && r && n) l all.0 in
    let many = and_parts (a && b && c && d && r) n labels.0 in
    let row = and_parts (a && b && c && d) r many.0 in
    let branches = and_parts (a && b && c) d row.0 in
    let place = and_parts (a && b) c branches.0 in
    let way = and_parts a b place.0 in
    record {
      serves = way.0;
      way = way.1;
      place = place.1;
      branches = branches.1;
      row = row.1;
      many = many.1;
      labels = labels.1;
      below = all.1;
    }

pub fits_from : (s : Setting) (p : Position) (role : Role) (kind : TKind) (t : Typ) (cat : Cat) (at : At) (kids : Trees)
    → Fits s p role kind t cat kids → fits s p role (node kind t cat at kids) ≡ true
fits_from s p role kind t cat at kids f =
    let hs = heads_of kids in
    let a = serves role kind in
    let b = way_fits role kind t cat in
    let c = may_stand s.function.kind p kind (length hs) in
    let d = branches_fit role kind t hs in
    let r = row_fits s kind t cat hs in
    let n = enough (kids_in role kind t hs) (length hs) in
    let l = not (is_switch kind) || labels_fit false kids in
    let k = kids_fit s (inside kind p) (kids_in role kind t hs) 0 kids in
    and_from (a && b && c && d && r && n && l) k
    (and_from (a && b && c && d && r && n) l
    (and_from (a && b && c && d && r) n
    (and_from (a && b && c && d) r
    (and_from (a && b && c) d
    (and_from (a && b) c
    (and_from a b f.serves f.way) f.place) f.branches) f.row) f.many) f.labels) f.below

-- Kids

abbrev pub KidFits : Setting → Position → Kids → ℕ → Tree → Type 0
KidFits s p ks i t = cond (is_zero_role (unwrap_or (role_at ks i) Value)) (zeroes s.classes false (result_of s.function) t)
    (fits s p (unwrap_or (role_at ks i) Value) t) ≡ true

pub record FirstKid (s : Setting) (p : Position) (ks : Kids) (i : ℕ) (t : Tree) (ts : Trees) : Type 0 where
  pub known : is_some (role_at ks i) ≡ true
  pub kid : is_kid (kind_of t) ≡ true
  pub fits : KidFits s p ks i t
  pub rest : kids_fit s p ks (suc i) ts ≡ true

pub kid_known : (s : Setting) (p : Position) (ks : Kids) (i : ℕ) (t : Tree) (ts : Trees) → kids_fit s p ks i (more t ts) ≡ true → FirstKid s p ks i t ts
kid_known s p ks i t ts e =
    let a = is_some (role_at ks i) in
    let b = is_kid (kind_of t) in
    let c = cond (is_zero_role (unwrap_or (role_at ks i) Value)) (zeroes s.classes false (result_of s.function) t)
    (fits s p (unwrap_or (role_at ks i) Value) t) in
    let all = and_parts (a && b && c) (kids_fit s p ks (suc i) ts) e in
    let mine = and_parts (a && b) c all.0 in
    let first = and_parts a b mine.0 in
    record { known = first.0; kid = first.1; fits = mine.1; rest = all.1 }

pub kids_from : (s : Setting) (p : Position) (ks : Kids) (i : ℕ) (t : Tree) (ts : Trees) → FirstKid s p ks i t ts → kids_fit s p ks i (more t ts) ≡ true
kids_from s p ks i t ts f =
    let a = is_some (role_at ks i) in
    let b = is_kid (kind_of t) in
    let c = cond (is_zero_role (unwrap_or (role_at ks i) Value)) (zeroes s.classes false (result_of s.function) t)
    (fits s p (unwrap_or (role_at ks i) Value) t) in
    and_from (a && b && c) (kids_fit s p ks (suc i) ts) (and_from (a && b) c (and_from a b f.known f.kid) f.fits) f.rest

-- Literals

-- where a node that is folded serves, so does a literal, but that it builds no class object
literal_serves : (role : Role) (kind : TKind) (t : Typ) (cat : Cat) (u : ℕ) → is_folded_kind kind ≡ true → serves role kind ≡ true
    → way_fits role kind t cat ≡ true → is_class_prvalue t cat ≡ false → serves role (Literal u) ≡ true
literal_serves Value kind t cat u w e f g = refl
literal_serves Word kind t cat u w e f g = refl
literal_serves Statement kind t cat u w e f g = refl
literal_serves BlockItem kind t cat u w e f g = refl
literal_serves SwitchItem kind t cat u w e f g = refl
literal_serves Step kind t cat u w e f g = refl
literal_serves Initialiser (Convert to) t cat u w e f g = absurd cc
literal_serves Initialiser (Binary op k) t cat u w e f g = absurd cc
literal_serves Initialiser Conditional t cat u w e f g = absurd cc
literal_serves Initialiser Comma t cat u w e f g = absurd cc
literal_serves role (Convert to) t cat u w e f g = absurd cc
literal_serves role (Binary op k) t cat u w e f g = absurd cc
literal_serves role Conditional t cat u w e f g = absurd cc
literal_serves role Comma t cat u w e f g = absurd cc
literal_serves role kind t cat u w e f g = absurd cc

literal_way : (role : Role) (k : IntKind) (u : ℕ) → serves role (Literal u) ≡ true → way_fits role (Literal u) (typ (int k) false false) Prvalue ≡ true
literal_way Initialiser k u e = absurd cc
literal_way role k u e = refl

literal_kids : (role : Role) (t : Typ) (u : ℕ) → enough (kids_in role (Literal u) t []) 0 ≡ true
literal_kids role t u = refl

int_fits : (s : Setting) (p : Position) (role : Role) (k : IntKind) (at : At) (w : ℕ) → is_word_of k w ≡ true → serves role (Literal w) ≡ true
    → fits s p role (node (Literal w) (typ (int k) false false) Prvalue at none) ≡ true
int_fits s p role k at w e f = fits_from s p role (Literal w) (typ (int k) false false) Prvalue at none (record {
  serves = f;
  way = literal_way role k w f;
  place = refl;
  branches = refl;
  row = e;
  many = refl;
  labels = refl;
  below = refl;
})

literal_fits : (s : Setting) (p : Position) (role : Role) (t : Typ) (cat : Cat) (at : At) (w : ℕ) → IsWord t cat w → serves role (Literal w) ≡ true
    → fits s p role (node (Literal w) t Prvalue at none) ≡ true
literal_fits s p role t cat at w i e =
    subst (λ (z : Typ). fits s p role (node (Literal w) z Prvalue at none) ≡ true) (sym i.typ) (int_fits s p role i.kind at w i.word e)

no_class : (t : Typ) (cat : Cat) (w : ℕ) → IsWord t cat w → is_class_prvalue t cat ≡ false
no_class t cat w i = ap (λ (z : Cat). is_class_prvalue t z) i.prvalue ∙ ap is_class_typ i.typ

-- What a node that has a value asks

one_known : (f : ℕ → ℕ) (o : Option ℕ) (w : ℕ) → option_map f o ≡ Some w → (u : ℕ) × (f u ≡ w)
one_known f None w e = absurd cc
one_known f (Some u) w e = (u, cc)

convert_word : (s : Setting) (to : IntKind) (t : Typ) (cat : Cat) (ks : Trees) (w : ℕ) → constant (Convert to) t cat ks ≡ Some w
    → row_fits s (Convert to) t cat (heads_of ks) ≡ true → IsWord t cat w
convert_word s to t cat ks w e r =
    let i = integer_known t cat (option_map (converted to) (one_word ks)) w e in
    let u = one_known (converted to) (one_word ks) w i.2 in
    let p = first_true (is_prvalue cat && is_scalar_value t && scalar_of to t)
    (kid 0 (λ h. is_prvalue h.cat && is_some (kind_in (form_in h.typ))) (heads_of ks)) r in
    let q = and_parts (is_prvalue cat && is_scalar_value t) (scalar_of to t) p in
    word_typ t cat to w i.0 i.1 (last_true (is_prvalue cat) (is_scalar_value t) q.0) q.1 (ap (is_word_of to) (sym u.1) ∙ converted_word to u.0)

binary_by : (op : BinOp) (k : IntKind) (t : Typ) (h : Head) (x y w : ℕ) (c : Bool) → is_integer t ≡ true → is_comparison op ≡ c
    → cond c (is_bool (record { kind = h.kind; typ = t; cat = Prvalue })) (is_scalar_value t && scalar_of k t) ≡ true
    → value_word (applied op k x y) ≡ Some w → IsWord t Prvalue w
binary_by op k t h x y w true i c r e = bool_typ t Prvalue w refl r (compared_word op k x y w c e)
binary_by op k t h x y w false i c r e = let p = and_parts (is_scalar_value t) (scalar_of k t) r in
    word_typ t Prvalue k w i refl p.0 p.1 (applied_word op k x y w e)

binary_words : (op : BinOp) (k : IntKind) (t : Typ) (cat : Cat) (a b : Head) (x y w : ℕ) → is_integer t ≡ true → cat ≡ Prvalue
    → is_binary op k t cat a b ≡ true → value_word (applied op k x y) ≡ Some w → IsWord t cat w
binary_words op k t Lvalue a b x y w i c r e = absurd cc
binary_words op k t Prvalue a b x y w i c r e = binary_by op k t a x y w (is_comparison op) i refl
    (last_true (is_promoted k && gives k a && is_right op k b)
    (cond (is_comparison op) (is_bool (record { kind = a.kind; typ = t; cat = Prvalue })) (is_scalar_value t && scalar_of k t)) r) e

binary_word : (s : Setting) (op : BinOp) (k : IntKind) (t : Typ) (cat : Cat) (ks : Trees) (w : ℕ) → constant (Binary op k) t cat ks ≡ Some w
    → row_fits s (Binary op k) t cat (heads_of ks) ≡ true → IsWord t cat w
binary_word s op k t cat none w e r = absurd cc
binary_word s op k t cat (more a none) w e r = absurd cc
binary_word s op k t cat (more a (more b none)) w e r =
    let i = integer_known t cat (operator_word op k (both_words (integer_word a) (integer_word b))) w e in
    let x = operator_known op k (both_words (integer_word a) (integer_word b)) w i.2 in
    binary_words op k t cat (head_of a) (head_of b) x.0.left x.0.right w i.0 i.1 r x.1
binary_word s op k t cat (more a (more b (more c ts))) w e r =
    absurd (let i = integer_known t cat None w e in none_some w i.2)
  where
    none_some : (w : ℕ) → ◌≡◌ {A = Option ℕ} None (Some w) → ⊥
    none_some w e = absurd cc

second_word : (o q : Option ℕ) (w : ℕ) → comma_word (both_words o q) ≡ Some w → q ≡ Some w
second_word None q w e = absurd cc
second_word (Some u) None w e = absurd cc
second_word (Some u) (Some x) w e = e

-- a literal of an integer type that fits
word_fits : (s : Setting) (p : Position) (role : Role) (b : Tree) (w : ℕ) → integer_word b ≡ Some w → fits s p role b ≡ true → IsWord (typ_in b) (cat_of b) w
word_fits s p role (node (Literal u) t cat at kids) w e f =
    let c = cond_some (is_integer t && is_none kids) u w e in
    let k = fits_known s p role (Literal u) t cat at kids f in
    let r = and_parts (is_prvalue cat && is_scalar_value t) (passes (λ (k : IntKind). is_word_of k u) (kind_in (form_in t))) k.row in
    let q = and_parts (is_prvalue cat) (is_scalar_value t) r.0 in
    literal_typ t cat w (first_true (is_integer t) (is_none kids) c.0) (prvalue_is cat q.0) q.1
    (subst (λ (z : ℕ). passes (λ (k : IntKind). is_word_of k z) (kind_in (form_in t)) ≡ true) c.1 r.1)
word_fits s p role (node kind t cat at kids) w e f = absurd cc

result_kid : (s : Setting) (p : Position) (role : Role) (b : Tree)
    → cond (is_zero_role (result_role role)) (zeroes s.classes false (result_of s.function) b) (fits s p (result_role role) b) ≡ true
    → fits s p (result_role role) b ≡ true
result_kid s p Initialiser b e = e
result_kid s p role b e = e

value_typ : (t : Typ) (cat : Cat) (b : Tree) → cat ≡ Prvalue → same_value t cat (head_of b) ≡ true → t ≡ typ_in b
value_typ t Lvalue b c e = absurd cc
value_typ t Prvalue (node kind u cat at kids) c e = typ_same t u (last_true (is_prvalue cat) (typ_eq t u) e)

comma_known : (s : Setting) (p : Position) (role : Role) (t : Typ) (cat : Cat) (ks : Trees) (w : ℕ) → constant Comma t cat ks ≡ Some w
    → Fits s p role Comma t cat ks → IsWord t cat w
comma_known s p role t cat none w e f = absurd (none_some w (integer_known t cat None w e).2)
  where
    none_some : (w : ℕ) → ◌≡◌ {A = Option ℕ} None (Some w) → ⊥
    none_some w e = absurd cc
comma_known s p role t cat (more a none) w e f = absurd (none_some w (integer_known t cat None w e).2)
  where
    none_some : (w : ℕ) → ◌≡◌ {A = Option ℕ} None (Some w) → ⊥
    none_some w e = absurd cc
comma_known s p role t cat (more a (more b none)) w e f =
    let i = integer_known t cat (comma_word (both_words (integer_word a) (integer_word b))) w e in
    let ks = kids_in role Comma t (heads_of (more a (more b none))) in
    let x = kid_known s p ks 0 a (more b none) f.below in
    let y = kid_known s p ks 1 b none x.rest in
    let z = word_fits s p (result_role role) b w (second_word (integer_word a) (integer_word b) w i.2) (result_kid s p role b y.fits) in
    let g = value_typ t cat b i.1 f.row in
    record { kind = z.kind; typ = g ∙ z.typ; prvalue = i.1; word = z.word }
comma_known s p role t cat (more a (more b (more c ts))) w e f = absurd (none_some w (integer_known t cat None w e).2)
  where
    none_some : (w : ℕ) → ◌≡◌ {A = Option ℕ} None (Some w) → ⊥
    none_some w e = absurd cc

constant_known : (s : Setting) (p : Position) (role : Role) (kind : TKind) (t : Typ) (cat : Cat) (ks : Trees) (w : ℕ) → constant kind t cat ks ≡ Some w
    → Fits s p role kind t cat ks → (is_folded_kind kind ≡ true) × IsWord t cat w
constant_known s p role (Convert to) t cat ks w e f = (refl, convert_word s to t cat ks w e f.row)
constant_known s p role (Binary op k) t cat ks w e f = (refl, binary_word s op k t cat ks w e f.row)
constant_known s p role Comma t cat ks w e f = (refl, comma_known s p role t cat ks w e f)
constant_known s p role kind t cat ks w e f = absurd cc

-- What is taken

abbrev is_raised : Role → Bool
is_raised Word = true
is_raised Statement = true
is_raised BlockItem = true
is_raised SwitchItem = true
is_raised Step = true
is_raised role = false

or_last : (a b : Bool) → b ≡ true → (a || b) ≡ true
or_last true b e = refl
or_last false b e = e

statement_of : (kind : TKind) → is_expression kind ≡ true → is_statement kind ≡ true
statement_of (Block b) e = refl
statement_of (Loop b) e = refl
statement_of Switch e = refl
statement_of Break e = refl
statement_of Continue e = refl
statement_of Return e = refl
statement_of Try e = refl
statement_of (Atomic k) e = refl
statement_of Synchronized e = refl
statement_of kind e = e

item_of : (kind : TKind) → is_expression kind ≡ true → is_block_item kind ≡ true
item_of Init e = refl
item_of Defer e = refl
item_of kind e = statement_of kind e

serves_up : (role : Role) (kind : TKind) → is_raised role ≡ true → is_expression kind ≡ true → serves role kind ≡ true
serves_up Word kind r e = or_last _ _ e
serves_up Statement kind r e = statement_of kind e
serves_up BlockItem kind r e = item_of kind e
serves_up SwitchItem kind r e = or_last _ _ (item_of kind e)
serves_up Step kind r e = or_last _ _ e
serves_up role kind r e = absurd cc

way_up : (role : Role) (kind : TKind) (t : Typ) (cat : Cat) → is_raised role ≡ true → way_fits Value kind t cat ≡ true → way_fits role kind t cat ≡ true
way_up Word kind t cat r e = e
way_up Statement kind t cat r e = e
way_up BlockItem kind t cat r e = e
way_up SwitchItem kind t cat r e = e
way_up Step kind t cat r e = e
way_up role kind t cat r e = absurd cc

choice_up : (role : Role) (t : Typ) (hs : List Head) → is_raised role ≡ true → branches_fit Value Conditional t hs ≡ true
    → branches_fit role Conditional t hs ≡ true
choice_up Word t hs r e = e
choice_up Statement t hs r e = refl
choice_up BlockItem t hs r e = refl
choice_up SwitchItem t hs r e = refl
choice_up Step t hs r e = e
choice_up role t hs r e = absurd cc

branches_up : (role : Role) (kind : TKind) (t : Typ) (hs : List Head) → is_raised role ≡ true → branches_fit Value kind t hs ≡ true
    → branches_fit role kind t hs ≡ true
branches_up role Conditional t hs r e = choice_up role t hs r e
branches_up role kind t hs r e = refl

result_up : (role : Role) → is_raised role ≡ true → result_role role ≡ Value
result_up Initialiser r = absurd cc
result_up role r = refl

branch_up : (role : Role) → is_raised role ≡ true → branch_role role false ≡ Value
branch_up Initialiser r = absurd cc
branch_up role r = refl

kids_up : (role : Role) (kind : TKind) (no_type no_place : Bool) → is_raised role ≡ true → is_expression kind ≡ true → no_type ≡ false
    → kids_for role kind no_type no_place ≡ kids_for Value kind no_type no_place
kids_up role Conditional n o r e f = ap (λ (z : Bool). only (Value ∷ branch_role role z ∷ branch_role role z ∷ [])) f
    ∙ ap (λ (z : Role). only (Value ∷ z ∷ z ∷ [])) (branch_up role r)
kids_up role Comma n o r e f = ap (λ (z : Role). only (Value ∷ z ∷ [])) (result_up role r)
kids_up role FullExpression n o r e f = ap (λ (z : Role). only (z ∷ [])) (result_up role r)
kids_up role Pieces n o r e f = absurd cc
kids_up role (Piece at) n o r e f = absurd cc
kids_up role (Elements count stride) n o r e f = absurd cc
kids_up role kind n o r e f = refl

-- what fits as a value fits as a statement too, or as a word of a call
raised : (s : Setting) (p : Position) (role : Role) (x : Tree) → is_raised role ≡ true → is_void (typ_in x) ≡ false → fits s p Value x ≡ true
    → fits s p role x ≡ true
raised s p role (node kind t cat at ks) r n e =
    let f = fits_known s p Value kind t cat at ks e in
    let k = kids_up role kind (is_void t) (no_object (heads_of ks)) r f.serves n in
    fits_from s p role kind t cat at ks (record {
      serves = serves_up role kind r f.serves;
      way = way_up role kind t cat r f.way;
      place = f.place;
      branches = branches_up role kind t (heads_of ks) r f.branches;
      row = f.row;
      many = ap (λ (z : Kids). enough z (length (heads_of ks))) k ∙ f.many;
      labels = f.labels;
      below = ap (λ (z : Kids). kids_fit s (inside kind p) z 0 ks) k ∙ f.below;
    })

raised_from : (s : Setting) (p : Position) (role : Role) (x : Tree) → serves role Conditional ≡ true → is_void (typ_in x) ≡ false
    → fits s p (branch_role role false) x ≡ true → fits s p role x ≡ true
raised_from s p Value x r n e = e
raised_from s p Initialiser x r n e = e
raised_from s p Word x r n e = raised s p Word x refl n e
raised_from s p Statement x r n e = raised s p Statement x refl n e
raised_from s p BlockItem x r n e = raised s p BlockItem x refl n e
raised_from s p SwitchItem x r n e = raised s p SwitchItem x refl n e
raised_from s p Step x r n e = raised s p Step x refl n e
raised_from s p role x r n e = absurd cc

-- what serves as an operand
plain_serves : (role : Role) (kind : TKind) → serves (branch_role role false) kind ≡ true → (is_expression kind || is_initialiser kind) ≡ true
plain_serves Initialiser kind e = or_last _ _ e
plain_serves role kind e = ap (λ z. z || is_initialiser kind) e

no_throw : (t : Typ) (cat : Cat) (kind : TKind) → stands_for t cat kind ≡ true → is_throw kind ≡ false
no_throw (typ f c v) Lvalue kind e = untrue (is_throw kind) (last_true (is_folded_form f) (not (is_throw kind)) e)
  where
    untrue : (b : Bool) → not b ≡ true → b ≡ false
    untrue true e = absurd cc
    untrue false e = refl
no_throw (typ f c v) Prvalue kind e = untrue (is_throw kind) (last_true (is_folded_form f) (not (is_throw kind))
    (first_true (is_folded_form f && not (is_throw kind)) (not (is_object_form f) || goes_both_ways kind) e))
  where
    untrue : (b : Bool) → not b ≡ true → b ≡ false
    untrue true e = absurd cc
    untrue false e = refl

form_of_stands : (f : Form) (c v : Bool) (cat : Cat) (kind : TKind) → stands_for (typ f c v) cat kind ≡ true → is_folded_form f ≡ true
form_of_stands f c v Lvalue kind e = first_true (is_folded_form f) (not (is_throw kind)) e
form_of_stands f c v Prvalue kind e = first_true (is_folded_form f) (not (is_throw kind))
    (first_true (is_folded_form f && not (is_throw kind)) (not (is_object_form f) || goes_both_ways kind) e)

void_form : (f : Form) (c v : Bool) → is_folded_form f ≡ true → is_void (typ f c v) ≡ false
void_form void c v e = absurd cc
void_form f c v e = refl

no_void : (t : Typ) (cat : Cat) (kind : TKind) → stands_for t cat kind ≡ true → is_void t ≡ false
no_void (typ f c v) cat kind e = void_form f c v (form_of_stands f c v cat kind e)

either_last : (a b : Bool) → a ≡ false → (a || b) ≡ true → b ≡ true
either_last true b e f = absurd cc
either_last false b e f = f

lvalue_is : (cat : Cat) → is_lvalue cat ≡ true → cat ≡ Lvalue
lvalue_is Lvalue e = refl
lvalue_is Prvalue e = absurd cc

branch_same : (t : Typ) (cat : Cat) (kind : TKind) (u : Typ) (d : Cat) → is_branch t cat (head kind u d) ≡ true → stands_for t cat kind ≡ true
    → (u ≡ t) × (d ≡ cat)
branch_same t Lvalue kind u d e s =
    let p = and_parts (is_lvalue d) (typ_eq t u) (either_last (is_throw kind) (is_lvalue d && typ_eq t u) (no_throw t Lvalue kind s) e) in
    (sym (typ_same t u p.1), lvalue_is d p.0)
branch_same t Prvalue kind u d e s =
    let n : (is_throw kind || is_void t) ≡ false = ap (λ z. z || is_void t) (no_throw t Prvalue kind s) ∙ no_void t Prvalue kind s in
    let p = and_parts (is_prvalue d) (typ_eq t u) (either_last (is_throw kind || is_void t) (is_prvalue d && typ_eq t u) n e) in
    (sym (typ_same t u p.1), prvalue_is d p.0)

goes_too : (t : Typ) (cat : Cat) (kind : TKind) → stands_for t cat kind ≡ true → is_class_prvalue t cat ≡ true → goes_both_ways kind ≡ true
goes_too t Lvalue kind e c = absurd cc
goes_too (typ f c v) Prvalue kind e o = either_last (not (is_object_form f)) (goes_both_ways kind) (ap not o)
    (last_true (is_folded_form f && not (is_throw kind)) (not (is_object_form f) || goes_both_ways kind) e)

-- what a node is folded to
pub record Folds (s : Setting) (p : Position) (role : Role) (h : Head) (x : Tree) : Type 0 where
  pub fits : fits s p role x ≡ true
  pub alike : Alike h (head_of x)

branch_folds : (s : Setting) (p : Position) (role : Role) (t : Typ) (cat : Cat) (x : Tree) → serves role Conditional ≡ true
    → stands_for t cat (kind_of x) ≡ true → is_branch t cat (head_of x) ≡ true
    → cond (is_zero_role (branch_role role (is_void t))) (zeroes s.classes false (result_of s.function) x) (fits s p (branch_role role (is_void t)) x) ≡ true
    → Folds s p role (head Conditional t cat) x
branch_folds s p role t cat (node kind u d at ks) r g b e =
    let x = node kind u d at ks in
    let same = branch_same t cat kind u d b g in
    let n = no_void t cat kind g in
    let f : cond (is_zero_role (branch_role role false)) (zeroes s.classes false (result_of s.function) x) (fits s p (branch_role role false) x) ≡ true =
    subst (λ (z : Bool). cond (is_zero_role (branch_role role z)) (zeroes s.classes false (result_of s.function) x)
    (fits s p (branch_role role z) x) ≡ true) n e in
    let i : fits s p (branch_role role false) x ≡ true = own role f in
    record {
      fits = raised_from s p role x r (ap is_void same.0 ∙ n) i;
      alike = inr (record {
        was = refl;
        typ = same.0;
        cat = same.1;
        stands = record { serves = plain_serves role kind (fits_known s p (branch_role role false) kind u d at ks i).serves; goes = goes_too t cat kind g };
      });
    }
  where
    own : (role : Role) → cond (is_zero_role (branch_role role false)) (zeroes s.classes false (result_of s.function) (node kind u d at ks))
        (fits s p (branch_role role false) (node kind u d at ks)) ≡ true → fits s p (branch_role role false) (node kind u d at ks) ≡ true
    own Initialiser e = e
    own role e = e

one_taken : (v : ℕ → Bool) (s : Setting) (p : Position) (role : Role) (t : Typ) (cat : Cat) (a b x : Tree) → serves role Conditional ≡ true
    → is_branch t cat (head_of a) ≡ true
    → cond (is_zero_role (branch_role role (is_void t))) (zeroes s.classes false (result_of s.function) a) (fits s p (branch_role role (is_void t)) a) ≡ true
    → only_taken v t cat a b ≡ Some x → Folds s p role (head Conditional t cat) x
one_taken v s p role t cat a b x r g f e =
    let c = cond_some (stands_for t cat (kind_of a) && is_bare v b) a x e in
    subst (λ (z : Tree). Folds s p role (head Conditional t cat) z) c.1
    (branch_folds s p role t cat a r (first_true (stands_for t cat (kind_of a)) (is_bare v b) c.0) g f)

by_word : (v : ℕ → Bool) (s : Setting) (p : Position) (role : Role) (t : Typ) (cat : Cat) (c : Bool) (a b x : Tree)
    → (only_taken v t cat a b ≡ Some x → Folds s p role (head Conditional t cat) x)
    → (only_taken v t cat b a ≡ Some x → Folds s p role (head Conditional t cat) x)
    → cond c (only_taken v t cat b a) (only_taken v t cat a b) ≡ Some x → Folds s p role (head Conditional t cat) x
by_word v s p role t cat true a b x f g e = g e
by_word v s p role t cat false a b x f g e = f e

choice_taken : (v : ℕ → Bool) (s : Setting) (p : Position) (role : Role) (t : Typ) (cat : Cat) (o : Option ℕ) (a b x : Tree)
    → (only_taken v t cat a b ≡ Some x → Folds s p role (head Conditional t cat) x)
    → (only_taken v t cat b a ≡ Some x → Folds s p role (head Conditional t cat) x)
    → taken_by v t cat o a b ≡ Some x → Folds s p role (head Conditional t cat) x
choice_taken v s p role t cat None a b x f g e = absurd cc
choice_taken v s p role t cat (Some w) a b x f g e = by_word v s p role t cat (w == 0) a b x f g e

taken_folds : (v : ℕ → Bool) (s : Setting) (p : Position) (role : Role) (kind : TKind) (t : Typ) (cat : Cat) (ks : Trees) (x : Tree)
    → taken v kind t cat ks ≡ Some x → Fits s p role kind t cat ks → Folds s p role (head kind t cat) x
taken_folds v s p role Conditional t cat none x e f = absurd cc
taken_folds v s p role Conditional t cat (more a none) x e f = absurd cc
taken_folds v s p role Conditional t cat (more a (more b none)) x e f = absurd cc
taken_folds v s p role Conditional t cat (more a (more b (more c none))) x e f =
    let ks = kids_in role Conditional t (heads_of (more a (more b (more c none)))) in
    let i = kid_known s p ks 0 a (more b (more c none)) f.below in
    let j = kid_known s p ks 1 b (more c none) i.rest in
    let k = kid_known s p ks 2 c none j.rest in
    let r = and_parts (is_bool (head_of a) && is_branch t cat (head_of b)) (is_branch t cat (head_of c)) f.row in
    choice_taken v s p role t cat (integer_word a) b c x
    (one_taken v s p role t cat b c x f.serves (last_true (is_bool (head_of a)) (is_branch t cat (head_of b)) r.0) j.fits)
    (one_taken v s p role t cat c b x f.serves r.1 k.fits) e
taken_folds v s p role Conditional t cat (more a (more b (more c (more d ts)))) x e f = absurd cc
taken_folds v s p role kind t cat ks x e f = absurd cc

-- Nodes

own_folds : (v : ℕ → Bool) (s : Setting) (p : Position) (role : Role) (kind : TKind) (t : Typ) (cat : Cat) (at : At) (ks : Trees) (o : Option Tree)
    → ((x : Tree) → o ≡ Some x → Folds s p role (head kind t cat) x) → fits s p role (node kind t cat at ks) ≡ true
    → Folds s p role (head kind t cat) (unwrap_or o (node kind t cat at ks))
own_folds v s p role kind t cat at ks None f e = record { fits = e; alike = inl refl }
own_folds v s p role kind t cat at ks (Some x) f e = f x refl

literal_folds : (v : ℕ → Bool) (s : Setting) (p : Position) (role : Role) (kind : TKind) (t : Typ) (cat : Cat) (at : At) (ks : Trees) (o : Option ℕ) (x : Tree)
    → ((w : ℕ) → o ≡ Some w → (is_folded_kind kind ≡ true) × IsWord t cat w) → Fits s p role kind t cat ks → Folds s p role (head kind t cat) x
    → Folds s p role (head kind t cat) (literal_or o t at x)
literal_folds v s p role kind t cat at ks None x g f e = e
literal_folds v s p role kind t cat at ks (Some w) x g f e =
    let k = g w refl in
    let c = no_class t cat w k.1 in
    record {
      fits = literal_fits s p role t cat at w k.1 (literal_serves role kind t cat w k.0 f.serves f.way c);
      alike = inr (record {
        was = k.0;
        typ = refl;
        cat = sym k.1.prvalue;
        stands = record { serves = refl; goes = λ d. absurd (let z : is_class_prvalue t cat ≡ false = c in cc) };
      });
    }

pub node_folds : (v : ℕ → Bool) (s : Setting) (p : Position) (role : Role) (kind : TKind) (t : Typ) (cat : Cat) (at : At) (ks : Trees)
    → fits s p role (node kind t cat at ks) ≡ true → Folds s p role (head kind t cat) (folded_node v kind t cat at ks)
node_folds v s p role kind t cat at ks e =
    let f = fits_known s p role kind t cat at ks e in
    literal_folds v s p role kind t cat at ks (constant kind t cat ks) (unwrap_or (taken v kind t cat ks) (node kind t cat at ks))
    (λ w h. constant_known s p role kind t cat ks w h f) f
    (own_folds v s p role kind t cat at ks (taken v kind t cat ks) (λ x h. taken_folds v s p role kind t cat ks x h f) e)
