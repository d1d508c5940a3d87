-- Conditionals, commas, full-expressions, and what is thrown.
use Rattle.std.proofs.Common.{◌≡◌, Bool, true, false, ◌||◌, cond, List, [], ◌∷◌, Some, refl, sym, ap, ◌∙◌, subst}
use Rattle.std.proofs.lemmas.Bool.{and_parts, true≢false}
use Rattle.cpp_tree.specs.cpp_types.Typ.{Typ, typ, void}
use Rattle.cpp_tree.specs.cpp_types.Conversion.{is_lvalue}
use Rattle.cpp_tree.specs.cpp_types.Equal.{typ_eq}
use Rattle.cpp_tree.specs.cpp_types.declared.ranks.Cat.{Cat}
use Rattle.cpp_tree.specs.cpp_types.declared.ranks.Cat.TheVariants.{Lvalue, Prvalue}
use Rattle.cpp_tree.specs.declared.arena.TNodeId.{TNodeId}
use Rattle.cpp_tree.specs.declared.kinds.TKind.{TKind}
use Rattle.cpp_tree.specs.declared.kinds.TKind.TheVariants.{Conditional, Comma, FullExpression, Throw, Rethrow}
use Rattle.cpp_tree.specs.declared.roles.Position.{Position}
use Rattle.cpp_tree.specs.declared.roles.Role.{Role}
use Rattle.cpp_tree.specs.declared.roles.Role.TheVariants.{Value, Initialiser, Step, Scalar}
use Rattle.cpp_tree.specs.Typing.{Head, is_prvalue}
use Rattle.cpp_tree.specs.Typing as typing
use Rattle.cpp_tree.specs.Roles.{serves, branch_role, result_role, is_copy, is_piece, is_handler}
use Rattle.cpp_tree.specs.Rows.{same_value}
use Rattle.cpp_tree.specs.WellFormed.{inside}
use Rattle.low_code.specs.Types.{is_void, is_class_type}
use Rattle.unwind_lower.specs.declared.items.Way.{Way}
use Rattle.unwind_lower.specs.declared.items.Way.TheVariants.{Value as ForValue, Dropped}
use Rattle.unwind_lower.specs.Expressions.{branch_way}
use Rattle.unwind_lower.specs.Settings.{Setting, node_in, makes_temporaries}
use Rattle.unwind_lower.specs.Steps.{for_value as as_value}
use Rattle.low_code.specs.Nodes.{kid_in}
use Rattle.lowered_trees.specs.Shapes.{Throws, object, scalar}
use Rattle.lowered_trees.specs.Suiting.{has_word, have_words, throws_one}
use Rattle.lowered_trees.specs.Running.{Runs, conditional, comma, full, throws, rethrows}
use Rattle.lowered_trees.proofs.Known.{Serves, Holds, Kid, KidAt, for_value, of_result, word, builds, copies, statement, block_item, switch_item, step, part, copied_part, caught}
use Rattle.lowered_trees.proofs.Known.{dropped as drops}
use Rattle.lowered_trees.proofs.Kids.{AllKids, none_kid, one_kid, two_kids, three_kids, one_and_any, fields, word_of}
use Rattle.lowered_trees.proofs.Facts.{stands_as, words_as, row_as, suit_as, void_alike}

no : {A : Type 0} (b : Bool) → b ≡ true → b ≡ false → A
no b t f = absurd (true≢false (sym t ∙ f))

pub void_form : (t : Typ) → typing.is_void t ≡ is_void t
void_form (typ void c v) = refl
void_form (typ f c v) = refl

-- a kid of such a role is one of that role
branch_kid : (g : Setting) (p : Position) (role : Role) (v b : Bool) (j : TNodeId) (x : Head) → KidAt g p (Some (branch_role role v)) b j x
    → Kid g p (branch_role role v) b j x
branch_kid g p Initialiser v b j x k = k
branch_kid g p Value v b j x k = k
branch_kid g p Step v b j x k = k
branch_kid g p role true b j x k = k
branch_kid g p role false b j x k = k

result_kid : (g : Setting) (p : Position) (role : Role) (b : Bool) (j : TNodeId) (x : Head) → KidAt g p (Some (result_role role)) b j x
    → Kid g p (result_role role) b j x
result_kid g p Initialiser b j x k = k
result_kid g p role b j x k = k

-- a branch is run as the whole is, or dropped where this has no type
branch_runs : (g : Setting) (p : Position) (id j : TNodeId) (x : Head) → {a : Bool} {role : Role} {way : Way} → Serves a role way → (v : Bool)
    → serves role Conditional ≡ true → Kid g p (branch_role role v) false j x → is_void (node_in g id).typ ≡ v
    → Runs g p j (branch_way (node_in g id) (as_value way))
branch_runs g p id j x for_value true s k e = subst (λ b. Runs g p j (cond b Dropped ForValue)) (sym e) (k.comes drops)
branch_runs g p id j x for_value false s k e = subst (λ b. Runs g p j (cond b Dropped ForValue)) (sym e) (k.comes for_value)
branch_runs g p id j x drops true s k e = subst (λ b. Runs g p j (cond b Dropped ForValue)) (sym e) (k.comes drops)
branch_runs g p id j x drops false s k e = subst (λ b. Runs g p j (cond b Dropped ForValue)) (sym e) (k.comes for_value)
branch_runs g p id j x of_result true s k e = subst (λ b. Runs g p j (cond b Dropped ForValue)) (sym e) (k.comes drops)
branch_runs g p id j x of_result false s k e = subst (λ b. Runs g p j (cond b Dropped ForValue)) (sym e) (k.comes for_value)
branch_runs g p id j x word true s k e = subst (λ b. Runs g p j (cond b Dropped ForValue)) (sym e) (k.comes statement)
branch_runs g p id j x word false s k e = subst (λ b. Runs g p j (cond b Dropped ForValue)) (sym e) (k.comes for_value)
branch_runs g p id j x statement true s k e = subst (λ b. Runs g p j (cond b Dropped ForValue)) (sym e) (k.comes statement)
branch_runs g p id j x statement false s k e = subst (λ b. Runs g p j (cond b Dropped ForValue)) (sym e) (k.comes for_value)
branch_runs g p id j x block_item true s k e = subst (λ b. Runs g p j (cond b Dropped ForValue)) (sym e) (k.comes statement)
branch_runs g p id j x block_item false s k e = subst (λ b. Runs g p j (cond b Dropped ForValue)) (sym e) (k.comes for_value)
branch_runs g p id j x switch_item true s k e = subst (λ b. Runs g p j (cond b Dropped ForValue)) (sym e) (k.comes statement)
branch_runs g p id j x switch_item false s k e = subst (λ b. Runs g p j (cond b Dropped ForValue)) (sym e) (k.comes for_value)
branch_runs g p id j x step true s k e = subst (λ b. Runs g p j (cond b Dropped ForValue)) (sym e) (k.comes drops)
branch_runs g p id j x step false s k e = subst (λ b. Runs g p j (cond b Dropped ForValue)) (sym e) (k.comes for_value)
branch_runs g p id j x builds v s k e = k.comes builds
branch_runs g p id j x copies v s k e = absurd cc
branch_runs g p id j x part v s k e = absurd cc
branch_runs g p id j x copied_part v s k e = absurd cc
branch_runs g p id j x caught v s k e = absurd cc

result_runs : (g : Setting) (p : Position) (j : TNodeId) (x : Head) → {a : Bool} {role : Role} {way : Way} → Serves a role way → (kind : TKind)
    → serves role kind ≡ true → (is_copy kind ≡ false) × (is_piece kind ≡ false) × (is_handler kind ≡ false) → Kid g p (result_role role) false j x
    → Runs g p j (as_value way)
result_runs g p j x for_value kind s b k = k.comes for_value
result_runs g p j x drops kind s b k = k.comes for_value
result_runs g p j x of_result kind s b k = k.comes for_value
result_runs g p j x word kind s b k = k.comes for_value
result_runs g p j x statement kind s b k = k.comes for_value
result_runs g p j x block_item kind s b k = k.comes for_value
result_runs g p j x switch_item kind s b k = k.comes for_value
result_runs g p j x step kind s b k = k.comes for_value
result_runs g p j x builds kind s b k = k.comes builds
result_runs g p j x copies kind s b k = no (is_copy kind) s b.0
result_runs g p j x part kind s b k = no (is_piece kind) s b.1
result_runs g p j x copied_part kind s b k = no (is_piece kind) s b.1
result_runs g p j x caught kind s b k = no (is_handler kind) s b.2

same_void : (t : Typ) (cat : Cat) (h : Head) → same_value t cat h ≡ true → is_void h.typ ≡ is_void t
same_void t Lvalue h e = void_alike t h.typ (and_parts (is_lvalue h.cat) (typ_eq t h.typ) e).1
same_void t Prvalue h e = void_alike t h.typ (and_parts (is_prvalue h.cat) (typ_eq t h.typ) e).1

or_full : (a b : Bool) {A : Type 0} → (a ≡ true → A) → (b ≡ true → A) → (a || b) ≡ true → A
or_full true b f g e = f refl
or_full false b f g e = g e

-- what is thrown
thrown : (g : Setting) (p : Position) (t : Typ) (x : Head) (ids : List TNodeId) (hs : List Head) → AllKids g p Scalar ids hs → t ≡ x.typ
    → throws_one (x ∷ hs) ≡ true → (b : Bool) → is_class_type x.typ ≡ b → Throws g t ids
thrown g p t x ids hs k s e true c = object (ap is_class_type s ∙ c)
thrown g p t x (id ∷ []) (h ∷ []) k s e false c = scalar id (ap is_class_type s ∙ c) refl
thrown g p t x [] [] k s e false c = absurd cc
thrown g p t x [] (h ∷ hs) k s e false c = absurd k
thrown g p t x (id ∷ ids) [] k s e false c = absurd k
thrown g p t x (id ∷ []) (h ∷ i ∷ hs) k s e false c = absurd k.1
thrown g p t x (id ∷ j ∷ ids) (h ∷ []) k s e false c = absurd k.1
thrown g p t x (id ∷ j ∷ ids) (h ∷ i ∷ hs) k s e false c = absurd cc

module _ (g : Setting) {p : Position} {role : Role} {a : Bool} {way : Way} {id : TNodeId} {t : Typ} {cat : Cat} {ids : List TNodeId} {hs : List Head} where
  pub conditional_runs : Serves a role way → Holds g p role a id Conditional t cat ids hs → Runs g p id way
  conditional_runs w h =
      let v = typing.is_void t in
      let o = three_kids g p Value (branch_role role v) (branch_role role v) false ids hs h.kids h.fit.many in
      let e = and_parts (has_word o.head) (have_words []) (words_as g Conditional (o.head ∷ o.other_head ∷ o.last_head ∷ []) h o.hs_are) in
      let s = ap is_void h.typ_is ∙ sym (void_form t) in
      let b = branch_kid g p role v false o.other o.other_head o.other_kid in
      let c = branch_kid g p role v false o.last o.last_head o.last_kid in
      conditional o.id o.other o.last (stands_as g (o.id ∷ o.other ∷ o.last ∷ []) h o.ids_are) (o.kid.comes for_value) (word_of g o.kid e.0)
      (branch_runs g p id o.other o.other_head w v h.fit.serves b s) (branch_runs g p id o.last o.last_head w v h.fit.serves c s)
      (λ m. or_full (makes_temporaries g o.other) (makes_temporaries g o.last) b.covered c.covered
      (subst (λ js. (makes_temporaries g (kid_in js 1) || makes_temporaries g (kid_in js 2)) ≡ true) (h.kids_are ∙ o.ids_are) m))

  pub comma_runs : Serves a role way → Holds g p role a id Comma t cat ids hs → Runs g p id way
  comma_runs w h =
      let o = two_kids g p Value (result_role role) false ids hs h.kids h.fit.many in
      let r = row_as g Comma (o.head ∷ o.other_head ∷ []) h o.hs_are in
      let b = result_kid g p role false o.other o.other_head o.other_kid in
      comma o.id o.other (stands_as g (o.id ∷ o.other ∷ []) h o.ids_are) (o.kid.comes drops)
      (result_runs g p o.other o.other_head w Comma h.fit.serves (refl, refl, refl) b)
      (λ x. ap is_void b.typ_is ∙ same_void t cat o.other_head r ∙ sym (ap is_void h.typ_is))

  pub full_runs : Serves a role way → Holds g p role a id FullExpression t cat ids hs → Runs g p id way
  full_runs w h =
      let o = one_kid g (inside FullExpression p) (result_role role) false ids hs h.kids h.fit.many in
      let r = row_as g FullExpression (o.head ∷ []) h o.hs_are in
      let b = result_kid g (inside FullExpression p) role false o.id o.head o.kid in
      full o.id (stands_as g (o.id ∷ []) h o.ids_are)
      (result_runs g (inside FullExpression p) o.id o.head w FullExpression h.fit.serves (refl, refl, refl) b)
      (λ x. ap is_void b.typ_is ∙ same_void t cat o.head r ∙ sym (ap is_void h.typ_is))

  pub throw_runs : Serves a role way → Holds g p role a id Throw t cat ids hs → Runs g p id way
  throw_runs w h =
      let o = one_and_any g p Value Scalar false ids hs h.kids h.fit.many in
      let e = and_parts (has_word o.head) (have_words []) (words_as g Throw (o.head ∷ o.other_heads) h o.hs_are) in
      throws o.id o.others (stands_as g (o.id ∷ o.others) h o.ids_are) (o.kid.comes for_value) (word_of g o.kid e.0)
      (fields g p o.others o.other_heads o.other_kids)
      (thrown g p (node_in g o.id).typ o.head o.others o.other_heads o.other_kids o.kid.typ_is (suit_as g Throw (o.head ∷ o.other_heads) h o.hs_are)
      (is_class_type o.head.typ) refl)

  pub rethrow_runs : Serves a role way → Holds g p role a id Rethrow t cat ids hs → Runs g p id way
  rethrow_runs w h = rethrows (stands_as g [] h (none_kid g p false ids hs h.kids).0)
