-- Temporaries that wait have a full-expression around them.
use Rattle.std.proofs.Common.{◌≡◌, ℕ, zero, suc, ◌+◌, ◌<◌, ◌==◌, Bool, true, false, not, ◌&&◌, ◌||◌, cond, List, [], ◌∷◌, length, length-append, Option, Some, refl, sym, ap, ◌∙◌, arith}
use Rattle.std.proofs.Common.{get_or, nat_lt, fold, eqb-true, ltb-true}
use Rattle.std.proofs.lemmas.Bool.{and_parts, or_from, true≢false}
use Rattle.std.proofs.lemmas.List.{get_or_append_left, get_or_push}
use Rattle.std.specs.Prelude.{slice_get, unwrap_or, is_some}
use Rattle.cpp_tree.specs.cpp_types.Typ.{Typ}
use Rattle.cpp_tree.specs.cpp_types.Class.{Class}
use Rattle.cpp_tree.specs.cpp_types.Equal.{flag_eq}
use Rattle.cpp_tree.specs.declared.arena.TNode.{TNode}
use Rattle.cpp_tree.specs.declared.arena.TNodeId.{TNodeId}
use Rattle.cpp_tree.specs.declared.kinds.TKind.TheVariants.{Literal, Materialize, FullExpression, Store, Pieces, Piece, Elements}
use Rattle.cpp_tree.specs.declared.roles.Position.{Position}
use Rattle.cpp_tree.specs.declared.roles.Role.{Role}
use Rattle.cpp_tree.specs.declared.roles.Role.TheVariants.{Value}
use Rattle.cpp_tree.specs.Trees.{Tree, node, Trees, none, more, kind_of}
use Rattle.cpp_tree.specs.Arena.{are_below, IsOrdered, Shows, ShowsAll}
use Rattle.cpp_tree.specs.Parts.{Part, part_of}
use Rattle.cpp_tree.specs.Typing.{is_statement_typ, is_kind, kind_in}
use Rattle.cpp_tree.specs.Roles.{Kids, role_at}
use Rattle.cpp_tree.specs.Rows.{result_of}
use Rattle.cpp_tree.specs.Rows as rows
use Rattle.cpp_tree.specs.WellFormed.{heads_of, kids_in, inside, fits, kids_fit, is_kid, is_zero_role, zeroes, zero_parts, zero_part, zero_scalar, is_zero_of, form_to_zero}
use Rattle.cpp_tree.specs.WellFormed.{volatile_to_zero, class_in, is_sized_class, has_elements, element_in, starts_at, part_typ, setting_of}
use Rattle.low_code.specs.Temporaries.{has_one, makes_by, makes_one, with_one, temporaries_of}
use Rattle.unwind_lower.specs.Settings.{Setting, makes_temporaries}
use Rattle.lowered_trees.proofs.Known.{known}

-- ---- what a tree makes

abbrev mutual
  makes : Tree → Bool
  makes (node kind t cat at kids) = makes_by kind (length (heads_of kids)) (any_makes kids)

  any_makes : Trees → Bool
  any_makes none = false
  any_makes (more t ts) = makes t || any_makes ts

kept : (ks : List Bool) (ns : List TNode) (i : ℕ) → i < length ks → get_or (fold with_one ks ns) i false ≡ get_or ks i false
kept ks [] i h = refl
kept ks (n ∷ ns) i h =
    let more_there : i < length (with_one ks n) = simp length-append (omega arith) in
    kept (with_one ks n) ns i more_there ∙ get_or_append_left ks (makes_one ks n ∷ []) false i h

same_kids : (bound : ℕ) (ks us : List Bool) (ids : List TNodeId) → ((i : ℕ) → i < bound → get_or us i false ≡ get_or ks i false)
    → are_below bound ids ≡ true → has_one us ids ≡ has_one ks ids
same_kids bound ks us [] same below = refl
same_kids bound ks us (id ∷ ids) same below =
    let parts = and_parts (nat_lt id.0 bound) (are_below bound ids) below in
    let here : get_or us id.0 false ≡ get_or ks id.0 false = same id.0 (ltb-true id.0 bound parts.0) in
    let there : has_one us ids ≡ has_one ks ids = same_kids bound ks us ids same parts.1 in
    ap (λ b. b || has_one us ids) here ∙ ap (λ b. get_or ks id.0 false || b) there

one_is : (ks : List Bool) (ns : List TNode) (i j : ℕ) (n : TNode) → j ≡ length ks + i → slice_get ns i ≡ Some n → are_below j n.kids.items ≡ true
    → get_or (fold with_one ks ns) j false ≡ makes_one (fold with_one ks ns) n
one_is ks [] i j n e h below = absurd cc
one_is ks (m ∷ ns) zero j n e h below =
    let all : List Bool = fold with_one (with_one ks m) ns in
    let is : m ≡ n = cc in
    let seam : j ≡ length ks = omega arith in
    let there : j < length (with_one ks m) = simp length-append (omega arith) in
    let found : get_or all j false ≡ makes_one ks m = kept (with_one ks m) ns j there ∙ get_or_push ks (makes_one ks m) false j (sym seam) in
    let agree : (i : ℕ) → i < j → get_or all i false ≡ get_or ks i false = λ i h. (
    let low : i < length ks = omega (arith, h, seam) in
    let there : i < length (with_one ks m) = simp length-append (omega (arith, low)) in
    kept (with_one ks m) ns i there ∙ get_or_append_left ks (makes_one ks m ∷ []) false i low
    ) in
    let kids : has_one all n.kids.items ≡ has_one ks n.kids.items = same_kids j ks all n.kids.items agree below in
    found ∙ ap (λ (z : TNode). makes_one ks z) is ∙ ap (λ (b : Bool). makes_by n.kind (length n.kids.items) b) (sym kids)
one_is ks (m ∷ ns) (suc i) j n e h below =
    let one_more : length (with_one ks m) ≡ length ks + 1 = simp length-append (omega arith) in
    one_is (with_one ks m) ns i j n (omega arith) h below

or_default : (ks : List Bool) (i : ℕ) → unwrap_or (slice_get ks i) false ≡ get_or ks i false
or_default [] i = refl
or_default (k ∷ ks) zero = refl
or_default (k ∷ ks) (suc i) = or_default ks i

module _ (ns : List TNode) (o : IsOrdered ns) where
  many_shown : (ids : List TNodeId) (ts : Trees) → ShowsAll ns ids ts → length ids ≡ length (heads_of ts)
  many_shown ids none s = ap length s
  many_shown ids (more t ts) s = ap length s.2 ∙ ap suc (many_shown s.1 ts s.4)

  mutual
    shown_makes : (id : TNodeId) (t : Tree) → Shows ns id.0 t → get_or (temporaries_of ns) id.0 false ≡ makes t
    shown_makes id (node kind t cat at kids) s =
        let n = (s.0).found in
        one_is [] ns id.0 id.0 n (omega arith) (s.0).stands (o.lower id.0 n (s.0).stands)
        ∙ ap (λ k. makes_by k (length n.kids.items) (has_one (temporaries_of ns) n.kids.items)) (s.0).kind_is
        ∙ ap (λ m. makes_by kind m (has_one (temporaries_of ns) n.kids.items)) (many_shown n.kids.items kids s.1)
        ∙ ap (λ b. makes_by kind (length (heads_of kids)) b) (all_shown n.kids.items kids s.1)

    all_shown : (ids : List TNodeId) (ts : Trees) → ShowsAll ns ids ts → has_one (temporaries_of ns) ids ≡ any_makes ts
    all_shown ids none s = ap (λ js. has_one (temporaries_of ns) js) s
    all_shown ids (more t ts) s = ap (λ js. has_one (temporaries_of ns) js) s.2
        ∙ ap (λ b. b || has_one (temporaries_of ns) s.1) (shown_makes s.0 t s.3) ∙ ap (λ b. makes t || b) (all_shown s.1 ts s.4)

-- ---- what fits where no full-expression is

kept_none : (argument full : Bool) (many : ℕ) → (argument || many == 1 || full) ≡ true → full ≡ false → (not argument && nat_lt 1 many) ≡ false
kept_none true full many e f = refl
kept_none false true many e f = absurd cc
kept_none false false many e f = by_test (many == 1) refl e (nat_lt 1 many) refl where
  by_test : (b : Bool) → many == 1 ≡ b → (b || false) ≡ true → (c : Bool) → nat_lt 1 many ≡ c → nat_lt 1 many ≡ false
  by_test false i e c j = absurd cc
  by_test true i e false j = j
  by_test true i e true j =
      let one : many ≡ 1 = eqb-true many 1 i in let more_there : 1 < many = ltb-true 1 many j in let never : ⊥ = omega (arith, one, more_there) in absurd never

either_way : (b c d : Bool) {A : Type 0} → (c ≡ true → A) → (d ≡ true → A) → cond b c d ≡ true → A
either_way true c d f g e = f e
either_way false c d f g e = g e

mutual
  zero_unmade : (classes : List Class) (v : Bool) (t : Typ) (tree : Tree) → zeroes classes v t tree ≡ true → makes tree ≡ false
  zero_unmade classes v t (node Pieces ty cat at kids) e =
      let z = and_parts (is_statement_typ ty cat && is_sized_class classes (class_in (form_to_zero t)))
      (zero_parts classes (volatile_to_zero v t) (unwrap_or (class_in (form_to_zero t)) 0) 0 kids) e in
      zeros_unmade classes (volatile_to_zero v t) (unwrap_or (class_in (form_to_zero t)) 0) 0 kids z.1
  zero_unmade classes v t (node (Elements count stride) ty cat at (more kid none)) e =
      let z = and_parts (is_statement_typ ty cat && has_elements classes count stride (form_to_zero t))
      (zeroes classes (volatile_to_zero v t) (element_in (form_to_zero t)) kid) e in
      or_from (makes kid) false (zero_unmade classes (volatile_to_zero v t) (element_in (form_to_zero t)) kid z.1) refl
  zero_unmade classes v t (node (Store kind marked) ty cat at (more (node (Literal w) u c a none) none)) e = refl
  zero_unmade classes v t (node (Store kind marked) ty cat at (more word none)) e =
      absurd (let z = and_parts (is_statement_typ ty cat) (zero_scalar (volatile_to_zero v t) (form_to_zero t) kind marked word) e in
      let y = and_parts (is_kind kind (kind_in (form_to_zero t)) && flag_eq marked (volatile_to_zero v t)) (is_zero_of (form_to_zero t) word) z.1 in
      let x : is_zero_of (form_to_zero t) word ≡ true = y.1 in cc)
  zero_unmade classes v t tree e = absurd cc

  zeros_unmade : (classes : List Class) (v : Bool) (n i : ℕ) (ts : Trees) → zero_parts classes v n i ts ≡ true → any_makes ts ≡ false
  zeros_unmade classes v n i none e = refl
  zeros_unmade classes v n i (more t ts) e =
      let z = and_parts (zero_part classes v (part_of classes n i) t) (zero_parts classes v n (suc i) ts) e in
      or_from (makes t) (any_makes ts) (part_unmade classes v (part_of classes n i) t z.0) (zeros_unmade classes v n (suc i) ts z.1)

  part_unmade : (classes : List Class) (v : Bool) (o : Option Part) (t : Tree) → zero_part classes v o t ≡ true → makes t ≡ false
  part_unmade classes v o (node (Piece offset) ty cat at (more kid none)) e =
      let z = and_parts (is_statement_typ ty cat && starts_at offset o) (zeroes classes v (part_typ o) kid) e in
      or_from (makes kid) false (zero_unmade classes v (part_typ o) kid z.1) refl
  part_unmade classes v o tree e = absurd cc

mutual
  unmade : (s : rows.Setting) (p : Position) (role : Role) (t : Tree) → fits s p role t ≡ true → p.full ≡ false → makes t ≡ false
  unmade s p role (node FullExpression t cat at kids) e f = refl
  unmade s p role (node (Materialize place argument) t cat at kids) e f =
      let k = known s p role (Materialize place argument) t cat at kids e in
      or_from (not argument && nat_lt 1 (length (heads_of kids))) (any_makes kids) (kept_none argument p.full (length (heads_of kids)) k.fit.place f)
      (all_unmade s p (kids_in role (Materialize place argument) t (heads_of kids)) 0 kids k.below f)
  unmade s p role (node kind t cat at kids) e f =
      all_unmade s (inside kind p) (kids_in role kind t (heads_of kids)) 0 kids (known s p role kind t cat at kids e).below f

  all_unmade : (s : rows.Setting) (p : Position) (ks : Kids) (i : ℕ) (ts : Trees) → kids_fit s p ks i ts ≡ true → p.full ≡ false → any_makes ts ≡ false
  all_unmade s p ks i none e f = refl
  all_unmade s p ks i (more t ts) e f =
      let a = is_some (role_at ks i) in
      let b = is_kid (kind_of t) in
      let c = zeroes s.classes false (result_of s.function) t in
      let d = fits s p (unwrap_or (role_at ks i) Value) t in
      let z = is_zero_role (unwrap_or (role_at ks i) Value) in
      let all = and_parts (a && b && cond z c d) (kids_fit s p ks (suc i) ts) e in
      let mine = and_parts (a && b) (cond z c d) all.0 in
      or_from (makes t) (any_makes ts) (either_way z c d (λ h. zero_unmade s.classes false (result_of s.function) t h)
      (λ h. unmade s p (unwrap_or (role_at ks i) Value) t h f) mine.1) (all_unmade s p ks (suc i) ts all.1 f)

pub covered : (g : Setting) → IsOrdered g.unit.nodes.items → g.temporaries ≡ temporaries_of g.unit.nodes.items → (p : Position) (role : Role) (id : TNodeId)
    → (t : Tree) → Shows g.unit.nodes.items id.0 t → fits (setting_of g.program g.unit g.func) p role t ≡ true → makes_temporaries g id ≡ true
    → p.full ≡ true
unfolding makes_temporaries
covered g o is p role id t s e m = by_test p.full refl where
  there : makes t ≡ true
  there = sym (ap (λ ks. unwrap_or (slice_get ks id.0) false) is ∙ or_default (temporaries_of g.unit.nodes.items) id.0
      ∙ shown_makes g.unit.nodes.items o id t s) ∙ m

  by_test : (b : Bool) → p.full ≡ b → p.full ≡ true
  by_test true f = f
  by_test false f = absurd (true≢false (sym there ∙ unmade (setting_of g.program g.unit g.func) p role t e f))
