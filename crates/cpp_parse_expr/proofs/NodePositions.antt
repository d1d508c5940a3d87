-- Each node that derives has the position of a token.
use Rattle.std.proofs.Common.{◌≡◌, ℕ, ◌+◌, ◌≤◌, nat_lt, Bool, true, false, if◌then◌else◌, Option, Some, None, refl, sym, subst, arith, le_trans}
use Rattle.cpp_ast.specs.declared.arena.At.{At}
use Rattle.cpp_ast.specs.declared.kinds.NodeKind.{NodeKind}
use Rattle.cpp_ast.specs.declared.kinds.NodeKind.TheVariants as kind
use Rattle.cpp_ast.specs.Trees.{Tree, node, Trees, none, more, kind_of, kid_depth}
use Rattle.cpp_syntax.specs.Source.{Source, position_at}
use Rattle.cpp_syntax.specs.Rules.{Lookahead, Positioning, at_first, at_token, at_name, Rule}
use Rattle.cpp_syntax.specs.Derivations.{Read, Name, join, and_then, reads_node, with_body_apart, first_or, token_of_name, declared, declared_in, name_by}
use Rattle.cpp_syntax.specs.Derivations.{leads_to_name, is_of_declarator, positioned, position_of_first, Bodies, Derives, is_nothing, is_word, is_mark}
use Rattle.cpp_syntax.specs.Derivations.{is_mark_next, is_mark_name, is_both, is_left, is_right, is_last, is_more, is_form, is_node, is_wrap, is_kept_apart}
use Rattle.cpp_syntax.specs.Derivations.{is_in_tree, is_where, is_before, is_if, is_unless}
use Rattle.cpp_syntax.proofs.FirstTerminals.{ends_behind}
use Rattle.cpp_parse_expr.specs.Depths.{deep_node, deep_kid, or_else}

-- the position of a token up to one
pub record IsPosition (source : Source) (most : ℕ) (at : At) : Type 0 where
  pub token : ℕ
  pub within : token ≤ most
  pub is : position_at source token ≡ at

abbrev IsWithin : ℕ → Option ℕ → Type 0
IsWithin most None = Unit {0}
IsWithin most (Some k) = k ≤ most

abbrev NameWithin : ℕ → Option Name → Type 0
NameWithin most None = Unit {0}
NameWithin most (Some name) = (name.first ≤ most) × (name.token ≤ most)

abbrev mutual
  pub IsPositioned : Source → ℕ → Tree → Type 0
  IsPositioned source most (node kind at token kids) = IsPosition source most at × IsWithin most token × ArePositioned source most kids

  pub ArePositioned : Source → ℕ → Trees → Type 0
  ArePositioned source most none = Unit {0}
  ArePositioned source most (more t ts) = IsPositioned source most t × ArePositioned source most ts

joined : (source : Source) (most : ℕ) (ts us : Trees) → ArePositioned source most ts → ArePositioned source most us → ArePositioned source most (join ts us)
joined source most none us p q = q
joined source most (more t ts) us p q = (p.0, joined source most ts us p.1 q)

first_within : (most : ℕ) (k l : Option ℕ) → IsWithin most k → IsWithin most l → IsWithin most (first_or k l)
first_within most None l p q = q
first_within most (Some k) l p q = p

by_kind : (most : ℕ) (kind : NodeKind) (token : Option ℕ) → IsWithin most token → NameWithin most (name_by kind token)
by_kind most kind.DeclaratorId (Some k) p = (p, p)
by_kind most kind.QualifiedDeclaratorId (Some k) p = (p, p)
by_kind most kind.DestructorId (Some k) p = (omega (arith, p), p)
by_kind most kind.QualifiedDestructorId (Some k) p = (omega (arith, p), p)
by_kind most _ _ p = tt

either_name : (most : ℕ) (b : Bool) (o q : Option Name) → NameWithin most o → NameWithin most q → NameWithin most (if b then o else q)
either_name most true o q g h = g
either_name most false o q g h = h

mutual
  name_within : (source : Source) (most : ℕ) (t : Tree) → IsPositioned source most t → NameWithin most (declared t)
  name_within source most (node kind at token kids) p =
      either_name most (leads_to_name kind) (declared_in kids) (name_by kind token) (names_within source most kids p.2) (by_kind most kind token p.1)

  names_within : (source : Source) (most : ℕ) (ts : Trees) → ArePositioned source most ts → NameWithin most (declared_in ts)
  names_within source most none p = tt
  names_within source most (more t ts) p =
      either_name most (is_of_declarator t) (declared t) (declared_in ts) (name_within source most t p.0) (names_within source most ts p.1)

token_within : (most : ℕ) (o : Option Name) → NameWithin most o → IsWithin most (token_of_name o)
token_within most None p = tt
token_within most (Some name) p = p.1

at_position : (source : Source) (most a : ℕ) → a ≤ most → IsPosition source most (position_at source a)
at_position source most a h = record { token = a; within = h; is = refl }

at_option : (source : Source) (most a : ℕ) (o : Option ℕ) (kids : Trees) → a ≤ most → IsWithin most o
    → IsPosition source most (positioned at_token source a o kids)
at_option source most a None kids h p = at_position source most a h
at_option source most a (Some k) kids h p = at_position source most k p

by_name : (source : Source) (most a : ℕ) (o : Option ℕ) (kids : Trees) (name : Option Name) → declared_in kids ≡ name → a ≤ most
    → NameWithin most name → IsPosition source most (positioned at_name source a o kids)
by_name source most a o kids None e h p = rw e (at_position source most a h)
by_name source most a o kids (Some name) e h p = rw e (at_position source most name.first p.0)

positioned_within : (source : Source) (most a : ℕ) (positioning : Positioning) (o : Option ℕ) (kids : Trees) → a ≤ most → IsWithin most o
    → ArePositioned source most kids → IsPosition source most (positioned positioning source a o kids)
positioned_within source most a at_first o kids h p q = at_position source most a h
positioned_within source most a at_token o kids h p q = at_option source most a o kids h p
positioned_within source most a at_name o kids h p q = by_name source most a o kids (declared_in kids) refl h (names_within source most kids q)

first_positioned : (source : Source) (most a : ℕ) (ts : Trees) → a ≤ most → ArePositioned source most ts
    → IsPosition source most (position_of_first source a ts)
first_positioned source most a none h p = at_position source most a h
first_positioned source most a (more (node kind at token kids) ts) h p = (p.0).0

-- what a text reads has indices up to where it ends
pub record Placed (source : Source) (most : ℕ) (k : Option ℕ) (r : Read) : Type 0 where
  pub token : IsWithin most k
  pub trees : ArePositioned source most r.trees

as_before : (source : Source) (most : ℕ) (k : Option ℕ) (r s : Read) → s ≡ r → IsWithin most k → ArePositioned source most r.trees → Placed source most k s
as_before source most k r s e p q = record { token = p; trees = subst (λ (z : Read). ArePositioned source most z.trees) (sym e) q }

with_more : (source : Source) (most : ℕ) (k : Option ℕ) (r s t : Read) → k ≡ None → s ≡ and_then r t → ArePositioned source most r.trees
    → ArePositioned source most t.trees → Placed source most k s
with_more source most k r s t e f p q = record {
  token = subst (IsWithin most) (sym e) tt;
  trees = subst (λ (z : Read). ArePositioned source most z.trees) (sym f) (joined source most r.trees t.trees p q);
}

pub text_positioned : {lookahead : Lookahead → ℕ → Type 0} {bodies : Bodies} {source : Source} {p : Rule} {r s : Read} {a b : ℕ} {k : Option ℕ} (most : ℕ)
    → Derives lookahead bodies source p r a b k s → b ≤ most → ArePositioned source most r.trees → Placed source most k s
text_positioned {source = source} {r = r} {s = s} {k = k} most (is_nothing e f g) h q = as_before source most k r s g (subst (IsWithin most) (sym f) tt) q
text_positioned {source = source} {r = r} {s = s} {k = k} most (is_word u e f g) h q = as_before source most k r s g (subst (IsWithin most) (sym f) tt) q
text_positioned {source = source} {r = r} {s = s} {k = k} most (is_mark u e f g) h q =
    as_before source most k r s g (subst (IsWithin most) (sym f) (omega (arith, e, h))) q
text_positioned {source = source} {r = r} {s = s} {k = k} most (is_mark_next e f g) h q =
    as_before source most k r s g (subst (IsWithin most) (sym f) (omega (arith, e, h))) q
text_positioned {source = source} {r = r} {s = s} {k = k} most (is_mark_name e f g) h q =
    as_before source most k r s g (subst (IsWithin most) (sym f) (token_within most (declared_in r.trees) (names_within source most r.trees q))) q
text_positioned {source = source} most (is_both {k = k} {l = l} x y e) h q =
    let first = text_positioned most x (le_trans (ends_behind y) h) q in
    let then_ = text_positioned most y h first.trees in
    record { token = subst (IsWithin most) (sym e) (first_within most k l first.token then_.token); trees = then_.trees }
text_positioned most (is_left x) h q = text_positioned most x h q
text_positioned most (is_right x) h q = text_positioned most x h q
text_positioned {source = source} {r = r} {s = s} {k = k} most (is_last e f g) h q = as_before source most k r s g (subst (IsWithin most) (sym f) tt) q
text_positioned {source = source} most (is_more {k = k} {l = l} x y e) h q =
    let first = text_positioned most x (le_trans (ends_behind y) h) q in
    let then_ = text_positioned most y h first.trees in
    record { token = subst (IsWithin most) (sym e) (first_within most k l first.token then_.token); trees = then_.trees }
text_positioned {source = source} {s = s} {k = k} most (is_form {r = r} {t = t} x e f) h q =
    with_more source most k r s t e f q (text_positioned most x h tt).trees
text_positioned {source = source} {s = s} {a = a} {k = k} most (is_node {positioning = positioning} {kind = kind} {r = r} {t = t} {l = l} x e f) h q =
    let kids = text_positioned most x h tt in
    let begins = le_trans (ends_behind x) h in
    with_more source most k r s (reads_node kind (positioned positioning source a l t.trees) l t) e f q
    ((positioned_within source most a positioning l t.trees begins kids.token kids.trees, kids.token, kids.trees), tt)
text_positioned {source = source} {s = s} {a = a} {k = k} most (is_wrap {kind = kind} {r = r} {t = t} {l = l} x e f) h q =
    let kids = text_positioned most x h q in
    let begins = le_trans (ends_behind x) h in
    record {
      token = subst (IsWithin most) (sym e) tt;
      trees = subst (λ (z : Read). ArePositioned source most z.trees) (sym f) ((first_positioned source most a r.trees begins q, kids.token, kids.trees), tt);
    }
text_positioned {source = source} {s = s} {a = a} {k = k} most (is_kept_apart {kind = kind} {r = r} {t = t} {m = m} {n = n} {lambda = lambda} d x c o
    y u g e f) h q =
    let begins = ends_behind x in
    let inner = ends_behind y in
    let kids = text_positioned most x (omega (arith, inner, g, h)) tt in
    with_more source most k r s (with_body_apart kind (position_at source a) lambda (m + 1) n t) e f q
    ((at_position source most a (omega (arith, begins, inner, g, h)), subst (IsWithin most) c kids.token, kids.trees), tt)
text_positioned {source = source} {s = s} {a = a} {k = k} most (is_in_tree {kind = kind} {r = r} {u = u} {l = l} d x y e f) h q =
    let head = text_positioned most x (le_trans (ends_behind y) h) tt in
    let whole = text_positioned most y h head.trees in
    with_more source most k r s (reads_node kind (position_at source a) l u) e f q (
      (
        at_position source most a
            (le_trans (ends_behind x) (le_trans (ends_behind y) h)),
        head.token,
        whole.trees,
      ),
      tt,
    )
text_positioned most (is_where x e) h q = text_positioned most x h q
text_positioned most (is_before x e) h q = text_positioned most x h q
text_positioned most (is_if l x) h q = text_positioned most x h q
text_positioned most (is_unless l x) h q = text_positioned most x h q

-- the first node that lies too deep has such an index

abbrev PositionWithin : Source → ℕ → Option At → Type 0
PositionWithin source most None = Unit {0}
PositionWithin source most (Some at) = IsPosition source most at

by_test : (source : Source) (most : ℕ) (b : Bool) (at : At) (o : Option At) → IsPosition source most at → PositionWithin source most o
    → PositionWithin source most (if b then Some at else o)
by_test source most true at o p q = p
by_test source most false at o p q = q

one_or_other : (source : Source) (most : ℕ) (o q : Option At) → PositionWithin source most o → PositionWithin source most q
    → PositionWithin source most (or_else o q)
one_or_other source most None q g h = h
one_or_other source most (Some at) q g h = g

mutual
  deep_positioned : (source : Source) (most limit depth : ℕ) (t : Tree) → IsPositioned source most t → PositionWithin source most (deep_node limit depth t)
  deep_positioned source most limit depth (node kind at token kids) p =
      by_test source most (nat_lt limit depth) at (deep_kid limit depth kids) p.0 (deep_all source most limit depth kids p.2)

  deep_all : (source : Source) (most limit depth : ℕ) (ts : Trees) → ArePositioned source most ts → PositionWithin source most (deep_kid limit depth ts)
  deep_all source most limit depth none p = tt
  deep_all source most limit depth (more t ts) p =
      one_or_other source most (deep_node limit (kid_depth depth (kind_of t)) t) (deep_kid limit depth ts)
      (deep_positioned source most limit (kid_depth depth (kind_of t)) t p.0) (deep_all source most limit depth ts p.1)

pub deep_position : (source : Source) (most limit depth : ℕ) (t : Tree) (at : At) → IsPositioned source most t → deep_node limit depth t ≡ Some at
    → IsPosition source most at
deep_position source most limit depth t at p e = subst (PositionWithin source most) e (deep_positioned source most limit depth t p)
