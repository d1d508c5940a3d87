-- Forms whose texts add one tree.
use Rattle.std.proofs.Common.{◌≡◌, ℕ, zero, suc, ◌+◌, nat_eq, Bool, true, false, if◌then◌else◌, Option, Some, None, refl, sym, ◌∙◌, ap, arith}
use Rattle.std.proofs.lemmas.Bool.{eqb-true}
use Rattle.cpp_ast.specs.Trees.{Tree, node, Trees, none, more}
use Rattle.cpp_syntax.specs.Source.{Source, position_at}
use Rattle.cpp_syntax.specs.Rules.{named, unnamed, either, in_block, Nonterminal, primary_expression, lambda_expression, postfix_expression, unary_expression}
use Rattle.cpp_syntax.specs.Rules.{cast_expression, binary_expression, conditional_expression, assignment_expression, expression, type_specifier_seq, type_id}
use Rattle.cpp_syntax.specs.Rules.{declarator, direct_declarator, parameter_declaration, parameter_declaration_clause, function_qualifiers, Lookahead, Rule}
use Rattle.cpp_syntax.specs.Rules.{nothing, word, mark, mark_next, mark_name, ◌·◌, ◌∣◌, many, form, node_at, wrap, with_body, where_, before_no, if_, unless}
use Rattle.cpp_syntax.specs.Grammar.{production}
use Rattle.cpp_syntax.specs.Derivations.{Read, no_read, join, one_tree, positioned, Bodies, Derives, is_nothing, is_word, is_mark, is_mark_next, is_mark_name}
use Rattle.cpp_syntax.specs.Derivations.{is_both, is_left, is_right, is_last, is_more, is_form, is_node, is_wrap, is_kept_apart, is_in_tree, is_where}
use Rattle.cpp_syntax.specs.Derivations.{is_before, is_if, is_unless}
use Rattle.cpp_syntax.specs.View.{count_trees}

-- forms that are one node, or wrap one
abbrev pub is_single : Nonterminal → Bool
is_single primary_expression = true
is_single lambda_expression = true
is_single postfix_expression = true
is_single unary_expression = true
is_single cast_expression = true
is_single (binary_expression n) = true
is_single conditional_expression = true
is_single assignment_expression = true
is_single expression = true
is_single (type_specifier_seq reading) = true
is_single (type_id reading) = true
is_single (declarator reading naming) = true
is_single (direct_declarator reading naming) = true
is_single (parameter_declaration reading) = true
is_single (parameter_declaration_clause reading) = true
is_single function_qualifiers = true
is_single _ = false

abbrev and_so : Option ℕ → (ℕ → Option ℕ) → Option ℕ
and_so None f = None
and_so (Some n) f = f n

abbrev same_as : ℕ → Option ℕ → Option ℕ
same_as n None = None
same_as n (Some m) = if nat_eq n m then Some n else None

abbrev both : Option ℕ → Option ℕ → Option ℕ
both None o = None
both (Some n) o = same_as n o

-- how many trees there are behind a rule, where so many are before it
abbrev trees_behind : Rule → ℕ → Option ℕ
trees_behind nothing n = Some n
trees_behind (word test) n = Some n
trees_behind (mark test) n = Some n
trees_behind mark_next n = Some n
trees_behind mark_name n = Some n
trees_behind (p · q) n = and_so (trees_behind p n) (trees_behind q)
trees_behind (p ∣ q) n = both (trees_behind p n) (trees_behind q n)
trees_behind (many p) n = both (trees_behind p n) (Some n)
trees_behind (form f) n = if is_single f then Some (n + 1) else None
trees_behind (node_at positioning kind p) n = Some (n + 1)
trees_behind (wrap kind p) n = Some 1
trees_behind (with_body kind p) n = Some (n + 1)
trees_behind (where_ test p) n = trees_behind p n
trees_behind (before_no test p) n = trees_behind p n
trees_behind (if_ look p) n = trees_behind p n
trees_behind (unless look p) n = trees_behind p n

one_behind : (f : Nonterminal) → is_single f ≡ true → trees_behind (production f) 0 ≡ Some 1
one_behind primary_expression e = refl
one_behind lambda_expression e = refl
one_behind postfix_expression e = refl
one_behind unary_expression e = refl
one_behind cast_expression e = refl
one_behind (binary_expression zero) e = refl
one_behind (binary_expression (suc n)) e = refl
one_behind conditional_expression e = refl
one_behind assignment_expression e = refl
one_behind expression e = refl
one_behind (type_specifier_seq reading) e = refl
one_behind (type_id reading) e = refl
one_behind (declarator reading naming) e = refl
one_behind (direct_declarator reading named) e = refl
one_behind (direct_declarator reading unnamed) e = refl
one_behind (direct_declarator reading either) e = refl
one_behind (direct_declarator reading in_block) e = refl
one_behind (parameter_declaration reading) e = refl
one_behind (parameter_declaration_clause reading) e = refl
one_behind function_qualifiers e = refl
one_behind _ e = absurd (let f : false ≡ true = e in cc)

same_some : {n m : ℕ} → Some n ≡ Some m → n ≡ m
same_some e = cc

and_so_parts : (o : Option ℕ) (f : ℕ → Option ℕ) (m : ℕ) → and_so o f ≡ Some m → (i : ℕ) × (o ≡ Some i) × (f i ≡ Some m)
and_so_parts None f m e = absurd (let g : None ≡ Some m = e in cc)
and_so_parts (Some i) f m e = (i, refl, e)

same_parts : (b : Bool) (n m l : ℕ) → nat_eq n m ≡ b → (if b then Some n else None) ≡ Some l → (n ≡ l) × (m ≡ l)
same_parts true n m l t e = let f : n ≡ l = same_some e in let g : n ≡ m = eqb-true n m t in (f, sym g ∙ f)
same_parts false n m l t e = absurd (let g : None ≡ Some l = e in cc)

both_parts : (o q : Option ℕ) (m : ℕ) → both o q ≡ Some m → (o ≡ Some m) × (q ≡ Some m)
both_parts None q m e = absurd (let g : None ≡ Some m = e in cc)
both_parts (Some n) None m e = absurd (let g : None ≡ Some m = e in cc)
both_parts (Some n) (Some l) m e = let p = same_parts (nat_eq n l) n l m refl e in (ap (λ (k : ℕ). Some k) p.0, ap (λ (k : ℕ). Some k) p.1)

if_parts : (b : Bool) (n m : ℕ) → (if b then Some n else None) ≡ Some m → (b ≡ true) × (n ≡ m)
if_parts true n m e = (refl, same_some e)
if_parts false n m e = absurd (let g : None ≡ Some m = e in cc)

count_join : (ts us : Trees) → count_trees (join ts us) ≡ count_trees ts + count_trees us
count_join none us = omega arith
count_join (more t ts) us = let rest = count_join ts us in omega (arith, rest)

joined : (before after got : Trees) (n m : ℕ) → count_trees before ≡ n → count_trees got ≡ 1 → n + 1 ≡ m → after ≡ join before got → count_trees after ≡ m
joined before after got n m e f g h =
    let c : count_trees after ≡ count_trees before + count_trees got = ap count_trees h ∙ count_join before got in omega (arith, c, e, f, g)

-- one tree more
one_more : (before after : Trees) (t : Tree) (n m : ℕ) → count_trees before ≡ n → Some (n + 1) ≡ Some m → after ≡ join before (one_tree t)
    → count_trees after ≡ m
one_more before after t n m e f g = joined before after (one_tree t) n m e (let c : count_trees (one_tree t) ≡ 1 = refl in c) (same_some f) g

trees_are : {r s : Read} → s ≡ r → s.trees ≡ r.trees
trees_are e = ap (λ (z : Read). z.trees) e

counted : {lookahead : Lookahead → ℕ → Type 0} {bodies : Bodies} {source : Source} {p : Rule} {r s : Read} {a b : ℕ} {k : Option ℕ} (n m : ℕ)
    → Derives lookahead bodies source p r a b k s → count_trees r.trees ≡ n → trees_behind p n ≡ Some m → count_trees s.trees ≡ m
counted {source = source} n m (is_nothing e f g) c t = ap count_trees (trees_are g) ∙ c ∙ same_some t
counted {source = source} n m (is_word u e f g) c t = ap count_trees (trees_are g) ∙ c ∙ same_some t
counted {source = source} n m (is_mark u e f g) c t = ap count_trees (trees_are g) ∙ c ∙ same_some t
counted {source = source} n m (is_mark_next e f g) c t = ap count_trees (trees_are g) ∙ c ∙ same_some t
counted {source = source} n m (is_mark_name e f g) c t = ap count_trees (trees_are g) ∙ c ∙ same_some t
counted {source = source} n m (is_both {p = p} {q = q} x y e) c t =
    let parts = and_so_parts (trees_behind p n) (trees_behind q) m t in counted parts.0 m y (counted n parts.0 x c parts.1) parts.2
counted {source = source} n m (is_left {p = p} {q = q} x) c t = counted n m x c (both_parts (trees_behind p n) (trees_behind q n) m t).0
counted {source = source} n m (is_right {p = p} {q = q} x) c t = counted n m x c (both_parts (trees_behind p n) (trees_behind q n) m t).1
counted {source = source} n m (is_last {p = p} e f g) c t = ap count_trees (trees_are g) ∙ c ∙ same_some (both_parts (trees_behind p n) (Some n) m t).1
counted {source = source} n m (is_more {p = p} x y e) c t =
    let parts = both_parts (trees_behind p n) (Some n) m t in
    counted n m y (counted n m x c parts.0 ∙ sym (same_some parts.1)) t
counted {source = source} n m (is_form {f = f} {r = r} {s = s} {t = u} x e g) c t =
    let parts = if_parts (is_single f) (n + 1) m t in
    joined r.trees s.trees u.trees n m c (counted 0 1 x refl (one_behind f parts.0)) parts.1 (trees_are g)
counted {source = source} n m (is_node {positioning = positioning} {kind = kind} {r = r} {s = s} {t = u} {a = a} {l = l} x e g) c t =
    one_more r.trees s.trees (node kind (positioned positioning source a l u.trees) l u.trees) n m c t (trees_are g)
counted {source = source} n m (is_wrap x e g) c t = ap count_trees (trees_are g) ∙ same_some t
counted {source = source} n m (is_kept_apart {kind = kind} {r = r} {s = s} {t = u} {a = a} {lambda = lambda} e x f o y i g h j) c t =
    one_more r.trees s.trees (node kind (position_at source a) (Some lambda) u.trees) n m c t (trees_are j)
counted {source = source} n m (is_in_tree {kind = kind} {r = r} {s = s} {u = u} {a = a} {l = l} e x y f g) c t =
    one_more r.trees s.trees (node kind (position_at source a) l u.trees) n m c t (trees_are g)
counted {source = source} n m (is_where x e) c t = counted n m x c t
counted {source = source} n m (is_before x e) c t = counted n m x c t
counted {source = source} n m (is_if l x) c t = counted n m x c t
counted {source = source} n m (is_unless l x) c t = counted n m x c t

one_of : (ts : Trees) → count_trees ts ≡ 1 → (t : Tree) × (ts ≡ one_tree t)
one_of none e = absurd (omega (arith, e))
one_of (more t none) e = (t, refl)
one_of (more t (more u us)) e = absurd (omega (arith, e))

abbrev one_if : Bool → Option ℕ
one_if b = if b then Some (0 + 1) else None

pub one_tree_of : {lookahead : Lookahead → ℕ → Type 0} {bodies : Bodies} {source : Source} {f : Nonterminal} {r : Read} {a b : ℕ} {k : Option ℕ}
    → Derives lookahead bodies source (form f) no_read a b k r → is_single f ≡ true → (t : Tree) × (r.trees ≡ one_tree t)
one_tree_of {f = f} {r = r} x e = one_of r.trees (counted 0 1 x refl (ap one_if e))
