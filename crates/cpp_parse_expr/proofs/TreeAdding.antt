-- Rules whose texts add a tree, and the index of the first of the trees that were read.
use Rattle.std.proofs.Common.{◌≡◌, ℕ, zero, suc, inl, inr, Bool, true, false, ◌&&◌, ◌||◌, refl, sym as back, ◌∙◌, ap, Option, true≢false}
use Rattle.std.proofs.lemmas.Bool.{and_parts, or_cases}
use Rattle.cpp_ast.specs.Trees.{Trees, none, more}
use Rattle.cpp_syntax.specs.Source.{Source}
use Rattle.cpp_syntax.specs.Rules.{Nonterminal, primary_expression, lambda_expression, postfix_expression, unary_expression, cast_expression}
use Rattle.cpp_syntax.specs.Rules.{binary_expression, conditional_expression, assignment_expression, expression, Lookahead, Rule, nothing, word, mark}
use Rattle.cpp_syntax.specs.Rules.{mark_next, mark_name, ◌·◌, ◌∣◌, many, form, node_at, wrap, with_body, where_, before_no, if_, unless}
use Rattle.cpp_syntax.specs.Grammar.{production}
use Rattle.cpp_syntax.specs.Derivations.{Read, join, position_of_first, Bodies, Derives, is_nothing, is_word, is_mark, is_mark_next, is_mark_name, is_both}
use Rattle.cpp_syntax.specs.Derivations.{is_left, is_right, is_last, is_more, is_form, is_node, is_wrap, is_kept_apart, is_in_tree, is_where, is_before}
use Rattle.cpp_syntax.specs.Derivations.{is_if, is_unless}
use Rattle.cpp_syntax.specs.Parsed.{has_trees}

-- forms of which each text adds a tree
abbrev pub adds : Nonterminal → Bool
adds primary_expression = true
adds lambda_expression = true
adds postfix_expression = true
adds unary_expression = true
adds cast_expression = true
adds (binary_expression n) = true
adds conditional_expression = true
adds assignment_expression = true
adds expression = true
adds _ = false

abbrev pub adds_tree : Rule → Bool
adds_tree (node_at positioning kind p) = true
adds_tree (wrap kind p) = true
adds_tree (with_body kind p) = true
adds_tree (p · q) = adds_tree p || adds_tree q
adds_tree (p ∣ q) = adds_tree p && adds_tree q
adds_tree (where_ test p) = adds_tree p
adds_tree (before_no test p) = adds_tree p
adds_tree (if_ look p) = adds_tree p
adds_tree (unless look p) = adds_tree p
adds_tree (many p) = false
adds_tree (form f) = adds f
adds_tree nothing = false
adds_tree (word test) = false
adds_tree (mark test) = false
adds_tree mark_next = false
adds_tree mark_name = false

adds_holds : (f : Nonterminal) → adds f ≡ true → adds_tree (production f) ≡ true
adds_holds primary_expression e = refl
adds_holds lambda_expression e = refl
adds_holds postfix_expression e = refl
adds_holds unary_expression e = refl
adds_holds cast_expression e = refl
adds_holds (binary_expression zero) e = refl
adds_holds (binary_expression (suc n)) e = refl
adds_holds conditional_expression e = refl
adds_holds assignment_expression e = refl
adds_holds expression e = refl
adds_holds _ e = absurd (true≢false (back e))

joined_left : (ts us : Trees) → has_trees ts ≡ true → has_trees (join ts us) ≡ true
joined_left none us e = absurd (true≢false (back e))
joined_left (more t ts) us e = refl

joined_right : (ts us : Trees) → has_trees us ≡ true → has_trees (join ts us) ≡ true
joined_right none us e = e
joined_right (more t ts) us e = refl

-- the first of some trees stays the first
pub first_stays : (source : Source) (a : ℕ) (ts us : Trees) → has_trees ts ≡ true → position_of_first source a (join ts us) ≡ position_of_first source a ts
first_stays source a none us e = absurd (true≢false (back e))
first_stays source a (more t ts) us e = refl

same_trees : {s r : Read} → s ≡ r → has_trees r.trees ≡ true → has_trees s.trees ≡ true
same_trees e h = ap (λ (z : Read). has_trees z.trees) e ∙ h

-- what was read before stays read
pub keeps_trees : {lookahead : Lookahead → ℕ → Type 0} {bodies : Bodies} {source : Source} {p : Rule} {r s : Read} {a b : ℕ} {k : Option ℕ}
    → Derives lookahead bodies source p r a b k s → has_trees r.trees ≡ true → has_trees s.trees ≡ true
keeps_trees (is_nothing e f g) h = same_trees g h
keeps_trees (is_word t e f g) h = same_trees g h
keeps_trees (is_mark t e f g) h = same_trees g h
keeps_trees (is_mark_next e f g) h = same_trees g h
keeps_trees (is_mark_name e f g) h = same_trees g h
keeps_trees (is_both x y e) h = keeps_trees y (keeps_trees x h)
keeps_trees (is_left x) h = keeps_trees x h
keeps_trees (is_right x) h = keeps_trees x h
keeps_trees (is_last e f g) h = same_trees g h
keeps_trees (is_more x y e) h = keeps_trees y (keeps_trees x h)
keeps_trees (is_form {r = r} {t = t} x e f) h = same_trees f (joined_left r.trees t.trees h)
keeps_trees (is_node {r = r} x e f) h = same_trees f (joined_left r.trees _ h)
keeps_trees (is_wrap x e f) h = same_trees f refl
keeps_trees (is_kept_apart {r = r} e x f o y c g i j) h = same_trees j (joined_left r.trees _ h)
keeps_trees (is_in_tree {r = r} e x y f g) h = same_trees g (joined_left r.trees _ h)
keeps_trees (is_where x e) h = keeps_trees x h
keeps_trees (is_before x e) h = keeps_trees x h
keeps_trees (is_if l x) h = keeps_trees x h
keeps_trees (is_unless l x) h = keeps_trees x h

pub filled : {lookahead : Lookahead → ℕ → Type 0} {bodies : Bodies} {source : Source} {p : Rule} {r s : Read} {a b : ℕ} {k : Option ℕ}
    → Derives lookahead bodies source p r a b k s → adds_tree p ≡ true → has_trees s.trees ≡ true
filled (is_nothing e f g) i = absurd (true≢false (back i))
filled (is_word t e f g) i = absurd (true≢false (back i))
filled (is_mark t e f g) i = absurd (true≢false (back i))
filled (is_mark_next e f g) i = absurd (true≢false (back i))
filled (is_mark_name e f g) i = absurd (true≢false (back i))
filled (is_both {p = p} {q = q} x y e) i = elim (or_cases (adds_tree p) (adds_tree q) i) [
  | inl h ↦ keeps_trees y (filled x h)
  | inr h ↦ filled y h
]
filled (is_left {p = p} {q = q} x) i = filled x (and_parts (adds_tree p) (adds_tree q) i).0
filled (is_right {p = p} {q = q} x) i = filled x (and_parts (adds_tree p) (adds_tree q) i).1
filled (is_last e f g) i = absurd (true≢false (back i))
filled (is_more x y e) i = absurd (true≢false (back i))
filled (is_form {f = form_} {r = r} {t = t} x e f) i = same_trees f (joined_right r.trees t.trees (filled x (adds_holds form_ i)))
filled (is_node {r = r} x e f) i = same_trees f (joined_right r.trees _ refl)
filled (is_wrap x e f) i = same_trees f refl
filled (is_kept_apart {r = r} e x f o y c g h j) i = same_trees j (joined_right r.trees _ refl)
filled (is_in_tree {r = r} e x y f g) i = same_trees g (joined_right r.trees _ refl)
filled (is_where x e) i = filled x i
filled (is_before x e) i = filled x i
filled (is_if l x) i = filled x i
filled (is_unless l x) i = filled x i
