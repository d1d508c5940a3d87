-- Rules that mark no token.
use Rattle.std.proofs.Common.{◌≡◌, ℕ, Bool, true, false, ◌&&◌, sym as back, ◌∙◌, ap₂, subst, Option, None, true≢false}
use Rattle.std.proofs.lemmas.Bool.{and_parts}
use Rattle.cpp_syntax.specs.Source.{Source}
use Rattle.cpp_syntax.specs.Rules.{Lookahead, Rule, nothing, word, mark, mark_next, mark_name, ◌·◌, ◌∣◌, many, form, node_at, wrap, with_body, where_}
use Rattle.cpp_syntax.specs.Rules.{before_no, if_, unless}
use Rattle.cpp_syntax.specs.Derivations.{Read, first_or, Bodies, Derives, is_nothing, is_word, is_mark, is_mark_next, is_mark_name, is_both, is_left}
use Rattle.cpp_syntax.specs.Derivations.{is_right, is_last, is_more, is_form, is_node, is_wrap, is_kept_apart, is_in_tree, is_where, is_before, is_if}
use Rattle.cpp_syntax.specs.Derivations.{is_unless}
use Rattle.cpp_syntax.specs.View.{BuilderState}
use Rattle.cpp_syntax.specs.Parsed.{ReadsLongest}

abbrev pub marks_none : Rule → Bool
marks_none (p · q) = marks_none p && marks_none q
marks_none (p ∣ q) = marks_none p && marks_none q
marks_none (many p) = marks_none p
marks_none (where_ test p) = marks_none p
marks_none (before_no test p) = marks_none p
marks_none (if_ look p) = marks_none p
marks_none (unless look p) = marks_none p
marks_none (mark test) = false
marks_none mark_next = false
marks_none mark_name = false
marks_none nothing = true
marks_none (word test) = true
marks_none (form f) = true
marks_none (node_at positioning kind p) = true
marks_none (wrap kind p) = true
marks_none (with_body kind p) = true

both_none : {j k l : Option ℕ} → k ≡ None → l ≡ None → j ≡ first_or k l → j ≡ None
both_none e f g = g ∙ ap₂ first_or e f

pub unmarked : {lookahead : Lookahead → ℕ → Type 0} {bodies : Bodies} {source : Source} {p : Rule} {r s : Read} {a b : ℕ} {k : Option ℕ}
    → Derives lookahead bodies source p r a b k s → marks_none p ≡ true → k ≡ None
unmarked (is_nothing e f g) i = f
unmarked (is_word t e f g) i = f
unmarked (is_mark t e f g) i = absurd (true≢false (back i))
unmarked (is_mark_next e f g) i = absurd (true≢false (back i))
unmarked (is_mark_name e f g) i = absurd (true≢false (back i))
unmarked (is_both {p = p} {q = q} x y e) i = let h = and_parts (marks_none p) (marks_none q) i in both_none (unmarked x h.0) (unmarked y h.1) e
unmarked (is_left {p = p} {q = q} x) i = unmarked x (and_parts (marks_none p) (marks_none q) i).0
unmarked (is_right {p = p} {q = q} x) i = unmarked x (and_parts (marks_none p) (marks_none q) i).1
unmarked (is_last e f g) i = f
unmarked (is_more x y e) i = both_none (unmarked x i) (unmarked y i) e
unmarked (is_form x e f) i = e
unmarked (is_node x e f) i = e
unmarked (is_wrap x e f) i = e
unmarked (is_kept_apart e x f o y c g h j) i = h
unmarked (is_in_tree e x y f g) i = f
unmarked (is_where x e) i = unmarked x i
unmarked (is_before x e) i = unmarked x i
unmarked (is_if l x) i = unmarked x i
unmarked (is_unless l x) i = unmarked x i

-- what was read of such a rule
pub reads_unmarked : {s : Source} {p : Rule} {a b : ℕ} {k : Option ℕ} {v w : BuilderState} → ReadsLongest s p a b k v w → marks_none p ≡ true
    → ReadsLongest s p a b None v w
reads_unmarked {s = s} {p = p} {a = a} {b = b} {v = v} {w = w} x e = subst (λ (k : Option ℕ). ReadsLongest s p a b k v w) (unmarked (x.long).derives e) x
