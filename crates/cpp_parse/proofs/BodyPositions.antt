-- The bodies of a text begin behind one of its tokens; and a compound statement is one tree.
use Rattle.std.proofs.Common.{◌≡◌, ℕ, zero, suc, ◌+◌, ◌≤◌, List, [], ◌∷◌, ◌++◌, map, Option, Some, sym, ◌∙◌, ap, subst, arith, le_trans}
use Rattle.std.proofs.lemmas.Option.{none-some}
use Rattle.cpp_ast.specs.declared.arena.Node.{Node}
use Rattle.cpp_ast.specs.Trees.{Tree, node}
use Rattle.cpp_syntax.specs.declared.positions.OpenBody.{OpenBody}
use Rattle.cpp_syntax.specs.Source.{Source, position_at}
use Rattle.cpp_syntax.specs.Rules.{Lookahead, Rule, form, compound_statement}
use Rattle.cpp_syntax.specs.Derivations.{Body, Read, no_read, one_tree, and_then, reads_node, with_body_apart, positioned, Bodies, Derives, is_nothing}
use Rattle.cpp_syntax.specs.Derivations.{is_word, is_mark, is_mark_next, is_mark_name, is_both, is_left, is_right, is_last, is_more, is_form, is_node}
use Rattle.cpp_syntax.specs.Derivations.{is_wrap, is_kept_apart, is_in_tree, is_where, is_before, is_if, is_unless}
use Rattle.cpp_syntax.specs.View.{body_of}
use Rattle.cpp_syntax.proofs.FirstTerminals.{ends_behind}
use Rattle.cpp_parse.specs.Bodies.{AreInside}

abbrev Begins : ℕ → List Body → Type 0
Begins most [] = Unit {0}
Begins most (b ∷ bs) = (1 ≤ b.from) × (b.from ≤ most) × Begins most bs

both_begin : (most : ℕ) (bs cs : List Body) → Begins most bs → Begins most cs → Begins most (bs ++ cs)
both_begin most [] cs p q = q
both_begin most (b ∷ bs) cs p q = (p.0, p.1, both_begin most bs cs p.2 q)

as_before : (most : ℕ) (r s : Read) → s ≡ r → Begins most r.bodies → Begins most s.bodies
as_before most r s e p = subst (λ (z : Read). Begins most z.bodies) (sym e) p

with_more : (most : ℕ) (r s t : Read) → s ≡ and_then r t → Begins most r.bodies → Begins most t.bodies → Begins most s.bodies
with_more most r s t e p q = subst (λ (z : Read). Begins most z.bodies) (sym e) (both_begin most r.bodies t.bodies p q)

bodies_begin : {lookahead : Lookahead → ℕ → Type 0} {bodies : Bodies} {source : Source} {p : Rule} {r s : Read} {a b : ℕ} {k : Option ℕ} (most : ℕ)
    → Derives lookahead bodies source p r a b k s → b ≤ most → Begins most r.bodies → Begins most s.bodies
bodies_begin {r = r} {s = s} most (is_nothing e f g) h q = as_before most r s g q
bodies_begin {r = r} {s = s} most (is_word u e f g) h q = as_before most r s g q
bodies_begin {r = r} {s = s} most (is_mark u e f g) h q = as_before most r s g q
bodies_begin {r = r} {s = s} most (is_mark_next e f g) h q = as_before most r s g q
bodies_begin {r = r} {s = s} most (is_mark_name e f g) h q = as_before most r s g q
bodies_begin most (is_both x y e) h q = bodies_begin most y h (bodies_begin most x (le_trans (ends_behind y) h) q)
bodies_begin most (is_left x) h q = bodies_begin most x h q
bodies_begin most (is_right x) h q = bodies_begin most x h q
bodies_begin {r = r} {s = s} most (is_last e f g) h q = as_before most r s g q
bodies_begin most (is_more x y e) h q = bodies_begin most y h (bodies_begin most x (le_trans (ends_behind y) h) q)
bodies_begin {s = s} most (is_form {r = r} {t = t} x e f) h q = with_more most r s t f q (bodies_begin most x h tt)
bodies_begin {source = source} {s = s} {a = a} most (is_node {positioning = positioning} {kind = kind} {r = r} {t = t} {l = l} x e f) h q =
    with_more most r s (reads_node kind (positioned positioning source a l t.trees) l t) f q (bodies_begin most x h tt)
bodies_begin {s = s} most (is_wrap {r = r} {t = t} x e f) h q = subst (λ (z : Read). Begins most z.bodies) (sym f) (bodies_begin most x h q)
bodies_begin {source = source} {s = s} {a = a} most (is_kept_apart {kind = kind} {r = r} {t = t} {m = m} {n = n} {lambda = lambda} d x c o y u g e f) h q =
    let inner = ends_behind y in
    with_more most r s (with_body_apart kind (position_at source a) lambda (m + 1) n t) f q
    (both_begin most t.bodies (record { lambda = lambda; from = m + 1; to = n } ∷ []) (bodies_begin most x (omega (arith, inner, g, h)) tt)
    (omega arith, omega (arith, inner, g, h), tt))
bodies_begin {source = source} {s = s} {a = a} most (is_in_tree {kind = kind} {r = r} {t = t} {u = u} {l = l} d x y e f) h q =
    with_more most r s (reads_node kind (position_at source a) l u) f q (bodies_begin most y h (bodies_begin most x (le_trans (ends_behind y) h) tt))
bodies_begin most (is_where x e) h q = bodies_begin most x h q
bodies_begin most (is_before x e) h q = bodies_begin most x h q
bodies_begin most (is_if l x) h q = bodies_begin most x h q
bodies_begin most (is_unless l x) h q = bodies_begin most x h q

each_inside : (most : ℕ) (nodes : List Node) (bodies : List OpenBody) → Begins most (map (body_of nodes) bodies) → AreInside most bodies
each_inside most nodes [] h k body e = absurd (none-some body e)
each_inside most nodes (b ∷ bs) h zero body e =
    let same : b ≡ body = let f : Some b ≡ Some body = e in cc in
    record { behind = subst (λ (z : OpenBody). 1 ≤ z.from) same h.0; within = subst (λ (z : OpenBody). z.from ≤ most) same h.1 }
each_inside most nodes (b ∷ bs) h (suc k) body e = each_inside most nodes bs h.2 k body e

pub text_inside : {lookahead : Lookahead → ℕ → Type 0} {bodies : Bodies} {source : Source} {p : Rule} {s : Read} {a b : ℕ} {k : Option ℕ} (most : ℕ)
    (nodes : List Node) (inner : List OpenBody)
    → Derives lookahead bodies source p no_read a b k s → b ≤ most → map (body_of nodes) inner ≡ s.bodies → AreInside most inner
text_inside most nodes inner x h e = each_inside most nodes inner (subst (λ (bs : List Body). Begins most bs) (sym e) (bodies_begin most x h tt))

pub compound_tree : {lookahead : Lookahead → ℕ → Type 0} {bodies : Bodies} {source : Source} {r : Read} {a b : ℕ} {k : Option ℕ}
    → Derives lookahead bodies source (form compound_statement) no_read a b k r → (t : Tree) × (r.trees ≡ one_tree t)
compound_tree {source = source} {a = a} (is_form (is_node {positioning = positioning} {kind = kind} {t = t} {l = l} x e f) g h) =
    (node kind (positioned positioning source a l t.trees) l t.trees, ap (λ (z : Read). z.trees) h ∙ ap (λ (z : Read). (and_then no_read z).trees) f)
