-- No word `virtual` stands before a constructor.
use Rattle.std.proofs.Common.{◌≡◌, ℕ, Bool, true, false, not, refl, sym as back, List, Option, Some, None, codes, if◌then◌else◌, true≢false}
use Rattle.std.proofs.lemmas.Bool.{and_parts, and_from}
use Rattle.std.specs.Str.{bytes_eq}
use Rattle.cpp_lex.specs.Tokens.{Lexeme}
use Rattle.cpp_ast.specs.declared.arena.At.{At}
use Rattle.cpp_ast.specs.declared.kinds.NodeKind.{NodeKind}
use Rattle.cpp_ast.specs.declared.kinds.NodeKind.TheVariants as k
use Rattle.cpp_ast.specs.Trees.{Tree, node, Trees, none, more}
use Rattle.cpp_syntax.specs.Source.{Source, terminal_at, position_at}
use Rattle.cpp_syntax.specs.Rules.{Lookahead, Rule, Nonterminal, qualified, plain, constructor_declarator, member_initializer, compound_statement}
use Rattle.cpp_syntax.specs.Grammar.{production}
use Rattle.cpp_syntax.specs.Derivations.{Read, join, one_tree, in_trees, Derives, is_nothing, is_word, is_mark, is_mark_next}
use Rattle.cpp_syntax.specs.Derivations.{is_mark_name, is_both, is_left, is_right, is_last, is_more, is_form, is_node, is_wrap, is_kept_apart, is_in_tree}
use Rattle.cpp_syntax.specs.Derivations.{is_where, is_before, is_if, is_unless, positioned, position_of_first}
use Rattle.elab_rules.specs.elab_ctx.Steps.{spelling}
use Rattle.elab_read_texts.specs.Names.{is_not_virtual, are_not_virtual}
use Rattle.elab_read_texts.proofs.Terminals.{is_other_word}
use Rattle.elab_read_texts.proofs.CalmRules.{is_specifier_node, marks_other, adds_no_specifier, is_without_virtual}
use Rattle.elab_read_texts.proofs.Plain.{followed}

-- neither `explicit` nor `inline` is spelled `virtual`
abbrev pub AreOtherWords : List Lexeme → Source → Type 0
AreOtherWords ls source = (a : ℕ) → is_other_word (terminal_at source a) ≡ true → not (bytes_eq (spelling ls a) (codes "virtual")) ≡ true

joined_other : (ls : List Lexeme) (ts us : Trees) → are_not_virtual ls ts ≡ true → are_not_virtual ls us ≡ true → are_not_virtual ls (join ts us) ≡ true
joined_other ls none us h i = i
joined_other ls (more t ts) us h i =
    let p = and_parts (is_not_virtual ls t) (are_not_virtual ls ts) h in
    and_from (is_not_virtual ls t) (are_not_virtual ls (join ts us)) p.0 (joined_other ls ts us p.1 i)

one_other : (ls : List Lexeme) (t : Tree) → is_not_virtual ls t ≡ true → are_not_virtual ls (one_tree t) ≡ true
one_other ls t h = and_from (is_not_virtual ls t) true h refl

abbrev is_other_token : List Lexeme → Option ℕ → Bool
is_other_token ls (Some t) = not (bytes_eq (spelling ls t) (codes "virtual"))
is_other_token ls None = true

specifier : (ls : List Lexeme) (kind : NodeKind) (at : At) (token : Option ℕ) (ts : Trees) → is_other_token ls token ≡ true
    → is_not_virtual ls (node kind at token ts) ≡ true
specifier ls k.DeclSpecifier at (Some t) ts h = h
specifier ls kind at token ts h = refl

no_specifier : (ls : List Lexeme) (kind : NodeKind) (at : At) (token : Option ℕ) (ts : Trees) → not (is_specifier_node kind) ≡ true
    → is_not_virtual ls (node kind at token ts) ≡ true
no_specifier ls k.DeclSpecifier at token ts h = absurd (true≢false (back h))
no_specifier ls kind at token ts h = refl

other_marked : {lookahead : Lookahead → ℕ → Type 0} {source : Source} {p : Rule} {r s : Read} {a b : ℕ} {k : Option ℕ} (ls : List Lexeme)
    → AreOtherWords ls source → Derives lookahead in_trees source p r a b k s → marks_other p ≡ true → is_other_token ls k ≡ true
other_marked {source = source} ls all (is_mark {test = test} {a = a} t e f g) h = rw f (all a (followed test is_other_word h (terminal_at source a) t))
other_marked ls all (is_nothing e f g) h = absurd (true≢false (back h))
other_marked ls all (is_word t e f g) h = absurd (true≢false (back h))
other_marked ls all (is_mark_next e f g) h = absurd (true≢false (back h))
other_marked ls all (is_mark_name e f g) h = absurd (true≢false (back h))
other_marked ls all (is_both x y e) h = absurd (true≢false (back h))
other_marked ls all (is_left x) h = absurd (true≢false (back h))
other_marked ls all (is_right x) h = absurd (true≢false (back h))
other_marked ls all (is_last e f g) h = absurd (true≢false (back h))
other_marked ls all (is_more x y e) h = absurd (true≢false (back h))
other_marked ls all (is_form x e g) h = absurd (true≢false (back h))
other_marked ls all (is_node x e g) h = absurd (true≢false (back h))
other_marked ls all (is_wrap x e g) h = absurd (true≢false (back h))
other_marked ls all (is_kept_apart e x f o y d g j n) h = absurd (true≢false (back h))
other_marked ls all (is_in_tree e x y f g) h = absurd (true≢false (back h))
other_marked ls all (is_where x e) h = absurd (true≢false (back h))
other_marked ls all (is_before x e) h = absurd (true≢false (back h))
other_marked ls all (is_if l x) h = absurd (true≢false (back h))
other_marked ls all (is_unless l x) h = absurd (true≢false (back h))

by_kind : (ls : List Lexeme) (b m : Bool) (kind : NodeKind) (at : At) (token : Option ℕ) (ts : Trees) → is_specifier_node kind ≡ b
    → (if b then m else true) ≡ true → (m ≡ true → is_other_token ls token ≡ true) → is_not_virtual ls (node kind at token ts) ≡ true
by_kind ls true m kind at token ts e h f = specifier ls kind at token ts (f h)
by_kind ls false m kind at token ts e h f = no_specifier ls kind at token ts (rw e refl)

specifiers_hold : (f : Nonterminal) → adds_no_specifier f ≡ true → is_without_virtual (production f) ≡ true
specifiers_hold (constructor_declarator qualified) h = refl
specifiers_hold (constructor_declarator plain) h = refl
specifiers_hold member_initializer h = refl
specifiers_hold compound_statement h = refl
specifiers_hold f h = absurd (true≢false (back h))

pub without : {lookahead : Lookahead → ℕ → Type 0} {source : Source} {p : Rule} {r s : Read} {a b : ℕ} {k : Option ℕ} (ls : List Lexeme)
    → AreOtherWords ls source → Derives lookahead in_trees source p r a b k s → is_without_virtual p ≡ true → are_not_virtual ls r.trees ≡ true
    → are_not_virtual ls s.trees ≡ true
without ls all (is_nothing e f g) h t = rw g t
without ls all (is_word u e f g) h t = rw g t
without ls all (is_mark u e f g) h t = rw g t
without ls all (is_mark_next e f g) h t = rw g t
without ls all (is_mark_name e f g) h t = rw g t
without ls all (is_both {p = p} {q = q} x y e) h t =
    let m = and_parts (is_without_virtual p) (is_without_virtual q) h in without ls all y m.1 (without ls all x m.0 t)
without ls all (is_left {p = p} {q = q} x) h t = without ls all x (and_parts (is_without_virtual p) (is_without_virtual q) h).0 t
without ls all (is_right {p = p} {q = q} x) h t = without ls all x (and_parts (is_without_virtual p) (is_without_virtual q) h).1 t
without ls all (is_last e f g) h t = rw g t
without ls all (is_more x y e) h t = without ls all y h (without ls all x h t)
without ls all (is_form {f = f} {r = r} {t = u} x e g) h t =
    rw g (joined_other ls r.trees u.trees t (without ls all x (specifiers_hold f h) refl))
without {source = source} ls all (is_node {positioning = positioning} {kind = kind} {p = p} {r = r} {t = u} {a = a} {l = l} x e g) h t =
    let at = positioned positioning source a l u.trees in
    let own = by_kind ls (is_specifier_node kind) (marks_other p) kind at l u.trees refl h (λ z. other_marked ls all x z) in
    rw g (joined_other ls r.trees (one_tree (node kind at l u.trees)) t (one_other ls (node kind at l u.trees) own))
without {source = source} ls all (is_wrap {kind = kind} {r = r} {t = u} {a = a} {l = l} x e g) h t =
    let at = position_of_first source a r.trees in
    rw g (one_other ls (node kind at l u.trees) (no_specifier ls kind at l u.trees h))
without ls all (is_kept_apart e x f o y d g j n) h t = absurd cc
without {source = source} ls all (is_in_tree {kind = kind} {r = r} {u = v} {a = a} {l = l} e x y f g) h t =
    let at = position_at source a in
    rw g (joined_other ls r.trees (one_tree (node kind at l v.trees)) t (one_other ls (node kind at l v.trees) (no_specifier ls kind at l v.trees h)))
without ls all (is_where x e) h t = without ls all x h t
without ls all (is_before x e) h t = without ls all x h t
without ls all (is_if l x) h t = without ls all x h t
without ls all (is_unless l x) h t = without ls all x h t
