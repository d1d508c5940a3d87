-- The shapes of declarators and of parameters, from those of their parts.
use Rattle.std.proofs.Common.{◌≡◌, ℕ, zero, suc, ◌+◌, ◌<◌, ◌≤◌, ◌⊎◌, inl, inr, ◌↔◌, nat_lt, Bool, true, false, not, ◌&&◌, ◌||◌, if◌then◌else◌, refl}
use Rattle.std.proofs.Common.{sym as back, ◌∙◌, ap, arith, subst, List, length, Option, Some, None, Result, Ok, Err, true≢false}
use Rattle.std.specs.declared.alloc.AllocError.{AllocError}
use Rattle.std.proofs.lemmas.Bool.{cases_lt, cases_eq, cases_Bool, and_from, and_parts}
use Rattle.cpp_ast.specs.declared.kinds.NodeKind.{NodeKind}
use Rattle.cpp_ast.specs.declared.kinds.NodeKind.TheVariants.{CvQualifier, FunctionDeclarator, ParenthesizedDeclarator}
use Rattle.cpp_syntax.specs.declared.terminal.Terminal.{Terminal}
use Rattle.cpp_syntax.specs.declared.terminal.Terminal.TheVariants as terminal
use Rattle.cpp_syntax.specs.Source.{Source, terminal_at}
use Rattle.cpp_syntax.specs.Terminals.{is_name, is_type_name, const_word, noexcept_word, is_safety, colon_colon, comma, star, amp, void_word, open_paren}
use Rattle.cpp_syntax.specs.Terminals.{close_paren, open_bracket, close_bracket}
use Rattle.cpp_syntax.specs.Types.{holds_something}
use Rattle.cpp_syntax.specs.Balance.{closes, Balanced, is_empty, Partners, IsPartner}
use Rattle.cpp_syntax.specs.Rules.{by_shape, Naming, named, unnamed, either, in_block, declarator, direct_declarator, parameter_declaration}
use Rattle.cpp_syntax.specs.Rules.{parameter_declaration_clause, function_qualifiers, balanced, parameters, Lookahead, at_first, Rule, nothing, word, mark, ◌·◌}
use Rattle.cpp_syntax.specs.Rules.{◌∣◌, many, form, node_at, wrap, where_, if_, unless, optional}
use Rattle.cpp_syntax.specs.Grammar.{production, leaf, cv_qualifiers, tx_qualifier, noexcept_specification, list, array_bound, array_suffix}
use Rattle.cpp_syntax.specs.Grammar.{function_parameters, function_suffix, parameters_behind, suffix, qualified_declarator_id, declarator_id}
use Rattle.cpp_syntax.specs.Grammar.{pointer_declarator, reference_declarator, parenthesized_declarator, declarator_head, omitted_id, parameter_list}
use Rattle.cpp_syntax.specs.Derivations.{Read, no_read, kept_apart, Bodies, Derives, is_nothing, is_word, is_mark, is_both, is_left, is_right, is_last, is_more}
use Rattle.cpp_syntax.specs.Derivations.{is_form, is_node, is_wrap, is_where}
use Rattle.cpp_syntax.specs.FirstSets.{need_not_name, rule_nullable}
use Rattle.cpp_syntax.specs.Longest.{LongestMatch, NoDerivation, is_free}
use Rattle.cpp_syntax.specs.Lookahead.{lookahead_types}
use Rattle.cpp_syntax.specs.Shapes.{SpansBehind, Spans, NoSpan, Recognised, RecognisedBehind, AlwaysRecognised, ParametersAt, KnownAt, ParametersFound}
use Rattle.cpp_syntax.specs.Shapes.{BehindParameters, ParametersPassed, HeadAt, has_head, has_none, HeadFound, IdFound, is_outside_blocks, is_qualified_name_at}
use Rattle.cpp_syntax.specs.Names.{may_name}
use Rattle.cpp_syntax.proofs.FirstTerminals.{ends_behind, not_empty}
use Rattle.cpp_syntax.proofs.DisjointFirstSets.{apart}
use Rattle.cpp_syntax.proofs.WithinTokens.{token_inside}
use Rattle.cpp_syntax.proofs.Balances.{balanced_long, text_run}
use Rattle.cpp_syntax.proofs.LongestMatches.{mark_none, word_none, neither, left, right, seq_none, node_none, where_none, where_refused, where_long, form_none}
use Rattle.cpp_syntax.proofs.LongestMatches.{none_at, wrap_long, wrap_none, if_long, if_none, if_unseen}
use Rattle.cpp_syntax.proofs.Alternatives.{empty_at}
use Rattle.cpp_syntax.proofs.DeclaratorForms.{with_head_long, without_head_long, head_apart, omitted_apart, suffixes_apart}
use Rattle.cpp_syntax.proofs.ParameterClauses.{clause, clause_void, clause_kept}
use Rattle.cpp_syntax.proofs.Recognisers.{SpansMany, spans_nothing, spans_word, spans_mark, spans_leaf, spans_node, spans_form, spans_seq, spans_then}
use Rattle.cpp_syntax.proofs.Recognisers.{spans_left, spans_right, spans_filled, spans_taken, spans_left_out, none_after, none_seq, behind_any, span_ahead}
use Rattle.cpp_syntax.proofs.Recognisers.{many_starts, many_goes, many_stops}
use Rattle.cpp_syntax.proofs.ShapeDerivations.{no_parentheses, none_inside, not_closed, parameters_seen, function_seen, begins_inside}
use Rattle.cpp_syntax.proofs.TypeShapes.{refused_by, never_missing_unnamed, never_missing_either}

-- * and & before a declarator.

pointer : {s : Source} (n : Naming) {a m b : ℕ} → is_outside_blocks n ≡ true → star (terminal_at s a) ≡ true → Spans s cv_qualifiers (a + 1) m
    → Spans s (form (declarator by_shape n)) m b → Spans s (pointer_declarator by_shape n) a b
pointer named e t x y = spans_node (spans_seq (spans_mark t) (spans_seq x y refl refl) refl refl)
pointer unnamed e t x y = spans_node (spans_seq (spans_mark t) (spans_seq x y refl refl) refl refl)
pointer either e t x y = spans_node (spans_seq (spans_mark t) (spans_seq x y refl refl) refl refl)
pointer in_block e t x y = absurd (true≢false (back e))

pub pointer_found : (s : Source) (n : Naming) (a m : ℕ) → is_outside_blocks n ≡ true → terminal_at s a ≡ terminal.Star
    → Spans s cv_qualifiers (a + 1) m → (r : Result (Option ℕ) AllocError) → Recognised s (form (declarator by_shape n)) m r
    → Recognised s (form (declarator by_shape n)) a r
pointer_found s named a m e h x (Ok (Some b)) y = spans_form (spans_filled (pointer named e (ap star h) x y) refl (empty_at terminal.Star h refl refl))
pointer_found s unnamed a m e h x (Ok (Some b)) y = spans_form (spans_filled (pointer unnamed e (ap star h) x y) refl (empty_at terminal.Star h refl refl))
pointer_found s either a m e h x (Ok (Some b)) y = spans_form (spans_filled (pointer either e (ap star h) x y) refl (empty_at terminal.Star h refl refl))
pointer_found s in_block a m e h x (Ok (Some b)) y = absurd (true≢false (back e))
pointer_found s named a m e h x (Ok None) y =
    form_none (neither (node_none (none_after (spans_mark (ap star h)) (none_after x y refl refl refl) refl refl refl))
    (none_at terminal.Star h refl refl refl))
pointer_found s unnamed a m e h x (Ok None) y = absurd (never_missing_unnamed y)
pointer_found s either a m e h x (Ok None) y = absurd (never_missing_either y)
pointer_found s in_block a m e h x (Ok None) y = absurd (true≢false (back e))
pointer_found s n a m e h x (Err z) y = tt

no_pointer : {s : Source} (n : Naming) {a : ℕ} → star (terminal_at s a) ≡ false → NoSpan s (pointer_declarator by_shape n) a
no_pointer n t = node_none (seq_none (mark_none t))

no_reference : {s : Source} (n : Naming) {a : ℕ} → amp (terminal_at s a) ≡ false → NoSpan s (reference_declarator by_shape n) a
no_reference n t = node_none (seq_none (mark_none t))

pub reference_found : (s : Source) (n : Naming) (a : ℕ) → is_outside_blocks n ≡ true → terminal_at s a ≡ terminal.Amp
    → (r : Result (Option ℕ) AllocError) → Recognised s (form (declarator by_shape n)) (a + 1) r → Recognised s (form (declarator by_shape n)) a r
reference_found s named a e h (Ok (Some b)) y =
    spans_form (spans_right (no_pointer named (ap star h)) (spans_filled (spans_node (spans_seq (spans_mark (ap amp h)) y refl refl)) refl
    (empty_at terminal.Amp h refl refl)))
reference_found s unnamed a e h (Ok (Some b)) y =
    spans_form (spans_right (no_pointer unnamed (ap star h)) (spans_filled (spans_node (spans_seq (spans_mark (ap amp h)) y refl refl)) refl
    (empty_at terminal.Amp h refl refl)))
reference_found s either a e h (Ok (Some b)) y =
    spans_form (spans_right (no_pointer either (ap star h)) (spans_filled (spans_node (spans_seq (spans_mark (ap amp h)) y refl refl)) refl
    (empty_at terminal.Amp h refl refl)))
reference_found s in_block a e h (Ok (Some b)) y = absurd (true≢false (back e))
reference_found s named a e h (Ok None) y =
    form_none (neither (no_pointer named (ap star h)) (neither (node_none (none_after (spans_mark (ap amp h)) y refl refl refl))
    (none_at terminal.Amp h refl refl refl)))
reference_found s unnamed a e h (Ok None) y = absurd (never_missing_unnamed y)
reference_found s either a e h (Ok None) y = absurd (never_missing_either y)
reference_found s in_block a e h (Ok None) y = absurd (true≢false (back e))
reference_found s n a e h (Err z) y = tt

pub declarator_found : (s : Source) (n : Naming) (a : ℕ) → star (terminal_at s a) ≡ false → amp (terminal_at s a) ≡ false
    → (r : Result (Option ℕ) AllocError) → Recognised s (form (direct_declarator by_shape n)) a r → Recognised s (form (declarator by_shape n)) a r
declarator_found s n a t u (Ok (Some b)) x = spans_form (spans_right (no_pointer n t) (spans_right (no_reference n u) x))
declarator_found s n a t u (Ok None) x = form_none (neither (no_pointer n t) (neither (no_reference n u) x))
declarator_found s n a t u (Err e) x = tt

-- What a declarator has before its suffixes, and they.

-- what the suffixes behind it are, whatever the declarator names and whatever was read
abbrev pub Suffixed : Source → ℕ → ℕ → Type 0
Suffixed s h b = (n : Naming) → (r : Read) → SpansBehind s (many (suffix by_shape n)) r h b

with_one : {s : Source} (n : Naming) {a h b : ℕ} → need_not_name n ≡ true → Spans s (declarator_head by_shape n) a h → Suffixed s h b
    → Spans s (declarator_head by_shape n · many (suffix by_shape n) ∣ omitted_id · many (suffix by_shape n)) a b
with_one n e x y =
    let z = spans_then x (y n x.got) (head_apart by_shape n) in record { marked = z.marked; got = z.got; long = with_head_long by_shape n e z.long }

omitted_there : {s : Source} {a : ℕ} → Spans s omitted_id a a
omitted_there = spans_node spans_nothing

without_one : {s : Source} (n : Naming) {a h b : ℕ} → h ≡ a → NoSpan s (declarator_head by_shape n) a → Suffixed s h b
    → Spans s (declarator_head by_shape n · many (suffix by_shape n) ∣ omitted_id · many (suffix by_shape n)) a b
without_one {s = s} n {a = a} {b = b} e x y =
    let o : Spans s omitted_id a a = omitted_there in let z = spans_then o (subst (λ (i : ℕ). SpansBehind s (many (suffix by_shape n)) o.got i b) e
    (y n o.got)) (omitted_apart by_shape n) in record { marked = z.marked; got = z.got; long = without_head_long by_shape n x z.long }

pub direct_found : {s : Source} (n : Naming) {a h b : ℕ} → is_outside_blocks n ≡ true → HeadAt s n a h → Suffixed s h b
    → Spans s (form (direct_declarator by_shape n)) a b
direct_found named e (has_head x) y = spans_form (spans_then x (y named x.got) (head_apart by_shape named))
direct_found named e (has_none f g x) y = absurd (true≢false (back g))
direct_found unnamed e (has_head x) y = spans_form (with_one unnamed refl x y)
direct_found unnamed e (has_none f g x) y = spans_form (without_one unnamed f x y)
direct_found either e (has_head x) y = spans_form (with_one either refl x y)
direct_found either e (has_none f g x) y = spans_form (without_one either f x y)
direct_found in_block e x y = absurd (true≢false (back e))

pub direct_missing : {s : Source} (n : Naming) {a : ℕ} → is_outside_blocks n ≡ true → need_not_name n ≡ false
    → NoSpan s (declarator_head by_shape n) a → NoSpan s (form (direct_declarator by_shape n)) a
direct_missing named e f x = form_none (seq_none x)
direct_missing unnamed e f x = absurd (true≢false f)
direct_missing either e f x = absurd (true≢false f)
direct_missing in_block e f x = absurd (true≢false (back e))

-- names

no_qualified : {s : Source} {a : ℕ} → is_type_name (terminal_at s a) ≡ false → NoSpan s qualified_declarator_id a
no_qualified t = node_none (seq_none (node_none (mark_none t)))

pub id_name : {s : Source} {a : ℕ} → is_name (terminal_at s a) ≡ true → Spans s declarator_id a (a + 1)
id_name {s = s} {a = a} t = spans_left (spans_leaf t) (no_qualified (refused_by is_name is_type_name refl (terminal_at s a) t))

three_on : (a : ℕ) → a + 1 + 1 + 1 ≡ a + 3
three_on a = omega arith

pub id_qualified : {s : Source} {a : ℕ} → is_qualified_name_at s a ≡ true → Spans s declarator_id a (a + 3)
id_qualified {s = s} {a = a} t =
    let p = and_parts (is_type_name (terminal_at s a) && colon_colon (terminal_at s (a + 1))) (is_name (terminal_at s (a + 2))) t in
    let q = and_parts (is_type_name (terminal_at s a)) (colon_colon (terminal_at s (a + 1))) p.0 in
    let e : a + 2 ≡ a + 1 + 1 = omega arith in
    subst (λ (z : ℕ). Spans s declarator_id a z) (three_on a)
    (spans_right (node_none (mark_none (refused_by is_type_name is_name refl (terminal_at s a) q.0)))
    (spans_node (spans_seq (spans_leaf q.0) (spans_seq (spans_word q.1) (spans_mark (subst (λ (n : ℕ). is_name (terminal_at s n) ≡ true) e p.1)) refl
    refl) refl refl)))

pub id_missing : {s : Source} {a : ℕ} → is_name (terminal_at s a) ≡ false → is_qualified_name_at s a ≡ false → NoSpan s declarator_id a
id_missing {s = s} {a = a} t u b k r (is_left (is_node (is_mark v e f g) h i)) = true≢false (back v ∙ t)
id_missing {s = s} {a = a} t u b k r (is_right (is_node (is_both (is_node (is_mark {b = m} v e f g) h i)
    (is_both (is_word {b = n} w e1 f1 g1) (is_mark x e2 f2 g2) h1) h2) h3 i3)) =
    let j : n ≡ a + 2 = omega (arith, e, e1) in
    true≢false (back (and_from (is_type_name (terminal_at s a) && colon_colon (terminal_at s (a + 1))) (is_name (terminal_at s (a + 2)))
    (and_from (is_type_name (terminal_at s a)) (colon_colon (terminal_at s (a + 1))) v
    (subst (λ (z : ℕ). colon_colon (terminal_at s z) ≡ true) e w)) (subst (λ (z : ℕ). is_name (terminal_at s z) ≡ true) j x)) ∙ u)

pub head_named : {s : Source} (n : Naming) {a h : ℕ} → may_name n ≡ true → Spans s declarator_id a h → HeadAt s n a h
head_named {s = s} n {a = a} {h = h} e x = by n e (name_first x.long.derives)
  where
    name_first : {r : Read} {b : ℕ} {k : Option ℕ} → Derives (lookahead_types s) kept_apart s declarator_id no_read a b k r
        → open_paren (terminal_at s a) ≡ false
    name_first (is_left (is_node (is_mark t f g i) j l)) = refused_by is_name open_paren refl (terminal_at s a) t
    name_first (is_right (is_node (is_both (is_node (is_mark t f g i) j l) y m) o p)) = refused_by is_type_name open_paren refl (terminal_at s a) t

    no_group : (n : Naming) → open_paren (terminal_at s a) ≡ false → NoSpan s (parenthesized_declarator by_shape n) a
    no_group n t = where_none (node_none (seq_none (mark_none t)))

    by : (n : Naming) → may_name n ≡ true → open_paren (terminal_at s a) ≡ false → HeadAt s n a h
    by named e t = has_head (spans_left x (no_group named t))
    by either e t = has_head (spans_left x (no_group either t))
    by in_block e t = has_head (spans_left x (no_group in_block t))
    by unnamed e t = absurd (true≢false (back e))

pub head_group : {s : Source} (n : Naming) {a h : ℕ} → Spans s (parenthesized_declarator by_shape n) a h → HeadAt s n a h
head_group {s = s} n {a = a} {h = h} x = by n x (group_first n x.long.derives)
  where
    group_first : (n : Naming) {r : Read} {b : ℕ} {k : Option ℕ}
        → Derives (lookahead_types s) kept_apart s (parenthesized_declarator by_shape n) no_read a b k r → open_paren (terminal_at s a) ≡ true
    group_first n (is_where (is_node (is_both (is_mark t f g i) y m) o p) q) = t

    no_name : open_paren (terminal_at s a) ≡ true → NoSpan s declarator_id a
    no_name t =
        neither (node_none (mark_none (refused_by open_paren is_name refl (terminal_at s a) t)))
        (no_qualified (refused_by open_paren is_type_name refl (terminal_at s a) t))

    by : (n : Naming) → Spans s (parenthesized_declarator by_shape n) a h → open_paren (terminal_at s a) ≡ true → HeadAt s n a h
    by named x t = has_head (spans_right (no_name t) x)
    by either x t = has_head (spans_right (no_name t) x)
    by in_block x t = has_head (spans_right (no_name t) x)
    by unnamed x t = has_head x

pub head_ahead : {s : Source} {n : Naming} {a h : ℕ} → HeadAt s n a h → a ≤ h
head_ahead (has_head x) = span_ahead x
head_ahead (has_none e f x) = omega (arith, e)

pub head_missing : {s : Source} (n : Naming) {a : ℕ} → (may_name n ≡ true → NoSpan s declarator_id a)
    → NoSpan s (parenthesized_declarator by_shape n) a → NoSpan s (declarator_head by_shape n) a
head_missing named f x = neither (f refl) x
head_missing either f x = neither (f refl) x
head_missing in_block f x = neither (f refl) x
head_missing unnamed f x = x

pub head_left_out : {s : Source} (n : Naming) {a : ℕ} (o : Option ℕ) → o ≡ (if need_not_name n then Some a else None)
    → NoSpan s (declarator_head by_shape n) a → HeadFound s n a (Ok o)
head_left_out {s = s} n {a = a} o e x = subst (λ (z : Option ℕ). HeadFound s n a (Ok z)) (back e) (by n x)
  where
    by : (n : Naming) → NoSpan s (declarator_head by_shape n) a → HeadFound s n a (Ok (if need_not_name n then Some a else None))
    by named x = (refl, x)
    by in_block x = (refl, x)
    by unnamed x = has_none refl refl x
    by either x = has_none refl refl x

-- Declarators in parentheses.

pub no_group_there : {s : Source} (n : Naming) {a : ℕ} → open_paren (terminal_at s a) ≡ false → NoSpan s (parenthesized_declarator by_shape n) a
no_group_there n t = where_none (node_none (seq_none (mark_none t)))

and_none : (b : Bool) → (b && false) ≡ false
and_none true = refl
and_none false = refl

pub group_empty : {s : Source} (n : Naming) {a : ℕ} → open_paren (terminal_at s a) ≡ true → NoSpan s (form (declarator by_shape n)) (a + 1)
    → NoSpan s (parenthesized_declarator by_shape n) a
group_empty n t x = where_none (node_none (none_after (spans_mark t) (none_seq x) refl (and_none (need_not_name n)) refl))

not_past : (a b : ℕ) → b ≤ a + 2 → nat_lt (a + 2) b ≡ false
not_past a b h = grind (arith, h)

past : (a b : ℕ) → a + 2 < b → nat_lt (a + 2) b ≡ true
past a b h = grind (arith, h)

pub group_of_none : {s : Source} (n : Naming) {a m : ℕ} → Spans s (form (declarator by_shape n)) (a + 1) m → m ≡ a + 1
    → NoSpan s (parenthesized_declarator by_shape n) a
group_of_none {s = s} n {a = a} {m = m} x e = where_refused over
  where
    short : {d : ℕ} {t : Read} {k : Option ℕ} → Derives (lookahead_types s) kept_apart s (form (declarator by_shape n)) no_read (a + 1) d k t → d ≤ a + 1
    short {d = d} {t = t} {k = k} y = elim (x.long.longest d k t y) [
      | inl h ↦ let i : d < m = h.0 in omega (arith, i, e)
      | inr h ↦ let i : d ≡ m = h.0 in omega (arith, i, e)
    ]

    from_there : {c d : ℕ} {r t : Read} {k : Option ℕ} → c ≡ a + 1 → r ≡ no_read
        → Derives (lookahead_types s) kept_apart s (form (declarator by_shape n)) r c d k t → d ≤ a + 1
    from_there {c = c} {d = d} {t = t} {k = k} f g y =
        short (subst (λ (i : ℕ). Derives (lookahead_types s) kept_apart s (form (declarator by_shape n)) no_read i d k t) f
        (subst (λ (i : Read). Derives (lookahead_types s) kept_apart s (form (declarator by_shape n)) i c d k t) g y))

    over : (b : ℕ) (k : Option ℕ) (t : Read)
        → Derives (lookahead_types s) kept_apart s (node_at at_first ParenthesizedDeclarator
        (mark open_paren · form (declarator by_shape n) · word close_paren)) no_read a b k t
        → holds_something s a b ≡ false
    over b k t (is_node (is_both (is_mark t0 e0 f0 g0) (is_both y (is_word t1 e1 f1 g1) h1) h0) i j) =
        let l = from_there e0 g0 y in not_past a b (omega (arith, l, e1))

pub group_open : {s : Source} (n : Naming) {a m : ℕ} → is_outside_blocks n ≡ true → open_paren (terminal_at s a) ≡ true
    → Spans s (form (declarator by_shape n)) (a + 1) m → close_paren (terminal_at s m) ≡ false → NoSpan s (parenthesized_declarator by_shape n) a
group_open named e t x u = where_none (node_none (none_after (spans_mark t) (none_after x (word_none u) refl refl refl) refl refl refl))
group_open unnamed e t x u = where_none (node_none (none_after (spans_mark t) (none_after x (word_none u) refl refl refl) refl refl refl))
group_open either e t x u = where_none (node_none (none_after (spans_mark t) (none_after x (word_none u) refl refl refl) refl refl refl))
group_open in_block e t x u = absurd (true≢false (back e))

in_group : {s : Source} (n : Naming) {a m : ℕ} → is_outside_blocks n ≡ true → open_paren (terminal_at s a) ≡ true
    → Spans s (form (declarator by_shape n)) (a + 1) m → close_paren (terminal_at s m) ≡ true
    → Spans s (mark open_paren · form (declarator by_shape n) · word close_paren) a (m + 1)
in_group named e t x u = spans_seq (spans_mark t) (spans_seq x (spans_word u) refl refl) refl refl
in_group unnamed e t x u = spans_seq (spans_mark t) (spans_seq x (spans_word u) refl refl) refl refl
in_group either e t x u = spans_seq (spans_mark t) (spans_seq x (spans_word u) refl refl) refl refl
in_group in_block e t x u = absurd (true≢false (back e))

pub group_found : {s : Source} (n : Naming) {a m : ℕ} → is_outside_blocks n ≡ true → open_paren (terminal_at s a) ≡ true
    → Spans s (form (declarator by_shape n)) (a + 1) m → (m ≡ a + 1 → ⊥) → close_paren (terminal_at s m) ≡ true
    → Spans s (parenthesized_declarator by_shape n) a (m + 1)
group_found {s = s} n {a = a} {m = m} e t x f u =
    let y = spans_node (in_group n e t x u) in record {
      marked = y.marked;
      got = y.got;
      long = where_long y.long
          (past a (m + 1) (further (span_ahead x) f));
    }
  where
    further : a + 1 ≤ m → (m ≡ a + 1 → ⊥) → a + 2 < m + 1
    further h g = elim (cases_lt (a + 1) m) [ inl i ↦ omega (arith, i) | inr i ↦ absurd (g (omega (arith, h, i))) ]

-- Suffixes.

pub partner_closes : (xs : List Terminal) (a b : ℕ) → IsPartner xs a (Some b) → Partners xs a b
partner_closes xs a b p = (p b).0 refl

pub no_partner : (xs : List Terminal) (a b : ℕ) → IsPartner xs a None → Partners xs a b → ⊥
no_partner xs a b p x = by ((p b).1 x)
  where
    by : {b : ℕ} → None ≡ Some b → ⊥
    by e = cc

never_end : (x : Terminal) → not (closes x terminal.End) ≡ true
never_end terminal.OpenParen = refl
never_end terminal.OpenBracket = refl
never_end terminal.OpenBrace = refl
never_end _ = refl

pub partner_inside : (s : Source) (a b : ℕ) → IsPartner s.terminals a (Some b) → b < length s.terminals
partner_inside s a b p = token_inside s b (closes (terminal_at s a)) (never_end (terminal_at s a)) (partner_closes s.terminals a b p).closes

bracket_by : (x y : Terminal) → x ≡ terminal.OpenBracket → closes x y ≡ true → close_bracket y ≡ true
bracket_by terminal.OpenBracket terminal.CloseBracket e f = refl
bracket_by terminal.OpenBracket _ e f = cc
bracket_by _ y e f = cc

bracket_of : (x y : Terminal) → open_bracket x ≡ true → close_bracket y ≡ true → closes x y ≡ true
bracket_of terminal.OpenBracket terminal.CloseBracket e f = refl
bracket_of terminal.OpenBracket _ e f = cc
bracket_of _ y e f = cc

pub bound_found : {s : Source} {a m : ℕ} → terminal_at s a ≡ terminal.OpenBracket → IsPartner s.terminals a (Some m) → Spans s (array_bound by_shape) a (m + 1)
bound_found {s = s} {a = a} {m = m} e p =
    let q = partner_closes s.terminals a m p in
    let x : Spans s (form balanced) (a + 1) m = record { marked = None; got = no_read; long = balanced_long q no_read } in
    spans_seq (spans_mark (ap open_bracket e)) (spans_seq x (spans_word (bracket_by (terminal_at s a) (terminal_at s m) e q.closes)) refl refl) refl refl

balanced_there : {s : Source} {r t : Read} {a b : ℕ} {k : Option ℕ} → Derives (lookahead_types s) kept_apart s (form balanced) r a b k t
    → Balanced s.terminals a b
balanced_there (is_form x e f) = (text_run x).tokens

pub bound_missing : {s : Source} {r : Read} {a : ℕ} → IsPartner s.terminals a None → NoDerivation (lookahead_types s) kept_apart s (array_bound by_shape) r a
bound_missing {s = s} {a = a} p b k t (is_both (is_mark t0 e0 f0 g0) (is_both {m = n} x (is_word t1 e1 f1 g1) h1) h0) = no_partner s.terminals a n p (record {
  closes = bracket_of (terminal_at s a) (terminal_at s n) t0 t1;
  between = subst (λ (z : ℕ). Balanced s.terminals z n) e0 (balanced_there x);
})

function_part_none : {s : Source} (n : Naming) {r : Read} {a : ℕ} → NoDerivation (lookahead_types s) kept_apart s (function_parameters by_shape) r a
    → NoDerivation (lookahead_types s) kept_apart s (wrap FunctionDeclarator (parameters_behind by_shape n)) r a
function_part_none named x = wrap_none (if_none x)
function_part_none in_block x = wrap_none (if_none x)
function_part_none unnamed x = wrap_none x
function_part_none either x = wrap_none x

pub suffix_bound : {s : Source} {a b : ℕ} → open_bracket (terminal_at s a) ≡ true → Spans s (array_bound by_shape) a b → (n : Naming) (r : Read)
    → SpansBehind s (suffix by_shape n) r a b
suffix_bound {s = s} {a = a} t x n r =
    let y = behind_any x refl r in record {
      marked = None;
      got = _;
      long = left (wrap_long y.long)
          (function_part_none n (seq_none (mark_none (refused_by open_bracket open_paren refl (terminal_at s a) t))));
    }

pub suffix_no_bound : {s : Source} {a : ℕ} → open_bracket (terminal_at s a) ≡ true → IsPartner s.terminals a None → (n : Naming) (r : Read)
    → NoDerivation (lookahead_types s) kept_apart s (suffix by_shape n) r a
suffix_no_bound {s = s} {a = a} t p n r =
    neither (wrap_none (bound_missing p)) (function_part_none n (seq_none (mark_none (refused_by open_bracket open_paren refl (terminal_at s a) t))))

no_bound : {s : Source} {r : Read} {a : ℕ} → open_bracket (terminal_at s a) ≡ false → NoDerivation (lookahead_types s) kept_apart s (array_suffix by_shape) r a
no_bound t = wrap_none (seq_none (mark_none t))

parameters_span : {s : Source} {a m b : ℕ} → BehindParameters s a m → Spans s (form function_qualifiers) m b → Spans s (function_parameters by_shape) a b
parameters_span {s = s} {b = b} x y =
    spans_seq (spans_mark x.held.opened) (spans_seq x.held.spans (spans_seq (spans_word x.held.closed)
    (subst (λ (z : ℕ). Spans s (form function_qualifiers) z b) x.behind y) refl refl) refl refl) refl refl

pub suffix_parameters : {s : Source} {a m b : ℕ} → BehindParameters s a m → Spans s (form function_qualifiers) m b → (n : Naming) (r : Read)
    → SpansBehind s (suffix by_shape n) r a b
suffix_parameters {s = s} {a = a} {b = b} x y n r = by n (behind_any (parameters_span x y) refl r)
  where
    none : NoDerivation (lookahead_types s) kept_apart s (array_suffix by_shape) r a
    none = no_bound (refused_by open_paren open_bracket refl (terminal_at s a) x.held.opened)

    by : (n : Naming) → SpansBehind s (function_parameters by_shape) r a b → SpansBehind s (suffix by_shape n) r a b
    by named z = record { marked = None; got = _; long = right none (wrap_long (if_long (parameters_seen x.held) z.long)) }
    by in_block z = record { marked = None; got = _; long = right none (wrap_long (if_long (parameters_seen x.held) z.long)) }
    by unnamed z = record { marked = None; got = _; long = right none (wrap_long z.long) }
    by either z = record { marked = None; got = _; long = right none (wrap_long z.long) }

pub suffix_unseen : {s : Source} {a : ℕ} → open_bracket (terminal_at s a) ≡ false → (lookahead_types s parameters a → ⊥) → (n : Naming) (r : Read)
    → NoDerivation (lookahead_types s) kept_apart s (suffix by_shape n) r a
suffix_unseen t x n r = neither (no_bound t) (function_part_none n (λ b k u y. x (function_seen y)))

pub suffix_starts : {s : Source} {a b : ℕ} → SpansBehind s (suffix by_shape unnamed) no_read a b → (a < b) × (a < length s.terminals)
suffix_starts x = (not_empty x.long.derives refl, begins_inside x.long.derives refl refl refl)

suffix_filled : (n : Naming) → rule_nullable (suffix by_shape n) ≡ false
suffix_filled named = refl
suffix_filled unnamed = refl
suffix_filled either = refl
suffix_filled in_block = refl

-- suffixes so far
abbrev pub SuffixesSoFar : Source → ℕ → ℕ → Type 0
SuffixesSoFar s a b = (n : Naming) → (r : Read) → SpansMany s (suffix by_shape n) r a b

pub suffixes_more : {s : Source} {a m b : ℕ} → SuffixesSoFar s a m → ((n : Naming) → (r : Read) → SpansBehind s (suffix by_shape n) r m b) → SuffixesSoFar s a b
suffixes_more x y n r = let z = x n r in many_goes z (y n z.got) (suffix_filled n) (suffixes_apart by_shape n)

pub suffixes_end : {s : Source} {a b : ℕ} → SuffixesSoFar s a b
    → ((n : Naming) → (r : Read) → NoDerivation (lookahead_types s) kept_apart s (suffix by_shape n) r b) → Suffixed s a b
suffixes_end x y n r = let z = x n r in many_stops z (y n z.got)

pub qualifiers_found : {s : Source} {a m n b : ℕ} → Spans s (optional (leaf CvQualifier const_word)) a m → Spans s (optional tx_qualifier) m n
    → Spans s (optional noexcept_specification) n b → Spans s (form function_qualifiers) a b
qualifiers_found x y z = spans_form (spans_node (spans_seq x (spans_seq y z refl refl) refl refl))

pub leaf_taken : {s : Source} {kind : NodeKind} {test : Terminal → Bool} {a : ℕ} → test (terminal_at s a) ≡ true → Spans s (optional (leaf kind test)) a (a + 1)
leaf_taken t = spans_taken (spans_leaf t) refl

pub leaf_left_out : {s : Source} {kind : NodeKind} {test : Terminal → Bool} {a : ℕ} → test (terminal_at s a) ≡ false → Spans s (optional (leaf kind test)) a a
leaf_left_out t = spans_left_out (node_none (mark_none t))

-- Parameters.

pub clause_found : {s : Source} {a b : ℕ} → Spans s (optional (parameter_list by_shape)) a b → Spans s (form (parameter_declaration_clause by_shape)) a b
clause_found {s = s} {a = a} {b = b} x = elim (cases_Bool (void_word (terminal_at s a))) [
  | inl h ↦ elim (cases_eq b (a + 1)) [
    | inl i ↦ let y : Spans s (clause by_shape) a (a + 1) = record { marked = None; got = no_read; long = clause_void x.long h i } in spans_form
        (spans_node (subst (λ (z : ℕ). Spans s (clause by_shape) a z) (back i) y))
    | inr i ↦ let y : Spans s (clause by_shape) a b = record { marked = x.marked; got = x.got; long = clause_kept x.long (λ _ e. i e) } in spans_form
        (spans_node y)
  ]
  | inr h ↦ let y : Spans s (clause by_shape) a b = record {
    marked = x.marked;
    got = x.got;
    long = clause_kept x.long
        (λ t _. true≢false (back t ∙ h));
  } in spans_form (spans_node y)
]

pub list_found : {s : Source} {a b : ℕ} → Spans s (parameter_list by_shape) a b → Spans s (form (parameter_declaration_clause by_shape)) a b
list_found x = clause_found (spans_taken x refl)

pub list_missing : {s : Source} {a : ℕ} → NoSpan s (parameter_list by_shape) a → Spans s (form (parameter_declaration_clause by_shape)) a a
list_missing x = clause_found (spans_left_out x)

-- behind a comma
pub comma_found : {s : Source} {p : Rule} {a b : ℕ} → comma (terminal_at s a) ≡ true → Spans s p (a + 1) b → is_free p ≡ true → Spans s (word comma · p) a b
comma_found t x f = spans_seq (spans_word t) x f refl

pub comma_alone : {s : Source} {p : Rule} {a : ℕ} → comma (terminal_at s a) ≡ true → NoSpan s p (a + 1) → is_free p ≡ true → rule_nullable p ≡ false
    → NoSpan s (word comma · p) a
comma_alone t x f e = none_after (spans_word t) x f e refl

pub no_comma : {s : Source} {p : Rule} {a : ℕ} → comma (terminal_at s a) ≡ false → NoSpan s (word comma · p) a
no_comma t = seq_none (word_none t)

-- parameters in parentheses

pub parameters_not_open : {s : Source} {a : ℕ} → open_paren (terminal_at s a) ≡ false → lookahead_types s parameters a → ⊥
parameters_not_open t x = no_parentheses t x.0 x.1

pub parameters_not_closed : {s : Source} {a m : ℕ} → Spans s (form (parameter_declaration_clause by_shape)) (a + 1) m
    → close_paren (terminal_at s m) ≡ false → lookahead_types s parameters a → ⊥
parameters_not_closed x t y = not_closed (parameter_declaration_clause by_shape) refl refl x t y.0 y.1
