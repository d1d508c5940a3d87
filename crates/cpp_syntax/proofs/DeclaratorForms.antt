-- Declarators in parentheses and parameters in parentheses: no index begins both.
--
-- stays test x t refl                        : a text is empty, since none of its rule begins with a terminal that passes the test
-- never_parameters refl x y                  : a declarator in parentheses is no parameters
-- with_head_long reading naming refl x       : the longest text with a head is that of the form   (unnamed, either)
-- without_head_long reading naming x y       : where there is no head
-- head_apart, omitted_apart, suffixes_apart reading naming
use Rattle.std.proofs.Common.{◌≡◌, ℕ, ◌+◌, ◌<◌, ◌≤◌, inl, inr, nat_lt, Bool, true, false, not, ◌&&◌, refl, sym as back, ◌∙◌, subst, ap, arith, Option}
use Rattle.std.proofs.Common.{true≢false}
use Rattle.std.proofs.lemmas.Bool.{cases_lt, and_from, and_parts, not-true, cases_Bool}
use Rattle.cpp_syntax.specs.declared.terminal.Terminal.{Terminal}
use Rattle.cpp_syntax.specs.Source.{Source, terminal_at}
use Rattle.cpp_syntax.specs.Terminals.{is_type_name, colon_colon, open_paren, close_paren, open_bracket}
use Rattle.cpp_syntax.specs.Rules.{Reading, whole, by_shape, Naming, Nonterminal, named, unnamed, either, in_block, type_specifier, type_specifier_seq}
use Rattle.cpp_syntax.specs.Rules.{declarator, parameter_declaration, parameter_declaration_clause, Lookahead, Rule, ◌·◌, ◌∣◌, many, form}
use Rattle.cpp_syntax.specs.Grammar.{suffix, function_parameters, declarator_id, parenthesized_declarator, declarator_head, omitted_id, parameter_list}
use Rattle.cpp_syntax.specs.Derivations.{Read, Bodies, Derives, is_nothing, is_word, is_mark, is_both, is_left, is_right, is_last, is_more, is_form, is_node}
use Rattle.cpp_syntax.specs.Derivations.{is_wrap, is_where}
use Rattle.cpp_syntax.specs.FirstSets.{first_set, need_not_name, first_of_declarator, first_of_types, rule_first_set, rule_nullable}
use Rattle.cpp_syntax.specs.Longest.{LongestMatch, NoDerivation}
use Rattle.cpp_syntax.proofs.TerminalTables.{passes, at_each, implies, implied}
use Rattle.cpp_syntax.proofs.FirstTerminals.{ends_behind, not_empty, begins_so}
use Rattle.cpp_syntax.proofs.DisjointFirstSets.{either_way, apart}
use Rattle.cpp_syntax.proofs.LongestMatches.{right, seq_none}
use Rattle.cpp_syntax.proofs.Alternatives.{OnlyEmpty, left_filled}

-- No text of the rule begins with a terminal that passes the test.

abbrev unlike_by : (Terminal → Bool) → Rule → Bool → Terminal → Bool
unlike_by test p seen s = not (test s && rule_first_set p seen s)

abbrev pub unlike : (Terminal → Bool) → Rule → Bool
unlike test p = passes (unlike_by test p true) && passes (unlike_by test p false)

unlike_at : (test : Terminal → Bool) (p : Rule) (seen : Bool) (s : Terminal) → unlike test p ≡ true → unlike_by test p seen s ≡ true
unlike_at test p true s e = at_each (unlike_by test p true) (and_parts (passes (unlike_by test p true)) (passes (unlike_by test p false)) e).0 s
unlike_at test p false s e = at_each (unlike_by test p false) (and_parts (passes (unlike_by test p true)) (passes (unlike_by test p false)) e).1 s

-- so a text of it is empty
pub stays : {lookahead : Lookahead → ℕ → Type 0} {bodies : Bodies} {source : Source} {p : Rule} {r s : Read} {a b : ℕ} {k : Option ℕ} (test : Terminal → Bool)
    → Derives lookahead bodies source p r a b k s → test (terminal_at source a) ≡ true → unlike test p ≡ true → b ≡ a
stays {lookahead = lookahead} {source = source} {p = p} {a = a} {b = b} test x t e = elim (cases_lt a b) [
  | inl h ↦ absurd (either_way lookahead a (λ seen w.
      true≢false (back (and_from (test (terminal_at source a)) (rule_first_set p seen (terminal_at source a)) t (begins_so x h seen w))
      ∙ not-true (test (terminal_at source a) && rule_first_set p seen (terminal_at source a)) (unlike_at test p seen (terminal_at source a) e))))
  | inr h ↦ let n = ends_behind x in omega (arith, h, n)
]

moved_test : (source : Source) (test : Terminal → Bool) {a m : ℕ} → m ≡ a → test (terminal_at source a) ≡ true → test (terminal_at source m) ≡ true
moved_test source test e t = subst (λ (z : ℕ). test (terminal_at source z) ≡ true) (back e) t

-- a declarator that begins with the name of a type names a member of it
named_member : {lookahead : Lookahead → ℕ → Type 0} {bodies : Bodies} {source : Source} {r s : Read} {a b : ℕ} {k : Option ℕ}
    → Derives lookahead bodies source declarator_id r a b k s → is_type_name (terminal_at source a) ≡ true
    → colon_colon (terminal_at source (a + 1)) ≡ true
named_member (is_left x) t = absurd (let l = not_empty x refl in let e = stays is_type_name x t refl in omega (arith, l, e))
named_member {source = source} (is_right (is_node (is_both (is_node (is_mark t' e' f' g') e1 f1) (is_both (is_word u e2 f2 g2) y h) i) e f)) t =
    subst (λ (z : ℕ). colon_colon (terminal_at source z) ≡ true) e' u

member_declared : {lookahead : Lookahead → ℕ → Type 0} {bodies : Bodies} {source : Source} {reading : Reading} {r s : Read} {a b : ℕ} {k : Option ℕ}
    → Derives lookahead bodies source (form (declarator reading either)) r a b k s → a < b → is_type_name (terminal_at source a) ≡ true
    → colon_colon (terminal_at source (a + 1)) ≡ true
member_declared (is_form (is_left x) e f) h t = absurd (let n = stays is_type_name x t refl in omega (arith, n, h))
member_declared (is_form (is_right (is_left x)) e f) h t = absurd (let n = stays is_type_name x t refl in omega (arith, n, h))
member_declared (is_form (is_right (is_right (is_form (is_left (is_both (is_left x) y i)) g j))) e f) h t = named_member x t
member_declared (is_form (is_right (is_right (is_form (is_left (is_both (is_right x) y i)) g j))) e f) h t =
    absurd (let n = stays is_type_name x t refl in let l = not_empty x refl in omega (arith, n, l))
member_declared {source = source} (is_form (is_right (is_right (is_form (is_right (is_both x y i)) g j))) e f) h t =
    absurd (let n = stays is_type_name x t refl in let m = stays is_type_name y (moved_test source is_type_name n t) refl in omega (arith, n, m, h))

-- Parameters that begin with the name of a type, with :: behind it, end there.

one_name : {lookahead : Lookahead → ℕ → Type 0} {bodies : Bodies} {source : Source} {reading : Reading} {r s : Read} {a b : ℕ} {k : Option ℕ}
    → Derives lookahead bodies source (form (type_specifier reading)) r a b k s → is_type_name (terminal_at source a) ≡ true → b ≡ a + 1
one_name (is_form (is_left x) e f) t = absurd (let n = stays is_type_name x t refl in let l = not_empty x refl in omega (arith, n, l))
one_name (is_form (is_right (is_left (is_node (is_mark u e f g) h i))) j k) t = e
one_name (is_form (is_right (is_right x)) e f) t = absurd (let n = stays is_type_name x t refl in let l = not_empty x refl in omega (arith, n, l))

name_alone : {lookahead : Lookahead → ℕ → Type 0} {bodies : Bodies} {source : Source} {reading : Reading} {r s : Read} {a b : ℕ} {k : Option ℕ}
    → Derives lookahead bodies source (form (type_specifier_seq reading)) r a b k s → is_type_name (terminal_at source a) ≡ true
    → colon_colon (terminal_at source (a + 1)) ≡ true → b ≡ a + 1
name_alone {source = source} (is_form (is_node (is_both x (is_both y z e) f) g h) i j) t u =
    let l = stays is_type_name x t refl in
    let m = one_name y (moved_test source is_type_name l t) in
    let n = stays colon_colon z (moved_test source colon_colon (m ∙ ap (λ (w : ℕ). w + 1) l) u) refl in
    n ∙ m ∙ ap (λ (w : ℕ). w + 1) l

parameter_alone : {lookahead : Lookahead → ℕ → Type 0} {bodies : Bodies} {source : Source} {reading : Reading} {r s : Read} {a b : ℕ} {k : Option ℕ}
    → Derives lookahead bodies source (form (parameter_declaration reading)) r a b k s → is_type_name (terminal_at source a) ≡ true
    → colon_colon (terminal_at source (a + 1)) ≡ true → b ≡ a + 1
parameter_alone {source = source} (is_form (is_node (is_both x y e) f g) h i) t u =
    let l = name_alone x t u in stays colon_colon y (moved_test source colon_colon l u) refl ∙ l

parameters_alone : {lookahead : Lookahead → ℕ → Type 0} {bodies : Bodies} {source : Source} {reading : Reading} {r s : Read} {a b : ℕ} {k : Option ℕ}
    → Derives lookahead bodies source (parameter_list reading) r a b k s → is_type_name (terminal_at source a) ≡ true
    → colon_colon (terminal_at source (a + 1)) ≡ true → b ≡ a + 1
parameters_alone {source = source} (is_both x y e) t u = let l = parameter_alone x t u in stays colon_colon y (moved_test source colon_colon l u) refl ∙ l

pub differ : (test other : Terminal → Bool) → passes (λ s. not (test s && other s)) ≡ true → (s : Terminal) → test s ≡ true → other s ≡ true → ⊥
differ test other e s t u = true≢false (back (and_from (test s) (other s) t u) ∙ not-true (test s && other s) (at_each (λ z. not (test z && other z)) e s))

no_parameters_there : {lookahead : Lookahead → ℕ → Type 0} {bodies : Bodies} {source : Source} {reading : Reading} {r s : Read} {a b : ℕ} {k : Option ℕ}
    → Derives lookahead bodies source (form (parameter_declaration_clause reading)) r a b k s → is_type_name (terminal_at source a) ≡ true
    → colon_colon (terminal_at source (a + 1)) ≡ true → close_paren (terminal_at source b) ≡ true → ⊥
no_parameters_there {source = source} {a = a} (is_form (is_node (is_left x) e f) g h) t u v =
    let n = stays is_type_name x t refl in let l = not_empty x refl in omega (arith, n, l)
no_parameters_there {source = source} {a = a} (is_form (is_node (is_right (is_left (is_where x i))) e f) g h) t u v =
    differ colon_colon close_paren refl (terminal_at source (a + 1)) u (subst (λ (z : ℕ). close_paren (terminal_at source z) ≡ true)
    (parameters_alone x t u) v)
no_parameters_there {source = source} {a = a} (is_form (is_node (is_right (is_right x)) e f) g h) t u v =
    differ is_type_name close_paren refl (terminal_at source a) t (subst (λ (z : ℕ). close_paren (terminal_at source z) ≡ true)
    (stays is_type_name x t refl) v)

pub begins_form : {lookahead : Lookahead → ℕ → Type 0} {bodies : Bodies} {source : Source} {f : Nonterminal} {r s : Read} {a b : ℕ} {k : Option ℕ}
    → Derives lookahead bodies source (form f) r a b k s → a < b → first_set f (terminal_at source a) ≡ true
begins_form {lookahead = lookahead} {source = source} {f = f} {a = a} x h = elim (cases_Bool (first_set f (terminal_at source a))) [
  | inl i ↦ i
  | inr i ↦ absurd (either_way lookahead a (λ seen w. true≢false (back (begins_so x h seen w) ∙ i)))
]

-- what stands in the parentheses of a declarator
record Held (lookahead : Lookahead → ℕ → Type 0) (bodies : Bodies) (source : Source) (reading : Reading) (naming : Naming) (a : ℕ) : Type 0 where
  before : Read
  after : Read
  end : ℕ
  marked : Option ℕ
  text : Derives lookahead bodies source (form (declarator reading naming)) before (a + 1) end marked after
  filled : a + 1 < end

less : (a b : ℕ) → nat_lt a b ≡ true → a < b
less a b e = grind (arith, e)

held : {lookahead : Lookahead → ℕ → Type 0} {bodies : Bodies} {source : Source} {reading : Reading} {naming : Naming} {r s : Read} {a b : ℕ} {k : Option ℕ}
    → Derives lookahead bodies source (parenthesized_declarator reading naming) r a b k s → Held lookahead bodies source reading naming a
held {lookahead = lookahead} {bodies = bodies} {source = source} {reading = reading} {naming = naming} {a = a} {b = b}
    (is_where (is_node (is_both {k = k0} (is_mark t0 e0 f0 g0) (is_both {r = r'} {s = s'} {m = n} {k = k'} x (is_word t1 e1 f1 g1) h1) h0) e f) i) =
    record {
      before = r';
      after = s';
      end = n;
      marked = k';
      text = subst (λ (z : ℕ). Derives lookahead bodies source (form (declarator reading naming)) r' z n k' s') e0 x;
      filled = let l = less (a + 2) b i in omega (arith, l, e1);
    }

-- what stands in those of parameters
record HeldToo (lookahead : Lookahead → ℕ → Type 0) (bodies : Bodies) (source : Source) (reading : Reading) (a : ℕ) : Type 0 where
  before : Read
  after : Read
  end : ℕ
  marked : Option ℕ
  text : Derives lookahead bodies source (form (parameter_declaration_clause reading)) before (a + 1) end marked after
  closed : close_paren (terminal_at source end) ≡ true

held_too : {lookahead : Lookahead → ℕ → Type 0} {bodies : Bodies} {source : Source} {reading : Reading} {r s : Read} {a b : ℕ} {k : Option ℕ}
    → Derives lookahead bodies source (function_parameters reading) r a b k s → HeldToo lookahead bodies source reading a
held_too {lookahead = lookahead} {bodies = bodies} {source = source} {reading = reading} {a = a} {b = b}
    (is_both (is_mark t0 e0 f0 g0) (is_both {r = r'} {s = s'} {m = n} {k = k'} x (is_both (is_word t1 e1 f1 g1) y h2) h1) h0) = record {
      before = r';
      after = s';
      end = n;
      marked = k';
      text = subst (λ (z : ℕ). Derives lookahead bodies source (form (parameter_declaration_clause reading)) r' z n k' s') e0 x;
      closed = t1;
    }

same_place_empty : {a b : ℕ} → a ≤ b → b ≤ a → b ≡ a
same_place_empty h i = omega (arith, h, i)

-- a declarator in parentheses is no parameters in parentheses
pub never_parameters : {lookahead : Lookahead → ℕ → Type 0} {bodies : Bodies} {source : Source} {reading : Reading} {naming : Naming}
    {r s r' s' : Read} {a b b' : ℕ} {k k' : Option ℕ}
    → need_not_name naming ≡ true → Derives lookahead bodies source (parenthesized_declarator reading naming) r a b k s
    → Derives lookahead bodies source (function_parameters reading) r' a b' k' s' → ⊥
never_parameters {source = source} {naming = naming} {a = a} e x y = by naming e (held x) (held_too y)
  where
    shut : (n : Naming) (s : Terminal) → first_of_declarator n s ≡ true → close_paren s ≡ true → ⊥
    shut named s = differ (first_of_declarator named) close_paren refl s
    shut unnamed s = differ (first_of_declarator unnamed) close_paren refl s
    shut either s = differ (first_of_declarator either) close_paren refl s
    shut in_block s = differ (first_of_declarator in_block) close_paren refl s

    by : {lookahead : Lookahead → ℕ → Type 0} {bodies : Bodies} {reading : Reading} (n : Naming) → need_not_name n ≡ true
        → Held lookahead bodies source reading n a → HeldToo lookahead bodies source reading a → ⊥
    by named e x y = true≢false (back e)
    by in_block e x y = true≢false (back e)
    by unnamed e x y = elim (cases_lt (a + 1) y.end) [
      | inl h ↦ differ (first_of_declarator unnamed) first_of_types refl (terminal_at source (a + 1)) (begins_form x.text x.filled) (begins_form y.text h)
      | inr h ↦ shut unnamed (terminal_at source (a + 1)) (begins_form x.text x.filled)
          (subst (λ (z : ℕ). close_paren (terminal_at source z) ≡ true) (same_place_empty (ends_behind y.text) h) y.closed)
    ]
    by either e x y = elim (cases_lt (a + 1) y.end) [
      | inl h ↦
          let t = implied (first_of_declarator either (terminal_at source (a + 1)) && first_of_types (terminal_at source (a + 1)))
          (is_type_name (terminal_at source (a + 1)))
          (at_each (λ s. implies (first_of_declarator either s && first_of_types s) (is_type_name s)) refl (terminal_at source (a + 1)))
          (and_from (first_of_declarator either (terminal_at source (a + 1))) (first_of_types (terminal_at source (a + 1)))
          (begins_form x.text x.filled) (begins_form y.text h)) in
          no_parameters_there y.text t (member_declared x.text x.filled t) y.closed
      | inr h ↦ shut either (terminal_at source (a + 1)) (begins_form x.text x.filled)
          (subst (λ (z : ℕ). close_paren (terminal_at source z) ≡ true) (same_place_empty (ends_behind y.text) h) y.closed)
    ]

open_at_name : {lookahead : Lookahead → ℕ → Type 0} {bodies : Bodies} {source : Source} {r s : Read} {a b : ℕ} {k : Option ℕ}
    → Derives lookahead bodies source declarator_id r a b k s → open_paren (terminal_at source a) ≡ true → ⊥
open_at_name x t = let n = stays open_paren x t refl in let l = not_empty x refl in omega (arith, n, l)

-- what a suffix begins with, where a head does
suffix_there : {lookahead : Lookahead → ℕ → Type 0} {bodies : Bodies} {source : Source} (reading : Reading) (naming : Naming) {r s r' s' : Read}
    {a b b' : ℕ} {k k' : Option ℕ}
    → need_not_name naming ≡ true → Derives lookahead bodies source (declarator_head reading naming) r a b k s
    → Derives lookahead bodies source (suffix reading naming) r' a b' k' s' → ⊥
suffix_there reading named e x y = true≢false (back e)
suffix_there reading in_block e x y = true≢false (back e)
suffix_there reading unnamed e x (is_left (is_wrap (is_both (is_mark t e0 f0 g0) z h) i j)) =
    let n = stays open_bracket x t refl in let l = not_empty x refl in omega (arith, n, l)
suffix_there reading unnamed e x (is_right (is_wrap y i j)) = never_parameters e x y
suffix_there reading either e x (is_left (is_wrap (is_both (is_mark t e0 f0 g0) z h) i j)) =
    let n = stays open_bracket x t refl in let l = not_empty x refl in omega (arith, n, l)
suffix_there reading either e (is_left x) (is_right (is_wrap (is_both (is_mark t e0 f0 g0) z h) i j)) = open_at_name x t
suffix_there reading either e (is_right x) (is_right (is_wrap y i j)) = never_parameters e x y

stays_there : {lookahead : Lookahead → ℕ → Type 0} {bodies : Bodies} {source : Source} {r s : Read} {a b : ℕ} {k : Option ℕ}
    → Derives lookahead bodies source omitted_id r a b k s → b ≡ a
stays_there (is_node (is_nothing e f g) h i) = e

-- where a head stands, a declarator without one is empty
pub omitted_empty : {lookahead : Lookahead → ℕ → Type 0} {bodies : Bodies} {source : Source} (reading : Reading) (naming : Naming) {r s r' : Read}
    {a b : ℕ} {k : Option ℕ}
    → need_not_name naming ≡ true → Derives lookahead bodies source (declarator_head reading naming) r a b k s
    → OnlyEmpty lookahead bodies source (omitted_id · many (suffix reading naming)) r' a
omitted_empty {lookahead = lookahead} {bodies = bodies} {source = source} reading naming {a = a} e x c j o (is_both y z f) h = by (stays_there y) h z
  where
    by : {m c' : ℕ} {u o' : Read} {l : Option ℕ} → m ≡ a → a < c' → Derives lookahead bodies source (many (suffix reading naming)) u m c' l o' → ⊥
    by i lt (is_last f' g' h') = omega (arith, i, lt, f')
    by i lt (is_more {r = u} {s = w} {m = m'} {k = l} y' z' f') =
        suffix_there reading naming e x (subst (λ (v : ℕ). Derives lookahead bodies source (suffix reading naming) u v m' l w) i y')

-- the texts of a head are not empty
pub head_filled : (reading : Reading) (naming : Naming) → rule_nullable (declarator_head reading naming) ≡ false
head_filled reading named = refl
head_filled reading unnamed = refl
head_filled reading either = refl
head_filled reading in_block = refl

-- a head with what follows it, and what follows no head
abbrev pub with_head : Reading → Naming → Rule
with_head reading naming = declarator_head reading naming · many (suffix reading naming)

abbrev pub without_head : Reading → Naming → Rule
without_head reading naming = omitted_id · many (suffix reading naming)

with_head_filled : (reading : Reading) (naming : Naming) → rule_nullable (with_head reading naming) ≡ false
with_head_filled reading named = refl
with_head_filled reading unnamed = refl
with_head_filled reading either = refl
with_head_filled reading in_block = refl

head_first : {lookahead : Lookahead → ℕ → Type 0} {bodies : Bodies} {source : Source} (reading : Reading) (naming : Naming) {r r' s : Read} {a b : ℕ}
    {k : Option ℕ}
    → need_not_name naming ≡ true → Derives lookahead bodies source (with_head reading naming) r a b k s
    → OnlyEmpty lookahead bodies source (without_head reading naming) r' a
head_first reading naming e (is_both x y f) = omitted_empty reading naming e x

-- the longest text with a head is that of both
pub with_head_long : {lookahead : Lookahead → ℕ → Type 0} {bodies : Bodies} {source : Source} (reading : Reading) (naming : Naming) {r s : Read}
    {a b : ℕ} {k : Option ℕ}
    → need_not_name naming ≡ true → LongestMatch lookahead bodies source (with_head reading naming) r a b k s
    → LongestMatch lookahead bodies source (with_head reading naming ∣ without_head reading naming) r a b k s
with_head_long reading naming e x = left_filled x (with_head_filled reading naming) (head_first reading naming e x.derives)

pub without_head_long : {lookahead : Lookahead → ℕ → Type 0} {bodies : Bodies} {source : Source} (reading : Reading) (naming : Naming) {r s : Read}
    {a b : ℕ} {k : Option ℕ}
    → NoDerivation lookahead bodies source (declarator_head reading naming) r a
    → LongestMatch lookahead bodies source (without_head reading naming) r a b k s
    → LongestMatch lookahead bodies source (with_head reading naming ∣ without_head reading naming) r a b k s
without_head_long reading naming x y = right (seq_none x) y

-- suffixes stand apart from heads, and from one another
pub head_apart : (reading : Reading) (naming : Naming) → apart (declarator_head reading naming) (many (suffix reading naming)) ≡ true
head_apart reading named = refl
head_apart reading unnamed = refl
head_apart reading either = refl
head_apart reading in_block = refl

pub omitted_apart : (reading : Reading) (naming : Naming) → apart omitted_id (many (suffix reading naming)) ≡ true
omitted_apart reading named = refl
omitted_apart reading unnamed = refl
omitted_apart reading either = refl
omitted_apart reading in_block = refl

pub suffixes_apart : (reading : Reading) (naming : Naming) → apart (suffix reading naming) (suffix reading naming) ≡ true
suffixes_apart whole named = refl
suffixes_apart whole unnamed = refl
suffixes_apart whole either = refl
suffixes_apart whole in_block = refl
suffixes_apart by_shape named = refl
suffixes_apart by_shape unnamed = refl
suffixes_apart by_shape either = refl
suffixes_apart by_shape in_block = refl
