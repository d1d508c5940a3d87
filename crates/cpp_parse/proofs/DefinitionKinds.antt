-- What a simple declaration can be: T:: begins a constructor or a destructor, and nothing else.
use Rattle.std.proofs.Common.{◌≡◌, ℕ, ◌+◌, ◌<◌, ◌≤◌, Bool, true, false, not, refl, sym as back, subst, arith, length, Option}
use Rattle.std.proofs.lemmas.Bool.{not-true}
use Rattle.cpp_syntax.specs.declared.terminal.Terminal.{Terminal}
use Rattle.cpp_syntax.specs.Source.{Source, terminal_at}
use Rattle.cpp_syntax.specs.Terminals.{is_type_name, is_cv, is_specifier, is_string, inline_word, extern_word, colon_colon, open_brace, semicolon}
use Rattle.cpp_syntax.specs.Terminals.{is_class_key, tilde, ReadsAs}
use Rattle.cpp_syntax.specs.Rules.{named, declaration_head, simple_declaration, constructor_declarator, destructor_declarator, init_declarator, qualified}
use Rattle.cpp_syntax.specs.Rules.{Nonterminal, Rule, word, mark, ◌·◌, form}
use Rattle.cpp_syntax.specs.Grammar.{production, list}
use Rattle.cpp_syntax.specs.Lookahead.{lookahead}
use Rattle.cpp_syntax.specs.Derivations.{Read, Derives, kept_apart, no_read, is_nothing, is_word, is_mark, is_both, is_left, is_right, is_node}
use Rattle.cpp_syntax.specs.Longest.{is_free}
use Rattle.cpp_syntax.specs.Parsed.{NoneOf}
use Rattle.cpp_syntax.proofs.DisjointFirstSets.{apart}
use Rattle.cpp_syntax.specs.declared.terminal.Terminal.TheVariants as terminal
use Rattle.cpp_syntax.proofs.SingleTerminals.{passed, refused, passed_not}
use Rattle.cpp_syntax.proofs.TerminalTables.{at_each, implies, implied}
use Rattle.cpp_syntax.proofs.IndependentDerivations.{free_long}
use Rattle.cpp_syntax.proofs.LongestMatches.{seq, seq_none, seq_ends, neither, left, right, left_out, taken, form_long, form_none, node_long, node_none}
use Rattle.cpp_syntax.proofs.LongestMatches.{mark_long, mark_name_long, mark_none, word_none, many_begins, many_more, many_ends}
use Rattle.cpp_syntax.proofs.Readers.{none_seq, none_node, none_form}
use Rattle.cpp_syntax.proofs.ReaderLoops.{within}
use Rattle.cpp_parse_expr.proofs.ReaderAnswers.{none_unlike, none_second, none_second_mark}
use Rattle.cpp_parse.specs.Alternatives.{specifiers, optional_attribute, optional_inline, types, named_declarator, object_declaration, function_definition}
use Rattle.cpp_parse.specs.Alternatives.{constructor_definition, destructor_definition, class_declaration, class_specifier, linkage_specification}
use Rattle.cpp_parse.specs.Alternatives.{linkage_block}
use Rattle.cpp_parse.specs.Answers.{Reaches, NamedDefinition, OneDefinition, LinkageSeen}
use Rattle.cpp_parse.specs.declared.functions.Definition.{Definition}
use Rattle.cpp_parse.specs.declared.functions.Definition.TheVariants as definition
use Rattle.cpp_parse.proofs.LongestAlone.{none_reached, none_skipped, none_marked, many_none}

-- The name of a type, with no const and volatile behind it, is a type.
pub type_alone : (s : Source) (a : ℕ) → is_type_name (terminal_at s a) ≡ true → is_cv (terminal_at s (a + 1)) ≡ false → Reaches s types a (a + 1)
type_alone s a t u = record {
  marked = _;
  got = _;
  long = form_long (node_long (seq (many_none (none_unlike is_type_name t refl refl)) (seq
      (form_long (right (none_unlike is_type_name t refl refl) (left (node_long (mark_long t)) (none_unlike is_type_name t refl refl))))
      (many_none (node_none (mark_none u))) refl) refl));
  inside = let i = within s a is_type_name refl t in omega (arith, i);
}

pub reach_seq : {s : Source} {p q : Rule} {a m b : ℕ} → Reaches s p a m → Reaches s q m b → is_free q ≡ true → apart p q ≡ true → Reaches s (p · q) a b
reach_seq x y f d = record { marked = _; got = _; long = seq x.long (free_long f y.long x.got) d; inside = y.inside }

pub reach_form : {s : Source} {f : Nonterminal} {a b : ℕ} → Reaches s (production f) a b → Reaches s (form f) a b
reach_form x = record { marked = _; got = _; long = form_long x.long; inside = x.inside }

inline_specifies : (z : Terminal) → inline_word z ≡ true → is_specifier z ≡ true
inline_specifies z t = implied (inline_word z) (is_specifier z) (at_each (λ y. implies (inline_word y) (is_specifier y)) refl z) t

-- inline or nothing before the name of a type is all that there is of specifiers
specified : (s : Source) (a b : ℕ) → Reaches s optional_inline a b → is_type_name (terminal_at s b) ≡ true → Reaches s specifiers a b
specified s a b x t = by ((x.long).derives)
  where
    by : {k : Option ℕ} {o : Rattle.cpp_syntax.specs.Derivations.Read} → Derives (lookahead s) kept_apart s optional_inline no_read a b k o
        → Reaches s specifiers a b
    by (is_left (is_node (is_mark u e f g) h i)) = subst (λ (n : ℕ). Reaches s specifiers a n) (back e) (record {
      marked = _;
      got = _;
      long =
          many_ends (many_more many_begins (node_long (mark_long (inline_specifies (terminal_at s a) u))) refl refl)
          (none_unlike is_type_name (subst (λ (n : ℕ). is_type_name (terminal_at s n) ≡ true) e t) refl refl);
      inside = let i = x.inside in omega (arith, e, i);
    })
    by (is_right (is_nothing e f g)) = subst (λ (n : ℕ). Reaches s specifiers a n) (back e) (record {
      marked = _;
      got = _;
      long = many_none (none_unlike is_type_name (subst (λ (n : ℕ). is_type_name (terminal_at s n) ≡ true) e t) refl refl);
      inside = let i = x.inside in omega (arith, e, i);
    })

pub colons_no_cv : (z : Terminal) → colon_colon z ≡ true → is_cv z ≡ false
colons_no_cv z t = not-true (is_cv z) (implied (colon_colon z) (not (is_cv z)) (at_each (λ y. implies (colon_colon y) (not (is_cv y))) refl z) t)

-- T:: behind an attribute and inline is the head of a declaration, without its declarator
head_reaches : (s : Source) (a b c : ℕ) → Reaches s optional_attribute a b → Reaches s optional_inline b c → is_type_name (terminal_at s c) ≡ true
    → colon_colon (terminal_at s (c + 1)) ≡ true → Reaches s (form declaration_head) a (c + 1)
head_reaches s a b c x y t u =
    reach_form (reach_seq x (reach_seq (specified s b c y t) (type_alone s c t (colons_no_cv (terminal_at s (c + 1)) u)) refl refl) refl refl)

no_object : (s : Source) (a b c : ℕ) → Reaches s optional_attribute a b → Reaches s optional_inline b c → is_type_name (terminal_at s c) ≡ true
    → colon_colon (terminal_at s (c + 1)) ≡ true → NoneOf s object_declaration a
no_object s a b c x y t u = none_node (none_marked (none_reached (head_reaches s a b c x y t u) (none_unlike colon_colon u refl refl) refl refl refl))

no_function : (s : Source) (a b c : ℕ) → Reaches s optional_attribute a b → Reaches s optional_inline b c → is_type_name (terminal_at s c) ≡ true
    → colon_colon (terminal_at s (c + 1)) ≡ true → NoneOf s function_definition a
no_function s a b c x y t u = none_node (none_marked (none_reached (head_reaches s a b c x y t u) (none_unlike colon_colon u refl refl) refl refl refl))

no_constructor : (s : Source) (a b c : ℕ) → Reaches s optional_attribute a b → Reaches s optional_inline b c
    → NoneOf s (form (constructor_declarator qualified)) c → NoneOf s constructor_definition a
no_constructor s a b c x y n = none_node (none_marked (none_reached x (none_reached y (none_seq n) refl refl refl) refl refl refl))

no_destructor : (s : Source) (a b c : ℕ) → Reaches s optional_attribute a b → Reaches s optional_inline b c
    → NoneOf s (form (destructor_declarator qualified)) c → NoneOf s destructor_definition a
no_destructor s a b c x y n = none_node (none_marked (none_reached x (none_reached y (none_seq n) refl refl refl) refl refl refl))

pub definition_by : (s : Source) (a b c : ℕ) (d : Definition) → Reaches s optional_attribute a b → Reaches s optional_inline b c
    → NamedDefinition s c d → OneDefinition s a d
definition_by s a b c definition.Ordinary x y h = (no_constructor s a b c x y h.0, no_destructor s a b c x y h.1)
definition_by s a b c definition.OfConstructor x y h = (no_object s a b c x y h.0 h.1, no_function s a b c x y h.0 h.1, no_destructor s a b c x y h.2)
definition_by s a b c definition.OfDestructor x y h = (no_object s a b c x y h.0 h.1, no_function s a b c x y h.0 h.1, no_constructor s a b c x y h.2)

-- A declarator before { declares no objects.
pub no_objects : {s : Source} {a m : ℕ} → Reaches s named_declarator a m → open_brace (terminal_at s m) ≡ true
    → NoneOf s (list (form (init_declarator named)) · word semicolon) a
no_objects x t = seq_ends
    (seq (form_long (node_long (seq x.long (seq mark_name_long (left_out (none_unlike open_brace t refl refl)) refl) refl)))
    (many_none (none_unlike open_brace t refl refl)) refl)
    (none_unlike open_brace t refl refl) refl refl

-- A class with ; behind its name is declared alone, and any other is not.
pub no_specifier : {s : Source} {a : ℕ} → is_class_key (terminal_at s a) ≡ true → semicolon (terminal_at s (a + 1 + 1)) ≡ true → NoneOf s class_specifier a
no_specifier t u = none_node (seq_ends (node_long (mark_long t)) (none_second_mark (none_unlike semicolon u refl refl)) refl refl)

pub no_declared_class : {s : Source} {a : ℕ} → is_class_key (terminal_at s a) ≡ true → semicolon (terminal_at s (a + 1 + 1)) ≡ false
    → NoneOf s class_declaration a
no_declared_class t u = none_node (seq_ends (node_long (mark_long t)) (none_second_mark (word_none u)) refl refl)

-- extern and a string begin no simple declaration.

pub no_block : {s : Source} {a : ℕ} → open_brace (terminal_at s (a + 1 + 1)) ≡ false → NoneOf s linkage_block a
no_block u = none_node (none_second (none_second_mark (seq_none (word_none u))))

pub no_linked : {s : Source} {a : ℕ} → open_brace (terminal_at s (a + 1 + 1)) ≡ true → NoneOf s linkage_specification a
no_linked u = none_node (none_second (none_second_mark (none_unlike open_brace u refl refl)))

extern_specifies : (z : Terminal) → extern_word z ≡ true → is_specifier z ≡ true
extern_specifies z t = implied (extern_word z) (is_specifier z) (at_each (λ y. implies (extern_word y) (is_specifier y)) refl z) t

no_head : (s : Source) (a : ℕ) → extern_word (terminal_at s a) ≡ true → is_string (terminal_at s (a + 1)) ≡ true → NoneOf s (form declaration_head) a
no_head s a t u = none_form (none_skipped (none_unlike extern_word t refl refl)
    (seq_ends (many_ends (many_more many_begins (node_long (mark_long (extern_specifies (terminal_at s a) t))) refl refl)
    (none_unlike is_string u refl refl)) (none_unlike is_string u refl refl) refl refl)
    refl refl)

pub no_simple : (s : Source) (a : ℕ) → extern_word (terminal_at s a) ≡ true → is_string (terminal_at s (a + 1)) ≡ true → NoneOf s (form simple_declaration) a
no_simple s a t u =
    none_form (neither (none_node (none_marked (none_seq (no_head s a t u)))) (neither (none_node (none_marked (none_seq (no_head s a t u))))
    (none_unlike extern_word t refl refl)))

pub no_linkage : {s : Source} {q : Rule} {a : ℕ} → NoneOf s (word extern_word · mark is_string) a → NoneOf s (word extern_word · mark is_string · q) a
no_linkage x b k t (is_both u (is_both v w e) f) = x _ _ _ (is_both u v refl)

pub linkage_seen : (s : Source) (a : ℕ) (r : Bool) → extern_word (terminal_at s a) ≡ true
    → (r ≡ true → ReadsAs (terminal_at s (a + 1)) terminal.String) → (r ≡ false → ReadsAs (terminal_at s (a + 1)) terminal.String → ⊥)
    → LinkageSeen s a r
linkage_seen s a true t f g = (t, passed is_string terminal.String refl _ (f refl))
linkage_seen s a false t f g = none_second (mark_none (refused is_string terminal.String refl _ (g refl)))

-- inline, or not
pub inline_taken : {s : Source} {a : ℕ} → inline_word (terminal_at s a) ≡ true → a < length s.terminals → Reaches s optional_inline a (a + 1)
inline_taken t i = record { marked = _; got = _; long = taken (node_long (mark_long t)) refl; inside = omega (arith, i) }

pub inline_left_out : {s : Source} {a : ℕ} → inline_word (terminal_at s a) ≡ false → a ≤ length s.terminals → Reaches s optional_inline a a
inline_left_out f h = record { marked = _; got = _; long = left_out (node_none (mark_none f)); inside = h }

-- The declarators that T, :: and what stands behind them begin.

pub no_name : {s : Source} {a : ℕ} → is_type_name (terminal_at s a) ≡ false → NamedDefinition s a definition.Ordinary
no_name f = (form_none (seq_none (node_none (seq_none (node_none (mark_none f))))), form_none (seq_none (node_none (seq_none (node_none (mark_none f))))))

pub no_colons : {s : Source} {a : ℕ} → is_type_name (terminal_at s a) ≡ true → colon_colon (terminal_at s (a + 1)) ≡ false
    → NamedDefinition s a definition.Ordinary
no_colons t f = (
  form_none (seq_none (node_none (seq_ends (node_long (mark_long t)) (seq_none (word_none f)) refl refl))),
  form_none (seq_none (node_none (seq_ends (node_long (mark_long t)) (seq_none (word_none f)) refl refl))),
)

no_second_name : {s : Source} {a : ℕ} → is_type_name (terminal_at s a) ≡ true → is_type_name (terminal_at s (a + 1 + 1)) ≡ false
    → NoneOf s (form (constructor_declarator qualified)) a
no_second_name t f = form_none (seq_none (node_none (seq_ends (node_long (mark_long t)) (none_second (mark_none f)) refl refl)))

no_tilde_there : {s : Source} {a : ℕ} → is_type_name (terminal_at s a) ≡ true → tilde (terminal_at s (a + 1 + 1)) ≡ false
    → NoneOf s (form (destructor_declarator qualified)) a
no_tilde_there t f = form_none (seq_none (node_none (seq_ends (node_long (mark_long t)) (none_second (seq_none (word_none f))) refl refl)))

pub a_destructor : {s : Source} {a : ℕ} → is_type_name (terminal_at s a) ≡ true → colon_colon (terminal_at s (a + 1)) ≡ true
    → ReadsAs (terminal_at s (a + 1 + 1)) terminal.Tilde → NamedDefinition s a definition.OfDestructor
a_destructor t u e = (t, u, no_second_name t (passed_not is_type_name terminal.Tilde refl _ e))

pub a_constructor : {s : Source} {a : ℕ} → is_type_name (terminal_at s a) ≡ true → colon_colon (terminal_at s (a + 1)) ≡ true
    → ReadsAs (terminal_at s (a + 1 + 1)) terminal.TypeName → NamedDefinition s a definition.OfConstructor
a_constructor t u e = (t, u, no_tilde_there t (passed_not tilde terminal.TypeName refl _ e))

pub no_special : {s : Source} {a : ℕ} → is_type_name (terminal_at s a) ≡ true → is_type_name (terminal_at s (a + 1 + 1)) ≡ false
    → tilde (terminal_at s (a + 1 + 1)) ≡ false → NamedDefinition s a definition.Ordinary
no_special t f g = (no_second_name t f, no_tilde_there t g)
