-- What a member begins with: T( begins a constructor where parameters may stand behind it, and else a declarator.
use Rattle.std.proofs.Common.{◌≡◌, ℕ, ◌+◌, inl, inr, Bool, true, false, not, ◌&&◌, refl, sym as back, ◌∙◌, ap, subst, arith, Option}
use Rattle.std.proofs.lemmas.Bool.{not-true, and_from}
use Rattle.cpp_syntax.specs.declared.terminal.Terminal.{Terminal}
use Rattle.cpp_syntax.specs.Source.{Source, terminal_at}
use Rattle.cpp_syntax.specs.Terminals.{is_type_name, is_cv, void_word, colon_colon, open_bracket, open_paren, close_paren, tilde, virtual_word, explicit_word}
use Rattle.cpp_syntax.specs.Terminals.{ReadsAs}
use Rattle.cpp_syntax.specs.Rules.{whole, parameter_declaration_clause, function_qualifiers, constructor_declarator, plain, Rule, word, ◌·◌, ◌∣◌, form}
use Rattle.cpp_syntax.specs.Derivations.{Read, no_read, kept_apart, Derives, is_nothing, is_word, is_both, is_left, is_right, is_form, is_node, is_where}
use Rattle.cpp_syntax.specs.Lookahead.{lookahead}
use Rattle.cpp_syntax.specs.FirstSets.{rule_nullable, first_of_types}
use Rattle.cpp_syntax.specs.Parsed.{NoneOf}
use Rattle.cpp_syntax.specs.declared.terminal.Terminal.TheVariants as terminal
use Rattle.cpp_syntax.proofs.SingleTerminals.{passed, refused}
use Rattle.cpp_syntax.proofs.TerminalTables.{at_each, implies, implied}
use Rattle.cpp_syntax.proofs.DisjointFirstSets.{never_both}
use Rattle.cpp_syntax.proofs.FirstTerminals.{ends_behind}
use Rattle.cpp_syntax.proofs.IndependentDerivations.{free_none}
use Rattle.cpp_syntax.proofs.DeclaratorForms.{unlike, differ, stays}
use Rattle.cpp_syntax.proofs.LongestMatches.{seq_none, seq_ends, neither, taken, mark_long, node_long, word_none, mark_none, node_none, wrap_none, where_none}
use Rattle.cpp_syntax.proofs.LongestMatches.{form_none}
use Rattle.cpp_parse_expr.proofs.ReaderAnswers.{none_unlike, none_second_mark}
use Rattle.cpp_parse_expr.proofs.QualifiedNames.{none_qualified}
use Rattle.cpp_parse.specs.Alternatives.{optional_attribute, types, named_declarator, single, initialized, listed, with_function_body, single_declaration}
use Rattle.cpp_parse.specs.Alternatives.{initialized_declaration, listed_declaration, member_function, constructor_declared, constructor_defined}
use Rattle.cpp_parse.specs.Alternatives.{destructor_declared, destructor_defined}
use Rattle.cpp_parse.specs.Answers.{Reaches, ParametersSeen, IsConstructor, IsDestructor}
use Rattle.cpp_parse.proofs.LongestAlone.{none_reached, none_skipped, none_marked}
use Rattle.cpp_parse.proofs.DefinitionKinds.{type_alone, colons_no_cv}

-- What follows parameters' (.
abbrev pub parameters_and : Rule
parameters_and = form (parameter_declaration_clause whole) · word close_paren · form function_qualifiers

-- T:: is a type alone, in parameters behind which no ) stands
pub no_parameters_at : (s : Source) (a : ℕ) → is_type_name (terminal_at s a) ≡ true → colon_colon (terminal_at s (a + 1)) ≡ true → NoneOf s parameters_and a
no_parameters_at s a t u b k o (is_both (is_form (is_node (is_left (is_word v e f g)) h i) j l) y z) = differ is_type_name void_word refl (terminal_at s a) t v
no_parameters_at s a t u b k o (is_both (is_form (is_node (is_right (is_right (is_nothing e f g))) h i) j l) (is_both (is_word v e' f' g') y z) w) =
    differ is_type_name close_paren refl (terminal_at s a) t (subst (λ (n : ℕ). close_paren (terminal_at s n) ≡ true) e v)
no_parameters_at s a t u b k o (is_both (is_form (is_node (is_right (is_left (is_where
    (is_both {m = m2} (is_form (is_node (is_both {s = s1} {m = m1} {k = k1} p d e1) e2 e3) e4 e5) y e6) e7))) e8 e9) e10 e11)
    (is_both {m = m4} (is_word v e' f' g') y' z) w) =
    let at1 : m1 ≡ a + 1 = elim ((type_alone s a t (colons_no_cv (terminal_at s (a + 1)) u)).long.longest m1 k1 s1 p) [
      | inl h ↦ let lt =
          h.0 in let n = ends_behind p in let same : m1 ≡ a = omega (arith, lt, n) in absurd
          (never_both (lookahead s) s types (word is_type_name) m1 refl h.1 (λ seen w. subst (λ (n : ℕ). is_type_name (terminal_at s n) ≡ true)
          (back same) t))
      | inr h ↦ h.0
    ] in
    let at2 : m2 ≡ m1 = stays colon_colon d (subst (λ (n : ℕ). colon_colon (terminal_at s n) ≡ true) (back at1) u) refl in
    let at3 = stays colon_colon y (subst (λ (n : ℕ). colon_colon (terminal_at s n) ≡ true) (back (at2 ∙ at1)) u) refl in
    differ colon_colon close_paren refl (terminal_at s (a + 1)) u (subst (λ (n : ℕ). close_paren (terminal_at s n) ≡ true) (at3 ∙ at2 ∙ at1) v)

-- where an attribute may stand, and a rule behind it has no text
pub unattributed : {s : Source} {q : Rule} {a b : ℕ} → Reaches s optional_attribute a b → NoneOf s q b → unlike open_bracket q ≡ true
    → rule_nullable q ≡ false → NoneOf s q a
unattributed {s = s} {q = q} {a = a} {b = b} x n e f = by x.long.derives
  where
    by : {k : Option ℕ} {o : Read} → Derives (lookahead s) kept_apart s optional_attribute no_read a b k o → NoneOf s q a
    by (is_left (is_node (is_both (is_word t g h i) y j) l m)) = none_unlike open_bracket t e f
    by (is_right (is_nothing g h i)) = subst (λ (m : ℕ). NoneOf s q m) g n

-- No declarator that names something.

pub none_held : {s : Source} {a : ℕ} → open_paren (terminal_at s a) ≡ true → NoneOf s named_declarator (a + 1) → NoneOf s named_declarator a
none_held t n =
    form_none (neither (none_unlike open_paren t refl refl) (neither (none_unlike open_paren t refl refl)
    (form_none (seq_none (neither (none_unlike open_paren t refl refl) (where_none (node_none (none_second_mark (seq_none n)))))))))

pub none_at_type : {s : Source} {a : ℕ} → is_type_name (terminal_at s a) ≡ true → colon_colon (terminal_at s (a + 1)) ≡ false → NoneOf s named_declarator a
none_at_type t f =
    form_none (neither (none_unlike is_type_name t refl refl) (neither (none_unlike is_type_name t refl refl)
    (form_none (seq_none (neither (neither (none_unlike is_type_name t refl refl) (node_none (none_qualified (λ r. seq_none (word_none f)))))
    (none_unlike is_type_name t refl refl))))))

abbrev pub begins_other_types : Terminal → Bool
begins_other_types z = first_of_types z && not (is_type_name z)

pub none_at_types : {s : Source} {a : ℕ} → first_of_types (terminal_at s a) ≡ true → is_type_name (terminal_at s a) ≡ false → NoneOf s named_declarator a
none_at_types {s = s} {a = a} t f =
    none_unlike begins_other_types (and_from (first_of_types (terminal_at s a)) (not (is_type_name (terminal_at s a))) t (ap not f)) refl refl

abbrev pub begins_no_parameters : Terminal → Bool
begins_no_parameters z = not (first_of_types z) && not (close_paren z)

pub none_of_parameters : {s : Source} {a : ℕ} → first_of_types (terminal_at s a) ≡ false → close_paren (terminal_at s a) ≡ false → NoneOf s parameters_and a
none_of_parameters {s = s} {a = a} f g =
    none_unlike begins_no_parameters (and_from (not (first_of_types (terminal_at s a))) (not (close_paren (terminal_at s a))) (ap not f) (ap not g))
    refl refl

-- A member that can be no other than a constructor.

abbrev pub typed_members : Rule
typed_members = single_declaration ∣ initialized_declaration ∣ listed_declaration ∣ member_function

open_no_cv : (z : Terminal) → open_paren z ≡ true → is_cv z ≡ false
open_no_cv z t = not-true (is_cv z) (implied (open_paren z) (not (is_cv z)) (at_each (λ y. implies (open_paren y) (not (is_cv y))) refl z) t)

pub typed_none : {s : Source} {a b : ℕ} → Reaches s optional_attribute a b → is_type_name (terminal_at s b) ≡ true
    → open_paren (terminal_at s (b + 1)) ≡ true → NoneOf s named_declarator (b + 1 + 1) → NoneOf s typed_members a
typed_none {s = s} {b = b} x t u n =
    let y = type_alone s b t (open_no_cv (terminal_at s (b + 1)) u) in
    let d = none_held u n in
    let one : NoneOf s single b = none_reached y (seq_none (form_none (node_none (seq_none d)))) refl refl refl in
    let with_value : NoneOf s initialized b = none_reached y (seq_none (form_none (node_none (seq_none d)))) refl refl refl in
    let several : NoneOf s listed b = none_reached y (seq_none (form_none (node_none (seq_none d)))) refl refl refl in
    let body : NoneOf s with_function_body b = none_reached y (seq_none d) refl refl refl in
    neither (node_none (none_marked (none_reached x (none_skipped (none_unlike is_type_name t refl refl) one refl refl) refl refl refl)))
    (neither (node_none (none_marked (unattributed x with_value refl refl)))
    (neither (node_none (none_marked (unattributed x several refl refl)))
    (seq_none (node_none (none_marked (none_reached x (none_skipped (none_unlike is_type_name t refl refl)
    (none_skipped (none_unlike is_type_name t refl refl) body refl refl) refl refl) refl refl refl))))))

pub explicit_none : {s : Source} {a b : ℕ} → Reaches s optional_attribute a b → explicit_word (terminal_at s b) ≡ true → NoneOf s typed_members a
explicit_none x t =
    neither (node_none (none_marked (none_reached x (none_unlike explicit_word t refl refl) refl refl refl)))
    (neither (unattributed x (none_unlike explicit_word t refl refl) refl refl)
    (neither (unattributed x (none_unlike explicit_word t refl refl) refl refl)
    (seq_none (node_none (none_marked (none_reached x (none_unlike explicit_word t refl refl) refl refl refl))))))

abbrev pub constructors : Rule
constructors = constructor_declared ∣ constructor_defined

-- no constructor is there where no declarator of one is
pub constructors_none : {s : Source} {a b : ℕ} → Reaches s optional_attribute a b → explicit_word (terminal_at s b) ≡ false
    → NoneOf s (form (constructor_declarator plain)) b → NoneOf s constructors a
constructors_none x f n =
    neither (seq_none (node_none (none_marked (none_reached x (none_skipped (node_none (mark_none f)) n refl refl) refl refl refl))))
    (seq_none (node_none (none_marked (none_reached x (none_skipped (node_none (mark_none f)) (seq_none n) refl refl) refl refl refl))))

-- the name of a type, without ( and parameters behind it
pub no_type_name : {s : Source} {a : ℕ} → is_type_name (terminal_at s a) ≡ false → NoneOf s (form (constructor_declarator plain)) a
no_type_name f = form_none (seq_none (node_none (mark_none f)))

pub no_open : {s : Source} {a : ℕ} → is_type_name (terminal_at s a) ≡ true → open_paren (terminal_at s (a + 1)) ≡ false
    → NoneOf s (form (constructor_declarator plain)) a
no_open t f = form_none (seq_ends (node_long (mark_long t)) (wrap_none (seq_none (mark_none f))) refl refl)

pub no_parameters_open : {s : Source} {a : ℕ} → is_type_name (terminal_at s a) ≡ true → NoneOf s parameters_and (a + 1 + 1)
    → NoneOf s (form (constructor_declarator plain)) a
no_parameters_open t n = form_none (seq_ends (node_long (mark_long t)) (wrap_none (none_second_mark (free_none refl n _))) refl refl)

-- A member that can be no other than a destructor.

pub tilde_none : {s : Source} {a : ℕ} → tilde (terminal_at s a) ≡ true
    → NoneOf s (single_declaration ∣ initialized_declaration ∣ listed_declaration ∣ member_function ∣ constructors) a
tilde_none t = none_unlike tilde t refl refl

pub virtual_none : {s : Source} {a : ℕ} → virtual_word (terminal_at s a) ≡ true → tilde (terminal_at s (a + 1)) ≡ true
    → NoneOf s (single_declaration ∣ initialized_declaration ∣ listed_declaration ∣ member_function ∣ constructors) a
virtual_none t u =
    neither (node_none (none_marked (none_skipped (none_unlike virtual_word t refl refl)
    (seq_ends (taken (node_long (mark_long t)) refl) (none_unlike tilde u refl refl) refl refl) refl refl)))
    (neither (none_unlike virtual_word t refl refl)
    (neither (none_unlike virtual_word t refl refl)
    (neither (seq_none (node_none (none_marked (none_skipped (none_unlike virtual_word t refl refl)
    (seq_ends (taken (node_long (mark_long t)) refl) (none_unlike tilde u refl refl) refl refl) refl refl))))
    (none_unlike virtual_word t refl refl))))

pub no_tilde : {s : Source} {a : ℕ} → virtual_word (terminal_at s a) ≡ true → tilde (terminal_at s (a + 1)) ≡ false
    → NoneOf s (destructor_declared ∣ destructor_defined) a
no_tilde t f =
    neither (seq_none (node_none (none_marked (seq_ends (taken (node_long (mark_long t)) refl)
    (seq_none (form_none (seq_none (node_none (seq_none (word_none f)))))) refl refl))))
    (seq_none (node_none (none_marked (seq_ends (taken (node_long (mark_long t)) refl)
    (seq_none (form_none (seq_none (node_none (seq_none (word_none f)))))) refl refl))))

pub neither_word : {s : Source} {a : ℕ} → virtual_word (terminal_at s a) ≡ false → tilde (terminal_at s a) ≡ false
    → NoneOf s (destructor_declared ∣ destructor_defined) a
neither_word e f =
    neither (seq_none (node_none (none_marked (none_skipped (node_none (mark_none e))
    (seq_none (form_none (seq_none (node_none (seq_none (word_none f)))))) refl refl))))
    (seq_none (node_none (none_marked (none_skipped (node_none (mark_none e)) (seq_none (form_none (seq_none (node_none (seq_none (word_none f))))))
    refl refl))))

-- Members that begin with their type.

pub single_none : {s : Source} {a : ℕ} → first_of_types (terminal_at s a) ≡ true → NoneOf s single a → NoneOf s single_declaration a
single_none t n =
    node_none (none_marked (none_skipped (none_unlike first_of_types t refl refl) (none_skipped (none_unlike first_of_types t refl refl) n refl refl)
    refl refl))

pub function_none : {s : Source} {a : ℕ} → first_of_types (terminal_at s a) ≡ true → NoneOf s with_function_body a → NoneOf s member_function a
function_none t n =
    seq_none (node_none (none_marked (none_skipped (none_unlike first_of_types t refl refl)
    (none_skipped (none_unlike first_of_types t refl refl) (none_skipped (none_unlike first_of_types t refl refl) n refl refl) refl refl) refl refl)))

pub initialized_none : {s : Source} {a : ℕ} → NoneOf s initialized a → NoneOf s initialized_declaration a
initialized_none n = node_none (none_marked n)

pub listed_none : {s : Source} {a : ℕ} → NoneOf s listed a → NoneOf s listed_declaration a
listed_none n = node_none (none_marked n)

-- What is seen where parameters may begin, by the answer of the last test.

pub name_seen : (s : Source) (a : ℕ) (r : Bool) → is_type_name (terminal_at s a) ≡ true
    → (r ≡ true → ReadsAs (terminal_at s (a + 1)) terminal.ColonColon) → (r ≡ false → ReadsAs (terminal_at s (a + 1)) terminal.ColonColon → ⊥)
    → ParametersSeen s a (not r)
name_seen s a true t f g = no_parameters_at s a t (passed colon_colon terminal.ColonColon refl _ (f refl))
name_seen s a false t f g = none_at_type t (refused colon_colon terminal.ColonColon refl _ (g refl))

pub types_seen : (s : Source) (a : ℕ) (r : Bool) → is_type_name (terminal_at s a) ≡ false → close_paren (terminal_at s a) ≡ false
    → r ≡ first_of_types (terminal_at s a) → ParametersSeen s a r
types_seen s a true f g e = none_at_types (back e) f
types_seen s a false f g e = none_of_parameters (back e) g

pub constructor_seen : (s : Source) (a b : ℕ) (r : Bool) → Reaches s optional_attribute a b → explicit_word (terminal_at s b) ≡ false
    → is_type_name (terminal_at s b) ≡ true → open_paren (terminal_at s (b + 1)) ≡ true → ParametersSeen s (b + 1 + 1) r → IsConstructor s a r
constructor_seen s a b true x e t u n = typed_none x t u n
constructor_seen s a b false x e t u n = constructors_none x e (no_parameters_open t n)

pub virtual_seen : (s : Source) (a : ℕ) (r : Bool) → virtual_word (terminal_at s a) ≡ true
    → (r ≡ true → ReadsAs (terminal_at s (a + 1)) terminal.Tilde) → (r ≡ false → ReadsAs (terminal_at s (a + 1)) terminal.Tilde → ⊥)
    → IsDestructor s a r
virtual_seen s a true t f g = virtual_none t (passed tilde terminal.Tilde refl _ (f refl))
virtual_seen s a false t f g = no_tilde t (refused tilde terminal.Tilde refl _ (g refl))

pub tilde_seen : (s : Source) (a : ℕ) (r : Bool) → virtual_word (terminal_at s a) ≡ false → (r ≡ true → ReadsAs (terminal_at s a) terminal.Tilde)
    → (r ≡ false → ReadsAs (terminal_at s a) terminal.Tilde → ⊥) → IsDestructor s a r
tilde_seen s a true e f g = tilde_none (passed tilde terminal.Tilde refl _ (f refl))
tilde_seen s a false e f g = neither_word e (refused tilde terminal.Tilde refl _ (g refl))

-- what begins no type begins no member without what may stand before the type

pub untyped_initialized : {s : Source} {a : ℕ} → first_of_types (terminal_at s a) ≡ false → NoneOf s initialized_declaration a
untyped_initialized f = none_unlike (λ z. not (first_of_types z)) (ap not f) refl refl

pub untyped_listed : {s : Source} {a : ℕ} → first_of_types (terminal_at s a) ≡ false → NoneOf s listed_declaration a
untyped_listed f = none_unlike (λ z. not (first_of_types z)) (ap not f) refl refl
