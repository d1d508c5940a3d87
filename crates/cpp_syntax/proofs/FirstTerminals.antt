-- Where texts end, and what they begin with. Below, x is a text of p from a to b.
--
-- ends_behind x      : a ≤ b
-- empty_or x         : a < b, or the rule may be empty
-- not_empty x refl   : a < b                        where rule_nullable p ≡ false
-- begins_so x h      : StartsRule lookahead source p a   where h : a < b
use Rattle.std.proofs.Common.{◌≡◌, ℕ, ◌<◌, ◌≤◌, ◌⊎◌, inl, inr, Bool, true, false, ◌&&◌, refl, sym as back, ◌∙◌, subst, arith, Option, le_trans, true≢false}
use Rattle.std.proofs.lemmas.Bool.{cases_lt, or_left, or_right, and_from}
use Rattle.cpp_syntax.specs.Source.{Source, terminal_at}
use Rattle.cpp_syntax.specs.Terminals.{open_brace}
use Rattle.cpp_syntax.specs.Rules.{compound_statement, Lookahead, a_cast, a_type_in_parentheses, parameters, a_declaration, Rule, many, form}
use Rattle.cpp_syntax.specs.Derivations.{Read, Bodies, Derives, is_nothing, is_word, is_mark, is_mark_next, is_mark_name, is_both, is_left, is_right, is_last}
use Rattle.cpp_syntax.specs.Derivations.{is_more, is_form, is_node, is_wrap, is_kept_apart, is_in_tree, is_where, is_before, is_if, is_unless}
use Rattle.cpp_syntax.specs.FirstSets.{AreParametersAhead, may_be_seen, may_be_unseen, rule_first_set, rule_nullable, StartsRule}
use Rattle.cpp_syntax.proofs.Tables.{first_set_holds, nullable_holds}

-- a text does not end before it begins
pub ends_behind : {lookahead : Lookahead → ℕ → Type 0} {bodies : Bodies} {source : Source} {p : Rule} {r s : Read} {a b : ℕ} {k : Option ℕ}
    → Derives lookahead bodies source p r a b k s → a ≤ b
ends_behind (is_nothing e f g) = omega (arith, e)
ends_behind (is_word t e f g) = omega (arith, e)
ends_behind (is_mark t e f g) = omega (arith, e)
ends_behind (is_mark_next e f g) = omega (arith, e)
ends_behind (is_mark_name e f g) = omega (arith, e)
ends_behind (is_both x y e) = le_trans (ends_behind x) (ends_behind y)
ends_behind (is_left x) = ends_behind x
ends_behind (is_right x) = ends_behind x
ends_behind (is_last e f g) = omega (arith, e)
ends_behind (is_more x y e) = le_trans (ends_behind x) (ends_behind y)
ends_behind (is_form x e f) = ends_behind x
ends_behind (is_node x e f) = ends_behind x
ends_behind (is_wrap x e f) = ends_behind x
ends_behind (is_kept_apart e x f o y c g h i) = let l = ends_behind x in let m = ends_behind y in omega (arith, l, m, g)
ends_behind (is_in_tree e x y f g) = le_trans (ends_behind x) (ends_behind y)
ends_behind (is_where x e) = ends_behind x
ends_behind (is_before x e) = ends_behind x
ends_behind (is_if l x) = ends_behind x
ends_behind (is_unless l x) = ends_behind x

-- a text is not empty, or its rule may be
pub empty_or : {lookahead : Lookahead → ℕ → Type 0} {bodies : Bodies} {source : Source} {p : Rule} {r s : Read} {a b : ℕ} {k : Option ℕ}
    → Derives lookahead bodies source p r a b k s → (a < b) ⊎ (rule_nullable p ≡ true)
empty_or (is_nothing e f g) = inr refl
empty_or (is_word t e f g) = inl (omega (arith, e))
empty_or (is_mark t e f g) = inl (omega (arith, e))
empty_or (is_mark_next e f g) = inr refl
empty_or (is_mark_name e f g) = inr refl
empty_or (is_both {p = p} {q = q} x y e) = elim (empty_or x) [
  | inl h ↦ inl (let l = ends_behind y in omega (arith, h, l))
  | inr h ↦ elim (empty_or y) [
    | inl i ↦ inl (let l = ends_behind x in omega (arith, i, l))
    | inr i ↦ inr (and_from (rule_nullable p) (rule_nullable q) h i)
  ]
]
empty_or (is_left {p = p} {q = q} x) = elim (empty_or x) [ inl h ↦ inl h | inr h ↦ inr (or_left (rule_nullable p) (rule_nullable q) h) ]
empty_or (is_right {p = p} {q = q} x) = elim (empty_or x) [ inl h ↦ inl h | inr h ↦ inr (or_right (rule_nullable p) (rule_nullable q) h) ]
empty_or (is_last e f g) = inr refl
empty_or (is_more x y e) = inr refl
empty_or (is_form {f = f} x e g) = elim (empty_or x) [ inl h ↦ inl h | inr h ↦ inr (nullable_holds f h) ]
empty_or (is_node x e f) = empty_or x
empty_or (is_wrap x e f) = empty_or x
empty_or (is_kept_apart e x f o y c g h i) = let l = ends_behind x in let m = ends_behind y in inl (omega (arith, l, m, g))
empty_or (is_in_tree e x y f g) = elim (empty_or y) [ inl h ↦ let l = ends_behind x in inl (omega (arith, l, h)) | inr h ↦ absurd (true≢false (back h)) ]
empty_or (is_where x e) = empty_or x
empty_or (is_before x e) = empty_or x
empty_or (is_if l x) = empty_or x
empty_or (is_unless l x) = empty_or x

pub not_empty : {lookahead : Lookahead → ℕ → Type 0} {bodies : Bodies} {source : Source} {p : Rule} {r s : Read} {a b : ℕ} {k : Option ℕ}
    → Derives lookahead bodies source p r a b k s → rule_nullable p ≡ false → a < b
not_empty x e = elim (empty_or x) [ inl h ↦ h | inr h ↦ absurd (true≢false (back h ∙ e)) ]

may_be_seen_where : (lookahead : Lookahead → ℕ → Type 0) (look : Lookahead) (a : ℕ) (seen : Bool) → lookahead look a
    → AreParametersAhead lookahead a seen → may_be_seen look seen ≡ true
may_be_seen_where lookahead parameters a true l h = refl
may_be_seen_where lookahead parameters a false l h = absurd (h l)
may_be_seen_where lookahead a_cast a seen l h = refl
may_be_seen_where lookahead a_type_in_parentheses a seen l h = refl
may_be_seen_where lookahead a_declaration a seen l h = refl

may_be_unseen_where : (lookahead : Lookahead → ℕ → Type 0) (look : Lookahead) (a : ℕ) (seen : Bool) → (lookahead look a → ⊥)
    → AreParametersAhead lookahead a seen → may_be_unseen look seen ≡ true
may_be_unseen_where lookahead parameters a true l h = absurd (l h)
may_be_unseen_where lookahead parameters a false l h = refl
may_be_unseen_where lookahead a_cast a seen l h = refl
may_be_unseen_where lookahead a_type_in_parentheses a seen l h = refl
may_be_unseen_where lookahead a_declaration a seen l h = refl

-- a text that is not empty begins as its rule does
pub begins_so : {lookahead : Lookahead → ℕ → Type 0} {bodies : Bodies} {source : Source} {p : Rule} {r s : Read} {a b : ℕ} {k : Option ℕ}
    → Derives lookahead bodies source p r a b k s → a < b → StartsRule lookahead source p a
begins_so (is_nothing e f g) h seen i = absurd (omega (arith, e, h))
begins_so (is_word t e f g) h seen i = t
begins_so (is_mark t e f g) h seen i = t
begins_so (is_mark_next e f g) h seen i = absurd (omega (arith, e, h))
begins_so (is_mark_name e f g) h seen i = absurd (omega (arith, e, h))
begins_so {lookahead = lookahead} {source = source} (is_both {p = p} {q = q} {a = a} {m = m} x y e) h seen i = elim (cases_lt a m) [
  | inl g ↦ or_left (rule_first_set p seen (terminal_at source a)) (rule_nullable p && rule_first_set q seen (terminal_at source a)) (begins_so x g seen i)
  | inr g ↦ let l = ends_behind x in let same : m ≡ a = omega (arith, g, l) in
      or_right (rule_first_set p seen (terminal_at source a)) (rule_nullable p && rule_first_set q seen (terminal_at source a)) (
      and_from (rule_nullable p) (rule_first_set q seen (terminal_at source a))
      (elim (empty_or x) [ inl z ↦ absurd (omega (arith, z, g)) | inr z ↦ z ])
      (subst (λ (z : ℕ). StartsRule lookahead source q z) same (begins_so y (omega (arith, h, same))) seen i))
]
begins_so {source = source} (is_left {p = p} {q = q} {a = a} x) h seen i =
    or_left (rule_first_set p seen (terminal_at source a)) (rule_first_set q seen (terminal_at source a)) (begins_so x h seen i)
begins_so {source = source} (is_right {p = p} {q = q} {a = a} x) h seen i =
    or_right (rule_first_set p seen (terminal_at source a)) (rule_first_set q seen (terminal_at source a)) (begins_so x h seen i)
begins_so (is_last e f g) h seen i = absurd (omega (arith, e, h))
begins_so {lookahead = lookahead} {source = source} (is_more {p = p} {a = a} {m = m} x y e) h seen i = elim (cases_lt a m) [
  | inl g ↦ begins_so x g seen i
  | inr g ↦ let l = ends_behind x in let same : m ≡ a = omega (arith, g, l) in
      subst (λ (z : ℕ). StartsRule lookahead source (many p) z) same (begins_so y (omega (arith, h, same))) seen i
]
begins_so {source = source} (is_form {f = f} {a = a} x e g) h seen i = first_set_holds f seen (terminal_at source a) (begins_so x h seen i)
begins_so (is_node x e f) h seen i = begins_so x h seen i
begins_so (is_wrap x e f) h seen i = begins_so x h seen i
begins_so {source = source} (is_kept_apart {p = p} {a = a} {m = m} e x f o y c g j k) h seen i = elim (cases_lt a m) [
  | inl l ↦ or_left (rule_first_set p seen (terminal_at source a)) (rule_nullable p && open_brace (terminal_at source a)) (begins_so x l seen i)
  | inr l ↦ let n = ends_behind x in let same : m ≡ a = omega (arith, l, n) in
      or_right (rule_first_set p seen (terminal_at source a)) (rule_nullable p && open_brace (terminal_at source a)) (
      and_from (rule_nullable p) (open_brace (terminal_at source a))
      (elim (empty_or x) [ inl z ↦ absurd (omega (arith, z, l)) | inr z ↦ z ])
      (subst (λ (z : ℕ). open_brace (terminal_at source z) ≡ true) same o))
]
begins_so {lookahead = lookahead} {source = source} (is_in_tree {p = p} {a = a} {m = m} e x y f g) h seen i = elim (cases_lt a m) [
  | inl l ↦ or_left (rule_first_set p seen (terminal_at source a)) (rule_nullable p && open_brace (terminal_at source a)) (begins_so x l seen i)
  | inr l ↦ let n = ends_behind x in let same : m ≡ a = omega (arith, l, n) in
      or_right (rule_first_set p seen (terminal_at source a)) (rule_nullable p && open_brace (terminal_at source a)) (
      and_from (rule_nullable p) (open_brace (terminal_at source a))
      (elim (empty_or x) [ inl z ↦ absurd (omega (arith, z, l)) | inr z ↦ z ])
      (subst (λ (z : ℕ). StartsRule lookahead source (form compound_statement) z) same (begins_so y (omega (arith, h, same))) seen i))
]
begins_so (is_where x e) h seen i = begins_so x h seen i
begins_so (is_before x e) h seen i = begins_so x h seen i
begins_so {lookahead = lookahead} {source = source} (is_if {look = look} {p = p} {a = a} l x) h seen i =
    and_from (may_be_seen look seen) (rule_first_set p seen (terminal_at source a)) (may_be_seen_where lookahead look a seen l i)
    (begins_so x h seen i)
begins_so {lookahead = lookahead} {source = source} (is_unless {look = look} {p = p} {a = a} l x) h seen i =
    and_from (may_be_unseen look seen) (rule_first_set p seen (terminal_at source a)) (may_be_unseen_where lookahead look a seen l i)
    (begins_so x h seen i)
