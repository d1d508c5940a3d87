-- The longest text of a rule from those of its parts. LongestMatch p r a b k s: the text from a to b, behind what was read, r, with
-- the marked token k, leaves s, and no other is longer. NoDerivation p r a: there is none.
--
-- tokens       nothing_long, word_long t, mark_long t, mark_next_long, mark_name_long; word_none t, mark_none t
-- p · q        seq x y refl (apart p q); seq_stays x y f (p goes on nowhere); seq_by x y ends (Ends: by hand)
--              seq_none x; seq_ends x y refl refl (x : LongestMatch p .. m k s, y : NoDerivation q s m, q not empty, apart p q)
-- any rule     none_at z e refl refl refl (e : terminal_at source a ≡ z, and no text of the rule begins with z)
--              none_by_first refl f
-- p ∣ q        left x y, right x y, neither x y; left_over x f, right_over f x (f: what each text of the other rule is)
-- optional p   taken x refl, left_out x
-- many p       ManySoFar: many_begins, many_more c x refl refl, many_ends c x
-- q · many p   Chain: chain_begins x refl, chain_more c x refl refl, chain_ends c x
-- form f       form_long x, form_none x                         (x of `production f`, behind no_read)
-- nodes        node_long x, node_none x; around_long x, around_none x
-- where_       where_long x e, where_none x, where_refused f
-- before_no    before_long x e, before_none x, before_over x e refl (a token that is refused follows)
-- if_, unless  if_long s x, if_none x, if_unseen n; unless_long n x, unless_none x, unless_seen s
-- with_body    body_long x refl e y f                           (the body kept apart)
use Rattle.std.proofs.Common.{◌≡◌, ℕ, ◌+◌, ◌<◌, ◌≤◌, ◌⊎◌, inl, inr, Bool, true, false, not, ◌&&◌, ◌||◌, refl, sym as back, ◌∙◌, subst, ap, ap₂, arith, Option}
use Rattle.std.proofs.Common.{Some, None, true≢false}
use Rattle.std.proofs.lemmas.Bool.{not_from_false, cases_lt, or_left, or_right, and_from}
use Rattle.cpp_ast.specs.declared.kinds.NodeKind.{NodeKind}
use Rattle.cpp_syntax.specs.declared.terminal.Terminal.{Terminal}
use Rattle.cpp_syntax.specs.declared.terminal.Terminal.TheVariants as terminal
use Rattle.cpp_syntax.specs.Source.{Source, terminal_at, position_at}
use Rattle.cpp_syntax.specs.Terminals.{open_brace, close_brace}
use Rattle.cpp_syntax.specs.Rules.{Nonterminal, balanced, Lookahead, Positioning, Rule, nothing, word, mark, mark_next, mark_name, ◌·◌, ◌∣◌, many, form}
use Rattle.cpp_syntax.specs.Rules.{node_at, wrap, with_body, where_, before_no, if_, unless, optional}
use Rattle.cpp_syntax.specs.Grammar.{production}
use Rattle.cpp_syntax.specs.Derivations.{Read, no_read, and_then, first_or, token_of_name, declared_in, positioned, position_of_first, reads_node}
use Rattle.cpp_syntax.specs.Derivations.{with_body_apart, in_trees, kept_apart, Bodies, Derives, is_nothing, is_word, is_mark, is_mark_next, is_mark_name}
use Rattle.cpp_syntax.specs.Derivations.{is_both, is_left, is_right, is_last, is_more, is_form, is_node, is_wrap, is_kept_apart, is_in_tree, is_where}
use Rattle.cpp_syntax.specs.Derivations.{is_before, is_if, is_unless}
use Rattle.cpp_syntax.specs.FirstSets.{continuation_set, rule_first_set, rule_nullable, rule_continuation_set, StartsRule, ContinuesRule}
use Rattle.cpp_syntax.specs.Longest.{IsNoLonger, LongestMatch, NoDerivation}
use Rattle.cpp_syntax.proofs.Tables.{continuation_set_holds}
use Rattle.cpp_syntax.proofs.FirstTerminals.{ends_behind, empty_or, not_empty, begins_so}
use Rattle.cpp_syntax.proofs.DisjointFirstSets.{apart, either_way, never_both}

-- One token, or none.

pub nothing_long : {lookahead : Lookahead → ℕ → Type 0} {bodies : Bodies} {source : Source} {r : Read} {a : ℕ}
    → LongestMatch lookahead bodies source nothing r a a None r
nothing_long {lookahead = lookahead} {bodies = bodies} {source = source} {r = r} {a = a} = record { derives = is_nothing refl refl refl; longest = only }
  where
    only : (c : ℕ) (l : Option ℕ) (o : Read) → Derives lookahead bodies source nothing r a c l o → IsNoLonger lookahead source nothing a None r c l o
    only c l o (is_nothing e f g) = inr (e, f, g)

pub word_long : {lookahead : Lookahead → ℕ → Type 0} {bodies : Bodies} {source : Source} {test : Terminal → Bool} {r : Read} {a : ℕ}
    → test (terminal_at source a) ≡ true → LongestMatch lookahead bodies source (word test) r a (a + 1) None r
word_long {lookahead = lookahead} {bodies = bodies} {source = source} {test = test} {r = r} {a = a} t =
    record { derives = is_word t refl refl refl; longest = only }
  where
    only : (c : ℕ) (l : Option ℕ) (o : Read) → Derives lookahead bodies source (word test) r a c l o
        → IsNoLonger lookahead source (word test) (a + 1) None r c l o
    only c l o (is_word u e f g) = inr (e, f, g)

pub mark_long : {lookahead : Lookahead → ℕ → Type 0} {bodies : Bodies} {source : Source} {test : Terminal → Bool} {r : Read} {a : ℕ}
    → test (terminal_at source a) ≡ true → LongestMatch lookahead bodies source (mark test) r a (a + 1) (Some a) r
mark_long {lookahead = lookahead} {bodies = bodies} {source = source} {test = test} {r = r} {a = a} t =
    record { derives = is_mark t refl refl refl; longest = only }
  where
    only : (c : ℕ) (l : Option ℕ) (o : Read) → Derives lookahead bodies source (mark test) r a c l o
        → IsNoLonger lookahead source (mark test) (a + 1) (Some a) r c l o
    only c l o (is_mark u e f g) = inr (e, f, g)

pub mark_next_long : {lookahead : Lookahead → ℕ → Type 0} {bodies : Bodies} {source : Source} {r : Read} {a : ℕ}
    → LongestMatch lookahead bodies source mark_next r a a (Some a) r
mark_next_long {lookahead = lookahead} {bodies = bodies} {source = source} {r = r} {a = a} = record { derives = is_mark_next refl refl refl; longest = only }
  where
    only : (c : ℕ) (l : Option ℕ) (o : Read) → Derives lookahead bodies source mark_next r a c l o → IsNoLonger lookahead source mark_next a (Some a) r c l o
    only c l o (is_mark_next e f g) = inr (e, f, g)

pub mark_name_long : {lookahead : Lookahead → ℕ → Type 0} {bodies : Bodies} {source : Source} {r : Read} {a : ℕ}
    → LongestMatch lookahead bodies source mark_name r a a (token_of_name (declared_in r.trees)) r
mark_name_long {lookahead = lookahead} {bodies = bodies} {source = source} {r = r} {a = a} = record { derives = is_mark_name refl refl refl; longest = only }
  where
    only : (c : ℕ) (l : Option ℕ) (o : Read) → Derives lookahead bodies source mark_name r a c l o
        → IsNoLonger lookahead source mark_name a (token_of_name (declared_in r.trees)) r c l o
    only c l o (is_mark_name e f g) = inr (e, f, g)

pub word_none : {lookahead : Lookahead → ℕ → Type 0} {bodies : Bodies} {source : Source} {test : Terminal → Bool} {r : Read} {a : ℕ}
    → test (terminal_at source a) ≡ false → NoDerivation lookahead bodies source (word test) r a
word_none t b k s (is_word u e f g) = true≢false (back u ∙ t)

pub mark_none : {lookahead : Lookahead → ℕ → Type 0} {bodies : Bodies} {source : Source} {test : Terminal → Bool} {r : Read} {a : ℕ}
    → test (terminal_at source a) ≡ false → NoDerivation lookahead bodies source (mark test) r a
mark_none t b k s (is_mark u e f g) = true≢false (back u ∙ t)

-- One rule and then another.

pub carry : {lookahead : Lookahead → ℕ → Type 0} {bodies : Bodies} {source : Source} {p : Rule} {r s t : Read} {a m b : ℕ} {k : Option ℕ} → m ≡ a
    → s ≡ r → Derives lookahead bodies source p s m b k t → Derives lookahead bodies source p r a b k t
carry {lookahead = lookahead} {bodies = bodies} {source = source} {p = p} {r = r} {t = t} {m = m} {b = b} {k = k} e f x =
    subst (λ (z : ℕ). Derives lookahead bodies source p r z b k t) e (subst (λ (z : Read). Derives lookahead bodies source p z m b k t) f x)

-- what a second rule may do behind a text of the first that is not the longest
abbrev pub Ends : (Lookahead → ℕ → Type 0) → Bodies → Source → Rule → Rule → Read → ℕ → ℕ → ℕ → Type 0
Ends lookahead bodies source p q r a m b =
    (c d : ℕ) (k l : Option ℕ) (s t : Read) → Derives lookahead bodies source p r a c k s → c < m → ContinuesRule lookahead source p c → Derives
    lookahead bodies source q s c d l t → (d < b) × ContinuesRule lookahead source (p · q) d

pub seq_by : {lookahead : Lookahead → ℕ → Type 0} {bodies : Bodies} {source : Source} {p q : Rule} {r s t : Read} {a m b : ℕ} {k l : Option ℕ}
    → LongestMatch lookahead bodies source p r a m k s → LongestMatch lookahead bodies source q s m b l t → Ends lookahead bodies source p q r a m b
    → LongestMatch lookahead bodies source (p · q) r a b (first_or k l) t
seq_by {lookahead = lookahead} {bodies = bodies} {source = source} {p = p} {q = q} {r = r} {s = s} {t = t} {a = a} {m = m} {b = b} {k = k} {l = l} x
    y ends = record { derives = is_both x.derives y.derives refl; longest = only }
  where
    only : (c : ℕ) (j : Option ℕ) (o : Read) → Derives lookahead bodies source (p · q) r a c j o → IsNoLonger lookahead source (p · q) b (first_or k l) t c j o
    only c j o (is_both {s = s'} {m = m'} {k = k'} {l = l'} u v e) = elim (x.longest m' k' s' u) [
      | inl h ↦ inl (ends m' c k' l' s' o u h.0 h.1 v)
      | inr h ↦ elim (y.longest c l' o (carry h.0 h.2 v)) [
        | inl i ↦ inl (
          i.0,
          λ seen w. or_left (rule_continuation_set q seen (terminal_at source c))
              (rule_nullable q && rule_continuation_set p seen (terminal_at source c)) (i.1 seen w),
        )
        | inr i ↦ inr (i.0, e ∙ ap (λ (z : Option ℕ). first_or z l') h.1 ∙ ap (λ (z : Option ℕ). first_or k z) i.1, i.2)
      ]
    ]

-- the second begins nowhere where the first goes on
pub ends_apart : {lookahead : Lookahead → ℕ → Type 0} {bodies : Bodies} {source : Source} (p q : Rule) (r : Read) (a m b : ℕ) → apart p q ≡ true
    → m ≤ b → Ends lookahead bodies source p q r a m b
ends_apart {lookahead = lookahead} {source = source} p q r a m b e le c d k l s t u h g x = elim (cases_lt c d) [
  | inl i ↦ absurd (never_both lookahead source p q c e g (begins_so x i))
  | inr i ↦ let n = ends_behind x in let same : c ≡ d = omega (arith, i, n) in (
    omega (arith, same, h, le),
    λ seen w.
        or_right (rule_continuation_set q seen (terminal_at source d)) (rule_nullable q && rule_continuation_set p seen (terminal_at source d)) (
        and_from (rule_nullable q) (rule_continuation_set p seen (terminal_at source d))
        (elim (empty_or x) [ inl z ↦ absurd (omega (arith, z, i)) | inr z ↦ z ])
        (subst (λ (z : ℕ). ContinuesRule lookahead source p z) same g seen w)),
  )
]

pub seq : {lookahead : Lookahead → ℕ → Type 0} {bodies : Bodies} {source : Source} {p q : Rule} {r s t : Read} {a m b : ℕ} {k l : Option ℕ}
    → LongestMatch lookahead bodies source p r a m k s → LongestMatch lookahead bodies source q s m b l t → apart p q ≡ true
    → LongestMatch lookahead bodies source (p · q) r a b (first_or k l) t
seq {p = p} {q = q} {r = r} {a = a} {m = m} {b = b} x y e = seq_by x y (ends_apart p q r a m b e (ends_behind y.derives))

-- a first rule whose texts are all of one length, as a token
pub seq_stays : {lookahead : Lookahead → ℕ → Type 0} {bodies : Bodies} {source : Source} {p q : Rule} {r s t : Read} {a m b : ℕ} {k l : Option ℕ}
    → LongestMatch lookahead bodies source p r a m k s → LongestMatch lookahead bodies source q s m b l t
    → ((seen : Bool) (z : Terminal) → rule_continuation_set p seen z ≡ false) → LongestMatch lookahead bodies source (p · q) r a b (first_or k l) t
seq_stays {lookahead = lookahead} {source = source} {p = p} {q = q} {m = m} {b = b} x y e =
    seq_by x y (λ c d k l s t v h g u. absurd (either_way lookahead c (λ seen w. true≢false (back (g seen w) ∙ e seen (terminal_at source c)))))

pub seq_none : {lookahead : Lookahead → ℕ → Type 0} {bodies : Bodies} {source : Source} {p q : Rule} {r : Read} {a : ℕ}
    → NoDerivation lookahead bodies source p r a → NoDerivation lookahead bodies source (p · q) r a
seq_none x b k t (is_both {s = s} {m = m} {k = l} u v e) = x m l s u

-- the second rule has no text behind the longest of the first
pub seq_ends : {lookahead : Lookahead → ℕ → Type 0} {bodies : Bodies} {source : Source} {p q : Rule} {r s : Read} {a m : ℕ} {k : Option ℕ}
    → LongestMatch lookahead bodies source p r a m k s → NoDerivation lookahead bodies source q s m → rule_nullable q ≡ false → apart p q ≡ true
    → NoDerivation lookahead bodies source (p · q) r a
seq_ends {lookahead = lookahead} {source = source} {p = p} {q = q} x y e f b k t (is_both {s = s'} {m = m'} {k = k'} {l = l'} u v g) =
    elim (x.longest m' k' s' u) [
      | inl h ↦ never_both lookahead source p q m' f h.1 (begins_so v (not_empty v e))
      | inr h ↦ y b l' t (carry h.0 h.2 v)
    ]

-- no text of a rule begins at a terminal with which none begins
pub none_at : {lookahead : Lookahead → ℕ → Type 0} {bodies : Bodies} {source : Source} {p : Rule} {r : Read} {a : ℕ} (z : Terminal)
    → terminal_at source a ≡ z → rule_nullable p ≡ false → rule_first_set p true z ≡ false → rule_first_set p false z ≡ false
    → NoDerivation lookahead bodies source p r a
none_at {lookahead = lookahead} {source = source} {p = p} {a = a} z e f g h b k t x =
    either_way lookahead a (λ seen w. true≢false (back (begins_so x (not_empty x f) seen w) ∙ ap (λ (y : Terminal). rule_first_set p seen y) e ∙ by
    seen))
  where
    by : (seen : Bool) → rule_first_set p seen z ≡ false
    by true = g
    by false = h

pub none_by_first : {lookahead : Lookahead → ℕ → Type 0} {bodies : Bodies} {source : Source} {p : Rule} {r : Read} {a : ℕ} → rule_nullable p ≡ false
    → ((seen : Bool) → rule_first_set p seen (terminal_at source a) ≡ false) → NoDerivation lookahead bodies source p r a
none_by_first {lookahead = lookahead} f e b k t x = none_at _ refl f (e true) (e false) b k t x

-- One rule or another.

pub first_of : (a b c d : Bool) → a ≡ true → (a || b || c || d) ≡ true
first_of a b c d e = or_left (a || b || c) d (or_left (a || b) c (or_left a b e))

pub second_of : (a b c d : Bool) → b ≡ true → (a || b || c || d) ≡ true
second_of a b c d e = or_left (a || b || c) d (or_left (a || b) c (or_right a b e))

pub third_of : (a b c d : Bool) → c ≡ true → (a || b || c || d) ≡ true
third_of a b c d e = or_left (a || b || c) d (or_right (a || b) c e)

-- what a text of one rule is beside the longest of it is what it is where another may stand for it
pub within_left : (lookahead : Lookahead → ℕ → Type 0) (source : Source) (p q : Rule) (b : ℕ) (k : Option ℕ) (s : Read) (c : ℕ) (l : Option ℕ) (o : Read)
    → IsNoLonger lookahead source p b k s c l o → IsNoLonger lookahead source (p ∣ q) b k s c l o
within_left lookahead source p q b k s c l o (inl h) =
    inl (
      h.0,
      λ seen w. first_of (rule_continuation_set p seen (terminal_at source c)) (rule_continuation_set q seen (terminal_at source c))
          (rule_nullable q && rule_first_set p seen (terminal_at source c)) (rule_nullable p && rule_first_set q seen (terminal_at source c)) (h.1 seen w),
    )
within_left lookahead source p q b k s c l o (inr h) = inr h

pub within_right : (lookahead : Lookahead → ℕ → Type 0) (source : Source) (p q : Rule) (b : ℕ) (k : Option ℕ) (s : Read) (c : ℕ) (l : Option ℕ) (o : Read)
    → IsNoLonger lookahead source q b k s c l o → IsNoLonger lookahead source (p ∣ q) b k s c l o
within_right lookahead source p q b k s c l o (inl h) =
    inl (
      h.0,
      λ seen w. second_of (rule_continuation_set p seen (terminal_at source c)) (rule_continuation_set q seen (terminal_at source c))
          (rule_nullable q && rule_first_set p seen (terminal_at source c)) (rule_nullable p && rule_first_set q seen (terminal_at source c)) (h.1 seen w),
    )
within_right lookahead source p q b k s c l o (inr h) = inr h

-- the longest text of one rule, which none of the other goes past
pub left_over : {lookahead : Lookahead → ℕ → Type 0} {bodies : Bodies} {source : Source} {p q : Rule} {r s : Read} {a b : ℕ} {k : Option ℕ}
    → LongestMatch lookahead bodies source p r a b k s
    → ((c : ℕ) (l : Option ℕ) (o : Read) → Derives lookahead bodies source q r a c l o → IsNoLonger lookahead source (p ∣ q) b k s c l o)
    → LongestMatch lookahead bodies source (p ∣ q) r a b k s
left_over {lookahead = lookahead} {bodies = bodies} {source = source} {p = p} {q = q} {r = r} {s = s} {a = a} {b = b} {k = k} x y =
    record { derives = is_left x.derives; longest = only }
  where
    only : (c : ℕ) (l : Option ℕ) (o : Read) → Derives lookahead bodies source (p ∣ q) r a c l o → IsNoLonger lookahead source (p ∣ q) b k s c l o
    only c l o (is_left u) = within_left lookahead source p q b k s c l o (x.longest c l o u)
    only c l o (is_right u) = y c l o u

pub right_over : {lookahead : Lookahead → ℕ → Type 0} {bodies : Bodies} {source : Source} {p q : Rule} {r s : Read} {a b : ℕ} {k : Option ℕ}
    → ((c : ℕ) (l : Option ℕ) (o : Read) → Derives lookahead bodies source p r a c l o → IsNoLonger lookahead source (p ∣ q) b k s c l o)
    → LongestMatch lookahead bodies source q r a b k s → LongestMatch lookahead bodies source (p ∣ q) r a b k s
right_over {lookahead = lookahead} {bodies = bodies} {source = source} {p = p} {q = q} {r = r} {s = s} {a = a} {b = b} {k = k} x y =
    record { derives = is_right y.derives; longest = only }
  where
    only : (c : ℕ) (l : Option ℕ) (o : Read) → Derives lookahead bodies source (p ∣ q) r a c l o → IsNoLonger lookahead source (p ∣ q) b k s c l o
    only c l o (is_left u) = x c l o u
    only c l o (is_right u) = within_right lookahead source p q b k s c l o (y.longest c l o u)

pub left : {lookahead : Lookahead → ℕ → Type 0} {bodies : Bodies} {source : Source} {p q : Rule} {r s : Read} {a b : ℕ} {k : Option ℕ}
    → LongestMatch lookahead bodies source p r a b k s → NoDerivation lookahead bodies source q r a
    → LongestMatch lookahead bodies source (p ∣ q) r a b k s
left {lookahead = lookahead} {bodies = bodies} {source = source} {p = p} {q = q} {r = r} {s = s} {a = a} {b = b} {k = k} x y =
    left_over x (λ c l o v. absurd (y c l o v))

pub right : {lookahead : Lookahead → ℕ → Type 0} {bodies : Bodies} {source : Source} {p q : Rule} {r s : Read} {a b : ℕ} {k : Option ℕ}
    → NoDerivation lookahead bodies source p r a → LongestMatch lookahead bodies source q r a b k s
    → LongestMatch lookahead bodies source (p ∣ q) r a b k s
right {lookahead = lookahead} {bodies = bodies} {source = source} {p = p} {q = q} {r = r} {s = s} {a = a} {b = b} {k = k} x y =
    right_over (λ c l o v. absurd (x c l o v)) y

pub neither : {lookahead : Lookahead → ℕ → Type 0} {bodies : Bodies} {source : Source} {p q : Rule} {r : Read} {a : ℕ}
    → NoDerivation lookahead bodies source p r a → NoDerivation lookahead bodies source q r a → NoDerivation lookahead bodies source (p ∣ q) r a
neither x y b k t (is_left u) = x b k t u
neither x y b k t (is_right u) = y b k t u

-- a rule that may be left out
pub taken : {lookahead : Lookahead → ℕ → Type 0} {bodies : Bodies} {source : Source} {p : Rule} {r s : Read} {a b : ℕ} {k : Option ℕ}
    → LongestMatch lookahead bodies source p r a b k s → rule_nullable p ≡ false → LongestMatch lookahead bodies source (optional p) r a b k s
taken {lookahead = lookahead} {bodies = bodies} {source = source} {p = p} {r = r} {s = s} {a = a} {b = b} {k = k} x e = left_over x over
  where
    over : (c : ℕ) (l : Option ℕ) (o : Read) → Derives lookahead bodies source nothing r a c l o → IsNoLonger lookahead source (optional p) b k s c l o
    over c l o (is_nothing f g h) = let lt : a < b = not_empty x.derives e in inl (
      omega (arith, f, lt),
      λ seen w.
          third_of (rule_continuation_set p seen (terminal_at source c)) false (rule_first_set p seen (terminal_at source c))
          (rule_nullable p && false) (subst (λ (z : ℕ). StartsRule lookahead source p z) (back f) (begins_so x.derives lt) seen w),
    )

pub left_out : {lookahead : Lookahead → ℕ → Type 0} {bodies : Bodies} {source : Source} {p : Rule} {r : Read} {a : ℕ}
    → NoDerivation lookahead bodies source p r a → LongestMatch lookahead bodies source (optional p) r a a None r
left_out x = right x nothing_long

-- A rule any number of times.

-- the texts of a rule that stand one behind the other from one index to another, and what may still come
pub record ManySoFar (lookahead : Lookahead → ℕ → Type 0) (bodies : Bodies) (source : Source) (p : Rule) (before : Read) (a b : ℕ) (k : Option ℕ)
    (after : Read) : Type 0 where
  pub derives : (c : ℕ) (l : Option ℕ) (other : Read) → Derives lookahead bodies source (many p) after b c l other
      → Derives lookahead bodies source (many p) before a c (first_or k l) other
  pub longest : (c : ℕ) (l : Option ℕ) (other : Read) → Derives lookahead bodies source (many p) before a c l other
      → ((c < b) × ContinuesRule lookahead source (many p) c) ⊎ ((j : Option ℕ) × Derives lookahead bodies source (many p) after b c j other ×
      (l ≡ first_or k j))
  pub behind : a ≤ b

pub many_begins : {lookahead : Lookahead → ℕ → Type 0} {bodies : Bodies} {source : Source} {p : Rule} {r : Read} {a : ℕ}
    → ManySoFar lookahead bodies source p r a a None r
many_begins = record { derives = λ c l o x. x; longest = λ c l o x. inr (l, x, refl); behind = omega arith }

pub first_or_assoc : (j k l : Option ℕ) → first_or (first_or j k) l ≡ first_or j (first_or k l)
first_or_assoc None k l = refl
first_or_assoc (Some n) k l = refl

-- behind a text of the rule, what was a text of many of it from the index before is one from there on, or ends before
pub many_next : {lookahead : Lookahead → ℕ → Type 0} {bodies : Bodies} {source : Source} {p : Rule} {s t : Read} {m b : ℕ} {l : Option ℕ}
    → LongestMatch lookahead bodies source p s m b l t → rule_nullable p ≡ false → apart p p ≡ true → (c : ℕ) (j : Option ℕ) (o : Read)
    → Derives lookahead bodies source (many p) s m c j o
    → ((c < b) × ContinuesRule lookahead source (many p) c) ⊎ ((i : Option ℕ) × Derives lookahead bodies source (many p) t b c i o × (j ≡ first_or l i))
many_next {lookahead = lookahead} {bodies = bodies} {source = source} {p = p} {m = m} {b = b} {l = l} y e f c j o (is_last g h i) =
    let lt : m < b = not_empty y.derives e in inl (
      omega (arith, g, lt),
      λ seen w. or_left (rule_first_set p seen (terminal_at source c))
          (rule_continuation_set p seen (terminal_at source c)) (subst (λ (z : ℕ). StartsRule lookahead source p z) (back g) (begins_so y.derives lt) seen
          w),
    )
many_next {lookahead = lookahead} {bodies = bodies} {source = source} {p = p} {m = m} {b = b} {l = l} y e f c j o
    (is_more {s = s'} {m = m'} {k = k'} {l = l'} u v g) = elim (y.longest m' k' s' u) [
      | inl h ↦ elim (cases_lt m' c) [
        | inl i ↦ absurd (never_both lookahead source p p m' f h.1 (begins_so v i))
        | inr i ↦ let n = ends_behind v in let same : m' ≡ c = omega (arith, i, n) in let lt = h.0 in
            inl (
              omega (arith, same, lt),
              λ seen w. or_right (rule_first_set p seen (terminal_at source c))
                  (rule_continuation_set p seen (terminal_at source c)) (subst (λ (z : ℕ). ContinuesRule lookahead source p z) same h.1 seen w),
            )
      ]
      | inr h ↦ inr (l', carry h.0 h.2 v, g ∙ ap (λ (z : Option ℕ). first_or z l') h.1)
    ]

pub many_more : {lookahead : Lookahead → ℕ → Type 0} {bodies : Bodies} {source : Source} {p : Rule} {r s t : Read} {a m b : ℕ} {k l : Option ℕ}
    → ManySoFar lookahead bodies source p r a m k s → LongestMatch lookahead bodies source p s m b l t → rule_nullable p ≡ false → apart p p ≡ true
    → ManySoFar lookahead bodies source p r a b (first_or k l) t
many_more {lookahead = lookahead} {bodies = bodies} {source = source} {p = p} {r = r} {s = s} {t = t} {a = a} {m = m} {b = b} {k = k} {l = l} x y e f
    = record { derives = so_far; longest = only; behind = let i = x.behind in let j = ends_behind y.derives in omega (arith, i, j) }
  where
    so_far : (c : ℕ) (j : Option ℕ) (o : Read) → Derives lookahead bodies source (many p) t b c j o
        → Derives lookahead bodies source (many p) r a c (first_or (first_or k l) j) o
    so_far c j o u =
        subst (λ (z : Option ℕ). Derives lookahead bodies source (many p) r a c z o) (back (first_or_assoc k l j))
        (x.derives c (first_or l j) o (is_more y.derives u refl))

    only : (c : ℕ) (j : Option ℕ) (o : Read) → Derives lookahead bodies source (many p) r a c j o
        → ((c < b) × ContinuesRule lookahead source (many p) c) ⊎ ((i : Option ℕ) × Derives lookahead bodies source (many p) t b c i o ×
        (j ≡ first_or (first_or k l) i))
    only c j o u = elim (x.longest c j o u) [
      | inl h ↦ let lt = h.0 in let n = ends_behind y.derives in inl (omega (arith, lt, n), h.1)
      | inr h ↦ elim (many_next y e f c h.0 o h.1) [
        | inl i ↦ inl i
        | inr i ↦ inr (i.0, i.1, h.2 ∙ ap (λ (z : Option ℕ). first_or k z) i.2 ∙ back (first_or_assoc k l i.0))
      ]
    ]

pub first_or_none : (k : Option ℕ) → first_or k None ≡ k
first_or_none None = refl
first_or_none (Some n) = refl

pub many_ends : {lookahead : Lookahead → ℕ → Type 0} {bodies : Bodies} {source : Source} {p : Rule} {r s : Read} {a b : ℕ} {k : Option ℕ}
    → ManySoFar lookahead bodies source p r a b k s → NoDerivation lookahead bodies source p s b
    → LongestMatch lookahead bodies source (many p) r a b k s
many_ends {lookahead = lookahead} {bodies = bodies} {source = source} {p = p} {r = r} {s = s} {a = a} {b = b} {k = k} x y =
    record {
      derives = subst (λ (z : Option ℕ). Derives lookahead bodies source (many p) r a b z s) (first_or_none k)
          (x.derives b None s (is_last refl refl refl));
      longest = only;
    }
  where
    end : (c : ℕ) (j : Option ℕ) (o : Read) → Derives lookahead bodies source (many p) s b c j o → (c ≡ b) × (j ≡ None) × (o ≡ s)
    end c j o (is_last e f g) = (e, f, g)
    end c j o (is_more {s = s'} {m = m'} {k = k'} u v e) = absurd (y m' k' s' u)

    only : (c : ℕ) (j : Option ℕ) (o : Read) → Derives lookahead bodies source (many p) r a c j o → IsNoLonger lookahead source (many p) b k s c j o
    only c j o u = elim (x.longest c j o u) [
      | inl h ↦ inl h
      | inr h ↦ let e = end c h.0 o h.1 in inr (e.0, h.2 ∙ ap (λ (z : Option ℕ). first_or k z) e.1 ∙ first_or_none k, e.2)
    ]

-- A rule, and then another any number of times.

-- a text of the first and some of the second behind it, from one index to another, and what may still come
pub record Chain (lookahead : Lookahead → ℕ → Type 0) (bodies : Bodies) (source : Source) (q p : Rule) (before : Read) (a b : ℕ) (k : Option ℕ)
    (after : Read) : Type 0 where
  pub derives : (c : ℕ) (l : Option ℕ) (other : Read) → Derives lookahead bodies source (many p) after b c l other
      → Derives lookahead bodies source (q · many p) before a c (first_or k l) other
  pub longest : (c : ℕ) (l : Option ℕ) (other : Read) → Derives lookahead bodies source (q · many p) before a c l other
      → ((c < b) × ContinuesRule lookahead source (q · many p) c) ⊎ ((j : Option ℕ) × Derives lookahead bodies source (many p) after b c j other ×
      (l ≡ first_or k j))
  pub behind : a ≤ b

pub chain_begins : {lookahead : Lookahead → ℕ → Type 0} {bodies : Bodies} {source : Source} {q p : Rule} {r s : Read} {a m : ℕ} {k : Option ℕ}
    → LongestMatch lookahead bodies source q r a m k s → apart q p ≡ true → Chain lookahead bodies source q p r a m k s
chain_begins {lookahead = lookahead} {bodies = bodies} {source = source} {q = q} {p = p} {r = r} {s = s} {a = a} {m = m} {k = k} x e =
    record { derives = λ c l o u. is_both x.derives u refl; longest = only; behind = ends_behind x.derives }
  where
    only : (c : ℕ) (l : Option ℕ) (o : Read) → Derives lookahead bodies source (q · many p) r a c l o
        → ((c < m) × ContinuesRule lookahead source (q · many p) c) ⊎ ((j : Option ℕ) × Derives lookahead bodies source (many p) s m c j o × (l ≡ first_or k j))
    only c l o (is_both {s = s'} {m = m'} {k = k'} {l = l'} u v f) = elim (x.longest m' k' s' u) [
      | inl h ↦ elim (cases_lt m' c) [
        | inl i ↦ absurd (never_both lookahead source q p m' e h.1 (begins_so v i))
        | inr i ↦ let n = ends_behind v in let same : m' ≡ c = omega (arith, i, n) in let lt = h.0 in
            inl (
              omega (arith, same, lt),
              λ seen w. or_right (rule_continuation_set (many p) seen (terminal_at source c))
                  (rule_continuation_set q seen (terminal_at source c)) (subst (λ (z : ℕ). ContinuesRule lookahead source q z) same h.1 seen w),
            )
      ]
      | inr h ↦ inr (l', carry h.0 h.2 v, f ∙ ap (λ (z : Option ℕ). first_or z l') h.1)
    ]

pub chain_more : {lookahead : Lookahead → ℕ → Type 0} {bodies : Bodies} {source : Source} {q p : Rule} {r s t : Read} {a m b : ℕ} {k l : Option ℕ}
    → Chain lookahead bodies source q p r a m k s → LongestMatch lookahead bodies source p s m b l t → rule_nullable p ≡ false → apart p p ≡ true
    → Chain lookahead bodies source q p r a b (first_or k l) t
chain_more {lookahead = lookahead} {bodies = bodies} {source = source} {q = q} {p = p} {r = r} {s = s} {t = t} {a = a} {m = m} {b = b} {k = k}
    {l = l} x y e f = record { derives = so_far; longest = only; behind = let i = x.behind in let j = ends_behind y.derives in omega (arith, i, j) }
  where
    so_far : (c : ℕ) (j : Option ℕ) (o : Read) → Derives lookahead bodies source (many p) t b c j o
        → Derives lookahead bodies source (q · many p) r a c (first_or (first_or k l) j) o
    so_far c j o u =
        subst (λ (z : Option ℕ). Derives lookahead bodies source (q · many p) r a c z o) (back (first_or_assoc k l j))
        (x.derives c (first_or l j) o (is_more y.derives u refl))

    only : (c : ℕ) (j : Option ℕ) (o : Read) → Derives lookahead bodies source (q · many p) r a c j o
        → ((c < b) × ContinuesRule lookahead source (q · many p) c) ⊎ ((i : Option ℕ) × Derives lookahead bodies source (many p) t b c i o ×
        (j ≡ first_or (first_or k l) i))
    only c j o u = elim (x.longest c j o u) [
      | inl h ↦ let lt = h.0 in let n = ends_behind y.derives in inl (omega (arith, lt, n), h.1)
      | inr h ↦ elim (many_next y e f c h.0 o h.1) [
        | inl i ↦ inl (
          i.0,
          λ seen w. or_left (rule_continuation_set (many p) seen (terminal_at source c))
              (rule_continuation_set q seen (terminal_at source c)) (i.1 seen w),
        )
        | inr i ↦ inr (i.0, i.1, h.2 ∙ ap (λ (z : Option ℕ). first_or k z) i.2 ∙ back (first_or_assoc k l i.0))
      ]
    ]

many_over : {lookahead : Lookahead → ℕ → Type 0} {bodies : Bodies} {source : Source} {p : Rule} {s : Read} {b : ℕ}
    → NoDerivation lookahead bodies source p s b → (c : ℕ) (j : Option ℕ) (o : Read) → Derives lookahead bodies source (many p) s b c j o
    → (c ≡ b) × (j ≡ None) × (o ≡ s)
many_over y c j o (is_last e f g) = (e, f, g)
many_over y c j o (is_more {s = s'} {m = m'} {k = k'} u v e) = absurd (y m' k' s' u)

pub chain_ends : {lookahead : Lookahead → ℕ → Type 0} {bodies : Bodies} {source : Source} {q p : Rule} {r s : Read} {a b : ℕ} {k : Option ℕ}
    → Chain lookahead bodies source q p r a b k s → NoDerivation lookahead bodies source p s b
    → LongestMatch lookahead bodies source (q · many p) r a b k s
chain_ends {lookahead = lookahead} {bodies = bodies} {source = source} {q = q} {p = p} {r = r} {s = s} {a = a} {b = b} {k = k} x y =
    record {
      derives = subst (λ (z : Option ℕ). Derives lookahead bodies source (q · many p) r a b z s) (first_or_none k)
          (x.derives b None s (is_last refl refl refl));
      longest = only;
    }
  where
    only : (c : ℕ) (j : Option ℕ) (o : Read) → Derives lookahead bodies source (q · many p) r a c j o → IsNoLonger lookahead source (q · many p) b k s c j o
    only c j o u = elim (x.longest c j o u) [
      | inl h ↦ inl h
      | inr h ↦ let e = many_over y c h.0 o h.1 in inr (e.0, h.2 ∙ ap (λ (z : Option ℕ). first_or k z) e.1 ∙ first_or_none k, e.2)
    ]

-- Forms, nodes and conditions.

pub form_long : {lookahead : Lookahead → ℕ → Type 0} {bodies : Bodies} {source : Source} {f : Nonterminal} {r t : Read} {a b : ℕ} {k : Option ℕ}
    → LongestMatch lookahead bodies source (production f) no_read a b k t → LongestMatch lookahead bodies source (form f) r a b None (and_then r t)
form_long {lookahead = lookahead} {bodies = bodies} {source = source} {f = f} {r = r} {t = t} {a = a} {b = b} {k = k} x =
    record { derives = is_form x.derives refl refl; longest = only }
  where
    only : (c : ℕ) (l : Option ℕ) (o : Read) → Derives lookahead bodies source (form f) r a c l o
        → IsNoLonger lookahead source (form f) b None (and_then r t) c l o
    only c l o (is_form {t = t'} {l = l'} u e g) = elim (x.longest c l' t' u) [
      | inl h ↦ inl (h.0, λ seen w. continuation_set_holds f seen (terminal_at source c) (h.1 seen w))
      | inr h ↦ inr (h.0, e, g ∙ ap (λ (z : Read). and_then r z) h.2)
    ]

pub form_none : {lookahead : Lookahead → ℕ → Type 0} {bodies : Bodies} {source : Source} {f : Nonterminal} {r : Read} {a : ℕ}
    → NoDerivation lookahead bodies source (production f) no_read a → NoDerivation lookahead bodies source (form f) r a
form_none x b k t (is_form {t = t'} {l = l'} u e g) = x b l' t' u

pub node_long : {lookahead : Lookahead → ℕ → Type 0} {bodies : Bodies} {source : Source} {positioning : Positioning} {kind : NodeKind} {p : Rule}
    {r t : Read} {a b : ℕ} {k : Option ℕ}
    → LongestMatch lookahead bodies source p no_read a b k t
    → LongestMatch lookahead bodies source (node_at positioning kind p) r a b None (and_then r
    (reads_node kind (positioned positioning source a k t.trees) k t))
node_long {lookahead = lookahead} {bodies = bodies} {source = source} {positioning = positioning} {kind = kind} {p = p} {r = r} {t = t} {a = a}
    {b = b} {k = k} x = record { derives = is_node x.derives refl refl; longest = only }
  where
    only : (c : ℕ) (l : Option ℕ) (o : Read) → Derives lookahead bodies source (node_at positioning kind p) r a c l o
        → IsNoLonger lookahead source (node_at positioning kind p) b None (and_then r (reads_node kind (positioned positioning source a k t.trees) k t)) c l o
    only c l o (is_node {t = t'} {l = l'} u e g) = elim (x.longest c l' t' u) [
      | inl h ↦ inl h
      | inr h ↦ inr (h.0, e, g ∙ ap₂ (λ (z : Option ℕ) (v : Read). and_then r (reads_node kind (positioned positioning source a z v.trees) z v)) h.1 h.2)
    ]

pub node_none : {lookahead : Lookahead → ℕ → Type 0} {bodies : Bodies} {source : Source} {positioning : Positioning} {kind : NodeKind} {p : Rule}
    {r : Read} {a : ℕ}
    → NoDerivation lookahead bodies source p no_read a → NoDerivation lookahead bodies source (node_at positioning kind p) r a
node_none x b k t (is_node {t = t'} {l = l'} u e g) = x b l' t' u

pub wrap_long : {lookahead : Lookahead → ℕ → Type 0} {bodies : Bodies} {source : Source} {kind : NodeKind} {p : Rule} {r t : Read} {a b : ℕ} {k : Option ℕ}
    → LongestMatch lookahead bodies source p r a b k t
    → LongestMatch lookahead bodies source (wrap kind p) r a b None (reads_node kind (position_of_first source a r.trees) k t)
wrap_long {lookahead = lookahead} {bodies = bodies} {source = source} {kind = kind} {p = p} {r = r} {t = t} {a = a} {b = b} {k = k} x =
    record { derives = is_wrap x.derives refl refl; longest = only }
  where
    only : (c : ℕ) (l : Option ℕ) (o : Read) → Derives lookahead bodies source (wrap kind p) r a c l o
        → IsNoLonger lookahead source (wrap kind p) b None (reads_node kind (position_of_first source a r.trees) k t) c l o
    only c l o (is_wrap {t = t'} {l = l'} u e g) = elim (x.longest c l' t' u) [
      | inl h ↦ inl h
      | inr h ↦ inr (h.0, e, g ∙ ap₂ (λ (z : Option ℕ) (v : Read). reads_node kind (position_of_first source a r.trees) z v) h.1 h.2)
    ]

pub wrap_none : {lookahead : Lookahead → ℕ → Type 0} {bodies : Bodies} {source : Source} {kind : NodeKind} {p : Rule} {r : Read} {a : ℕ}
    → NoDerivation lookahead bodies source p r a → NoDerivation lookahead bodies source (wrap kind p) r a
wrap_none x b k t (is_wrap {t = t'} {l = l'} u e g) = x b l' t' u

pub where_long : {lookahead : Lookahead → ℕ → Type 0} {bodies : Bodies} {source : Source} {test : Source → ℕ → ℕ → Bool} {p : Rule} {r s : Read}
    {a b : ℕ} {k : Option ℕ}
    → LongestMatch lookahead bodies source p r a b k s → test source a b ≡ true → LongestMatch lookahead bodies source (where_ test p) r a b k s
where_long {lookahead = lookahead} {bodies = bodies} {source = source} {test = test} {p = p} {r = r} {s = s} {a = a} {b = b} {k = k} x t =
    record { derives = is_where x.derives t; longest = only }
  where
    only : (c : ℕ) (l : Option ℕ) (o : Read) → Derives lookahead bodies source (where_ test p) r a c l o
        → IsNoLonger lookahead source (where_ test p) b k s c l o
    only c l o (is_where u e) = x.longest c l o u

pub where_none : {lookahead : Lookahead → ℕ → Type 0} {bodies : Bodies} {source : Source} {test : Source → ℕ → ℕ → Bool} {p : Rule} {r : Read} {a : ℕ}
    → NoDerivation lookahead bodies source p r a → NoDerivation lookahead bodies source (where_ test p) r a
where_none x b k t (is_where u e) = x b k t u

-- no text of the rule passes the test
pub where_refused : {lookahead : Lookahead → ℕ → Type 0} {bodies : Bodies} {source : Source} {test : Source → ℕ → ℕ → Bool} {p : Rule} {r : Read} {a : ℕ}
    → ((b : ℕ) (k : Option ℕ) (t : Read) → Derives lookahead bodies source p r a b k t → test source a b ≡ false)
    → NoDerivation lookahead bodies source (where_ test p) r a
where_refused x b k t (is_where u e) = true≢false (back e ∙ x b k t u)

-- a rule before no token that passes a test
pub before_long : {lookahead : Lookahead → ℕ → Type 0} {bodies : Bodies} {source : Source} {test : Terminal → Bool} {p : Rule} {r s : Read} {a b : ℕ}
    {k : Option ℕ}
    → LongestMatch lookahead bodies source p r a b k s → test (terminal_at source b) ≡ false
    → LongestMatch lookahead bodies source (before_no test p) r a b k s
before_long {lookahead = lookahead} {bodies = bodies} {source = source} {test = test} {p = p} {r = r} {s = s} {a = a} {b = b} {k = k} x t =
    record { derives = is_before x.derives t; longest = only }
  where
    only : (c : ℕ) (l : Option ℕ) (o : Read) → Derives lookahead bodies source (before_no test p) r a c l o
        → IsNoLonger lookahead source (before_no test p) b k s c l o
    only c l o (is_before u e) = elim (x.longest c l o u) [
      | inl h ↦ inl (
        h.0,
        λ seen w. and_from (rule_continuation_set p seen (terminal_at source c)) (not (test (terminal_at source c))) (h.1 seen w)
            (not_from_false (test (terminal_at source c)) e),
      )
      | inr h ↦ inr h
    ]

pub before_none : {lookahead : Lookahead → ℕ → Type 0} {bodies : Bodies} {source : Source} {test : Terminal → Bool} {p : Rule} {r : Read} {a : ℕ}
    → NoDerivation lookahead bodies source p r a → NoDerivation lookahead bodies source (before_no test p) r a
before_none x b k t (is_before u e) = x b k t u

-- such a token follows the longest text, and no shorter one is before none
pub before_over : {lookahead : Lookahead → ℕ → Type 0} {bodies : Bodies} {source : Source} {test : Terminal → Bool} {p : Rule} {r s : Read} {a b : ℕ}
    {k : Option ℕ}
    → LongestMatch lookahead bodies source p r a b k s → test (terminal_at source b) ≡ true → apart (before_no test p) (word (λ z. true)) ≡ true
    → NoDerivation lookahead bodies source (before_no test p) r a
before_over {lookahead = lookahead} {source = source} {test = test} {p = p} x t f c l o (is_before u e) = elim (x.longest c l o u) [
  | inl h ↦ never_both lookahead source (before_no test p) (word (λ z. true)) c f (λ seen w. and_from
      (rule_continuation_set p seen (terminal_at source c)) (not (test (terminal_at source c))) (h.1 seen w)
      (not_from_false (test (terminal_at source c)) e)) (λ seen w. refl)
  | inr h ↦ true≢false (back t ∙ back (ap (λ (z : ℕ). test (terminal_at source z)) h.0) ∙ e)
]

pub if_long : {lookahead : Lookahead → ℕ → Type 0} {bodies : Bodies} {source : Source} {look : Lookahead} {p : Rule} {r s : Read} {a b : ℕ} {k : Option ℕ}
    → lookahead look a → LongestMatch lookahead bodies source p r a b k s → LongestMatch lookahead bodies source (if_ look p) r a b k s
if_long {lookahead = lookahead} {bodies = bodies} {source = source} {look = look} {p = p} {r = r} {s = s} {a = a} {b = b} {k = k} i x =
    record { derives = is_if i x.derives; longest = only }
  where
    only : (c : ℕ) (l : Option ℕ) (o : Read) → Derives lookahead bodies source (if_ look p) r a c l o → IsNoLonger lookahead source (if_ look p) b k s c l o
    only c l o (is_if j u) = x.longest c l o u

pub if_none : {lookahead : Lookahead → ℕ → Type 0} {bodies : Bodies} {source : Source} {look : Lookahead} {p : Rule} {r : Read} {a : ℕ}
    → NoDerivation lookahead bodies source p r a → NoDerivation lookahead bodies source (if_ look p) r a
if_none x b k t (is_if i u) = x b k t u

pub if_unseen : {lookahead : Lookahead → ℕ → Type 0} {bodies : Bodies} {source : Source} {look : Lookahead} {p : Rule} {r : Read} {a : ℕ}
    → (lookahead look a → ⊥) → NoDerivation lookahead bodies source (if_ look p) r a
if_unseen x b k t (is_if i u) = x i

pub unless_long : {lookahead : Lookahead → ℕ → Type 0} {bodies : Bodies} {source : Source} {look : Lookahead} {p : Rule} {r s : Read} {a b : ℕ} {k : Option ℕ}
    → (lookahead look a → ⊥) → LongestMatch lookahead bodies source p r a b k s → LongestMatch lookahead bodies source (unless look p) r a b k s
unless_long {lookahead = lookahead} {bodies = bodies} {source = source} {look = look} {p = p} {r = r} {s = s} {a = a} {b = b} {k = k} i x =
    record { derives = is_unless i x.derives; longest = only }
  where
    only : (c : ℕ) (l : Option ℕ) (o : Read) → Derives lookahead bodies source (unless look p) r a c l o
        → IsNoLonger lookahead source (unless look p) b k s c l o
    only c l o (is_unless j u) = x.longest c l o u

pub unless_none : {lookahead : Lookahead → ℕ → Type 0} {bodies : Bodies} {source : Source} {look : Lookahead} {p : Rule} {r : Read} {a : ℕ}
    → NoDerivation lookahead bodies source p r a → NoDerivation lookahead bodies source (unless look p) r a
unless_none x b k t (is_unless i u) = x b k t u

pub unless_seen : {lookahead : Lookahead → ℕ → Type 0} {bodies : Bodies} {source : Source} {look : Lookahead} {p : Rule} {r : Read} {a : ℕ}
    → lookahead look a → NoDerivation lookahead bodies source (unless look p) r a
unless_seen x b k t (is_unless i u) = i x

open_shut : (s : Terminal) → close_brace s ≡ true → continuation_set balanced true s ≡ false
open_shut terminal.CloseBrace e = refl
open_shut _ e = cc

some_same : {k l : ℕ} → Some k ≡ Some l → k ≡ l
some_same e = cc

apart_is : kept_apart ≡ in_trees → ⊥
apart_is e = cc

-- four parts that are the same
all_four : {k k' m m' n n' : ℕ} {s s' : Read} (g : ℕ → ℕ → ℕ → Read → Read) → k ≡ k' → m ≡ m' → n ≡ n' → s ≡ s' → g k m n s ≡ g k' m' n' s'
all_four g e f h i = cc

-- a body that is kept apart
pub body_long : {lookahead : Lookahead → ℕ → Type 0} {source : Source} {kind : NodeKind} {p : Rule} {r t u : Read} {a m n lambda : ℕ} {j : Option ℕ}
    → LongestMatch lookahead kept_apart source p no_read a m (Some lambda) t → apart p (word open_brace) ≡ true
    → open_brace (terminal_at source m) ≡ true → LongestMatch lookahead kept_apart source (form balanced) no_read (m + 1) n j u
    → close_brace (terminal_at source n) ≡ true
    → LongestMatch lookahead kept_apart source (with_body kind p) r a (n + 1) None (and_then r (with_body_apart kind (position_at source a) lambda (m + 1) n t))
body_long {lookahead = lookahead} {source = source} {kind = kind} {p = p} {r = r} {t = t} {u = u} {a = a} {m = m} {n = n} {lambda = lambda} x e f y g
    = record { derives = is_kept_apart refl x.derives refl f y.derives g refl refl refl; longest = only }
  where
    shut : (c d : ℕ) (s v : Read) (l : Option ℕ) → c ≡ m → Derives lookahead kept_apart source (form balanced) s (c + 1) d l v → s ≡ no_read
        → close_brace (terminal_at source d) ≡ true → d ≡ n
    shut c d s v l h z i g' = elim (y.longest d l v (carry (ap (λ (w : ℕ). w + 1) h) i z)) [
      | inl w ↦ absurd (either_way lookahead d (λ seen o. true≢false (back (w.1 seen o) ∙ open_shut (terminal_at source d) g')))
      | inr w ↦ w.0
    ]

    only : (c : ℕ) (l : Option ℕ) (o : Read) → Derives lookahead kept_apart source (with_body kind p) r a c l o
        → IsNoLonger lookahead source (with_body kind p) (n + 1) None (and_then r (with_body_apart kind (position_at source a) lambda (m + 1) n t)) c l o
    only c l o (is_kept_apart {t = t'} {u = u'} {m = m'} {n = n'} {lambda = lambda'} {j = j'} {l = l'} d x' el f' y' g' eb ek es) =
        elim (x.longest m' l' t' x') [
          | inl h ↦ absurd (never_both lookahead source p (word open_brace) m' e h.1 (λ seen w. f'))
          | inr h ↦ let i : n' ≡ n = shut m' n' no_read u' j' h.0 y' refl g' in
              let s : lambda' ≡ lambda = some_same (back el ∙ h.1) in
              inr (
                eb ∙ ap (λ (w : ℕ). w + 1) i,
                ek,
                es ∙ all_four (λ (z : ℕ) (v : ℕ) (q : ℕ) (w : Read). and_then r
                    (with_body_apart kind (position_at source a) z (v + 1) q w)) s h.0 i h.2,
              )
        ]
    only c l o (is_in_tree d x' y' ek es) = absurd (apart_is d)
