-- One rule or another where both may have texts.
--
-- OnlyEmpty p r a: no text of p from a but the empty one.
--   empty_none x, empty_at z e refl refl, empty_by_first f, empty_always refl, empty_either x y
-- left_filled x refl y               : LongestMatch (p ∣ q)         where x : LongestMatch p, y : OnlyEmpty q
-- left_past x y e h                  : LongestMatch (p ∣ before_no test q)      where a refused token follows the longest text of q
-- left_past_or x y e h z             : LongestMatch (p ∣ before_no test q ∣ o)  where o has no text
-- where_over x e f                   : NoDerivation (where_ test p), where the longest text is refused, and each shorter one
-- where_chain c e refl f             : LongestMatch (where_ test (q · many p)) of a chain whose end passes, and no longer run does
use Rattle.std.proofs.Common.{◌≡◌, ℕ, ◌<◌, ◌≤◌, inl, inr, Bool, true, false, not, ◌&&◌, refl, sym as back, ◌∙◌, subst, ap, arith, Option, Some, None}
use Rattle.std.proofs.Common.{true≢false}
use Rattle.std.proofs.lemmas.Bool.{not_from_false, cases_lt, and_from, and_parts, not-true}
use Rattle.cpp_syntax.specs.declared.terminal.Terminal.{Terminal}
use Rattle.cpp_syntax.specs.Source.{Source, terminal_at}
use Rattle.cpp_syntax.specs.Rules.{Lookahead, Rule, ◌·◌, ◌∣◌, many, where_, before_no}
use Rattle.cpp_syntax.specs.Derivations.{Read, first_or, Bodies, Derives, is_left, is_right, is_last, is_more, is_where, is_before}
use Rattle.cpp_syntax.specs.FirstSets.{rule_first_set, rule_nullable, rule_continuation_set, StartsRule, ContinuesRule}
use Rattle.cpp_syntax.specs.Longest.{IsNoLonger, LongestMatch, NoDerivation}
use Rattle.cpp_syntax.proofs.TerminalTables.{passes, at_each}
use Rattle.cpp_syntax.proofs.FirstTerminals.{ends_behind, empty_or, not_empty, begins_so}
use Rattle.cpp_syntax.proofs.DisjointFirstSets.{either_way}
use Rattle.cpp_syntax.proofs.LongestMatches.{left_over, within_left, within_right, third_of, Chain}

-- A rule that has no text from an index but the empty one.

abbrev pub OnlyEmpty : (Lookahead → ℕ → Type 0) → Bodies → Source → Rule → Read → ℕ → Type 0
OnlyEmpty lookahead bodies source p r a = (b : ℕ) (k : Option ℕ) (s : Read) → Derives lookahead bodies source p r a b k s → a < b → ⊥

pub empty_none : {lookahead : Lookahead → ℕ → Type 0} {bodies : Bodies} {source : Source} {p : Rule} {r : Read} {a : ℕ}
    → NoDerivation lookahead bodies source p r a → OnlyEmpty lookahead bodies source p r a
empty_none x b k s u h = x b k s u

-- since none begins with its terminal
pub empty_at : {lookahead : Lookahead → ℕ → Type 0} {bodies : Bodies} {source : Source} {p : Rule} {r : Read} {a : ℕ} (z : Terminal)
    → terminal_at source a ≡ z → rule_first_set p true z ≡ false → rule_first_set p false z ≡ false → OnlyEmpty lookahead bodies source p r a
empty_at {lookahead = lookahead} {source = source} {p = p} {a = a} z e g h b k s u lt =
    either_way lookahead a (λ seen w. true≢false (back (begins_so u lt seen w) ∙ ap (λ (y : Terminal). rule_first_set p seen y) e ∙ by seen))
  where
    by : (seen : Bool) → rule_first_set p seen z ≡ false
    by true = g
    by false = h

pub empty_by_first : {lookahead : Lookahead → ℕ → Type 0} {bodies : Bodies} {source : Source} {p : Rule} {r : Read} {a : ℕ}
    → ((seen : Bool) → rule_first_set p seen (terminal_at source a) ≡ false) → OnlyEmpty lookahead bodies source p r a
empty_by_first e b k s u lt = empty_at _ refl (e true) (e false) b k s u lt

-- since its texts have no token
pub empty_always : {lookahead : Lookahead → ℕ → Type 0} {bodies : Bodies} {source : Source} {p : Rule} {r : Read} {a : ℕ}
    → (passes (λ s. not (rule_first_set p true s)) && passes (λ s. not (rule_first_set p false s))) ≡ true → OnlyEmpty lookahead bodies source p r a
empty_always {source = source} {p = p} {a = a} e b k s u lt = empty_at (terminal_at source a) refl
    (not-true (rule_first_set p true (terminal_at source a)) (at_each (λ z. not (rule_first_set p true z))
    (and_parts (passes (λ z. not (rule_first_set p true z))) (passes (λ z. not (rule_first_set p false z))) e).0 (terminal_at source a)))
    (not-true (rule_first_set p false (terminal_at source a)) (at_each (λ z. not (rule_first_set p false z))
    (and_parts (passes (λ z. not (rule_first_set p true z))) (passes (λ z. not (rule_first_set p false z))) e).1 (terminal_at source a)))
    b k s u lt

pub empty_either : {lookahead : Lookahead → ℕ → Type 0} {bodies : Bodies} {source : Source} {p q : Rule} {r : Read} {a : ℕ}
    → OnlyEmpty lookahead bodies source p r a → OnlyEmpty lookahead bodies source q r a → OnlyEmpty lookahead bodies source (p ∣ q) r a
empty_either x y b k s (is_left u) h = x b k s u h
empty_either x y b k s (is_right u) h = y b k s u h

-- the longest text of one rule, where the other has the empty one alone
pub left_filled : {lookahead : Lookahead → ℕ → Type 0} {bodies : Bodies} {source : Source} {p q : Rule} {r s : Read} {a b : ℕ} {k : Option ℕ}
    → LongestMatch lookahead bodies source p r a b k s → rule_nullable p ≡ false → OnlyEmpty lookahead bodies source q r a
    → LongestMatch lookahead bodies source (p ∣ q) r a b k s
left_filled {lookahead = lookahead} {bodies = bodies} {source = source} {p = p} {q = q} {r = r} {s = s} {a = a} {b = b} {k = k} x e y = left_over x over
  where
    over : (c : ℕ) (l : Option ℕ) (o : Read) → Derives lookahead bodies source q r a c l o → IsNoLonger lookahead source (p ∣ q) b k s c l o
    over c l o u = elim (cases_lt a c) [
      | inl h ↦ absurd (y c l o u h)
      | inr h ↦ let n = ends_behind u in let same : a ≡ c = omega (arith, h, n) in let lt : a < b = not_empty x.derives e in
          inl (
            omega (arith, same, lt),
            λ seen w. third_of (rule_continuation_set p seen (terminal_at source c)) (rule_continuation_set q seen (terminal_at source c))
                (rule_nullable q && rule_first_set p seen (terminal_at source c)) (rule_nullable p && rule_first_set q seen (terminal_at source c))
                (and_from (rule_nullable q) (rule_first_set p seen (terminal_at source c))
                (elim (empty_or u) [ inl z ↦ absurd (omega (arith, z, h)) | inr z ↦ z ])
                (subst (λ (z : ℕ). StartsRule lookahead source p z) same (begins_so x.derives lt) seen w)),
          )
    ]

-- The longest text of one rule, which goes past the longest of the other: a token follows that one before which it may
-- not stand.
past : {lookahead : Lookahead → ℕ → Type 0} {bodies : Bodies} {source : Source} {test : Terminal → Bool} {q : Rule} {r t : Read} {a m b c : ℕ}
    {j l : Option ℕ} {o : Read}
    → LongestMatch lookahead bodies source q r a m l t → test (terminal_at source m) ≡ true → m ≤ b
    → Derives lookahead bodies source (before_no test q) r a c j o → (c < b) × ContinuesRule lookahead source (before_no test q) c
past {source = source} {test = test} {q = q} {c = c} {j = j} {o = o} y e le (is_before u f) = elim (y.longest c j o u) [
  | inl h ↦ let lt =
      h.0 in (
        omega (arith, lt, le),
        λ seen w. and_from (rule_continuation_set q seen (terminal_at source c)) (not (test (terminal_at source c)))
            (h.1 seen w) (not_from_false (test (terminal_at source c)) f),
      )
  | inr h ↦ absurd (true≢false (back e ∙ back (ap (λ (z : ℕ). test (terminal_at source z)) h.0) ∙ f))
]

pub left_past : {lookahead : Lookahead → ℕ → Type 0} {bodies : Bodies} {source : Source} {test : Terminal → Bool} {p q : Rule} {r s t : Read}
    {a m b : ℕ} {k l : Option ℕ}
    → LongestMatch lookahead bodies source p r a b k s → LongestMatch lookahead bodies source q r a m l t → test (terminal_at source m) ≡ true → m ≤ b
    → LongestMatch lookahead bodies source (p ∣ before_no test q) r a b k s
left_past {lookahead = lookahead} {bodies = bodies} {source = source} {test = test} {p = p} {q = q} {r = r} {s = s} {a = a} {m = m} {b = b} {k = k} x
    y e le = left_over x over
  where
    over : (c : ℕ) (l : Option ℕ) (o : Read) → Derives lookahead bodies source (before_no test q) r a c l o
        → IsNoLonger lookahead source (p ∣ before_no test q) b k s c l o
    over c l o u = within_right lookahead source p (before_no test q) b k s c l o (inl (past y e le u))

-- the same where more rules follow, of which none has a text
pub left_past_or : {lookahead : Lookahead → ℕ → Type 0} {bodies : Bodies} {source : Source} {test : Terminal → Bool} {p q o : Rule} {r s t : Read}
    {a m b : ℕ} {k l : Option ℕ}
    → LongestMatch lookahead bodies source p r a b k s → LongestMatch lookahead bodies source q r a m l t → test (terminal_at source m) ≡ true → m ≤ b
    → NoDerivation lookahead bodies source o r a → LongestMatch lookahead bodies source (p ∣ before_no test q ∣ o) r a b k s
left_past_or {lookahead = lookahead} {bodies = bodies} {source = source} {test = test} {p = p} {q = q} {o = o} {r = r} {s = s} {a = a} {m = m}
    {b = b} {k = k} x y e le z = left_over x over
  where
    over : (c : ℕ) (l : Option ℕ) (v : Read) → Derives lookahead bodies source (before_no test q ∣ o) r a c l v
        → IsNoLonger lookahead source (p ∣ before_no test q ∣ o) b k s c l v
    over c l v (is_left u) =
        within_right lookahead source p (before_no test q ∣ o) b k s c l v (within_left lookahead source (before_no test q) o b k s c l v
        (inl (past y e le u)))
    over c l v (is_right u) = absurd (z c l v u)

-- Where a rule's longest text is refused, and no shorter one is there.
pub where_over : {lookahead : Lookahead → ℕ → Type 0} {bodies : Bodies} {source : Source} {test : Source → ℕ → ℕ → Bool} {p : Rule} {r s : Read}
    {a b : ℕ} {k : Option ℕ}
    → LongestMatch lookahead bodies source p r a b k s → test source a b ≡ false
    → ((c : ℕ) → c < b → ContinuesRule lookahead source p c → test source a c ≡ false) → NoDerivation lookahead bodies source (where_ test p) r a
where_over {source = source} {test = test} {a = a} x e f c l o (is_where u g) = elim (x.longest c l o u) [
  | inl h ↦ true≢false (back g ∙ f c h.0 h.1)
  | inr h ↦ true≢false (back g ∙ ap (λ (z : ℕ). test source a z) h.0 ∙ e)
]

-- a text of some, whose end passes a test that no longer run passes
pub where_chain : {lookahead : Lookahead → ℕ → Type 0} {bodies : Bodies} {source : Source} {test : Source → ℕ → ℕ → Bool} {q p : Rule} {r s : Read}
    {a b : ℕ} {k : Option ℕ}
    → Chain lookahead bodies source q p r a b k s → test source a b ≡ true → rule_nullable p ≡ false
    → ((c : ℕ) (l : Option ℕ) (o : Read) → Derives lookahead bodies source (many p) s b c l o → b < c → test source a c ≡ false)
    → LongestMatch lookahead bodies source (where_ test (q · many p)) r a b k s
where_chain {lookahead = lookahead} {bodies = bodies} {source = source} {test = test} {q = q} {p = p} {r = r} {s = s} {a = a} {b = b} {k = k} x e f g
    = record {
      derives = is_where (subst (λ (z : Option ℕ). Derives lookahead bodies source (q · many p) r a b z s) (none_behind_ k)
          (x.derives b None s (is_last refl refl refl))) e;
      longest = only;
    }
  where
    none_behind_ : (j : Option ℕ) → first_or j None ≡ j
    none_behind_ None = refl
    none_behind_ (Some n) = refl

    more_ : (c : ℕ) (l j : Option ℕ) (o : Read) → Derives lookahead bodies source (many p) s b c j o → l ≡ first_or k j → test source a c ≡ true
        → IsNoLonger lookahead source (where_ test (q · many p)) b k s c l o
    more_ c l j o (is_last h i y) w z = inr (h, w ∙ ap (λ (v : Option ℕ). first_or k v) i ∙ none_behind_ k, y)
    more_ c l j o (is_more u v h) w z =
        let n = not_empty u f in let m = ends_behind v in absurd (true≢false (back z ∙ g c j o (is_more u v h) (omega (arith, n, m))))

    only : (c : ℕ) (l : Option ℕ) (o : Read) → Derives lookahead bodies source (where_ test (q · many p)) r a c l o
        → IsNoLonger lookahead source (where_ test (q · many p)) b k s c l o
    only c l o (is_where u z) = elim (x.longest c l o u) [
      | inl h ↦ inl h
      | inr h ↦ more_ c l h.0 o h.1 h.2 z
    ]
