-- Parameters: void alone, a list, or nothing.
--
-- Of x, the longest text of optional (parameter_list reading) from a to b:
-- clause_void x t e  : the clause is void          where void stands at a and b ≡ a + 1
-- clause_kept x f    : the clause is that text     where it is not so
use Rattle.std.proofs.Common.{◌≡◌, ℕ, zero, suc, ◌+◌, ◌-◌, ◌<◌, ◌⊎◌, inl, inr, nat_eq, true, false, ◌&&◌, refl, sym as back, ◌∙◌, subst, ap, arith, List, []}
use Rattle.std.proofs.Common.{◌∷◌, take, drop, length, get_or, slice_range, Option, None, true≢false}
use Rattle.std.proofs.lemmas.Bool.{and_from, and_parts, cases_Bool, not_from_false, not_from_true}
use Rattle.cpp_syntax.specs.declared.terminal.Terminal.{Terminal}
use Rattle.cpp_syntax.specs.declared.terminal.Terminal.TheVariants as terminal
use Rattle.cpp_syntax.specs.Source.{Source, terminal_at}
use Rattle.cpp_syntax.specs.Terminals.{void_word, is_type_word}
use Rattle.cpp_syntax.specs.Types.{is_not_void, spells_a_type, is_spelling}
use Rattle.cpp_syntax.specs.Rules.{Reading, Lookahead, Rule, nothing, word, ◌∣◌, where_, optional}
use Rattle.cpp_syntax.specs.Grammar.{parameter_list}
use Rattle.cpp_syntax.specs.Derivations.{Read, Bodies, Derives, is_nothing, is_word, is_mark, is_both, is_left, is_right, is_last, is_form, is_node, is_where}
use Rattle.cpp_syntax.specs.FirstSets.{rule_continuation_set, ContinuesRule}
use Rattle.cpp_syntax.specs.Longest.{IsNoLonger, LongestMatch}
use Rattle.cpp_syntax.proofs.FirstTerminals.{not_empty}
use Rattle.cpp_syntax.proofs.WithinTokens.{token_inside}
use Rattle.cpp_syntax.proofs.DisjointFirstSets.{goes_wider}
use Rattle.cpp_syntax.proofs.LongestMatches.{word_long, left_over, third_of}

one_terminal : (xs : List Terminal) (a : ℕ) → a < length xs → slice_range xs a (a + 1) ≡ get_or xs a terminal.End ∷ []
one_terminal [] a h = absurd (omega (arith, h))
one_terminal (x ∷ xs) zero h = refl
one_terminal (x ∷ xs) (suc a) h =
    let e : suc a + 1 - suc a ≡ a + 1 - a = omega arith in ap (λ (n : ℕ). take n (drop a xs)) e ∙ one_terminal xs a (omega (arith, h))

void_is : (s : Terminal) → void_word s ≡ true → s ≡ terminal.Void
void_is terminal.Void e = refl
void_is _ e = cc

-- void is a type
void_spells : (source : Source) (a : ℕ) → void_word (terminal_at source a) ≡ true → spells_a_type source a (a + 1) ≡ true
void_spells source a t =
    ap is_spelling (one_terminal source.terminals a (token_inside source a void_word refl t) ∙ ap (λ (s : Terminal). s ∷ [])
    (void_is (terminal_at source a) t))

void_type : (s : Terminal) → void_word s ≡ true → is_type_word s ≡ true
void_type terminal.Void e = refl
void_type _ e = cc

-- void alone is a list of one parameter
record VoidAlone (lookahead : Lookahead → ℕ → Type 0) (bodies : Bodies) (source : Source) (reading : Reading) (r : Read) (a : ℕ) : Type 0 where
  marked : Option ℕ
  after : Read
  text : Derives lookahead bodies source (parameter_list reading) r a (a + 1) marked after

void_alone : (lookahead : Lookahead → ℕ → Type 0) (bodies : Bodies) (source : Source) (reading : Reading) (r : Read) (a : ℕ)
    → void_word (terminal_at source a) ≡ true → VoidAlone lookahead bodies source reading r a
void_alone lookahead bodies source reading r a t = record {
  marked = _;
  after = _;
  text = is_both
      (is_form (is_node (is_both
      (is_form (is_node (is_both (is_last refl refl refl)
      (is_both (is_form (is_left (is_where (is_both (is_node (is_mark (void_type (terminal_at source a) t) refl refl refl) refl refl)
      (is_last refl refl refl) refl) (void_spells source a t))) refl refl)
      (is_last refl refl refl) refl) refl) refl refl) refl refl)
      (is_form (is_right (is_right (is_form (is_right (is_both (is_node (is_nothing refl refl refl) refl refl) (is_last refl refl refl) refl)) refl
      refl))) refl refl)
      refl) refl refl) refl refl)
      (is_last refl refl refl) refl;
}

abbrev pub clause : Reading → Rule
clause reading = word void_word ∣ where_ is_not_void (parameter_list reading) ∣ nothing

abbrev pub items : Reading → Rule
items reading = where_ is_not_void (parameter_list reading) ∣ nothing

refused_void : (source : Source) (a b : ℕ) → void_word (terminal_at source a) ≡ true → b ≡ a + 1 → is_not_void source a b ≡ false
refused_void source a b t e =
    not_from_true (void_word (terminal_at source a) && nat_eq b (a + 1)) (and_from (void_word (terminal_at source a)) (nat_eq b (a + 1)) t
    (grind (arith, e)))

allowed : (source : Source) (a b : ℕ) → (void_word (terminal_at source a) ≡ true → b ≡ a + 1 → ⊥) → is_not_void source a b ≡ true
allowed source a b f = elim (cases_Bool (void_word (terminal_at source a) && nat_eq b (a + 1))) [
  | inl h ↦ let p = and_parts (void_word (terminal_at source a)) (nat_eq b (a + 1)) h in absurd (f p.0 (let e = p.1 in grind (arith, e)))
  | inr h ↦ not_from_false (void_word (terminal_at source a) && nat_eq b (a + 1)) h
]

-- where the longest list is void, the clause is void
pub clause_void : {lookahead : Lookahead → ℕ → Type 0} {bodies : Bodies} {source : Source} {reading : Reading} {r s : Read} {a b : ℕ} {k : Option ℕ}
    → LongestMatch lookahead bodies source (optional (parameter_list reading)) r a b k s → void_word (terminal_at source a) ≡ true → b ≡ a + 1
    → LongestMatch lookahead bodies source (clause reading) r a (a + 1) None r
clause_void {lookahead = lookahead} {bodies = bodies} {source = source} {reading = reading} {r = r} {a = a} x t e = left_over (word_long t) over
  where
    ends : (c : ℕ) → a < c → (c < a + 1) ⊎ (c ≡ a + 1) → c ≡ a + 1
    ends c h (inl i) = absurd (omega (arith, h, i))
    ends c h (inr i) = i

    over : (c : ℕ) (l : Option ℕ) (o : Read) → Derives lookahead bodies source (items reading) r a c l o
        → IsNoLonger lookahead source (clause reading) (a + 1) None r c l o
    over c l o (is_left (is_where u f)) =
        absurd (true≢false (back f ∙ refused_void source a c t (ends c (not_empty u refl)
        (elim (x.longest c l o (is_left u)) [ inl h ↦ let i = h.0 in inl (omega (arith, i, e)) | inr h ↦ inr (h.0 ∙ e) ]))))
    over c l o (is_right (is_nothing f g h)) =
        inl (
          omega (arith, f),
          λ seen w. third_of false (rule_continuation_set (items reading) seen (terminal_at source c))
              (void_word (terminal_at source c)) false (subst (λ (z : ℕ). void_word (terminal_at source z) ≡ true) (back f) t),
        )

-- where it is not, the clause is the list or nothing
pub clause_kept : {lookahead : Lookahead → ℕ → Type 0} {bodies : Bodies} {source : Source} {reading : Reading} {r s : Read} {a b : ℕ} {k : Option ℕ}
    → LongestMatch lookahead bodies source (optional (parameter_list reading)) r a b k s → (void_word (terminal_at source a) ≡ true → b ≡ a + 1 → ⊥)
    → LongestMatch lookahead bodies source (clause reading) r a b k s
clause_kept {lookahead = lookahead} {bodies = bodies} {source = source} {reading = reading} {r = r} {s = s} {a = a} {b = b} {k = k} x f =
    record { derives = is_right (kept b k s x.derives (allowed source a b f)); longest = only }
  where
    kept : (c : ℕ) (l : Option ℕ) (o : Read) → Derives lookahead bodies source (optional (parameter_list reading)) r a c l o
        → is_not_void source a c ≡ true → Derives lookahead bodies source (items reading) r a c l o
    kept c l o (is_left u) e = is_left (is_where u e)
    kept c l o (is_right u) e = is_right u

    wider : (c : ℕ) (l : Option ℕ) (o : Read) → IsNoLonger lookahead source (optional (parameter_list reading)) b k s c l o
        → IsNoLonger lookahead source (clause reading) b k s c l o
    wider c l o (inl h) = inl (h.0, goes_wider lookahead source (optional (parameter_list reading)) (clause reading) c refl h.1)
    wider c l o (inr h) = inr h

    only : (c : ℕ) (l : Option ℕ) (o : Read) → Derives lookahead bodies source (clause reading) r a c l o
        → IsNoLonger lookahead source (clause reading) b k s c l o
    only c l o (is_right (is_left (is_where u e))) = wider c l o (x.longest c l o (is_left u))
    only c l o (is_right (is_right u)) = wider c l o (x.longest c l o (is_right u))
    only c l o (is_left (is_word t e g h)) =
        let v = void_alone lookahead bodies source reading r a t in elim (x.longest (a + 1) v.marked v.after (is_left v.text)) [
          | inl i ↦ inl (
            let j = i.0 in omega (arith, e, j),
            goes_wider lookahead source (optional (parameter_list reading)) (clause reading) c refl
                (subst (λ (z : ℕ). ContinuesRule lookahead source (optional (parameter_list reading)) z) (back e) i.1),
          )
          | inr i ↦ absurd (f t (back i.0))
        ]
