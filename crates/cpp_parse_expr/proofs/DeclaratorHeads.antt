-- What readers of declarators answer: by the terminal that stands there, and by whether a name begins there.
use Rattle.std.proofs.Common.{◌≡◌, ℕ, ◌+◌, ◌≤◌, ◌⊎◌, inl, inr, Bool, true, false, ◌&&◌, ◌||◌, refl, sym as back, ◌∙◌, subst, arith, length, Option, Some}
use Rattle.std.proofs.Common.{None, Result, Ok, Err, true≢false}
use Rattle.std.proofs.lemmas.Bool.{and_from, or_left, or_right, or_cases, and_parts}
use Rattle.std.specs.declared.alloc.AllocError.{AllocError}
use Rattle.cpp_ast.specs.declared.kinds.NodeKind.TheVariants.{OmittedId}
use Rattle.cpp_syntax.specs.declared.terminal.Terminal.{Terminal}
use Rattle.cpp_syntax.specs.declared.positions.Checkpoint.{Checkpoint}
use Rattle.cpp_syntax.specs.Source.{Source, terminal_at, position_at}
use Rattle.cpp_syntax.specs.Terminals.{is_name, is_type_name, colon_colon, star, amp}
use Rattle.cpp_syntax.specs.Shapes.{is_qualified_name_at, begins_name_at}
use Rattle.cpp_syntax.specs.Names.{may_name, is_in_block}
use Rattle.cpp_syntax.specs.Rules.{whole, Naming, named, unnamed, either, in_block, declarator, direct_declarator, Lookahead, Rule, ◌·◌, ◌∣◌, many, form}
use Rattle.cpp_syntax.specs.Rules.{optional}
use Rattle.cpp_syntax.specs.Grammar.{declarator_id, declarator_head, parenthesized_declarator, pointer_declarator, reference_declarator, omitted_id}
use Rattle.cpp_syntax.specs.Grammar.{array_suffix, suffix}
use Rattle.cpp_syntax.specs.Derivations.{Read, no_read, reads_node, Bodies, Derives, is_nothing, is_word, is_mark, is_both, is_left, is_right, is_last}
use Rattle.cpp_syntax.specs.Derivations.{is_form, is_node, kept_apart}
use Rattle.cpp_syntax.specs.Lookahead.{lookahead}
use Rattle.cpp_syntax.specs.FirstSets.{need_not_name}
use Rattle.cpp_syntax.specs.Longest.{IsNoLonger, LongestMatch, NoDerivation}
use Rattle.cpp_syntax.specs.View.{BuilderState, appended, IsMark}
use Rattle.cpp_syntax.specs.Parsed.{ReadsLongest, ReadsBehind, NoneOf, ParsesLongest, ParsesAlways, ParsesAlwaysBehind}
use Rattle.cpp_syntax.proofs.DisjointFirstSets.{goes_within, goes_wider}
use Rattle.cpp_syntax.proofs.LongestMatches.{neither, mark_none, seq_none, nothing_long, node_long, node_none, form_none}
use Rattle.cpp_syntax.proofs.Alternatives.{OnlyEmpty, left_filled}
use Rattle.cpp_syntax.proofs.DeclaratorForms.{unlike, stays, with_head_long, without_head_long, head_apart, omitted_apart}
use Rattle.cpp_syntax.proofs.Readers.{reads_form, reads_right}
use Rattle.cpp_syntax.proofs.ReaderLoops.{seq_behind}
use Rattle.cpp_parse_expr.proofs.TreeAdding.{adds_tree, filled}
use Rattle.cpp_parse_expr.proofs.UnmarkedRules.{reads_unmarked}
use Rattle.cpp_parse_expr.proofs.ReaderAnswers.{none_unlike, parsed_left, parsed_right, parsed_form}

-- Names that begin at an index.

qualified_begins : {lookahead : Lookahead → ℕ → Type 0} {bodies : Bodies} {source : Source} {r s : Read} {a b : ℕ} {k : Option ℕ}
    → Derives lookahead bodies source declarator_id r a b k s → begins_name_at source a ≡ true
qualified_begins {source = source} {a = a} (is_left (is_node (is_mark t e f g) h i)) =
    or_left (is_name (terminal_at source a)) (is_qualified_name_at source a) t
qualified_begins {source = source} {a = a} (is_right (is_node (is_both {m = m} (is_node (is_mark t e f g) h i)
    (is_both {m = n} (is_word u e' f' g') (is_mark v e'' f'' g'') j) j') k' l')) =
    let at : n ≡ a + 2 = omega (arith, e, e') in
    or_right (is_name (terminal_at source a)) (is_qualified_name_at source a)
    (and_from (is_type_name (terminal_at source a) && colon_colon (terminal_at source (a + 1))) (is_name (terminal_at source (a + 2)))
    (and_from (is_type_name (terminal_at source a)) (colon_colon (terminal_at source (a + 1))) t
    (subst (λ (z : ℕ). colon_colon (terminal_at source z) ≡ true) e u))
    (subst (λ (z : ℕ). is_name (terminal_at source z) ≡ true) at v))

pub no_name : {lookahead : Lookahead → ℕ → Type 0} {bodies : Bodies} {source : Source} {r : Read} (a : ℕ) → begins_name_at source a ≡ false
    → NoDerivation lookahead bodies source declarator_id r a
no_name a e b k s x = true≢false (back (qualified_begins x) ∙ e)

abbrev names : Terminal → Bool
names s = is_name s || is_type_name s

named_by : (source : Source) (a : ℕ) → begins_name_at source a ≡ true → names (terminal_at source a) ≡ true
named_by source a e = elim (or_cases (is_name (terminal_at source a)) (is_qualified_name_at source a) e) [
  | inl h ↦ or_left (is_name (terminal_at source a)) (is_type_name (terminal_at source a)) h
  | inr h ↦ or_right (is_name (terminal_at source a)) (is_type_name (terminal_at source a))
      (and_parts (is_type_name (terminal_at source a)) (colon_colon (terminal_at source (a + 1)))
      (and_parts (is_type_name (terminal_at source a) && colon_colon (terminal_at source (a + 1))) (is_name (terminal_at source (a + 2))) h).0).0
]

no_parentheses : {lookahead : Lookahead → ℕ → Type 0} {bodies : Bodies} {source : Source} (n : Naming) {r : Read} (a : ℕ)
    → begins_name_at source a ≡ true → NoDerivation lookahead bodies source (parenthesized_declarator whole n) r a
no_parentheses {source = source} n a e = none_unlike names (named_by source a e) refl refl

-- Heads.

pub head_named : (s : Source) (n : Naming) (a : ℕ) (v w : BuilderState) (r : Result (Option ℕ) AllocError) → may_name n ≡ true
    → begins_name_at s a ≡ true → ParsesLongest s declarator_id a None v w r → ParsesLongest s (declarator_head whole n) a None v w r
head_named s named a v w r e f h = parsed_left s declarator_id (parenthesized_declarator whole named) a None v w r (no_parentheses named a f) h
head_named s either a v w r e f h = parsed_left s declarator_id (parenthesized_declarator whole either) a None v w r (no_parentheses either a f) h
head_named s in_block a v w r e f h = parsed_left s declarator_id (parenthesized_declarator whole in_block) a None v w r (no_parentheses in_block a f) h
head_named s unnamed a v w r e f h = absurd (true≢false (back e))

pub head_in_parentheses : (s : Source) (n : Naming) (a : ℕ) (v w : BuilderState) (r : Result (Option ℕ) AllocError)
    → (may_name n ≡ false) ⊎ (begins_name_at s a ≡ false) → ParsesLongest s (parenthesized_declarator whole n) a None v w r
    → ParsesLongest s (declarator_head whole n) a None v w r
head_in_parentheses s unnamed a v w r e h = h
head_in_parentheses s named a v w r (inl e) h = absurd (true≢false e)
head_in_parentheses s named a v w r (inr e) h = parsed_right s declarator_id (parenthesized_declarator whole named) a None v w r (no_name a e) h
head_in_parentheses s either a v w r (inl e) h = absurd (true≢false e)
head_in_parentheses s either a v w r (inr e) h = parsed_right s declarator_id (parenthesized_declarator whole either) a None v w r (no_name a e) h
head_in_parentheses s in_block a v w r (inl e) h = absurd (true≢false e)
head_in_parentheses s in_block a v w r (inr e) h = parsed_right s declarator_id (parenthesized_declarator whole in_block) a None v w r (no_name a e) h

-- Direct declarators.

-- a choice whose first rule has no text is the second
pub right_alone : {s : Source} {p q : Rule} {a b : ℕ} {k : Option ℕ} {v w : BuilderState} → ReadsLongest s (p ∣ q) a b k v w
    → ((r : Read) → NoDerivation (lookahead s) kept_apart s p r a) → goes_within (p ∣ q) q ≡ true → ReadsLongest s q a b k v w
right_alone {s = s} {p = p} {q = q} {a = a} {b = b} {k = k} {v = v} {w = w} x n e =
    record {
      got = x.got;
      long = record { derives = only (x.long).derives; longest = longest };
      gained = x.gained;
      ahead = x.ahead;
      inside = x.inside;
    }
  where
    only : {r t : Read} {c : ℕ} {l : Option ℕ} → Derives (lookahead s) kept_apart s (p ∣ q) r a c l t → Derives (lookahead s) kept_apart s q r a c l t
    only {r = r} {t = t} {c = c} {l = l} (is_left u) = absurd (n r c l t u)
    only (is_right u) = u

    longest : (c : ℕ) (l : Option ℕ) (o : Read) → Derives (lookahead s) kept_apart s q no_read a c l o → IsNoLonger (lookahead s) s q b k x.got c l o
    longest c l o u = elim ((x.long).longest c l o (is_right u)) [
      | inl h ↦ inl (h.0, goes_wider (lookahead s) s (p ∣ q) q c e h.1)
      | inr h ↦ inr h
    ]

pub direct_name : (s : Source) (n : Naming) (a : ℕ) (v w : BuilderState) (r : Result (Option ℕ) AllocError) → is_in_block n ≡ true
    → begins_name_at s a ≡ true → ParsesLongest s (declarator_id · optional (array_suffix whole · many (suffix whole n))) a None v w r
    → ParsesLongest s (form (direct_declarator whole n)) a None v w r
direct_name s in_block a v w r e f h =
    parsed_form s (direct_declarator whole in_block) a None v w r (parsed_left s (declarator_id · optional
    (array_suffix whole · many (suffix whole in_block))) (parenthesized_declarator whole in_block · many (suffix whole in_block)) a None v w r
    (seq_none (no_parentheses in_block a f)) h)
direct_name s named a v w r e f h = absurd (true≢false (back e))
direct_name s unnamed a v w r e f h = absurd (true≢false (back e))
direct_name s either a v w r e f h = absurd (true≢false (back e))

abbrev with_more : {s : Source} {p q : Rule} {a b : ℕ} {k : Option ℕ} {v w : BuilderState} (x : ReadsLongest s p a b k v w)
    → LongestMatch (lookahead s) kept_apart s q no_read a b k x.got → ReadsLongest s q a b k v w
with_more x y = record { got = x.got; long = y; gained = x.gained; ahead = x.ahead; inside = x.inside }

-- with a head
pub direct_head : (s : Source) (n : Naming) {a m b : ℕ} {u v w : BuilderState} → (is_in_block n ≡ false) ⊎ (begins_name_at s a ≡ false)
    → (x : ReadsLongest s (declarator_head whole n) a m None u v) → ReadsBehind s (many (suffix whole n)) u x.got m b w
    → ReadsLongest s (form (direct_declarator whole n)) a b None u w
unfolding right_alone
direct_head s named e x y = reads_form (seq_behind x y (head_apart whole named))
direct_head s unnamed e x y = let z = seq_behind x y (head_apart whole unnamed) in reads_form (with_more z (with_head_long whole unnamed refl z.long))
direct_head s either e x y = let z = seq_behind x y (head_apart whole either) in reads_form (with_more z (with_head_long whole either refl z.long))
direct_head s in_block (inl e) x y = absurd (true≢false e)
direct_head s in_block {a = a} (inr e) x y =
    let z = right_alone x (λ r. no_name a e) refl in
    reads_form (reads_right (seq_none (no_name a e)) (seq_behind z (record {
      marked = y.marked;
      got = y.got;
      long = y.long;
      gained = y.gained;
      ahead
          = y.ahead;
      inside = y.inside;
    }) refl))

-- without one
pub direct_omitted : (s : Source) (n : Naming) {a b : ℕ} {u w : BuilderState} → need_not_name n ≡ true → NoneOf s (declarator_head whole n) a
    → ReadsLongest s (omitted_id · many (suffix whole n)) a b None u w → ReadsLongest s (form (direct_declarator whole n)) a b None u w
direct_omitted s unnamed e x y = reads_form (with_more y (without_head_long whole unnamed x y.long))
direct_omitted s either e x y = reads_form (with_more y (without_head_long whole either x y.long))
direct_omitted s named e x y = absurd (true≢false (back e))
direct_omitted s in_block e x y = absurd (true≢false (back e))

pub direct_none : (s : Source) (n : Naming) {a : ℕ} → need_not_name n ≡ false → (is_in_block n ≡ false) ⊎ (begins_name_at s a ≡ false)
    → NoneOf s (declarator_head whole n) a → NoneOf s (form (direct_declarator whole n)) a
direct_none s named e f x = form_none (seq_none x)
direct_none s in_block e (inl f) x = absurd (true≢false f)
direct_none s in_block {a = a} e (inr f) x = form_none (neither (seq_none (no_name a f)) (seq_none (λ b k t y. x b k t (is_right y))))
direct_none s unnamed e f x = absurd (true≢false e)
direct_none s either e f x = absurd (true≢false e)

-- Declarators with * or &, and without.

only_empty : {lookahead : Lookahead → ℕ → Type 0} {bodies : Bodies} {source : Source} {p : Rule} {r : Read} {a : ℕ} (test : Terminal → Bool)
    → test (terminal_at source a) ≡ true → unlike test p ≡ true → OnlyEmpty lookahead bodies source p r a
only_empty test t e b k s x h = let same = stays test x t e in omega (arith, same, h)

-- a declarator that need not name has a text everywhere
pub record Omits (s : Source) (n : Naming) (r : Read) (a : ℕ) : Type 0 where
  pub after : Read
  pub text : Derives (lookahead s) kept_apart s (form (declarator whole n)) r a a None after

pub omits : (s : Source) (n : Naming) (r : Read) (a : ℕ) → need_not_name n ≡ true → Omits s n r a
omits s unnamed r a e =
    record {
      after = _;
      text = is_form (is_right (is_right (is_form (is_right (is_both (is_node (is_nothing refl refl refl) refl refl)
          (is_last refl refl refl) refl)) refl refl))) refl refl;
    }
omits s either r a e =
    record {
      after = _;
      text = is_form (is_right (is_right (is_form (is_right (is_both (is_node (is_nothing refl refl refl) refl refl)
          (is_last refl refl refl) refl)) refl refl))) refl refl;
    }
omits s named r a e = absurd (true≢false (back e))
omits s in_block r a e = absurd (true≢false (back e))

pointer_there : (s : Source) (n : Naming) (a : ℕ) → need_not_name n ≡ true → star (terminal_at s a) ≡ true → NoneOf s (pointer_declarator whole n) a → ⊥
pointer_there s n a e t x =
    let o = omits s n no_read (a + 1) e in x (a + 1) None _ (is_node (is_both (is_mark t refl refl refl)
    (is_both (is_last refl refl refl) o.text refl) refl) refl refl)

reference_there : (s : Source) (n : Naming) (a : ℕ) → need_not_name n ≡ true → amp (terminal_at s a) ≡ true → NoneOf s (reference_declarator whole n) a → ⊥
reference_there s n a e t x = let o = omits s n no_read (a + 1) e in x (a + 1) None _ (is_node (is_both (is_mark t refl refl refl) o.text refl) refl refl)

star_else : (n : Naming) → unlike star (reference_declarator whole n ∣ form (direct_declarator whole n)) ≡ true
star_else named = refl
star_else unnamed = refl
star_else either = refl
star_else in_block = refl

amp_else : (n : Naming) → unlike amp (form (direct_declarator whole n)) ≡ true
amp_else named = refl
amp_else unnamed = refl
amp_else either = refl
amp_else in_block = refl

star_none : (s : Source) (n : Naming) (a : ℕ) → star (terminal_at s a) ≡ true → NoneOf s (pointer_declarator whole n) a → NoneOf s (form (declarator whole n)) a
star_none s named a t x = form_none (neither x (none_unlike star t (star_else named) refl))
star_none s in_block a t x = form_none (neither x (none_unlike star t (star_else in_block) refl))
star_none s unnamed a t x = absurd (pointer_there s unnamed a refl t x)
star_none s either a t x = absurd (pointer_there s either a refl t x)

amp_none : (s : Source) (n : Naming) (a : ℕ) → amp (terminal_at s a) ≡ true → NoneOf s (reference_declarator whole n) a → NoneOf s (form (declarator whole n)) a
amp_none s named a t x = form_none (neither (none_unlike amp t refl refl) (neither x (none_unlike amp t (amp_else named) refl)))
amp_none s in_block a t x = form_none (neither (none_unlike amp t refl refl) (neither x (none_unlike amp t (amp_else in_block) refl)))
amp_none s unnamed a t x = absurd (reference_there s unnamed a refl t x)
amp_none s either a t x = absurd (reference_there s either a refl t x)

pub at_star : (s : Source) (n : Naming) (a : ℕ) (v w : BuilderState) (r : Result (Option ℕ) AllocError) → star (terminal_at s a) ≡ true
    → ParsesLongest s (pointer_declarator whole n) a None v w r → ParsesLongest s (form (declarator whole n)) a None v w r
at_star s n a v w (Ok (Some next)) t x = reads_form (with_more x (left_filled x.long refl (only_empty star t (star_else n))))
at_star s n a v w (Ok None) t x = (x.0, star_none s n a t x.1)
at_star s n a v w (Err e) t x = x

pub at_amp : (s : Source) (n : Naming) (a : ℕ) (v w : BuilderState) (r : Result (Option ℕ) AllocError) → amp (terminal_at s a) ≡ true
    → ParsesLongest s (reference_declarator whole n) a None v w r → ParsesLongest s (form (declarator whole n)) a None v w r
at_amp s n a v w (Ok (Some next)) t x =
    reads_form (reads_right (none_unlike amp t refl refl) (with_more x (left_filled x.long refl (only_empty amp t (amp_else n)))))
at_amp s n a v w (Ok None) t x = (x.0, amp_none s n a t x.1)
at_amp s n a v w (Err e) t x = x

pub at_neither : (s : Source) (n : Naming) (a : ℕ) (v w : BuilderState) (r : Result (Option ℕ) AllocError) → star (terminal_at s a) ≡ false
    → amp (terminal_at s a) ≡ false → ParsesLongest s (form (direct_declarator whole n)) a None v w r
    → ParsesLongest s (form (declarator whole n)) a None v w r
at_neither s n a v w r t u x = parsed_form s (declarator whole n) a None v w r
    (parsed_right s (pointer_declarator whole n) (reference_declarator whole n ∣ form (direct_declarator whole n)) a None v w r
    (node_none (seq_none (mark_none t)))
    (parsed_right s (reference_declarator whole n) (form (direct_declarator whole n)) a None v w r (node_none (seq_none (mark_none u))) x))

-- What was read before the suffixes.

pub head_adds : (n : Naming) → adds_tree (declarator_head whole n) ≡ true
head_adds named = refl
head_adds unnamed = refl
head_adds either = refl
head_adds in_block = refl

pub omitted_there : {s : Source} {a : ℕ} {v w : BuilderState} → a ≤ length s.terminals
    → w ≡ appended v (reads_node OmittedId (position_at s a) None no_read) → ReadsLongest s omitted_id a a None v w
omitted_there {s = s} {a = a} i e =
    record { got = reads_node OmittedId (position_at s a) None no_read; long = node_long nothing_long; gained = e; ahead = omega arith; inside = i }

pub omitted_and : (s : Source) (n : Naming) (start : Checkpoint) (a : ℕ) (u v w : BuilderState) (r : Result ℕ AllocError)
    → ReadsLongest s omitted_id a a None u v → IsMark start u → ParsesAlwaysBehind s (many (suffix whole n)) start a v w r
    → ParsesAlways s (omitted_id · many (suffix whole n)) a None u w r
omitted_and s n start a u v w (Ok next) x m h = reads_unmarked (seq_behind x (h u x.got m x.gained (filled (x.long).derives refl)) (omitted_apart whole n)) refl
omitted_and s n start a u v w (Err e) x m h = h u x.got m x.gained (filled (x.long).derives refl)
