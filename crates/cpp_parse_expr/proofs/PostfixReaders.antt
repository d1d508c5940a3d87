-- What readers answer behind a token or a text, and what stands behind an operand.
use Rattle.std.proofs.Common.{◌≡◌, ℕ, zero, suc, ◌+◌, ◌-◌, ◌<◌, ◌≤◌, nat_eq, Bool, true, false, ◌||◌, inl, inr, refl, sym as back, ◌∙◌, subst, ap, arith}
use Rattle.std.proofs.Common.{length, Option, Some, None, Result, Ok, Err, true≢false}
use Rattle.std.proofs.lemmas.Bool.{or_cases}
use Rattle.std.specs.Result.{IsErr}
use Rattle.std.specs.declared.alloc.AllocError.{AllocError}
use Rattle.cpp_ast.specs.declared.kinds.NodeKind.{NodeKind}
use Rattle.cpp_ast.specs.declared.kinds.NodeKind.TheVariants.{StdAbort, IntegerLiteral, CharacterLiteral, StringLiteral, BooleanLiteral, PointerLiteral, This}
use Rattle.cpp_syntax.specs.declared.terminal.Terminal.{Terminal}
use Rattle.cpp_syntax.specs.declared.terminal.Terminal.TheVariants as terminal
use Rattle.cpp_syntax.specs.declared.positions.Checkpoint.{Checkpoint}
use Rattle.cpp_parse_expr.specs.declared.expressions.Suffix.{Suffix}
use Rattle.cpp_syntax.specs.Source.{Source, terminal_at, position_at}
use Rattle.cpp_syntax.specs.Terminals.{level_of, is_type_name, is_integer, is_character, is_string, is_boolean, is_literal, nullptr_word, this_word, is_step}
use Rattle.cpp_syntax.specs.Terminals.{open_bracket, open_paren, dot, arrow, std, colon_colon, abort_word, tx_exception_word, ReadsAs}
use Rattle.cpp_syntax.specs.Rules.{Lookahead, primary_expression, cast_expression, binary_expression, Rule, word, mark, ◌·◌, ◌∣◌, many, form, wrap, unless}
use Rattle.cpp_syntax.specs.Rules.{whole}
use Rattle.cpp_syntax.specs.Grammar.{production, literal, qualified_id, subscript, arguments, member_access, pointer_member_access, postfix, std_abort}
use Rattle.cpp_syntax.specs.Grammar.{functional_cast, tx_exception}
use Rattle.cpp_syntax.specs.Derivations.{Read, no_read, and_then, first_or, reads_node, kept_apart, Bodies, Derives, is_word, is_mark, is_both, is_left}
use Rattle.cpp_syntax.specs.Derivations.{is_right, is_wrap}
use Rattle.cpp_syntax.specs.FirstSets.{rule_nullable}
use Rattle.cpp_syntax.specs.Lookahead.{lookahead}
use Rattle.cpp_syntax.specs.Longest.{IsNoLonger, LongestMatch, NoDerivation, is_free}
use Rattle.cpp_syntax.specs.View.{BuilderState, appended, IsMark}
use Rattle.cpp_syntax.specs.Parsed.{Leaves, ReadsLongest, NoneOf, ParsesLongest, ParsesAlways, ReadsLeaf}
use Rattle.cpp_parse_expr.specs.Suffixes.{SuffixOf, a_subscript, a_call, a_member, a_pointer_member, a_step, ReadsSuffix, ParsedSuffix, literal_kind}
use Rattle.cpp_syntax.proofs.TerminalTables.{at_each, implies, implied}
use Rattle.cpp_syntax.proofs.DisjointFirstSets.{apart, goes_within, goes_wider}
use Rattle.cpp_syntax.proofs.FirstTerminals.{not_empty}
use Rattle.cpp_syntax.proofs.IndependentDerivations.{free_none}
use Rattle.cpp_syntax.proofs.LongestMatches.{seq, seq_ends, form_long, word_long, mark_long, left, right, neither, word_none, mark_none, seq_none, node_long}
use Rattle.cpp_syntax.proofs.LongestMatches.{node_none, form_none, wrap_none, unless_none}
use Rattle.cpp_syntax.proofs.Readers.{reads_seq, reads_left, reads_right, none_behind}
use Rattle.cpp_syntax.proofs.LeafReaders.{always_leaf}
use Rattle.cpp_syntax.proofs.ReaderLoops.{gained_then, reads_unless, ReadsChain, loop_wrap, loop_ends}
use Rattle.cpp_syntax.proofs.OperatorLevels.{operated, level_read, levels_over}
use Rattle.cpp_parse_expr.proofs.ReaderAnswers.{parsed_form, mark_and, word_and, none_unlike, none_second, none_second_mark, reads_to}
use Rattle.cpp_parse_expr.proofs.WrappedOperands.{node_behind, chain_adds, no_wrap, Rounds}
use Rattle.cpp_syntax.proofs.SingleTerminals.{passed, passed_not}

-- What is answered of a rule, behind what stands before it.

pub parsed_mark : (s : Source) (test : Terminal → Bool) (q : Rule) (a : ℕ) (l : Option ℕ) (v w : BuilderState) (r : Result (Option ℕ) AllocError)
    → test (terminal_at s a) ≡ true → a < length s.terminals → is_free q ≡ true → apart (mark test) q ≡ true → ParsesLongest s q (a + 1) l v w r
    → ParsesLongest s (mark test · q) a (Some a) v w r
parsed_mark s test q a l v w (Ok (Some next)) t i f d h = mark_and t i h f d
parsed_mark s test q a l v w (Ok None) t i f d h = (h.0, none_second_mark h.1)
parsed_mark s test q a l v w (Err x) t i f d h = h

pub parsed_word : (s : Source) (test : Terminal → Bool) (q : Rule) (a : ℕ) (l : Option ℕ) (v w : BuilderState) (r : Result (Option ℕ) AllocError)
    → test (terminal_at s a) ≡ true → a < length s.terminals → is_free q ≡ true → apart (word test) q ≡ true → ParsesLongest s q (a + 1) l v w r
    → ParsesLongest s (word test · q) a l v w r
parsed_word s test q a l v w (Ok (Some next)) t i f d h = word_and t i h f d
parsed_word s test q a l v w (Ok None) t i f d h = (h.0, none_second h.1)
parsed_word s test q a l v w (Err x) t i f d h = h

leaves_then : {s : Source} {p : Rule} {a m : ℕ} {k : Option ℕ} {u v w : BuilderState} → ReadsLongest s p a m k u v → Leaves v w → Leaves u w
leaves_then {u = u} x y = record { extra = and_then x.got y.extra; gained = gained_then u x.got y.extra x.gained y.gained }

pub parsed_seq : (s : Source) (p q : Rule) (a m : ℕ) (k l : Option ℕ) (u v w : BuilderState) (r : Result (Option ℕ) AllocError)
    → ReadsLongest s p a m k u v → is_free q ≡ true → rule_nullable q ≡ false → apart p q ≡ true → ParsesLongest s q m l v w r
    → ParsesLongest s (p · q) a (first_or k l) u w r
parsed_seq s p q a m k l u v w (Ok (Some next)) x f e d h = reads_seq x h f d
parsed_seq s p q a m k l u v w (Ok None) x f e d h = (leaves_then x h.0, none_behind x h.1 f e d)
parsed_seq s p q a m k l u v w (Err y) x f e d h = leaves_then x h

pub parsed_unless : (s : Source) (look : Lookahead) (p : Rule) (a : ℕ) (k : Option ℕ) (v w : BuilderState) (r : Result (Option ℕ) AllocError)
    → (lookahead s look a → ⊥) → ParsesLongest s p a k v w r → ParsesLongest s (unless look p) a k v w r
parsed_unless s look p a k v w (Ok (Some next)) n h = reads_unless n h
parsed_unless s look p a k v w (Ok None) n h = (h.0, unless_none h.1)
parsed_unless s look p a k v w (Err x) n h = h

-- a loop has ended, and what was read since is cut off
pub ended : {s : Source} {q p : Rule} {a b : ℕ} {old now new : BuilderState} (x : ReadsChain s q p a b old now)
    → ((r : Read) → NoDerivation (lookahead s) kept_apart s p r b) → new ≡ now → ReadsLongest s (q · many p) a b x.marked old new
ended {s = s} {q = q} {p = p} {a = a} {b = b} {old = old} x n e =
    subst (λ (w : BuilderState). ReadsLongest s (q · many p) a b x.marked old w) (back e) (loop_ends x n)

-- Operators by their levels.

pub no_operand : {s : Source} {a : ℕ} (n : ℕ) → NoneOf s (form cast_expression) a → NoneOf s (form (binary_expression n)) a
no_operand zero x = form_none x
no_operand (suc n) x = form_none (seq_none (no_operand n x))

pub level_test : (l n : ℕ) → l ≡ n + 1 → nat_eq l (suc n) ≡ true
level_test l n e = grind (arith, e)

-- an operator of a level stands there, and no operand behind it
pub level_cut : {s : Source} {n a b level : ℕ} {old now new : BuilderState} → ReadsChain s (form (binary_expression n)) (operated n) a b old now
    → NoneOf s (form (binary_expression n)) (b + 1) → level_of (terminal_at s b) ≡ n + 1 → n < level → new ≡ now
    → ReadsLongest s (form (binary_expression level)) a b None old new
level_cut {s = s} {n = n} {a = a} {b = b} {level = level} {old = old} {new = new} x y e h f =
    let z = level_read (ended x (no_wrap (none_second_mark y) refl) f) in
    let g : n + 1 + (level - (n + 1)) ≡ level = omega (arith, h) in
    subst (λ (m : ℕ). ReadsLongest s (form (binary_expression m)) a b None old new) g (levels_over (level - (n + 1)) z (λ m i j. omega (arith, e, i, j)))

-- all levels are read
pub at_level : {s : Source} {n a b level : ℕ} {old new : BuilderState} → ReadsLongest s (form (binary_expression n)) a b None old new → n ≤ level
    → level ≤ n → ReadsLongest s (form (binary_expression level)) a b None old new
at_level {s = s} {n = n} {a = a} {b = b} {level = level} {old = old} {new = new} x h i =
    let e : n ≡ level = omega (arith, h, i) in subst (λ (m : ℕ). ReadsLongest s (form (binary_expression m)) a b None old new) e x

-- Two tokens on.

pub none_two_on : {s : Source} {p : Rule} (a : ℕ) → NoneOf s p (a + 2) → NoneOf s p (a + 1 + 1)
none_two_on {s = s} {p = p} a x = let e : a + 2 ≡ a + 1 + 1 = omega arith in subst (λ (n : ℕ). NoneOf s p n) e x

pub reads_two_on : {s : Source} {p : Rule} (a : ℕ) {b : ℕ} {k : Option ℕ} {v w : BuilderState} → ReadsLongest s p (a + 2) b k v w
    → ReadsLongest s p (a + 1 + 1) b k v w
reads_two_on {s = s} {p = p} a {b = b} {k = k} {v = v} {w = w} x = let e : a + 2 ≡ a + 1 + 1 = omega arith in subst (λ (n : ℕ). ReadsLongest s p n b k v w) e x

-- What follows an operand.

pub suffix_err : (s : Source) (a : ℕ) {v w : BuilderState} (r : Result (Option Suffix) AllocError) → IsErr r → Leaves v w → ParsedSuffix s a v w r
suffix_err s a (Ok x) e l = absurd (true≢false (back e))
suffix_err s a (Err x) e l = l

suffix_free : (kind : NodeKind) (rule : Rule) → SuffixOf kind rule → is_free rule ≡ true
suffix_free kind rule a_subscript = refl
suffix_free kind rule a_call = refl
suffix_free kind rule a_member = refl
suffix_free kind rule a_pointer_member = refl
suffix_free kind rule a_step = refl

suffix_filled : (kind : NodeKind) (rule : Rule) → SuffixOf kind rule → rule_nullable rule ≡ false
suffix_filled kind rule a_subscript = refl
suffix_filled kind rule a_call = refl
suffix_filled kind rule a_member = refl
suffix_filled kind rule a_pointer_member = refl
suffix_filled kind rule a_step = refl

mark_first : {lookahead : Lookahead → ℕ → Type 0} {bodies : Bodies} {source : Source} {kind : NodeKind} {test : Terminal → Bool} {p : Rule}
    {r s : Read} {a b : ℕ} {k : Option ℕ}
    → Derives lookahead bodies source (wrap kind (mark test · p)) r a b k s → test (terminal_at source a) ≡ true
mark_first (is_wrap (is_both (is_mark t e f g) y h) i j) = t

word_first : {lookahead : Lookahead → ℕ → Type 0} {bodies : Bodies} {source : Source} {kind : NodeKind} {test : Terminal → Bool} {p : Rule}
    {r s : Read} {a b : ℕ} {k : Option ℕ}
    → Derives lookahead bodies source (wrap kind (word test · p)) r a b k s → test (terminal_at source a) ≡ true
word_first (is_wrap (is_both (is_word t e f g) y h) i j) = t

mark_only : {lookahead : Lookahead → ℕ → Type 0} {bodies : Bodies} {source : Source} {kind : NodeKind} {test : Terminal → Bool} {r s : Read}
    {a b : ℕ} {k : Option ℕ}
    → Derives lookahead bodies source (wrap kind (mark test)) r a b k s → test (terminal_at source a) ≡ true
mark_only (is_wrap (is_mark t e f g) i j) = t

as_postfix : {lookahead : Lookahead → ℕ → Type 0} {bodies : Bodies} {source : Source} {kind : NodeKind} {rule : Rule} {r s : Read} {a b : ℕ} {k : Option ℕ}
    → SuffixOf kind rule → LongestMatch lookahead bodies source (wrap kind rule) r a b k s → LongestMatch lookahead bodies source postfix r a b k s
as_postfix a_subscript x = let t = mark_first x.derives in left x (none_unlike open_bracket t refl refl)
as_postfix a_call x = let t = mark_first x.derives in right (none_unlike open_paren t refl refl) (left x (none_unlike open_paren t refl refl))
as_postfix a_member x =
    let t = word_first x.derives in right (none_unlike dot t refl refl) (right (none_unlike dot t refl refl) (left x (none_unlike dot t refl refl)))
as_postfix a_pointer_member x =
    let t = word_first x.derives in right (none_unlike arrow t refl refl) (right (none_unlike arrow t refl refl)
    (right (none_unlike arrow t refl refl) (left x (none_unlike arrow t refl refl))))
as_postfix a_step x =
    let t = mark_only x.derives in right (none_unlike is_step t refl refl) (right (none_unlike is_step t refl refl)
    (right (none_unlike is_step t refl refl) (right (none_unlike is_step t refl refl) x)))

pub loop_suffix : {s : Source} {a m : ℕ} {suffix : Suffix} {old now then_ new : BuilderState} {start : Checkpoint}
    → ReadsChain s (form primary_expression) postfix a m old now → ReadsSuffix s m suffix now then_ → IsMark start old
    → Rounds s suffix.kind m suffix.token start then_ new → ReadsChain s (form primary_expression) postfix a suffix.next old new
loop_suffix {suffix = suffix} x y i g =
    let z = node_behind x.got x.gained (chain_adds x refl) y.reads (suffix_free suffix.kind y.rule y.kind) i g in
    loop_wrap x (record { marked = z.marked; got = z.got; long = as_postfix y.kind z.long; gained = z.gained; ahead = z.ahead; inside = z.inside }) refl refl

pub suffix_ahead : {s : Source} {m : ℕ} {suffix : Suffix} {now then_ : BuilderState} → ReadsSuffix s m suffix now then_ → m < suffix.next
suffix_ahead {suffix = suffix} y = not_empty ((y.reads).long).derives (suffix_filled suffix.kind y.rule y.kind)

pub suffix_inside : {s : Source} {m : ℕ} {suffix : Suffix} {now then_ : BuilderState} → ReadsSuffix s m suffix now then_ → suffix.next ≤ length s.terminals
suffix_inside y = (y.reads).inside

pub suffix_leaves : {s : Source} {m : ℕ} {suffix : Suffix} {now then_ : BuilderState} → ReadsSuffix s m suffix now then_ → Leaves now then_
suffix_leaves y = record { extra = (y.reads).got; gained = (y.reads).gained }

pub no_suffix : {s : Source} {a : ℕ} → NoneOf s (subscript ∣ arguments ∣ member_access ∣ pointer_member_access ∣ mark is_step) a → (r : Read)
    → NoDerivation (lookahead s) kept_apart s postfix r a
no_suffix x r = neither (wrap_none (free_none refl (λ b k t u. x b k t (is_left u)) r))
    (neither (wrap_none (free_none refl (λ b k t u. x b k t (is_right (is_left u))) r))
    (neither (wrap_none (free_none refl (λ b k t u. x b k t (is_right (is_right (is_left u)))) r))
    (neither (wrap_none (free_none refl (λ b k t u. x b k t (is_right (is_right (is_right (is_left u))))) r))
    (wrap_none (free_none refl (λ b k t u. x b k t (is_right (is_right (is_right (is_right u))))) r)))))

-- Literals.

sorts : (s : Terminal) → is_literal s ≡ true → (is_integer s || (is_character s || (is_string s || (is_boolean s || (nullptr_word s || this_word s))))) ≡ true
sorts s h =
    implied (is_literal s) (is_integer s || (is_character s || (is_string s || (is_boolean s || (nullptr_word s || this_word s)))))
    (at_each (λ z. implies (is_literal z) (is_integer z || (is_character z || (is_string z || (is_boolean z || (nullptr_word z || this_word z))))))
    refl s) h

kind_integer : (s : Terminal) → is_integer s ≡ true → literal_kind s ≡ IntegerLiteral
kind_integer terminal.Zero h = refl
kind_integer terminal.Integer h = refl
kind_integer _ h = cc

kind_character : (s : Terminal) → is_character s ≡ true → literal_kind s ≡ CharacterLiteral
kind_character terminal.Character h = refl
kind_character _ h = cc

kind_string : (s : Terminal) → is_string s ≡ true → literal_kind s ≡ StringLiteral
kind_string terminal.String h = refl
kind_string _ h = cc

kind_boolean : (s : Terminal) → is_boolean s ≡ true → literal_kind s ≡ BooleanLiteral
kind_boolean terminal.True h = refl
kind_boolean terminal.False h = refl
kind_boolean _ h = cc

kind_pointer : (s : Terminal) → nullptr_word s ≡ true → literal_kind s ≡ PointerLiteral
kind_pointer terminal.Nullptr h = refl
kind_pointer _ h = cc

kind_this : (s : Terminal) → this_word s ≡ true → literal_kind s ≡ This
kind_this terminal.This h = refl
kind_this _ h = cc

always_as : (s : Source) (p q : Rule) (a : ℕ) (k : Option ℕ) (v w : BuilderState) (r : Result ℕ AllocError)
    → ((b : ℕ) → ReadsLongest s p a b k v w → ReadsLongest s q a b k v w) → ParsesAlways s p a k v w r → ParsesAlways s q a k v w r
always_as s p q a k v w (Ok next) f h = f next h
always_as s p q a k v w (Err x) f h = h

pub literal_read : (s : Source) (a : ℕ) (kind : NodeKind) (v w : BuilderState) (r : Result ℕ AllocError) → is_literal (terminal_at s a) ≡ true
    → a < length s.terminals → kind ≡ literal_kind (terminal_at s a) → ReadsLeaf s a kind v w r → ParsesAlways s literal a None v w r
literal_read s a kind v w r h i e x =
    let z = terminal_at s a in
    let y = subst (λ (n : NodeKind). ReadsLeaf s a n v w r) e x in
    elim (or_cases (is_integer z) (is_character z || (is_string z || (is_boolean z || (nullptr_word z || this_word z)))) (sorts z h)) [
      | inl t ↦ always_as s _ literal a None v w r (λ b u. reads_left u (none_unlike is_integer t refl refl))
          (always_leaf s IntegerLiteral is_integer a v w r t i (subst (λ (n : NodeKind). ReadsLeaf s a n v w r) (kind_integer z t) y))
      | inr g1 ↦ elim (or_cases (is_character z) (is_string z || (is_boolean z || (nullptr_word z || this_word z))) g1) [
        | inl t ↦ always_as s _ literal a None v w r (λ b u. reads_right (none_unlike is_character t refl refl)
            (reads_left u (none_unlike is_character t refl refl))) (always_leaf s CharacterLiteral is_character a v w r t i
            (subst (λ (n : NodeKind). ReadsLeaf s a n v w r) (kind_character z t) y))
        | inr g2 ↦ elim (or_cases (is_string z) (is_boolean z || (nullptr_word z || this_word z)) g2) [
          | inl t ↦ always_as s _ literal a None v w r (λ b u. reads_right (none_unlike is_string t refl refl)
              (reads_right (none_unlike is_string t refl refl) (reads_left u (none_unlike is_string t refl refl))))
              (always_leaf s StringLiteral is_string a v w r t i (subst (λ (n : NodeKind). ReadsLeaf s a n v w r) (kind_string z t) y))
          | inr g3 ↦ elim (or_cases (is_boolean z) (nullptr_word z || this_word z) g3) [
            | inl t ↦ always_as s _ literal a None v w r (λ b u. reads_right (none_unlike is_boolean t refl refl)
                (reads_right (none_unlike is_boolean t refl refl) (reads_right (none_unlike is_boolean t refl refl)
                (reads_left u (none_unlike is_boolean t refl refl))))) (always_leaf s BooleanLiteral is_boolean a v w r t i
                (subst (λ (n : NodeKind). ReadsLeaf s a n v w r) (kind_boolean z t) y))
            | inr g4 ↦ elim (or_cases (nullptr_word z) (this_word z) g4) [
              | inl t ↦ always_as s _ literal a None v w r (λ b u. reads_right (none_unlike nullptr_word t refl refl)
                  (reads_right (none_unlike nullptr_word t refl refl) (reads_right (none_unlike nullptr_word t refl refl)
                  (reads_right (none_unlike nullptr_word t refl refl) (reads_left u (none_unlike nullptr_word t refl refl))))))
                  (always_leaf s PointerLiteral nullptr_word a v w r t i (subst (λ (n : NodeKind). ReadsLeaf s a n v w r) (kind_pointer z t) y))
              | inr t ↦ always_as s _ literal a None v w r (λ b u. reads_right (none_unlike this_word t refl refl)
                  (reads_right (none_unlike this_word t refl refl) (reads_right (none_unlike this_word t refl refl)
                  (reads_right (none_unlike this_word t refl refl) (reads_right (none_unlike this_word t refl refl) u)))))
                  (always_leaf s This this_word a v w r t i (subst (λ (n : NodeKind). ReadsLeaf s a n v w r) (kind_this z t) y))
            ]
          ]
        ]
      ]
    ]

-- std, and what stands behind it.

no_colons : {s : Source} {a : ℕ} {q : Rule} → colon_colon (terminal_at s (a + 1)) ≡ false → NoneOf s (word std · word colon_colon · q) a
no_colons t = none_second (seq_none (word_none t))

std_only : {s : Source} {a : ℕ} → std (terminal_at s a) ≡ true → NoneOf s (tx_exception whole) a → NoneOf s functional_cast a
std_only t x = node_none (seq_none (form_none (neither (none_unlike std t refl refl) (neither (none_unlike std t refl refl) x))))

pub no_std : {s : Source} {a : ℕ} → std (terminal_at s a) ≡ true → colon_colon (terminal_at s (a + 1)) ≡ false → NoneOf s (std_abort ∣ functional_cast) a
no_std t u = neither (node_none (no_colons u)) (std_only t (node_none (no_colons u)))

pub no_abort : {s : Source} {a : ℕ} → abort_word (terminal_at s (a + 2)) ≡ false → NoneOf s std_abort a
no_abort {s = s} {a = a} t =
    let e : a + 1 + 1 ≡ a + 2 = omega arith in node_none (none_second (none_second (mark_none
    (subst (λ (n : ℕ). abort_word (terminal_at s n) ≡ false) (back e) t))))

pub abort_there : {s : Source} {a : ℕ} {old new : BuilderState} → std (terminal_at s a) ≡ true → colon_colon (terminal_at s (a + 1)) ≡ true
    → ReadsAs (terminal_at s (a + 2)) terminal.Abort → a + 2 < length s.terminals
    → new ≡ appended old (reads_node StdAbort (position_at s a) (Some (a + 2)) no_read)
    → ReadsLongest s (std_abort ∣ functional_cast) a (a + 3) None old new
abort_there {s = s} {a = a} {old = old} {new = new} t u z i g =
    let e : a + 1 + 1 ≡ a + 2 = omega arith in
    let f : a + 1 + 1 + 1 ≡ a + 3 = omega arith in
    let at : ReadsAs (terminal_at s (a + 1 + 1)) terminal.Abort = subst (λ (n : ℕ). ReadsAs (terminal_at s n) terminal.Abort) (back e) z in
    let x : ReadsLongest s std_abort a (a + 1 + 1 + 1) None old new = record {
      got = reads_node StdAbort (position_at s a) (Some (a + 1 + 1)) no_read;
      long = node_long (seq (word_long t) (seq (word_long u) (mark_long (passed abort_word terminal.Abort refl _ at)) refl) refl);
      gained = g ∙ ap (λ (n : ℕ). appended old (reads_node StdAbort (position_at s a) (Some n) no_read)) (back e);
      ahead = omega arith;
      inside = omega (arith, i);
    } in
    reads_to (reads_left x (std_only t (node_none (none_second (none_second (seq_none
    (mark_none (passed_not tx_exception_word terminal.Abort refl _ at)))))))) (back f)

-- the name of a type with :: behind it is no functional cast
pub no_call : {s : Source} {a : ℕ} → is_type_name (terminal_at s a) ≡ true → ReadsAs (terminal_at s (a + 1)) terminal.ColonColon → NoneOf s functional_cast a
no_call t e =
    node_none (seq_ends (form_long (right (none_unlike is_type_name t refl refl) (left (node_long (mark_long t))
    (none_unlike is_type_name t refl refl)))) (seq_none (mark_none (passed_not open_paren terminal.ColonColon refl _ e))) refl refl)

-- From an index on, the texts of one rule are those of another, which has more alternatives.

pub record Instead (s : Source) (p q : Rule) (a : ℕ) : Type 0 where
  pub to : (b : ℕ) (k : Option ℕ) (t : Read) → Derives (lookahead s) kept_apart s p no_read a b k t → Derives (lookahead s) kept_apart s q no_read a b k t
  pub fro : (b : ℕ) (k : Option ℕ) (t : Read) → Derives (lookahead s) kept_apart s q no_read a b k t → Derives (lookahead s) kept_apart s p no_read a b k t

pub with_none_before : {s : Source} {o p q : Rule} {a : ℕ} → NoneOf s o a → Instead s p q a → Instead s p (o ∣ q) a
with_none_before {s = s} {o = o} {p = p} {q = q} {a = a} n x = record { to = λ b k t u. is_right (x.to b k t u); fro = only }
  where
    only : (b : ℕ) (k : Option ℕ) (t : Read) → Derives (lookahead s) kept_apart s (o ∣ q) no_read a b k t → Derives (lookahead s) kept_apart s p no_read a b k t
    only b k t (is_left u) = absurd (n b k t u)
    only b k t (is_right u) = x.fro b k t u

pub with_none_behind : {s : Source} {o p : Rule} {a : ℕ} → NoneOf s o a → Instead s p (p ∣ o) a
with_none_behind {s = s} {o = o} {p = p} {a = a} n = record { to = λ b k t u. is_left u; fro = only }
  where
    only : (b : ℕ) (k : Option ℕ) (t : Read) → Derives (lookahead s) kept_apart s (p ∣ o) no_read a b k t → Derives (lookahead s) kept_apart s p no_read a b k t
    only b k t (is_left u) = u
    only b k t (is_right u) = absurd (n b k t u)

pub with_same_before : {s : Source} {o p q : Rule} {a : ℕ} → Instead s p q a → Instead s (o ∣ p) (o ∣ q) a
with_same_before {s = s} {o = o} {p = p} {q = q} {a = a} x = record { to = there; fro = back_ }
  where
    there : (b : ℕ) (k : Option ℕ) (t : Read) → Derives (lookahead s) kept_apart s (o ∣ p) no_read a b k t
        → Derives (lookahead s) kept_apart s (o ∣ q) no_read a b k t
    there b k t (is_left u) = is_left u
    there b k t (is_right u) = is_right (x.to b k t u)

    back_ : (b : ℕ) (k : Option ℕ) (t : Read) → Derives (lookahead s) kept_apart s (o ∣ q) no_read a b k t
        → Derives (lookahead s) kept_apart s (o ∣ p) no_read a b k t
    back_ b k t (is_left u) = is_left u
    back_ b k t (is_right u) = is_right (x.fro b k t u)

long_instead : {s : Source} {p q : Rule} {a b : ℕ} {k : Option ℕ} {t : Read} → Instead s p q a → goes_within p q ≡ true
    → LongestMatch (lookahead s) kept_apart s p no_read a b k t → LongestMatch (lookahead s) kept_apart s q no_read a b k t
long_instead {s = s} {p = p} {q = q} {a = a} {b = b} {k = k} {t = t} x e y = record { derives = x.to b k t y.derives; longest = only }
  where
    wider : (c : ℕ) (l : Option ℕ) (o : Read) → IsNoLonger (lookahead s) s p b k t c l o → IsNoLonger (lookahead s) s q b k t c l o
    wider c l o (inl h) = inl (h.0, goes_wider (lookahead s) s p q c e h.1)
    wider c l o (inr h) = inr h

    only : (c : ℕ) (l : Option ℕ) (o : Read) → Derives (lookahead s) kept_apart s q no_read a c l o → IsNoLonger (lookahead s) s q b k t c l o
    only c l o u = wider c l o (y.longest c l o (x.fro c l o u))

pub parsed_instead : (s : Source) (p q : Rule) (a : ℕ) (k : Option ℕ) (v w : BuilderState) (r : Result (Option ℕ) AllocError) → Instead s p q a
    → goes_within p q ≡ true → ParsesLongest s p a k v w r → ParsesLongest s q a k v w r
parsed_instead s p q a k v w (Ok (Some next)) x e h =
    record { got = h.got; long = long_instead x e h.long; gained = h.gained; ahead = h.ahead; inside = h.inside }
parsed_instead s p q a k v w (Ok None) x e h = (h.0, λ b l t u. h.1 b l t (x.fro b l t u))
parsed_instead s p q a k v w (Err y) x e h = h

-- An operand that begins with the name of a type, or with std.

pub named_primary : (s : Source) (a : ℕ) (v w : BuilderState) (r : Result (Option ℕ) AllocError) → is_type_name (terminal_at s a) ≡ true
    → ParsesLongest s (qualified_id ∣ functional_cast) a None v w r → ParsesLongest s (form primary_expression) a None v w r
named_primary s a v w r t h = parsed_form s primary_expression a None v w r (parsed_instead s _ (production primary_expression) a None v w r
    (with_none_before (none_unlike is_type_name t refl refl) (with_none_before (none_unlike is_type_name t refl refl) (with_same_before
    (with_none_before (none_unlike is_type_name t refl refl) (with_none_before (none_unlike is_type_name t refl refl)
    (with_none_behind (none_unlike is_type_name t refl refl)))))))
    refl h)

pub std_primary : (s : Source) (a : ℕ) (v w : BuilderState) (r : Result (Option ℕ) AllocError) → std (terminal_at s a) ≡ true
    → ParsesLongest s (std_abort ∣ functional_cast) a None v w r → ParsesLongest s (form primary_expression) a None v w r
std_primary s a v w r t h = parsed_form s primary_expression a None v w r (parsed_instead s _ (production primary_expression) a None v w r
    (with_none_before (none_unlike std t refl refl) (with_none_before (none_unlike std t refl refl)
    (with_none_before (none_unlike std t refl refl) (with_same_before
    (with_none_before (none_unlike std t refl refl) (with_none_behind (none_unlike std t refl refl)))))))
    refl h)
