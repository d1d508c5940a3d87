-- What readers answer, from what the readers that they call answer.
use Rattle.std.proofs.Common.{◌≡◌, ℕ, ◌+◌, ◌<◌, Bool, true, false, sym as back, ◌∙◌, ap, arith, subst, length, Option, Some, None, Result, Ok, Err, true≢false}
use Rattle.std.specs.Result.{IsErr}
use Rattle.std.specs.declared.alloc.AllocError.{AllocError}
use Rattle.cpp_ast.specs.declared.kinds.NodeKind.{NodeKind}
use Rattle.cpp_syntax.specs.declared.terminal.Terminal.{Terminal}
use Rattle.cpp_syntax.specs.declared.positions.Checkpoint.{Checkpoint}
use Rattle.cpp_syntax.specs.Source.{Source, terminal_at, position_at}
use Rattle.cpp_syntax.specs.Rules.{Nonterminal, Lookahead, at_name, Rule, word, mark, ◌·◌, ◌∣◌, many, form, node, node_at}
use Rattle.cpp_syntax.specs.Grammar.{production, leaf}
use Rattle.cpp_syntax.specs.Derivations.{Read, no_read, reads_node, positioned, Bodies, is_word, is_mark, is_both}
use Rattle.cpp_syntax.specs.FirstSets.{rule_nullable}
use Rattle.cpp_syntax.specs.Longest.{NoDerivation, is_free}
use Rattle.cpp_syntax.specs.View.{BuilderState, appended, IsMark}
use Rattle.cpp_syntax.specs.Parsed.{Leaves, ReadsLongest, NoneOf, ParsesLongest, ParsesAlways, ReadsLeaf}
use Rattle.cpp_syntax.proofs.DisjointFirstSets.{apart}
use Rattle.cpp_syntax.proofs.FirstTerminals.{not_empty}
use Rattle.cpp_syntax.proofs.LongestMatches.{carry, neither, many_ends}
use Rattle.cpp_syntax.proofs.IndependentDerivations.{free_none}
use Rattle.cpp_syntax.proofs.DeclaratorForms.{unlike, stays}
use Rattle.cpp_syntax.proofs.Readers.{reads_left, reads_right, reads_form, reads_node_at, reads_seq, reads_word, reads_mark, none_form}
use Rattle.cpp_syntax.proofs.LeafReaders.{always_leaf}
use Rattle.cpp_syntax.proofs.ReaderLoops.{ReadsChain, loop_ends, ReadsMany}

-- A node that begins where what was read for it does.
pub made : {s : Source} {kind : NodeKind} {p : Rule} {a b : ℕ} {k : Option ℕ} {v w x : BuilderState} {start : Checkpoint} (y : ReadsLongest s p a b k v w)
    → IsMark start v
    → ((before : BuilderState) (got : Read) → IsMark start before → w ≡ appended before got → x ≡ appended before (reads_node kind (position_at s a) k got))
    → ReadsLongest s (node kind p) a b None v x
made {v = v} y m f = reads_node_at y (f v y.got m y.gained)

-- A node that has its position where the name begins that its kids declare.
pub made_at_name : {s : Source} {kind : NodeKind} {p : Rule} {a b : ℕ} {k : Option ℕ} {v w x : BuilderState} {start : Checkpoint}
    (y : ReadsLongest s p a b k v w)
    → IsMark start v
    → ((before : BuilderState) (got : Read) → IsMark start before → w ≡ appended before got → x ≡ appended before
    (reads_node kind (positioned at_name s a k got.trees) k got))
    → ReadsLongest s (node_at at_name kind p) a b None v x
made_at_name {v = v} y m f = reads_node_at y (f v y.got m y.gained)

-- the same where it begins from what is the same
pub reads_from : {s : Source} {p : Rule} {a b : ℕ} {k : Option ℕ} {u v w : BuilderState} → v ≡ u → ReadsLongest s p a b k v w → ReadsLongest s p a b k u w
reads_from e x = record { got = x.got; long = x.long; gained = x.gained ∙ ap (λ (z : BuilderState). appended z x.got) e; ahead = x.ahead; inside = x.inside }

pub reads_until : {s : Source} {p : Rule} {a b : ℕ} {k : Option ℕ} {u v w : BuilderState} → w ≡ v → ReadsLongest s p a b k u v → ReadsLongest s p a b k u w
reads_until e x = record { got = x.got; long = x.long; gained = e ∙ x.gained; ahead = x.ahead; inside = x.inside }

-- One token, and then a rule, which may be empty or not.

pub mark_and : {s : Source} {test : Terminal → Bool} {p : Rule} {a b : ℕ} {k : Option ℕ} {v w : BuilderState} → test (terminal_at s a) ≡ true
    → a < length s.terminals → ReadsLongest s p (a + 1) b k v w → is_free p ≡ true → apart (mark test) p ≡ true
    → ReadsLongest s (mark test · p) a b (Some a) v w
mark_and t i x f d = reads_seq (reads_mark t i) x f d

pub word_and : {s : Source} {test : Terminal → Bool} {p : Rule} {a b : ℕ} {k : Option ℕ} {v w : BuilderState} → test (terminal_at s a) ≡ true
    → a < length s.terminals → ReadsLongest s p (a + 1) b k v w → is_free p ≡ true → apart (word test) p ≡ true
    → ReadsLongest s (word test · p) a b k v w
word_and t i x f d = reads_seq (reads_word t i) x f d

-- a node that is one token
pub leaf_there : {s : Source} {kind : NodeKind} {test : Terminal → Bool} {a next : ℕ} {v w : BuilderState} → test (terminal_at s a) ≡ true
    → a < length s.terminals → ReadsLeaf s a kind v w (Ok next) → ReadsLongest s (leaf kind test) a next None v w
leaf_there {s = s} {kind = kind} {test = test} {a = a} {next = next} {v = v} {w = w} t i h = always_leaf s kind test a v w (Ok next) t i h

pub reads_to : {s : Source} {p : Rule} {a b c : ℕ} {k : Option ℕ} {v w : BuilderState} → ReadsLongest s p a b k v w → c ≡ b → ReadsLongest s p a c k v w
reads_to {s = s} {p = p} {a = a} {k = k} {v = v} {w = w} x e = subst (λ (n : ℕ). ReadsLongest s p a n k v w) (back e) x

-- Where no text of a rule begins.

-- since none begins with a terminal that passes the test
pub none_unlike : {lookahead : Lookahead → ℕ → Type 0} {bodies : Bodies} {source : Source} {p : Rule} {r : Read} {a : ℕ} (test : Terminal → Bool)
    → test (terminal_at source a) ≡ true → unlike test p ≡ true → rule_nullable p ≡ false → NoDerivation lookahead bodies source p r a
none_unlike test t e f b k s x = let same = stays test x t e in let more = not_empty x f in omega (arith, same, more)

-- since none of the second rule begins behind the token
pub none_second : {lookahead : Lookahead → ℕ → Type 0} {bodies : Bodies} {source : Source} {test : Terminal → Bool} {q : Rule} {r : Read} {a : ℕ}
    → NoDerivation lookahead bodies source q r (a + 1) → NoDerivation lookahead bodies source (word test · q) r a
none_second x b k t (is_both {l = l} (is_word u e f g) v h) = x b l t (carry e g v)

pub none_second_mark : {lookahead : Lookahead → ℕ → Type 0} {bodies : Bodies} {source : Source} {test : Terminal → Bool} {q : Rule} {r : Read} {a : ℕ}
    → NoDerivation lookahead bodies source q r (a + 1) → NoDerivation lookahead bodies source (mark test · q) r a
none_second_mark x b k t (is_both {l = l} (is_mark u e f g) v h) = x b l t (carry e g v)

-- Loops that have ended.

pub leaves_chain : {s : Source} {q p : Rule} {a b : ℕ} {v w : BuilderState} → ReadsChain s q p a b v w → Leaves v w
leaves_chain x = record { extra = x.got; gained = x.gained }

pub chain_done : {s : Source} {q p : Rule} {a b : ℕ} {old now new : BuilderState} (x : ReadsChain s q p a b old now) → x.marked ≡ None → NoneOf s p b
    → is_free p ≡ true → new ≡ now → ReadsLongest s (q · many p) a b None old new
chain_done {s = s} {q = q} {p = p} {a = a} {b = b} {old = old} {now = now} {new = new} x e y f g =
    let z = loop_ends x (free_none f y) in
    subst (λ (w : BuilderState). ReadsLongest s (q · many p) a b None old w) (back g) (subst (λ (k : Option ℕ). ReadsLongest s (q · many p) a b k old now) e z)

pub many_done : {s : Source} {p : Rule} {a b : ℕ} {old now : BuilderState} (x : ReadsMany s p old no_read a b now) → x.marked ≡ None → NoneOf s p b
    → is_free p ≡ true → ReadsLongest s (many p) a b None old now
many_done {s = s} {p = p} {a = a} {b = b} {old = old} {now = now} x e y f =
    subst (λ (k : Option ℕ). ReadsLongest s (many p) a b k old now) e (record {
      got = x.got;
      long = many_ends x.so_far (free_none f y x.got);
      gained
          = x.gained;
      ahead = x.ahead;
      inside = x.inside;
    })

-- What is answered of one rule, as it stands among others.

pub parsed_left : (s : Source) (p q : Rule) (a : ℕ) (k : Option ℕ) (v w : BuilderState) (r : Result (Option ℕ) AllocError) → NoneOf s q a
    → ParsesLongest s p a k v w r → ParsesLongest s (p ∣ q) a k v w r
parsed_left s p q a k v w (Ok (Some next)) e h = reads_left h e
parsed_left s p q a k v w (Ok None) e h = (h.0, neither h.1 e)
parsed_left s p q a k v w (Err x) e h = h

pub parsed_right : (s : Source) (p q : Rule) (a : ℕ) (k : Option ℕ) (v w : BuilderState) (r : Result (Option ℕ) AllocError) → NoneOf s p a
    → ParsesLongest s q a k v w r → ParsesLongest s (p ∣ q) a k v w r
parsed_right s p q a k v w (Ok (Some next)) e h = reads_right e h
parsed_right s p q a k v w (Ok None) e h = (h.0, neither e h.1)
parsed_right s p q a k v w (Err x) e h = h

pub parsed_form : (s : Source) (f : Nonterminal) (a : ℕ) (k : Option ℕ) (v w : BuilderState) (r : Result (Option ℕ) AllocError)
    → ParsesLongest s (production f) a k v w r → ParsesLongest s (form f) a None v w r
parsed_form s f a k v w (Ok (Some next)) h = reads_form h
parsed_form s f a k v w (Ok None) h = (h.0, none_form h.1)
parsed_form s f a k v w (Err x) h = h

-- Want of memory.

pub parsed_err : (s : Source) (p : Rule) (a : ℕ) (k : Option ℕ) {v w : BuilderState} (r : Result (Option ℕ) AllocError) → IsErr r → Leaves v w
    → ParsesLongest s p a k v w r
parsed_err s p a k (Ok x) e l = absurd (true≢false (back e))
parsed_err s p a k (Err x) e l = l

pub always_err : (s : Source) (p : Rule) (a : ℕ) (k : Option ℕ) {v w : BuilderState} (r : Result ℕ AllocError) → IsErr r → Leaves v w
    → ParsesAlways s p a k v w r
always_err s p a k (Ok x) e l = absurd (true≢false (back e))
always_err s p a k (Err x) e l = l
