-- What readers of bounds and parameters behind declarators answer.
use Rattle.std.proofs.Common.{◌≡◌, ℕ, ◌⊎◌, inl, inr, true, false, refl, sym as back, ◌∙◌, subst, ap, arith, Option, Some, None, Result, Ok, Err, true≢false}
use Rattle.std.specs.Result.{IsErr}
use Rattle.std.specs.declared.alloc.AllocError.{AllocError}
use Rattle.cpp_ast.specs.declared.arena.At.{At}
use Rattle.cpp_ast.specs.declared.kinds.NodeKind.{NodeKind}
use Rattle.cpp_ast.specs.declared.kinds.NodeKind.TheVariants.{ArrayDeclarator, FunctionDeclarator}
use Rattle.cpp_syntax.specs.declared.positions.Checkpoint.{Checkpoint}
use Rattle.cpp_syntax.specs.Source.{Source, terminal_at}
use Rattle.cpp_syntax.specs.Terminals.{open_bracket, open_paren}
use Rattle.cpp_syntax.specs.Rules.{whole, Naming, named, unnamed, either, in_block, Lookahead, parameters, Rule, ◌·◌, many, wrap, optional}
use Rattle.cpp_syntax.specs.Grammar.{declarator_id, array_bound, array_suffix, function_parameters, parameters_behind, suffix}
use Rattle.cpp_syntax.specs.Derivations.{Read, and_then, reads_node, position_of_first, Bodies, Derives, is_nothing, is_left, is_right, is_last, is_more}
use Rattle.cpp_syntax.specs.Derivations.{is_both, kept_apart}
use Rattle.cpp_syntax.specs.Lookahead.{lookahead}
use Rattle.cpp_syntax.specs.FirstSets.{need_not_name, rule_nullable}
use Rattle.cpp_syntax.specs.Longest.{IsNoLonger, LongestMatch, NoDerivation, is_free}
use Rattle.cpp_syntax.specs.View.{BuilderState, appended, IsMark}
use Rattle.cpp_syntax.specs.Parsed.{Leaves, ReadsLongest, ReadsBehind, NoneOf, ParsesAlwaysBehind, has_trees}
use Rattle.cpp_syntax.proofs.FirstTerminals.{not_empty}
use Rattle.cpp_syntax.proofs.DisjointFirstSets.{apart, goes_within, goes_wider}
use Rattle.cpp_syntax.proofs.IndependentDerivations.{free_none}
use Rattle.cpp_syntax.proofs.LongestMatches.{left, right, neither, mark_none, seq_none, wrap_none, left_out, if_none, if_unseen}
use Rattle.cpp_syntax.proofs.DeclaratorForms.{unlike, stays, suffixes_apart}
use Rattle.cpp_syntax.proofs.ReaderLoops.{ReadsMany, any_wrap, any_ends, long_behind, reads_wrap, reads_if, seq_behind}
use Rattle.cpp_parse_expr.proofs.ReaderAnswers.{none_unlike}
use Rattle.cpp_parse_expr.proofs.TreeAdding.{first_stays, filled}
use Rattle.cpp_parse_expr.proofs.UnmarkedRules.{marks_none, reads_unmarked}

-- What holds of each naming.

no_parameters_at_bracket : (n : Naming) → unlike open_bracket (wrap FunctionDeclarator (parameters_behind whole n)) ≡ true
no_parameters_at_bracket named = refl
no_parameters_at_bracket unnamed = refl
no_parameters_at_bracket either = refl
no_parameters_at_bracket in_block = refl

parameters_filled : (n : Naming) → rule_nullable (wrap FunctionDeclarator (parameters_behind whole n)) ≡ false
parameters_filled named = refl
parameters_filled unnamed = refl
parameters_filled either = refl
parameters_filled in_block = refl

parameters_free : (n : Naming) → is_free (parameters_behind whole n) ≡ true
parameters_free named = refl
parameters_free unnamed = refl
parameters_free either = refl
parameters_free in_block = refl

suffix_filled : (n : Naming) → rule_nullable (suffix whole n) ≡ false
suffix_filled named = refl
suffix_filled unnamed = refl
suffix_filled either = refl
suffix_filled in_block = refl

goes_in_block : (n : Naming) → goes_within (many (suffix whole n)) (optional (array_suffix whole · many (suffix whole n))) ≡ true
goes_in_block named = refl
goes_in_block unnamed = refl
goes_in_block either = refl
goes_in_block in_block = refl

id_apart : (n : Naming) → apart declarator_id (optional (array_suffix whole · many (suffix whole n))) ≡ true
id_apart named = refl
id_apart unnamed = refl
id_apart either = refl
id_apart in_block = refl

-- Behind a name in a block.

-- at [ the suffixes are those behind a name in a block
bracket_first : {lookahead : Lookahead → ℕ → Type 0} {bodies : Bodies} {source : Source} (n : Naming) {r s : Read} {a b : ℕ} {k : Option ℕ}
    → Derives lookahead bodies source (many (suffix whole n)) r a b k s → open_bracket (terminal_at source a) ≡ true
    → Derives lookahead bodies source (optional (array_suffix whole · many (suffix whole n))) r a b k s
bracket_first n (is_last e f g) t = is_right (is_nothing e f g)
bracket_first n (is_more (is_left x) y e) t = is_left (is_both x y e)
bracket_first n (is_more (is_right x) y e) t =
    absurd (let same = stays open_bracket x t (no_parameters_at_bracket n) in let more = not_empty x (parameters_filled n) in omega
    (arith, same, more))

suffixes_too : {lookahead : Lookahead → ℕ → Type 0} {bodies : Bodies} {source : Source} (n : Naming) {r s : Read} {a b : ℕ} {k : Option ℕ}
    → Derives lookahead bodies source (optional (array_suffix whole · many (suffix whole n))) r a b k s
    → Derives lookahead bodies source (many (suffix whole n)) r a b k s
suffixes_too n (is_left (is_both x y e)) = is_more (is_left x) y e
suffixes_too n (is_right (is_nothing e f g)) = is_last e f g

bracket_long : {lookahead : Lookahead → ℕ → Type 0} {bodies : Bodies} {source : Source} (n : Naming) {r s : Read} {a b : ℕ} {k : Option ℕ}
    → LongestMatch lookahead bodies source (many (suffix whole n)) r a b k s → open_bracket (terminal_at source a) ≡ true
    → LongestMatch lookahead bodies source (optional (array_suffix whole · many (suffix whole n))) r a b k s
bracket_long {lookahead = lookahead} {bodies = bodies} {source = source} n {r = r} {s = s} {a = a} {b = b} {k = k} x t =
    record { derives = bracket_first n x.derives t; longest = only }
  where
    only : (c : ℕ) (l : Option ℕ) (o : Read) → Derives lookahead bodies source (optional (array_suffix whole · many (suffix whole n))) r a c l o
        → IsNoLonger lookahead source (optional (array_suffix whole · many (suffix whole n))) b k s c l o
    only c l o u = elim (x.longest c l o (suffixes_too n u)) [
      | inl h ↦ inl (h.0, goes_wider lookahead source (many (suffix whole n)) (optional (array_suffix whole · many (suffix whole n))) c (goes_in_block n) h.1)
      | inr h ↦ inr h
    ]

pub block_name_alone : (s : Source) (n : Naming) {a m : ℕ} {v w : BuilderState} → ReadsLongest s declarator_id a m None v w
    → open_bracket (terminal_at s m) ≡ false → ReadsLongest s (declarator_id · optional (array_suffix whole · many (suffix whole n))) a m None v w
block_name_alone s n {m = m} x t =
    seq_behind x (record {
      marked = None;
      got = x.got;
      long = left_out (seq_none (wrap_none (seq_none (mark_none t))));
      gained = x.gained;
      ahead =
          omega arith;
      inside = x.inside;
    }) (id_apart n)

pub block_name_and : (s : Source) (n : Naming) {a m b : ℕ} {u v w : BuilderState} (x : ReadsLongest s declarator_id a m None u v)
    → open_bracket (terminal_at s m) ≡ true → ReadsBehind s (many (suffix whole n)) u x.got m b w
    → ReadsLongest s (declarator_id · optional (array_suffix whole · many (suffix whole n))) a b None u w
block_name_and s n x t y =
    reads_unmarked (seq_behind x (record {
      marked = y.marked;
      got = y.got;
      long = bracket_long n y.long t;
      gained = y.gained;
      ahead = y.ahead;
      inside
          = y.inside;
    }) (id_apart n)) (unmarked_block n)
  where
    unmarked_block : (n : Naming) → marks_none (declarator_id · optional (array_suffix whole · many (suffix whole n))) ≡ true
    unmarked_block n = refl

-- Parameters.

pub no_parameters_here : (s : Source) (n : Naming) {a : ℕ} → open_paren (terminal_at s a) ≡ false → NoneOf s (parameters_behind whole n) a
no_parameters_here s named t = if_none (seq_none (mark_none t))
no_parameters_here s in_block t = if_none (seq_none (mark_none t))
no_parameters_here s unnamed t = seq_none (mark_none t)
no_parameters_here s either t = seq_none (mark_none t)

pub parameters_unseen : (s : Source) (n : Naming) {a : ℕ} → need_not_name n ≡ false → (lookahead s parameters a → ⊥) → NoneOf s (parameters_behind whole n) a
parameters_unseen s named e f = if_unseen f
parameters_unseen s in_block e f = if_unseen f
parameters_unseen s unnamed e f = absurd (true≢false e)
parameters_unseen s either e f = absurd (true≢false e)

pub parameters_none : (s : Source) (n : Naming) {a : ℕ} → NoneOf s (function_parameters whole) a → NoneOf s (parameters_behind whole n) a
parameters_none s named x = if_none x
parameters_none s in_block x = if_none x
parameters_none s unnamed x = x
parameters_none s either x = x

pub parameters_read : (s : Source) (n : Naming) {a b : ℕ} {k : Option ℕ} {v w : BuilderState} → (need_not_name n ≡ true) ⊎ lookahead s parameters a
    → ReadsLongest s (function_parameters whole) a b k v w → ReadsLongest s (parameters_behind whole n) a b k v w
parameters_read s named (inl e) x = absurd (true≢false (back e))
parameters_read s named (inr e) x = reads_if e x
parameters_read s in_block (inl e) x = absurd (true≢false (back e))
parameters_read s in_block (inr e) x = reads_if e x
parameters_read s unnamed e x = x
parameters_read s either e x = x

-- Suffixes, one behind the other.

pub leaves_many : {s : Source} {p : Rule} {before : BuilderState} {r : Read} {a b : ℕ} {now : BuilderState} → ReadsMany s p before r a b now → Leaves before now
leaves_many x = record { extra = x.got; gained = x.gained }

pub behind_err : (s : Source) (p : Rule) (mark : Checkpoint) (a : ℕ) (v w : BuilderState) (r : Result ℕ AllocError) → IsErr r
    → ((before : BuilderState) (read : Read) → IsMark mark before → v ≡ appended before read → has_trees read.trees ≡ true → Leaves before w)
    → ParsesAlwaysBehind s p mark a v w r
behind_err s p mark a v w (Ok x) e f = absurd (true≢false (back e))
behind_err s p mark a v w (Err x) e f = f

-- one more suffix was read, and a node is round all
pub record Follows (s : Source) (n : Naming) (before : BuilderState) (r : Read) (a b : ℕ) (new : BuilderState) : Type 0 where
  pub reads : ReadsMany s (suffix whole n) before r a b new
  pub some : has_trees (reads.got).trees ≡ true

same_first : (s : Source) (kind : NodeKind) (m : ℕ) (before new : BuilderState) (r g : Read) → has_trees r.trees ≡ true
    → new ≡ appended before (reads_node kind (position_of_first s m (and_then r g).trees) (Some m) (and_then r g))
    → new ≡ appended before (reads_node kind (position_of_first s m r.trees) (Some m) (and_then r g))
same_first s kind m before new r g h e = e ∙ ap (λ (z : At). appended before (reads_node kind z (Some m) (and_then r g))) (first_stays s m r.trees g.trees h)

abbrev as_suffix : {s : Source} {p q : Rule} {before : BuilderState} {r : Read} {m b : ℕ} {new : BuilderState} (z : ReadsBehind s p before r m b new)
    → LongestMatch (lookahead s) kept_apart s q r m b z.marked z.got → ReadsBehind s q before r m b new
as_suffix z y = record { marked = z.marked; got = z.got; long = y; gained = z.gained; ahead = z.ahead; inside = z.inside }

pub array_follows : (s : Source) (n : Naming) {a m b : ℕ} {before now then_ new : BuilderState} {r : Read} (x : ReadsMany s (suffix whole n) before r a m now)
    → has_trees (x.got).trees ≡ true → open_bracket (terminal_at s m) ≡ true → (y : ReadsLongest s (array_bound whole) m b (Some m) now then_)
    → new ≡ appended before (reads_node ArrayDeclarator (position_of_first s m (and_then x.got y.got).trees) (Some m) (and_then x.got y.got))
    → Follows s n before r a b new
array_follows s n {m = m} {before = before} {new = new} x h t y e =
    let z = reads_wrap (long_behind x.got y refl) (same_first s ArrayDeclarator m before new x.got y.got h e) y.ahead y.inside in
    record {
      reads =
          any_wrap x (as_suffix z (left z.long (none_unlike open_bracket t (no_parameters_at_bracket n) (parameters_filled n)))) (suffix_filled n)
          (suffixes_apart whole n);
      some = filled (z.long).derives refl;
    }

pub parameters_follow : (s : Source) (n : Naming) {a m b : ℕ} {before now then_ new : BuilderState} {r : Read}
    (x : ReadsMany s (suffix whole n) before r a m now)
    → has_trees (x.got).trees ≡ true → open_bracket (terminal_at s m) ≡ false
    → (y : ReadsLongest s (parameters_behind whole n) m b (Some m) now then_)
    → new ≡ appended before (reads_node FunctionDeclarator (position_of_first s m (and_then x.got y.got).trees) (Some m) (and_then x.got y.got))
    → Follows s n before r a b new
parameters_follow s n {m = m} {before = before} {new = new} x h t y e =
    let z = reads_wrap (long_behind x.got y (parameters_free n)) (same_first s FunctionDeclarator m before new x.got y.got h e) y.ahead y.inside in
    record {
      reads = any_wrap x (as_suffix z (right (wrap_none (seq_none (mark_none t))) z.long)) (suffix_filled n) (suffixes_apart whole n);
      some = filled (z.long).derives refl;
    }

-- where no more follows
pub no_bound_follows : (s : Source) (n : Naming) {b : ℕ} → open_bracket (terminal_at s b) ≡ true → NoneOf s (array_bound whole) b → (r : Read)
    → NoDerivation (lookahead s) kept_apart s (suffix whole n) r b
no_bound_follows s n t x r = neither (wrap_none (free_none refl x r)) (none_unlike open_bracket t (no_parameters_at_bracket n) (parameters_filled n))

pub no_parameters_follow : (s : Source) (n : Naming) {b : ℕ} → open_bracket (terminal_at s b) ≡ false → NoneOf s (parameters_behind whole n) b
    → (r : Read) → NoDerivation (lookahead s) kept_apart s (suffix whole n) r b
no_parameters_follow s n t x r = neither (wrap_none (seq_none (mark_none t))) (wrap_none (free_none (parameters_free n) x r))

pub follow_ends : {s : Source} (n : Naming) {before : BuilderState} {r : Read} {a b : ℕ} {now new : BuilderState}
    → ReadsMany s (suffix whole n) before r a b now → ((r : Read) → NoDerivation (lookahead s) kept_apart s (suffix whole n) r b) → new ≡ now
    → ReadsBehind s (many (suffix whole n)) before r a b new
follow_ends {s = s} n {before = before} {r = r} {a = a} {b = b} x y e =
    subst (λ (w : BuilderState). ReadsBehind s (many (suffix whole n)) before r a b w) (back e) (any_ends x y)

pub parameters_there : (n : Naming) → rule_nullable (parameters_behind whole n) ≡ false
parameters_there named = refl
parameters_there unnamed = refl
parameters_there either = refl
parameters_there in_block = refl
