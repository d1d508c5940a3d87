-- What lies behind a head is filled where the head is, and its exceptions are of types that are thrown.
use Rattle.std.proofs.Common.{ℕ, zero, suc, ◌≡◌, refl, Bool, List, [], ◌∷◌, ◌++◌}
use Rattle.cpp_tree.specs.cpp_types.Typ.{Typ}
use Rattle.low_code.specs.declared.scopes.ScopeKind.{ScopeKind}
use Rattle.src_mean.specs.Linked.{Func, Program}
use Rattle.symbolic_source.specs.Terms.{Term, Exception, Values, number}
use Rattle.symbolic_code.specs.Facts.{Fact, AllHold}
use Rattle.body_check.specs.Notes.{Bounds}
use Rattle.body_check.specs.Calls.{Book, AllThrown}
use Rattle.body_check.specs.Linked.{Held}
use Rattle.unwind_lower.specs.declared.items.Item.{Item}
use Rattle.unwind_lower.specs.Settings.{Setting}
use Rattle.lowered_frames.specs.Lists.{AreAll, behind, more_by, exceptions_behind}
use Rattle.lowered_frames.specs.Modes.{Mode, top, doubled, tripled, second, gone, nought, IsBare, topped}
use Rattle.lowered_frames.specs.Throws.{Throwing, throwing_exceptions, throwing_handled, handler_done}
use Rattle.lowered_frames.specs.Left.{Head, throwing, head_count, head_exceptions, head_handled, head_scopes, Left, body_ends, before, other_again, leave}
use Rattle.lowered_frames.specs.Left.{count, exception_count, caught}
use Rattle.lowered_notes.specs.Canonical.{Comes, AreThrown, head_facts, facts}
use Rattle.lowered_notes.proofs.Terms.{behind_so}
use Rattle.lowered_steps.specs.Ahead.{Filled}

all_behind : (k n : ℕ) (es : List Exception) → AreAll (more_by k n) es → AreAll n (exceptions_behind k es)
all_behind zero n es all = all
all_behind (suc k) n [] all = absurd all
all_behind (suc k) n (e ∷ es) all = all_behind k n es all

types_behind : (thrown : Typ → Bool) (k : ℕ) (es : List Exception) → AreThrown thrown es → AreThrown thrown (exceptions_behind k es)
types_behind thrown zero es are = are
types_behind thrown (suc k) [] are = types_behind thrown k [] tt
types_behind thrown (suc k) (e ∷ es) are = types_behind thrown k es are.1

facts_behind : (p : Program) (f : Func) (x : Values) (ks js : List Fact) → AllHold p f x (ks ++ js) → AllHold p f x js
facts_behind p f x [] js holds = holds
facts_behind p f x (k ∷ ks) js holds = facts_behind p f x ks js holds.1

module _ (p : Program) (b : Bounds) (book : Book) (h : Held) (g : Setting) {m n : Mode} {from to : List Item} (head : Head g m from n to) (d : Left g n to)
    (chain : List ScopeKind) (v w : Term) (es : List Exception) (ts : List Term) (known : List Fact) where
  pub filled_behind : Comes n w → Filled p b book h g (before head d) chain v es ts known
      → Filled p b book h g d (head_scopes g head chain) w (exceptions_behind (head_exceptions g head) es) (behind (head_count g head chain) ts) known
  filled_behind comes f = record {
    all = all_behind (head_exceptions g head) (exception_count g d) es f.all;
    so = behind_so (head_count g head chain) (count g d (head_scopes g head chain)) ts f.so;
    types = types_behind book.thrown (head_exceptions g head) es f.types;
    knows = λ x bounded holds. facts_behind p h.func x (head_facts g head ts) (facts g d (head_scopes g head chain) (behind (head_count g head chain) ts))
        (f.knows x bounded holds);
    comes = comes;
  }

-- ---- exceptions of entered handlers

module _ (g : Setting) (thrown : Typ → Bool) where
  -- where those that are caught behind are of types that are thrown, those that are caught here are
  throwing_thrown : {m n : Mode} {from to : List Item} (t : Throwing g m from n to) (k : ℕ) (es fs : List Exception)
      → AreAll (more_by (throwing_exceptions g t) k) es
      → AreThrown thrown es → AllThrown thrown fs → AllThrown thrown (throwing_handled g t es ++ fs)
  throwing_thrown (handler_done handler scope at) k [] fs all are those = absurd all
  throwing_thrown (handler_done handler scope at) k (e ∷ es) fs all are those = are.0
  throwing_thrown t k es fs all are those = those

  head_thrown : {m n : Mode} {from to : List Item} (head : Head g m from n to) (k : ℕ) (es fs : List Exception) → AreAll (more_by (head_exceptions g head) k) es
      → AreThrown thrown es → AllThrown thrown fs → AllThrown thrown (head_handled g head es ++ fs)
  head_thrown (throwing t) k es fs all are those = throwing_thrown t k es fs all are those
  head_thrown head k es fs all are those = those

  pub caught_thrown : {m : Mode} {items : List Item} (d : Left g m items) (es : List Exception) → AreAll (exception_count g d) es → AreThrown thrown es
      → AllThrown thrown (caught g d es)
  caught_thrown (body_ends at) es all are = tt
  caught_thrown (before head d) es all are = head_thrown head (exception_count g d) es (caught g d (exceptions_behind (head_exceptions g head) es)) all are
      (caught_thrown d (exceptions_behind (head_exceptions g head) es) (all_behind (head_exceptions g head) (exception_count g d) es all)
      (types_behind thrown (head_exceptions g head) es are))
  caught_thrown (other_again o a e d) es all are = caught_thrown d es all are
  caught_thrown (leave x cleans origin junk at d o) es all are = caught_thrown o es all are

-- ---- a value that lies nowhere

pub bare_operands : (m : Mode) (v : Term) (ws : List Term) → IsBare m → topped m v ws ≡ ws
bare_operands top v ws e = absurd e
bare_operands doubled v ws e = absurd e
bare_operands tripled v ws e = absurd e
bare_operands second v ws e = absurd e
bare_operands gone v ws e = refl
bare_operands nought v ws e = refl

pub bare_comes : (m : Mode) → IsBare m → Comes m (number 0)
bare_comes nought e = refl
bare_comes top e = tt
bare_comes doubled e = tt
bare_comes tripled e = tt
bare_comes second e = tt
bare_comes gone e = tt
