-- A table of the functions that trees name says of each function whether they name it.
use Rattle.std.proofs.Common.{◌≡◌, ◌<◌, ◌∙◌, ◌==◌, ℕ, zero, suc, Bool, true, false, ◌||◌, List, [], ◌∷◌, length, get_or, slice_set, replicate, refl, sym, ap}
use Rattle.std.proofs.Common.{arith}
use Rattle.std.proofs.lemmas.Bool.{eqb-true, eq-eqb}
use Rattle.std.specs.List.{list_any}
use Rattle.elab_entry.specs.cpp_tree.declared.kinds.TKind.{TKind}
use Rattle.elab_entry.specs.cpp_tree.declared.kinds.TKind.TheVariants as forms
use Rattle.elab_entry.specs.cpp_tree.Trees.{Tree, node, Trees, none, more}
use Rattle.elab_entry.specs.elab_rules.Statements.{Body}
use Rattle.elab_entry.specs.elab_rules.Implicit.{names_function, refers, any_refers}
use Rattle.elab_implicit.specs.Marks.{marked_kind, marked, all_marked, body_marks, table_of}

pub or_false : (a : Bool) → (a || false) ≡ a
or_false true = refl
or_false false = refl

or_true : (a : Bool) → (a || true) ≡ true
or_true true = refl
or_true false = refl

pub or_twice : (a b c : Bool) → ((a || b) || c) ≡ (a || (b || c))
or_twice true b c = refl
or_twice false b c = refl

-- One function

pub set_length : (ms : List Bool) (f : ℕ) → length (slice_set ms f true) ≡ length ms
set_length [] f = refl
set_length (m ∷ ms) zero = refl
set_length (m ∷ ms) (suc f) = ap suc (set_length ms f)

set_same : (ms : List Bool) (f k : ℕ) → k < length ms → f ≡ k → get_or (slice_set ms f true) k false ≡ true
set_same [] f k h e = absurd (omega arith)
set_same (m ∷ ms) zero zero h e = refl
set_same (m ∷ ms) zero (suc k) h e = absurd (omega arith)
set_same (m ∷ ms) (suc f) zero h e = absurd (omega arith)
set_same (m ∷ ms) (suc f) (suc k) h e = set_same ms f k (omega arith) (omega arith)

set_other : (ms : List Bool) (f k : ℕ) → (f ≡ k → true ≡ false) → get_or (slice_set ms f true) k false ≡ get_or ms k false
set_other [] f k n = refl
set_other (m ∷ ms) zero zero n = let e : true ≡ false = n refl in absurd cc
set_other (m ∷ ms) zero (suc k) n = refl
set_other (m ∷ ms) (suc f) zero n = refl
set_other (m ∷ ms) (suc f) (suc k) n = set_other ms f k (λ e. n (ap suc e))

set_by : (ms : List Bool) (f k : ℕ) (b : Bool) → (f == k) ≡ b → k < length ms → get_or (slice_set ms f true) k false ≡ (get_or ms k false || b)
set_by ms f k true e h = set_same ms f k h (eqb-true f k e) ∙ sym (or_true (get_or ms k false))
set_by ms f k false e h = set_other ms f k (λ q. sym (eq-eqb f k q) ∙ e) ∙ sym (or_false (get_or ms k false))

pub set_says : (ms : List Bool) (f k : ℕ) → k < length ms → get_or (slice_set ms f true) k false ≡ (get_or ms k false || (f == k))
set_says ms f k h = set_by ms f k (f == k) refl h

kind_length : (kind : TKind) (ms : List Bool) → length (marked_kind kind ms) ≡ length ms
kind_length (forms.Function f) ms = set_length ms f
kind_length (forms.Call f) ms = set_length ms f
kind_length (forms.VirtualCall f n slot pointer) ms = set_length ms f
kind_length (forms.Construct f) ms = set_length ms f
kind_length (forms.CopyConstruct f) ms = set_length ms f
kind_length (forms.Destroy f offset count stride) ms = set_length ms f
kind_length kind ms = refl

kind_says : (kind : TKind) (ms : List Bool) (k : ℕ) → k < length ms → get_or (marked_kind kind ms) k false ≡ (get_or ms k false || names_function k kind)
kind_says (forms.Function f) ms k h = set_says ms f k h
kind_says (forms.Call f) ms k h = set_says ms f k h
kind_says (forms.VirtualCall f n slot pointer) ms k h = set_says ms f k h
kind_says (forms.Construct f) ms k h = set_says ms f k h
kind_says (forms.CopyConstruct f) ms k h = set_says ms f k h
kind_says (forms.Destroy f offset count stride) ms k h = set_says ms f k h
kind_says kind ms k h = sym (or_false (get_or ms k false))

-- Trees

mutual
  tree_length : (t : Tree) (ms : List Bool) → length (marked t ms) ≡ length ms
  tree_length (node kind t cat at kids) ms = trees_length kids (marked_kind kind ms) ∙ kind_length kind ms

  trees_length : (ts : Trees) (ms : List Bool) → length (all_marked ts ms) ≡ length ms
  trees_length none ms = refl
  trees_length (more t ts) ms = trees_length ts (marked t ms) ∙ tree_length t ms

mutual
  tree_says : (t : Tree) (ms : List Bool) (k : ℕ) → k < length ms → get_or (marked t ms) k false ≡ (get_or ms k false || refers k t)
  tree_says (node kind t cat at kids) ms k h =
      let more_there : k < length (marked_kind kind ms) = rw (kind_length kind ms) h in
      trees_say kids (marked_kind kind ms) k more_there ∙ ap (λ (z : Bool). z || any_refers k kids) (kind_says kind ms k h)
      ∙ or_twice (get_or ms k false) (names_function k kind) (any_refers k kids)

  trees_say : (ts : Trees) (ms : List Bool) (k : ℕ) → k < length ms → get_or (all_marked ts ms) k false ≡ (get_or ms k false || any_refers k ts)
  trees_say none ms k h = sym (or_false (get_or ms k false))
  trees_say (more t ts) ms k h =
      let more_there : k < length (marked t ms) = rw (tree_length t ms) h in
      trees_say ts (marked t ms) k more_there ∙ ap (λ (z : Bool). z || any_refers k ts) (tree_says t ms k h)
      ∙ or_twice (get_or ms k false) (refers k t) (any_refers k ts)

-- Bodies

bodies_length : (bs : List Body) (ms : List Bool) → length (body_marks bs ms) ≡ length ms
bodies_length [] ms = refl
bodies_length (b ∷ bs) ms = bodies_length bs (marked b.tree ms) ∙ tree_length b.tree ms

bodies_say : (bs : List Body) (ms : List Bool) (k : ℕ) → k < length ms
    → get_or (body_marks bs ms) k false ≡ (get_or ms k false || list_any (λ (b : Body). refers k b.tree) bs)
bodies_say [] ms k h = sym (or_false (get_or ms k false))
bodies_say (b ∷ bs) ms k h =
    let more_there : k < length (marked b.tree ms) = rw (tree_length b.tree ms) h in
    bodies_say bs (marked b.tree ms) k more_there ∙ ap (λ (z : Bool). z || list_any (λ (x : Body). refers k x.tree) bs) (tree_says b.tree ms k h)
    ∙ or_twice (get_or ms k false) (refers k b.tree) (list_any (λ (x : Body). refers k x.tree) bs)

none_length : (n : ℕ) → length (replicate n false) ≡ n
none_length zero = refl
none_length (suc n) = ap suc (none_length n)

none_says : (n k : ℕ) → get_or (replicate n false) k false ≡ false
none_says zero k = refl
none_says (suc n) zero = refl
none_says (suc n) (suc k) = none_says n k

pub table_length : (n : ℕ) (bs : List Body) → length (table_of n bs) ≡ n
table_length n bs = bodies_length bs (replicate n false) ∙ none_length n

pub table_says : (n k : ℕ) (bs : List Body) → k < n → get_or (table_of n bs) k false ≡ list_any (λ (b : Body). refers k b.tree) bs
table_says n k bs h =
    let there : k < length (replicate n false) = rw (none_length n) h in
    bodies_say bs (replicate n false) k there ∙ ap (λ (z : Bool). z || list_any (λ (b : Body). refers k b.tree) bs) (none_says n k)

-- one more body
pub marks_length : (t : Tree) (ms : List Bool) → length (marked t ms) ≡ length ms
marks_length t ms = tree_length t ms

pub marks_say : (t : Tree) (ms : List Bool) (k : ℕ) → k < length ms → get_or (marked t ms) k false ≡ (get_or ms k false || refers k t)
marks_say t ms k h = tree_says t ms k h
