-- Nothing is left to fold in a folded tree.
use Rattle.std.proofs.Common.{◌≡◌, ℕ, zero, suc, ◌==◌, Bool, true, false, List, [], ◌∷◌, map, slice_get, refl, sym, ◌∙◌, ap, ◌&&◌, Option, Some, None, cond}
use Rattle.std.proofs.Common.{Result, Ok, Err}
use Rattle.std.specs.Prelude.{ℤ, not, option_map, unwrap_or}
use Rattle.std.proofs.lemmas.Bool.{and_parts}
use Rattle.std.proofs.lemmas.Option.{cond_some}
use Rattle.tx_ints.specs.declared.kinds.IntKind.{IntKind}
use Rattle.tx_ints.specs.declared.kinds.BinOp.{BinOp}
use Rattle.tx_ints.specs.declared.kinds.ArithTrap.{ArithTrap}
use Rattle.cpp_tree.specs.cpp_types.Typ.{Typ}
use Rattle.cpp_tree.specs.cpp_types.declared.classes.At.{At}
use Rattle.cpp_tree.specs.cpp_types.declared.ranks.Cat.{Cat}
use Rattle.cpp_tree.specs.declared.kinds.TKind.{TKind}
use Rattle.cpp_tree.specs.declared.kinds.TKind.TheVariants.{Literal, Convert, Binary, Conditional, Comma}
use Rattle.cpp_tree.specs.Trees.{Tree, node, Trees, none, more}
use Rattle.cpp_tree.specs.Units.{Func, Unit as TypedUnit, TypedProgram}
use Rattle.tx_unsafe.specs.Volatile.{has_volatile_part}
use Rattle.src_mean.specs.Source.{converted, applied}
use Rattle.tree_fold.specs.Constants.{is_integer, integer_word, both_words, value_word, operator_word, comma_word, constant}
use Rattle.tree_fold.specs.Folding.{taken_by, taken, literal_or, folded_node, folded, all_folded}
use Rattle.tree_fold.specs.Folded.{is_integer_literal, word_in, has_value, is_integer_value, may_drop, is_foldable, is_folded, are_folded}
use Rattle.tree_fold.specs.Programs.{folded_func, folded_unit, folded_program, IsFolded}
use Rattle.tree_fold.proofs.Growing.{both_true}

-- Literals and their words

abbrev is_there : Option ℕ → Bool
is_there None = false
is_there (Some w) = true

there_with : (b : Bool) (w : ℕ) → b ≡ is_there (cond (b && true) (Some w) None)
there_with true w = refl
there_with false w = refl

there_without : (b : Bool) (w : ℕ) → false ≡ is_there (cond (b && false) (Some w) None)
there_without true w = refl
there_without false w = refl

literal_known : (a : Tree) → is_integer_literal a ≡ is_there (integer_word a)
literal_known (node (Literal w) t cat at none) = there_with (is_integer t) w
literal_known (node (Literal w) t cat at (more u us)) = there_without (is_integer t) w
literal_known (node kind t cat at kids) = refl

word_known : (a : Tree) (w : ℕ) → integer_word a ≡ Some w → word_in a ≡ w
word_known (node (Literal u) t cat at kids) w e = (cond_some _ u w e).1
word_known (node kind t cat at kids) w e = absurd cc

-- Where a node has no value before the run, it is none that can be folded

convert_not : (b : Bool) (to : IntKind) (o : Option ℕ) → cond b (option_map (converted to) o) None ≡ None → (b && is_there o) ≡ false
convert_not true to None e = refl
convert_not true to (Some w) e = absurd cc
convert_not false to o e = refl

value_not : (r : Result ℤ ArithTrap) → value_word r ≡ None → has_value r ≡ false
value_not (Ok z) e = absurd cc
value_not (Err trap) e = refl

binary_not : (b : Bool) (op : BinOp) (k : IntKind) (o p : Option ℕ) (x y : ℕ) → ((w : ℕ) → o ≡ Some w → x ≡ w) → ((w : ℕ) → p ≡ Some w → y ≡ w)
    → cond b (operator_word op k (both_words o p)) None ≡ None
    → (b && is_there o && is_there p && has_value (applied op k x y)) ≡ false
binary_not false op k o p x y f g e = refl
binary_not true op k None p x y f g e = refl
binary_not true op k (Some u) None x y f g e = refl
binary_not true op k (Some u) (Some w) x y f g e =
    ap (λ (z : ℕ). has_value (applied op k z y)) (f u refl) ∙ ap (λ (z : ℕ). has_value (applied op k u z)) (g w refl) ∙ value_not (applied op k u w) e

comma_not : (b : Bool) (o p : Option ℕ) → cond b (comma_word (both_words o p)) None ≡ None → (b && is_there o && is_there p) ≡ false
comma_not false o p e = refl
comma_not true None p e = refl
comma_not true (Some u) None e = refl
comma_not true (Some u) (Some w) e = absurd cc

cond_not : (b c d : Bool) (x y : Tree) → cond b (cond c (Some x) None) (cond d (Some y) None) ≡ None → cond b c d ≡ false
cond_not true true d x y e = absurd cc
cond_not true false d x y e = refl
cond_not false c true x y e = absurd cc
cond_not false c false x y e = refl

conditional_not : (v : ℕ → Bool) (t : Typ) (cat : Cat) (o : Option ℕ) (x : ℕ) (chosen other : Tree) → ((w : ℕ) → o ≡ Some w → x ≡ w)
    → taken_by v t cat o chosen other ≡ None
    → (is_there o && cond (x == 0) (may_drop v t cat other chosen) (may_drop v t cat chosen other)) ≡ false
conditional_not v t cat None x chosen other f e = refl
conditional_not v t cat (Some w) x chosen other f e =
    ap (λ (z : ℕ). cond (z == 0) (may_drop v t cat other chosen) (may_drop v t cat chosen other)) (f w refl)
    ∙ cond_not (w == 0) (may_drop v t cat other chosen) (may_drop v t cat chosen other) other chosen e

not_foldable : (v : ℕ → Bool) (kind : TKind) (t : Typ) (cat : Cat) (at : At) (kids : Trees) → constant kind t cat kids ≡ None → taken v kind t cat kids ≡ None
    → is_foldable v (node kind t cat at kids) ≡ false
not_foldable v (Convert to) t cat at none c e = refl
not_foldable v (Convert to) t cat at (more a none) c e = ap (λ (z : Bool). is_integer_value t cat && z) (literal_known a)
    ∙ convert_not (is_integer_value t cat) to (integer_word a) c
not_foldable v (Convert to) t cat at (more a (more b ts)) c e = refl
not_foldable v (Binary op k) t cat at none c e = refl
not_foldable v (Binary op k) t cat at (more a none) c e = refl
not_foldable v (Binary op k) t cat at (more a (more b none)) c e =
    ap (λ (z : Bool). is_integer_value t cat && z && is_integer_literal b && has_value (applied op k (word_in a) (word_in b))) (literal_known a)
    ∙ ap (λ (z : Bool). is_integer_value t cat && is_there (integer_word a) && z && has_value (applied op k (word_in a) (word_in b))) (literal_known b)
    ∙ binary_not (is_integer_value t cat) op k (integer_word a) (integer_word b) (word_in a) (word_in b) (word_known a) (word_known b) c
not_foldable v (Binary op k) t cat at (more a (more b (more d ts))) c e = refl
not_foldable v Comma t cat at none c e = refl
not_foldable v Comma t cat at (more a none) c e = refl
not_foldable v Comma t cat at (more a (more b none)) c e =
    ap (λ (z : Bool). is_integer_value t cat && z && is_integer_literal b) (literal_known a)
    ∙ ap (λ (z : Bool). is_integer_value t cat && is_there (integer_word a) && z) (literal_known b)
    ∙ comma_not (is_integer_value t cat) (integer_word a) (integer_word b) c
not_foldable v Comma t cat at (more a (more b (more d ts))) c e = refl
not_foldable v Conditional t cat at none c e = refl
not_foldable v Conditional t cat at (more a none) c e = refl
not_foldable v Conditional t cat at (more a (more b none)) c e = refl
not_foldable v Conditional t cat at (more test (more chosen (more other none))) c e =
    ap (λ (z : Bool). z && cond (word_in test == 0) (may_drop v t cat other chosen) (may_drop v t cat chosen other)) (literal_known test)
    ∙ conditional_not v t cat (integer_word test) (word_in test) chosen other (word_known test) e
not_foldable v Conditional t cat at (more a (more b (more d (more f ts)))) c e = refl
not_foldable v kind t cat at kids c e = refl

-- What is taken is folded

one_taken : (v : ℕ → Bool) (b : Bool) (x tree : Tree) → is_folded v x ≡ true → cond b (Some x) None ≡ Some tree → is_folded v tree ≡ true
one_taken v b x tree p e = ap (is_folded v) (sym (cond_some b x tree e).1) ∙ p

either_taken : (v : ℕ → Bool) (b c d : Bool) (x y tree : Tree) → is_folded v x ≡ true → is_folded v y ≡ true
    → cond b (cond c (Some x) None) (cond d (Some y) None) ≡ Some tree → is_folded v tree ≡ true
either_taken v true c d x y tree p q e = one_taken v c x tree p e
either_taken v false c d x y tree p q e = one_taken v d y tree q e

first_folded : (v : ℕ → Bool) (t : Tree) (ts : Trees) → are_folded v (more t ts) ≡ true → is_folded v t ≡ true
first_folded v t ts k = (and_parts (is_folded v t) (are_folded v ts) k).0

rest_folded : (v : ℕ → Bool) (t : Tree) (ts : Trees) → are_folded v (more t ts) ≡ true → are_folded v ts ≡ true
rest_folded v t ts k = (and_parts (is_folded v t) (are_folded v ts) k).1

by_word_folded : (v : ℕ → Bool) (t : Typ) (cat : Cat) (o : Option ℕ) (chosen other tree : Tree) → is_folded v chosen ≡ true → is_folded v other ≡ true
    → taken_by v t cat o chosen other ≡ Some tree → is_folded v tree ≡ true
by_word_folded v t cat None chosen other tree p q e = absurd cc
by_word_folded v t cat (Some w) chosen other tree p q e = either_taken v (w == 0) _ _ other chosen tree q p e

taken_folded : (v : ℕ → Bool) (kind : TKind) (t : Typ) (cat : Cat) (kids : Trees) (tree : Tree) → are_folded v kids ≡ true → taken v kind t cat kids ≡ Some tree
    → is_folded v tree ≡ true
taken_folded v Conditional t cat none tree k e = absurd cc
taken_folded v Conditional t cat (more a none) tree k e = absurd cc
taken_folded v Conditional t cat (more a (more b none)) tree k e = absurd cc
taken_folded v Conditional t cat (more a (more b (more d none))) tree k e =
    let l = rest_folded v a (more b (more d none)) k in
    by_word_folded v t cat (integer_word a) b d tree (first_folded v b (more d none) l) (first_folded v d none (rest_folded v b (more d none) l)) e
taken_folded v Conditional t cat (more a (more b (more d (more f ts)))) tree k e = absurd cc
taken_folded v kind t cat kids tree k e = absurd cc

-- Nodes and trees

literal_or_folded : (v : ℕ → Bool) (o : Option ℕ) (t : Typ) (at : At) (tree : Tree) → (o ≡ None → is_folded v tree ≡ true)
    → is_folded v (literal_or o t at tree) ≡ true
literal_or_folded v None t at tree h = h refl
literal_or_folded v (Some w) t at tree h = refl

unwrapped_folded : (v : ℕ → Bool) (o : Option Tree) (tree : Tree) → ((x : Tree) → o ≡ Some x → is_folded v x ≡ true) → (o ≡ None → is_folded v tree ≡ true)
    → is_folded v (unwrap_or o tree) ≡ true
unwrapped_folded v None tree f g = g refl
unwrapped_folded v (Some x) tree f g = f x refl

node_is_folded : (v : ℕ → Bool) (kind : TKind) (t : Typ) (cat : Cat) (at : At) (kids : Trees) → are_folded v kids ≡ true
    → is_folded v (folded_node v kind t cat at kids) ≡ true
node_is_folded v kind t cat at kids k = literal_or_folded v (constant kind t cat kids) t at _ (λ c.
    unwrapped_folded v (taken v kind t cat kids) (node kind t cat at kids) (λ x e. taken_folded v kind t cat kids x k e)
    (λ e. both_true _ _ (ap not (not_foldable v kind t cat at kids c e)) k))

mutual
  pub folded_is_folded : (v : ℕ → Bool) (t : Tree) → is_folded v (folded v t) ≡ true
  folded_is_folded v (node kind t cat at kids) = node_is_folded v kind t cat at (all_folded v kids) (folded_are_folded v kids)

  folded_are_folded : (v : ℕ → Bool) (ts : Trees) → are_folded v (all_folded v ts) ≡ true
  folded_are_folded v none = refl
  folded_are_folded v (more t ts) = both_true _ _ (folded_is_folded v t) (folded_are_folded v ts)

-- Programs

mapped : {A B : Type 0} (g : A → B) (xs : List A) (i : ℕ) (y : B) → slice_get (map g xs) i ≡ Some y → (x : A) × (g x ≡ y)
mapped g [] i y e = absurd cc
mapped g (x ∷ xs) zero y e = (x, cc)
mapped g (x ∷ xs) (suc i) y e = mapped g xs i y e

body_is_folded : (v : ℕ → Bool) (o : Option Tree) (body : Tree) → option_map (folded v) o ≡ Some body → is_folded v body ≡ true
body_is_folded v None body e = absurd cc
body_is_folded v (Some t) body e = let s : folded v t ≡ body = cc in ap (is_folded v) (sym s) ∙ folded_is_folded v t

pub program_is_folded : (p : TypedProgram) → IsFolded (folded_program p)
program_is_folded p =
    let v = has_volatile_part p.classes in
    record {
      bodies = λ i n u f body s t e.
          let unit = mapped (folded_unit v) p.units i u s in
          let func = mapped (folded_func v) unit.0.funcs n f (ap (λ (z : TypedUnit). slice_get z.funcs n) unit.1 ∙ t) in
          body_is_folded v func.0.body body (ap (λ (z : Func). z.body) func.1 ∙ e);
    }
