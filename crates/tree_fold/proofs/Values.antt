-- What folds to a literal comes to its word in a run, without an event.
use Rattle.std.proofs.Common.{◌≡◌, ℕ, zero, suc, ◌==◌, Bool, true, false, List, ◌∷◌, refl, sym, ap, subst, ◌&&◌, Option, Some, None, cond, Result, Ok, Err}
use Rattle.std.specs.Prelude.{ℤ, option_map, unwrap_or}
use Rattle.std.proofs.lemmas.Option.{cond_some}
use Rattle.tx_ints.specs.declared.kinds.IntKind.{IntKind}
use Rattle.tx_ints.specs.declared.kinds.BinOp.{BinOp}
use Rattle.tx_ints.specs.declared.kinds.ArithTrap.{ArithTrap}
use Rattle.tx_ints.specs.Words.{word_of}
use Rattle.cpp_tree.specs.tx_events.declared.Event.TheVariants.{Silent}
use Rattle.cpp_tree.specs.cpp_types.Typ.{Typ}
use Rattle.cpp_tree.specs.cpp_types.declared.classes.At.{At}
use Rattle.cpp_tree.specs.cpp_types.declared.ranks.Cat.{Cat}
use Rattle.cpp_tree.specs.declared.kinds.TKind.TheVariants.{Literal, Convert, Binary, Conditional, Comma}
use Rattle.cpp_tree.specs.Trees.{Tree, node, Trees, none, more}
use Rattle.cpp_tree.specs.Typing.{is_prvalue}
use Rattle.src_mean.specs.Linked.{Program}
use Rattle.src_mean.specs.Frames.{Here, Way, value, Frame, Run, Then, Converts, Right, Apply, Choose, State, at}
use Rattle.src_mean.specs.Source.{give, finish, converted, applied}
use Rattle.tree_fold.specs.Constants.{is_integer, integer_word, both_words, value_word, operator_word, comma_word, of_integer}
use Rattle.tree_fold.specs.Folding.{taken_by, literal_or, folded}
use Rattle.tree_fold.specs.Quiet.{Quiet, ComesTo, GoesTo}

-- Steps behind steps

abbrev joined : ℕ → ℕ → ℕ
joined zero n = n
joined (suc m) n = suc (joined m n)

quiet_joined : (p : Program) (m n : ℕ) (s t u : State) → Quiet p m s t → Quiet p n t u → Quiet p (joined m n) s u
quiet_joined p zero n s t u q r = subst (λ (z : State). Quiet p n z u) (sym q) r
quiet_joined p (suc m) n s t u q r = (q.0, quiet_joined p m n (give p s.here 0 s.frames) t u q.1 r)

-- What is known where a node folds to a word

literal_or_word : (o : Option ℕ) (t : Typ) (place : At) (tree : Tree) (w : ℕ) → integer_word tree ≡ None → integer_word (literal_or o t place tree) ≡ Some w
    → o ≡ Some w
literal_or_word None t place tree w n e = absurd cc
literal_or_word (Some u) t place tree w n e = ap Some (cond_some _ u w e).1

guarded : (b : Bool) (o : Option ℕ) (w : ℕ) → cond b o None ≡ Some w → o ≡ Some w
guarded true o w e = e
guarded false o w e = absurd cc

guarded_word : (t : Typ) (cat : Cat) (o : Option ℕ) (w : ℕ) → of_integer t cat o ≡ Some w → o ≡ Some w
guarded_word t cat o w e = guarded (is_integer t && is_prvalue cat) o w e

mapped_word : (P : Type 0) (f : ℕ → ℕ) (o : Option ℕ) (w : ℕ) → option_map f o ≡ Some w → ((u : ℕ) → o ≡ Some u → f u ≡ w → P) → P
mapped_word P f None w e g = absurd cc
mapped_word P f (Some u) w e g = g u refl cc

two_operands : (P : Type 0) (op : BinOp) (kind : IntKind) (o q : Option ℕ) (w : ℕ) → operator_word op kind (both_words o q) ≡ Some w
    → ((x y : ℕ) → o ≡ Some x → q ≡ Some y → value_word (applied op kind x y) ≡ Some w → P) → P
two_operands P op kind None q w e g = absurd cc
two_operands P op kind (Some x) None w e g = absurd cc
two_operands P op kind (Some x) (Some y) w e g = g x y refl refl e

two_dropped : (P : Type 0) (o q : Option ℕ) (w : ℕ) → comma_word (both_words o q) ≡ Some w → ((x : ℕ) → o ≡ Some x → q ≡ Some w → P) → P
two_dropped P None q w e g = absurd cc
two_dropped P (Some x) None w e g = absurd cc
two_dropped P (Some x) (Some y) w e g = g x refl e

finished : (p : Program) (h : Here) (k : List Frame) (r : Result ℤ ArithTrap) (w : ℕ) → value_word r ≡ Some w
    → finish r h (λ (z : ℤ). give p h (word_of z) k) k ≡ give p h w k
finished p h k (Ok z) w e = let s : word_of z ≡ w = cc in ap (λ (u : ℕ). give p h u k) s
finished p h k (Err trap) w e = absurd cc

-- Node by node

literal_comes : (p : Program) (h : Here) (k : List Frame) (u w : ℕ) (t : Typ) (cat : Cat) (place : At) (kids : Trees) → u ≡ w
    → ComesTo p h (node (Literal u) t cat place kids) w k
literal_comes p h k u w t cat place kids e = record { others = 0; quiet = (refl, ap (λ (z : ℕ). give p h z k) e) }

convert_comes : (p : Program) (h : Here) (k : List Frame) (to : IntKind) (t : Typ) (cat : Cat) (place : At) (a : Tree) (u w : ℕ) → converted to u ≡ w
    → ComesTo p h a u (Converts to ∷ k) → ComesTo p h (node (Convert to) t cat place (more a none)) w k
convert_comes p h k to t cat place a u w e r = record {
  others = suc r.others;
  quiet =
      (refl, subst (λ (z : ℕ). Quiet p (suc r.others) (at Silent h (Run value a ∷ Converts to ∷ k)) (give p h z k)) e r.quiet);
}

binary_comes : (p : Program) (h : Here) (k : List Frame) (op : BinOp) (kind : IntKind) (t : Typ) (cat : Cat) (place : At) (a b : Tree) (x y w : ℕ)
    → value_word (applied op kind x y) ≡ Some w
    → ComesTo p h a x (Right op kind b ∷ k) → ComesTo p h b y (Apply op kind x ∷ k) → ComesTo p h (node (Binary op kind) t cat place (more a (more b none))) w k
binary_comes p h k op kind t cat place a b x y w e r s = record {
  others = joined (suc r.others) (suc s.others);
  quiet = (
    refl,
    quiet_joined p (suc r.others) (suc s.others) (at Silent h (Run value a ∷ Right op kind b ∷ k)) (at Silent h (Run value b ∷ Apply op kind x ∷ k))
        (give p h w k) r.quiet
        (subst (λ (z : State). Quiet p (suc s.others) (at Silent h (Run value b ∷ Apply op kind x ∷ k)) z) (finished p h k (applied op kind x y) w e) s.quiet),
  );
}

comma_comes : (p : Program) (h : Here) (k : List Frame) (t : Typ) (cat : Cat) (place : At) (a b : Tree) (x w : ℕ) → ComesTo p h a x (Then value b ∷ k)
    → ComesTo p h b w k → ComesTo p h (node Comma t cat place (more a (more b none))) w k
comma_comes p h k t cat place a b x w r s = record {
  others = joined (suc r.others) (suc s.others);
  quiet = (
    refl,
    quiet_joined p (suc r.others) (suc s.others) (at Silent h (Run value a ∷ Then value b ∷ k)) (at Silent h (Run value b ∷ k))
        (give p h w k) r.quiet s.quiet,
  );
}

conditional_comes : (p : Program) (h : Here) (k : List Frame) (t : Typ) (cat : Cat) (place : At) (test chosen other : Tree) (u w : ℕ)
    → ComesTo p h test u (Choose value chosen other ∷ k) → ComesTo p h (cond (u == 0) other chosen) w k
    → ComesTo p h (node Conditional t cat place (more test (more chosen (more other none)))) w k
conditional_comes p h k t cat place test chosen other u w r s = record {
  others = joined (suc r.others) (suc s.others);
  quiet = (
    refl,
    quiet_joined p (suc r.others) (suc s.others) (at Silent h (Run value test ∷ Choose value chosen other ∷ k))
        (at Silent h (Run value (cond (u == 0) other chosen) ∷ k)) (give p h w k) r.quiet s.quiet,
  );
}

-- The operand that is taken comes to the word

abbrev Comes : (v : ℕ → Bool) → Program → Here → Tree → ℕ → List Frame → Type 0
Comes v p h tree w k = integer_word (folded v tree) ≡ Some w → ComesTo p h tree w k

taken_comes : (v : ℕ → Bool) (p : Program) (h : Here) (k : List Frame) (b c d : Bool) (chosen other own : Tree) (w : ℕ) → integer_word own ≡ None
    → Comes v p h chosen w k → Comes v p h other w k
    → integer_word (unwrap_or (cond b (cond c (Some (folded v other)) None) (cond d (Some (folded v chosen)) None)) own) ≡ Some w
    → ComesTo p h (cond b other chosen) w k
taken_comes v p h k true true d chosen other own w n f g e = g e
taken_comes v p h k true false d chosen other own w n f g e = absurd cc
taken_comes v p h k false c true chosen other own w n f g e = f e
taken_comes v p h k false c false chosen other own w n f g e = absurd cc

chosen_comes : (v : ℕ → Bool) (p : Program) (h : Here) (k : List Frame) (t : Typ) (cat : Cat) (place : At) (test chosen other own : Tree) (w : ℕ) (o : Option ℕ)
    → integer_word own ≡ None
    → ((u : ℕ) → o ≡ Some u → ComesTo p h test u (Choose value chosen other ∷ k)) → Comes v p h chosen w k → Comes v p h other w k
    → integer_word (unwrap_or (taken_by v t cat o (folded v chosen) (folded v other)) own) ≡ Some w
    → ComesTo p h (node Conditional t cat place (more test (more chosen (more other none)))) w k
chosen_comes v p h k t cat place test chosen other own w None n r f g e = absurd cc
chosen_comes v p h k t cat place test chosen other own w (Some u) n r f g e =
    conditional_comes p h k t cat place test chosen other u w (r u refl) (taken_comes v p h k (u == 0) _ _ chosen other own w n f g e)

-- Trees

pub value_kept : (v : ℕ → Bool) (p : Program) (h : Here) (k : List Frame) (tree : Tree) (w : ℕ) → integer_word (folded v tree) ≡ Some w → ComesTo p h tree w k
value_kept v p h k (node (Literal u) t cat place kids) w e = literal_comes p h k u w t cat place kids ((cond_some _ u w e).1)
value_kept v p h k (node (Convert to) t cat place none) w e =
    absurd (let q : None ≡ Some w = guarded_word t cat None w (literal_or_word _ t place _ w refl e) in cc)
value_kept v p h k (node (Convert to) t cat place (more a none)) w e =
    mapped_word (ComesTo p h (node (Convert to) t cat place (more a none)) w k) (converted to) (integer_word (folded v a)) w
    (guarded_word t cat _ w (literal_or_word _ t place _ w refl e))
    (λ u q r. convert_comes p h k to t cat place a u w r (value_kept v p h (Converts to ∷ k) a u q))
value_kept v p h k (node (Convert to) t cat place (more a (more b ts))) w e =
    absurd (let q : None ≡ Some w = guarded_word t cat None w (literal_or_word _ t place _ w refl e) in cc)
value_kept v p h k (node (Binary op kind) t cat place none) w e =
    absurd (let q : None ≡ Some w = guarded_word t cat None w (literal_or_word _ t place _ w refl e) in cc)
value_kept v p h k (node (Binary op kind) t cat place (more a none)) w e =
    absurd (let q : None ≡ Some w = guarded_word t cat None w (literal_or_word _ t place _ w refl e) in cc)
value_kept v p h k (node (Binary op kind) t cat place (more a (more b none))) w e =
    two_operands (ComesTo p h (node (Binary op kind) t cat place (more a (more b none))) w k) op kind (integer_word (folded v a)) (integer_word (folded v b)) w
    (guarded_word t cat _ w (literal_or_word _ t place _ w refl e))
    (λ x y q r s. binary_comes p h k op kind t cat place a b x y w s (value_kept v p h (Right op kind b ∷ k) a x q)
    (value_kept v p h (Apply op kind x ∷ k) b y r))
value_kept v p h k (node (Binary op kind) t cat place (more a (more b (more c ts)))) w e =
    absurd (let q : None ≡ Some w = guarded_word t cat None w (literal_or_word _ t place _ w refl e) in cc)
value_kept v p h k (node Comma t cat place none) w e = absurd (let q : None ≡ Some w = guarded_word t cat None w (literal_or_word _ t place _ w refl e) in cc)
value_kept v p h k (node Comma t cat place (more a none)) w e =
    absurd (let q : None ≡ Some w = guarded_word t cat None w (literal_or_word _ t place _ w refl e) in cc)
value_kept v p h k (node Comma t cat place (more a (more b none))) w e =
    two_dropped (ComesTo p h (node Comma t cat place (more a (more b none))) w k) (integer_word (folded v a)) (integer_word (folded v b)) w
    (guarded_word t cat _ w (literal_or_word _ t place _ w refl e))
    (λ x q r. comma_comes p h k t cat place a b x w (value_kept v p h (Then value b ∷ k) a x q) (value_kept v p h k b w r))
value_kept v p h k (node Comma t cat place (more a (more b (more c ts)))) w e =
    absurd (let q : None ≡ Some w = guarded_word t cat None w (literal_or_word _ t place _ w refl e) in cc)
value_kept v p h k (node Conditional t cat place none) w e = absurd cc
value_kept v p h k (node Conditional t cat place (more a none)) w e = absurd cc
value_kept v p h k (node Conditional t cat place (more a (more b none))) w e = absurd cc
value_kept v p h k (node Conditional t cat place (more test (more chosen (more other none)))) w e =
    chosen_comes v p h k t cat place test chosen other _ w (integer_word (folded v test)) refl
    (λ u q. value_kept v p h (Choose value chosen other ∷ k) test u q) (λ q. value_kept v p h k chosen w q) (λ q. value_kept v p h k other w q) e
value_kept v p h k (node Conditional t cat place (more a (more b (more c (more d ts))))) w e = absurd cc
value_kept v p h k (node kind t cat place kids) w e = absurd cc

-- A choice that is known

pub choice_kept : (v : ℕ → Bool) (p : Program) (h : Here) (k : List Frame) (way : Way) (t : Typ) (cat : Cat) (place : At) (test chosen other : Tree) (w : ℕ)
    → integer_word (folded v test) ≡ Some w
    → GoesTo p h way (node Conditional t cat place (more test (more chosen (more other none)))) (cond (w == 0) other chosen) k
choice_kept v p h k way t cat place test chosen other w e = let r = value_kept v p h (Choose way chosen other ∷ k) test w e in
    record { others = suc r.others; quiet = (refl, r.quiet) }
