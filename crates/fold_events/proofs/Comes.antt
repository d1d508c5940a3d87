-- What folds to a literal comes to its word in a run, in whichever way it is run, without an event.
use Rattle.std.proofs.Common.{◌≡◌, ℕ, ◌+◌, ◌==◌, Bool, true, false, List, ◌∷◌, refl, ap, subst, Option, Some, None, cond, Result, Ok, Err}
use Rattle.std.specs.Prelude.{ℤ, option_map, unwrap_or}
use Rattle.std.proofs.lemmas.Option.{cond_some}
use Rattle.cpp_tree.specs.tx_ints.declared.kinds.IntKind.{IntKind}
use Rattle.cpp_tree.specs.tx_ints.declared.kinds.BinOp.{BinOp}
use Rattle.cpp_tree.specs.tx_ints.declared.kinds.ArithTrap.{ArithTrap}
use Rattle.cpp_tree.specs.tx_ints.Words.{word_of}
use Rattle.cpp_tree.specs.tx_events.declared.Event.TheVariants.{Silent}
use Rattle.cpp_tree.specs.tx_events.Simulation.{Path, here, step}
use Rattle.cpp_tree.specs.cpp_types.Typ.{Typ}
use Rattle.cpp_tree.specs.cpp_types.declared.classes.At.{At}
use Rattle.cpp_tree.specs.cpp_types.declared.ranks.Cat.{Cat}
use Rattle.cpp_tree.specs.declared.kinds.TKind.{TKind}
use Rattle.cpp_tree.specs.declared.kinds.TKind.TheVariants.{Literal, Convert, Binary, Conditional, Comma}
use Rattle.cpp_tree.specs.Trees.{Tree, node, Trees, none, more}
use Rattle.src_mean.specs.Linked.{Program}
use Rattle.src_mean.specs.Frames.{Here, Way, value, Frame, Run, Then, Converts, Right, Apply, Choose, State}
use Rattle.src_mean.specs.Source.{source, give, finish, converted, applied}
use Rattle.tree_fold.specs.Constants.{integer_word, both_words, value_word, operator_word, comma_word, constant}
use Rattle.tree_fold.specs.Folding.{taken_by, literal_or}
use Rattle.fold_events.proofs.Steady.{may_replace, replacing, steady, all_steady}

-- What is known where a node folds to a word

literal_or_word : (o : Option ℕ) (t : Typ) (place : At) (tree : Tree) (w : ℕ) → integer_word tree ≡ None → integer_word (literal_or o t place tree) ≡ Some w
    → o ≡ Some w
literal_or_word None t place tree w n e = absurd cc
literal_or_word (Some u) t place tree w n e = ap Some (cond_some _ u w e).1

pub guarded : (b : Bool) (o : Option ℕ) (w : ℕ) → cond b o None ≡ Some w → o ≡ Some w
guarded true o w e = e
guarded false o w e = absurd cc

mapped_word : (P : Type 0) (f : ℕ → ℕ) (o : Option ℕ) (w : ℕ) → option_map f o ≡ Some w → ((u : ℕ) → o ≡ Some u → f u ≡ w → P) → P
mapped_word P f None w e g = absurd cc
mapped_word P f (Some u) w e g = g u refl cc

two_operands : (P : Type 0) (op : BinOp) (kind : IntKind) (o q : Option ℕ) (w : ℕ) → operator_word op kind (both_words o q) ≡ Some w
    → ((x y : ℕ) → o ≡ Some x → q ≡ Some y → value_word (applied op kind x y) ≡ Some w → P) → P
two_operands P op kind None q w e g = absurd cc
two_operands P op kind (Some x) None w e g = absurd cc
two_operands P op kind (Some x) (Some y) w e g = g x y refl refl e

two_dropped : (P : Type 0) (o q : Option ℕ) (w : ℕ) → comma_word (both_words o q) ≡ Some w → ((x : ℕ) → o ≡ Some x → q ≡ Some w → P) → P
two_dropped P None q w e g = absurd cc
two_dropped P (Some x) None w e g = absurd cc
two_dropped P (Some x) (Some y) w e g = g x refl e

-- Silent steps

module _ (p : Program) where
  pub record Quietly (s r : State) : Type 0 where
    pub many : ℕ
    pub path : Path (source p) many s r

  ended : {s r : State} → s ≡ r → Quietly s r
  ended {s} e = record { many = 0; path = subst (λ z. Path (source p) 0 s z) e here }

  pub stepped : {s r : State} → s.event ≡ Silent → Quietly (give p s.here 0 s.frames) r → Quietly s r
  stepped e f = record { many = f.many + 1; path = step e f.path }

  pub followed : {s r t : State} → Quietly s r → Quietly r t → Quietly s t
  followed {s} {r} {t} f g = let h = chain f.path g.path in record { many = h.0; path = h.1 }
    where
      chain : {n m : ℕ} {s r t : State} → Path (source p) n s r → Path (source p) m r t → (k : ℕ) × Path (source p) k s t
      chain {m} here g = (m, g)
      chain (step e f) g = let h = chain f g in (h.0 + 1, step e h.1)

  finished : (h : Here) (k : List Frame) (r : Result ℤ ArithTrap) (w : ℕ) → value_word r ≡ Some w
      → finish r h (λ (z : ℤ). give p h (word_of z) k) k ≡ give p h w k
  finished h k (Ok z) w e = let s : word_of z ≡ w = cc in ap (λ (u : ℕ). give p h u k) s
  finished h k (Err trap) w e = absurd cc

  -- run in any way, it comes to this word
  abbrev pub Comes : Tree → ℕ → Type 0
  Comes t w = (h : Here) (way : Way) (k : List Frame) (x : ℕ) → Quietly (give p h x (Run way t ∷ k)) (give p h w k)

  module _ (v : ℕ → Bool) where
    taken_comes : (b c d : Bool) (t : Typ) (chosen other own : Tree) (w : ℕ) → integer_word own ≡ None
        → (integer_word (steady v chosen) ≡ Some w → Comes chosen w) → (integer_word (steady v other) ≡ Some w → Comes other w)
        → integer_word (unwrap_or (replacing t (cond b (cond c (Some (steady v other)) None) (cond d (Some (steady v chosen)) None))) own) ≡ Some w
        → Comes (cond b other chosen) w
    taken_comes true true d t chosen other own w n f g e = if_so (may_replace t (steady v other)) e
      where
        if_so : (b : Bool) → integer_word (unwrap_or (cond b (Some (steady v other)) None) own) ≡ Some w → Comes other w
        if_so true e = g e
        if_so false e = absurd cc
    taken_comes true false d t chosen other own w n f g e = absurd cc
    taken_comes false c true t chosen other own w n f g e = if_so (may_replace t (steady v chosen)) e
      where
        if_so : (b : Bool) → integer_word (unwrap_or (cond b (Some (steady v chosen)) None) own) ≡ Some w → Comes chosen w
        if_so true e = f e
        if_so false e = absurd cc
    taken_comes false c false t chosen other own w n f g e = absurd cc

    chosen_comes : (t : Typ) (cat : Cat) (place : At) (test chosen other own : Tree) (w : ℕ) (o : Option ℕ) → integer_word own ≡ None
        → ((u : ℕ) → o ≡ Some u → Comes test u) → (integer_word (steady v chosen) ≡ Some w → Comes chosen w)
        → (integer_word (steady v other) ≡ Some w → Comes other w)
        → integer_word (unwrap_or (replacing t (taken_by v t cat o (steady v chosen) (steady v other))) own) ≡ Some w
        → Comes (node Conditional t cat place (more test (more chosen (more other none)))) w
    chosen_comes t cat place test chosen other own w None n r f g e = absurd cc
    chosen_comes t cat place test chosen other own w (Some u) n r f g e = λ h way k x.
        stepped refl (followed (r u refl h value (Choose way chosen other ∷ k) 0)
        (stepped refl (taken_comes (u == 0) _ _ t chosen other own w n f g e h way k 0)))

    mutual
      pub word_comes : (t : Tree) (w : ℕ) → integer_word (steady v t) ≡ Some w → Comes t w
      word_comes (node (Literal u) t cat place kids) w e = λ h way k x. ended (ap (λ z. give p h z k) ((cond_some _ u w e).1))
      word_comes (node (Convert to) t cat place kids) w e = constant_comes (Convert to) t cat place kids w (literal_or_word _ t place _ w refl e)
      word_comes (node (Binary op kind) t cat place kids) w e = constant_comes (Binary op kind) t cat place kids w (literal_or_word _ t place _ w refl e)
      word_comes (node Comma t cat place kids) w e = constant_comes Comma t cat place kids w (literal_or_word _ t place _ w refl e)
      word_comes (node Conditional t cat place none) w e = absurd cc
      word_comes (node Conditional t cat place (more a none)) w e = absurd cc
      word_comes (node Conditional t cat place (more a (more b none))) w e = absurd cc
      word_comes (node Conditional t cat place (more test (more chosen (more other none)))) w e =
          chosen_comes t cat place test chosen other _ w (integer_word (steady v test)) refl (λ u i. word_comes test u i) (λ i. word_comes chosen w i)
          (λ i. word_comes other w i) e
      word_comes (node Conditional t cat place (more a (more b (more c (more d ts))))) w e = absurd cc
      word_comes (node kind t cat place kids) w e = absurd cc

      pub constant_comes : (kind : TKind) (t : Typ) (cat : Cat) (place : At) (kids : Trees) (w : ℕ) → constant kind t cat (all_steady v kids) ≡ Some w
          → Comes (node kind t cat place kids) w
      constant_comes (Convert to) t cat place none w e = absurd (let i : None ≡ Some w = guarded _ None w e in cc)
      constant_comes (Convert to) t cat place (more a none) w e =
          mapped_word (Comes (node (Convert to) t cat place (more a none)) w) (converted to) (integer_word (steady v a)) w (guarded _ _ w e)
          (λ u i f h way k x. stepped refl (subst (λ z. Quietly (give p h 0 (Run value a ∷ Converts to ∷ k)) (give p h z k)) f
          (word_comes a u i h value (Converts to ∷ k) 0)))
      constant_comes (Convert to) t cat place (more a (more b ts)) w e = absurd (let i : None ≡ Some w = guarded _ None w e in cc)
      constant_comes (Binary op kind) t cat place none w e = absurd (let i : None ≡ Some w = guarded _ None w e in cc)
      constant_comes (Binary op kind) t cat place (more a none) w e = absurd (let i : None ≡ Some w = guarded _ None w e in cc)
      constant_comes (Binary op kind) t cat place (more a (more b none)) w e =
          two_operands (Comes (node (Binary op kind) t cat place (more a (more b none))) w) op kind (integer_word (steady v a)) (integer_word (steady v b)) w
          (guarded _ _ w e)
          (λ m n f g i h way k x. stepped refl (followed (word_comes a m f h value (Right op kind b ∷ k) 0) (stepped refl
          (subst (λ z. Quietly (give p h 0 (Run value b ∷ Apply op kind m ∷ k)) z) (finished h k (applied op kind m n) w i)
          (word_comes b n g h value (Apply op kind m ∷ k) 0)))))
      constant_comes (Binary op kind) t cat place (more a (more b (more c ts))) w e = absurd (let i : None ≡ Some w = guarded _ None w e in cc)
      constant_comes Comma t cat place none w e = absurd (let i : None ≡ Some w = guarded _ None w e in cc)
      constant_comes Comma t cat place (more a none) w e = absurd (let i : None ≡ Some w = guarded _ None w e in cc)
      constant_comes Comma t cat place (more a (more b none)) w e =
          two_dropped (Comes (node Comma t cat place (more a (more b none))) w) (integer_word (steady v a)) (integer_word (steady v b)) w (guarded _ _ w e)
          (λ m f g h way k x. stepped refl (followed (word_comes a m f h value (Then way b ∷ k) 0) (stepped refl (word_comes b w g h way k 0))))
      constant_comes Comma t cat place (more a (more b (more c ts))) w e = absurd (let i : None ≡ Some w = guarded _ None w e in cc)
      constant_comes kind t cat place kids w e = absurd cc
