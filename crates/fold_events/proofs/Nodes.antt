-- Nodes in the folded program: each run of a node goes on as a run of the folded node does, but for silent steps that the folded one leaves out.
use Rattle.std.proofs.Common.{◌≡◌, ℕ, ◌==◌, Bool, true, false, refl, ap, ap₂, ◌∙◌, List, [], ◌∷◌, Option, Some, None, cond}
use Rattle.std.specs.Prelude.{unwrap_or}
use Rattle.cpp_tree.specs.tx_events.declared.Event.TheVariants.{Silent, BeginAtomic, BeginSync}
use Rattle.cpp_tree.specs.tx_events.Thread.{Atomic as AtomicBlock, Sync}
use Rattle.cpp_tree.specs.tx_events.Simulation.{here}
use Rattle.cpp_tree.specs.cpp_types.Typ.{Typ}
use Rattle.cpp_tree.specs.cpp_types.declared.classes.At.{At}
use Rattle.cpp_tree.specs.cpp_types.declared.ranks.Cat.{Cat}
use Rattle.cpp_tree.specs.declared.kinds.TKind.TheVariants.{Literal, Local, Global, Function, ClassTable, Load, Convert, Retype, Binary, Conditional, Comma}
use Rattle.cpp_tree.specs.declared.kinds.TKind.TheVariants.{Assign, Update, CopyAssign, Materialize, FullExpression, Call, VirtualCall, PointerCall}
use Rattle.cpp_tree.specs.declared.kinds.TKind.TheVariants.{Builtin as CallBuiltin, Throw, Rethrow, Store, CopyScalar, Construct, CopyConstruct, CopyFrom}
use Rattle.cpp_tree.specs.declared.kinds.TKind.TheVariants.{Pieces, Piece, Elements, Block, Init, Defer, Loop, Switch, Case, Default, Break, Continue, Return}
use Rattle.cpp_tree.specs.declared.kinds.TKind.TheVariants.{Try, Handler, Atomic, Synchronized, Destroy, Field}
use Rattle.cpp_tree.specs.cpp_layout.Layout.{function_address}
use Rattle.cpp_tree.specs.Trees.{Tree, node, none, more, literal, typ_in, first, rest, second, third}
use Rattle.src_mean.specs.Linked.{Program}
use Rattle.src_mean.specs.Exceptions.{thrown_typ}
use Rattle.src_mean.specs.Frames.{Here, Way, value, into, breaks, continues, known, builtin, Frame, Run, Then, Gives, Loads, StoreTo, Converts, Right, Choose}
use Rattle.src_mean.specs.Frames.{AssignTo, UpdateAt, CopyTo, From, Object, Pointer, Full, Keeps, Scope, of_block, of_call, of_pieces, Waits, InitAt, Each}
use Rattle.src_mean.specs.Frames.{Picks, Tries, Opens, Throws, State, at, handled}
use Rattle.src_mean.specs.Source.{source, give, place_address, plus, target_of, source_of, result_words, called_signature, rethrow, with_temporaries}
use Rattle.tree_fold.specs.Constants.{constant, integer_word}
use Rattle.tree_fold.specs.Folding.{taken_by, literal_or}
use Rattle.fold_events.specs.Lagging.{Lags}
use Rattle.fold_events.proofs.Lagging.{at_last, behind}
use Rattle.fold_events.proofs.Steady.{may_replace, replacing, steady, all_steady, typ_kept, first_kept, rest_kept, second_kept, third_kept, first_tried}
use Rattle.fold_events.proofs.Steady.{rest_tried}
use Rattle.fold_events.proofs.Shown.{here_shown, frames_shown, state_shown, program_shown, handled_shown, leave_shown}
use Rattle.fold_events.proofs.Calls.{enter_shown, next_word_shown, call_shown, rethrow_shown, return_shown, first_part_shown}
use Rattle.fold_events.proofs.Comes.{Comes, Quietly, stepped, followed, word_comes, constant_comes}

module _ (v : ℕ → Bool) (p : Program) where
  -- the state of the folded program stands for one to which the other comes by silent steps
  abbrev pub Follows : State → State → Type 0
  Follows s r = Lags (source p) (state_shown v) s r

  pub shown_at : {s r : State} → r ≡ state_shown v s → Follows s r
  shown_at e = at_last (source p) (state_shown v) e

  pub quietly : {s t r : State} → Quietly p s t → Follows t r → Follows s r
  quietly f g = behind (source p) (state_shown v) f.path g

  module _ (h : Here) (way : Way) (k : List Frame) (on : (w : ℕ) → Follows (give p h w k)
      (give (program_shown v p) (here_shown v h) w (frames_shown v k))) where
    -- the folded program runs this tree there
    abbrev RunsAs : State → ℕ → Tree → Type 0
    RunsAs s y t = Follows s (give (program_shown v p) (here_shown v h) y (Run way t ∷ frames_shown v k))

    literal_or_kept : (s : State) (y : ℕ) (o : Option ℕ) (t : Typ) (place : At) (own : Tree) → ((w : ℕ) → o ≡ Some w → Quietly p s (give p h w k))
        → RunsAs s y own → RunsAs s y (literal_or o t place own)
    literal_or_kept s y None t place own f g = g
    literal_or_kept s y (Some w) t place own f g = quietly (f w refl) (on w)

    replaced_kept : (s : State) (y : ℕ) (b : Bool) (x own : Tree) → RunsAs s y x → RunsAs s y own → RunsAs s y (unwrap_or (cond b (Some x) None) own)
    replaced_kept s y true x own f g = f
    replaced_kept s y false x own f g = g

    replacing_kept : (s : State) (y : ℕ) (c : Bool) (t : Typ) (x own : Tree) → RunsAs s y x → RunsAs s y own
        → RunsAs s y (unwrap_or (replacing t (cond c (Some x) None)) own)
    replacing_kept s y true t x own f g = replaced_kept s y (may_replace t x) x own f g
    replacing_kept s y false t x own f g = g

    either_kept : (s : State) (y : ℕ) (b c d : Bool) (t : Typ) (chosen other own : Tree) → Quietly p s (give p h 0 (Run way (cond b other chosen) ∷ k))
        → RunsAs s y own
        → RunsAs (give p h 0 (Run way chosen ∷ k)) y (steady v chosen) → RunsAs (give p h 0 (Run way other ∷ k)) y (steady v other)
        → RunsAs s y (unwrap_or (replacing t (cond b (cond c (Some (steady v other)) None) (cond d (Some (steady v chosen)) None))) own)
    either_kept s y true c d t chosen other own l g f e = replacing_kept s y c t (steady v other) own (quietly l e) g
    either_kept s y false c d t chosen other own l g f e = replacing_kept s y d t (steady v chosen) own (quietly l f) g

    choice_kept : (y : ℕ) (t : Typ) (cat : Cat) (test chosen other own : Tree) (o : Option ℕ) → ((u : ℕ) → o ≡ Some u → Comes p test u)
        → RunsAs (at Silent h (Run value test ∷ Choose way chosen other ∷ k)) y own
        → RunsAs (give p h 0 (Run way chosen ∷ k)) y (steady v chosen) → RunsAs (give p h 0 (Run way other ∷ k)) y (steady v other)
        → RunsAs (at Silent h (Run value test ∷ Choose way chosen other ∷ k)) y
        (unwrap_or (replacing t (taken_by v t cat o (steady v chosen) (steady v other))) own)
    choice_kept y t cat test chosen other own None r g f e = g
    choice_kept y t cat test chosen other own (Some u) r g f e =
        either_kept (at Silent h (Run value test ∷ Choose way chosen other ∷ k)) y (u == 0) _ _ t chosen other own
        (stepped p refl (followed p (r u refl h value (Choose way chosen other ∷ k) 0) (stepped p refl (record { many = 0; path = here })))) g f e

    pub run_kept : (t : Tree) (x y : ℕ) → RunsAs (give p h x (Run way t ∷ k)) y (steady v t)
    run_kept (node (Literal w) t cat place kids) x y = on w
    run_kept (node (Local n) t cat place kids) x y = on (place_address h n)
    run_kept (node (Global n) t cat place kids) x y = on (p.global h.unit n)
    run_kept (node (Function f) t cat place kids) x y = on (function_address (p.number h.unit f))
    run_kept (node (ClassTable c) t cat place kids) x y = on (p.table c)
    run_kept (node (Load kind marked) t cat place kids) x y =
        shown_at (ap (λ z. at Silent (here_shown v h) (Run value z ∷ Loads kind marked ∷ frames_shown v k)) (first_kept v kids))
    run_kept (node (Convert to) t cat place kids) x y =
        literal_or_kept (at Silent h (Run value (first kids) ∷ Converts to ∷ k)) y (constant (Convert to) t cat (all_steady v kids)) t place
        (node (Convert to) t cat place (all_steady v kids)) (λ w e. constant_comes p v (Convert to) t cat place kids w e h way k 0)
        (shown_at (ap (λ z. at Silent (here_shown v h) (Run value z ∷ Converts to ∷ frames_shown v k)) (first_kept v kids)))
    run_kept (node Retype t cat place kids) x y = shown_at (ap (λ z. at Silent (here_shown v h) (Run value z ∷ frames_shown v k)) (first_kept v kids))
    run_kept (node (Binary op kind) t cat place kids) x y =
        literal_or_kept (at Silent h (Run value (first kids) ∷ Right op kind (second kids) ∷ k)) y (constant (Binary op kind) t cat (all_steady v kids)) t place
        (node (Binary op kind) t cat place (all_steady v kids)) (λ w e. constant_comes p v (Binary op kind) t cat place kids w e h way k 0)
        (shown_at (ap₂ (λ a b. at Silent (here_shown v h) (Run value a ∷ Right op kind b ∷ frames_shown v k)) (first_kept v kids) (second_kept v kids)))
    run_kept (node Conditional t cat place none) x y = shown_at refl
    run_kept (node Conditional t cat place (more a none)) x y = shown_at refl
    run_kept (node Conditional t cat place (more a (more b none))) x y = shown_at refl
    run_kept (node Conditional t cat place (more test (more chosen (more other none)))) x y =
        choice_kept y t cat test chosen other (node Conditional t cat place (more (steady v test) (more (steady v chosen) (more (steady v other) none))))
        (integer_word (steady v test)) (λ u e. word_comes p v test u e)
        (shown_at refl) (run_kept chosen 0 y) (run_kept other 0 y)
    run_kept (node Conditional t cat place (more a (more b (more c (more d ts))))) x y = shown_at refl
    run_kept (node Comma t cat place kids) x y =
        literal_or_kept (at Silent h (Run value (first kids) ∷ Then way (second kids) ∷ k)) y (constant Comma t cat (all_steady v kids)) t place
        (node Comma t cat place (all_steady v kids)) (λ w e. constant_comes p v Comma t cat place kids w e h way k 0)
        (shown_at (ap₂ (λ a b. at Silent (here_shown v h) (Run value a ∷ Then way b ∷ frames_shown v k)) (first_kept v kids) (second_kept v kids)))
    run_kept (node (Assign kind marked) t cat place kids) x y =
        shown_at (ap₂ (λ a b. at Silent (here_shown v h) (Run value a ∷ AssignTo kind marked b ∷ frames_shown v k)) (first_kept v kids) (second_kept v kids))
    run_kept (node (Update op stored operation marked old) t cat place kids) x y =
        shown_at (ap₂ (λ a b. at Silent (here_shown v h)
        (Run value a ∷ UpdateAt (record { op = op; stored = stored; operation = operation; volatile = marked; old = old }) b ∷ frames_shown v k))
        (first_kept v kids) (second_kept v kids))
    run_kept (node CopyAssign t cat place kids) x y =
        shown_at (ap₂ (λ a z. at Silent (here_shown v h) (Run value a ∷ CopyTo z (third (all_steady v kids)) ∷ frames_shown v k)) (first_kept v kids)
        (second_kept v kids) ∙ ap (λ z. at Silent (here_shown v h) (Run value (steady v (first kids)) ∷ CopyTo (steady v (second kids)) z ∷ frames_shown v k))
        (third_kept v kids))
    run_kept (node (Materialize n true) t cat place kids) x y =
        shown_at (ap₂ (λ a b. at Silent (here_shown v h)
        (Run (into (place_address h n) 0) a ∷ Waits of_call (literal (place_address h n)) b ∷ Gives (place_address h n) ∷ frames_shown v k)) (first_kept v kids)
        (rest_kept v kids))
    run_kept (node (Materialize n false) t cat place kids) x y =
        shown_at (ap₂ (λ a b. at Silent (here_shown v h)
        (Run (into (place_address h n) 0) a ∷ Keeps (literal (place_address h n)) b ∷ Gives (place_address h n) ∷ frames_shown v k)) (first_kept v kids)
        (rest_kept v kids))
    run_kept (node FullExpression t cat place kids) x y =
        shown_at (ap (λ z. at Silent (with_temporaries (here_shown v h) []) (Run way z ∷ Full ((here_shown v h)).temporaries ∷ frames_shown v k))
        (first_kept v kids))
    run_kept (node (Call f) t cat place kids) x y = shown_at (call_shown v p h (known (p.number h.unit f)) (result_words way) kids k)
    run_kept (node (VirtualCall f class slot offset) t cat place kids) x y =
        shown_at (ap₂ (λ a b. at Silent (here_shown v h) (Run value a ∷ Object (result_words way) class slot offset b ∷ frames_shown v k)) (first_kept v kids)
        (rest_kept v kids))
    run_kept (node PointerCall t cat place kids) x y =
        shown_at (ap₂ (λ a b. at Silent (here_shown v h) (Run value a ∷ Pointer (result_words way) (called_signature (typ_in a)) b ∷ frames_shown v k))
        (first_kept v kids) (rest_kept v kids) ∙ ap (λ z. at Silent (here_shown v h)
        (Run value (steady v (first kids)) ∷ Pointer (result_words way) (called_signature z) (all_steady v (rest kids)) ∷ frames_shown v k))
        (typ_kept v (first kids)))
    run_kept (node (CallBuiltin which) t cat place kids) x y = shown_at (next_word_shown v p h (builtin which) [] kids k)
    run_kept (node Throw t cat place kids) x y = shown_at
        (ap₂ (λ a b. at Silent (here_shown v h) (Run value a ∷ Throws (thrown_typ (typ_in a)) b ∷ frames_shown v k)) (first_kept v kids) (rest_kept v kids)
        ∙ ap (λ z. at Silent (here_shown v h) (Run value (steady v (first kids)) ∷ Throws (thrown_typ z) (all_steady v (rest kids)) ∷ frames_shown v k))
        (typ_kept v (first kids)))
    run_kept (node Rethrow t cat place kids) x y = shown_at
        (ap (λ z. rethrow (here_shown v h) z (frames_shown v k)) (handled_shown v k) ∙ rethrow_shown v p h (handled k) k)
    run_kept (node (Store kind marked) t cat place kids) x y =
        shown_at (ap (λ z. at Silent (here_shown v h) (Run value z ∷ StoreTo (target_of way) kind marked 0 ∷ frames_shown v k)) (first_kept v kids))
    run_kept (node (CopyScalar kind marked) t cat place kids) x y = shown_at refl
    run_kept (node (Construct f) t cat place kids) x y = shown_at (call_shown v p h (known (p.number h.unit f)) (target_of way ∷ []) kids k)
    run_kept (node (CopyConstruct f) t cat place kids) x y = shown_at (enter_shown v p h (target_of way ∷ source_of way ∷ []) (p.func (p.number h.unit f)) k)
    run_kept (node CopyFrom t cat place kids) x y = shown_at
        (ap₂ (λ a b. at Silent (here_shown v h) (Run value a ∷ From (target_of way) b ∷ frames_shown v k)) (first_kept v kids) (second_kept v kids))
    run_kept (node Pieces t cat place kids) x y = shown_at refl
    run_kept (node (Piece offset) t cat place kids) x y =
        shown_at (ap₂ (λ a b. at Silent (here_shown v h)
        (Run (into (plus (target_of way) offset) (plus (source_of way) offset)) a ∷ Waits of_pieces (literal (plus (target_of way) offset)) b
        ∷ frames_shown v k)) (first_kept v kids) (rest_kept v kids))
    run_kept (node (Elements count stride) t cat place kids) x y =
        shown_at (ap₂ (λ a b. at Silent (here_shown v h) (Each a b stride count (target_of way) (source_of way) ∷ Scope of_pieces false [] ∷ frames_shown v k))
        (first_kept v kids) (rest_kept v kids))
    run_kept (node (Block subobjects) t cat place kids) x y = shown_at refl
    run_kept (node Init t cat place kids) x y = shown_at
        (ap₂ (λ a b. at Silent (here_shown v h) (Run value a ∷ InitAt b (rest (rest (all_steady v kids))) ∷ frames_shown v k)) (first_kept v kids)
        (second_kept v kids) ∙ ap (λ z. at Silent (here_shown v h) (Run value (steady v (first kids)) ∷ InitAt (steady v (second kids)) z ∷ frames_shown v k))
        (ap rest (rest_kept v kids) ∙ rest_kept v (rest kids)))
    run_kept (node Defer t cat place kids) x y = shown_at
        (ap₂ (λ a b. at Silent (here_shown v h) (Waits of_block a b ∷ frames_shown v k)) (first_kept v kids) (rest_kept v kids))
    run_kept (node (Loop test_first) t cat place kids) x y = shown_at (first_part_shown v p h test_first kids k)
    run_kept (node Switch t cat place kids) x y = shown_at
        (ap₂ (λ a b. at Silent (here_shown v h) (Run value a ∷ Picks b ∷ frames_shown v k)) (first_kept v kids) (rest_kept v kids))
    run_kept (node (Case w) t cat place kids) x y = on 0
    run_kept (node Default t cat place kids) x y = on 0
    run_kept (node Break t cat place kids) x y = shown_at (leave_shown v h breaks k)
    run_kept (node Continue t cat place kids) x y = shown_at (leave_shown v h continues k)
    run_kept (node Return t cat place kids) x y = shown_at (return_shown v p h kids k)
    run_kept (node Try t cat place kids) x y = shown_at
        (ap₂ (λ a b. at Silent (here_shown v h) (Run value a ∷ Tries b ∷ frames_shown v k)) (first_tried v kids) (rest_tried v kids))
    run_kept (node (Handler n) t cat place kids) x y = on 0
    run_kept (node (Atomic kind) t cat place kids) x y =
        shown_at (ap (λ z. at (BeginAtomic kind) (here_shown v h) (Opens (AtomicBlock kind) z ∷ frames_shown v k)) (first_kept v kids))
    run_kept (node Synchronized t cat place kids) x y = shown_at (ap (λ z. at BeginSync (here_shown v h) (Opens Sync z ∷ frames_shown v k)) (first_kept v kids))
    run_kept (node (Destroy f offset count stride) t cat place kids) x y = on 0
    run_kept (node (Field offset kind) t cat place kids) x y = on 0
