-- Calls, destructions, labels and fields in the folded program.
use Rattle.std.proofs.Common.{◌≡◌, ℕ, Bool, true, false, ◌||◌, nat_lt, refl, sym, ap, ◌∙◌, List, [], ◌∷◌, Option, Some, None, cond}
use Rattle.std.specs.Prelude.{option_map, ◌+◌}
use Rattle.cpp_tree.specs.tx_events.declared.Trap.TheVariants.{UnsafeCall}
use Rattle.cpp_tree.specs.tx_events.declared.End.TheVariants.{Trapped}
use Rattle.cpp_tree.specs.tx_events.declared.Event.TheVariants.{Silent}
use Rattle.cpp_tree.specs.tx_events.Thread.{no_atomic}
use Rattle.cpp_tree.specs.cpp_types.Typ.{Typ}
use Rattle.cpp_tree.specs.declared.kinds.Builtin.{Builtin}
use Rattle.cpp_tree.specs.declared.kinds.Builtin.TheVariants.{PutChar, GetChar, Spawn as SpawnThread, Join as JoinThread, Abort as AbortProgram}
use Rattle.cpp_tree.specs.declared.kinds.TKind.{TKind}
use Rattle.cpp_tree.specs.declared.kinds.TKind.TheVariants.{Case, Default, Destroy, Field, Handler}
use Rattle.cpp_tree.specs.Trees.{Tree, node, Trees, none, more, kind_of, first, rest}
use Rattle.src_mean.specs.Linked.{Func, Program}
use Rattle.src_mean.specs.Exceptions.{Exception, is_object_typ}
use Rattle.src_mean.specs.Frames.{Here, value, Callee, known, virtual, pointer, builtin, Frame, Then, Handling, Compares, at, blocks_of, Scope, of_call, throws}
use Rattle.src_mean.specs.Frames.{returns}
use Rattle.src_mean.specs.Source.{halt, enter, is_safe, enter_found, enter_pointed, spawn, built_in, invoke, next_word, call, call_slot, destroy, from_label}
use Rattle.src_mean.specs.Source.{is_case, is_default, compare, run_items, take_field, fill_field, taken, handle, rethrow, return_value, first_part}
use Rattle.src_mean.specs.Source.{thread_signature, first_word, second_word}
use Rattle.fold_events.proofs.Steady.{steady, all_steady, steady_catch, mark, mark_kept, is_case_kept, is_default_kept, case_kept, first_kept, rest_kept}
use Rattle.fold_events.proofs.Shown.{here_shown, frames_shown, state_shown, func_shown, program_shown, either_shown, blocks_shown, leave_shown}

module _ (v : ℕ → Bool) (p : Program) where
  abbrev q : Program
  q = program_shown v p

  -- Calls

  pub enter_shown : (h : Here) (words : List ℕ) (f : Option Func) (k : List Frame)
      → enter (here_shown v h) words (option_map (func_shown v) f) (frames_shown v k) ≡ state_shown v (enter h words f k)
  enter_shown h words None k = refl
  enter_shown h words (Some f) k = either_shown v (nat_lt h.limit (h.end + f.size)) _ _ _ _ refl refl

  safe_kept : (f : Option Func) → is_safe (option_map (func_shown v) f) ≡ is_safe f
  safe_kept None = refl
  safe_kept (Some f) = refl

  enter_found_shown : (h : Here) (words : List ℕ) (f : Option Func) (k : List Frame)
      → enter_found (here_shown v h) words (option_map (func_shown v) f) (frames_shown v k) ≡ state_shown v (enter_found h words f k)
  enter_found_shown h words f k =
      ap (λ z. cond (no_atomic z || is_safe (option_map (func_shown v) f)) (enter (here_shown v h) words (option_map (func_shown v) f) (frames_shown v k))
      (halt (here_shown v h) (Trapped UnsafeCall) (frames_shown v k))) (blocks_shown v k)
      ∙ ap (λ z. cond (no_atomic (blocks_of k) || z) (enter (here_shown v h) words (option_map (func_shown v) f) (frames_shown v k))
      (halt (here_shown v h) (Trapped UnsafeCall) (frames_shown v k))) (safe_kept f)
      ∙ either_shown v (no_atomic (blocks_of k) || is_safe f) _ _ (enter h words f k) (halt h (Trapped UnsafeCall) k) (enter_shown h words f k) refl

  enter_pointed_shown : (h : Here) (words : List ℕ) (number : Option ℕ) (k : List Frame)
      → enter_pointed q (here_shown v h) words number (frames_shown v k) ≡ state_shown v (enter_pointed p h words number k)
  enter_pointed_shown h words None k = refl
  enter_pointed_shown h words (Some number) k = enter_found_shown h words (p.func number) k

  spawn_shown : (h : Here) (number : Option ℕ) (arg : ℕ) (k : List Frame)
      → spawn (here_shown v h) number arg (frames_shown v k) ≡ state_shown v (spawn h number arg k)
  spawn_shown h None arg k = refl
  spawn_shown h (Some number) arg k = refl

  built_in_shown : (h : Here) (which : Builtin) (words : List ℕ) (k : List Frame)
      → built_in q (here_shown v h) which words (frames_shown v k) ≡ state_shown v (built_in p h which words k)
  built_in_shown h PutChar words k = refl
  built_in_shown h GetChar words k = refl
  built_in_shown h SpawnThread words k = spawn_shown h (p.pointed (first_word words) thread_signature) (second_word words) k
  built_in_shown h JoinThread words k = refl
  built_in_shown h AbortProgram words k = refl

  invoke_shown : (h : Here) (callee : Callee) (words : List ℕ) (k : List Frame)
      → invoke q (here_shown v h) callee words (frames_shown v k) ≡ state_shown v (invoke p h callee words k)
  invoke_shown h (known number) words k = enter_shown h words (p.func number) k
  invoke_shown h (virtual number) words k = enter_found_shown h words (p.func number) k
  invoke_shown h (pointer address sig) words k = enter_pointed_shown h words (p.pointed address sig) k
  invoke_shown h (builtin which) words k = built_in_shown h which words k

  pub next_word_shown : (h : Here) (callee : Callee) (before : List ℕ) (words : Trees) (k : List Frame)
      → next_word q (here_shown v h) callee before (all_steady v words) (frames_shown v k) ≡ state_shown v (next_word p h callee before words k)
  next_word_shown h callee before none k = invoke_shown h callee before k
  next_word_shown h callee before (more t ts) k = refl

  pub call_shown : (h : Here) (callee : Callee) (before : List ℕ) (words : Trees) (k : List Frame)
      → call q (here_shown v h) callee before (all_steady v words) (frames_shown v k) ≡ state_shown v (call p h callee before words k)
  call_shown h callee before words k = next_word_shown h callee before words (Scope of_call true [] ∷ k)

  pub call_slot_shown : (h : Here) (number : Option ℕ) (before : List ℕ) (words : Trees) (k : List Frame)
      → call_slot q (here_shown v h) number before (all_steady v words) (frames_shown v k) ≡ state_shown v (call_slot p h number before words k)
  call_slot_shown h None before words k = refl
  call_slot_shown h (Some number) before words k = call_shown h (virtual number) before words k

  -- Destructions

  destroy_of_mark : (h : Here) (address : ℕ) (kind : TKind) (others : Trees) (k : List Frame)
      → destroy q h address (mark kind) others k ≡ destroy q h address kind others k
  destroy_of_mark h address (Case w) others k = refl
  destroy_of_mark h address Default others k = refl
  destroy_of_mark h address (Destroy f o c s) others k = refl
  destroy_of_mark h address (Field o t) others k = refl
  destroy_of_mark h address kind others k = refl

  destroy_kind : (h : Here) (address : ℕ) (kind : TKind) (others : Trees) (k : List Frame)
      → destroy q (here_shown v h) address kind (all_steady v others) (frames_shown v k) ≡ state_shown v (destroy p h address kind others k)
  destroy_kind h address (Destroy f o c s) others k = refl
  destroy_kind h address kind others k = refl

  pub destroy_shown : (h : Here) (address : ℕ) (t : Tree) (others : Trees) (k : List Frame)
      → destroy q (here_shown v h) address (kind_of (steady v t)) (all_steady v others) (frames_shown v k)
      ≡ state_shown v (destroy p h address (kind_of t) others k)
  destroy_shown h address t others k =
      sym (destroy_of_mark (here_shown v h) address (kind_of (steady v t)) (all_steady v others) (frames_shown v k))
      ∙ ap (λ z. destroy q (here_shown v h) address z (all_steady v others) (frames_shown v k)) (mark_kept v t)
      ∙ destroy_of_mark (here_shown v h) address (kind_of t) (all_steady v others) (frames_shown v k)
      ∙ destroy_kind h address (kind_of t) others k

  -- Fields

  take_of_mark : (h : Here) (e : Exception) (base : ℕ) (kind : TKind) (others : Trees) (k : List Frame)
      → take_field h e base (mark kind) others k ≡ take_field h e base kind others k
  take_of_mark h e base (Case w) others k = refl
  take_of_mark h e base Default others k = refl
  take_of_mark h e base (Destroy f o c s) others k = refl
  take_of_mark h e base (Field o t) others k = refl
  take_of_mark h e base kind others k = refl

  take_kind : (h : Here) (e : Exception) (base : ℕ) (kind : TKind) (others : Trees) (k : List Frame)
      → take_field (here_shown v h) e base kind (all_steady v others) (frames_shown v k) ≡ state_shown v (take_field h e base kind others k)
  take_kind h e base (Field o t) others k = refl
  take_kind h e base kind others k = refl

  pub take_field_shown : (h : Here) (e : Exception) (base : ℕ) (t : Tree) (others : Trees) (k : List Frame)
      → take_field (here_shown v h) e base (kind_of (steady v t)) (all_steady v others) (frames_shown v k)
      ≡ state_shown v (take_field h e base (kind_of t) others k)
  take_field_shown h e base t others k =
      sym (take_of_mark (here_shown v h) e base (kind_of (steady v t)) (all_steady v others) (frames_shown v k))
      ∙ ap (λ z. take_field (here_shown v h) e base z (all_steady v others) (frames_shown v k)) (mark_kept v t)
      ∙ take_of_mark (here_shown v h) e base (kind_of t) (all_steady v others) (frames_shown v k)
      ∙ take_kind h e base (kind_of t) others k

  fill_of_mark : (h : Here) (t : Typ) (from : ℕ) (kind : TKind) (others : Trees) (bytes : List ℕ) (k : List Frame)
      → fill_field h t from (mark kind) others bytes k ≡ fill_field h t from kind others bytes k
  fill_of_mark h t from (Case w) others bytes k = refl
  fill_of_mark h t from Default others bytes k = refl
  fill_of_mark h t from (Destroy f o c s) others bytes k = refl
  fill_of_mark h t from (Field o u) others bytes k = refl
  fill_of_mark h t from kind others bytes k = refl

  fill_kind : (h : Here) (t : Typ) (from : ℕ) (kind : TKind) (others : Trees) (bytes : List ℕ) (k : List Frame)
      → fill_field (here_shown v h) t from kind (all_steady v others) bytes (frames_shown v k) ≡ state_shown v (fill_field h t from kind others bytes k)
  fill_kind h t from (Field o u) others bytes k = either_shown v (is_object_typ t) _ _ _ _ refl refl
  fill_kind h t from kind others bytes k = refl

  pub fill_field_shown : (h : Here) (t : Typ) (from : ℕ) (u : Tree) (others : Trees) (bytes : List ℕ) (k : List Frame)
      → fill_field (here_shown v h) t from (kind_of (steady v u)) (all_steady v others) bytes (frames_shown v k)
      ≡ state_shown v (fill_field h t from (kind_of u) others bytes k)
  fill_field_shown h t from u others bytes k =
      sym (fill_of_mark (here_shown v h) t from (kind_of (steady v u)) (all_steady v others) bytes (frames_shown v k))
      ∙ ap (λ z. fill_field (here_shown v h) t from z (all_steady v others) bytes (frames_shown v k)) (mark_kept v u)
      ∙ fill_of_mark (here_shown v h) t from (kind_of u) (all_steady v others) bytes (frames_shown v k)
      ∙ fill_kind h t from (kind_of u) others bytes k

  -- Labels

  label_step : (b : Bool) (t : Tree) (ts us vs : Trees) → us ≡ all_steady v vs
      → cond b (more (steady v t) (all_steady v ts)) us ≡ all_steady v (cond b (more t ts) vs)
  label_step true t ts us vs e = refl
  label_step false t ts us vs e = e

  defaults_kept : (ts : Trees) → from_label is_default (all_steady v ts) ≡ all_steady v (from_label is_default ts)
  defaults_kept none = refl
  defaults_kept (more t ts) = ap (λ b. cond b (more (steady v t) (all_steady v ts)) (from_label is_default (all_steady v ts))) (is_default_kept v t)
      ∙ label_step (is_default (kind_of t)) t ts (from_label is_default (all_steady v ts)) (from_label is_default ts) (defaults_kept ts)

  compare_step : (h : Here) (w : ℕ) (b : Bool) (t : Tree) (ts us vs items : Trees) (k : List Frame) → (b ≡ true → kind_of (steady v t) ≡ kind_of t)
      → compare (here_shown v h) w us (all_steady v items) (frames_shown v k) ≡ state_shown v (compare h w vs items k)
      → compare (here_shown v h) w (cond b (more (steady v t) (all_steady v ts)) us) (all_steady v items) (frames_shown v k)
      ≡ state_shown v (compare h w (cond b (more t ts) vs) items k)
  compare_step h w true t ts us vs items k f e = ap (λ z. at Silent (here_shown v h) (Compares w z (all_steady v ts) (all_steady v items) ∷ frames_shown v k))
      (f refl)
  compare_step h w false t ts us vs items k f e = e

  pub compare_shown : (h : Here) (w : ℕ) (ts items : Trees) (k : List Frame)
      → compare (here_shown v h) w (from_label is_case (all_steady v ts)) (all_steady v items) (frames_shown v k)
      ≡ state_shown v (compare h w (from_label is_case ts) items k)
  compare_shown h w none items k = ap (λ z. run_items (here_shown v h) z (frames_shown v k)) (defaults_kept items)
  compare_shown h w (more t ts) items k =
      ap (λ b. compare (here_shown v h) w (cond b (more (steady v t) (all_steady v ts)) (from_label is_case (all_steady v ts))) (all_steady v items)
      (frames_shown v k)) (is_case_kept v t)
      ∙ compare_step h w (is_case (kind_of t)) t ts (from_label is_case (all_steady v ts)) (from_label is_case ts) items k (case_kept v t)
      (compare_shown h w ts items k)

  -- Handlers

  taken_shown : (h : Here) (e : Exception) (kind : TKind) (fields : Trees) (k : List Frame)
      → taken (here_shown v h) e kind (all_steady v fields) (frames_shown v k) ≡ frames_shown v (taken h e kind fields k)
  taken_shown h e (Handler (Some place)) fields k = refl
  taken_shown h e kind fields k = refl

  pub handle_shown : (h : Here) (e : Exception) (handler : Tree) (k : List Frame)
      → handle (here_shown v h) e (steady_catch v handler) (frames_shown v k) ≡ state_shown v (handle h e handler k)
  handle_shown h e (node kind t cat place kids) k =
      ap (λ z. at Silent (here_shown v h) (taken (here_shown v h) e kind z (Then value (first (all_steady v kids)) ∷ Handling e ∷ frames_shown v k)))
      (rest_kept v kids)
      ∙ ap (λ z. at Silent (here_shown v h) (taken (here_shown v h) e kind (all_steady v (rest kids)) (Then value z ∷ Handling e ∷ frames_shown v k)))
      (first_kept v kids)
      ∙ ap (λ z. at Silent (here_shown v h) z) (taken_shown h e kind (rest kids) (Then value (first kids) ∷ Handling e ∷ k))

  -- Statements

  pub rethrow_shown : (h : Here) (e : Option Exception) (k : List Frame) → rethrow (here_shown v h) e (frames_shown v k) ≡ state_shown v (rethrow h e k)
  rethrow_shown h None k = refl
  rethrow_shown h (Some e) k = leave_shown v h (throws e) k

  pub return_shown : (h : Here) (kids : Trees) (k : List Frame)
      → return_value (here_shown v h) (all_steady v kids) (frames_shown v k) ≡ state_shown v (return_value h kids k)
  return_shown h none k = leave_shown v h (returns 0) k
  return_shown h (more t ts) k = refl

  pub first_part_shown : (h : Here) (test_first : Bool) (kids : Trees) (k : List Frame)
      → first_part (here_shown v h) test_first (all_steady v kids) (frames_shown v k) ≡ state_shown v (first_part h test_first kids k)
  first_part_shown h true none k = refl
  first_part_shown h true (more a none) k = refl
  first_part_shown h true (more a (more b none)) k = refl
  first_part_shown h true (more a (more b (more c ts))) k = refl
  first_part_shown h false none k = refl
  first_part_shown h false (more a none) k = refl
  first_part_shown h false (more a (more b none)) k = refl
  first_part_shown h false (more a (more b (more c ts))) k = refl
