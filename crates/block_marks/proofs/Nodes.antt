-- A node that is run leaves what is good.
use Rattle.std.specs.Prelude.{◌≡◌, ℕ, Bool, true, false, not, ◌||◌, List, [], ◌∷◌, refl}
use Rattle.std.proofs.lemmas.Bool.{false≢true, and_parts, and_from}
use Rattle.cpp_tree.specs.declared.kinds.TKind.{TKind}
use Rattle.cpp_tree.specs.declared.kinds.TKind.TheVariants.{Literal, Local, Global, Function, ClassTable, Load, Convert, Retype, Binary, Conditional, Comma}
use Rattle.cpp_tree.specs.declared.kinds.TKind.TheVariants.{Assign, Update, CopyAssign, Materialize, FullExpression, Call, VirtualCall, PointerCall}
use Rattle.cpp_tree.specs.declared.kinds.TKind.TheVariants.{Builtin as CallBuiltin, Throw, Rethrow, Store, CopyScalar, Construct, CopyConstruct, CopyFrom}
use Rattle.cpp_tree.specs.declared.kinds.TKind.TheVariants.{Pieces, Piece, Elements, Block, Init, Defer, Loop, Switch, Case, Default, Break, Continue, Return}
use Rattle.cpp_tree.specs.declared.kinds.TKind.TheVariants.{Try, Handler, Atomic, Synchronized, Destroy, Field}
use Rattle.cpp_tree.specs.Trees.{Trees, none, more, first, rest}
use Rattle.src_mean.specs.Linked.{Program}
use Rattle.src_mean.specs.Frames.{Here, Way, returns, breaks, continues, of_block, of_call, of_pieces, known, builtin, Frame, Scope, State, handled}
use Rattle.src_mean.specs.Source.{run_node, result_words, target_of, source_of, return_value, first_part}
use Rattle.block_marks.specs.Marks.{is_tame_kind, scope_for, is_free, all_free, all_within, all_handlers, are_placed, below, are_tame, is_met, round_of}
use Rattle.block_marks.specs.Marks.{is_outside, has_safe_body, IsTame}
use Rattle.block_marks.proofs.Trees.{first_tame, rest_tame, first_alone, second_alone, third_alone, free_runs, alone_runs, free_all, within_all}
use Rattle.block_marks.proofs.Calls.{Marked, Good, enters, next_words, calls}
use Rattle.block_marks.proofs.Leaving.{leaves, rethrows}

-- a call by name of a function of the unit
safe_body : (a b o : Bool) → (a ≡ true → b ≡ true) → (a || o) ≡ true → (b || o) ≡ true
safe_body true true o g i = refl
safe_body true false o g i = absurd (false≢true (g refl))
safe_body false true o g i = refl
safe_body false false o g i = i

pub named : (p : Program) (safe : ℕ → ℕ → Bool) → IsTame p safe → (u f : ℕ) (o : Bool) → (safe u f || o) ≡ true
    → (has_safe_body (p.func (p.number u f)) || o) ≡ true
named p safe m u f o i = safe_body (safe u f) (has_safe_body (p.func (p.number u f))) o (m.calls u f) i

returns_value : (p : Program) (safe : ℕ → ℕ → Bool) (h : Here) (ts : Trees) (k : List Frame) → are_tame (safe h.unit) (is_outside k) ts ≡ true
    → all_free ts ≡ true → Good p safe h k → Marked p safe (return_value h ts k)
returns_value p safe h none k t a q = leaves p safe h (returns 0) k q
returns_value p safe h (more x xs) k t a q = record {
  hidden = refl;
  good = and_from _ _
      (alone_runs (safe h.unit) (round_of k) x (first_alone (safe h.unit) (is_outside k) (more x xs) t a)) q;
}

first_parts : (p : Program) (safe : ℕ → ℕ → Bool) (h : Here) (b : Bool) (ts : Trees) (k : List Frame) → are_tame (safe h.unit) (is_outside k) ts ≡ true
    → all_free ts ≡ true → Good p safe h k → Marked p safe (first_part h b ts k)
first_parts p safe h true ts k t a q =
    let s = safe h.unit in
    let o = is_outside k in
    let x = first_alone s o ts t a in
    let loop = and_from _ _ x (and_from _ _ (second_alone s o ts t a) (third_alone s o ts t a)) in
    record { hidden = refl; good = and_from _ _ (alone_runs s (round_of k) (first ts) x) (and_from _ _ loop q) }
first_parts p safe h false ts k t a q =
    let s = safe h.unit in
    let o = is_outside k in
    let x = second_alone s o ts t a in
    let loop = and_from _ _ (first_alone s o ts t a) (and_from _ _ x (third_alone s o ts t a)) in
    record { hidden = refl; good = and_from _ _ (alone_runs s (round_of k) (first (rest ts)) x) (and_from _ _ loop q) }

pub nodes : (p : Program) (safe : ℕ → ℕ → Bool) (m : IsTame p safe) (h : Here) (way : Way) (kind : TKind) (kids : Trees) (done : ℕ → State) (k : List Frame)
    → (is_tame_kind (safe h.unit) kind || is_outside k) ≡ true → are_placed kind kids ≡ true → are_tame (safe h.unit) (below kind (is_outside k)) kids ≡ true
    → is_met (round_of k) (scope_for kind) ≡ true
    → Good p safe h k → ((w : ℕ) → Marked p safe (done w)) → Marked p safe (run_node p h way kind kids done k)
nodes p safe m h way (Literal w) kids done k i a t n q g = g _
nodes p safe m h way (Local place) kids done k i a t n q g = g _
nodes p safe m h way (Global x) kids done k i a t n q g = g _
nodes p safe m h way (Function x) kids done k i a t n q g = g _
nodes p safe m h way (ClassTable x) kids done k i a t n q g = g _
nodes p safe m h way (Case w) kids done k i a t n q g = g _
nodes p safe m h way Default kids done k i a t n q g = g _
nodes p safe m h way (Handler place) kids done k i a t n q g = g _
nodes p safe m h way (Destroy f o c s) kids done k i a t n q g = g _
nodes p safe m h way (Field o c) kids done k i a t n q g = g _
nodes p safe m h way (Load kind volatile) kids done k i a t n q g =
    record {
      hidden = refl;
      good = and_from _ _ (alone_runs (safe h.unit) (round_of k) (first kids) (first_alone (safe h.unit) (is_outside k) kids t a))
          (and_from _ _ i q);
    }
nodes p safe m h way (Convert kind) kids done k i a t n q g =
    record { hidden = refl; good = and_from _ _ (alone_runs (safe h.unit) (round_of k) (first kids) (first_alone (safe h.unit) (is_outside k) kids t a)) q }
nodes p safe m h way Retype kids done k i a t n q g =
    record { hidden = refl; good = and_from _ _ (alone_runs (safe h.unit) (round_of k) (first kids) (first_alone (safe h.unit) (is_outside k) kids t a)) q }
nodes p safe m h way (Binary op kind) kids done k i a t n q g =
    record {
      hidden = refl;
      good = and_from _ _ (alone_runs (safe h.unit) (round_of k) (first kids) (first_alone (safe h.unit) (is_outside k) kids t a))
          (and_from _ _ (second_alone (safe h.unit) (is_outside k) kids t a) q);
    }
nodes p safe m h way Conditional kids done k i a t n q g =
    record {
      hidden = refl;
      good = and_from _ _ (alone_runs (safe h.unit) (round_of k) (first kids) (first_alone (safe h.unit) (is_outside k) kids t a))
          (and_from _ _ (and_from _ _ (second_alone (safe h.unit) (is_outside k) kids t a) (third_alone (safe h.unit) (is_outside k) kids t a)) q);
    }
nodes p safe m h way Comma kids done k i a t n q g = record {
  hidden = refl;
  good = and_from _ _
      (alone_runs (safe h.unit) (round_of k) (first kids) (first_alone (safe h.unit) (is_outside k) kids t a))
      (and_from _ _ (alone_runs (safe h.unit) (round_of k) (first (rest kids)) (second_alone (safe h.unit) (is_outside k) kids t a)) q);
}
nodes p safe m h way (Assign kind volatile) kids done k i a t n q g =
    record {
      hidden = refl;
      good = and_from _ _ (alone_runs (safe h.unit) (round_of k) (first kids) (first_alone (safe h.unit) (is_outside k) kids t a))
          (and_from _ _ (and_from _ _ i (second_alone (safe h.unit) (is_outside k) kids t a)) q);
    }
nodes p safe m h way (Update op stored operation volatile old) kids done k i a t n q g =
    record {
      hidden = refl;
      good = and_from _ _ (alone_runs (safe h.unit) (round_of k) (first kids) (first_alone (safe h.unit) (is_outside k) kids t a))
          (and_from _ _ (and_from _ _ i (second_alone (safe h.unit) (is_outside k) kids t a)) q);
    }
nodes p safe m h way CopyAssign kids done k i a t n q g =
    record {
      hidden = refl;
      good = and_from _ _ (alone_runs (safe h.unit) (round_of k) (first kids) (first_alone (safe h.unit) (is_outside k) kids t a))
          (and_from _ _ (and_from _ _ (second_alone (safe h.unit) (is_outside k) kids t a) (third_alone (safe h.unit) (is_outside k) kids t a)) q);
    }
nodes p safe m h way (Materialize place true) kids done k i a t n q g =
    record {
      hidden = refl;
      good = and_from _ _ (alone_runs (safe h.unit) (round_of k) (first kids) (first_alone (safe h.unit) (is_outside k) kids t a))
          (and_from _ _ (and_from _ _ n (rest_tame (safe h.unit) (is_outside k) kids t)) q);
    }
nodes p safe m h way (Materialize place false) kids done k i a t n q g =
    record {
      hidden = refl;
      good = and_from _ _ (alone_runs (safe h.unit) (round_of k) (first kids) (first_alone (safe h.unit) (is_outside k) kids t a))
          (and_from _ _ (rest_tame (safe h.unit) (is_outside k) kids t) q);
    }
nodes p safe m h way FullExpression kids done k i a t n q g =
    record { hidden = refl; good = and_from _ _ (alone_runs (safe h.unit) (round_of k) (first kids) (first_alone (safe h.unit) (is_outside k) kids t a)) q }
nodes p safe m h way (Call f) kids done k i a t n q g =
    calls p safe m h (known (p.number h.unit f)) (result_words way) kids k (named p safe m h.unit f (is_outside k) i) t a q
nodes p safe m h way (Construct f) kids done k i a t n q g =
    calls p safe m h (known (p.number h.unit f)) (target_of way ∷ []) kids k (named p safe m h.unit f (is_outside k) i) t a q
nodes p safe m h way (CopyConstruct f) kids done k i a t n q g =
    enters p safe h (target_of way ∷ source_of way ∷ []) (p.func (p.number h.unit f)) k (m.funcs (p.number h.unit f))
    (named p safe m h.unit f (is_outside k) i) q
nodes p safe m h way (VirtualCall f c x y) kids done k i a t n q g =
    let b = and_parts (is_free (first kids)) (all_within of_call (rest kids)) a in
    record {
      hidden = refl;
      good = and_from _ _ (free_runs (safe h.unit) (round_of k) (first kids) (first_tame (safe h.unit) (is_outside k) kids t) b.0)
          (and_from _ _ (and_from _ _ (rest_tame (safe h.unit) (is_outside k) kids t) b.1) q);
    }
nodes p safe m h way PointerCall kids done k i a t n q g =
    let b = and_parts (is_free (first kids)) (all_within of_call (rest kids)) a in
    record {
      hidden = refl;
      good = and_from _ _ (free_runs (safe h.unit) (round_of k) (first kids) (first_tame (safe h.unit) (is_outside k) kids t) b.0)
          (and_from _ _ (and_from _ _ (rest_tame (safe h.unit) (is_outside k) kids t) b.1) q);
    }
nodes p safe m h way (CallBuiltin b) kids done k i a t n q g = next_words p safe m h (builtin b) [] kids k i (free_all (safe h.unit) (round_of k) kids t a) q
nodes p safe m h way Throw kids done k i a t n q g = record {
  hidden = refl;
  good = and_from _ _
      (alone_runs (safe h.unit) (round_of k) (first kids) (first_alone (safe h.unit) (is_outside k) kids t a)) q;
}
nodes p safe m h way Rethrow kids done k i a t n q g = rethrows p safe h (handled k) k q
nodes p safe m h way (Store kind volatile) kids done k i a t n q g =
    record {
      hidden = refl;
      good = and_from _ _ (alone_runs (safe h.unit) (round_of k) (first kids) (first_alone (safe h.unit) (is_outside k) kids t a))
          (and_from _ _ i q);
    }
nodes p safe m h way (CopyScalar kind volatile) kids done k i a t n q g = record { hidden = i; good = and_from _ _ i q }
nodes p safe m h way CopyFrom kids done k i a t n q g =
    record {
      hidden = refl;
      good = and_from _ _ (alone_runs (safe h.unit) (round_of k) (first kids) (first_alone (safe h.unit) (is_outside k) kids t a))
          (and_from _ _ (second_alone (safe h.unit) (is_outside k) kids t a) q);
    }
nodes p safe m h way Pieces kids done k i a t n q g =
    record { hidden = refl; good = and_from _ _ (within_all (safe h.unit) of_pieces (round_of (Scope of_pieces false [] ∷ k)) kids refl t a) q }
nodes p safe m h way (Piece offset) kids done k i a t n q g =
    record {
      hidden = refl;
      good = and_from _ _ (alone_runs (safe h.unit) (round_of k) (first kids) (first_alone (safe h.unit) (is_outside k) kids t a))
          (and_from _ _ (and_from _ _ n (rest_tame (safe h.unit) (is_outside k) kids t)) q);
    }
nodes p safe m h way (Elements count stride) kids done k i a t n q g =
    record {
      hidden = refl;
      good = and_from _ _ (and_from _ _ (first_alone (safe h.unit) (is_outside k) kids t a)
          (rest_tame (safe h.unit) (is_outside k) kids t)) q;
    }
nodes p safe m h way (Block subobjects) kids done k i a t n q g =
    record { hidden = refl; good = and_from _ _ (within_all (safe h.unit) of_block (round_of (Scope of_block (not subobjects) [] ∷ k)) kids refl t a) q }
nodes p safe m h way Init kids done k i a t n q g = record {
  hidden = refl;
  good = and_from _ _
      (alone_runs (safe h.unit) (round_of k) (first kids) (first_alone (safe h.unit) (is_outside k) kids t a))
      (and_from _ _ (and_from _ _ n (and_from _ _ (second_alone (safe h.unit) (is_outside k) kids t a)
      (rest_tame (safe h.unit) (is_outside k) (rest kids) (rest_tame (safe h.unit) (is_outside k) kids t)))) q);
}
nodes p safe m h way Defer kids done k i a t n q g = record {
  hidden = refl;
  good = and_from _ _
      (and_from _ _ n (and_from _ _ (first_alone (safe h.unit) (is_outside k) kids t a) (rest_tame (safe h.unit) (is_outside k) kids t))) q;
}
nodes p safe m h way (Loop b) kids done k i a t n q g = first_parts p safe h b kids k t a q
nodes p safe m h way Switch kids done k i a t n q g =
    let b = and_parts (is_free (first kids)) (all_within of_block (rest kids)) a in
    record {
      hidden = refl;
      good = and_from _ _ (free_runs (safe h.unit) (round_of k) (first kids) (first_tame (safe h.unit) (is_outside k) kids t) b.0)
          (and_from _ _ (and_from _ _ (rest_tame (safe h.unit) (is_outside k) kids t) b.1) q);
    }
nodes p safe m h way Break kids done k i a t n q g = leaves p safe h breaks k q
nodes p safe m h way Continue kids done k i a t n q g = leaves p safe h continues k q
nodes p safe m h way Return kids done k i a t n q g = returns_value p safe h kids k t a q
nodes p safe m h way Try kids done k i a t n q g =
    let b = and_parts (is_free (first kids)) (all_handlers (rest kids)) a in
    record {
      hidden = refl;
      good = and_from _ _ (free_runs (safe h.unit) (round_of k) (first kids) (first_tame (safe h.unit) (is_outside k) kids t) b.0)
          (and_from _ _ (and_from _ _ (rest_tame (safe h.unit) (is_outside k) kids t) b.1) q);
    }
nodes p safe m h way (Atomic kind) kids done k i a t n q g = record { hidden = refl; good = and_from _ _ (first_alone (safe h.unit) false kids t a) q }
nodes p safe m h way Synchronized kids done k i a t n q g = record { hidden = refl; good = and_from _ _ (first_alone (safe h.unit) (is_outside k) kids t a) q }
