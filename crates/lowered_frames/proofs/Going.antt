-- Where the source goes on as a value is given, or as something leaves frames.
use Rattle.std.proofs.Common.{ℕ, ◌≡◌, ◌%◌, ◌^◌, ◌==◌, ◌&&◌, ◌||◌, refl, nat_lt, Bool, true, false, cond, List, [], ◌∷◌, ◌++◌, Option, Some, None}
use Rattle.std.specs.Prelude.{is_some}
use Rattle.cpp_tree.specs.cpp_types.Typ.{Typ}
use Rattle.cpp_tree.specs.Trees.{Tree, node, Trees, none, more, kind_of}
use Rattle.cpp_tree.specs.declared.kinds.Builtin.{Builtin}
use Rattle.cpp_tree.specs.declared.kinds.Builtin.TheVariants.{PutChar, GetChar, Spawn, Join, Abort}
use Rattle.cpp_tree.specs.declared.kinds.TKind.{TKind}
use Rattle.cpp_tree.specs.declared.kinds.TKind.TheVariants.{Literal, Local, Global, Function, ClassTable, Materialize, Call, Builtin as CallBuiltin, Construct, Rethrow, Elements}
use Rattle.cpp_tree.specs.declared.kinds.TKind.TheVariants.{Loop, Case, Default, Break, Continue, Return, Handler, Destroy, Field}
use Rattle.src_mean.specs.Linked.{Func, Program}
use Rattle.src_mean.specs.Frames.{Owner, of_call, same_owner}
use Rattle.src_mean.specs.Exceptions.{is_object_typ}
use Rattle.symbolic_source.specs.Terms.{Term, number, Exception, Puts}
use Rattle.symbolic_source.specs.Frames.{Way, Spot, Waiting, Exit, throws, returns, breaks, continues, Callee, known, virtual, pointer, builtin}
use Rattle.symbolic_source.specs.Frames.{Frame, Run, Gives, Waits, Scope, Full, Within, Tries, Body, Switches, Due, Items, Parts, Cleans, Takes, Fills}
use Rattle.symbolic_source.specs.Frames.{put_into, behind, puts, handled}
use Rattle.symbolic_source.specs.Outcomes.{Outcome, either}
use Rattle.symbolic_source.specs.Steps.{Answers, given, ran, left, next_word, invoked, built_in, is_throw, result_words, target_of, rethrown, return_value, first_part, if_word, goes_if, compared, destroyed, fill_field, take_field}
use Rattle.symbolic_source.specs.Small.{is_stuck}
use Rattle.lowered_frames.specs.Sound.{is_small, are_small}

-- ---- choices

pub cond_goes : (b : Bool) (o q : Outcome) → is_stuck o ≡ false → is_stuck q ≡ false → is_stuck (cond b o q) ≡ false
cond_goes true o q e h = e
cond_goes false o q e h = h

pub either_goes : (w : Term) (o q : Outcome) → is_stuck o ≡ false → is_stuck q ≡ false → is_stuck (either w o q) ≡ false
either_goes (number n) o q e h = cond_goes (n % 2 ^ 64 == 0) o q e h
either_goes w o q e h = refl

pub small_goes : (b : Bool) (o q : Outcome) → b ≡ true → is_stuck o ≡ false → is_stuck (cond b o q) ≡ false
small_goes true o q b e = e
small_goes false o q b e = absurd cc

pub word_goes : (n : ℕ) (o : Outcome) → nat_lt n (2 ^ 64) ≡ true → is_stuck o ≡ false → is_stuck (if_word n o) ≡ false
word_goes n o small e = small_goes (nat_lt n (2 ^ 64)) o _ small e

-- ---- leaving

pub left_goes : (ws : List Waiting) (exit : Exit) (k : List Frame) → is_stuck (left ws exit k) ≡ false
left_goes ws exit [] = refl
left_goes ws exit (Scope owner always scoped ∷ k) = cond_goes (always || is_throw exit) _ (left ws exit k) refl (left_goes ws exit k)
left_goes ws exit (Full outer ∷ k) = refl
left_goes ws exit (Within block ∷ k) = refl
left_goes ws (throws e) (Tries none ∷ k) = left_goes ws (throws e) k
left_goes ws (throws e) (Tries (more h hs) ∷ k) = refl
left_goes ws breaks (Body test body step ∷ k) = refl
left_goes ws continues (Body test body step ∷ k) = refl
left_goes ws breaks (Switches ∷ k) = refl
left_goes ws exit (f ∷ k) = left_goes ws exit k

-- ---- calls

built_in_goes : (ws : List Waiting) (which : Builtin) (words : List Term) (k : List Frame) → is_stuck (built_in ws which words k) ≡ false
built_in_goes ws PutChar words k = refl
built_in_goes ws GetChar words k = refl
built_in_goes ws Spawn words k = refl
built_in_goes ws Join words k = refl
built_in_goes ws Abort words k = refl

invoked_goes : (ws : List Waiting) (callee : Callee) (words : List Term) (k : List Frame) → is_stuck (invoked ws callee words k) ≡ false
invoked_goes ws (builtin which) words k = built_in_goes ws which words k
invoked_goes ws (known n) words k = refl
invoked_goes ws (virtual class slot address) words k = refl
invoked_goes ws (pointer address sig) words k = refl

pub next_goes : (ws : List Waiting) (callee : Callee) (words : List Term) (ts : Trees) (k : List Frame) → is_stuck (next_word ws callee words ts k) ≡ false
next_goes ws callee words none k = invoked_goes ws callee words k
next_goes ws callee words (more t ts) k = refl

-- ---- what waits

into_found : (b : Bool) (w : Waiting) (owner : Owner) (always : Bool) (ws : List Waiting) (k : List Frame) (others : Option (List Frame)) → is_some others ≡ true
    → is_some (put_into b w owner always ws k others) ≡ true
into_found true w owner always ws k others e = refl
into_found false w owner always ws k None e = absurd cc
into_found false w owner always ws k (Some js) e = refl

behind_found : (f : Frame) (others : Option (List Frame)) → is_some others ≡ true → is_some (behind f others) ≡ true
behind_found f None e = absurd cc
behind_found f (Some k) e = refl

pub puts_pass : (owner : Owner) (w : Waiting) (j k : List Frame) → is_some (puts owner w k) ≡ true → is_some (puts owner w (j ++ k)) ≡ true
puts_pass owner w [] k e = e
puts_pass owner w (Scope o always ws ∷ j) k e = into_found (same_owner owner o) w o always ws (j ++ k) (puts owner w (j ++ k)) (puts_pass owner w j k e)
puts_pass owner w (f ∷ j) k e = behind_found f (puts owner w (j ++ k)) (puts_pass owner w j k e)

pub own_found : (b : Bool) (w : Waiting) (owner : Owner) (always : Bool) (ws : List Waiting) (k : List Frame) (others : Option (List Frame)) → b ≡ true
    → is_some (put_into b w owner always ws k others) ≡ true
own_found true w owner always ws k others e = refl
own_found false w owner always ws k others e = absurd cc

goes_found : (ws : List Waiting) (v : Term) (others : Option (List Frame)) → is_some others ≡ true → is_stuck (goes_if ws (behind (Gives v) others)) ≡ false
goes_found ws v None e = absurd cc
goes_found ws v (Some k) e = refl

pub waits_go : (p : Program) (f : Func) (answers : Answers) (ws : List Waiting) (v : Term) (owner : Owner) (address : Spot) (destroys : Trees) (k : List Frame)
    → ((w : Waiting) → is_some (puts owner w k) ≡ true) → is_stuck (given p f answers ws v (Waits owner address destroys ∷ k)) ≡ false
waits_go p f answers ws v owner address none k e = refl
waits_go p f answers ws v owner address (more d ds) k e = goes_found ws v (puts owner (record { address = address; destroys = more d ds }) k) (e _)

-- ---- nodes

module _ (p : Program) (f : Func) (answers : Answers) where
  return_goes : (ws : List Waiting) (kids : Trees) (k : List Frame) → is_stuck (return_value p f answers ws kids k) ≡ false
  return_goes ws none k = left_goes ws (returns (number 0)) k
  return_goes ws (more t ts) k = refl

  rethrown_goes : (ws : List Waiting) (e : Option Exception) (k : List Frame) → is_stuck (rethrown p f answers ws e k) ≡ false
  rethrown_goes ws None k = refl
  rethrown_goes ws (Some e) k = left_goes ws (throws e) k

  first_goes : (ws : List Waiting) (b : Bool) (kids : Trees) (k : List Frame) → is_stuck (first_part p f answers ws b kids k) ≡ false
  first_goes ws true kids k = refl
  first_goes ws false kids k = refl

  temporary_goes : (ws : List Waiting) (way : Way) (place : ℕ) (argument : Bool) (kids : Trees) (done : Term → Outcome) (k : List Frame)
      → is_stuck (ran p f answers ws way (Materialize place argument) kids done k) ≡ false
  temporary_goes ws way place true kids done k = refl
  temporary_goes ws way place false kids done k = refl

  ran_goes : (ws : List Waiting) (way : Way) (kind : TKind) (kids : Trees) (done : Term → Outcome) (k : List Frame) → is_small kind ≡ true
      → ((w : Term) → is_stuck (done w) ≡ false) → is_stuck (ran p f answers ws way kind kids done k) ≡ false
  ran_goes ws way (Literal w) kids done k small go = word_goes w (done (number w)) small (go (number w))
  ran_goes ws way (Local place) kids done k small go = go _
  ran_goes ws way (Global n) kids done k small go = go _
  ran_goes ws way (Function g) kids done k small go = go _
  ran_goes ws way (ClassTable c) kids done k small go = go _
  ran_goes ws way (Materialize place argument) kids done k small go = temporary_goes ws way place argument kids done k
  ran_goes ws way (Call g) kids done k small go = next_goes ws (known (p.number f.unit g)) (result_words way) kids (Scope of_call true [] ∷ k)
  ran_goes ws way (CallBuiltin which) kids done k small go = next_goes ws (builtin which) [] kids k
  ran_goes ws way (Construct g) kids done k small go = next_goes ws (known (p.number f.unit g)) (target_of way ∷ []) kids (Scope of_call true [] ∷ k)
  ran_goes ws way Rethrow kids done k small go = rethrown_goes ws (handled k) k
  ran_goes ws way (Elements count stride) kids done k small go = word_goes count _ small refl
  ran_goes ws way (Loop test_first) kids done k small go = first_goes ws test_first kids k
  ran_goes ws way (Case w) kids done k small go = go _
  ran_goes ws way Default kids done k small go = go _
  ran_goes ws way Break kids done k small go = left_goes ws breaks k
  ran_goes ws way Continue kids done k small go = left_goes ws continues k
  ran_goes ws way Return kids done k small go = return_goes ws kids k
  ran_goes ws way (Handler place) kids done k small go = go _
  ran_goes ws way (Destroy g offset count stride) kids done k small go = go _
  ran_goes ws way (Field offset kind) kids done k small go = go _
  ran_goes ws way kind kids done k small go = refl

  -- frames on others, from which the source goes on whatever is given
  module _ (k : List Frame) (go : (ws : List Waiting) (v : Term) → is_stuck (given p f answers ws v k) ≡ false) where
    pub run_goes : (ws : List Waiting) (v : Term) (way : Way) (t : Tree) → is_small (kind_of t) ≡ true → is_stuck (given p f answers ws v (Run way t ∷ k)) ≡ false
    run_goes ws v way (node kind t cat place kids) small = ran_goes ws way kind kids (λ (w : Term). given p f answers ws w k) k small (λ w. go ws w)

    row_goes : (ws : List Waiting) (v : Term) (kind : TKind) (others : Trees) → is_small kind ≡ true → is_stuck (destroyed p f answers ws v kind others k) ≡ false
    row_goes ws v (Destroy g offset count stride) others small = word_goes count _ small refl
    row_goes ws v kind others small = refl

    first_small : (a b : Bool) → a && b ≡ true → a ≡ true
    first_small true b e = refl
    first_small false b e = e

    pub due_goes : (ws : List Waiting) (v : Term) (ts : Trees) → are_small ts ≡ true → is_stuck (given p f answers ws v (Due ts ∷ k)) ≡ false
    due_goes ws v none small = go ws v
    due_goes ws v (more t ts) small = row_goes ws v (kind_of t) ts (first_small (is_small (kind_of t)) (are_small ts) small)

    pub items_go : (ws : List Waiting) (v : Term) (ts : Trees) → is_stuck (given p f answers ws v (Items ts ∷ k)) ≡ false
    items_go ws v none = go ws (number 0)
    items_go ws v (more t ts) = refl

    pub cleans_go : (ws : List Waiting) (v : Term) (us : List Waiting) → is_stuck (given p f answers ws v (Cleans us ∷ k)) ≡ false
    cleans_go ws v [] = go ws v
    cleans_go ws v (u ∷ us) = refl

    pub parts_go : (ws : List Waiting) (v : Term) (ts : Trees) (target source : Term) → is_stuck (given p f answers ws v (Parts ts target source ∷ k)) ≡ false
    parts_go ws v none target source = go ws v
    parts_go ws v (more t ts) target source = refl

    taken_goes : (ws : List Waiting) (e : Exception) (base : Term) (kind : TKind) (others : Trees) → is_stuck (take_field p f answers ws e base kind others k) ≡ false
    taken_goes ws e base (Field offset kind) others = refl
    taken_goes ws e base kind others = refl

    pub takes_go : (ws : List Waiting) (v : Term) (e : Exception) (base : Term) (ts : Trees) → is_stuck (given p f answers ws v (Takes e base ts ∷ k)) ≡ false
    takes_go ws v e base none = go ws (number 0)
    takes_go ws v e base (more t ts) = taken_goes ws e base (kind_of t) ts

  field_goes : (ws : List Waiting) (t : Typ) (from : Term) (kind : TKind) (others : Trees) (puts : Puts) (k : List Frame)
      → is_stuck (fill_field p f answers ws t from kind others puts k) ≡ false
  field_goes ws t from (Field offset kind) others puts k = cond_goes (is_object_typ t) _ _ refl refl
  field_goes ws t from kind others puts k = refl

  pub fills_go : (ws : List Waiting) (v : Term) (t : Typ) (from : Term) (fields : Trees) (puts : Puts) (k : List Frame)
      → is_stuck (given p f answers ws v (Fills t from fields puts ∷ k)) ≡ false
  fills_go ws v t from none puts k = left_goes ws _ k
  fills_go ws v t from (more part others) puts k = field_goes ws t from (kind_of part) others puts k

  pub compared_goes : (ws : List Waiting) (w : Term) (ts items : Trees) (k : List Frame) → is_stuck (compared ws w ts items k) ≡ false
  compared_goes ws w none items k = refl
  compared_goes ws w (more t ts) items k = refl
