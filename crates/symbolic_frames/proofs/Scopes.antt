-- Objects that are put into a scope.
use Rattle.std.proofs.Common.{ℕ, ◌≡◌, ◌∙◌, List, ◌∷◌, refl, sym, ap, Bool, true, false, cond}
use Rattle.std.specs.Prelude.{Option, Some, None}
use Rattle.cpp_tree.specs.cpp_types.Typ.{Typ}
use Rattle.cpp_tree.specs.declared.program.Program.{Program}
use Rattle.src_mean.specs.Linked.{Func}
use Rattle.src_mean.specs.Frames as source
use Rattle.src_frames.specs.declared.frames.Owner.{Owner}
use Rattle.src_frames.specs.Shown.{owner_shown}
use Rattle.symbolic_source.specs.Frames.{put_into, puts, behind, Waiting, Scope as ScopeOf}
use Rattle.symbolic_source.specs.Frames as symbolic
use Rattle.symbolic_terms.specs.Meanings.{Meaning}
use Rattle.symbolic_terms.specs.Shown.{frame_of, all_waiting}
use Rattle.symbolic_terms.specs.declared.frames.Waitings.{Waitings}
use Rattle.symbolic_terms.specs.declared.frames.ObjectFrame.{ObjectFrame}
use Rattle.symbolic_terms.specs.declared.frames.Frame.{Frame}
use Rattle.symbolic_terms.specs.declared.frames.Frame.TheVariants.{Run, Address, Then, Gives, Leaves, Value, Call, Object, Statement, Block, Exception as AtException}
use Rattle.symbolic_terms.specs.declared.frames.ValueFrame.TheVariants.{Loads, Loaded, Replied, StoreTo, Converts, Right, Apply, Choose, AssignTo, UpdateAt, UpdateOld, UpdateBy, CopyTo, CopyBy, From}
use Rattle.symbolic_terms.specs.declared.frames.CallFrame.TheVariants.{Words, Object as ObjectOf, Slot, Pointer, Passes}
use Rattle.symbolic_terms.specs.declared.frames.ObjectFrame.TheVariants.{Full, Keeps, Scope, Waits, InitAt, Cleans, Due, Destroys, Parts, Each}
use Rattle.symbolic_terms.specs.declared.frames.StatementFrame.TheVariants.{Items, Test, Body, Step, Picks, Compares, Switches, Returning}
use Rattle.symbolic_terms.specs.declared.frames.BlockFrame.TheVariants.{Opens, Within, Closes}
use Rattle.symbolic_terms.specs.declared.frames.ExceptionFrame.TheVariants.{Throws, Fills, Filled, Tries, Trying, Takes, Taking, Handling}
use Rattle.symbolic_frames.specs.Sorts.{is_scope_of, is_scope_in, waits_too}

put_into_is : (b : Bool) (w : Waiting) (o : source.Owner) (always : Bool) (ws : List Waiting) (k : List symbolic.Frame) (others : Option (List symbolic.Frame))
    → put_into b w o always ws k others ≡ cond b (Some (ScopeOf o always (w ∷ ws) ∷ k)) (behind (ScopeOf o always ws) others)
put_into_is true w o always ws k others = refl
put_into_is false w o always ws k None = refl
put_into_is false w o always ws k (Some others) = refl

-- one frame more
puts_step : (types : ℕ → Typ) (m : Meaning) (p : Program) (f : Func) (o : Owner) (w : Waiting) (g : Frame) (k : List symbolic.Frame)
    → puts (owner_shown o) w (frame_of types m p f g ∷ k) ≡ cond (is_scope_of o g) (Some (waits_too w (frame_of types m p f g) ∷ k)) (behind (frame_of types m p f g) (puts (owner_shown o) w k))
puts_step types m p f o w (Run way t) k = refl
puts_step types m p f o w (Address x0) k = refl
puts_step types m p f o w (Then way t) k = refl
puts_step types m p f o w (Gives x0) k = refl
puts_step types m p f o w (Leaves x0) k = refl
puts_step types m p f o w (Value (Loads x0 x1)) k = refl
puts_step types m p f o w (Value (Loaded x0)) k = refl
puts_step types m p f o w (Value Replied) k = refl
puts_step types m p f o w (Value (StoreTo x0 x1 x2 x3)) k = refl
puts_step types m p f o w (Value (Converts x0)) k = refl
puts_step types m p f o w (Value (Right x0 x1 x2)) k = refl
puts_step types m p f o w (Value (Apply x0 x1 x2)) k = refl
puts_step types m p f o w (Value (Choose x0 x1 x2)) k = refl
puts_step types m p f o w (Value (AssignTo x0 x1 x2)) k = refl
puts_step types m p f o w (Value (UpdateAt x0 x1)) k = refl
puts_step types m p f o w (Value (UpdateOld x0 x1 x2)) k = refl
puts_step types m p f o w (Value (UpdateBy x0 x1 x2)) k = refl
puts_step types m p f o w (Value (CopyTo x0 x1)) k = refl
puts_step types m p f o w (Value (CopyBy x0 x1)) k = refl
puts_step types m p f o w (Value (From x0 x1)) k = refl
puts_step types m p f o w (Call (Words x0 x1 x2)) k = refl
puts_step types m p f o w (Call (ObjectOf x0 x1 x2 x3 x4)) k = refl
puts_step types m p f o w (Call (Slot x0 x1 x2 x3)) k = refl
puts_step types m p f o w (Call (Pointer x0 x1 x2)) k = refl
puts_step types m p f o w (Call (Passes x0 x1)) k = refl
puts_step types m p f o w (Object (Full x0)) k = refl
puts_step types m p f o w (Object (Keeps x0)) k = refl
puts_step types m p f o w (Object (Scope x0 x1 x2)) k = put_into_is (source.same_owner (owner_shown o) (owner_shown x0)) w (owner_shown x0) x1 (all_waiting types m p x2) k (puts (owner_shown o) w k)
puts_step types m p f o w (Object (Waits x0 x1)) k = refl
puts_step types m p f o w (Object (InitAt x0 x1)) k = refl
puts_step types m p f o w (Object (Cleans x0)) k = refl
puts_step types m p f o w (Object (Due x0)) k = refl
puts_step types m p f o w (Object (Destroys x0 x1 x2 x3)) k = refl
puts_step types m p f o w (Object (Parts x0 x1 x2)) k = refl
puts_step types m p f o w (Object (Each x0 x1 x2 x3 x4 x5)) k = refl
puts_step types m p f o w (Statement (Items x0)) k = refl
puts_step types m p f o w (Statement (Test x0)) k = refl
puts_step types m p f o w (Statement (Body x0)) k = refl
puts_step types m p f o w (Statement (Step x0)) k = refl
puts_step types m p f o w (Statement (Picks x0)) k = refl
puts_step types m p f o w (Statement (Compares x0 x1 x2 x3)) k = refl
puts_step types m p f o w (Statement Switches) k = refl
puts_step types m p f o w (Statement Returning) k = refl
puts_step types m p f o w (Block (Opens x0 x1)) k = refl
puts_step types m p f o w (Block (Within x0)) k = refl
puts_step types m p f o w (Block (Closes x0)) k = refl
puts_step types m p f o w (AtException (Throws x0 x1)) k = refl
puts_step types m p f o w (AtException (Fills x0 x1 x2 x3)) k = refl
puts_step types m p f o w (AtException (Filled x0 x1 x2 x3 x4 x5)) k = refl
puts_step types m p f o w (AtException (Tries x0)) k = refl
puts_step types m p f o w (AtException (Trying x0 x1 x2)) k = refl
puts_step types m p f o w (AtException (Takes x0 x1 x2)) k = refl
puts_step types m p f o w (AtException (Taking x0 x1 x2 x3)) k = refl
puts_step types m p f o w (AtException (Handling x0)) k = refl

module _ (types : ℕ → Typ) (m : Meaning) (p : Program) (f : Func) (o : Owner) (w : Waiting) (g : Frame) (k : List symbolic.Frame) where
  pub put_here : (h : Frame) → is_scope_of o g ≡ true → frame_of types m p f h ≡ waits_too w (frame_of types m p f g) → puts (owner_shown o) w (frame_of types m p f g ∷ k) ≡ Some (frame_of types m p f h ∷ k)
  put_here h s e =
      puts_step types m p f o w g k
      ∙ ap (λ z. cond z (Some (waits_too w (frame_of types m p f g) ∷ k)) (behind (frame_of types m p f g) (puts (owner_shown o) w k))) s
      ∙ ap (λ z. Some (z ∷ k)) (sym e)

  puts_behind : is_scope_of o g ≡ false → puts (owner_shown o) w (frame_of types m p f g ∷ k) ≡ behind (frame_of types m p f g) (puts (owner_shown o) w k)
  puts_behind s = puts_step types m p f o w g k ∙ ap (λ z. cond z (Some (waits_too w (frame_of types m p f g) ∷ k)) (behind (frame_of types m p f g) (puts (owner_shown o) w k))) s

  pub put_below : (others : List symbolic.Frame) → is_scope_of o g ≡ false → puts (owner_shown o) w k ≡ Some others → puts (owner_shown o) w (frame_of types m p f g ∷ k) ≡ Some (frame_of types m p f g ∷ others)
  put_below others s e = puts_behind s ∙ ap (behind (frame_of types m p f g)) e

  pub put_nowhere : is_scope_of o g ≡ false → puts (owner_shown o) w k ≡ None → puts (owner_shown o) w (frame_of types m p f g ∷ k) ≡ None
  put_nowhere s e = puts_behind s ∙ ap (behind (frame_of types m p f g)) e

-- ---- what is no scope

pub no_other_scope : (o : Owner) (g : Frame) → is_scope_of o g ≡ true → ((inner : ObjectFrame) → g ≡ Object inner → ⊥) → ⊥
no_other_scope o (Object inner) e h = h inner refl
no_other_scope o _ e h = absurd cc

pub no_object_scope : (o : Owner) (g : ObjectFrame) → is_scope_in o g ≡ true → ((owner : Owner) (always : Bool) (waiting : Waitings) → g ≡ Scope owner always waiting → ⊥) → ⊥
no_object_scope o (Scope owner always waiting) e h = h owner always waiting refl
no_object_scope o _ e h = absurd cc
