-- Conditionals.
use Rattle.std.specs.Prelude.{Bool, false, ◌||◌, cond, List, [], ◌∷◌, ◌++◌, Option}
use Rattle.low_code.specs.declared.scopes.Owner.TheVariants.{Full}
use Rattle.low_code.specs.declared.writer.Jump.{Jump}
use Rattle.low_code.specs.Scopes.{same_owner}
use Rattle.low_code.specs.Nodes.{Node, kid_in}
use Rattle.unwind_lower.specs.declared.items.Way.{Way}
use Rattle.unwind_lower.specs.declared.items.Other.{Other as OtherPart}
use Rattle.unwind_lower.specs.declared.items.Item.{Item}
use Rattle.unwind_lower.specs.declared.items.Item.TheVariants.{Run, Other, OtherAgain, Bind, Close}
use Rattle.unwind_lower.specs.States.{State, later, jumped, jump_from, jumped_if_zero, zero_jump_from, bound, at_scope, scope_of}
use Rattle.unwind_lower.specs.Settings.{Setting, makes_temporaries}

-- the full-expression ends with an item
abbrev pub is_end : Item → Bool
is_end (Close owner at) = same_owner owner Full
is_end item = false

-- the items up to the end of the full-expression, that one included
unfoldable pub up_to_end : List Item → List Item
up_to_end [] = []
up_to_end (item ∷ items) = cond (is_end item) (item ∷ []) (item ∷ up_to_end items)

-- they are to be written before an item too, and once more behind it
unfoldable pub repeat_rest : Item → State → State
repeat_rest item s = record s { work = up_to_end s.work ++ item ∷ s.work }

-- an item behind the end of the full-expression
unfoldable pub with_behind : Item → List Item → List Item
with_behind new [] = new ∷ []
with_behind new (item ∷ items) = cond (is_end item) (item ∷ new ∷ items) (item ∷ with_behind new items)

unfoldable pub bind_behind : Option Jump → State → State
bind_behind jump s = record s { work = with_behind (Bind jump) s.work }

-- what is to be written where the test is 0, in the scope of the test
unfoldable pub start_other : OtherPart → State → State
start_other o s = bound o.test (at_scope o.scope (jumped o.at s))

unfoldable pub other : OtherPart → State → State
other o s = later (Run o.id o.way) (later (Bind (jump_from s)) (start_other o s))

unfoldable pub other_again : OtherPart → State → State
other_again o s = later (Run o.id o.way) (bind_behind (jump_from s) (start_other o s))

-- the branch where the test is 0
abbrev pub other_of : Node → Way → State → OtherPart
other_of n way s = record {
  test = zero_jump_from s;
  scope = scope_of (jumped_if_zero n.at s);
  id = kid_in n.kids 2;
  way = way;
  at = n.at;
}

-- one of the branches makes temporaries that wait
abbrev pub branches_make : Setting → Node → Bool
branches_make g n = makes_temporaries g (kid_in n.kids 1) || makes_temporaries g (kid_in n.kids 2)

unfoldable pub branch : Setting → Node → Way → State → State
branch g n way s = later (Run (kid_in n.kids 1) way) (cond (branches_make g n)
    (repeat_rest (OtherAgain (other_of n way s)) (jumped_if_zero n.at s))
    (later (Other (other_of n way s)) (jumped_if_zero n.at s)))
