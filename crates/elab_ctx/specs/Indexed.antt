-- The tables of a unit's functions say where those of a class and those of a name stand.
use Rattle.std.specs.Prelude.{◌≡◌, ℕ, List}
use Rattle.elab_ctx.specs.declared.functions.Functions.TheInside.{Inside}
use Rattle.elab_ctx.specs.Places.{places_where, is_member_of, is_free_of, places_in, places_called}

pub record IsIndexed (f : Inside) : Type 0 where
  pub members : (n : ℕ) → places_in f.by_class n ≡ places_where (is_member_of n) 0 f.list.items
  pub named : (name : List ℕ) → places_called f.by_name name ≡ places_where (is_free_of name) 0 f.list.items
