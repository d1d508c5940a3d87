-- Scopes as lists of pairs, and what a name stands for in them.
use Rattle.std.specs.Prelude.{ℕ, List, [], ◌∷◌, ◌++◌, Option, Some, None, if◌then◌else◌}
use Rattle.std.specs.Option.{option_or}
use Rattle.std.specs.Str.{bytes_eq}
use Rattle.cpp_names.specs.declared.entity.Entity.{Entity}

-- a scope: its names with what they stand for, in order of declaration
abbrev pub Names : Type 0
Names = List (List ℕ × Entity)

-- what a scope has the name for
abbrev pub entity_of : Names → List ℕ → Option Entity
entity_of [] name = None
entity_of (pair ∷ rest) name = if bytes_eq name pair.0 then Some pair.1 else entity_of rest name

-- what the innermost scope has the name for; the innermost scope comes first
abbrev pub innermost_of : List Names → List ℕ → Option Entity
innermost_of [] name = None
innermost_of (scope ∷ outer) name = entity_of scope name

-- what the name stands for: the innermost scope that has it decides
abbrev pub found_in : List Names → List ℕ → Option Entity
found_in [] name = None
found_in (scope ∷ outer) name = option_or (entity_of scope name) (found_in outer name)

-- the scopes with one more pair at the end of the innermost
abbrev pub with_name : List Names → List ℕ → Entity → List Names
with_name [] name entity = []
with_name (scope ∷ outer) name entity = (scope ++ (name, entity) ∷ []) ∷ outer
