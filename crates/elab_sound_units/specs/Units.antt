-- Declarations of a file, and whole units, keep the types of a context sound.
use Rattle.std.specs.Prelude.{◌≡◌, ℕ, Bool, true, List}
use Rattle.std.specs.List.{list_all}
use Rattle.elab_rules.specs.cpp_lex.Tokens.{Lexeme}
use Rattle.elab_rules.specs.cpp_ast.Trees as syntax
use Rattle.elab_rules.specs.cpp_tree.Units.{TypedProgram}
use Rattle.elab_rules.specs.Functions.{Storage}
use Rattle.elab_rules.specs.Programs.{Source, start_behind, with_unit, program_of}
use Rattle.elab_rules.specs.Statements.{State}
use Rattle.elab_rules.specs.Units.{start, declarations_of, unit_from}
use Rattle.elab_fits.specs.Standing.{On}
use Rattle.elab_sound_types.specs.Contexts.{are_spelled, has_sound_members}
use Rattle.elab_sound_types.specs.States.{IsSoundState, IsSoundAfter}

-- a unit begins with sound types, the first one
abbrev pub StartsSound : Type 0
StartsSound = (source : ℕ) → IsSoundState (start source)

-- and each behind a unit that ended so
abbrev pub LaterStartsSound : Type 0
LaterStartsSound = (source : ℕ) (p : TypedProgram) (x : Source) (st : State) → IsSoundState st
    → IsSoundState (start_behind source (with_unit p x st) st.ctx.traits)

-- declarations keep them: no class is taken back, and each that was complete is so still
abbrev pub DeclarationsKeepSound : Type 0
DeclarationsKeepSound = (s : List Lexeme) (x : Storage) (st : State) (ts : syntax.Trees) → IsSoundState st → are_spelled s ts ≡ true
    → On (IsSoundAfter true st) (declarations_of s x st ts)

-- so does a whole unit, with the bodies of its implicit members
abbrev pub UnitsKeepSound : Type 0
UnitsKeepSound = (s : List Lexeme) (st : State) (decls : syntax.Trees) → IsSoundState st → are_spelled s decls ≡ true
    → On (IsSoundAfter true st) (unit_from s st decls)

-- so members of all classes of a program are objects, or what lambdas capture
abbrev pub has_spelling : Source → Bool
has_spelling x = are_spelled x.tokens x.decls

abbrev pub ProgramsAreSound : Type 0
ProgramsAreSound = (xs : List Source) → list_all has_spelling xs ≡ true
    → On (λ (p : TypedProgram). list_all (has_sound_members p.classes) p.classes ≡ true) (program_of xs)
