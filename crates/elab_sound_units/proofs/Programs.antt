-- Units begin with sound types, and so the classes of a program have sound members.
use Rattle.std.proofs.Common.{◌≡◌, refl, ap, ◌∙◌, ℕ, zero, suc, true, List, [], ◌∷◌, length, unwrap_or}
use Rattle.std.specs.Prelude.{map, slice_get}
use Rattle.std.specs.List.{list_all}
use Rattle.std.proofs.lemmas.Bool.{and_parts}
use Rattle.elab_rules.specs.cpp_tree.Units.{TypedProgram}
use Rattle.elab_rules.specs.elab_ctx.Ctx.{Traits}
use Rattle.elab_rules.specs.Objects.{no_traits}
use Rattle.elab_rules.specs.Statements.{State}
use Rattle.elab_rules.specs.Programs.{Source, start_behind, with_unit, program_from}
use Rattle.elab_rules.specs.Units.{unit_from}
use Rattle.elab_fits.specs.Standing.{On}
use Rattle.elab_fits.proofs.Steps.{bind}
use Rattle.elab_sound_types.specs.Contexts.{has_sound_members}
use Rattle.elab_sound_types.specs.States.{IsSoundState}
use Rattle.elab_sound_types.proofs.States.{since}
use Rattle.elab_sound_units.specs.Units.{StartsSound, LaterStartsSound, has_spelling, ProgramsAreSound}
use Rattle.elab_sound_units.proofs.Below.{After}
use Rattle.elab_sound_units.proofs.Units.{units_law}

pub starts_law : StartsSound
starts_law source = record {
  context = record {
    types = refl;
    members = refl;
    functions = refl;
    enumerators = refl;
    variables = refl;
    this = refl;
    captures = refl;
    globals = refl;
    many = refl;
    copied = λ n h. absurd cc;
  };
  closures = refl;
  returned = refl;
}

-- behind others nothing is known of special members

no_traits_at : (ts : List Traits) (n : ℕ) → unwrap_or (slice_get (map (λ (t : Traits). no_traits) ts) n) no_traits ≡ no_traits
no_traits_at [] n = refl
no_traits_at (t ∷ ts) zero = refl
no_traits_at (t ∷ ts) (suc n) = no_traits_at ts n

no_more_traits : (ts : List Traits) → length (map (λ (t : Traits). no_traits) ts) ≡ length ts
no_more_traits [] = refl
no_more_traits (t ∷ ts) = ap suc (no_more_traits ts)

abbrev HasSoundClasses : TypedProgram → Type 0
HasSoundClasses p = list_all (has_sound_members p.classes) p.classes ≡ true

behind_sound : (source : ℕ) (p : TypedProgram) (ts : List Traits) → HasSoundClasses p → length ts ≡ length p.classes → IsSoundState (start_behind source p ts)
behind_sound source p ts h q = record {
  context = record {
    types = refl;
    members = h;
    functions = refl;
    enumerators = refl;
    variables = refl;
    this = refl;
    captures = refl;
    globals = refl;
    many = no_more_traits ts ∙ q;
    copied = λ n g. let e = ap (λ (t : Traits). t.is_trivially_copyable) (no_traits_at ts n) in absurd cc;
  };
  closures = refl;
  returned = refl;
}

pub later_law : LaterStartsSound
later_law source p x st h = behind_sound source (with_unit p x st) st.ctx.traits h.context.members h.context.many

from_sound : (i : ℕ) (p : TypedProgram) (ts : List Traits) (xs : List Source) → HasSoundClasses p → length ts ≡ length p.classes
    → list_all has_spelling xs ≡ true → On HasSoundClasses (program_from i p ts xs)
from_sound i p ts [] h q g = h
from_sound i p ts (x ∷ xs) h q g =
    let a = and_parts (has_spelling x) (list_all has_spelling xs) g in
    let st : State = start_behind i p ts in
    bind IsSoundState HasSoundClasses (unit_from x.tokens st x.decls) _
    (since (After st) IsSoundState (unit_from x.tokens st x.decls) (units_law x.tokens st x.decls (behind_sound i p ts h q) a.0) (λ y j. j.sound))
    (λ y j. from_sound (suc i) (with_unit p x y) y.ctx.traits xs j.context.members j.context.many a.1)

pub programs_law : ProgramsAreSound
programs_law xs g = from_sound 0 (record { units = []; classes = []; slots = [] }) [] xs refl refl g
