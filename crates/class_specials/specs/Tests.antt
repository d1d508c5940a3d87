-- Tests of functions, of parts and of members, by what is asked for.
use Rattle.std.specs.Prelude.{ℕ, Bool, true, not}
use Rattle.cpp_types.specs.Class.{Member, held}
use Rattle.elab_init.specs.elab_ctx.Ctx.{Ctx, Func}
use Rattle.elab_init.specs.elab_rules.Objects.{traits_at}
use Rattle.elab_init.specs.elab_rules.Initialising.{is_constructor}
use Rattle.elab_init.specs.elab_rules.Statements.{is_trivial}
use Rattle.elab_init.specs.elab_rules.Classes.{Home, is_destructor_of, is_copy_from, is_written_copy, is_default_constructor, copies_member, assigns_member}
use Rattle.class_specials.specs.declared.places.Wanted.{Wanted}
use Rattle.class_specials.specs.declared.places.Wanted.TheVariants as wanted
use Rattle.class_specials.specs.declared.part_tests.PartTest.{PartTest}
use Rattle.class_specials.specs.declared.part_tests.PartTest.TheVariants as parts
use Rattle.class_specials.specs.declared.part_tests.MemberTest.{MemberTest}
use Rattle.class_specials.specs.declared.part_tests.MemberTest.TheVariants as members

abbrev pub is_wanted : Wanted → Home → Func → Bool
is_wanted wanted.Destructor h f = is_destructor_of h.number f
is_wanted wanted.CopyOfConst h f = is_copy_from h.number true f
is_wanted wanted.Copy h f = is_written_copy h.number h.name f
is_wanted wanted.Default h f = is_default_constructor h.number f
is_wanted wanted.Constructor h f = is_constructor h.number f

-- of a class that is a part
abbrev pub passes : PartTest → Ctx → ℕ → Bool
passes parts.TrivialDestructor c n = is_trivial (traits_at c n).destructor
passes parts.TrivialCopy c n = is_trivial (traits_at c n).copy
passes parts.TrivialDefault c n = is_trivial (traits_at c n).default
passes parts.CopiesConst c n = (traits_at c n).copies_const
passes parts.CopiedByBytes c n = (traits_at c n).is_trivially_copyable
passes parts.NotVolatile c n = not (traits_at c n).is_volatile

abbrev pub member_passes : MemberTest → Ctx → Member → Bool
member_passes members.Copied c m = copies_member c m.typ (held m.typ)
member_passes members.Assigned c m = assigns_member c m.typ (held m.typ)
