use Rattle.std.proofs.Common.{◌==◌, is_ok}
use Rattle.std.specs.Str.{bytes_eq}
use Rattle.elab_ctx.specs.Places.{is_member_of, is_free_of}
use Rattle.elab_ctx.proofs.PlaceLists.{member_is, no_member, free_is, no_free, more_of, none_more}
use Rattle.elab_ctx.proofs.functions.add_place.Goals as goal

pub returns-in-Some-clause-members : goal.returns-in-Some-clause-members
returns-in-Some-clause-members c n = more_of (is_ok c.add.result) (c.in-Some.class == n) (is_member_of n c.args.function.now) _ _ c.args.place
    (member_is n c.in-Some.class c.args.function.now c.in-Some.is) (c.add.ensures n)

pub returns-in-Some-clause-named : goal.returns-in-Some-clause-named
returns-in-Some-clause-named c name = none_more _ _ _ c.args.place (no_free name c.in-Some.class c.args.function.now c.in-Some.is)

pub returns-in-None-clause-members : goal.returns-in-None-clause-members
returns-in-None-clause-members c n = none_more _ _ _ c.args.place (no_member n c.args.function.now c.in-None.is)

pub returns-in-None-clause-named : goal.returns-in-None-clause-named
returns-in-None-clause-named c name = more_of (is_ok c.add-in-None.result) (bytes_eq name c.deref.result.now)
    (is_free_of name c.args.function.now) _ _ c.args.place (free_is name c.deref.result.now c.args.function.now c.in-None.is c.deref.ensures.value)
    (c.add-in-None.ensures name)
