use Rattle.elab_ctx.proofs.PlaceLists.{member_is, no_member, free_is, no_free, less_of, none_less}
use Rattle.elab_ctx.proofs.functions.drop_place.Goals as goal

pub returns-in-Some-clause-members : goal.returns-in-Some-clause-members
returns-in-Some-clause-members c n = less_of _ _ _ _ (member_is n c.in-Some.class c.args.function.now c.in-Some.is) (c.drop_last.ensures n)

pub returns-in-Some-clause-named : goal.returns-in-Some-clause-named
returns-in-Some-clause-named c name = none_less _ _ (no_free name c.in-Some.class c.args.function.now c.in-Some.is)

pub returns-in-None-clause-members : goal.returns-in-None-clause-members
returns-in-None-clause-members c n = none_less _ _ (no_member n c.args.function.now c.in-None.is)

pub returns-in-None-clause-named : goal.returns-in-None-clause-named
returns-in-None-clause-named c name = less_of _ _ _ _ (free_is name c.deref.result.now c.args.function.now c.in-None.is c.deref.ensures.value)
    (c.drop_last-in-None.ensures name)
