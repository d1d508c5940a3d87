use Rattle.std.proofs.Common.{◌∷◌, ap, refl}
use Rattle.symbolic_source.specs.Frames.{Replied}
use Rattle.symbolic_terms.specs.declared.frames.Frames.TheVariants.{More}
use Rattle.symbolic_terms.specs.declared.frames.Frame.TheVariants.{Value}
use Rattle.symbolic_terms.specs.declared.frames.ValueFrame.TheVariants.{Replied as IsReplied}
use Rattle.symbolic_leaving.specs.Shown.{frames_at}
use Rattle.body_notes.proofs.Fitting.{starts_as}
use Rattle.body_notes.proofs.fits.starting.Goals as goal

pub returns-clause-is : goal.returns-clause-is
returns-clause-is c m a = starts_as c.args.body.now m c.args.notes.now _ _ _ _ (record { temporaries = c.args.rest.temporaries; frames = More (Value IsReplied) c.in_ok-others.others }) refl (ap (λ z. Replied ∷ frames_at c.args.body.now.source m z) c.in_ok-others.ensures) (c.in_ok-land_behind.ensures.is m a)
