use Rattle.elab_fits.proofs.Values.{value_stands, value_gives, converted_gives, given_stands, stored_builds}
use Rattle.elab_fits.proofs.laws.values.Goals as goal

pub returns-clause-values : goal.returns-clause-values
returns-clause-values c = value_stands

pub returns-clause-scalars : goal.returns-clause-scalars
returns-clause-scalars c = value_gives

pub returns-clause-conversions : goal.returns-clause-conversions
returns-clause-conversions c = converted_gives

pub returns-clause-standing : goal.returns-clause-standing
returns-clause-standing c = given_stands

pub returns-clause-stores : goal.returns-clause-stores
returns-clause-stores c = stored_builds
