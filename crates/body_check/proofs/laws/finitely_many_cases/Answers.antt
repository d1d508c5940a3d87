use Rattle.body_check.proofs.Cases.{cases_fit}
use Rattle.body_check.proofs.laws.finitely_many_cases.Goals as goal

pub returns : goal.returns
returns c = λ p f b notes thrown known numbers spelling_of rows facts rank index q n o spelled fits t. cases_fit p f b notes thrown known numbers spelling_of
    rows facts rank index q n o spelled fits t tt
