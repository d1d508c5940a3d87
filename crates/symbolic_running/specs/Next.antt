-- What a frame does, with what is left to do behind it.
use Rattle.std.specs.Prelude.{◌∷◌}
use Rattle.cpp_tree.specs.declared.kinds.TKind.{TKind}
use Rattle.cpp_tree.specs.Trees.{Trees}
use Rattle.symbolic_source.specs.Terms as words
use Rattle.symbolic_source.specs.Frames as frames
use Rattle.symbolic_source.specs.Outcomes as outcomes
use Rattle.symbolic_source.specs.Steps.{given, ran}
use Rattle.symbolic_terms.specs.declared.outcomes.Rest.{Rest}
use Rattle.symbolic_terms.specs.Meanings.{Meaning, word_of}
use Rattle.symbolic_leaving.specs.declared.source.Source.{Source}
use Rattle.symbolic_leaving.specs.declared.answers.CaseAnswers.{CaseAnswers}
use Rattle.symbolic_running.specs.declared.next.Next.{Next}
use Rattle.symbolic_running.specs.declared.next.Next.TheVariants.{Made as MadeNext, Gives, Applied}
use Rattle.symbolic_running.specs.declared.next.When.{When}
use Rattle.symbolic_running.specs.declared.next.When.TheVariants.{Always, NotZero}
use Rattle.symbolic_leaving.specs.Source.{linked_to, func_of}
use Rattle.symbolic_leaving.specs.Answers.{answers_at}
use Rattle.symbolic_leaving.specs.Shown.{waits_in, left_in, outcome_at}

-- what comes of a value
abbrev pub given_at : Source → Meaning → CaseAnswers → Rest → words.Term → outcomes.Outcome
given_at s m a r v = given (linked_to s) (func_of s) (answers_at s a) (waits_in s m r) v (left_in s m r)

-- with a frame on what is left
abbrev pub given_to : Source → Meaning → CaseAnswers → Rest → words.Term → frames.Frame → outcomes.Outcome
given_to s m a r v g = given (linked_to s) (func_of s) (answers_at s a) (waits_in s m r) v (g ∷ left_in s m r)

-- what a node of a kind with these kids does first
abbrev pub runs_as : Source → Meaning → CaseAnswers → Rest → frames.Way → TKind → Trees → outcomes.Outcome
runs_as s m a r way kind kids = ran (linked_to s) (func_of s) (answers_at s a) (waits_in s m r) way kind kids (λ w. given_at s m a r w) (left_in s m r)

-- this, or the value goes on where a word is 0
abbrev pub made_when : Source → Meaning → CaseAnswers → Rest → When → outcomes.Outcome → outcomes.Outcome
made_when s m a r Always o = o
made_when s m a r (NotZero w v) o = outcomes.chooses (word_of m w) (given_at s m a r (word_of m v)) o

-- what comes of a frame with this left behind it
abbrev pub next_of : Source → Meaning → CaseAnswers → Rest → Next → outcomes.Outcome
next_of s m a r (MadeNext when o) = made_when s m a r when (outcome_at s m o)
next_of s m a r (Gives v) = given_at s m a r (word_of m v)
next_of s m a r (Applied op kind l v) = outcomes.results op kind (word_of m l) (word_of m v) (given_at s m a r (words.result op kind (word_of m l) (word_of m v)))
