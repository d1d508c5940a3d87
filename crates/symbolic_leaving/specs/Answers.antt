-- The answers on unknown exceptions that data show.
use Rattle.std.specs.Prelude.{ℕ, List, map}
use Rattle.std.specs.Global.{Vec}
use Rattle.cpp_tree.specs.cpp_types.Class.{Class}
use Rattle.symbolic_source.specs.Steps.{Answers}
use Rattle.body_check.specs.Notes.{no_answers}
use Rattle.body_check.specs.Cases as cases
use Rattle.symbolic_leaving.specs.declared.answers.Case.{Case}
use Rattle.symbolic_leaving.specs.declared.answers.Case.TheVariants.{Class as OfClass, Spelling, Others}
use Rattle.symbolic_leaving.specs.declared.answers.CaseAnswers.{CaseAnswers}
use Rattle.symbolic_leaving.specs.declared.answers.CaseAnswers.TheVariants.{Unanswered, InCase}
use Rattle.symbolic_leaving.specs.declared.source.Source.{Source}
use Rattle.symbolic_leaving.specs.Source.{linked_to}

abbrev pub case_of : Case → cases.Case
case_of (OfClass n) = cases.of_class n
case_of (Spelling s) = cases.of_spelling s.items
case_of Others = cases.of_others

abbrev pub texts_of : List (Vec ℕ) → List (List ℕ)
texts_of ss = map (λ (s : Vec ℕ). s.items) ss

abbrev pub answers_of : List Class → CaseAnswers → Answers
answers_of classes Unanswered = no_answers
answers_of classes (InCase n case known) = cases.answers_in classes (texts_of known.now) n (case_of case.now)

-- in a function of a program
abbrev pub answers_at : Source → CaseAnswers → Answers
answers_at s a = answers_of (linked_to s).classes a
