use Rattle.cpp_lex.proofs.piece.spelled_end.Goals as goal

pub returns-in-Blank : goal.returns-in-Blank
returns-in-Blank c = rw c.in-Blank.is c.blank_end.ensures

pub returns-in-LineComment : goal.returns-in-LineComment
returns-in-LineComment c = rw c.in-LineComment.is c.line_comment_end.ensures

pub returns-in-Word : goal.returns-in-Word
returns-in-Word c = rw c.in-Word.is c.word_end.ensures
