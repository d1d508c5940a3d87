-- Lists of words that are taken, and that are not.
use Rattle.std.specs.Prelude.{List, [], ◌∷◌, codes}
use Rattle.clap.specs.Words.{Text}

abbrev pub full_run : List Text
full_run =
    codes "run" ∷ codes "--record" ∷ codes "r" ∷ codes "--fold" ∷ codes "--policy=polite" ∷ codes "a.cc"
    ∷ codes "--pick" ∷ codes "file:s" ∷ codes "--steps" ∷ codes "1000" ∷ codes "b.cc" ∷ []

abbrev pub taken : List (List Text)
taken =
    (codes "run" ∷ codes "a.cc" ∷ [])
    ∷ full_run
    ∷ (codes "check" ∷ codes "a.cc" ∷ codes "b.cc" ∷ [])
    ∷ (codes "check" ∷ codes "a.cc" ∷ codes "--dump" ∷ [])
    ∷ (codes "selftest" ∷ codes "400" ∷ [])
    ∷ (codes "build" ∷ codes "a.cc" ∷ codes "--to" ∷ codes "a.o" ∷ [])
    ∷ (codes "exec" ∷ codes "--order" ∷ codes "o" ∷ codes "a.o" ∷ codes "b.o" ∷ [])
    ∷ (codes "replay" ∷ codes "--order" ∷ codes "o" ∷ codes "a.cc" ∷ codes "--cost=0" ∷ [])
    ∷ (codes "dis" ∷ codes "a.o" ∷ [])
    ∷ (codes "asm" ∷ codes "--to" ∷ codes "a.o" ∷ codes "a.s" ∷ [])
    ∷ (codes "races" ∷ codes "--report" ∷ codes "j" ∷ codes "a.cc" ∷ [])
    ∷ (codes "explain" ∷ codes "Narrowing" ∷ [])
    ∷ []

abbrev pub refused : List (List Text)
refused =
    []
    ∷ (codes "run" ∷ [])
    ∷ (codes "run" ∷ codes "--steps" ∷ codes "4000001" ∷ codes "a.cc" ∷ [])
    ∷ (codes "run" ∷ codes "--report" ∷ codes "j" ∷ codes "a.cc" ∷ [])
    ∷ (codes "run" ∷ codes "--fold" ∷ codes "--fold" ∷ codes "a.cc" ∷ [])
    ∷ (codes "run" ∷ codes "--help" ∷ [])
    ∷ (codes "selftest" ∷ codes "0" ∷ [])
    ∷ (codes "selftest" ∷ codes "401" ∷ [])
    ∷ (codes "build" ∷ codes "a.cc" ∷ [])
    ∷ (codes "exec" ∷ codes "--fold" ∷ codes "a.o" ∷ [])
    ∷ (codes "replay" ∷ codes "a.cc" ∷ [])
    ∷ (codes "races" ∷ codes "a.cc" ∷ [])
    ∷ (codes "dis" ∷ codes "a.o" ∷ codes "b.o" ∷ [])
    ∷ (codes "explain" ∷ [])
    ∷ (codes "help" ∷ [])
    ∷ (codes "--version" ∷ [])
    ∷ []
