-- The definitions of names and captures, step by step.
use Rattle.std.specs.Prelude.{ℕ, Bool, false, not, ◌&&◌, ◌||◌, List, [], ◌∷◌, ◌++◌, Option, Some, None, Result, Ok, if◌then◌else◌}
use Rattle.std.specs.Str.{bytes_eq}
use Rattle.elab_init.specs.cpp_types.Typ.{Typ}
use Rattle.elab_init.specs.cpp_types.Class.{held}
use Rattle.elab_init.specs.cpp_types.Conversion.{referred}
use Rattle.elab_init.specs.cpp_types.declared.classes.At.{At}
use Rattle.elab_init.specs.cpp_ast.Trees.{Trees, none, more}
use Rattle.elab_init.specs.cpp_lex.Tokens.{Lexeme}
use Rattle.elab_init.specs.cpp_tree.declared.faults.ElabFault.{ElabFault}
use Rattle.elab_init.specs.cpp_tree.declared.faults.IllRule.TheVariants.{OutOfProfile, Incomplete, NoCopy, Capture as CaptureRule}
use Rattle.elab_init.specs.cpp_tree.Typing.{form_in}
use Rattle.elab_init.specs.elab_ctx.Ctx.{Ctx, Capture}
use Rattle.elab_init.specs.elab_ctx.Steps.{and_then, check, spelling}
use Rattle.elab_init.specs.elab_rules.Types.{Parameter}
use Rattle.elab_init.specs.elab_rules.Operators.{is_complete}
use Rattle.elab_init.specs.elab_rules.Lambdas.{Otherwise, captured_as, copies_closure, copies_elements, is_captured, capture_used, capture_this, adds, explicit_variable, Scan}
use Rattle.elab_init.specs.elab_rules.Lambdas.{declaring, scanned, scanned_all}

-- Names

-- a token is spelled so
abbrev pub spells : List Lexeme → List ℕ → ℕ → Bool
spells s name t = bytes_eq (spelling s t) name

-- a name is this one
abbrev pub is_name : List ℕ → List ℕ → Bool
is_name name n = bytes_eq n name

abbrev pub token_if : Option ℕ → List ℕ
token_if (Some t) = t ∷ []
token_if None = []

-- the tokens of the names of parameters, the last one first
abbrev pub tokens_back : List Parameter → List ℕ
tokens_back [] = []
tokens_back (p ∷ ps) = tokens_back ps ++ token_if p.name

-- a declarator with its initialiser
abbrev pub declarator_scanned : List Lexeme → Ctx → Scan → Option ℕ → Trees → Scan
declarator_scanned s c x token none = x
declarator_scanned s c x token (more d init) = scanned_all s c (declaring s (scanned s c x d) token) init

-- Captures

abbrev pub with_capture : List Capture → Option ℕ → Bool → Typ → At → List Capture
with_capture xs variable by_ref t at = xs ++ record { variable = variable; by_ref = by_ref; typ = t; at = at } ∷ []

-- a variable of this type is captured by reference, or its object is complete and can be copied
abbrev pub capturable : Ctx → At → Bool → Typ → Result Bool ElabFault
capturable c at by_ref t = and_then (check at OutOfProfile (by_ref || copies_closure c (form_in (referred t))))
    (λ y. and_then (check at Incomplete (by_ref || is_complete c (held (referred t)))) (λ z. check at NoCopy (by_ref || copies_elements c (referred t))))

-- a variable whose type is known
abbrev pub capture_typed : Ctx → List Capture → At → ℕ → Bool → Typ → Result (List Capture) ElabFault
capture_typed c xs at i by_ref t = and_then (capturable c at by_ref t) (λ y. Ok (with_capture xs (Some i) by_ref (captured_as by_ref t) at))

-- what is named is captured, unless that is done
abbrev pub capture_once : Ctx → Bool → List Capture → At → Option ℕ → Result (List Capture) ElabFault
capture_once c by_ref xs at variable = if is_captured variable xs then Ok xs else capture_used c by_ref xs at variable

abbrev pub explicit_this : Ctx → Otherwise → List Capture → At → Result (List Capture) ElabFault
explicit_this c d xs at = and_then (check at CaptureRule (adds d false && not (is_captured None xs))) (λ y. capture_this c xs at)

-- a name that is written, if one is
abbrev pub explicit_name : List Lexeme → Ctx → Otherwise → List Capture → At → Option ℕ → Bool → Result (List Capture) ElabFault
explicit_name s c d xs at (Some t) by_ref = explicit_variable c d xs at (spelling s t) by_ref
explicit_name s c d xs at None by_ref = Ok xs
