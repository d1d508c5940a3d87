-- Steps of an elaboration, its operands, and the words that spell a form.
use Rattle.std.proofs.Common.{◌≡◌, refl, sym, subst, ℕ, Bool, true, false, ◌||◌, List, [], ◌∷◌, Option, Some, None, Result, Ok, Err}
use Rattle.std.proofs.lemmas.Slice.Eq.{bytes_eq-Decides}
use Rattle.std.specs.Prelude.{if◌then◌else◌}
use Rattle.std.specs.Str.{bytes_eq}
use Rattle.elab_rules.specs.cpp_types.declared.classes.At.{At}
use Rattle.elab_rules.specs.cpp_lex.Tokens.{Lexeme}
use Rattle.elab_rules.specs.cpp_ast.Trees as syntax
use Rattle.elab_rules.specs.cpp_tree.declared.faults.ElabFault.{ElabFault}
use Rattle.elab_rules.specs.cpp_tree.declared.faults.IllRule.{IllRule}
use Rattle.elab_rules.specs.cpp_tree.Trees.{Tree}
use Rattle.elab_rules.specs.elab_ctx.Ctx.{Ctx, Work}
use Rattle.elab_rules.specs.elab_ctx.Steps.{and_then, expect, check, Operand, Made, Typed, TypedAll}
use Rattle.elab_rules.specs.Expressions.{operands_of, a_tree, an_operand}
use Rattle.elab_laws.specs.Reading.{On, is_among, operand_of, OfOne, OfTwo, OfThree}

-- Steps

-- behind a step of which something is known
pub bind : {A B : Type 0} (P : A → Type 0) (Q : B → Type 0) (x : Result A ElabFault) (f : A → Result B ElabFault) → On P x → ((a : A) → P a → On Q (f a))
    → On Q (and_then x f)
bind P Q (Ok a) f h g = g a h
bind P Q (Err e) f h g = tt

-- of which nothing is
pub skip : {A B : Type 0} (Q : B → Type 0) (x : Result A ElabFault) (f : A → Result B ElabFault) → ((a : A) → On Q (f a)) → On Q (and_then x f)
skip Q (Ok a) f g = g a
skip Q (Err e) f g = tt

-- where it is said which answer it gave
pub after : {A B : Type 0} (Q : B → Type 0) (x : Result A ElabFault) (f : A → Result B ElabFault) → ((a : A) → x ≡ Ok a → On Q (f a)) → On Q (and_then x f)
after Q (Ok a) f g = g a refl
after Q (Err e) f g = tt

pub checked : {B : Type 0} (Q : B → Type 0) (at : At) (rule : IllRule) (b : Bool) (f : Bool → Result B ElabFault) → (b ≡ true → On Q (f true))
    → On Q (and_then (check at rule b) f)
checked Q at rule true f g = g refl
checked Q at rule false f g = tt

pub expected : {A B : Type 0} (Q : B → Type 0) (at : At) (rule : IllRule) (x : Option A) (f : A → Result B ElabFault) → ((a : A) → x ≡ Some a → On Q (f a))
    → On Q (and_then (expect at rule x) f)
expected Q at rule (Some a) f g = g a refl
expected Q at rule None f g = tt

pub weaken : {A : Type 0} (P Q : A → Type 0) (x : Result A ElabFault) → ((a : A) → P a → Q a) → On P x → On Q x
weaken P Q (Ok a) f h = f a h
weaken P Q (Err e) f h = tt

pub either : {A : Type 0} (P : A → Type 0) (b : Bool) (x y : Result A ElabFault) → (b ≡ true → On P x) → (b ≡ false → On P y) → On P (if b then x else y)
either P true x y h k = h refl
either P false x y h k = k refl

-- the typed tree alone
pub tree_in : (P : Tree → Type 0) (at : At) (w : Work) (r : Result Tree ElabFault) → On P r → On (λ (y : Typed). P y.operand.tree) (a_tree at w r)
tree_in P at w (Ok t) h = h
tree_in P at w (Err e) h = tt

pub made_in : (P : Tree → Type 0) (at : At) (r : Result Made ElabFault) → On (λ (m : Made). P m.tree) r → On (λ (y : Typed). P y.operand.tree) (an_operand at r)
made_in P at (Ok m) h = h
made_in P at (Err e) h = tt

-- Operands

one_from : (s : List Lexeme) (c : Ctx) (w : Work) (a : syntax.Tree) (rule : Operand → Tree → Type 0) (row : TypedAll → Result Typed ElabFault)
    → ((x : Typed) → On (λ (y : Typed). rule x.operand y.operand.tree) (row (record { operands = x.operand ∷ []; work = x.work })))
    → (r : Result Typed ElabFault) → operand_of s c w a ≡ r
    → On (OfOne s c w a rule) (and_then (and_then r (λ (x : Typed). Ok (record { operands = x.operand ∷ []; work = x.work }))) row)
one_from s c w a rule row h (Err e) i = tt
one_from s c w a rule row h (Ok x) i = weaken (λ (y : Typed). rule x.operand y.operand.tree) (OfOne s c w a rule)
    (row (record { operands = x.operand ∷ []; work = x.work })) (λ y g. record { operand = x; operand_is = i; holds = g }) (h x)

pub of_one : (s : List Lexeme) (c : Ctx) (w : Work) (a : syntax.Tree) (rule : Operand → Tree → Type 0) (row : TypedAll → Result Typed ElabFault)
    → ((x : Typed) → On (λ (y : Typed). rule x.operand y.operand.tree) (row (record { operands = x.operand ∷ []; work = x.work })))
    → On (OfOne s c w a rule) (and_then (operands_of s c w (syntax.more a syntax.none)) row)
of_one s c w a rule row h = one_from s c w a rule row h (operand_of s c w a) refl

abbrev pub pair : Typed → Typed → TypedAll
pair x y = record { operands = x.operand ∷ y.operand ∷ []; work = y.work }

two_behind : (s : List Lexeme) (c : Ctx) (w : Work) (a b : syntax.Tree) (rule : Operand → Operand → Tree → Type 0) (row : TypedAll → Result Typed ElabFault)
    (x : Typed) → operand_of s c w a ≡ Ok x
    → ((y : Typed) → On (λ (z : Typed). rule x.operand y.operand z.operand.tree) (row (pair x y)))
    → (r : Result Typed ElabFault) → operand_of s c x.work b ≡ r
    → On (OfTwo s c w a b rule) (and_then (and_then (and_then r (λ (y : Typed). Ok (record { operands = y.operand ∷ []; work = y.work })))
    (λ (ys : TypedAll). Ok (record { operands = x.operand ∷ ys.operands; work = ys.work }))) row)
two_behind s c w a b rule row x i h (Err e) j = tt
two_behind s c w a b rule row x i h (Ok y) j = weaken (λ (z : Typed). rule x.operand y.operand z.operand.tree) (OfTwo s c w a b rule) (row (pair x y))
    (λ z g. record { left = x; left_is = i; right = y; right_is = j; holds = g }) (h y)

two_from : (s : List Lexeme) (c : Ctx) (w : Work) (a b : syntax.Tree) (rule : Operand → Operand → Tree → Type 0) (row : TypedAll → Result Typed ElabFault)
    → ((x y : Typed) → On (λ (z : Typed). rule x.operand y.operand z.operand.tree) (row (pair x y)))
    → (r : Result Typed ElabFault) → operand_of s c w a ≡ r
    → On (OfTwo s c w a b rule) (and_then (and_then r
    (λ (x : Typed). and_then (operands_of s c x.work (syntax.more b syntax.none))
    (λ (ys : TypedAll). Ok (record { operands = x.operand ∷ ys.operands; work = ys.work })))) row)
two_from s c w a b rule row h (Err e) i = tt
two_from s c w a b rule row h (Ok x) i = two_behind s c w a b rule row x i (h x) (operand_of s c x.work b) refl

pub of_two : (s : List Lexeme) (c : Ctx) (w : Work) (a b : syntax.Tree) (rule : Operand → Operand → Tree → Type 0) (row : TypedAll → Result Typed ElabFault)
    → ((x y : Typed) → On (λ (z : Typed). rule x.operand y.operand z.operand.tree) (row (pair x y)))
    → On (OfTwo s c w a b rule) (and_then (operands_of s c w (syntax.more a (syntax.more b syntax.none))) row)
of_two s c w a b rule row h = two_from s c w a b rule row h (operand_of s c w a) refl

abbrev pub triple : Typed → Typed → Typed → TypedAll
triple x y z = record { operands = x.operand ∷ y.operand ∷ z.operand ∷ []; work = z.work }

abbrev put : Typed → TypedAll → Result TypedAll ElabFault
put x xs = Ok (record { operands = x.operand ∷ xs.operands; work = xs.work })

three_last : (s : List Lexeme) (c : Ctx) (w : Work) (a b d : syntax.Tree) (rule : Operand → Operand → Operand → Tree → Type 0)
    (row : TypedAll → Result Typed ElabFault) (x y : Typed) → operand_of s c w a ≡ Ok x → operand_of s c x.work b ≡ Ok y
    → ((z : Typed) → On (λ (v : Typed). rule x.operand y.operand z.operand v.operand.tree) (row (triple x y z)))
    → (r : Result Typed ElabFault) → operand_of s c y.work d ≡ r
    → On (OfThree s c w a b d rule) (and_then (and_then
    (and_then (and_then r (λ (z : Typed). Ok (record { operands = z.operand ∷ []; work = z.work }))) (λ (zs : TypedAll). put y zs))
    (λ (ys : TypedAll). put x ys)) row)
three_last s c w a b d rule row x y i j h (Err e) l = tt
three_last s c w a b d rule row x y i j h (Ok z) l = weaken (λ (v : Typed). rule x.operand y.operand z.operand v.operand.tree) (OfThree s c w a b d rule)
    (row (triple x y z)) (λ v g. record { first = x; first_is = i; second = y; second_is = j; third = z; third_is = l; holds = g }) (h z)

three_behind : (s : List Lexeme) (c : Ctx) (w : Work) (a b d : syntax.Tree) (rule : Operand → Operand → Operand → Tree → Type 0)
    (row : TypedAll → Result Typed ElabFault) (x : Typed) → operand_of s c w a ≡ Ok x
    → ((y z : Typed) → On (λ (v : Typed). rule x.operand y.operand z.operand v.operand.tree) (row (triple x y z)))
    → (r : Result Typed ElabFault) → operand_of s c x.work b ≡ r
    → On (OfThree s c w a b d rule) (and_then (and_then
    (and_then r (λ (y : Typed). and_then (operands_of s c y.work (syntax.more d syntax.none)) (λ (zs : TypedAll). put y zs)))
    (λ (ys : TypedAll). put x ys)) row)
three_behind s c w a b d rule row x i h (Err e) j = tt
three_behind s c w a b d rule row x i h (Ok y) j = three_last s c w a b d rule row x y i j (h y) (operand_of s c y.work d) refl

three_from : (s : List Lexeme) (c : Ctx) (w : Work) (a b d : syntax.Tree) (rule : Operand → Operand → Operand → Tree → Type 0)
    (row : TypedAll → Result Typed ElabFault)
    → ((x y z : Typed) → On (λ (v : Typed). rule x.operand y.operand z.operand v.operand.tree) (row (triple x y z)))
    → (r : Result Typed ElabFault) → operand_of s c w a ≡ r
    → On (OfThree s c w a b d rule) (and_then (and_then r
    (λ (x : Typed). and_then (operands_of s c x.work (syntax.more b (syntax.more d syntax.none))) (λ (ys : TypedAll). put x ys))) row)
three_from s c w a b d rule row h (Err e) i = tt
three_from s c w a b d rule row h (Ok x) i = three_behind s c w a b d rule row x i (h x) (operand_of s c x.work b) refl

pub of_three : (s : List Lexeme) (c : Ctx) (w : Work) (a b d : syntax.Tree) (rule : Operand → Operand → Operand → Tree → Type 0)
    (row : TypedAll → Result Typed ElabFault)
    → ((x y z : Typed) → On (λ (v : Typed). rule x.operand y.operand z.operand v.operand.tree) (row (triple x y z)))
    → On (OfThree s c w a b d rule) (and_then (operands_of s c w (syntax.more a (syntax.more b (syntax.more d syntax.none)))) row)
of_three s c w a b d rule row h = three_from s c w a b d rule row h (operand_of s c w a) refl

-- Words

or_else : (a b : Bool) (A : Type 0) → (a || b) ≡ true → (a ≡ true → A) → (b ≡ true → A) → A
or_else true b A h f g = f refl
or_else false b A h f g = g h

-- what holds of each of some words
abbrev pub ForAll : (List ℕ → Type 0) → List (List ℕ) → Type 0
ForAll P [] = Unit {0}
ForAll P (word ∷ words) = P word × ForAll P words

pub each_word : (P : List ℕ → Type 0) (words : List (List ℕ)) (name : List ℕ) → ForAll P words → is_among name words ≡ true → P name
each_word P [] name h i = absurd cc
each_word P (word ∷ words) name h i = or_else (bytes_eq name word) (is_among name words) (P name) i
    (λ e. subst P (sym ((bytes_eq-Decides name word).0 e)) h.0)
    (λ e. each_word P words name h.1 e)
