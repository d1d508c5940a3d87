-- Words of calls.
use Rattle.std.proofs.Common.{◌≡◌, refl, sym, ap, ◌∙◌, ℕ, suc, ◌+◌, Bool, true, false, ◌&&◌, List, [], ◌∷◌, slice_get, Option, Some, None, is_some, Result, Ok, Err, subst}
use Rattle.std.proofs.Common.{arith}
use Rattle.std.proofs.lemmas.Bool.{and_parts}
use Rattle.std.specs.Prelude.{if◌then◌else◌}
use Rattle.elab_rules.specs.cpp_overload.Overload.{Candidate, Argument}
use Rattle.elab_rules.specs.cpp_overload.Choosing.{best, choice_by, best_from, any_viable, is_viable, beats_from}
use Rattle.elab_rules.specs.cpp_types.Typ.{typ, Form, void, int, enum, null, ptr, ref, array, func, class, closure, tx_ex, Typs, none as no_typs}
use Rattle.elab_rules.specs.cpp_types.Typ.{more as and_typ}
use Rattle.elab_rules.specs.cpp_types.Class.{Class, completion_of}
use Rattle.elab_rules.specs.cpp_types.Conversion.{is_object_form}
use Rattle.elab_rules.specs.cpp_types.declared.classes.At.{At}
use Rattle.elab_rules.specs.cpp_tree.declared.faults.ElabFault.{ElabFault}
use Rattle.elab_rules.specs.cpp_tree.Notation.{plain}
use Rattle.elab_rules.specs.cpp_tree.Typing.{is_class_typ}
use Rattle.elab_rules.specs.cpp_tree.Parts.{holds_complete}
use Rattle.elab_rules.specs.cpp_tree.Rows.{Setting}
use Rattle.elab_rules.specs.elab_ctx.Ctx.{Ctx, Work, with_item}
use Rattle.elab_rules.specs.elab_ctx.Steps.{and_then, Operand, Made, MadeAll}
use Rattle.elab_rules.specs.Objects.{destroys}
use Rattle.elab_rules.specs.Initialising.{class_from, argument_object, passed, words, makeable}
use Rattle.elab_fits.specs.Standing.{IsSetting, Reaches, On}
use Rattle.elab_fits.proofs.Nodes.{both}
use Rattle.elab_fits.proofs.Steps.{bind, either, known}
use Rattle.elab_fits_objects.specs.Contexts.{IsObjectTyp, IsParameter, HasMakers, IsSource}
use Rattle.elab_fits_objects.specs.Making.{Makes, WordsFit, WordsPass, AllWordsFit, WordsKeep, ChosenViable}
use Rattle.elab_fits_objects.proofs.Classes.{Built, class_builds}
use Rattle.elab_fits_objects.proofs.Keeping as keeping
use Rattle.elab_fits_objects.proofs.Placing.{class_destroyed}
use Rattle.elab_fits_objects.proofs.Types.{requalified, makeable_complete}
use Rattle.elab_fits_objects.proofs.Words.{Passes, initial_word, object_word}

on_both : {A : Type 0} (P Q R : A → Type 0) (r : Result A ElabFault) → On P r → On Q r → ((a : A) → P a → Q a → R a) → On R r
on_both P Q R (Ok a) h g f = f a h g
on_both P Q R (Err e) h g f = tt

on_all : {A : Type 0} (P Q R S : A → Type 0) (r : Result A ElabFault) → On P r → On Q r → On R r → ((a : A) → P a → Q a → R a → S a) → On S r
on_all P Q R S (Ok a) h g k f = f a h g k
on_all P Q R S (Err e) h g k f = tt

-- Objects that are passed

-- where an object of a class was made, the class is complete
completed : (s : Setting) (c : Ctx) (lambda : ℕ → Bool) (w : Work) (f : Form) (at : At) (o : Operand) → IsSetting s c → HasMakers c lambda
    → IsSource s c lambda o → is_object_form f ≡ true → IsObjectTyp c lambda (plain f)
    → On (λ (m : Made). holds_complete c.classes f ≡ true) (class_from c w (plain f) at o)
completed s c lambda w (class n) at o i m h k t = bind (λ (k : ℕ). completion_of c.classes n ≡ Some k)
    (λ (m : Made). holds_complete c.classes (class n) ≡ true) (makeable c at n) _ (makeable_complete c at n)
    (λ j e. known (λ (m : Made). holds_complete c.classes (class n) ≡ true) _ (λ m. ap is_some e))
completed s c lambda w (closure n) at o i m h k t =
    known (λ (m : Made). holds_complete c.classes (closure n) ≡ true) (class_from c w (plain (closure n)) at o) (λ m. t.complete refl)
completed s c lambda w (tx_ex u) at o i m h k t =
    known (λ (m : Made). holds_complete c.classes (tx_ex u) ≡ true) (class_from c w (plain (tx_ex u)) at o) (λ m. t.complete refl)
completed s c lambda w void at o i m h k t = absurd cc
completed s c lambda w (int j) at o i m h k t = absurd cc
completed s c lambda w (enum n e) at o i m h k t = absurd cc
completed s c lambda w null at o i m h k t = absurd cc
completed s c lambda w (ptr u) at o i m h k t = absurd cc
completed s c lambda w (ref u) at o i m h k t = absurd cc
completed s c lambda w (array u n) at o i m h k t = absurd cc
completed s c lambda w (func g) at o i m h k t = absurd cc

record IsMade (s : Setting) (c : Ctx) (w : Work) (f : Form) (x : Made) : Type 0 where
  built : Reaches s x.work → Makes s (plain f) x.tree
  complete : holds_complete c.classes f ≡ true
  kept : Reaches s x.work → Reaches s (with_item w (plain f))

class_word : (s : Setting) (c : Ctx) (lambda : ℕ → Bool) (w : Work) (f : Form) (q v : Bool) (o : Operand) → IsSetting s c → HasMakers c lambda
    → IsSource s c lambda o → is_object_form f ≡ true → IsObjectTyp c lambda (plain f)
    → On (Passes s (typ f q v)) (and_then (class_from c (with_item w (plain f)) (plain f) o.at o)
    (λ (x : Made). Ok (argument_object w (plain f) o.at (destroys c o.at (plain f)) x)))
class_word s c lambda w f q v o i m h k t = bind (IsMade s c w f) (Passes s (typ f q v)) (class_from c (with_item w (plain f)) (plain f) o.at o) _
    (on_all (Built s (plain f)) (λ (x : Made). holds_complete c.classes f ≡ true) (keeping.made s (with_item w (plain f))) (IsMade s c w f)
    (class_from c (with_item w (plain f)) (plain f) o.at o)
    (class_builds s c lambda (with_item w (plain f)) (plain f) o.at o i m h t)
    (completed s c lambda (with_item w (plain f)) f o.at o i m h k t)
    (keeping.class_from s c (with_item w (plain f)) (plain f) o.at o) (λ x a b d. record { built = a; complete = b; kept = d }))
    (λ x g. (λ reached. object_word s w f q v o.at x (destroys c o.at (plain f)) k (g.kept reached) (g.built reached).one
    (class_destroyed s c lambda o.at (plain f) i m k (t.whole g.complete))))

passes_by : (s : Setting) (c : Ctx) (lambda : ℕ → Bool) (w : Work) (f : Form) (q v : Bool) (o : Operand) → IsSetting s c → HasMakers c lambda
    → IsSource s c lambda o → IsParameter c lambda (typ f q v) → On (Passes s (typ f q v)) (passed c w (typ f q v) o)
passes_by s c lambda w f q v o i m h a = either (Passes s (typ f q v)) (is_class_typ (typ f q v)) _ _
    (λ e. class_word s c lambda w f q v o i m h e (requalified c lambda f q v false false e (a.object e)))
    (λ e. initial_word s c lambda w (typ f q v) o i m h a e)

pub word_passes : WordsPass
word_passes s c lambda w (typ f q v) o i m h a = passes_by s c lambda w f q v o i m h a

-- All words

abbrev Fitting : Setting → Typs → MadeAll → Type 0
Fitting s ps m = Reaches s m.work → WordsFit s ps m.trees

record AreKept (s : Setting) (ps : Typs) (w : Work) (x : MadeAll) : Type 0 where
  fit : Reaches s x.work → WordsFit s ps x.trees
  kept : Reaches s x.work → Reaches s w

pub words_fit : AllWordsFit
words_fit s c lambda w no_typs [] i m h a n = λ reached. record { fit = tt; right = refl }
words_fit s c lambda w no_typs (o ∷ os) i m h a n = absurd (omega arith)
words_fit s c lambda w (and_typ p ps) [] i m h a n = absurd (omega arith)
words_fit s c lambda w (and_typ p ps) (o ∷ os) i m h a n = bind (Passes s p) (Fitting s (and_typ p ps)) (passed c w p o) _
    (word_passes s c lambda w p o i m h.0 a.0)
    (λ x g. bind (AreKept s ps x.work) (Fitting s (and_typ p ps)) (words c x.work ps os) _
    (on_both (Fitting s ps) (keeping.all_made s x.work) (AreKept s ps x.work) (words c x.work ps os)
    (words_fit s c lambda x.work ps os i m h.1 a.1 (omega arith)) (keeping.words s c x.work ps os) (λ r b d. record { fit = b; kept = d }))
    (λ r b. (λ reached. let y = g (b.kept reached) in let z = b.fit reached in record { fit = (y.fits, z.fit); right = both y.right z.right })))

pub words_keep : WordsKeep
words_keep s c w ps os = keeping.words s c w ps os

-- The candidate that is meant

record IsBestFrom (classes : List Class) (args : List Argument) (ps : List Candidate) (k i : ℕ) : Type 0 where
  index : ℕ
  is : i ≡ k + index
  candidate : Candidate
  at : slice_get ps index ≡ Some candidate
  viable : is_viable classes args candidate ≡ true

behind : (classes : List Class) (args : List Argument) (p : Candidate) (ps : List Candidate) (k i : ℕ) → IsBestFrom classes args ps (suc k) i
    → IsBestFrom classes args (p ∷ ps) k i
behind classes args p ps k i h = record { index = suc h.index; is = h.is ∙ (omega arith); candidate = h.candidate; at = h.at; viable = h.viable }

best_by : (classes : List Class) (args : List Argument) (p : Candidate) (ps : List Candidate) (k i : ℕ) (b : Bool) (x : Option ℕ)
    → (b ≡ true → is_viable classes args p ≡ true) → (x ≡ Some i → IsBestFrom classes args ps (suc k) i) → (if b then Some k else x) ≡ Some i
    → IsBestFrom classes args (p ∷ ps) k i
best_by classes args p ps k i true x h g e = let j : k ≡ i = cc in
    record { index = 0; is = sym j ∙ (omega arith); candidate = p; at = refl; viable = h refl }
best_by classes args p ps k i false x h g e = behind classes args p ps k i (g e)

best_is : (classes : List Class) (args : List Argument) (all ps : List Candidate) (k i : ℕ) → best_from classes args all k ps ≡ Some i
    → IsBestFrom classes args ps k i
best_is classes args all [] k i h = absurd cc
best_is classes args all (p ∷ ps) k i h = best_by classes args p ps k i (is_viable classes args p && beats_from classes args k p 0 all)
    (best_from classes args all (suc k) ps) (λ e. (and_parts (is_viable classes args p) (beats_from classes args k p 0 all) e).0)
    (λ e. best_is classes args all ps (suc k) i e) h

chosen_some : (x : Option ℕ) (b : Bool) (i : ℕ) → choice_by x b ≡ best i → x ≡ Some i
chosen_some (Some j) b i h = let e : j ≡ i = cc in ap Some e
chosen_some None true i h = absurd cc
chosen_some None false i h = absurd cc

pub chosen_viable : ChosenViable
chosen_viable classes cands args i h =
    let b = best_is classes args cands cands 0 i (chosen_some (best_from classes args cands 0 cands) (any_viable classes args cands) i h) in
    let e : b.index ≡ i = sym (b.is ∙ (omega arith)) in
    record { candidate = b.candidate; at = subst (λ (k : ℕ). slice_get cands k ≡ Some b.candidate) e b.at; viable = b.viable }
