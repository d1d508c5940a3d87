-- Calls (C++14 5.2.2, 13.3).
use Rattle.std.proofs.Common.{◌≡◌, refl, sym, ap, ◌∙◌, subst, ℕ, suc, Bool, true, false, not, ◌==◌, List, length, slice_get}
use Rattle.std.proofs.Common.{Option, Some, None, is_some, option_map, Result, Ok, Err, eqb-true}
use Rattle.std.proofs.lemmas.Bool.{and_parts}
use Rattle.std.proofs.lemmas.Option.{slice_get-map}
use Rattle.std.proofs.lemmas.List.{length-map}
use Rattle.elab_rules.specs.cpp_types.Typ.{Typ, typ, array, func, class, Signature, signature, Typs}
use Rattle.elab_rules.specs.cpp_types.Class.{Class, completion_of}
use Rattle.elab_rules.specs.cpp_types.declared.classes.At.{At}
use Rattle.elab_rules.specs.cpp_overload.Overload.{Candidate, Argument, count_of, parameters_of}
use Rattle.elab_rules.specs.cpp_overload.Choosing.{Choice, best, none_viable, none_best, chosen, is_viable}
use Rattle.elab_rules.specs.cpp_tree.declared.faults.ElabFault.{ElabFault}
use Rattle.elab_rules.specs.cpp_tree.declared.faults.IllRule.TheVariants.{NoViable, Incomplete}
use Rattle.elab_rules.specs.cpp_tree.declared.kinds.TKind.{TKind}
use Rattle.elab_rules.specs.cpp_tree.Trees.{Trees}
use Rattle.elab_rules.specs.cpp_tree.Rows.{Setting, row_fits, param_words, signature_words}
use Rattle.elab_rules.specs.cpp_tree.WellFormed.{heads_of}
use Rattle.elab_rules.specs.elab_ctx.Ctx.{Ctx, Work, Func}
use Rattle.elab_rules.specs.elab_ctx.Steps.{and_then, expect, check, Operand, MadeAll}
use Rattle.elab_rules.specs.Objects.{followed_by}
use Rattle.elab_rules.specs.Initialising.{candidate, candidates_at, func_at, argument, arguments, meant, words, places_from}
use Rattle.elab_rules.specs.Initialising.{signature_parameters, signature_result, object_type_of}
use Rattle.elab_rules.specs.Calls.{result_type, result_category, call_node, complete_result, called, best_of}
use Rattle.elab_fits.specs.Standing.{Reaches, On}
use Rattle.elab_fits.proofs.Steps.{bind}
use Rattle.elab_fits_objects.specs.Making.{WordsFit}
use Rattle.elab_fits_objects.proofs.Passing as passing
use Rattle.elab_fits_forms.specs.Types.{is_sound, is_result, is_sound_signature, are_parameters}
use Rattle.elab_fits_forms.specs.Meaning.{Proper}
use Rattle.elab_fits_forms.specs.Context.{Holds}
use Rattle.elab_fits_forms.specs.Forms.{MadeStands, ProperOperands}
use Rattle.elab_fits_forms.proofs.Places.{place_is, func_is}
use Rattle.elab_fits_forms.proofs.Wholes.{class_whole}
use Rattle.elab_fits_forms.proofs.Sources.{parameters_are, sources_of}
use Rattle.elab_fits_forms.proofs.Calling.{IsCall, call_proper}

-- Words

pub record HasWords (s : Setting) (w : Work) (ps : Typs) (m : MadeAll) : Type 0 where
  pub fit : WordsFit s ps m.trees
  pub before : Reaches s w

abbrev WordsMade : Setting → Work → Typs → MadeAll → Type 0
WordsMade s w ps m = Reaches s m.work → HasWords s w ps m

words_made : (s : Setting) (c : Ctx) (w w' : Work) (ps : Typs) (os : List Operand) → Holds s c w' → ProperOperands s c os → are_parameters c.classes ps ≡ true
    → count_of ps ≡ length os → On (WordsMade s w ps) (words c w ps os)
words_made s c w w' ps os h x i n = by (words c w ps os)
    (passing.words_fit s c _ w ps os h.setting h.makers (sources_of s c os x) (parameters_are s c w' ps h i) n) (passing.words_keep s c w ps os)
  where
    by : (r : Result MadeAll ElabFault) → On (λ (m : MadeAll). Reaches s m.work → WordsFit s ps m.trees) r
        → On (λ (m : MadeAll). Reaches s m.work → Reaches s w) r → On (WordsMade s w ps) r
    by (Ok m) f k = λ r. record { fit = f r; before = k r }
    by (Err e) f k = tt

-- What is given

on_check : (P : Type 0) (at : At) (b : Bool) → (b ≡ true → P) → On (λ (y : Bool). P) (check at Incomplete b)
on_check P at true h = h refl
on_check P at false h = tt

abbrev pub IsGiven : Ctx → Typ → Type 0
IsGiven c r = (n : ℕ) (q v : Bool) → r ≡ typ (class n) q v → is_some (completion_of c.classes n) ≡ true

complete_given : (c : Ctx) (at : At) (r : Typ) → On (λ (y : Bool). IsGiven c r) (complete_result c at r)
complete_given c at (typ (class n) d v) = on_check (IsGiven c (typ (class n) d v)) at (is_some (completion_of c.classes n))
    (λ h m q u e. let i : n ≡ m = cc in subst (λ (z : ℕ). is_some (completion_of c.classes z) ≡ true) i h)
complete_given c at (typ f d v) = λ m q u e. absurd cc

pub sound_parts : (c : Ctx) (g : Signature) → is_sound_signature c.classes g ≡ true
    → (are_parameters c.classes (signature_parameters g) ≡ true) × (is_result c.classes (signature_result g) ≡ true)
sound_parts c (signature ps r safe) h = and_parts (are_parameters c.classes ps) (is_result c.classes r) h

result_sound : (c : Ctx) (r : Typ) → is_result c.classes r ≡ true → is_sound c.classes r ≡ true
result_sound c (typ (array t n) q v) h = absurd cc
result_sound c (typ (func g) q v) h = absurd cc
result_sound c (typ f q v) h = h

-- A call of what has a signature

pub record CallsWith (s : Setting) (kind : TKind) (r : Typ) (ts : Trees) : Type 0 where
  pub call : IsCall s kind ts
  pub row : row_fits s kind (result_type r) (result_category r) (heads_of ts) ≡ true

pub called_made : (s : Setting) (c : Ctx) (w w' : Work) (at : At) (kind : TKind) (g : Signature) (before : Trees) (os : List Operand) → Holds s c w'
    → is_sound_signature c.classes g ≡ true → ProperOperands s c os → count_of (signature_parameters g) ≡ length os
    → ((ts : Trees) → Reaches s w → WordsFit s (signature_parameters g) ts → IsGiven c (signature_result g)
    → Proper s c (call_node at kind (signature_result g) (followed_by before ts)))
    → On (MadeStands s c) (called c w at kind g before os)
called_made s c w w' at kind g before os h i x n k =
    bind (λ (y : Bool). IsGiven c (signature_result g)) (MadeStands s c) (complete_result c at (signature_result g)) _
    (complete_given c at (signature_result g)) (λ y d.
    bind (WordsMade s w (signature_parameters g)) (MadeStands s c) (words c w (signature_parameters g) os) _
    (words_made s c w w' (signature_parameters g) os h x (sound_parts c g i).0 n) (λ m f r. k m.trees (f r).before (f r).fit d))

pub called_stands : (s : Setting) (c : Ctx) (w w' : Work) (at : At) (kind : TKind) (g : Signature) (before : Trees) (os : List Operand) → Holds s c w'
    → is_sound_signature c.classes g ≡ true → ProperOperands s c os → count_of (signature_parameters g) ≡ length os
    → ((ts : Trees) → Reaches s w → WordsFit s (signature_parameters g) ts → CallsWith s kind (signature_result g) (followed_by before ts))
    → On (MadeStands s c) (called c w at kind g before os)
called_stands s c w w' at kind g before os h i x n k = called_made s c w w' at kind g before os h i x n (λ ts r f d.
    call_proper s c kind (followed_by before ts) (signature_result g) at (k ts r f).call (sound_parts c g i).1
    (λ o. class_whole s c w' (signature_result g) h (result_sound c (signature_result g) (sound_parts c g i).1) o d) (k ts r f).row)

-- The function that is meant

-- one of some places, whose function takes so many arguments
pub record IsBest (c : Ctx) (places : List ℕ) (args : List Argument) (k : ℕ) : Type 0 where
  pub index : ℕ
  pub at : slice_get places index ≡ Some k
  pub count : count_of (parameters_of (candidate (func_at c.funcs k))) ≡ length args

pub viable_count : (classes : List Class) (args : List Argument) (p : Candidate) → is_viable classes args p ≡ true → count_of (parameters_of p) ≡ length args
viable_count classes args p h = eqb-true (count_of (parameters_of p)) (length args)
    (and_parts (count_of (parameters_of p) == length args) _ h).0

candidate_is : (c : Ctx) (places : List ℕ) (i k : ℕ) (p : Candidate) → slice_get places i ≡ Some k
    → slice_get (candidates_at candidate c.funcs places) i ≡ Some p → candidate (func_at c.funcs k) ≡ p
candidate_is c places i k p e d =
    let f : slice_get (candidates_at candidate c.funcs places) i ≡ option_map (λ (j : ℕ). candidate (func_at c.funcs j)) (slice_get places i)
    = slice_get-map (λ (j : ℕ). candidate (func_at c.funcs j)) places i in
    let g : Some (candidate (func_at c.funcs k)) ≡ Some p
    = sym (ap (λ (o : Option ℕ). option_map (λ (j : ℕ). candidate (func_at c.funcs j)) o) e) ∙ sym f ∙ d in
    cc

best_is : (c : Ctx) (at : At) (places : List ℕ) (os : List Operand) → On (IsBest c places (arguments os)) (best_of c at places os)
best_is c at places os = by (chosen c.classes (candidates_at candidate c.funcs places) (arguments os)) refl
  where
    given : (i : ℕ) → chosen c.classes (candidates_at candidate c.funcs places) (arguments os) ≡ best i → (k : ℕ) → slice_get places i ≡ Some k
        → IsBest c places (arguments os) k
    given i e k d =
        let v = passing.chosen_viable c.classes (candidates_at candidate c.funcs places) (arguments os) i e in
        record {
          index = i;
          at = d;
          count = ap (λ (p : Candidate). count_of (parameters_of p)) (candidate_is c places i k v.candidate d v.at)
              ∙ viable_count c.classes (arguments os) v.candidate v.viable;
        }

    by : (x : Choice) → chosen c.classes (candidates_at candidate c.funcs places) (arguments os) ≡ x
        → On (IsBest c places (arguments os)) (and_then (meant at x) (λ i. expect at NoViable (slice_get places i)))
    by (best i) e = placed (slice_get places i) refl
      where
        placed : (o : Option ℕ) → slice_get places i ≡ o → On (IsBest c places (arguments os)) (expect at NoViable o)
        placed (Some k) d = given i e k d
        placed None d = tt
    by none_viable e = tt
    by none_best e = tt

-- the function in that place
pub record IsMeant (c : Ctx) (test : Func → Bool) (args : List Argument) (k : ℕ) : Type 0 where
  pub func : Func
  pub at : slice_get c.funcs k ≡ Some func
  pub passes : test func ≡ true
  pub count : count_of (parameters_of (candidate func)) ≡ length args

pub best_meant : (c : Ctx) (at : At) (test : Func → Bool) (os : List Operand)
    → On (IsMeant c test (arguments os)) (best_of c at (places_from test 0 c.funcs) os)
best_meant c at test os = by (best_of c at (places_from test 0 c.funcs) os) (best_is c at (places_from test 0 c.funcs) os)
  where
    by : (r : Result ℕ ElabFault) → On (IsBest c (places_from test 0 c.funcs) (arguments os)) r → On (IsMeant c test (arguments os)) r
    by (Ok k) x = place_is (IsMeant c test (arguments os) k) test c.funcs x.index k x.at (λ f e t. record {
      func = f;
      at = e;
      passes = t;
      count = ap (λ (g : Func). count_of (parameters_of (candidate g))) (sym (func_is c.funcs k f e)) ∙ x.count;
    })
    by (Err e) x = tt

pub many : (os : List Operand) → length (arguments os) ≡ length os
many os = length-map os argument

-- Words of a function, behind its object

pub no_class : (o : Option ℕ) → not (is_some o) ≡ true → o ≡ None
no_class (Some n) h = absurd cc
no_class None h = refl

pub signature_is : (o : Option ℕ) (g : Signature) → o ≡ None → signature_words o g ≡ param_words (signature_parameters g)
signature_is o (signature ps r safe) h = ap (λ (x : Option ℕ). signature_words x (signature ps r safe)) h

pub free_count : (f : Func) → f.class ≡ None → count_of (parameters_of (candidate f)) ≡ count_of (signature_parameters f.declared.signature)
free_count f h = by f.class h f.declared.signature
  where
    by : (o : Option ℕ) → o ≡ None → (g : Signature)
        → count_of (parameters_of (record { signature = g; this = object_type_of f o })) ≡ count_of (signature_parameters g)
    by None e (signature ps r safe) = refl
    by (Some n) e g = absurd cc

pub member_count : (f : Func) (n : ℕ) → f.class ≡ Some n → count_of (parameters_of (candidate f)) ≡ suc (count_of (signature_parameters f.declared.signature))
member_count f n h = by f.class h f.declared.signature
  where
    by : (o : Option ℕ) → o ≡ Some n → (g : Signature)
        → count_of (parameters_of (record { signature = g; this = object_type_of f o })) ≡ suc (count_of (signature_parameters g))
    by (Some m) e (signature ps r safe) = refl
    by None e g = absurd cc
