-- What the check finds of a whole program.
use Rattle.std.proofs.Common.{◌≡◌, ◌∙◌, ◌<◌, ℕ, zero, suc, Bool, true, List, [], ◌∷◌, Option, Some, None, map, fold, length, get_or, slice_get, is_none, ap}
use Rattle.std.proofs.Common.{sym, subst, arith, refl}
use Rattle.std.specs.List.{flat_map}
use Rattle.std.specs.Global.{Vec}
use Rattle.std.proofs.Math.Path.{fun_ext}
use Rattle.std.proofs.lemmas.Option.{slice_get_read, slice_get-map}
use Rattle.std.specs.Prelude.{option_map}
use Rattle.cpp_tree.specs.cpp_types.declared.classes.ClassRec.{ClassRec}
use Rattle.cpp_tree.specs.cpp_types.Class.{classes_of}
use Rattle.cpp_tree.specs.declared.program.Program.{Program}
use Rattle.cpp_tree.specs.declared.program.UnitTree.{UnitTree}
use Rattle.cpp_tree.specs.Typing.{passes}
use Rattle.cpp_tree.specs.Units.{Unit as TypedUnit, unit_of, program_of}
use Rattle.cpp_tree.specs.WellFormed.{WellFormed}
use Rattle.tx_unsafe.specs.declared.finding.Finding.{Finding}
use Rattle.tx_unsafe.specs.Volatile.{has_volatile_part, marked}
use Rattle.tx_safety.specs.Safe.{is_empty, safe, unit_end, unit_findings, program_findings, IsSafe, first_unsafe, is_safe}
use Rattle.tx_unsafe.specs.First.{sooner}
use Rattle.tx_safety.specs.Marks.{may_from, AreReadable, AreUnitMarks}
use Rattle.tx_safety.specs.Checked.{IsChecked}
use Rattle.tx_safety.proofs.Contents.{none_first}

pub readable : (p : Program) → WellFormed p → AreReadable p.units.items
readable p w = record {
  ordered = λ i u g. (w.units i u g).ordered;
  roots = λ i u g. record { each = λ n f h. record { within = λ root e. ((w.units i u g).bodies n f root h e).within } };
}

pub empty_list : {A : Type 0} (xs : List A) → is_empty xs ≡ true → xs ≡ []
empty_list [] h = refl
empty_list (x ∷ xs) h = absurd cc

-- the marks of the classes, and the lists that the code has of a program
pub record Lists (p : Program) (marks volatile : List Bool) (classes : List ClassRec) (units : List UnitTree) : Type 0 where
  pub classes_are : classes ≡ p.classes.items
  pub units_are : units ≡ p.units.items
  pub marks_are : volatile ≡ marks
  pub tells : (n : ℕ) → marked marks n ≡ has_volatile_part (classes_of classes) n

pub same_test : (p : Program) (marks volatile : List Bool) (classes : List ClassRec) (units : List UnitTree) → Lists p marks volatile classes units
    → marked volatile ≡ has_volatile_part (program_of p).classes
same_test p marks volatile classes units l = ap marked l.marks_are ∙ fun_ext l.tells ∙ ap (λ z. has_volatile_part (classes_of z)) l.classes_are

pub found_is : (p : Program) (marks volatile : List Bool) (classes : List ClassRec) (units : List UnitTree) (found : Option Finding)
    → Lists p marks volatile classes units
    → found ≡ fold sooner None (flat_map (unit_findings (marked volatile)) (map unit_of units)) → found ≡ fold sooner None (program_findings (program_of p))
found_is p marks volatile classes units found l h = h ∙ ap (λ z. fold sooner None (flat_map (unit_findings (marked volatile)) (map unit_of z))) l.units_are
    ∙ ap (λ z. fold sooner None (flat_map (unit_findings z) (map unit_of p.units.items))) (same_test p marks volatile classes units l)

pub first_is : (p : Program) (found : Option Finding) (f : Finding) → found ≡ fold sooner None (program_findings (program_of p)) → found ≡ Some f
    → first_unsafe (program_of p) ≡ Some f
unfolding first_unsafe
first_is p found f h e = sym h ∙ e

pub none_unsafe : (p : Program) (found : Option Finding) → found ≡ fold sooner None (program_findings (program_of p)) → found ≡ None
    → is_empty (program_findings (program_of p)) ≡ true
none_unsafe p found h e = sym (none_first (program_findings (program_of p))) ∙ ap is_none (sym h ∙ e)

pub checked : (p : Program) (marks volatile : List Bool) (classes : List ClassRec) (units : List UnitTree) (found : Option Finding)
    (all : List (Vec (Option ℕ))) → Lists p marks volatile classes units
    → found ≡ fold sooner None (flat_map (unit_findings (marked volatile)) (map unit_of units)) → found ≡ None → length all ≡ length units
    → AreUnitMarks (marked volatile) units all → IsChecked p all
checked p marks volatile classes units found all l h e n m = record {
  safe = none_unsafe p found (found_is p marks volatile classes units found l h) e;
  long = n ∙ ap length l.units_are;
  marks = subst (λ z. AreUnitMarks z p.units.items all) (same_test p marks volatile classes units l)
      (subst (λ z. AreUnitMarks (marked volatile) z all) l.units_are m);
}

pub within_some : {A : Type 0} (xs : List A) (i : ℕ) → i < length xs → slice_get xs i ≡ None → ⊥
within_some [] i l h = omega arith
within_some (x ∷ xs) zero l h = absurd cc
within_some (x ∷ xs) (suc i) l h = within_some xs i (omega arith) h

pub safe_there : (p : Program) (all : List (Vec (Option ℕ))) (unit n : ℕ) (m : Vec (Option ℕ)) → IsChecked p all → unit < length p.units.items
    → slice_get all unit ≡ Some m → may_from m.items unit_end n ≡ is_safe (program_of p) unit n
unfolding is_safe
safe_there p all unit n m c l g = here (slice_get p.units.items unit) refl
  where
    here : (o : Option UnitTree) → slice_get p.units.items unit ≡ o
        → may_from m.items unit_end n ≡ passes (λ (u : TypedUnit). safe (has_volatile_part (program_of p).classes) u.funcs unit_end n)
        (slice_get (map unit_of p.units.items) unit)
    here None e = absurd (within_some p.units.items unit l e)
    here (Some u) e = c.marks.each unit u m e g unit_end n
        ∙ sym (ap (passes (λ (u : TypedUnit). safe (has_volatile_part (program_of p).classes) u.funcs unit_end n))
        (slice_get-map unit_of p.units.items unit ∙ ap (option_map unit_of) e))

pub safe_at : (p : Program) (all : List (Vec (Option ℕ))) (unit n : ℕ) (m : Vec (Option ℕ)) (others : List (Option ℕ)) → IsChecked p all
    → unit < length p.units.items → m ≡ get_or all unit m → others ≡ m.items
    → may_from others unit_end n ≡ is_safe (program_of p) unit n
safe_at p all unit n m others c l r e = ap (λ z. may_from z unit_end n) e
    ∙ safe_there p all unit n m c l (slice_get_read all (length all) unit m refl (let k = c.long in omega arith) r)
