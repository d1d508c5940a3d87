-- The laws of expressions, and of what initialises objects.
use Rattle.std.proofs.Common.{ℕ, ◌+◌, ◌≤◌, List, length, arith}
use Rattle.elab_rules.specs.cpp_tree.Trees.{Tree, Trees}
use Rattle.elab_rules.specs.cpp_tree.WellFormed.{places_of, all_places}
use Rattle.elab_rules.specs.elab_ctx.Ctx.{Work}
use Rattle.elab_rules.specs.elab_ctx.Steps.{Operand, Made}
use Rattle.elab_rules.specs.Initialising.{initial, class_from, from_values, words}
use Rattle.elab_rules.specs.Expressions.{expression_with, operands_with}
use Rattle.elab_places.specs.Places.{Owned, operand_places, ExpressionsOwn, OperandsOwn, InitialsOwn, ClassObjectsOwn, ValuesOwn, WordsOwn}
use Rattle.elab_places.proofs.Counting.{Sought, place, declaring, held, all_held, operands_held, room, Gives, GiveAll}
use Rattle.elab_places.proofs.Steps.{held_by}
use Rattle.elab_places.proofs.Owned.{from_counted, to_counted, tree_times, all_times, operand_times, plain_of_count}
use Rattle.elab_places.proofs.Initials as initials
use Rattle.elab_places.proofs.Expressions as expressions

-- of what is counted
pub tree_owned : (n m : ℕ) (e : Tree) → ((p : ℕ) → held (place p) e + room (place p) n ≤ room (place p) m) → Owned n m (places_of e)
tree_owned n m e h = from_counted n m (places_of e) (λ p. let i = h p in let r = tree_times p e in omega arith)

pub trees_owned : (n m : ℕ) (ts : Trees) → ((p : ℕ) → all_held (place p) ts + room (place p) n ≤ room (place p) m) → Owned n m (all_places ts)
trees_owned n m ts h = from_counted n m (all_places ts) (λ p. let i = h p in let r = all_times p ts in omega arith)

operands_owned : (n m : ℕ) (os : List Operand) → ((p : ℕ) → operands_held (place p) os + room (place p) n ≤ room (place p) m)
    → Owned n m (operand_places os)
operands_owned n m os h = from_counted n m (operand_places os) (λ p. let i = h p in let r = operand_times p os in omega arith)

pub owned_tree : (n m : ℕ) (e : Tree) → Owned n m (places_of e) → (p : ℕ) → held (place p) e + room (place p) n ≤ room (place p) m
owned_tree n m e h p = let i = to_counted n m (places_of e) h p in let r = tree_times p e in omega arith

owned_operands : (n m : ℕ) (os : List Operand) → Owned n m (operand_places os) → (p : ℕ) → operands_held (place p) os + room (place p) n ≤ room (place p) m
owned_operands n m os h p = let i = to_counted n m (operand_places os) h p in let r = operand_times p os in omega arith

pub expressions_law : ExpressionsOwn
expressions_law s c l w e x h = record {
  owns = tree_owned (length w.frame) (length x.work.frame) x.operand.tree (λ p. let i = counted (place p) in omega arith);
  plain = plain_of_count x.operand.tree (length w.frame) (length x.work.frame) (counted declaring);
}
  where
    counted : (g : Sought) → expressions.GivesTyped g 0 w x
    counted g = held_by (expressions.GivesTyped g 0 w) (expression_with s c l w e) x (expressions.expression g s c l w e) h

pub operands_law : OperandsOwn
operands_law s c l w es x h = operands_owned (length w.frame) (length x.work.frame) x.operands (λ p. let i = counted p in omega arith)
  where
    counted : (p : ℕ) → expressions.GivesOperands (place p) 0 w x
    counted p = held_by (expressions.GivesOperands (place p) 0 w) (operands_with s c l w es) x (expressions.operands (place p) s c l w es) h

-- a tree that is made of an operand
pub of_operand : (n : ℕ) (w : Work) (o : Tree) (m : Made) → Owned n (length w.frame) (places_of o)
    → ((p : ℕ) → Gives (place p) (held (place p) o) w m) → Owned n (length m.work.frame) (places_of m.tree)
of_operand n w o m h k = tree_owned n (length m.work.frame) m.tree (λ p. let i = owned_tree n (length w.frame) o h p in let r = k p in omega arith)

pub initials_law : InitialsOwn
initials_law c n w t o m h e = of_operand n w o.tree m h
    (λ p. held_by (Gives (place p) (held (place p) o.tree) w) (initial c w t o) m (initials.initial (place p) c w t o) e)

pub objects_law : ClassObjectsOwn
objects_law c n w t at o m h e = of_operand n w o.tree m h
    (λ p. held_by (Gives (place p) (held (place p) o.tree) w) (class_from c w t at o) m (initials.class_from (place p) c w t at o) e)

pub values_law : ValuesOwn
values_law c n w t at os m h e = tree_owned n (length m.work.frame) m.tree
    (λ p. let i = owned_operands n (length w.frame) os h p in let r = made p in omega arith)
  where
    made : (p : ℕ) → Gives (place p) (operands_held (place p) os) w m
    made p = held_by (Gives (place p) (operands_held (place p) os) w) (from_values c w t at os) m (initials.from_values (place p) c w t at os) e

pub words_law : WordsOwn
words_law c n w ps os m h e = trees_owned n (length m.work.frame) m.trees
    (λ p. let i = owned_operands n (length w.frame) os h p in let r = made p in omega arith)
  where
    made : (p : ℕ) → GiveAll (place p) (operands_held (place p) os) w m
    made p = held_by (GiveAll (place p) (operands_held (place p) os) w) (words c w ps os) m (initials.words (place p) c w ps os) e
