-- Silent steps, and the laws.
use Rattle.std.proofs.Common.{ℕ, zero, suc, ap₂, sym, subst, List}
use Rattle.src_mean.specs.Linked.{Func, Program}
use Rattle.src_mean.specs.Frames.{State}
use Rattle.src_mean.specs.Frames as frames
use Rattle.symbolic_source.specs.Terms.{Term, number, Values}
use Rattle.symbolic_source.specs.Frames.{Waiting, Exit, Frame}
use Rattle.symbolic_source.specs.Outcomes.{Outcome, silent, goes, Shows}
use Rattle.symbolic_source.specs.Steps.{Answers, left, given, step_of, advanced}
use Rattle.symbolic_source.specs.Small.{AreWords}
use Rattle.symbolic_source.specs.Replacing.{Replacing, seen_by, in_term, in_waitings, in_exit, in_frames, in_outcome}
use Rattle.symbolic_source.proofs.Replaced.{outcome_replaced}
use Rattle.symbolic_instances.specs.Instances.{IsKept, no_answers}
use Rattle.symbolic_instances.proofs.Forms.{Sides, waitings_in, exit_in}
use Rattle.symbolic_instances.proofs.Words.{num}
use Rattle.symbolic_instances.proofs.Likeness.{Like, shown_like}
use Rattle.symbolic_instances.proofs.Leaving.{left_like}
use Rattle.symbolic_instances.proofs.Values.{given_like}
use Rattle.symbolic_instances.proofs.Placed.{term_placed, waitings_placed, waitings_are, exit_placed, exit_is, frames_placed, frames_are}

pub none_kept : (p : Program) (f : Func) (r : Replacing) (answers : Answers) → IsKept p f r answers no_answers
none_kept p f r answers n handler answer e = absurd cc

module _ (z : Sides) where
  step_like : (o q : Outcome) → Like z o q → Like z (step_of z.program z.func z.answers o) (step_of z.program z.func z.others q)
  step_like o (goes silent ws k) l =
      subst (λ i. Like z (step_of z.program z.func z.answers i) (given z.program z.func z.others ws (number 0) k)) (sym l.2)
      (given_like z ws l.0 (number 0) (num z 0) k l.1)
  step_like o q l = λ s h. tt

  pub advanced_like : (n : ℕ) (o q : Outcome) → Like z o q
      → Like z (advanced z.program z.func z.answers n o) (advanced z.program z.func z.others n q)
  advanced_like zero o q l = l
  advanced_like (suc n) o q l =
      advanced_like n (step_of z.program z.func z.answers o) (step_of z.program z.func z.others q) (step_like o q l)

  -- With terms in the place of variables

  pub outcome_placed_like : (o : Outcome) → Like z (in_outcome z.replacing o) o
  outcome_placed_like (goes silent ws k) = (
    waitings_placed z ws,
    frames_placed z k,
    ap₂ (λ i j. goes silent i j) (sym (waitings_are z ws)) (sym (frames_are z k)),
  )
  outcome_placed_like o = λ s h. outcome_replaced z.program z.func z.replacing z.values z.callers o s h

  pub given_placed_like : (ws : List Waiting) (v : Term) (k : List Frame)
      → Like z (given z.program z.func z.answers (in_waitings z.replacing ws) (in_term z.replacing v) (in_frames z.replacing k))
      (given z.program z.func z.others ws v k)
  given_placed_like ws v k =
      subst (λ i. Like z (given z.program z.func z.answers i (in_term z.replacing v) (in_frames z.replacing k)) (given z.program z.func z.others ws v k))
      (waitings_are z ws)
      (subst (λ i. Like z (given z.program z.func z.answers (waitings_in z ws (waitings_placed z ws)) (in_term z.replacing v) i)
      (given z.program z.func z.others ws v k)) (frames_are z k)
      (given_like z ws (waitings_placed z ws) v (term_placed z v) k (frames_placed z k)))

  pub left_placed_like : (ws : List Waiting) (exit : Exit) (k : List Frame)
      → Like z (left (in_waitings z.replacing ws) (in_exit z.replacing exit) (in_frames z.replacing k)) (left ws exit k)
  left_placed_like ws exit k =
      subst (λ i. Like z (left i (in_exit z.replacing exit) (in_frames z.replacing k)) (left ws exit k)) (waitings_are z ws)
      (subst (λ i. Like z (left (waitings_in z ws (waitings_placed z ws)) i (in_frames z.replacing k)) (left ws exit k)) (exit_is z exit)
      (subst (λ i. Like z (left (waitings_in z ws (waitings_placed z ws)) (exit_in z exit (exit_placed z exit)) i) (left ws exit k)) (frames_are z k)
      (left_like z ws (waitings_placed z ws) exit (exit_placed z exit) k (frames_placed z k))))

module _ (p : Program) (f : Func) (r : Replacing) (x : Values) (answers others : Answers) (callers : List frames.Frame) (bounded : AreWords x)
    (kept : IsKept p f r answers others) where
  abbrev sides : Sides
  sides = record {
    program = p;
    func = f;
    replacing = r;
    values = x;
    bounded = bounded;
    answers = answers;
    others = others;
    kept = kept;
    callers = callers;
  }

  pub outcome_seen : (n : ℕ) (o : Outcome) (s : State) → Shows p f x callers (advanced p f answers n (in_outcome r o)) s
      → Shows p f (seen_by p f r x) callers (advanced p f others n o) s
  outcome_seen n o s h = shown_like sides (advanced p f answers n (in_outcome r o)) (advanced p f others n o)
      (advanced_like sides n (in_outcome r o) o (outcome_placed_like sides o)) s h

  pub value_seen : (n : ℕ) (ws : List Waiting) (v : Term) (k : List Frame) (s : State)
      → Shows p f x callers (advanced p f answers n (given p f answers (in_waitings r ws) (in_term r v) (in_frames r k))) s
      → Shows p f (seen_by p f r x) callers (advanced p f others n (given p f others ws v k)) s
  value_seen n ws v k s h = shown_like sides (advanced p f answers n (given p f answers (in_waitings r ws) (in_term r v) (in_frames r k)))
      (advanced p f others n (given p f others ws v k))
      (advanced_like sides n (given p f answers (in_waitings r ws) (in_term r v) (in_frames r k)) (given p f others ws v k)
      (given_placed_like sides ws v k)) s h

  pub exit_seen : (n : ℕ) (ws : List Waiting) (exit : Exit) (k : List Frame) (s : State)
      → Shows p f x callers (advanced p f answers n (left (in_waitings r ws) (in_exit r exit) (in_frames r k))) s
      → Shows p f (seen_by p f r x) callers (advanced p f others n (left ws exit k)) s
  exit_seen n ws exit k s h = shown_like sides (advanced p f answers n (left (in_waitings r ws) (in_exit r exit) (in_frames r k)))
      (advanced p f others n (left ws exit k))
      (advanced_like sides n (left (in_waitings r ws) (in_exit r exit) (in_frames r k)) (left ws exit k) (left_placed_like sides ws exit k)) s h
