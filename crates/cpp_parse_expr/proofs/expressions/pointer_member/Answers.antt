use Rattle.std.proofs.Common.{refl, sym as back, arith}
use Rattle.cpp_syntax.specs.Terminals.{arrow}
use Rattle.cpp_syntax.specs.Grammar.{pointer_member_access}
use Rattle.cpp_parse_expr.specs.Suffixes.{a_pointer_member}
use Rattle.cpp_syntax.proofs.LongestMatches.{mark_none, neither}
use Rattle.cpp_syntax.proofs.Readers.{leaves_none, reads_mark}
use Rattle.cpp_syntax.proofs.ReaderLoops.{within}
use Rattle.cpp_parse_expr.proofs.ReaderAnswers.{word_and, none_unlike, none_second, reads_to}
use Rattle.cpp_parse_expr.proofs.expressions.pointer_member.Goals as goal

pub returns-then-not-is_name_at : goal.returns-then-not-is_name_at
returns-then-not-is_name_at c =
    λ old. (
      leaves_none old,
      neither (none_unlike arrow c.requires.begins refl refl) (neither (none_unlike arrow c.requires.begins refl refl)
          (neither (none_unlike arrow c.requires.begins refl refl) (neither (none_second (mark_none (back c.if-not-is_name_at.ensures.test)))
          (none_unlike arrow c.requires.begins refl refl)))),
    )

pub returns : goal.returns
returns c =
    λ old. record {
      rule = pointer_member_access;
      kind = a_pointer_member;
      reads = reads_to
          (word_and c.requires.begins (within c.args.text.now _ arrow refl c.requires.begins)
          (reads_mark (back c.if-not-is_name_at.ensures.test) (c.if-not-is_name_at.ensures.inside refl)) refl refl) (omega arith);
    }
