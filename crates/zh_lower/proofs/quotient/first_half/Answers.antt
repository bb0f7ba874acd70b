use Rattle.std.proofs.Common.{refl, sym}
use Rattle.zh_lower.proofs.PlaceLemmas.{HasNoHalf-of, IsFirstHalf-of, IsFirstHalfPlace-of}
use Rattle.zh_matrices.specs.Asked.{asked}
use Rattle.zh_matrices.specs.Divisors.{millionths}
use Rattle.zh_lower.proofs.quotient.first_half.Goals as goal

pub returns-in-Some-clause-first : goal.returns-in-Some-clause-first
returns-in-Some-clause-first c = λ of_rows of_columns is. IsFirstHalf-of _ _ c.in-Some.place _ _ refl
    (IsFirstHalfPlace-of (asked c.args.question.now) (millionths of_rows of_columns) c.args.room.now.quotients.items c.in-Some.place is
    (sym (rw c.deref.ensures.value at c.in-Some.ensures))) refl refl

pub returns-in-None-clause-none : goal.returns-in-None-clause-none
returns-in-None-clause-none c = λ of_rows of_columns is.
    HasNoHalf-of (asked c.args.question.now) (millionths of_rows of_columns) c.args.room.now.quotients.items is
    (sym (rw c.deref.ensures.value at c.in-None.ensures))
