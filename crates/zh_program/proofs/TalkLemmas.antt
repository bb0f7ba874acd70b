-- The conversation of a task by its streams, and an empty conversation.
use Rattle.std.proofs.Common.{◌≡◌, List, [], inl, refl, sym, subst, arith}
use Rattle.std.proofs.KnownBytes.{Appends-nil}
use Rattle.zh_disk.specs.Disk.{Trail}
use Rattle.zh_film.specs.Frames.{Frame, InOrder, now_at}
use Rattle.zh_office.specs.Order.{ComesAfter}
use Rattle.zh_program.specs.Run.{Streams}
use Rattle.zh_program.specs.Order.{Conversation}
use Rattle.zh_program.proofs.OrderLemmas.{IsTold}

-- The conversation from these streams to those, while the disk goes from the one trail to the other.
abbrev pub talking : Streams → Streams → Trail → Trail → Conversation
talking old new opened last = record { first = now_at old.left old.written opened; noted = new.film; last = now_at new.left new.written last }

-- Nothing was read from the input, written or noted.
pub record IsSilent (old new : Streams) : Type 0 where
  pub left : new.left ≡ old.left
  pub written : new.written ≡ old.written
  pub film : new.film ≡ []

-- Nothing was done to the disk either.
pub told_none : (old new : Streams) (t : Trail) → IsSilent old new → IsTold [] (talking old new t t)
told_none old new t silent =
    let first = now_at old.left old.written t in
    subst (λ (fs : List Frame). InOrder (ComesAfter [] first) first fs (now_at new.left new.written t)) (sym silent.film) (record {
      done = [];
      one = [];
      rest = [];
      parts = refl;
      single = omega arith;
      written = Appends-nil old.written;
      disk = refl;
      moves = inl (record { still = refl; unwritten = silent.written });
      unread = λ is. silent.left;
      answered = λ asks. absurd cc;
    })
