-- In which order a task reads its input, works on its disk, and writes its answers.
use Rattle.std.specs.Prelude.{◌≡◌, ◌≢◌, ◌⊎◌, ◌+◌, ℕ, List, [], ◌∷◌, ◌++◌, flat_map, map, take, Some}
use Rattle.std.specs.Io.KnownBytes.{Appends, Consumes}
use Rattle.zh_film.specs.Frames.{Frame, InOrder}
use Rattle.zh_film.specs.declared.kind.FrameKind.TheVariants.{Asks}
use Rattle.zh_returns.specs.Tally.{Tally}
use Rattle.zh_ledger.specs.Images.{HasSome}
use Rattle.zh_office.specs.Text.{ended_lines}
use Rattle.zh_office.specs.Exchanges.{Exchange, line_in, log_of, text_of}
use Rattle.zh_program.specs.Stopped.{Always}

-- A conversation: at the beginning, at each time that a film shows (latest first), and at the end, the bytes left in the input,
-- the output written, and the disk. The kind of a time says whether a read comes next.
pub record Conversation : Type 0 where
  pub first : Frame
  pub noted : List Frame
  pub last : Frame

-- P holds for each pair of consecutive times, given the first time.
abbrev pub Throughout : (Frame → Frame → Frame → Type 0) → Conversation → Type 0
Throughout P talk = InOrder (P talk.first) talk.first talk.noted talk.last

-- The times a and b of the conversation are consecutive.
abbrev pub AreNext : Conversation → Frame → Frame → Type 0
AreNext talk a b = (newer : List Frame) × (older : List Frame) × (talk.last ∷ (talk.noted ++ talk.first ∷ []) ≡ newer ++ b ∷ (a ∷ older))

-- From one time to the next: at each moment of the disk, each image has every command that the output at the later time
-- acknowledges, and at most one accepted command that the output at the earlier time does not answer.
pub record KeepsWhatIsTold (tally : Tally) (exchanges : List Exchange) (first earlier later : Frame) : Type 0 where
  -- The number of exchanges whose answers are written by the earlier time, in full. Nothing else is written by then.
  pub replied : ℕ
  pub answered : Appends first.written earlier.written (flat_map text_of (take replied exchanges))
  -- By the later time, a prefix of the answers to this many exchanges is written: at most one exchange more than before.
  pub told : ℕ
  pub one_more : (told ≡ replied) ⊎ (told ≡ replied + 1)
  pub front : ℕ
  pub written : Appends first.written later.written (take front (flat_map text_of (take told exchanges)))
  -- The disk already has what these answers acknowledge, even if it is stopped before their first byte is written.
  pub kept : Always (HasSome tally (log_of (take (replied + 1) exchanges)).accepted (log_of (take told exchanges)).acknowledged)
      earlier.disk later.disk

-- By this time, all complete lines that were read are answered whole, and nothing else is written.
pub record HasAnswered (exchanges : List Exchange) (first now : Frame) : Type 0 where
  pub input : List ℕ
  pub read : Consumes first.left now.left input
  pub replied : ℕ
  pub lines : map (λ x. line_in x.given) (take replied exchanges) ≡ map Some (ended_lines input)
  pub written : Appends first.written now.written (flat_map text_of (take replied exchanges))

-- From one time to the next: a read comes only after all complete lines are answered, and the input changes in no other way.
pub record AnswersBeforeReading (exchanges : List Exchange) (first earlier later : Frame) : Type 0 where
  pub reads : earlier.kind ≡ Asks → HasAnswered exchanges first earlier
  pub unread : earlier.kind ≢ Asks → later.left ≡ earlier.left
