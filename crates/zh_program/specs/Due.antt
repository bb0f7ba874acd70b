-- Which exchanges a task has, and what it writes of them.
use Rattle.std.specs.Prelude.{◌≡◌, ◌≢◌, ◌⊎◌, ℕ, List, [], ◌∷◌, ◌++◌, flat_map, map, Option, Some, Result}
use Rattle.std.specs.Io.KnownBytes.{Appends, Consumes, IsAtEnd, Keeps}
use Rattle.zh_disk.specs.Disk.{Trail}
use Rattle.zh_film.specs.Frames.{Frame, frames}
use Rattle.zh_film.specs.declared.kind.FrameKind.TheVariants.{Between}
use Rattle.zh_returns.specs.declared.row.Row.{Row}
use Rattle.zh_csv.specs.declared.batch_reader.LoadFault.{LoadFault}
use Rattle.zh_office.specs.Text.{ended_lines, lines_of}
use Rattle.zh_arguments.specs.declared.arguments.Task.{Task}
use Rattle.zh_arguments.specs.declared.arguments.Task.TheVariants.{Run, Load}
use Rattle.zh_program.specs.World.{FilmedOf, Known, WorldOf}
use Rattle.zh_office.specs.Exchanges.{Exchange, IsCutShort, line_in, text_of}
use Rattle.zh_office.specs.Exchanges.Given.{text}
use Rattle.zh_program.specs.Order.{Conversation}

-- The due lines of the input are answered in order and the answers are written. All lines are due if the input was read to its
-- end; otherwise only the complete ones are, and the status is not 0. If a write failed, the answers break off and the status
-- is not 0.
pub record AnswerLines (talk : Conversation) (status : ℕ) (exchanges : List Exchange) : Type 0 where
  pub input : List ℕ
  pub read : Consumes talk.first.left talk.last.left input
  pub lines : List (List ℕ)
  pub due : (IsAtEnd talk.last.left × (lines ≡ lines_of input)) ⊎ ((status ≢ 0) × (lines ≡ ended_lines input))
  pub others : List (List ℕ)
  pub answered : map Some lines ≡ map (λ x. line_in x.given) exchanges ++ map Some others
  pub written : ((others ≡ []) × Appends talk.first.written talk.last.written (flat_map text_of exchanges))
      ⊎ ((status ≢ 0) × IsCutShort talk.first.written talk.last.written exchanges)

-- The text of a file, whose bytes may be known, is loaded as the only exchange and the reply is written. With a status other
-- than 0, the reply may be written in part, or there may be no exchange, because the file gave no text.
pub record AnswerText (known : Option (List ℕ)) (talk : Conversation) (status : ℕ) (exchanges : List Exchange) : Type 0 where
  pub bytes : Option (List ℕ)
  pub read : Keeps known bytes
  pub loaded : ((exchanges ≡ []) × (status ≢ 0))
      ⊎ ((x : Exchange) × (loaded : Result (List Row) LoadFault) × (exchanges ≡ x ∷ []) × (x.given ≡ text bytes loaded))
  pub written : Appends talk.first.written talk.last.written (flat_map text_of exchanges)
      ⊎ ((status ≢ 0) × IsCutShort talk.first.written talk.last.written exchanges)

-- The exchanges of a task in this conversation, where the texts at paths may be known. Only a run and a load have exchanges.
abbrev pub AreOfTask : (List ℕ → Option (List ℕ)) → Task → Conversation → ℕ → List Exchange → Type 0
AreOfTask text_at (Run paths) talk status exchanges = AnswerLines talk status exchanges
AreOfTask text_at (Load paths csv) talk status exchanges = AnswerText (text_at csv.now) talk status exchanges
AreOfTask text_at task talk status exchanges = exchanges ≡ []

-- The conversation from the world `old` to `new`, while the disk goes from `opened` to `last`, with the times that a film
-- shows. No read directly follows its first or its last time.
abbrev pub conversation : (of : Known) → WorldOf of → WorldOf of → Trail → Trail → List Frame → Conversation
conversation of old new opened last noted = record {
  first = record { kind = Between; left = of.readers.remaining old.input; written = of.writers.contents old.output; disk = opened };
  noted = noted;
  last = record { kind = Between; left = of.readers.remaining new.input; written = of.writers.contents new.output; disk = last };
}

-- The conversation of a task after its disk was opened. A task that answers no lines and loads no text has an empty one,
-- whatever else it writes.
abbrev pub talk_of : (of : Known) → Task → WorldOf of → WorldOf of → Trail → FilmedOf of → Conversation
talk_of of (Run paths) old new opened used =
    conversation of old new opened (of.disks.history used.disk).trail (frames of.readers of.writers of.disks used.film)
talk_of of (Load paths csv) old new opened used =
    conversation of old new opened (of.disks.history used.disk).trail (frames of.readers of.writers of.disks used.film)
talk_of of task old new opened used = conversation of new new opened (of.disks.history used.disk).trail []
