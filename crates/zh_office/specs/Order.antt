-- The order in which an office reads what it is given, carries it out and answers.
use Rattle.std.specs.Prelude.{◌≡◌, ◌≢◌, ◌⊎◌, ◌≤◌, ℕ, List, ◌++◌, length, map, Some}
use Rattle.std.specs.Io.KnownBytes.{Appends, Consumes}
use Rattle.zh_disk.specs.Disk.{Trail}
use Rattle.zh_film.specs.Frames.{EndsOnce, FailsLast, Frame, InOrder}
use Rattle.zh_film.specs.declared.kind.FrameKind.TheVariants.{Asks}
use Rattle.zh_office.specs.Exchanges.{Exchange, disk_by, lines_given, texts}
use Rattle.zh_office.specs.Text.{ended_lines}

-- what is given, if anything is, is carried out: nothing is written, and the disk was still as the earlier exchanges left it
pub record IsDone (before : Trail) (a b : Frame) : Type 0 where
  pub still : a.disk ≡ before
  pub unwritten : b.written ≡ a.written

-- it is answered: the disk does not change, and the answer, or a prefix of it, is written
pub record IsTold (answer : List ℕ) (a b : Frame) : Type 0 where
  pub rests : a.disk ≡ b.disk
  pub text : List ℕ
  pub more : List ℕ
  pub front : text ++ more ≡ answer
  pub written : Appends a.written b.written text

-- The relation of two consecutive frames, in a conversation of these exchanges that began with the first frame.
pub record ComesAfter (exchanges : List Exchange) (first a b : Frame) : Type 0 where
  -- the earlier frame has written the answers of some exchanges, and the later one's disk is the disk after these and at most one more
  pub done : List Exchange
  pub one : List Exchange
  pub rest : List Exchange
  pub parts : exchanges ≡ done ++ (one ++ rest)
  pub single : length one ≤ 1
  pub written : Appends first.written a.written (texts done)
  pub disk : b.disk ≡ disk_by first.disk (done ++ one)
  -- what is given in this exchange is carried out before it is answered
  pub moves : IsDone (disk_by first.disk done) a b ⊎ IsTold (texts one) a b
  -- input is taken only in the reads that are noted, and a read is made only once all lines that have ended in the input are answered
  pub unread : a.kind ≢ Asks → b.left ≡ a.left
  pub answered : a.kind ≡ Asks → (input : List ℕ) × Consumes first.left a.left input × (map Some (ended_lines input) ≡ lines_given done)

-- every two consecutive frames are in order, from the first one through the film (latest frame first) to the last one; no read is made
-- after one that failed or gave no byte
pub record IsInOrder (exchanges : List Exchange) (first : Frame) (film : List Frame) (last : Frame) : Type 0 where
  pub follow : InOrder (ComesAfter exchanges first) first film last
  pub failed : FailsLast film
  pub ended : EndsOnce film
