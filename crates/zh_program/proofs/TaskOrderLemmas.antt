-- A load and its reply, on a film.
use Rattle.std.proofs.Common.{◌≡◌, ℕ, List, [], ◌∷◌, ap, ◌∙◌, refl, Option}
use Rattle.std.specs.Io.KnownBytes.{Appends}
use Rattle.zh_commands.specs.declared.replies.Reply.{Reply}
use Rattle.zh_film.specs.Frames.{Frame, now_at}
use Rattle.zh_ledger.specs.Submissions.{OnDisk}
use Rattle.zh_office.specs.Exchanges.{Exchange}
use Rattle.zh_office.specs.Office.{Office}
use Rattle.zh_office.specs.Order.{IsInOrder}
use Rattle.zh_office.specs.Runs.{LoadTurn}
use Rattle.zh_office.specs.Served.{Session, frame_at}
use Rattle.zh_office.proofs.CallerLemmas.{Runs-one, answered, broken, film_ends, run_is_logged, starts}
use Rattle.zh_program.specs.Load.{GivenText, Replied, WritesPart, load_in, printed}
use Rattle.zh_program.specs.Run.{beside, streams}

module _ (text : GivenText) (w w' left : Option (List ℕ)) (start end : OnDisk Office) (reply : Reply) (turn : LoadTurn start text.bytes text.failed reply end)
    (f0 f1 f2 : List Frame) (empty : f0 ≡ []) (noted : f1 ≡ now_at left w start.history.trail ∷ f0) (noted' : f2 ≡ now_at left w end.history.trail ∷ f1) where
  abbrev old : Session
  old = beside (streams left w f1) start

  abbrev mid : Session
  mid = beside (streams left w f2) end

  abbrev new : List Frame → Session
  new film = beside (streams left w' film) end

  abbrev x : Exchange
  x = load_in text reply old mid turn.loaded

  alone : f1 ≡ frame_at old ∷ []
  alone = noted ∙ ap (λ (l : List Frame). now_at left w start.history.trail ∷ l) empty

  replied : (film : List Frame) → IsInOrder (x ∷ []) (frame_at old) film (frame_at (new film)) → Replied text reply (beside (streams left w []) start) (new film)
  replied film order = record { turn = turn; kept = λ honest. run_is_logged start (x ∷ []) end honest (Runs-one start end x turn.turn); order = order }

  -- The whole reply is written.
  pub replied_whole : (f3 : List Frame) → f3 ≡ now_at left w' end.history.trail ∷ f2 → Appends w w' (printed reply) → Replied text reply (beside (streams left w []) start) (new f3)
  replied_whole f3 last written =
      replied f3 (film_ends (frame_at old) (x ∷ []) (new f3) (answered (frame_at old) [] old mid (new f3) x (starts old alone) refl refl refl refl refl noted' last written))

  -- A prefix of the reply is written.
  pub replied_part : WritesPart w w' (printed reply) → Replied text reply (beside (streams left w []) start) (new f2)
  replied_part part = replied f2 (broken (frame_at old) [] old mid (new f2) x (starts old alone) refl refl refl refl refl noted' refl part.front part.written).0
