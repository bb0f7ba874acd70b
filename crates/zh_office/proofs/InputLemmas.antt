-- Serving an input block by block.
use Rattle.std.proofs.Common.{◌≡◌, ◌≢◌, inl, inr, ℕ, ◌+◌, ◌-◌, ◌^◌, min, List, [], ◌∷◌, ◌++◌, map, length, refl, sym, ap, ◌∙◌, subst, arith, Option, Some, None, Result, Ok, Err, length-append}
use Rattle.std.proofs.KnownBytes.{Consumes-nil, Consumes-trans}
use Rattle.std.proofs.lemmas.List.{append-nil, map-append}
use Rattle.std.specs.Io.KnownBytes.{Consumes, Keeps, IsAtEnd}
use Rattle.zh_film.specs.Frames.{Frame, HasEnded, NoneFailed}
use Rattle.zh_film.specs.declared.kind.FrameKind.{FrameKind}
use Rattle.zh_film.specs.declared.kind.FrameKind.TheVariants.{Asks, Between, Ended, Failed}
use Rattle.zh_office.specs.Exchanges.{Exchange, lines_given}
use Rattle.zh_office.specs.Filmed.{FilmsAll, FilmsFront, IsOn, TakesBlock}
use Rattle.zh_office.specs.Order.{IsInOrder}
use Rattle.zh_office.specs.Runs.{Runs}
use Rattle.zh_office.specs.Served.{AreDue, WritesAnswers, Serves, Session, frame_at}
use Rattle.zh_office.specs.declared.service.ServeFault.{ServeFault}
use Rattle.zh_office.specs.declared.service.ServeFault.TheVariants as faults
use Rattle.zh_office.specs.Text.{HasNoEnd, ended, unfinished, truncated, ended_lines, last_line, lines_of}
use Rattle.zh_office.proofs.BlockLemmas.{cut_after, lines_after, lines_left}
use Rattle.zh_office.proofs.ExchangeLemmas.{Runs-append}
use Rattle.zh_office.proofs.FilmLemmas.{film_ends, read_failed, starts, was_read}
use Rattle.zh_office.proofs.FilmReadLemmas.{no_end_more, no_end_read}
use Rattle.zh_office.proofs.LoggedLemmas.{run_is_logged}
use Rattle.zh_office.proofs.TextLemmas.{ended-append, unfinished-append, unfinished_has_no_end, HasNoEnd-take, ended_lines-truncated, unfinished-truncated, truncated-truncated, last_line-truncated}

-- these lines are answered and the film is in order
pub record Filmed (lines : List (List ℕ)) (old now : Session) : Type 0 where
  pub exchanges : List Exchange
  pub answered : map Some lines ≡ lines_given exchanges
  pub run : Runs old.office exchanges now.office
  pub on : IsOn (frame_at old) exchanges now

-- the session after a read, with this input left and this film
abbrev pub seen_by : Session → Option (List ℕ) → List Frame → Session
seen_by now left film = record { written = now.written; office = now.office; left = left; film = film }

-- the film after that read
abbrev pub IsRead : Session → Option (List ℕ) → List Frame → FrameKind → Type 0
IsRead now left film kind = film ≡ record { kind = kind; left = left; written = now.written; disk = now.office.history.trail }
    ∷ (record { kind = Asks; left = now.left; written = now.written; disk = now.office.history.trail } ∷ now.film)

-- further lines are answered after these
Filmed-append : (old now new : Session) (lines more : List (List ℕ)) → Filmed lines old now → FilmsAll more now new → Filmed (lines ++ more) old new
Filmed-append old now new lines more f a = record {
  exchanges = f.exchanges ++ a.exchanges;
  answered = lines_after lines more f.exchanges a.exchanges f.answered a.answered;
  run = Runs-append old.office now.office new.office f.exchanges a.exchanges f.run a.run;
  on = a.on (frame_at old) f.exchanges f.on;
}

-- the lines of an input are answered
serves_all : (old new : Session) (input : List ℕ) (lines : List (List ℕ)) (result : Result ℕ ServeFault) → Consumes old.left new.left input
    → AreDue new input lines result → (f : Filmed lines old new) → WritesAnswers old new f.exchanges [] result
    → IsInOrder f.exchanges (frame_at old) new.film (frame_at new) → Serves old new result
serves_all old new input lines result read due f written order = record {
  input = input;
  read = read;
  lines = lines;
  due = due;
  exchanges = f.exchanges;
  others = [];
  answered = f.answered ∙ sym (append-nil (lines_given f.exchanges));
  run = f.run;
  written = written;
  kept = λ honest. run_is_logged old.office f.exchanges new.office honest f.run;
  order = order;
}

-- after these lines, an answer to one of the others is incomplete
serves_front : (old now new : Session) (input : List ℕ) (lines more all : List (List ℕ)) → Consumes old.left new.left input → all ≡ lines ++ more
    → AreDue new input all (Err faults.Write) → Filmed lines old now → FilmsFront more now new → Serves old new (Err faults.Write)
serves_front old now new input lines more all read all_is due f b =
    let run = Runs-append old.office now.office new.office f.exchanges b.exchanges f.run b.run in
    record {
      input = input;
      read = read;
      lines = all;
      due = due;
      exchanges = f.exchanges ++ b.exchanges;
      others = b.others;
      answered = ap (map Some) all_is ∙ lines_left lines more b.others f.exchanges b.exchanges f.answered b.answered;
      run = run;
      written = cut_after old.written now.written new.written f.exchanges b.exchanges f.on.written b.written;
      kept = λ honest. run_is_logged old.office (f.exchanges ++ b.exchanges) new.office honest run;
      order = (b.broken (frame_at old) f.exchanges f.on).0;
    }

-- the input is answered up to its last LF, and what counts of the rest is held
pub record Serving (old now : Session) (line : List ℕ) (count : ℕ) : Type 0 where
  pub input : List ℕ
  pub read : Consumes old.left now.left input
  pub films : Filmed (ended_lines input) old now
  pub held : line ≡ truncated (unfinished input)
  pub counted : count ≡ min (length (ended_lines input)) (2 ^ 64 - 1)
  pub unended : ¬ HasEnded now.film

pub Serving-start : (old : Session) (film : List Frame) (line : List ℕ) → line ≡ [] → film ≡ frame_at old ∷ [] → Serving old (seen_by old old.left film) line 0
Serving-start old film line none noted = record {
  input = [];
  read = Consumes-nil old.left;
  films = record { exchanges = []; answered = refl; run = refl; on = starts (seen_by old old.left film) noted };
  held = none;
  counted = refl;
  unended = λ ended. no_end_more (frame_at old) [] refl (subst HasEnded noted ended);
}

-- the held text has no LF
pub Serving-clean : (old now : Session) (line : List ℕ) (count : ℕ) → Serving old now line count → HasNoEnd line
Serving-clean old now line count s =
    subst (λ l. HasNoEnd l) (sym s.held) (HasNoEnd-take 121 (unfinished s.input) (unfinished_has_no_end s.input))

-- the read did not fail
abbrev pub HasGiven : FrameKind → Type 0
HasGiven kind = (kind ≢ Asks) × (kind ≢ Failed)

pub gave_bytes : HasGiven Between
gave_bytes = ((λ is. cc), (λ is. cc))

pub gave_none : HasGiven Ended
gave_none = ((λ is. cc), (λ is. cc))

Serving-seen : (old now : Session) (left : Option (List ℕ)) (film : List Frame) (line : List ℕ) (count : ℕ) (s : Serving old now line count) (kind : FrameKind) → HasGiven kind
    → IsRead now left film kind → Filmed (ended_lines s.input) old (seen_by now left film)
Serving-seen old now left film line count s kind given is = record {
  exchanges = s.films.exchanges;
  answered = s.films.answered;
  run = s.films.run;
  on = was_read (frame_at old) s.films.exchanges now (seen_by now left film) kind s.input s.films.on s.read s.films.answered refl refl s.unended given.0 given.1 is;
}

-- the ended lines of an input and a block after it
more_lines : (input line block : List ℕ) → line ≡ truncated (unfinished input) → ended_lines (input ++ block) ≡ ended_lines input ++ ended_lines (line ++ block)
more_lines input line block held =
    let rest = unfinished input in
    let clean = unfinished_has_no_end input in
    ap (map truncated) (ended-append input block) ∙ map-append truncated (ended input) (ended (rest ++ block))
    ∙ ap (λ ls. ended_lines input ++ ls)
    (sym (ap (λ l. ended_lines (l ++ block)) held ∙ ended_lines-truncated (truncated rest) rest block (HasNoEnd-take 121 rest clean) clean (truncated-truncated rest)))

more_rest : (input line block : List ℕ) → line ≡ truncated (unfinished input) → truncated (unfinished (line ++ block)) ≡ truncated (unfinished (input ++ block))
more_rest input line block held =
    let rest = unfinished input in
    let clean = unfinished_has_no_end input in
    ap (λ l. truncated (unfinished (l ++ block))) held ∙ unfinished-truncated (truncated rest) rest block (HasNoEnd-take 121 rest clean) clean (truncated-truncated rest)
    ∙ ap truncated (sym (unfinished-append input block))

-- a block was read and its lines are answered
pub Serving-more : (old now : Session) (left : Option (List ℕ)) (film : List Frame) (new : Session) (line block line' : List ℕ) (count more total : ℕ)
    → Serving old now line count → IsRead now left film Between → Consumes now.left new.left block → TakesBlock (seen_by now left film) line block new line' more
    → total ≡ min (count + more) (2 ^ 64 - 1) → Serving old new line' total
Serving-more old now left film new line block line' count more total s is read b total_is =
    let lines = more_lines s.input line block s.held in
    record {
      input = s.input ++ block;
      read = Consumes-trans old.left now.left new.left s.input block s.read read;
      films = subst (λ ls. Filmed ls old new) (sym lines)
          (Filmed-append old (seen_by now left film) new (ended_lines s.input) (ended_lines (line ++ block)) (Serving-seen old now left film line count s Between gave_bytes is) b.films);
      held = b.left ∙ more_rest s.input line block s.held;
      unended = λ ended. no_end_read _ _ now.film film refl refl is s.unended (b.films.unread.ended.0 ended);
      counted = omega (arith, total_is, s.counted, b.counted, simp length-append at (ap length lines));
    }

-- an answer within a block is incomplete
pub Serving-breaks : (old now : Session) (left : Option (List ℕ)) (film : List Frame) (new : Session) (line block : List ℕ) (count : ℕ)
    → Serving old now line count → IsRead now left film Between → Consumes now.left new.left block → FilmsFront (ended_lines (line ++ block)) (seen_by now left film) new
    → Serves old new (Err faults.Write)
Serving-breaks old now left film new line block count s is read b =
    serves_front old (seen_by now left film) new (s.input ++ block) (ended_lines s.input) (ended_lines (line ++ block)) (ended_lines (s.input ++ block))
    (Consumes-trans old.left now.left new.left s.input block s.read read) (more_lines s.input line block s.held) (inl refl)
    (Serving-seen old now left film line count s Between gave_bytes is) b

-- the last line of the input, from what is held of it
last_held : (input line : List ℕ) → line ≡ truncated (unfinished input) → last_line line ≡ last_line (unfinished input)
last_held input line held = ap last_line held ∙ last_line-truncated (truncated (unfinished input)) (unfinished input) (truncated-truncated (unfinished input))

-- nothing more was read
read_on : (first reader reader' : Option (List ℕ)) (input : List ℕ) → Consumes first reader input → Consumes reader reader' [] → Consumes first reader' input
read_on first reader reader' input before none =
    subst (λ xs. Consumes first reader' xs) (append-nil input) (Consumes-trans first reader reader' input [] before none)

pub Serving-breaks_calm : (old now : Session) (left : Option (List ℕ)) (film : List Frame) (new : Session) (line : List ℕ) (lines : List (List ℕ)) (count : ℕ)
    → Serving old now line count → (kind : FrameKind) → HasGiven kind → IsRead now left film kind → FilmsFront lines (seen_by now left film) new → NoneFailed new.film
Serving-breaks_calm old now left film new line lines count s kind given is b =
    let f = Serving-seen old now left film line count s kind given is in
    (b.broken (frame_at old) f.exchanges f.on).1

-- the answer to the last line is incomplete
pub Serving-last_breaks : (old now : Session) (left : Option (List ℕ)) (film : List Frame) (new : Session) (line : List ℕ) (count : ℕ)
    → Serving old now line count → IsRead now left film Ended → Consumes now.left new.left [] → IsAtEnd new.left → FilmsFront (last_line line) (seen_by now left film) new
    → Serves old new (Err faults.Write)
Serving-last_breaks old now left film new line count s is read at_end b =
    serves_front old (seen_by now left film) new s.input (ended_lines s.input) (last_line line) (lines_of s.input)
    (read_on old.left now.left new.left s.input s.read read) (ap (λ ls. ended_lines s.input ++ ls) (sym (last_held s.input line s.held))) (inr (at_end, refl))
    (Serving-seen old now left film line count s Ended gave_none is) b

-- the last line is answered
pub Serving-last : (old now : Session) (left : Option (List ℕ)) (film : List Frame) (new : Session) (line : List ℕ) (count : ℕ)
    (s : Serving old now line count) → IsRead now left film Ended → FilmsAll (last_line line) (seen_by now left film) new → Filmed (lines_of s.input) old new
Serving-last old now left film new line count s is then =
    subst (λ ls. Filmed (ended_lines s.input ++ ls) old new) (last_held s.input line s.held)
    (Filmed-append old (seen_by now left film) new (ended_lines s.input) (last_line line) (Serving-seen old now left film line count s Ended gave_none is) then)

-- the allowed reads ran out before the input did
pub Serving-stops : (old now : Session) (line : List ℕ) (count : ℕ) → Serving old now line count → Serves old now (Err faults.Turns)
Serving-stops old now line count s =
    serves_all old now s.input (ended_lines s.input) (Err faults.Turns) s.read refl s.films (refl, s.films.on.written) (film_ends (frame_at old) s.films.exchanges now s.films.on)

-- a read failed
pub Serving-fails : (old now : Session) (left : Option (List ℕ)) (film : List Frame) (line : List ℕ) (count : ℕ)
    → Serving old now line count → IsRead now left film Failed → Consumes now.left left [] → Serves old (seen_by now left film) (Err faults.Read)
Serving-fails old now left film line count s is read = record {
  input = s.input;
  read = read_on old.left now.left left s.input s.read read;
  lines = ended_lines s.input;
  due = refl;
  exchanges = s.films.exchanges;
  others = [];
  answered = s.films.answered ∙ sym (append-nil (lines_given s.films.exchanges));
  run = s.films.run;
  written = (refl, s.films.on.written);
  kept = λ honest. run_is_logged old.office s.films.exchanges now.office honest s.films.run;
  order = read_failed (frame_at old) s.films.exchanges now (seen_by now left film) Failed s.input s.films.on s.read s.films.answered refl refl s.unended refl is;
}

-- the input ended and its last line is answered
pub Serving-ends : (old now : Session) (left : Option (List ℕ)) (film : List Frame) (new : Session) (line : List ℕ) (count more total : ℕ)
    → Serving old now line count → IsRead now left film Ended → Consumes now.left new.left [] → IsAtEnd new.left
    → (more ≡ length (last_line line)) × FilmsAll (last_line line) (seen_by now left film) new → total ≡ min (count + more) (2 ^ 64 - 1)
    → Serves old new (Ok total)
Serving-ends old now left film new line count more total s is read at_end (more_is, then) total_is =
    let last = last_held s.input line s.held in
    let all = Serving-last old now left film new line count s is then in
    let counted : total ≡ min (length (lines_of s.input)) (2 ^ 64 - 1)
    = omega (arith, total_is, s.counted, more_is, ap length last, length-append (ended_lines s.input) (last_line (unfinished s.input))) in
    serves_all old new s.input (lines_of s.input) (Ok total) (read_on old.left now.left new.left s.input s.read read)
    (at_end, then.unread.ended.1 (subst HasEnded (sym is) (inl refl)), refl, counted) all (refl, all.on.written) (film_ends (frame_at old) all.exchanges new all.on)

-- keeping all bytes means consuming none
pub Consumes-kept : (a b : Option (List ℕ)) → Keeps a b → Consumes a b []
Consumes-kept None b h = tt
Consumes-kept (Some a) None h = absurd h
Consumes-kept (Some a) (Some b) h = sym h
