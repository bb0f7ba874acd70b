-- A film that is in order, frame by frame.
use Rattle.std.proofs.Common.{◌≡◌, ◌≢◌, ◌<◌, inl, inr, ℕ, List, [], ◌∷◌, ◌++◌, length, map, take, drop, refl, sym, ap, ◌∙◌, subst, arith}
use Rattle.std.proofs.Common.{append_assoc, append-nil, take-append-drop, Option, Some, Result, Err}
use Rattle.std.proofs.KnownBytes.{Appends-nil, Appends-trans}
use Rattle.std.specs.Prelude.{◌↔◌, IsErrOf}
use Rattle.std.specs.Io.KnownBytes.{Appends, Consumes}
use Rattle.zh_film.specs.Frames.{EndsOnce, FailsLast, Frame, HasEnded, InOrder, NoneFailed}
use Rattle.zh_film.specs.declared.kind.FrameKind.{FrameKind}
use Rattle.zh_film.specs.declared.kind.FrameKind.TheVariants.{Asks, Between, Failed}
use Rattle.zh_ledger.specs.Submissions.{OnDisk}
use Rattle.zh_office.specs.declared.answer.Answer.{Answer}
use Rattle.zh_office.specs.Exchanges.{Exchange, disk_by, lines_given, text_of, texts}
use Rattle.zh_office.specs.Exchanges.Given.{line}
use Rattle.zh_office.specs.Filmed.{FilmsAll, FilmsFront, IsOn, frame_as}
use Rattle.zh_office.specs.Office.{Office}
use Rattle.zh_office.specs.Order.{ComesAfter, IsInOrder}
use Rattle.zh_office.specs.Runs.{LineTurn, exchange}
use Rattle.zh_office.specs.Served.{HasFailedRead, Session, frame_at}
use Rattle.zh_office.specs.declared.service.ServeFault.{ServeFault}
use Rattle.zh_office.specs.declared.service.ServeFault.TheVariants as faults
use Rattle.zh_office.specs.Text.{ended_lines}
use Rattle.zh_office.proofs.ExchangeLemmas.{Runs-one, disk-append, texts-append}
use Rattle.zh_office.proofs.FilmReadLemmas.{notes_between, notes_then}

-- two frames between which nothing is carried out or answered
pub rests : (first a b : Frame) (done rest : List Exchange) → Appends first.written a.written (texts done) → a.disk ≡ disk_by first.disk done → b.written ≡ a.written → b.disk ≡ a.disk
    → (a.kind ≢ Asks → b.left ≡ a.left) → (a.kind ≡ Asks → (input : List ℕ) × Consumes first.left a.left input × (map Some (ended_lines input) ≡ lines_given done))
    → ComesAfter (done ++ rest) first a b
rests first a b done rest written disk text still unread answered = record {
  done = done;
  one = [];
  rest = rest;
  parts = refl;
  single = omega arith;
  written = written;
  disk = still ∙ disk ∙ ap (disk_by first.disk) (sym (append-nil done));
  moves = inl (record { still = disk; unwritten = text });
  unread = unread;
  answered = answered;
}

-- a session that is in order is also in order with its last frame
pub over : (first : Frame) (done : List Exchange) (s : Session) → IsOn first done s → (rest : List Exchange) → InOrder (ComesAfter (done ++ rest) first) first s.film (frame_at s)
over first done s on rest =
    subst (λ (l : List Frame). InOrder (ComesAfter (done ++ rest) first) first l (frame_at s)) (sym on.noted)
    (rests first (frame_as on.kind s) (frame_at s) done rest on.written on.disk refl refl (λ is. refl) (λ asks. absurd (on.silent asks)), on.order rest)

-- no read failed, so none but the last one did
fails_last : (fs : List Frame) → NoneFailed fs → FailsLast fs
fails_last [] none = tt
fails_last (f ∷ fs) none = none.1

-- the beginning
pub starts : (s : Session) → s.film ≡ frame_at s ∷ [] → IsOn (frame_at s) [] s
starts s noted = record {
  kind = Between;
  silent = λ is. cc;
  before = [];
  noted = noted;
  calm = subst NoneFailed (sym noted) ((λ is. cc), tt);
  once = subst EndsOnce (sym noted) ((λ asks. absurd cc), tt);
  order = λ rest. rests (frame_at s) (frame_at s) (frame_at s) [] rest (Appends-nil s.written) refl refl refl (λ is. refl) (λ asks. absurd cc);
  written = Appends-nil s.written;
  disk = refl;
}

-- the end
pub film_ends : (first : Frame) (done : List Exchange) (s : Session) → IsOn first done s → IsInOrder done first s.film (frame_at s)
film_ends first done s on = record {
  follow = subst (λ (xs : List Exchange). InOrder (ComesAfter xs first) first s.film (frame_at s)) (append-nil done) (over first done s on []);
  failed = fails_last s.film on.calm;
  ended = on.once;
}

-- something is carried out and noted; then its answer, or a prefix of it, is written
module _ (first : Frame) (done : List Exchange) (old mid new : Session) (x : Exchange) (on : IsOn first done old)
    (left : mid.left ≡ old.left) (unwritten : mid.written ≡ old.written) (disk : mid.office.history.trail ≡ x.disk)
    (left' : new.left ≡ mid.left) (disk' : new.office.history.trail ≡ x.disk) where
  after_it : x.disk ≡ disk_by first.disk (done ++ x ∷ [])
  after_it = sym (disk-append first.disk done (x ∷ []))

  works : (rest : List Exchange) → ComesAfter (done ++ x ∷ rest) first (frame_as on.kind old) (frame_at mid)
  works rest = record {
    done = done;
    one = x ∷ [];
    rest = rest;
    parts = refl;
    single = omega arith;
    written = on.written;
    disk = disk ∙ after_it;
    moves = inl (record { still = on.disk; unwritten = unwritten });
    unread = λ is. left;
    answered = λ asks. absurd (on.silent asks);
  }

  tells : (rest : List Exchange) (text more : List ℕ) → text ++ more ≡ texts (x ∷ []) → Appends mid.written new.written text → ComesAfter (done ++ x ∷ rest) first (frame_at mid) (frame_at new)
  tells rest text more front written = record {
    done = done;
    one = x ∷ [];
    rest = rest;
    parts = refl;
    single = omega arith;
    written = subst (λ (w : Option (List ℕ)). Appends first.written w (texts done)) (sym unwritten) on.written;
    disk = disk' ∙ after_it;
    moves = inr (record { rests = disk ∙ sym disk'; text = text; more = more; front = front; written = written });
    unread = λ is. left';
    answered = λ asks. absurd cc;
  }

  until : (rest : List Exchange) (text more : List ℕ) → text ++ more ≡ texts (x ∷ []) → Appends mid.written new.written text
      → InOrder (ComesAfter (done ++ x ∷ rest) first) first (frame_at mid ∷ old.film) (frame_at new)
  until rest text more front written =
      (tells rest text more front written, subst (λ (l : List Frame). InOrder (ComesAfter (done ++ x ∷ rest) first) first l (frame_at mid)) (sym on.noted) (works rest, on.order (x ∷ rest)))

  pub answered : mid.film ≡ frame_at mid ∷ old.film → new.film ≡ frame_at new ∷ mid.film → Appends mid.written new.written (text_of x) → IsOn first (done ++ x ∷ []) new
  answered noted noted' written =
      let whole : text_of x ++ [] ≡ texts (x ∷ []) = refl in
      let all : new.film ≡ frame_at new ∷ (frame_at mid ∷ old.film) = noted' ∙ ap (λ (l : List Frame). frame_at new ∷ l) noted in
      record {
        kind = Between;
        silent = λ is. cc;
        before = frame_at mid ∷ old.film;
        noted = all;
        calm = subst NoneFailed (sym all) ((λ is. cc), ((λ is. cc), on.calm));
        once = subst EndsOnce (sym all) ((λ asks. absurd cc), ((λ asks. absurd cc), on.once));
        order = λ rest. subst (λ (xs : List Exchange). InOrder (ComesAfter xs first) first (frame_at mid ∷ old.film) (frame_at new)) (sym (append_assoc done (x ∷ []) rest))
            (until rest (text_of x) [] whole written);
        written = subst (Appends first.written new.written) (ap (λ (l : List ℕ). texts done ++ l) (sym (append-nil (text_of x))) ∙ sym (texts-append done (x ∷ [])))
            (Appends-trans first.written old.written new.written (texts done) (text_of x) on.written (subst (λ (w : Option (List ℕ)). Appends w new.written (text_of x)) unwritten written));
        disk = disk' ∙ after_it;
      }

  pub broken : mid.film ≡ frame_at mid ∷ old.film → new.film ≡ mid.film → (front : ℕ) → Appends mid.written new.written (take front (text_of x))
      → IsInOrder (done ++ x ∷ []) first new.film (frame_at new) × NoneFailed new.film
  broken noted same front written =
      let all : new.film ≡ frame_at mid ∷ old.film = same ∙ noted in (
        record {
          follow = subst (λ (l : List Frame). InOrder (ComesAfter (done ++ x ∷ []) first) first l (frame_at new)) (sym all)
              (until [] (take front (text_of x)) (drop front (text_of x)) (take-append-drop front (text_of x) ∙ sym (append-nil (text_of x))) written);
          failed = subst FailsLast (sym all) on.calm;
          ended = subst EndsOnce (sym all) ((λ asks. absurd cc), on.once);
        },
        subst NoneFailed (sym all) ((λ is. cc), on.calm),
      )

-- a line is answered, whatever happened before
module _ (bytes : List ℕ) (answer : Answer) (old mid new : Session) (turn : LineTurn old.office bytes answer new.office) where
  abbrev x : Exchange
  x = exchange old.office (line bytes turn.reading) answer new.office

  pub films_answer : mid.left ≡ old.left → mid.written ≡ old.written → mid.office.history.trail ≡ x.disk → new.left ≡ mid.left
      → mid.film ≡ frame_at mid ∷ old.film → new.film ≡ frame_at new ∷ mid.film → Appends mid.written new.written (text_of x) → FilmsAll (bytes ∷ []) old new
  films_answer left unwritten disk left' noted noted' written = record {
    exchanges = x ∷ [];
    answered = refl;
    run = Runs-one old.office new.office x turn.turn;
    written = subst (λ (w : Option (List ℕ)). Appends w new.written (texts (x ∷ []))) unwritten (subst (Appends mid.written new.written) (sym (append-nil (text_of x))) written);
    unread = notes_then old.film mid.film new.film (notes_between (frame_at mid) old.film mid.film refl noted) (notes_between (frame_at new) mid.film new.film refl noted');
    on = λ first done on. answered first done old mid new x on left unwritten disk left' refl noted noted' written;
  }

  pub films_front : mid.left ≡ old.left → mid.written ≡ old.written → mid.office.history.trail ≡ x.disk → new.left ≡ mid.left
      → mid.film ≡ frame_at mid ∷ old.film → new.film ≡ mid.film → (front : ℕ) → front < length (text_of x) → Appends mid.written new.written (take front (text_of x))
      → FilmsFront (bytes ∷ []) old new
  films_front left unwritten disk left' noted same front part written = record {
    exchanges = x ∷ [];
    others = [];
    answered = refl;
    run = Runs-one old.office new.office x turn.turn;
    written = record {
      whole = [];
      last = x;
      all = refl;
      front = front;
      part = part;
      written = subst (λ (w : Option (List ℕ)). Appends w new.written (take front (text_of x))) unwritten written;
    };
    unread = notes_between (frame_at mid) old.film new.film refl (same ∙ noted);
    broken = λ first done on. broken first done old mid new x on left unwritten disk left' refl noted same front written;
  }

-- a read is made and noted
module _ (first : Frame) (done : List Exchange) (old new : Session) (kind : FrameKind) (input : List ℕ) (on : IsOn first done old)
    (taken : Consumes first.left old.left input) (lines : map Some (ended_lines input) ≡ lines_given done)
    (written : new.written ≡ old.written) (disk : new.office ≡ old.office) (unended : ¬ HasEnded old.film) where
  abbrev asking : Frame
  asking = record { kind = Asks; left = old.left; written = old.written; disk = old.office.history.trail }

  abbrev then : Frame
  then = record { kind = kind; left = new.left; written = new.written; disk = new.office.history.trail }

  trail : new.office.history.trail ≡ old.office.history.trail
  trail = ap (λ (o : OnDisk Office). o.history.trail) disk

  asks : (rest : List Exchange) → ComesAfter (done ++ rest) first (frame_as on.kind old) asking
  asks rest = rests first (frame_as on.kind old) asking done rest on.written on.disk refl refl (λ is. refl) (λ asks. absurd (on.silent asks))

  takes : (rest : List Exchange) → ComesAfter (done ++ rest) first asking then
  takes rest = rests first asking then done rest on.written on.disk written trail (λ other. absurd (other refl)) (λ is. (input, taken, lines))

  until_read : (rest : List Exchange) → InOrder (ComesAfter (done ++ rest) first) first (asking ∷ old.film) then
  until_read rest = (takes rest, subst (λ (l : List Frame). InOrder (ComesAfter (done ++ rest) first) first l asking) (sym on.noted) (asks rest, on.order rest))

  -- the end is met once: no read before this one gave no byte
  asks_once : kind ≢ Asks → EndsOnce (then ∷ (asking ∷ old.film))
  asks_once silent = ((λ asks. absurd (silent asks)), ((λ asks. unended), on.once))

  pub was_read : kind ≢ Asks → kind ≢ Failed → new.film ≡ then ∷ (asking ∷ old.film) → IsOn first done new
  was_read silent calm noted = record {
    kind = kind;
    silent = silent;
    before = asking ∷ old.film;
    noted = noted;
    calm = subst NoneFailed (sym noted) (calm, ((λ is. cc), on.calm));
    once = subst EndsOnce (sym noted) (asks_once silent);
    order = until_read;
    written = subst (λ (w : Option (List ℕ)). Appends first.written w (texts done)) (sym written) on.written;
    disk = trail ∙ on.disk;
  }

  pub read_failed : kind ≡ Failed → new.film ≡ then ∷ (asking ∷ old.film) → IsInOrder done first new.film (frame_at new)
  read_failed failed noted = record {
    follow = subst (λ (xs : List Exchange). InOrder (ComesAfter xs first) first new.film (frame_at new)) (append-nil done)
        (subst (λ (l : List Frame). InOrder (ComesAfter (done ++ []) first) first l (frame_at new)) (sym noted) (
          rests first then (frame_at new) done [] (subst (λ (w : Option (List ℕ)). Appends first.written w (texts done)) (sym written) on.written) (trail ∙ on.disk) refl refl (λ is. refl)
              (λ asked. let wrong : Failed ≡ Asks = sym failed ∙ asked in absurd cc),
          until_read [],
        ));
    failed = subst FailsLast (sym noted) ((λ is. cc), on.calm);
    ended = subst EndsOnce (sym noted) (asks_once (λ asks. let wrong : Failed ≡ Asks = sym failed ∙ asks in absurd cc));
  }

-- if no read failed, and the result is not a failed read, they agree
pub unfailed : (film : List Frame) (result : Result ℕ ServeFault) → NoneFailed film → (result ≡ Err faults.Read → ⊥) → HasFailedRead film ↔ IsErrOf result faults.Read
unfailed [] result none other = ((λ no. absurd no), (λ is. absurd (other is)))
unfailed (f ∷ fs) result none other = ((λ failed. absurd (none.0 failed)), (λ is. absurd (other is)))

-- the same if the result is a failed write
pub unfailed_write : (film : List Frame) (result : Result ℕ ServeFault) → NoneFailed film → result ≡ Err faults.Write → HasFailedRead film ↔ IsErrOf result faults.Read
unfailed_write film result none is = unfailed film result none (λ other. let wrong : Err faults.Write ≡ Err faults.Read = sym is ∙ other in absurd cc)
