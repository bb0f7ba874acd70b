-- Answering the lines of a block one by one.
use Rattle.std.proofs.Common.{◌≡◌, ℕ, ◌+◌, ◌≤◌, ◌<◌, List, [], ◌∷◌, ◌++◌, map, take, length, refl, sym, ap, ◌∙◌, subst, arith, append_assoc, Option, Some, length-append}
use Rattle.std.proofs.KnownBytes.{Appends-nil, Appends-trans}
use Rattle.std.proofs.lemmas.List.{append-nil, map-append, take_all}
use Rattle.std.specs.Io.KnownBytes.{Appends}
use Rattle.zh_office.specs.Exchanges.{Exchange, IsCutShort, lines_given, text_of, texts}
use Rattle.zh_office.specs.Filmed.{FilmsAll, FilmsFront, IsOn, TakesBlock}
use Rattle.zh_office.specs.Order.{IsInOrder}
use Rattle.zh_office.specs.Served.{Session, frame_at}
use Rattle.zh_office.specs.Text.{HasNoEnd, unfinished, truncated, ended_lines, last_line}
use Rattle.zh_office.proofs.ExchangeLemmas.{Runs-append, lines-append, texts-append}
use Rattle.zh_office.proofs.FilmReadLemmas.{notes_none, notes_then}
use Rattle.zh_office.proofs.TextLemmas.{ended_none, ended_first, unfinished_all, unfinished_first, HasNoEnd-append}

-- the lines of exchanges, and of others after them, of which some lines are left over
pub lines_after : (lines more : List (List ℕ)) (xs ys : List Exchange) → map Some lines ≡ lines_given xs → map Some more ≡ lines_given ys → map Some (lines ++ more) ≡ lines_given (xs ++ ys)
lines_after lines more xs ys first then =
    map-append Some lines more ∙ ap (λ (l : List (Option (List ℕ))). l ++ map Some more) first ∙ ap (λ (l : List (Option (List ℕ))). lines_given xs ++ l) then ∙ sym (lines-append xs ys)

pub lines_left : (lines more left : List (List ℕ)) (xs ys : List Exchange) → map Some lines ≡ lines_given xs → map Some more ≡ lines_given ys ++ map Some left
    → map Some (lines ++ more) ≡ lines_given (xs ++ ys) ++ map Some left
lines_left lines more left xs ys first then =
    map-append Some lines more ∙ ap (λ (l : List (Option (List ℕ))). l ++ map Some more) first ∙ ap (λ (l : List (Option (List ℕ))). lines_given xs ++ l) then
    ∙ sym (append_assoc (lines_given xs) (lines_given ys) (map Some left)) ∙ ap (λ (l : List (Option (List ℕ))). l ++ map Some left) (sym (lines-append xs ys))

-- whole answers, then answers of which the last is cut short
pub cut_after : (a b c : Option (List ℕ)) (xs ys : List Exchange) → Appends a b (texts xs) → IsCutShort b c ys → IsCutShort a c (xs ++ ys)
cut_after a b c xs ys first cut =
    let part = take cut.front (text_of cut.last) in
    let same : texts (xs ++ cut.whole) ++ part ≡ texts xs ++ (texts cut.whole ++ part)
    = ap (λ (l : List ℕ). l ++ part) (texts-append xs cut.whole) ∙ append_assoc (texts xs) (texts cut.whole) part in
    record {
      whole = xs ++ cut.whole;
      last = cut.last;
      all = ap (λ (l : List Exchange). xs ++ l) cut.all ∙ sym (append_assoc xs cut.whole (cut.last ∷ []));
      front = cut.front;
      part = cut.part;
      written = subst (Appends a c) (sym same) (Appends-trans a b c (texts xs) (texts cut.whole ++ part) first cut.written);
    }

-- no line is answered
pub FilmsAll-none : (now : Session) → FilmsAll [] now now
FilmsAll-none now = record {
  exchanges = [];
  answered = refl;
  run = refl;
  written = Appends-nil now.written;
  unread = notes_none now.film;
  on = λ first done on. subst (λ (xs : List Exchange). IsOn first xs now) (sym (append-nil done)) on;
}

-- some lines are answered, then others
pub FilmsAll-append : (old now new : Session) (lines more : List (List ℕ)) → FilmsAll lines old now → FilmsAll more now new → FilmsAll (lines ++ more) old new
FilmsAll-append old now new lines more a b = record {
  exchanges = a.exchanges ++ b.exchanges;
  answered = lines_after lines more a.exchanges b.exchanges a.answered b.answered;
  run = Runs-append old.office now.office new.office a.exchanges b.exchanges a.run b.run;
  written = subst (Appends old.written new.written) (sym (texts-append a.exchanges b.exchanges))
      (Appends-trans old.written now.written new.written (texts a.exchanges) (texts b.exchanges) a.written b.written);
  unread = notes_then old.film now.film new.film a.unread b.unread;
  on = λ first done on.
      subst (λ (xs : List Exchange). IsOn first xs new) (append_assoc done a.exchanges b.exchanges) (b.on first (done ++ a.exchanges) (a.on first done on));
}

-- the same if the last of the others has an incomplete answer
FilmsFront-after : (old now new : Session) (lines more : List (List ℕ)) → FilmsAll lines old now → FilmsFront more now new → FilmsFront (lines ++ more) old new
FilmsFront-after old now new lines more a b = record {
  exchanges = a.exchanges ++ b.exchanges;
  others = b.others;
  answered = lines_left lines more b.others a.exchanges b.exchanges a.answered b.answered;
  run = Runs-append old.office now.office new.office a.exchanges b.exchanges a.run b.run;
  written = cut_after old.written now.written new.written a.exchanges b.exchanges a.written b.written;
  unread = notes_then old.film now.film new.film a.unread b.unread;
  broken = λ first done on.
      let then = b.broken first (done ++ a.exchanges) (a.on first done on) in
      (subst (λ (xs : List Exchange). IsInOrder xs first new.film (frame_at new)) (append_assoc done a.exchanges b.exchanges) then.0, then.1);
}

-- and if further lines are left over
FilmsFront-more : (old new : Session) (lines others : List (List ℕ)) → FilmsFront lines old new → FilmsFront (lines ++ others) old new
FilmsFront-more old new lines others b = record {
  exchanges = b.exchanges;
  others = b.others ++ others;
  answered = map-append Some lines others ∙ ap (λ (l : List (Option (List ℕ))). l ++ map Some others) b.answered
      ∙ append_assoc (lines_given b.exchanges) (map Some b.others) (map Some others) ∙ ap (λ (l : List (Option (List ℕ))). lines_given b.exchanges ++ l) (sym (map-append Some b.others others));
  run = b.run;
  written = b.written;
  unread = b.unread;
  broken = b.broken;
}

-- some of these lines are answered; the held line and the rest of the block give the other lines and the unfinished text after them
pub record Progress (old now : Session) (all : List (List ℕ)) (end line rest : List ℕ) (count : ℕ) : Type 0 where
  pub answered : List (List ℕ)
  pub films : FilmsAll answered old now
  pub lines : all ≡ answered ++ ended_lines (line ++ rest)
  pub left : truncated (unfinished (line ++ rest)) ≡ end
  pub counted : count ≡ length answered
  pub clean : HasNoEnd line

-- the start, before the first line
pub Progress-start : (old : Session) (line block : List ℕ) → HasNoEnd line → Progress old old (ended_lines (line ++ block)) (truncated (unfinished (line ++ block))) line block 0
Progress-start old line block clean = record {
  answered = [];
  films = FilmsAll-none old;
  lines = refl;
  left = refl;
  counted = refl;
  clean = clean;
}

-- the next line that the rest of the block ends
next_line : (line part others rest : List ℕ) → HasNoEnd line → HasNoEnd part → rest ≡ part ++ 10 ∷ others → ended_lines (line ++ rest) ≡ truncated (line ++ part) ∷ ended_lines others
next_line line part others rest clean part_clean rest_is =
    ap (λ xs. ended_lines (line ++ xs)) rest_is ∙ ap ended_lines (sym (append_assoc line part (10 ∷ others)))
    ∙ ap (map truncated) (ended_first (line ++ part) others (HasNoEnd-append line part clean part_clean))

after_line : (line part others rest : List ℕ) → HasNoEnd line → HasNoEnd part → rest ≡ part ++ 10 ∷ others → truncated (unfinished (line ++ rest)) ≡ truncated (unfinished others)
after_line line part others rest clean part_clean rest_is =
    ap (λ xs. truncated (unfinished (line ++ xs))) rest_is ∙ ap (λ xs. truncated (unfinished xs)) (sym (append_assoc line part (10 ∷ others)))
    ∙ ap truncated (unfinished_first (line ++ part) others (HasNoEnd-append line part clean part_clean))

-- the next line is answered
pub Progress-answered : (old now new : Session) (all : List (List ℕ)) (end line rest part others bytes : List ℕ) (count : ℕ)
    → Progress old now all end line rest count → HasNoEnd part → rest ≡ part ++ 10 ∷ others → bytes ≡ truncated (line ++ part)
    → FilmsAll (bytes ∷ []) now new → Progress old new all end [] others (count + 1)
Progress-answered old now new all end line rest part others bytes count p part_clean rest_is bytes_are films = record {
  answered = p.answered ++ bytes ∷ [];
  films = FilmsAll-append old now new p.answered (bytes ∷ []) p.films films;
  lines = p.lines ∙ ap (λ ls. p.answered ++ ls) (next_line line part others rest p.clean part_clean rest_is)
      ∙ ap (λ (b : List ℕ). p.answered ++ b ∷ ended_lines others) (sym bytes_are) ∙ sym (append_assoc p.answered (bytes ∷ []) (ended_lines others));
  left = sym (after_line line part others rest p.clean part_clean rest_is) ∙ p.left;
  counted = omega (arith, p.counted, length-append p.answered (bytes ∷ []));
  clean = refl;
}

-- the answer to the next line is incomplete
pub Progress-failed : (old now new : Session) (all : List (List ℕ)) (end line rest part others bytes : List ℕ) (count : ℕ)
    → Progress old now all end line rest count → HasNoEnd part → rest ≡ part ++ 10 ∷ others → bytes ≡ truncated (line ++ part)
    → FilmsFront (bytes ∷ []) now new → FilmsFront all old new
Progress-failed old now new all end line rest part others bytes count p part_clean rest_is bytes_are films =
    let lines : all ≡ p.answered ++ bytes ∷ ended_lines others
    = p.lines ∙ ap (λ ls. p.answered ++ ls) (next_line line part others rest p.clean part_clean rest_is) ∙ ap (λ (b : List ℕ). p.answered ++ b ∷ ended_lines others) (sym bytes_are) in
    subst (λ (ls : List (List ℕ)). FilmsFront ls old new) (sym lines)
    (FilmsFront-after old now new p.answered (bytes ∷ ended_lines others) p.films (FilmsFront-more now new (bytes ∷ []) (ended_lines others) films))

-- a nonempty last line of at most 121 bytes counts whole
pub last_line_is : (line : List ℕ) → 0 < length line → length line ≤ 121 → last_line line ≡ line ∷ []
last_line_is [] some fits = absurd (omega arith)
last_line_is (byte ∷ line) some fits = ap (λ l. l ∷ []) (take_all 121 (byte ∷ line) fits)

-- there is no last line
pub last_none : (old : Session) (line : List ℕ) → length line ≡ 0 → (0 ≡ length (last_line line)) × FilmsAll (last_line line) old old
last_none old [] none = (refl, FilmsAll-none old)
last_none old (byte ∷ line) none = absurd (omega (arith, none))

-- the bytes of the last line are answered, or their answer is incomplete
last_bytes : (line bytes : List ℕ) → 0 < length line → length line ≤ 121 → bytes ≡ line → bytes ∷ [] ≡ last_line line
last_bytes line bytes some fits is = ap (λ (b : List ℕ). b ∷ []) is ∙ sym (last_line_is line some fits)

pub last_failed : (old new : Session) (line bytes : List ℕ) → 0 < length line → length line ≤ 121 → bytes ≡ line
    → FilmsFront (bytes ∷ []) old new → FilmsFront (last_line line) old new
last_failed old new line bytes some fits is films = subst (λ (ls : List (List ℕ)). FilmsFront ls old new) (last_bytes line bytes some fits is) films

pub last_answered : (old new : Session) (line bytes : List ℕ) → 0 < length line → length line ≤ 121 → bytes ≡ line
    → FilmsAll (bytes ∷ []) old new → (1 ≡ length (last_line line)) × FilmsAll (last_line line) old new
last_answered old new line bytes some fits is films =
    subst (λ (ls : List (List ℕ)). (1 ≡ length ls) × FilmsAll ls old new) (last_bytes line bytes some fits is) (refl, films)

-- no line ends in the rest
pub Progress-end : (old now : Session) (line block part rest : List ℕ) (count : ℕ)
    → Progress old now (ended_lines (line ++ block)) (truncated (unfinished (line ++ block))) part rest count → HasNoEnd rest
    → TakesBlock old line block now (truncated (part ++ rest)) count
Progress-end old now line block part rest count p rest_clean =
    let clean = HasNoEnd-append part rest p.clean rest_clean in
    let all : ended_lines (line ++ block) ≡ p.answered = p.lines ∙ ap (λ ls. p.answered ++ map truncated ls) (ended_none (part ++ rest) clean) ∙ append-nil p.answered in
    record {
      films = subst (λ ls. FilmsAll ls old now) (sym all) p.films;
      left = ap truncated (sym (unfinished_all (part ++ rest) clean)) ∙ p.left;
      counted = p.counted ∙ ap length (sym all);
    }
