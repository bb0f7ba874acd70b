-- The exchanges of a conversation that is in order. The order can be stated by the number of exchanges that are answered.
use Rattle.std.proofs.Common.{◌≡◌, ◌≤◌, ◌⊎◌, ◌+◌, ℕ, List, [], ◌∷◌, ◌++◌, length, take, Option}
use Rattle.std.proofs.Common.{inl, inr, ⊎_elim, refl, sym, ◌∙◌, ap, subst, arith, append_assoc, length-append}
use Rattle.std.proofs.Math.Seq.{take-append-add, take-append_seam, take-length}
use Rattle.std.proofs.lemmas.List.{append-nil}
use Rattle.std.proofs.lemmas.List.Concat.{flat_map-append}
use Rattle.std.specs.Prelude.{flat_map}
use Rattle.std.specs.Io.KnownBytes.{Appends}
use Rattle.std.proofs.KnownBytes.{Appends-trans}
use Rattle.zh_disk.specs.Disk.{IsImage, Trail}
use Rattle.zh_film.specs.Frames.{Frame, InOrder}
use Rattle.zh_returns.specs.declared.command.Command.{Command}
use Rattle.zh_returns.specs.Tally.{Tally}
use Rattle.zh_ledger.specs.Images.{HasSome}
use Rattle.zh_ledger.specs.Submissions.{Log}
use Rattle.zh_office.specs.Order.{ComesAfter, IsDone, IsTold as IsWritten}
use Rattle.zh_office.specs.Exchanges.{Exchange, disk_by, lines_given, log_of, text_of}
use Rattle.zh_office.proofs.CallerLemmas.{disk-append, log_append}
use Rattle.zh_program.specs.Order.{AnswersBeforeReading, Conversation, KeepsWhatIsTold, Throughout}
use Rattle.zh_program.specs.Stopped.{Always}
use Rattle.zh_program.proofs.AlwaysLemmas.{always_same}
use Rattle.zh_program.proofs.SoundLemmas.{has_front}
use Rattle.zh_program.proofs.TurnLemmas.{AreTurns, at_any, at_one}

-- The conversation consists of these exchanges, in order.
abbrev pub IsTold : List Exchange → Conversation → Type 0
IsTold xs talk = Throughout (ComesAfter xs) talk

module _ (xs : List Exchange) (first a b : Frame) (by : ComesAfter xs first a b) where
  seam : take (length by.done) xs ≡ by.done
  seam = ap (take (length by.done)) by.parts ∙ take-append_seam by.done (by.one ++ by.rest)

  answered : Appends first.written a.written (flat_map text_of (take (length by.done) xs))
  answered = subst (λ (d : List Exchange). Appends first.written a.written (flat_map text_of d)) (sym seam) by.written

  -- A read comes after all lines are answered.
  pub before_reading : AnswersBeforeReading xs first a b
  before_reading = record {
    reads = λ asks.
        let all = by.answered asks in
        record { input = all.0; read = all.1; replied = length by.done; lines = ap lines_given seam ∙ sym all.2; written = answered };
    unread = by.unread;
  }

-- The length of a prefix with at most one exchange more.
one_or_none : (done one : List Exchange) → length one ≤ 1 → (length (done ++ one) ≡ length done) ⊎ (length (done ++ one) ≡ length done + 1)
one_or_none done [] single = inl (ap length (append-nil done))
one_or_none done (x ∷ []) single = inr (omega (arith, length-append done (x ∷ [])))
one_or_none done (x ∷ (y ∷ more)) single = absurd (omega (arith, single))

next_part : (xs done one rest : List Exchange) → xs ≡ done ++ (one ++ rest) → length one ≤ 1 → (more : List Exchange) × (take (length done + 1) xs ≡ (done ++ one) ++ more)
next_part xs done [] rest parts single =
    (take 1 rest, ap (take (length done + 1)) parts ∙ take-append-add done rest 1 ∙ ap (λ (l : List Exchange). l ++ take 1 rest) (sym (append-nil done)))
next_part xs done (x ∷ []) rest parts single = ([], ap (take (length done + 1)) parts ∙ take-append-add done (x ∷ rest) 1 ∙ sym (append-nil (done ++ x ∷ [])))
next_part xs done (x ∷ (y ∷ more)) rest parts single = absurd (omega (arith, single))

-- What each moment of the disk contains.
module _ (tally : Tally) (first : Frame) (xs : List Exchange) (turns : AreTurns tally first.disk [] xs) (a b : Frame) where
  -- An image with some of the commands accepted by then has some of those accepted one exchange later.
  has_next : (done one rest : List Exchange) → xs ≡ done ++ (one ++ rest) → length one ≤ 1 → (least : ℕ) (c : List ℕ)
      → HasSome tally (log_of (done ++ one)).accepted least c
      → HasSome tally (log_of (take (length done + 1) xs)).accepted least c
  has_next done one rest parts single least c some =
      let next = next_part xs done one rest parts single in
      let logs : (log_of (take (length done + 1) xs)).accepted ≡ (log_of (done ++ one)).accepted ++ (log_of next.0).accepted
      = ap (λ (l : List Exchange). (log_of l).accepted) next.1 ∙ ap (λ (l : Log). l.accepted) (log_append (done ++ one) next.0) in
      subst (λ (cs : List Command). HasSome tally cs least c) (sym logs) (has_front tally (log_of (done ++ one)).accepted (log_of next.0).accepted least c some)

  -- While the disk works on at most one more exchange.
  at_work : (done one rest : List Exchange) → xs ≡ done ++ (one ++ rest) → length one ≤ 1
      → b.disk ≡ disk_by first.disk (done ++ one)
      → a.disk ≡ disk_by first.disk done
      → Always (HasSome tally (log_of (take (length done + 1) xs)).accepted (log_of done).acknowledged) a.disk b.disk
  at_work done [] rest parts single disk still =
      let same : b.disk ≡ a.disk = disk ∙ ap (disk_by first.disk) (append-nil done) ∙ sym still in
      let rested = at_any tally first.disk [] done rest xs turns parts in
      always_same (HasSome tally (log_of (take (length done + 1) xs)).accepted (log_of done).acknowledged) a.disk b.disk same
      (λ c image. has_next done [] rest parts single (log_of done).acknowledged c
      (subst (λ (d : List Exchange). HasSome tally (log_of d).accepted (log_of done).acknowledged c) (sym (append-nil done))
      (rested c (subst (λ (t : Trail). IsImage t.now c) still image))))
  at_work done (x ∷ []) rest parts single disk still =
      let P = HasSome tally (log_of (done ++ x ∷ [])).accepted (log_of done).acknowledged in
      let stopped = (at_one tally first.disk [] done rest x xs turns parts).stopped in
      let next : take (length done + 1) xs ≡ done ++ x ∷ [] = ap (take (length done + 1)) parts ∙ take-append-add done (x ∷ rest) 1 in
      subst (λ (l : List Exchange). Always (HasSome tally (log_of l).accepted (log_of done).acknowledged) a.disk b.disk) (sym next)
      (subst (λ (t : Trail). Always P t b.disk) (sym still) (subst (Always P (disk_by first.disk done)) (sym (disk ∙ disk-append first.disk done (x ∷ []))) stopped))
  at_work done (x ∷ (y ∷ more)) rest parts single disk still = absurd (omega (arith, single))

  -- While an answer is written.
  at_rest_of : (done one rest : List Exchange) → xs ≡ done ++ (one ++ rest) → length one ≤ 1
      → b.disk ≡ disk_by first.disk (done ++ one)
      → a.disk ≡ b.disk
      → Always (HasSome tally (log_of (take (length done + 1) xs)).accepted (log_of (done ++ one)).acknowledged) a.disk b.disk
  at_rest_of done one rest parts single disk rests =
      let rested = at_any tally first.disk [] (done ++ one) rest xs turns (parts ∙ sym (append_assoc done one rest)) in
      always_same (HasSome tally (log_of (take (length done + 1) xs)).accepted (log_of (done ++ one)).acknowledged) a.disk b.disk (sym rests)
      (λ c image. has_next done one rest parts single (log_of (done ++ one)).acknowledged c (rested c (subst (λ (t : Trail). IsImage t.now c) (rests ∙ disk) image)))

  module _ (by : ComesAfter xs first a b) where
    -- Nothing is written.
    keeps_done : IsDone (disk_by first.disk by.done) a b → KeepsWhatIsTold tally xs first a b
    keeps_done w =
        let all = flat_map text_of (take (length by.done) xs) in
        record {
          replied = length by.done;
          answered = answered xs first a b by;
          told = length by.done;
          one_more = inl refl;
          front = length all;
          written = subst (Appends first.written b.written) (sym (take-length all)) (subst (λ (o : Option (List ℕ)). Appends first.written o all) (sym w.unwritten) (answered xs first a b by));
          kept = subst (λ (d : List Exchange). Always (HasSome tally (log_of (take (length by.done + 1) xs)).accepted (log_of d).acknowledged) a.disk b.disk) (sym (seam xs first a b by))
              (at_work by.done by.one by.rest by.parts by.single by.disk w.still);
        }

    -- A prefix of an answer is written.
    keeps_told : IsWritten (flat_map text_of by.one) a b → KeepsWhatIsTold tally xs first a b
    keeps_told w =
        let both : take (length (by.done ++ by.one)) xs ≡ by.done ++ by.one
        = ap (take (length (by.done ++ by.one))) (by.parts ∙ sym (append_assoc by.done by.one by.rest)) ∙ take-append_seam (by.done ++ by.one) by.rest in
        let before = flat_map text_of by.done in
        let written = before ++ w.text in
        let whole : flat_map text_of (take (length (by.done ++ by.one)) xs) ≡ written ++ w.more
        = ap (flat_map text_of) both ∙ flat_map-append text_of by.done by.one
        ∙ ap (λ (l : List ℕ). before ++ l) (sym w.front) ∙ sym (append_assoc before w.text w.more) in
        record {
          replied = length by.done;
          answered = answered xs first a b by;
          told = length (by.done ++ by.one);
          one_more = one_or_none by.done by.one by.single;
          front = length written;
          written = subst (Appends first.written b.written) (sym (ap (take (length written)) whole ∙ take-append_seam written w.more))
              (Appends-trans first.written a.written b.written (flat_map text_of by.done) w.text by.written w.written);
          kept = subst (λ (d : List Exchange). Always (HasSome tally (log_of (take (length by.done + 1) xs)).accepted (log_of d).acknowledged) a.disk b.disk) (sym both)
              (at_rest_of by.done by.one by.rest by.parts by.single by.disk w.rests);
        }

    keeps : KeepsWhatIsTold tally xs first a b
    keeps = ⊎_elim (λ (w : IsDone (disk_by first.disk by.done) a b). keeps_done w) (λ (w : IsWritten (flat_map text_of by.one) a b). keeps_told w) by.moves

in_order_map : (P Q : Frame → Frame → Type 0) → ((a b : Frame) → P a b → Q a b) → (first : Frame) (film : List Frame) (last : Frame)
    → InOrder P first film last
    → InOrder Q first film last
in_order_map P Q so first [] last order = so first last order
in_order_map P Q so first (f ∷ film) last order = (so f last order.0, in_order_map P Q so first film f order.1)

pub awaited_of : (talk : Conversation) (xs : List Exchange) → IsTold xs talk → Throughout (AnswersBeforeReading xs) talk
awaited_of talk xs told =
    in_order_map (ComesAfter xs talk.first) (AnswersBeforeReading xs talk.first) (λ a b by. before_reading xs talk.first a b by) talk.first talk.noted talk.last told

pub order_of : (tally : Tally) (talk : Conversation) (xs : List Exchange) → AreTurns tally talk.first.disk [] xs → IsTold xs talk
    → Throughout (λ first a b. KeepsWhatIsTold tally xs first a b × AnswersBeforeReading xs first a b) talk
order_of tally talk xs turns told =
    in_order_map (ComesAfter xs talk.first) (λ a b. KeepsWhatIsTold tally xs talk.first a b × AnswersBeforeReading xs talk.first a b)
    (λ a b by. (keeps tally talk.first xs turns a b by, before_reading xs talk.first a b by)) talk.first talk.noted talk.last told
