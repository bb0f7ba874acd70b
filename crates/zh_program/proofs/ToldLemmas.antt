-- What the order excludes. The output by a time determines which exchanges are answered by then, and so how many commands each
-- image must and may have.
use Rattle.std.proofs.Common.{◌≡◌, ◌≢◌, ◌⊎◌, ◌<◌, ◌≤◌, ◌+◌, ℕ, List, [], ◌∷◌, ◌++◌, map, length, drop, take, Option, None, Some}
use Rattle.std.proofs.Common.{inl, inr, ⊎_elim, sym, ◌∙◌, ap, subst, arith, append_assoc, append-nil, length-append, length-take}
use Rattle.std.specs.Prelude.{flat_map}
use Rattle.std.specs.Io.KnownBytes.{Appends, Consumes}
use Rattle.std.proofs.Math.Seq.{take-add}
use Rattle.std.proofs.lemmas.List.{append_cancel_left, append_cancel_right, length-map, nil_from_length, take-append-drop}
use Rattle.zh_disk.specs.Disk.{Trail}
use Rattle.zh_film.specs.Frames.{Frame, InOrder}
use Rattle.zh_film.specs.declared.kind.FrameKind.TheVariants.{Asks}
use Rattle.zh_returns.specs.Tally.{Tally}
use Rattle.zh_ledger.specs.Images.{HasSome}
use Rattle.zh_ledger.specs.Night.{StopsWithin}
use Rattle.zh_office.specs.Text.{ended_lines}
use Rattle.zh_office.specs.Exchanges.{Exchange, line_in, log_of, text_of}
use Rattle.zh_program.specs.Headline.{Headline}
use Rattle.zh_program.specs.Order.{AnswersBeforeReading, AreNext, Conversation, KeepsWhatIsTold}
use Rattle.zh_program.specs.Stopped.{Always}
use Rattle.zh_program.proofs.ExcludeLemmas.{HoldsAfter, always_at, same_length}
use Rattle.zh_program.proofs.FrontLemmas.{logs_more, one_more, two_parts}

-- Consecutive times are in order.
next_by : (P : Frame → Frame → Type 0) (first : Frame) (film : List Frame) (now : Frame) → InOrder P first film now
    → (a b : Frame) (newer older : List Frame) → now ∷ (film ++ first ∷ []) ≡ newer ++ b ∷ (a ∷ older) → P a b
next_by P first [] now order a b [] older is =
    let to : now ≡ b = cc in
    let from : first ≡ a = cc in
    subst (λ (x : Frame). P x b) from (subst (P first) to order)
next_by P first [] now order a b (n ∷ []) older is = absurd (cc)
next_by P first [] now order a b (n ∷ (m ∷ [])) older is = absurd (cc)
next_by P first [] now order a b (n ∷ (m ∷ (o ∷ more))) older is = absurd (cc)
next_by P first (f ∷ film) now order a b [] older is =
    let to : now ≡ b = cc in
    let from : f ≡ a = cc in
    subst (λ (x : Frame). P x b) from (subst (P f) to order.0)
next_by P first (f ∷ film) now order a b (n ∷ more) older is =
    let tail : f ∷ (film ++ first ∷ []) ≡ more ++ b ∷ (a ∷ older) = cc in
    next_by P first film f order.1 a b more older tail

-- The bytes of an exchange's line.
abbrev line_in_exchange : Exchange → Option (List ℕ)
line_in_exchange x = line_in x.given

-- What is appended to known bytes, or taken from them.
appended : (before more other : List ℕ) (old new : Option (List ℕ)) → old ≡ Some before → new ≡ Some (before ++ more)
    → Appends old new other
    → other ≡ more
appended before more other old new was is a =
    let to : Appends old (Some (before ++ more)) other = subst (λ (n : Option (List ℕ)). Appends old n other) is a in
    let known : before ++ more ≡ before ++ other = subst (λ (o : Option (List ℕ)). Appends o (Some (before ++ more)) other) was to in
    sym (append_cancel_left before more other known)

consumed : (input left other : List ℕ) (old new : Option (List ℕ)) → old ≡ Some (input ++ left) → new ≡ Some left
    → Consumes old new other
    → other ≡ input
consumed input left other old new was is a =
    let to : Consumes old (Some left) other = subst (λ (n : Option (List ℕ)). Consumes old n other) is a in
    let known : input ++ left ≡ other ++ left = subst (λ (o : Option (List ℕ)). Consumes o (Some left) other) was to in
    sym (append_cancel_right input other left known)

after_known : (before more : List ℕ) (old new : Option (List ℕ)) → old ≡ Some before → Appends old new more → new ≡ Some (before ++ more)
after_known before more old None was a = absurd (subst (λ (o : Option (List ℕ)). Appends o None more) was a)
after_known before more old (Some bytes) was a =
    let known : bytes ≡ before ++ more = subst (λ (o : Option (List ℕ)). Appends o (Some bytes) more) was a in
    ap Some known

-- The parts of the exchanges at two consecutive times: those answered by the earlier time, at most one more, and the rest.
record IsParted (tally : Tally) (exchanges : List Exchange) (first a b : Frame) : Type 0 where
  done : List Exchange
  answered : Appends first.written a.written (flat_map text_of done)
  one : List Exchange
  single : length one ≤ 1
  rest : List Exchange
  parts : exchanges ≡ done ++ (one ++ rest)
  told : List Exchange
  with_it : (told ≡ done) ⊎ (told ≡ done ++ one)
  text : List ℕ
  more : List ℕ
  front : text ++ more ≡ flat_map text_of told
  written : Appends first.written b.written text
  kept : Always (HasSome tally (log_of (done ++ one)).accepted (log_of told).acknowledged) a.disk b.disk

parted : (tally : Tally) (exchanges : List Exchange) (first a b : Frame) → KeepsWhatIsTold tally exchanges first a b → IsParted tally exchanges first a b
parted tally exchanges first a b k =
    let left = drop k.replied exchanges in
    let next : take (k.replied + 1) exchanges ≡ take k.replied exchanges ++ take 1 left = take-add k.replied 1 exchanges in
    let texts = flat_map text_of (take k.told exchanges) in
    record {
      done = take k.replied exchanges;
      answered = k.answered;
      one = take 1 left;
      single = omega (arith, length-take 1 left);
      rest = drop 1 left;
      parts = sym (ap (λ (l : List Exchange). take k.replied exchanges ++ l) (take-append-drop 1 left) ∙ take-append-drop k.replied exchanges);
      told = take k.told exchanges;
      with_it = ⊎_elim
          (λ (is : k.told ≡ k.replied). inl (ap (λ (n : ℕ). take n exchanges) is))
          (λ (is : k.told ≡ k.replied + 1). inr (ap (λ (n : ℕ). take n exchanges) is ∙ next))
          k.one_more;
      text = take k.front texts;
      more = drop k.front texts;
      front = take-append-drop k.front texts;
      written = k.written;
      kept = subst (λ (l : List Exchange). Always (HasSome tally (log_of l).accepted (log_of (take k.told exchanges)).acknowledged) a.disk b.disk) next k.kept;
    }

module _ (tally : Tally) (before : Trail) (talk : Conversation) (exchanges : List Exchange) (promise : Headline tally before talk exchanges)
    (a b : Frame) (near : AreNext talk a b) where
  follows : KeepsWhatIsTold tally exchanges talk.first a b × AnswersBeforeReading exchanges talk.first a b
  follows =
      let P : Frame → Frame → Type 0 = λ x y. KeepsWhatIsTold tally exchanges talk.first x y × AnswersBeforeReading exchanges talk.first x y in
      next_by P talk.first talk.noted talk.last promise.order a b near.0 near.1 near.2

  tells : IsParted tally exchanges talk.first a b
  tells = parted tally exchanges talk.first a b follows.0

  -- The exchanges that are told, and those after them.
  others_of : (k : IsParted tally exchanges talk.first a b) → (others : List Exchange) × (exchanges ≡ k.told ++ others)
  others_of k = ⊎_elim
      (λ (is : k.told ≡ k.done). (k.one ++ k.rest, k.parts ∙ ap (λ (l : List Exchange). l ++ (k.one ++ k.rest)) (sym is)))
      (λ (is : k.told ≡ k.done ++ k.one). (k.rest, k.parts ∙ sym (append_assoc k.done k.one k.rest) ∙ ap (λ (l : List Exchange). l ++ k.rest) (sym is)))
      k.with_it

  module _ (done rest : List Exchange) (is : exchanges ≡ done ++ rest) (known : List ℕ) where
    module _ (c : List ℕ) (was : talk.first.written ≡ Some known) (stop : StopsWithin a.disk b.disk c) (n : ℕ) where
      some : HasSome tally (log_of (tells.done ++ tells.one)).accepted (log_of tells.told).acknowledged c
      some =
          let P = HasSome tally (log_of (tells.done ++ tells.one)).accepted (log_of tells.told).acknowledged in
          always_at P a.disk b.disk c tells.kept stop

      all_parts : exchanges ≡ (tells.done ++ tells.one) ++ tells.rest
      all_parts = tells.parts ∙ sym (append_assoc tells.done tells.one tells.rest)

      -- No image lacks a command that the output acknowledges.
      pub none_early : b.written ≡ Some (known ++ flat_map text_of done)
          → n < (log_of done).acknowledged
          → n ≤ length (log_of done).accepted
          → HoldsAfter tally done n c
          → ⊥
      none_early written fewer within holds =
          let k = tells in
          let texts = flat_map text_of done in
          let told : k.text ≡ texts = appended known texts k.text talk.first.written b.written was written k.written in
          let others = others_of k in
          let logs = logs_more done k.told rest others.0 k.more (sym is ∙ others.1) (ap (λ (l : List ℕ). l ++ k.more) (sym told) ∙ k.front) in
          let equal = same_length tally before talk exchanges promise done rest (k.done ++ k.one) k.rest c n some.number in
          let same = equal is all_parts within some.within holds some.holds in
          omega (arith, same, fewer, some.at_least, logs.acknowledged)

      -- No image has two commands more than the output answers.
      pub none_unanswered : a.written ≡ Some (known ++ flat_map text_of done)
          → length (log_of done).accepted + 1 < n
          → n ≤ length (log_of exchanges).accepted
          → HoldsAfter tally exchanges n c
          → ⊥
      none_unanswered written more within holds =
          let k = tells in
          let texts = flat_map text_of done in
          let answered = flat_map text_of k.done in
          let told : answered ≡ texts = appended known texts answered talk.first.written a.written was written k.answered in
          let logs = logs_more k.done done (k.one ++ k.rest) rest [] (sym k.parts ∙ is) (append-nil answered ∙ told) in
          let equal = same_length tally before talk exchanges promise exchanges [] (k.done ++ k.one) k.rest c n some.number in
          let same = equal (sym (append-nil exchanges)) all_parts within some.within holds some.holds in
          omega (arith, same, more, some.within, logs.accepted, one_more k.done k.one k.single)

    -- Two prefixes of the exchanges are equal if they have the same lines.
    same_part : (xs A : List Exchange) → exchanges ≡ xs ++ A → map line_in_exchange xs ≡ map line_in_exchange done → xs ≡ done
    same_part xs A parts lines = ⊎_elim
        (λ (m : (zs : List Exchange) × (done ≡ xs ++ zs)). sym (no_longer xs done m.0 m.1 lines))
        (λ (m : (zs : List Exchange) × (xs ≡ done ++ zs)). no_longer done xs m.0 m.1 (sym lines))
        (two_parts xs done A rest (sym parts ∙ is))
      where
        no_longer : (ys all zs : List Exchange) → all ≡ ys ++ zs → map line_in_exchange ys ≡ map line_in_exchange all → all ≡ ys
        no_longer ys all zs goes same =
            let count : length zs ≡ 0
            = omega (arith, ap length same, length-map ys line_in_exchange, length-map all line_in_exchange, ap length goes, length-append ys zs) in
            goes ∙ ap (λ (l : List Exchange). ys ++ l) (nil_from_length zs count) ∙ append-nil ys

    -- No read comes before all lines that were read are answered.
    pub none_late : a.kind ≡ Asks → (input left : List ℕ) → talk.first.left ≡ Some (input ++ left) → a.left ≡ Some left
        → map line_in_exchange done ≡ map Some (ended_lines input)
        → talk.first.written ≡ Some known
        → a.written ≢ Some (known ++ flat_map text_of done)
        → ⊥
    none_late asks input left had has lines was other =
        let all = follows.1.reads asks in
        let front = take all.replied exchanges in
        let whole = sym (take-append-drop all.replied exchanges) in
        let read : all.input ≡ input = consumed input left all.input talk.first.left a.left had has all.read in
        let same_lines : map line_in_exchange front ≡ map line_in_exchange done
        = all.lines ∙ ap (λ (l : List ℕ). map Some (ended_lines l)) read ∙ sym lines in
        let same : front ≡ done = same_part front (drop all.replied exchanges) whole same_lines in
        let written = subst (λ (l : List Exchange). Appends talk.first.written a.written (flat_map text_of l)) same all.written in
        other (after_known known (flat_map text_of done) talk.first.written a.written was written)
