-- What the promise excludes. Every accepted command was judged acceptable in its turn, so a count determines after how many
-- commands it is: two prefixes of the accepted commands whose counts one image holds have the same length.
use Rattle.std.proofs.Common.{◌≡◌, ◌≢◌, ◌⊎◌, ◌<◌, ◌≤◌, ◌+◌, ◌-◌, ◌*◌, ℕ, zero, suc, List, [], ◌∷◌, ◌++◌, length, take, Option, Some, None}
use Rattle.std.proofs.Common.{inl, inr, ⊎_elim, refl, sym, ◌∙◌, ap, subst, arith, append_assoc, append-nil, length-take}
use Rattle.std.proofs.lemmas.List.{append_cancel_right, take_all}
use Rattle.std.proofs.Math.Nat.{mul-le-mul_right}
use Rattle.std.proofs.lemmas.Bool.{cases_lt}
use Rattle.std.specs.Prelude.{All}
use Rattle.std.proofs.lemmas.List.Elements.{All-tail}
use Rattle.zh_disk.specs.Disk.{IsImage, Moment, Trail}
use Rattle.zh_returns.specs.declared.command.Command.{Command}
use Rattle.zh_returns.specs.Judgement.{judge}
use Rattle.zh_returns.specs.Step.{after, changed, on_verdict, step}
use Rattle.zh_returns.specs.Tally.{Tally}
use Rattle.zh_returns.specs.declared.judgement.Verdict.{Verdict}
use Rattle.zh_returns.specs.declared.judgement.Verdict.TheVariants as verdicts
use Rattle.zh_divisors.specs.Rounding.{Rounds}
use Rattle.zh_commands.specs.declared.replies.Reply.TheVariants.{Refused, Stored}
use Rattle.zh_commands.specs.declared.replies.Refusal.TheVariants as refusals
use Rattle.zh_ledger.specs.Images.{HasSome}
use Rattle.zh_ledger.specs.Night.{StopsWithin}
use Rattle.zh_ledger.specs.Stands.{Holds}
use Rattle.zh_ledger.specs.Submissions.{Log}
use Rattle.zh_ledger.proofs.CallerLemmas.{one_count}
use Rattle.zh_office.specs.declared.answer.Answer.{Answer}
use Rattle.zh_office.specs.declared.answer.Answer.TheVariants as answers
use Rattle.zh_office.specs.Exchanges.{Exchange, count_by, disk_by, log_by, log_of}
use Rattle.zh_program.specs.Headline.{Headline}
use Rattle.zh_program.specs.Order.{Conversation}
use Rattle.zh_program.specs.Stopped.{Always}
use Rattle.zh_program.proofs.AlwaysLemmas.{AtMoment}
use Rattle.zh_program.proofs.EmptyLemmas.{now_first}
use Rattle.zh_office.proofs.CallerLemmas.{log_more}

-- Commands, each acceptable after the ones before it, are counted once each.
abbrev pub AreJudged : Tally → List Command → Type 0
AreJudged t [] = Unit {0}
AreJudged t (c ∷ cs) = (judge t c ≡ verdicts.Accept) × AreJudged (step t c) cs

pub judged_number : (t : Tally) (cs : List Command) → AreJudged t cs → (after t cs).accepted ≡ t.accepted + length cs
judged_number t [] judged = omega arith
judged_number t (c ∷ cs) judged =
    let one : (step t c).accepted ≡ t.accepted + 1 = ap (λ (v : Verdict). (on_verdict v (changed t c) t).accepted) judged.0 in
    let more = judged_number (step t c) cs judged.1 in
    omega arith

pub judged_take : (t : Tally) (n : ℕ) (cs : List Command) → AreJudged t cs → AreJudged t (take n cs)
judged_take t zero cs judged = tt
judged_take t (suc n) [] judged = tt
judged_take t (suc n) (c ∷ cs) judged = (judged.0, judged_take (step t c) n cs judged.1)

judged_more : (t : Tally) (cs : List Command) (c : Command) → AreJudged t cs → judge (after t cs) c ≡ verdicts.Accept → AreJudged t (cs ++ c ∷ [])
judged_more t [] c judged is = (is, tt)
judged_more t (d ∷ cs) c judged is = (judged.0, judged_more (step t d) cs c judged.1 is)

on_verdict_canton : (v : Verdict) (new old : Tally) → new.canton ≡ old.canton → (on_verdict v new old).canton ≡ old.canton
on_verdict_canton verdicts.Accept new old same = same
on_verdict_canton verdicts.Same new old same = refl
on_verdict_canton (verdicts.Refused w) new old same = refl

pub after_canton : (t : Tally) (cs : List Command) → (after t cs).canton ≡ t.canton
after_canton t [] = refl
after_canton t (c ∷ cs) = after_canton (step t c) cs ∙ on_verdict_canton (judge t c) (changed t c) t refl

-- An exchange adds at most one command.
pub one_at_most : (command : Option Command) (answer : Answer)
    → ((log_by command answer).accepted ≡ []) ⊎ ((c : Command) × ((log_by command answer).accepted ≡ c ∷ []))
one_at_most None answer = inl refl
one_at_most (Some c) (answers.Reply (Stored number)) = inr (c, refl)
one_at_most (Some c) (answers.Reply (Refused refusals.Device)) = inr (c, refl)
one_at_most (Some c) answer = inl refl

-- Two counts of one set-up that one image holds are equal.
pub same_held : (c : List ℕ) (t u : Tally) → Holds t c → Holds u c → t.canton ≡ u.canton → t ≡ u
same_held c t u one other own =
    (one_count c one.content other.content one.end other.end one.format other.format t u one.clean.framed other.clean.framed one.stands other.stands own).1

-- What holds at each moment holds wherever a stop comes.
all_back : {X : Type 0} (P : X → Type 0) (xs ys : List X) → All P (xs ++ ys) → All P ys
all_back P [] ys all = all
all_back P (x ∷ xs) ys all = all_back P xs ys (All-tail P x (xs ++ ys) all)

pub always_at : (P : List ℕ → Type 0) (old new : Trail) (c : List ℕ) → Always P old new → StopsWithin old new c → P c
always_at P old new c always stop =
    let later = stop.due.0 in
    let before = stop.begun.0 in
    let earlier = old.now ∷ old.past in
    let run : later ++ (before ++ earlier) ≡ always.between ++ earlier
    = ap (λ (l : List Moment). later ++ l) (sym stop.begun.1) ∙ sym stop.due.1 ∙ always.run in
    let parts : later ++ before ≡ always.between
    = append_cancel_right (later ++ before) always.between earlier (append_assoc later before earlier ∙ run) in
    let each : All (AtMoment P) ((later ++ before) ++ old.now ∷ [])
    = subst (λ (l : List Moment). All (AtMoment P) (l ++ old.now ∷ [])) (sym parts) always.each in
    let from : All (AtMoment P) (before ++ old.now ∷ [])
    = all_back (AtMoment P) later (before ++ old.now ∷ []) (subst (All (AtMoment P)) (append_assoc later before (old.now ∷ [])) each) in
    now_first P old stop.at before stop.begun.1 from c stop.image

-- An image holds the count after the first n commands that these exchanges accept.
abbrev pub HoldsAfter : Tally → List Exchange → ℕ → List ℕ → Type 0
HoldsAfter tally xs n c = Holds (after tally (take n (log_of xs).accepted)) c

module _ (tally : Tally) (before : Trail) (talk : Conversation) (exchanges : List Exchange) (promise : Headline tally before talk exchanges) where
  -- If all commands that some exchanges accept were judged acceptable, so are those with one exchange more.
  judged_one : (done rest : List Exchange) (x : Exchange) → exchanges ≡ done ++ x ∷ rest
      → AreJudged tally (log_of done).accepted
      → AreJudged tally (log_of (done ++ x ∷ [])).accepted
  judged_one done rest x is judged =
      let accepted = (log_of done).accepted in
      let others = (log_by x.command x.answer).accepted in
      let both : AreJudged tally (accepted ++ others)
      = ⊎_elim
      (λ none. subst (λ (cs : List Command). AreJudged tally (accepted ++ cs)) (sym none) (subst (AreJudged tally) (sym (append-nil accepted)) judged))
      (λ one.
      let by = promise.accepted done rest x is one.0 one.1 in
      let count : count_by tally (log_of done) ≡ after tally accepted
      = ap (after tally) (take_all (log_of done).acknowledged accepted (omega (arith, by.1))) in
      let accept : judge (after tally accepted) one.0 ≡ verdicts.Accept = subst (λ (t : Tally). judge t one.0 ≡ verdicts.Accept) count by.0 in
      subst (λ (cs : List Command). AreJudged tally (accepted ++ cs)) (sym one.1) (judged_more tally accepted one.0 judged accept))
      (one_at_most x.command x.answer) in
      subst (λ (l : Log). AreJudged tally l.accepted) (sym (log_more done x)) both

  judged_from : (done xs rest : List Exchange) → exchanges ≡ done ++ (xs ++ rest)
      → AreJudged tally (log_of done).accepted
      → AreJudged tally (log_of (done ++ xs)).accepted
  judged_from done [] rest is judged = subst (λ (d : List Exchange). AreJudged tally (log_of d).accepted) (sym (append-nil done)) judged
  judged_from done (x ∷ xs) rest is judged =
      subst (λ (d : List Exchange). AreJudged tally (log_of d).accepted) (append_assoc done (x ∷ []) xs)
      (judged_from (done ++ x ∷ []) xs rest (is ∙ sym (append_assoc done (x ∷ []) (xs ++ rest))) (judged_one done (xs ++ rest) x is judged))

  pub all_judged : (done rest : List Exchange) → exchanges ≡ done ++ rest → AreJudged tally (log_of done).accepted
  all_judged done rest is = judged_from [] done rest is tt

  -- Two prefixes of the accepted commands have the same length if one image holds the counts after both.
  pub same_length : (done rest others more : List Exchange) (c : List ℕ) (m n : ℕ) → exchanges ≡ done ++ rest → exchanges ≡ others ++ more
      → m ≤ length (log_of done).accepted
      → n ≤ length (log_of others).accepted
      → HoldsAfter tally done m c
      → HoldsAfter tally others n c
      → m ≡ n
  same_length done rest others more c m n is are within within' holds holds' =
      let xs = (log_of done).accepted in
      let ys = (log_of others).accepted in
      let canton = after_canton tally (take m xs) ∙ sym (after_canton tally (take n ys)) in
      let same : after tally (take m xs) ≡ after tally (take n ys) = same_held c _ _ holds holds' canton in
      let one = judged_number tally (take m xs) (judged_take tally m xs (all_judged done rest is)) in
      let other = judged_number tally (take n ys) (judged_take tally n ys (all_judged others more are)) in
      omega (arith, within, within', length-take m xs, length-take n ys, one, other, ap (λ (t : Tally). t.accepted) same)

  -- No image without the last acknowledged command.
  pub none_lost : (done rest : List Exchange) (c : List ℕ) (n : ℕ) → exchanges ≡ done ++ rest
      → IsImage (disk_by talk.first.disk done).now c
      → n < (log_of done).acknowledged
      → n ≤ length (log_of done).accepted
      → HoldsAfter tally done n c
      → ⊥
  none_lost done rest c n is image fewer within holds =
      let some = promise.stopped_between done rest is c image in
      let same = same_length done rest done rest c n some.number is is within some.within holds some.holds in
      omega (arith, same, fewer, some.at_least)

  -- No image of a count other than that after a prefix of the commands accepted by then, with every command acknowledged
  -- before.
  pub none_other : (done rest : List Exchange) (x : Exchange) (c : List ℕ) (count : Tally) → exchanges ≡ done ++ x ∷ rest
      → StopsWithin (disk_by talk.first.disk done) x.disk c
      → Holds count c
      → count.canton ≡ tally.canton
      → ((n : ℕ) → (log_of done).acknowledged ≤ n → n ≤ length (log_of (done ++ x ∷ [])).accepted
      → count ≢ after tally (take n (log_of (done ++ x ∷ [])).accepted))
      → ⊥
  none_other done rest x c count is stop holds own other =
      let commands = (log_of (done ++ x ∷ [])).accepted in
      let least = (log_of done).acknowledged in
      let some = always_at (HasSome tally commands least) (disk_by talk.first.disk done) x.disk c (promise.stopped_within done rest x is) stop in
      let there = after tally (take some.number commands) in
      other some.number some.at_least some.within (same_held c count there holds some.holds (own ∙ sym (after_canton tally (take some.number commands))))

-- What rounds to a number does not lie on a signpost.
pub none_on_half : (n p s k : ℕ) → Rounds n p s → 2 * n ≡ (2 * k + 1) * p → ⊥
none_on_half n p s k rounds half = ⊎_elim
    (λ (less : k < s).
    let le : (2 * k + 1) * p ≤ (2 * s - 1) * p = mul-le-mul_right p (omega arith) in
    omega (arith, le, half, rounds.above_lower (omega (arith, less))))
    (λ (more : s ≤ k).
    let le : (2 * s + 1) * p ≤ (2 * k + 1) * p = mul-le-mul_right p (omega arith) in
    omega (arith, le, half, rounds.below_upper))
    (cases_lt k s)

-- No verdict is both `Accept` and `Same`.
pub none_new : (verdict : Verdict) → verdict ≡ verdicts.Accept → verdict ≡ verdicts.Same → ⊥
none_new verdict accept same = let wrong : verdicts.Accept ≡ verdicts.Same = sym accept ∙ same in absurd cc
