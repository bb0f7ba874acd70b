-- An image represents only one count; and the counts after commands.
use Rattle.std.proofs.Common.{◌≡◌, ℕ, List, [], ◌∷◌, ◌++◌, map, refl, sym, ◌∙◌, subst}
use Rattle.std.specs.Prelude.{All}
use Rattle.std.proofs.lemmas.List.Elements.{All-head, All-tail}
use Rattle.zh_returns.specs.Judgement.{judge}
use Rattle.zh_returns.specs.Spelling.{command_spelling, IsSpeakable}
use Rattle.zh_returns.specs.Step.{step, after, changed, on_verdict}
use Rattle.zh_returns.specs.Tally.{Tally}
use Rattle.zh_returns.specs.declared.command.Command.{Command}
use Rattle.zh_returns.specs.declared.command.Format.{Format}
use Rattle.zh_returns.specs.declared.judgement.Verdict.{Verdict}
use Rattle.zh_returns.specs.declared.judgement.Verdict.TheVariants as verdicts
use Rattle.zh_returns.proofs.CallerLemmas.{tally_once, one_format, command_once}
use Rattle.zh_snapshot.specs.Image.{Content, IsFramed}
use Rattle.zh_snapshot.proofs.CallerLemmas.{framed_alike}
use Rattle.zh_ledger.specs.Ledger.{Ledger}
use Rattle.zh_ledger.specs.Stands.{Replays, StandsFor, Holds, HoldsLedger}

commands_once : (format : Format) (cs ds : List Command) → All (IsSpeakable format) cs → All (IsSpeakable format) ds → map (command_spelling format) cs ≡ map (command_spelling format) ds → cs ≡ ds
commands_once format [] [] all_c all_d same = refl
commands_once format [] (d ∷ ds) all_c all_d same = absurd (cc)
commands_once format (c ∷ cs) [] all_c all_d same = absurd (cc)
commands_once format (c ∷ cs) (d ∷ ds) all_c all_d same =
    let here : command_spelling format c ≡ command_spelling format d = cc in
    let there : map (command_spelling format) cs ≡ map (command_spelling format) ds = cc in
    let first = command_once format c d (All-head (IsSpeakable format) c cs all_c) (All-head (IsSpeakable format) d ds all_d) here in
    let others = commands_once format cs ds (All-tail (IsSpeakable format) c cs all_c) (All-tail (IsSpeakable format) d ds all_d) there in
    λ i. first i ∷ others i

-- a content has only one format
pub format_alike : (f g : Format) (x : Content) (t u : Tally) → StandsFor f x t → StandsFor g x u → f ≡ g
format_alike f g x t u one two = one_format f g one.start two.start (one.snapshot.spelling ∙ sym two.snapshot.spelling)

-- a content represents only one count of a set-up
pub stands_alike : (f g : Format) (x : Content) (t u : Tally) → t.canton ≡ u.canton → StandsFor f x t → StandsFor g x u → t ≡ u
stands_alike f g x t u canton one two =
    let start : one.start ≡ two.start = tally_once f g one.start two.start one.limits two.limits (one.canton ∙ canton ∙ sym two.canton) (one.snapshot.spelling ∙ sym two.snapshot.spelling) in
    let others : Replays f two.start x.records u = subst (λ (h : Format). Replays h two.start x.records u) (sym (format_alike f g x t u one two)) two.replays in
    let same = commands_once f one.replays.commands others.commands one.replays.speakable others.speakable (sym one.replays.spelled ∙ others.spelled) in
    one.replays.count ∙ (λ i. after (start i) (same i)) ∙ sym others.count

pub one_count : (bytes : List ℕ) (x y : Content) (j k : ℕ) (f g : Format) (t u : Tally) → IsFramed x j bytes → IsFramed y k bytes
    → StandsFor f x t → StandsFor g y u → t.canton ≡ u.canton → (f ≡ g) × (t ≡ u)
one_count bytes x y j k f g t u framed framed' one two canton =
    let here : StandsFor f y t = subst (λ (z : Content). StandsFor f z t) (framed_alike x y j k bytes framed framed').0 one in
    (format_alike f g y t u here two, stands_alike f g y t u canton here two)

-- an image that the ledger knows holds its count
pub holds_kept : (s : Ledger) (c : List ℕ) → HoldsLedger s c → Holds s.tally c
holds_kept s c kept = record { content = kept.content; end = kept.end; format = s.format; clean = kept.clean; stands = kept.stands }

on_verdict_canton : (v : Verdict) (new old : Tally) → new.canton ≡ old.canton → (on_verdict v new old).canton ≡ old.canton
on_verdict_canton verdicts.Accept new old same = same
on_verdict_canton verdicts.Same new old same = refl
on_verdict_canton (verdicts.Refused w) new old same = refl

pub after_canton : (t : Tally) (cs : List Command) → (after t cs).canton ≡ t.canton
after_canton t [] = refl
after_canton t (c ∷ cs) = after_canton (step t c) cs ∙ on_verdict_canton (judge t c) (changed t c) t refl

pub after-append : (t : Tally) (cs ds : List Command) → after t (cs ++ ds) ≡ after (after t cs) ds
after-append t [] ds = refl
after-append t (c ∷ cs) ds = after-append (step t c) cs ds
