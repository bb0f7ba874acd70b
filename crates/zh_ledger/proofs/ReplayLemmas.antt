-- Which records lead from one count to another.
use Rattle.std.proofs.Common.{◌≡◌, ◌∙◌, ◌<◌, ◌-◌, ◌^◌, ℕ, List, [], ◌∷◌, map, arith, refl, sym, ap, subst, Option, Some, Bor}
use Rattle.std.specs.List.{All}
use Rattle.std.specs.Prelude.{IsNone, ◌↔◌}
use Rattle.std.specs.Option.{option_copied}
use Rattle.std.proofs.lemmas.List.Elements.{All-cons, All-nil, All-head, All-tail}
use Rattle.zh_journal.specs.Pages.{Frames}
use Rattle.zh_journal.proofs.CallerLemmas.{frames_room}
use Rattle.zh_returns.specs.Judgement.{judge}
use Rattle.zh_returns.specs.Spelling.{command_spelling, IsSpeakable}
use Rattle.zh_returns.specs.Step.{step, after}
use Rattle.zh_returns.specs.Tally.{Tally}
use Rattle.zh_returns.specs.declared.command.Command.{Command}
use Rattle.zh_returns.specs.declared.command.Format.{Format}
use Rattle.zh_returns.specs.declared.judgement.Verdict.TheVariants.{Accept}
use Rattle.zh_returns.proofs.CallerLemmas.{command_once}
use Rattle.zh_ledger.specs.Stands.{Replays, AreAccepted}

pub replays_none : {format : Format} (tally : Tally) → Replays format tally [] tally
replays_none {format} tally = record { commands = []; speakable = All-nil (IsSpeakable format); spelled = refl; accepted = tt; count = refl }

-- the record's command is accepted, with a number left for it
pub record IsNext (format : Format) (start : Tally) (r : List ℕ) (command : Command) : Type 0 where
  pub speakable : IsSpeakable format command
  pub spelled : command_spelling format command ≡ r
  pub accepted : judge start command ≡ Accept
  pub room : start.accepted < 2 ^ 64 - 1

pub replays_one : {format : Format} (start : Tally) (r : List ℕ) (command : Command) → IsNext format start r command → Replays format start (r ∷ []) (step start command)
replays_one {format} start r command next = record {
  commands = command ∷ [];
  speakable = All-cons (IsSpeakable format) command [] next.speakable (All-nil (IsSpeakable format));
  spelled = ap (λ (x : List ℕ). x ∷ []) (sym next.spelled);
  accepted = (next.accepted, (next.room, tt));
  count = refl;
}

-- the first record has a command that is accepted, and the others lead on from there
pub record Begins (format : Format) (start : Tally) (r : List ℕ) (rs : List (List ℕ)) (tally : Tally) : Type 0 where
  pub command : Command
  pub next : IsNext format start r command
  pub rest : Replays format (step start command) rs tally

pub replays_first : {format : Format} (start : Tally) (r : List ℕ) (rs : List (List ℕ)) (tally : Tally) → Replays format start (r ∷ rs) tally → Begins format start r rs tally
replays_first {format} start r rs tally replays = at replays.commands replays.speakable replays.spelled replays.accepted replays.count
  where
    at : (commands : List Command) → All (IsSpeakable format) commands → r ∷ rs ≡ map (command_spelling format) commands
        → AreAccepted start commands → tally ≡ after start commands → Begins format start r rs tally
    at [] speakable spelled accepted count = absurd (cc)
    at (command ∷ commands) speakable spelled accepted count = record {
      command = command;
      next = record { speakable = All-head (IsSpeakable format) command commands speakable; spelled = cc; accepted = accepted.0; room = accepted.1.0 };
      rest = record { commands = commands; speakable = All-tail (IsSpeakable format) command commands speakable; spelled = cc; accepted = accepted.1.1; count = count };
    }

replays_begun : {format : Format} (start : Tally) (r : List ℕ) (rs : List (List ℕ)) (tally : Tally) → Begins format start r rs tally → Replays format start (r ∷ rs) tally
replays_begun {format} start r rs tally begins = record {
  commands = begins.command ∷ begins.rest.commands;
  speakable = All-cons (IsSpeakable format) begins.command begins.rest.commands begins.next.speakable begins.rest.speakable;
  spelled = λ i. sym begins.next.spelled i ∷ begins.rest.spelled i;
  accepted = (begins.next.accepted, (begins.next.room, begins.rest.accepted));
  count = begins.rest.count;
}

-- without records, the count does not change
pub replays_still : {format : Format} (start tally : Tally) → Replays format start [] tally → tally ≡ start
replays_still {format} start tally replays = at replays.commands replays.spelled replays.count
  where
    at : (commands : List Command) → [] ≡ map (command_spelling format) commands → tally ≡ after start commands → tally ≡ start
    at [] spelled count = count
    at (command ∷ commands) spelled count = absurd (cc)

-- the count to which one record leads
landed : {format : Format} (start : Tally) (r : List ℕ) (mid : Tally) → Replays format start (r ∷ []) mid → (command : Command) × IsNext format start r command × (mid ≡ step start command)
landed {format} start r mid one =
    let begins = replays_first start r [] mid one in
    (begins.command, begins.next, replays_still _ mid begins.rest)

-- one record, and then others
pub replays_more : {format : Format} (start mid tally : Tally) (r : List ℕ) (rs : List (List ℕ)) → Replays format start (r ∷ []) mid → Replays format mid rs tally → Replays format start (r ∷ rs) tally
replays_more {format} start mid tally r rs one others =
    let there = landed start r mid one in
    replays_begun start r rs tally (record { command = there.0; next = there.1; rest = subst (λ (t : Tally). Replays format t rs tally) there.2 others })

-- a record leads to only one count
pub replays_less : {format : Format} (start mid tally : Tally) (r : List ℕ) (rs : List (List ℕ)) → Replays format start (r ∷ []) mid → Replays format start (r ∷ rs) tally → Replays format mid rs tally
replays_less {format} start mid tally r rs one all =
    let there = landed start r mid one in
    let begins = replays_first start r rs tally all in
    let same : begins.command ≡ there.0 = command_once format begins.command there.0 begins.next.speakable there.1.speakable (begins.next.spelled ∙ sym there.1.spelled) in
    subst (λ (t : Tally). Replays format t rs tally) (ap (step start) same ∙ sym there.2) begins.rest

-- the records from this page on are left; they lead from the current count to where all of the records lead from the start
pub record Remains (format : Format) (pages : List ℕ) (page end : ℕ) (start : Tally) (records : List (List ℕ)) (now : Tally) : Type 0 where
  pub rest : List (List ℕ)
  pub framed : Frames 0 pages page rest end
  pub leads : (tally : Tally) → Replays format now rest tally → Replays format start records tally
  pub led : (tally : Tally) → Replays format start records tally → Replays format now rest tally

-- at the last page nothing is left
pub remains_nothing : {format : Format} (pages : List ℕ) (page end : ℕ) (start : Tally) (records : List (List ℕ)) (now : Tally) → page ≡ end
    → Remains format pages page end start records now → Replays format start records now
remains_nothing {format} pages page end start records now last remains = at remains.rest remains.framed remains.leads
  where
    at : (rest : List (List ℕ)) → Frames 0 pages page rest end → ((tally : Tally) → Replays format now rest tally → Replays format start records tally) → Replays format start records now
    at [] framed leads = leads now (replays_none now)
    at (r ∷ rs) framed leads = absurd (omega (arith, frames_room 0 pages page end r rs framed))

-- before the last page, a record is left
pub record IsAhead (format : Format) (pages : List ℕ) (page end : ℕ) (start : Tally) (records : List (List ℕ)) (now : Tally) : Type 0 where
  pub first : List ℕ
  pub others : List (List ℕ)
  pub framed : Frames 0 pages page (first ∷ others) end
  pub leads : (tally : Tally) → Replays format now (first ∷ others) tally → Replays format start records tally
  pub led : (tally : Tally) → Replays format start records tally → Replays format now (first ∷ others) tally

pub remains_some : {format : Format} (pages : List ℕ) (page end : ℕ) (start : Tally) (records : List (List ℕ)) (now : Tally)
    → (page ≡ end → ⊥) → Remains format pages page end start records now → IsAhead format pages page end start records now
remains_some {format} pages page end start records now before remains = at remains.rest remains.framed remains.leads remains.led
  where
    at : (rest : List (List ℕ)) → Frames 0 pages page rest end
        → ((tally : Tally) → Replays format now rest tally → Replays format start records tally)
        → ((tally : Tally) → Replays format start records tally → Replays format now rest tally) → IsAhead format pages page end start records now
    at [] framed leads led = absurd (before framed)
    at (r ∷ rs) framed leads led = record { first = r; others = rs; framed = framed; leads = leads; led = led }

-- after the first of them is replayed, the others are left
pub remains_less : {format : Format} (pages : List ℕ) (page end : ℕ) (start : Tally) (records : List (List ℕ)) (now : Tally) (ahead : IsAhead format pages page end start records now)
    → (page' : ℕ) (next : Tally) → Frames 0 pages page' ahead.others end → Replays format now (ahead.first ∷ []) next → Remains format pages page' end start records next
remains_less {format} pages page end start records now ahead page' next framed one = record {
  rest = ahead.others;
  framed = framed;
  leads = λ tally replays. ahead.leads tally (replays_more now next tally ahead.first ahead.others one replays);
  led = λ tally replays. replays_less now next tally ahead.first ahead.others one (ahead.led tally replays);
}

-- if the first of them has no command that is accepted, the records lead nowhere
pub remains_stuck : {format : Format} (pages : List ℕ) (page end : ℕ) (start : Tally) (records : List (List ℕ)) (now : Tally) (ahead : IsAhead format pages page end start records now)
    → ((command : Command) → IsNext format now ahead.first command → ⊥) → (tally : Tally) → Replays format start records tally → ⊥
remains_stuck {format} pages page end start records now ahead none tally replays =
    let begins = replays_first now ahead.first ahead.others tally (ahead.led tally replays) in
    none begins.command begins.next

-- the same records, with other names for the pages and their end
frames_as : (pages pages' : List ℕ) (page end end' : ℕ) (records : List (List ℕ)) → pages' ≡ pages → end' ≡ end → Frames 0 pages page records end → Frames 0 pages' page records end'
frames_as pages pages' page end end' records same_pages same_end framed =
    subst (λ (p : List ℕ). Frames 0 p page records end') (sym same_pages) (subst (λ (e : ℕ). Frames 0 pages page records e) (sym same_end) framed)

no_none : (got : Option (Bor (List ℕ))) (payload : Bor (List ℕ)) → got ≡ Some payload → IsNone got → ⊥
no_none got payload is none = let here = subst (λ (o : Option (Bor (List ℕ))). IsNone o) is none in cc

-- what a reader returned is the first of the records that are left, and the others are left to it
pub remains_next : {format : Format} (pages pages' : List ℕ) (page page' end end' : ℕ) (start : Tally) (records : List (List ℕ)) (count : Tally) (got : Option (Bor (List ℕ))) (payload : Bor (List ℕ))
    → pages' ≡ pages → end' ≡ end → got ≡ Some payload
    → IsNone got ↔ (page ≡ end')
    → ((r : List ℕ) (rs : List (List ℕ)) → Frames 0 pages' page (r ∷ rs) end' → (option_copied got ≡ Some r) × Frames 0 pages' page' rs end')
    → Remains format pages page end start records count
    → (ahead : IsAhead format pages page end start records count) × (payload.now ≡ ahead.first) × Frames 0 pages page' ahead.others end
remains_next {format} pages pages' page page' end end' start records count got payload same_pages same_end some none first remains =
    let ahead = remains_some pages page end start records count (λ last. no_none got payload some (none.1 (last ∙ sym same_end))) remains in
    let here = first ahead.first ahead.others (frames_as pages pages' page end end' (ahead.first ∷ ahead.others) same_pages same_end ahead.framed) in
    let given : Some payload.now ≡ Some ahead.first = sym (ap option_copied some) ∙ here.0 in
    (ahead, cc, frames_as pages' pages page' end' end ahead.others (sym same_pages) (sym same_end) here.1)
