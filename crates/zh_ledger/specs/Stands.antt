-- Which count the content of a disk represents.
use Rattle.std.specs.Prelude.{◌≡◌, ◌<◌, ◌-◌, ◌^◌, ℕ, List, [], ◌∷◌, All, map}
use Rattle.zh_districts.specs.Spelling.{setup_spelling}
use Rattle.zh_returns.specs.Tally.{Tally}
use Rattle.zh_returns.specs.Limits.{IsTally}
use Rattle.zh_returns.specs.Judgement.{judge}
use Rattle.zh_returns.specs.Step.{step, after}
use Rattle.zh_returns.specs.Payload.{IsPayload}
use Rattle.zh_returns.specs.Spelling.{command_spelling, IsSpeakable}
use Rattle.zh_returns.specs.declared.command.Command.{Command}
use Rattle.zh_returns.specs.declared.command.Format.{Format}
use Rattle.zh_returns.specs.declared.judgement.Verdict.TheVariants.{Accept}
use Rattle.zh_snapshot.specs.Image.{Content, IsClean, IsFramed}
use Rattle.zh_snapshot.specs.Store.{Fits}
use Rattle.zh_ledger.specs.Ledger.{Ledger}

-- each of these commands is accepted in turn, with a number left for it
abbrev pub AreAccepted : Tally → List Command → Type 0
AreAccepted tally [] = Unit {0}
AreAccepted tally (command ∷ commands) =
    (judge tally command ≡ Accept) × ((tally.accepted < 2 ^ 64 - 1) × AreAccepted (step tally command) commands)

-- the records spell commands in this format that are accepted in turn, and that lead from the start to this count
pub record Replays (format : Format) (start : Tally) (records : List (List ℕ)) (tally : Tally) : Type 0 where
  pub commands : List Command
  pub speakable : All (IsSpeakable format) commands
  pub spelled : records ≡ map (command_spelling format) commands
  pub accepted : AreAccepted start commands
  pub count : tally ≡ after start commands

-- the set-up bytes are those of this count's set-up; the snapshot and the records are in this format, and the records lead from
-- the count of the snapshot to this one
pub record StandsFor (format : Format) (x : Content) (tally : Tally) : Type 0 where
  pub setup : x.setup ≡ setup_spelling tally.canton
  pub start : Tally
  pub canton : start.canton ≡ tally.canton
  pub limits : IsTally start
  pub snapshot : IsPayload format start x.snapshot
  pub replays : Replays format start x.records tally

-- these bytes are framed, with a content that represents this count
pub record HoldsFramed (tally : Tally) (bytes : List ℕ) : Type 0 where
  pub content : Content
  pub end : ℕ
  pub format : Format
  pub framed : IsFramed content end bytes
  pub stands : StandsFor format content tally

-- a clean image that represents this count
pub record Holds (tally : Tally) (c : List ℕ) : Type 0 where
  pub content : Content
  pub end : ℕ
  pub format : Format
  pub clean : IsClean content end c
  pub stands : StandsFor format content tally

-- a clean image that the ledger knows, and that represents the ledger's count
pub record HoldsLedger (s : Ledger) (c : List ℕ) : Type 0 where
  pub content : Content
  pub end : ℕ
  pub clean : IsClean content end c
  pub fits : Fits s.store content end c
  pub stands : StandsFor s.format content s.tally
