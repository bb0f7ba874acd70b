-- Room for a command in the journal.
use Rattle.std.proofs.Common.{◌≡◌, ◌≤◌, ℕ, Bool, true, false, length, refl, ◌∙◌, ap, arith}
use Rattle.std.specs.Prelude.{if◌then◌else◌}
use Rattle.std.proofs.lemmas.Bool.{le-leb}
use Rattle.zh_journal.specs.Pages.{pages_of}
use Rattle.zh_returns.specs.Step.{step}
use Rattle.zh_returns.specs.declared.command.Command.{Command}
use Rattle.zh_returns.specs.declared.command.Format.TheVariants.{Two}
use Rattle.zh_returns.specs.Spelling.{command_spelling, IsSpeakable}
use Rattle.zh_returns.proofs.CallerLemmas.{short}
use Rattle.zh_snapshot.specs.Store.{longer, switched}
use Rattle.zh_ledger.specs.Ledger.{Ledger, pages_for, has_room, ready, stored}

-- a ledger that has room is ready
pub ready_already : (s : Ledger) (c : Command) → has_room s c ≡ true → ready s c ≡ s
ready_already s c room = ap (λ (b : Bool). record { tally = s.tally; store = if b then s.store else switched s.store; format = s.format }) room

-- a ledger without room is ready after a switch
pub ready_switched : (s : Ledger) (c : Command) → has_room s c ≡ false → ready s c ≡ record { tally = s.tally; store = switched s.store; format = s.format }
ready_switched s c none = ap (λ (b : Bool). record { tally = s.tally; store = if b then s.store else switched s.store; format = s.format }) none

-- an area without records has room for every command
few_pages : (n : ℕ) → n ≤ 11004 → pages_of n ≤ 1024
few_pages n few = omega (arith, few)

-- so a ledger that is ready has room
pub room_ready : (s : Ledger) (c : Command) → IsSpeakable Two c → has_room (ready s c) c ≡ true
room_ready s c speakable = by_room (has_room s c) refl
  where
    by_room : (b : Bool) → has_room s c ≡ b → has_room (ready s c) c ≡ true
    by_room true room = ap (λ (l : Ledger). has_room l c) (ready_already s c room) ∙ room
    by_room false none = ap (λ (l : Ledger). has_room l c) (ready_switched s c none) ∙ le-leb (pages_for c) 1024 (few_pages (length (command_spelling Two c)) (short Two c speakable))

-- a ledger that was made ready is ready
pub ready_once : (s : Ledger) (c : Command) → IsSpeakable Two c → ready (ready s c) c ≡ ready s c
ready_once s c speakable = ready_already (ready s c) c (room_ready s c speakable)

-- the ledger that is ready stores the same
pub stored_ready : (s : Ledger) (c : Command) → IsSpeakable Two c → stored (ready s c) c ≡ stored s c
stored_ready s c speakable = ap (λ (l : Ledger). record { tally = step s.tally c; store = longer l.store (length (command_spelling Two c)); format = l.format }) (ready_once s c speakable)
