-- The replies to the desks as bytes: 32 is the space, 10 the end of a line.
use Rattle.std.specs.Prelude.{ℕ, ◌^◌, ◌<◌, List, [], ◌∷◌, ◌++◌, codes, decimal}
use Rattle.zh_returns.specs.declared.judgement.Reason.{Reason}
use Rattle.zh_returns.specs.declared.judgement.Reason.TheVariants as reasons
use Rattle.zh_returns.specs.RowFaults.{row_fault_name}
use Rattle.zh_sheet.specs.Refusals.{IsSheetRefusal, refusal_name}
use Rattle.zh_commands.specs.declared.replies.Reply.{Reply}
use Rattle.zh_commands.specs.declared.replies.Reply.TheVariants.{Stored, Same, Held, Dropped, Nothing}
use Rattle.zh_commands.specs.declared.replies.Reply.TheVariants.{Shows, ShowsWithdrawn, LastDesk, Refused}
use Rattle.zh_commands.specs.declared.replies.Refusal.{Refusal}
use Rattle.zh_commands.specs.declared.replies.Refusal.TheVariants as refusals

-- the name of a reason
abbrev pub reason_name : Reason → List ℕ
reason_name reasons.Municipality = codes "municipality"
reason_name reasons.List = codes "list"
reason_name reasons.Votes = codes "votes"
reason_name reasons.Closed = codes "closed"
reason_name reasons.Stale = codes "stale"
reason_name reasons.Gap = codes "gap"
reason_name reasons.Conflict = codes "conflict"
reason_name (reasons.NotClosed municipality) = codes "notclosed " ++ decimal municipality

-- the name of a refusal
abbrev pub name : Refusal → List ℕ
name refusals.Syntax = codes "syntax"
name refusals.Desk = codes "desk"
name (refusals.Judged reason) = reason_name reason
name (refusals.Row fault) = row_fault_name fault
name refusals.NoBatch = codes "nobatch"
name refusals.Memory = codes "memory"
name refusals.Device = codes "device"
name refusals.ReopenDisk = codes "reopen-disk"
name refusals.Spent = codes "spent"
name refusals.BatchOpen = codes "batchopen"
name refusals.Csv = codes "csv"
name (refusals.Sheet refusal) = refusal_name refusal

-- what a reply says after the desk
abbrev pub answer : Reply → List ℕ
answer (Stored accepted) = codes "stored " ++ decimal accepted
answer Same = codes "same"
answer (Held rows) = codes "held " ++ decimal rows
answer (Dropped rows) = codes "dropped " ++ decimal rows
answer Nothing = codes "none"
answer (Shows number votes) = codes "shows " ++ decimal number ++ 32 ∷ decimal votes
answer (ShowsWithdrawn number) = codes "shows " ++ decimal number ++ codes " withdrawn"
answer (LastDesk desk) = codes "last " ++ decimal desk
answer (Refused refusal) = codes "refused " ++ name refusal

-- the bytes of a reply: the desk, a space, the answer, the line end
abbrev pub reply_text : ℕ → Reply → List ℕ
reply_text desk reply = decimal desk ++ 32 ∷ answer reply ++ 10 ∷ []

-- the numbers in a refusal and, below, in a reply fit their types
abbrev pub IsRefusal : Refusal → Type 0
IsRefusal (refusals.Judged (reasons.NotClosed municipality)) = municipality < 2 ^ 32
IsRefusal (refusals.Sheet refusal) = IsSheetRefusal refusal
IsRefusal refusal = Unit {0}

abbrev pub IsReply : Reply → Type 0
IsReply (Stored accepted) = accepted < 2 ^ 64
IsReply (Held rows) = rows < 2 ^ 32
IsReply (Dropped rows) = rows < 2 ^ 32
IsReply (Shows number votes) = (number < 2 ^ 32) × (votes < 2 ^ 32)
IsReply (ShowsWithdrawn number) = number < 2 ^ 32
IsReply (LastDesk desk) = desk < 2 ^ 8
IsReply (Refused refusal) = IsRefusal refusal
IsReply Same = Unit {0}
IsReply Nothing = Unit {0}
