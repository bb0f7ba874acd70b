-- A forecast, and the answer to a loading.
use Rattle.std.specs.Prelude.{◌≡◌, nat_lt, Bool, true, false}
use Rattle.zh_commands.specs.declared.replies.Reply.{Reply}
use Rattle.zh_commands.specs.declared.replies.Reply.TheVariants as replies
use Rattle.zh_office.specs.declared.answer.Answer.TheVariants as answers
use Rattle.zh_office.specs.Undisturbed.{is_disturbed, is_memory}
use Rattle.zh_office.specs.declared.judgement.Forecast.{Forecast}

-- the replies to a loading, by whether it would refuse a record and whether it would store one
abbrev pub IsAnsweredWhere : Bool → Bool → Reply → Type 0
IsAnsweredWhere true stores (replies.Refused refusal) = Unit {0}
IsAnsweredWhere false true (replies.Stored accepted) = Unit {0}
IsAnsweredWhere false false replies.Same = Unit {0}
IsAnsweredWhere refuses stores reply = ⊥

-- the replies to a loading that has this forecast
abbrev pub IsAnswered : Forecast → Reply → Type 0
IsAnswered forecast reply = IsAnsweredWhere (nat_lt 0 forecast.refused) forecast.stores reply

-- the reply was not decided by the device, now or earlier, by numbers that are used up, or by refused memory
pub record IsByJudgement (reply : Reply) : Type 0 where
  pub calm : is_disturbed (answers.Reply reply) ≡ false
  pub memory : is_memory (answers.Reply reply) ≡ false
