-- The text of the votes so far, from the text of its table.
use Rattle.std.proofs.Common.{List, ℕ, ◌++◌, Result, IfOk, Option, refl}
use Rattle.std.proofs.lemmas.Result.{IfOk-weaker}
use Rattle.std.specs.Io.KnownBytes.{Appends}
use Rattle.zh_record_text.specs.Records.{record_text}
use Rattle.zh_returns.specs.Tally.{Tally}
use Rattle.zh_count_tables.specs.Votes.{AreVotesOf, IsVotesText, votes_columns}
use Rattle.zh_count_tables.specs.declared.votes.VotesOf.{VotesOf}

pub votes_text : {W E : Type 0} (contents : W → Option (List ℕ)) (writer : W) (tally : Tally) (of : VotesOf) (rows : List ℕ) (result : Result W E) → AreVotesOf tally of rows
    → IfOk result (λ after. Appends (contents writer) (contents after) (record_text (votes_columns of) ++ rows))
    → IfOk result (λ after. (text : List ℕ) × IsVotesText tally of text × Appends (contents writer) (contents after) text)
votes_text contents writer tally of rows result are written =
    IfOk-weaker result _ _ (λ after appends. (record_text (votes_columns of) ++ rows, (rows, are, refl), appends)) written
