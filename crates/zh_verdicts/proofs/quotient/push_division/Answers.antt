use Rattle.std.proofs.Common.{◌≡◌, ◌++◌, ℕ, List, codes, decimal}
use Rattle.zh_sheet_text.specs.SheetText.{divisor_text}
use Rattle.zh_verdicts.proofs.PutLemmas.{put_after, put_more}
use Rattle.zh_verdicts.proofs.quotient.push_division.Goals as goal

pub returns : goal.returns
returns c =
    let old : List ℕ = c.args.text.now.items in
    let with_votes : List ℕ = c.push_number.new.text.items in
    let with_over : List ℕ = c.extend_from_slice.new.self.items in
    let with_row : List ℕ = c.push_divisor.new.text.items in
    let with_times : List ℕ = c.extend_from_slice-2.new.self.items in
    let with_column : List ℕ = c.push_divisor-2.new.text.items in
    let votes : List ℕ = decimal c.args.votes in
    let over : List ℕ = codes " / (" in
    let row : List ℕ = divisor_text c.args.row_divisor in
    let times : List ℕ = codes " x " in
    let column : List ℕ = divisor_text c.args.column_divisor in
    let one : with_over ≡ old ++ (votes ++ over) = put_more old with_votes with_over votes over c.in_ok-push_number.ensures c.in_ok-extend_from_slice.ensures.items in
    let two : with_row ≡ old ++ (votes ++ over ++ row) = put_more old with_over with_row (votes ++ over) row one c.in_ok-push_divisor.ensures in
    let three : with_times ≡ old ++ (votes ++ over ++ row ++ times) =
    put_more old with_row with_times (votes ++ over ++ row) times two c.in_ok-extend_from_slice-2.ensures.items in
    let four : with_column ≡ old ++ (votes ++ over ++ row ++ times ++ column) =
    put_more old with_times with_column (votes ++ over ++ row ++ times) column three c.in_ok-push_divisor-2.ensures in
    put_after c.extend_from_slice-3.result old with_column c.extend_from_slice-3.new.self.items (votes ++ over ++ row ++ times ++ column) (codes ")") four
    c.extend_from_slice-3.ensures.items
