use Rattle.std.proofs.Common.{◌≡◌, ◌++◌, ℕ, List, codes, decimal}
use Rattle.zh_verdicts.specs.Wrong.{sum_text}
use Rattle.zh_verdicts.proofs.PutLemmas.{put_after, put_more}
use Rattle.zh_verdicts.proofs.wrong_line.push_total.Goals as goal

pub returns : goal.returns
returns c =
    let old : List ℕ = c.args.text.now.items in
    let with_words : List ℕ = c.extend_from_slice.new.self.items in
    let with_total : List ℕ = c.push_number.new.text.items in
    let sum : List ℕ = sum_text c.args.off.now in
    let words : List ℕ = codes " seats, should be: " in
    let total : List ℕ = decimal c.args.off.now.total in
    let one : with_words ≡ old ++ (sum ++ words) = put_more old c.push_sum.new.text.items with_words sum words c.in_ok-push_sum.ensures c.in_ok-extend_from_slice.ensures.items in
    let two : with_total ≡ old ++ ((sum ++ words) ++ total) =
    put_more old with_words with_total (sum ++ words) total one c.in_ok-push_number.ensures in
    put_after c.extend_from_slice-2.result old with_total c.extend_from_slice-2.new.self.items ((sum ++ words) ++ total) (codes "\n") two c.extend_from_slice-2.ensures.items
