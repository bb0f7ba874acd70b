use Rattle.std.proofs.Common.{◌≡◌, ℕ, ◌++◌, ◌∙◌, List, ap, append_assoc, codes, decimal}
use Rattle.zh_count_tables.proofs.vote_cells.push_votes_title.Goals as goal

pub returns : goal.returns
returns c =
    let out : List ℕ = c.args.out.now.items in
    let words : List ℕ = codes "votes so far, " in
    let number : List ℕ = decimal c.args.accepted in
    let last : List ℕ = codes " commands\n" in
    let one : c.extend_from_slice.new.self.items ≡ out ++ words = c.in_ok-extend_from_slice.ensures.items in
    let two : c.push_number.new.text.items ≡ out ++ (words ++ number)
    = c.in_ok-push_number.ensures ∙ ap (λ (l : List ℕ). l ++ number) one ∙ append_assoc out words number in
    c.in_ok-extend_from_slice-2.ensures.items ∙ ap (λ (l : List ℕ). l ++ last) two ∙ append_assoc out (words ++ number) last
