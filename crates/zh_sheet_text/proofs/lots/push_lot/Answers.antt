use Rattle.std.proofs.Common.{◌≡◌, ℕ, ◌++◌, ◌∙◌, List, ap, append_assoc, codes, length}
use Rattle.zh_text.specs.Each.{each_to}
use Rattle.zh_sheet_text.specs.Lots.{tied_constituency_line, tied_group_line, list_lines}
use Rattle.zh_sheet_text.specs.declared.lots.Listed.TheVariants.{Differing, Same}
use Rattle.zh_sheet_text.proofs.TextLemmas.{put_last}
use Rattle.zh_sheet_text.proofs.lots.push_lot.Goals as goal

pub returns-in_ok-extend_from_slice-in-Constituencies : goal.returns-in_ok-extend_from_slice-in-Constituencies
returns-in_ok-extend_from_slice-in-Constituencies c =
    let words : List ℕ = codes "the lot decides between distributions that differ in these constituencies" in
    let text : c.extend_from_slice.new.self.items ≡ c.args.out.now.items ++ words = c.in_ok-extend_from_slice-in-Constituencies.ensures.items in
    rw c.in-Constituencies.is
    (put_last c.push_constituencies.result c.args.out.now.items c.extend_from_slice.new.self.items c.push_constituencies.new.out.items words
    (each_to (length c.args.setup.now.constituencies) (tied_constituency_line c.args.setup.now c.in-Constituencies.marks.items)) text
    (rw c.deref.ensures.value at c.push_constituencies.ensures))

pub returns-in_ok-extend_from_slice-in-Groups : goal.returns-in_ok-extend_from_slice-in-Groups
returns-in_ok-extend_from_slice-in-Groups c =
    let words : List ℕ = codes "the lot decides between distributions that differ in these groups" in
    let text : c.extend_from_slice-in-Groups.new.self.items ≡ c.args.out.now.items ++ words = c.in_ok-extend_from_slice-in-Groups.ensures.items in
    rw c.in-Groups.is
    (put_last c.push_groups.result c.args.out.now.items c.extend_from_slice-in-Groups.new.self.items c.push_groups.new.out.items words
    (each_to (length c.args.setup.now.groups) (tied_group_line c.args.setup.now c.in-Groups.ranges)) text c.push_groups.ensures)

pub returns-in_ok-extend_from_slice-in-Lists-2 : goal.returns-in_ok-extend_from_slice-in-Lists-2
returns-in_ok-extend_from_slice-in-Lists-2 c =
    let out : List ℕ = c.args.out.now.items in
    let words : List ℕ = codes "the lot decides between distributions that differ in these lists" in
    let others : List ℕ = codes "\nall other lists have the same seats in each" in
    let differing : List ℕ = list_lines c.args.setup.now Differing c.in-Lists.lists in
    let one : c.extend_from_slice-in-Lists.new.self.items ≡ out ++ words = c.in_ok-extend_from_slice-in-Lists.ensures.items in
    let two : c.push_lists.new.out.items ≡ out ++ (words ++ differing)
    = c.in_ok-push_lists-in-Lists.ensures ∙ ap (λ (l : List ℕ). l ++ differing) one ∙ append_assoc out words differing in
    let more : c.extend_from_slice-in-Lists-2.new.self.items ≡ c.push_lists.new.out.items ++ others
    = c.in_ok-extend_from_slice-in-Lists-2.ensures.items in
    let three : c.extend_from_slice-in-Lists-2.new.self.items ≡ out ++ (words ++ differing ++ others)
    = more ∙ ap (λ (l : List ℕ). l ++ others) two ∙ append_assoc out (words ++ differing) others in
    rw c.in-Lists.is
    (put_last c.push_lists-in-Lists.result out c.extend_from_slice-in-Lists-2.new.self.items c.push_lists-in-Lists.new.out.items (words ++ differing ++ others)
    (list_lines c.args.setup.now Same c.in-Lists.lists) three c.push_lists-in-Lists.ensures)
