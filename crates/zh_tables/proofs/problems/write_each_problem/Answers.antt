use Rattle.std.proofs.Common.{◌≡◌, ℕ, List, Bool, Option, codes, rules, subst}
use Rattle.csv.specs.declared.writer.Writer.{Writer}
use Rattle.zh_districts.specs.Canton.{Canton}
use Rattle.zh_record_text.specs.Records.{PutsText}
use Rattle.zh_record_text.proofs.CallerLemmas.{Puts-join}
use Rattle.zh_tables.specs.Tables.{marked_rows}
use Rattle.zh_tables.proofs.problems.write_each_problem.Goals as goal

-- the rows under the name of the problem, with the marks of the set-up
marked : {W : Type 0} (contents : W → Option (List ℕ)) (canton : Canton) (name text : List ℕ) (marks items : List Bool) (a b : Writer W) → name ≡ text → marks ≡ items
    → PutsText contents (marked_rows canton name marks) a b → PutsText contents (marked_rows canton text items) a b
marked contents canton name text marks items a b named same puts =
    subst (λ (m : List Bool). PutsText contents (marked_rows canton text m) a b) same (subst (λ (t : List ℕ). PutsText contents (marked_rows canton t marks) a b) named puts)

pub returns : goal.returns
returns g c =
    let put = g.W.Write.contents in
    let canton = c.args.setup.now in
    let problems = c.args.problems.now in
    let old = c.args.writer.now in
    let one = c.write_marked.new.writer in
    let two = c.write_marked-2.new.writer in
    let three = c.write_marked-3.new.writer in
    let four = c.write_marked-4.new.writer in
    let a : c.as_slice-no_municipality.result.now ≡ codes "no municipality" = search rules in
    let b : c.as_slice.result.now ≡ codes "no list" = search rules in
    let d : c.as_slice-2.result.now ≡ codes "no seat" = search rules in
    let e : c.as_slice-3.result.now ≡ codes "tied seats" = search rules in
    let first = marked put canton _ (codes "no municipality") _ problems.no_municipality.items old one a c.deref.ensures.value c.in_ok-write_marked.ensures in
    let second = marked put canton _ (codes "no list") _ problems.no_list.items one two b c.deref-2.ensures.value c.in_ok-write_marked-2.ensures in
    let third = marked put canton _ (codes "no seat") _ problems.no_seat.items two three d c.deref-3.ensures.value c.in_ok-write_marked-3.ensures in
    let last = marked put canton _ (codes "tied seats") _ problems.tied_seats.items three four e c.deref-4.ensures.value c.in_ok-write_marked-4.ensures in
    Puts-join put _ _ old three four (Puts-join put _ _ old two three (Puts-join put _ _ old one two first second) third) last
