use Rattle.std.proofs.Common.{◌≡◌, List, ℕ, Err, refl, sym, subst, rules}
use Rattle.csv.specs.Records.{fields_of}
use Rattle.zh_office.specs.Judged.{BreaksOffLine}
use Rattle.std.specs.Io.KnownBytes.{Appends}
use Rattle.zh_csv.specs.Records.{names}
use Rattle.zh_office.proofs.RowLemmas.{names_missed, missed_line}
use Rattle.zh_office.proofs.judging.judge_first.Goals as goal

pub returns-in_err-write_finding-clause-front : goal.returns-in_err-write_finding-clause-front
returns-in_err-write_finding-clause-front g c =
    let other : fields_of c.args.csv_record.now ≡ names → ⊥ = λ same. search rules in
    let is : c.from_residual.result ≡ Err c.in_err-write_finding.field-0.0 = search rules in
    let fault = c.in_err-write_finding.field-0.0 in
    let w = g.W.Write.contents c.args.out.now in
    let w' = g.W.Write.contents c.write_finding.new.out in
    let line = sym (missed_line (fields_of c.args.csv_record.now) other) in
    rw is (subst (λ (t : List ℕ). BreaksOffLine fault w w' t) line c.in_err-write_finding.ensures.front)

pub returns-clause-counts : goal.returns-clause-counts
returns-clause-counts g c =
    let other : fields_of c.args.csv_record.now ≡ names → ⊥ = λ same. search rules in
    rw (names_missed (fields_of c.args.csv_record.now) other) refl

pub returns-clause-all : goal.returns-clause-all
returns-clause-all g c =
    let other : fields_of c.args.csv_record.now ≡ names → ⊥ = λ same. search rules in
    let w = g.W.Write.contents c.args.out.now in
    let w' = g.W.Write.contents c.write_finding.new.out in
    let line = sym (missed_line (fields_of c.args.csv_record.now) other) in
    subst (λ (t : List ℕ). Appends w w' t) line c.in_ok-write_finding.ensures.all
