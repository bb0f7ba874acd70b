use Rattle.std.proofs.Common.{rules, sym, ◌≡◌, ◌++◌, ◌∷◌, [], Err, true, false, map, arith}
use Rattle.csv.specs.Records.{fields_of}
use Rattle.std.proofs.lemmas.List.{length_push}
use Rattle.zh_csv.specs.Records.{names}
use Rattle.zh_csv.proofs.ReadingLemmas.{given_more, refused_here}
use Rattle.zh_csv.proofs.RecordsLemmas.{are_first}
use Rattle.zh_csv.proofs.row_reader.take_rows.Goals as goal

pub returns-then-not-branch : goal.returns-then-not-branch
returns-then-not-branch g c canton holds =
    let (rows, holds', count, read) = c.loop-rows.invariant.taken canton holds in
    let gone : c.in_ok-next_record.field-0 ≡ false = search rules in
    (rows, holds', sym count, λ text has. rw (c.in_ok-next_record.was, gone) at (c.next_record.ensures text (names ∷ map (g.T.Takes.kind canton).fields rows) (read text has)))

pub returns-in_err-take : goal.returns-in_err-take
returns-in_err-take g c canton holds =
    let (rows, holds', count, read) = c.loop-rows.invariant.taken canton holds in
    let is : c.from_residual-in_err-take.result ≡ Err c.in_err-take.field-0.0 = search rules in
    let found : c.in_ok-next_record.field-0 ≡ true = search rules in
    let (held, why) = rw c.in_err-take.was at (c.take.ensures canton rows holds') in
    rw is (λ text has.
    let next = rw (c.in_ok-next_record.was, found) at (c.next_record.ensures text (names ∷ map (g.T.Takes.kind canton).fields rows) (read text has)) in
    refused_here (g.T.Takes.kind canton) text rows (fields_of c.next_record.new.csv_record) c.in_err-take.field-0.0 held (are_first g.R.Read.remaining text _ c.next_record.new.reader next) why)

pub loop-rows-preserved : goal.loop-rows-preserved
loop-rows-preserved g c = record {
  some =
      let (canton, rows, holds, count, few) = c.loop-rows.invariant.some in
      let (less, more) = rw c.in_ok-take.was at (c.take.ensures canton rows holds) in
      let (row, is, holds') = more in
      (canton, rows ++ row ∷ [], holds', omega (arith, length_push rows row, count), omega (arith, length_push rows row, less));
  taken = λ canton holds.
      let (rows, holds', count, read) = c.loop-rows.invariant.taken canton holds in
      let (less, more) = rw c.in_ok-take.was at (c.take.ensures canton rows holds') in
      let (row, is, holds'') = more in
      let found : c.in_ok-next_record.field-0 ≡ true = search rules in (
        rows ++ row ∷ [],
        holds'',
        omega (arith, length_push rows row, count),
        λ text has.
            let next = rw (c.in_ok-next_record.was, found) at (c.next_record.ensures text (names ∷ map (g.T.Takes.kind canton).fields rows) (read text has)) in
            given_more (g.T.Takes.kind canton) g.R.Read.remaining text rows (fields_of c.next_record.new.csv_record) row c.next_record.new.reader is next,
      );
}

pub unreachable-requires : goal.unreachable-requires
unreachable-requires g c =
    let (canton, rows, holds, count, few) = c.loop-rows.invariant.some in
    omega (arith, count, few, c.loop-rows-test.false)

pub take-requires : goal.take-requires
take-requires g c =
    let (canton, rows, holds, count, few) = c.loop-rows.invariant.some in
    (canton, rows, holds)
