use Rattle.std.proofs.Common.{◌/◌, length, sym, subst, refl, arith}
use Rattle.std.specs.Prelude.{All}
use Rattle.std.proofs.lemmas.List.{take_all}
use Rattle.std.proofs.lemmas.List.Elements.{All-get_or, All-more}
use Rattle.zh_returns.specs.RowBytes.{rows_in}
use Rattle.zh_returns.specs.Rows.{IsSpeakableRow}
use Rattle.zh_returns.proofs.RowBytesLemmas.{length-rows_from, row_read_at}
use Rattle.zh_returns.proofs.row_checks.are_numbered.Goals as goal

pub returns-then-row_of-eq0 : goal.returns-then-row_of-eq0
returns-then-row_of-eq0 c =
    let bytes = c.args.bytes.now in
    let i = c.loop-i.i in
    let row = c.row_of.result in
    let count = length-rows_from (length bytes / 11) bytes in (
      (λ no. absurd (cc)),
      λ all.
          let here : IsSpeakableRow row = subst IsSpeakableRow (row_read_at bytes i row row (omega arith) c.row_of.ensures.row) (All-get_or IsSpeakableRow (rows_in bytes) i row (omega arith) all) in
          absurd (omega (arith, here.number.0)),
    )

pub loop-i-preserved : goal.loop-i-preserved
loop-i-preserved c =
    let bytes = c.args.bytes.now in
    let i = c.loop-i.i in
    let row = c.row_of.result in
    let count = length-rows_from (length bytes / 11) bytes in
    let here : IsSpeakableRow row = record { municipality = c.row_of.ensures.fits.0; list = c.row_of.ensures.fits.1; number = (omega arith, omega arith); votes = omega arith } in
    All-more IsSpeakableRow (rows_in bytes) i row (omega arith) c.loop-i.invariant (subst IsSpeakableRow (sym (row_read_at bytes i row row (omega arith) c.row_of.ensures.row)) here)

pub returns : goal.returns
returns c =
    let bytes = c.args.bytes.now in
    let count = length-rows_from (length bytes / 11) bytes in
    let all : All IsSpeakableRow (rows_in bytes) = subst (All IsSpeakableRow) (take_all c.loop-i.i (rows_in bytes) (omega arith)) c.loop-i.invariant in (
      (λ _. all),
      λ _. refl,
    )
