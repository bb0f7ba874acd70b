use Rattle.std.proofs.Common.{◌≡◌, ◌<◌, None, Some, length, get_or, arith, rules}
use Rattle.zh_returns.specs.declared.command.Format.TheVariants.{One, Two}
use Rattle.zh_returns.proofs.DecodingLemmas.{row_decodes, batch_decodes, withdrawal_decodes, withdrawal_refused, close_decodes, close_refused, reopen_decodes, reopen_refused, one_refused, two_refused}
use Rattle.zh_returns.proofs.command_bytes.decode_command.Goals.{in_default-via-in-One+then-bytes-lt1, in_default-via-in-One+else-bytes-lt1+in_default-1, in_default-via-in-Two+then-this-lt1, in_default-via-in-Two+else-this-lt1+then-this-lt2+in_default-1, in_default-via-in-Two+else-this-lt1+else-this-lt2+in-6+else-this-lt9, in_default-via-in-Two+else-this-lt1+else-this-lt2+in-7+else-this-lt9-2, in_default-via-in-Two+else-this-lt1+else-this-lt2+in-8+else-this-lt9-3, in_default-via-in-Two+else-this-lt1+else-this-lt2+in_default-1}
use Rattle.zh_returns.proofs.command_bytes.decode_command.Goals as goal

pub returns-in_err-read_withdrawal-in-One-eq2 : goal.returns-in_err-read_withdrawal-in-One-eq2
returns-in_err-read_withdrawal-in-One-eq2 c =
    let kind : get_or c.args.bytes.now 0 0 ≡ 2 = omega arith in
    rw (c.from_residual-in_err-read_withdrawal-in-One-eq2.ensures, c.in-One-eq2.is-0) (withdrawal_refused c.args.bytes.now kind c.in_err-read_withdrawal-in-One-eq2.ensures.refused)

pub returns-in_ok-read_withdrawal-in-One-eq2 : goal.returns-in_ok-read_withdrawal-in-One-eq2
returns-in_ok-read_withdrawal-in-One-eq2 c =
    let kind : get_or c.args.bytes.now 0 0 ≡ 2 = omega arith in
    let it = c.in_ok-read_withdrawal-in-One-eq2.field-0 in
    let read = c.in_ok-read_withdrawal-in-One-eq2.ensures.read in
    rw (c.by.ensures, c.in-One-eq2.is-0) (withdrawal_decodes c.args.bytes.now it.municipality it.list it.number kind read.0 read.1)

pub returns-in_err-read_row-in-Two-eq6 : goal.returns-in_err-read_row-in-Two-eq6
returns-in_err-read_row-in-Two-eq6 c =
    let kind : get_or c.args.bytes.now 0 0 ≡ 6 = omega arith in
    rw (c.from_residual-in_err-read_row-in-Two-eq6.ensures, c.in-Two-eq6.is-0)
    (row_decodes c.args.bytes.now None c.in-Two-eq6.len_at_least kind (omega arith) c.in_err-read_row-in-Two-eq6.ensures)

pub returns-in_ok-read_row-in-Two-eq6 : goal.returns-in_ok-read_row-in-Two-eq6
returns-in_ok-read_row-in-Two-eq6 c =
    let kind : get_or c.args.bytes.now 0 0 ≡ 6 = omega arith in
    rw c.in-Two-eq6.is-0
    (row_decodes c.args.bytes.now (Some c.in_ok-read_row-in-Two-eq6.field-0) c.in-Two-eq6.len_at_least kind (omega arith) c.in_ok-read_row-in-Two-eq6.ensures)

pub returns-in_err-read_batch-in-Two-eq8 : goal.returns-in_err-read_batch-in-Two-eq8
returns-in_err-read_batch-in-Two-eq8 c =
    let kind : get_or c.args.bytes.now 0 0 ≡ 8 = omega arith in
    rw (c.from_residual-in_err-read_batch-in-Two-eq8.ensures, c.in-Two-eq8.is-0)
    (batch_decodes c.args.bytes.now None c.in-Two-eq8.len_at_least kind (omega arith) c.in_err-read_batch-in-Two-eq8.ensures)

pub returns-in_ok-read_batch-in-Two-eq8 : goal.returns-in_ok-read_batch-in-Two-eq8
returns-in_ok-read_batch-in-Two-eq8 c =
    let kind : get_or c.args.bytes.now 0 0 ≡ 8 = omega arith in
    rw c.in-Two-eq8.is-0
    (batch_decodes c.args.bytes.now (Some c.in_ok-read_batch-in-Two-eq8.field-0) c.in-Two-eq8.len_at_least kind (omega arith) c.in_ok-read_batch-in-Two-eq8.ensures)

pub returns-in_err-read_short-in_default-eq3 : goal.returns-in_err-read_short-in_default-eq3
returns-in_err-read_short-in_default-eq3 c =
    let kind : get_or c.args.bytes.now 0 0 ≡ 3 = search rules in
    rw c.from_residual-in_err-read_short-in_default-eq3.ensures (close_refused c.args.bytes.now c.args.format kind c.in_err-read_short-in_default-eq3.ensures.refused)

pub returns-in_ok-read_short-in_default-eq3 : goal.returns-in_ok-read_short-in_default-eq3
returns-in_ok-read_short-in_default-eq3 c =
    let kind : get_or c.args.bytes.now 0 0 ≡ 3 = search rules in
    let read = c.in_ok-read_short-in_default-eq3.ensures.read in
    close_decodes c.args.bytes.now c.args.format c.in_ok-read_short-in_default-eq3.field-0 kind read.0 read.1

pub returns-in_err-read_short-in_default-eq4 : goal.returns-in_err-read_short-in_default-eq4
returns-in_err-read_short-in_default-eq4 c =
    let kind : get_or c.args.bytes.now 0 0 ≡ 4 = search rules in
    rw c.from_residual-in_err-read_short-in_default-eq4.ensures (reopen_refused c.args.bytes.now c.args.format kind c.in_err-read_short-in_default-eq4.ensures.refused)

pub returns-in_ok-read_short-in_default-eq4 : goal.returns-in_ok-read_short-in_default-eq4
returns-in_ok-read_short-in_default-eq4 c =
    let kind : get_or c.args.bytes.now 0 0 ≡ 4 = search rules in
    let read = c.in_ok-read_short-in_default-eq4.ensures.read in
    reopen_decodes c.args.bytes.now c.args.format c.in_ok-read_short-in_default-eq4.field-0 kind read.0 read.1

pub returns-in_default : goal.returns-in_default
returns-in_default c =
    let bytes = c.args.bytes.now in
    elim c.in_default.branch [
      | in_default-via-in-One+then-bytes-lt1 w ↦
          let format : c.args.format ≡ One = search rules in
          let short : length bytes < 1 = search rules in
          rw format (one_refused bytes (λ some. absurd (omega arith)))
      | in_default-via-in-One+else-bytes-lt1+in_default-1 w ↦
          let format : c.args.format ≡ One = search rules in
          rw format (one_refused bytes (λ some low. omega arith))
      | in_default-via-in-Two+then-this-lt1 w ↦
          let format : c.args.format ≡ Two = search rules in
          let short : length bytes < 1 = search rules in
          rw format (two_refused bytes (λ some. absurd (omega arith)) (λ long. absurd (omega arith)))
      | in_default-via-in-Two+else-this-lt1+then-this-lt2+in_default-1 w ↦
          let format : c.args.format ≡ Two = search rules in
          let short : length bytes < 2 = search rules in
          rw format (two_refused bytes (λ some. (λ is. omega arith, λ is. omega arith)) (λ long. absurd (omega arith)))
      | in_default-via-in-Two+else-this-lt1+else-this-lt2+in-6+else-this-lt9 w ↦
          let format : c.args.format ≡ Two = search rules in
          rw format (two_refused bytes (λ some. (λ is. omega arith, λ is. omega arith)) (λ long desk. absurd (omega arith)))
      | in_default-via-in-Two+else-this-lt1+else-this-lt2+in-7+else-this-lt9-2 w ↦
          let format : c.args.format ≡ Two = search rules in
          rw format (two_refused bytes (λ some. (λ is. omega arith, λ is. omega arith)) (λ long desk. absurd (omega arith)))
      | in_default-via-in-Two+else-this-lt1+else-this-lt2+in-8+else-this-lt9-3 w ↦
          let format : c.args.format ≡ Two = search rules in
          rw format (two_refused bytes (λ some. (λ is. omega arith, λ is. omega arith)) (λ long desk. absurd (omega arith)))
      | in_default-via-in-Two+else-this-lt1+else-this-lt2+in_default-1 w ↦
          let format : c.args.format ≡ Two = search rules in
          rw format (two_refused bytes (λ some. (λ is. omega arith, λ is. omega arith)) (λ long desk kind. omega arith))
    ]
